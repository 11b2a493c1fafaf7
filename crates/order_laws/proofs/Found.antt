-- Which task is found under a path, and what a step makes.
use Rattle.std.specs.Prelude.{cond, map}
use Rattle.std.specs.List.{find}
use Rattle.std.specs.Option.{option_map}
use Rattle.std.proofs.Common.{◌≡◌, ℕ, zero, suc, ◌+◌, Bool, true, false, List, [], ◌∷◌, ◌++◌, Option, Some, None, refl, sym, ap, subst, ◌∙◌, arith}
use Rattle.std.proofs.lemmas.Bool.{true≢false}
use Rattle.ir_forms.specs.declared.names.MadeName.{MadeName}
use Rattle.ir_forms.specs.Names.{Path, launched_by, iteration_of, same_path}
use Rattle.one_end.specs.Runs as runs
use Rattle.one_end.proofs.Basics.{none≢some, some_inj, path_yes, path_same}
use Rattle.source_meaning.specs.declared.values.Val.TheVariants.{Number}
use Rattle.source_meaning.specs.Values.{bind}
use Rattle.source_meaning.specs.Parts.{uses_of}
use Rattle.source_meaning.specs.Rows.{variables}
use Rattle.source_meaning.specs.Tasks.{Program, Loop, Ask, Reads, Writes, Allocs, Creates, Adds, Launches, Enters, JoinsAll, AwaitsOne, AwaitsAll}
use Rattle.source_meaning.specs.World.{World, numbers_from}
use Rattle.source_meaning.specs.Sequential.{iteration}
use Rattle.source_meaning.specs.TaskOrder.{Live, newly, made_by, replaced, without}
use Rattle.end_laws.specs.ModuleProgram.{Begin, asked}
use Rattle.end_laws.specs.Unread.{LikeTask, LikeLoop, LikeAsk}
use Rattle.end_laws.specs.Unread as like
use Rattle.end_laws.proofs.Unread.{bound_like}
use Rattle.order_laws.proofs.Held.{OkVals, OkTask, OkAsk, ok_bound}
use Rattle.order_laws.proofs.Shared.{Buf, Grp}
use Rattle.order_laws.proofs.Acting.{clipped}

abbrev pub found : Path → List Live → Option Live
found q live = find (λ l. same_path l.path q) live

pub found_path : (q : Path) (live : List Live) (l : Live) → found q live ≡ Some l → l.path ≡ q
found_path q [] l e = absurd (none≢some l e)
found_path q (m ∷ live) l e = split (same_path m.path q) refl e (found_path q live l) where
  split : (t : Bool) → same_path m.path q ≡ t → cond t (Some m) (found q live) ≡ Some l → (found q live ≡ Some l → l.path ≡ q) → l.path ≡ q
  split true h k r = subst (λ (x : Live). x.path ≡ q) (some_inj m l k) (path_yes m.path q h)
  split false h k r = r k

pub found_append : (q : Path) (xs ys : List Live) → found q (xs ++ ys) ≡ runs.either (found q xs) (found q ys)
found_append q [] ys = refl
found_append q (x ∷ xs) ys = split (same_path x.path q) (found_append q xs ys) where
  split : (t : Bool) → found q (xs ++ ys) ≡ runs.either (found q xs) (found q ys) → cond t (Some x) (found q (xs ++ ys)) ≡ runs.either (cond t (Some x) (found q xs)) (found q ys)
  split true h = refl
  split false h = h

pub found_replaced : (l : Live) (live : List Live) (q : Path) → found q (replaced l live) ≡ cond (same_path l.path q) (option_map (λ x. l) (found q live)) (found q live)
found_replaced l [] q = split (same_path l.path q) where
  split : (t : Bool) → None ≡ cond t (option_map (λ (x : Live). l) None) None
  split true = refl
  split false = refl
found_replaced l (x ∷ live) q = split (same_path x.path l.path) refl (found_replaced l live q) where
  split : (t : Bool) → same_path x.path l.path ≡ t → found q (replaced l live) ≡ cond (same_path l.path q) (option_map (λ x. l) (found q live)) (found q live) →
      cond (same_path (cond t l x).path q) (Some (cond t l x)) (found q (replaced l live)) ≡ cond (same_path l.path q) (option_map (λ x. l) (cond (same_path x.path q) (Some x) (found q live))) (cond (same_path x.path q) (Some x) (found q live))
  split true e h = subst (λ r. cond (same_path l.path q) (Some l) (found q (replaced l live)) ≡ cond (same_path l.path q) (option_map (λ x. l) (cond (same_path r q) (Some x) (found q live))) (cond (same_path r q) (Some x) (found q live))) (sym (path_yes x.path l.path e)) (same (same_path l.path q) h) where
    same : (u : Bool) → found q (replaced l live) ≡ cond u (option_map (λ x. l) (found q live)) (found q live) → cond u (Some l) (found q (replaced l live)) ≡ cond u (option_map (λ x. l) (cond u (Some x) (found q live))) (cond u (Some x) (found q live))
    same true k = refl
    same false k = k
  split false e h = other (same_path x.path q) refl (same_path l.path q) refl h where
    other : (v : Bool) → same_path x.path q ≡ v → (u : Bool) → same_path l.path q ≡ u → found q (replaced l live) ≡ cond u (option_map (λ x. l) (found q live)) (found q live) →
        cond v (Some x) (found q (replaced l live)) ≡ cond u (option_map (λ x. l) (cond v (Some x) (found q live))) (cond v (Some x) (found q live))
    other false a u b k = k
    other true a false b k = refl
    other true a true b k = absurd (true≢false (sym (subst (λ r. same_path x.path r ≡ true) (sym (path_yes l.path q b)) a) ∙ e))

pub found_without : (p : Path) (live : List Live) (q : Path) → found q (without p live) ≡ cond (same_path p q) None (found q live)
found_without p [] q = split (same_path p q) where
  split : (t : Bool) → None ≡ cond {A = Option Live} t None None
  split true = refl
  split false = refl
found_without p (x ∷ live) q = split (same_path x.path p) refl (found_without p live q) where
  split : (t : Bool) → same_path x.path p ≡ t → found q (without p live) ≡ cond (same_path p q) None (found q live) → found q (cond t (without p live) (x ∷ without p live)) ≡ cond (same_path p q) None (cond (same_path x.path q) (Some x) (found q live))
  split true e h = h ∙ subst (λ r. cond (same_path p q) None (found q live) ≡ cond (same_path p q) None (cond (same_path r q) (Some x) (found q live))) (sym (path_yes x.path p e)) (same (same_path p q)) where
    same : (u : Bool) → cond u None (found q live) ≡ cond u None (cond u (Some x) (found q live))
    same true = refl
    same false = refl
  split false e h = other (same_path x.path q) refl (same_path p q) refl h where
    other : (v : Bool) → same_path x.path q ≡ v → (u : Bool) → same_path p q ≡ u → found q (without p live) ≡ cond u None (found q live) → cond v (Some x) (found q (without p live)) ≡ cond u None (cond v (Some x) (found q live))
    other false a u b k = k
    other true a false b k = refl
    other true a true b k = absurd (true≢false (sym (subst (λ r. same_path x.path r ≡ true) (sym (path_yes p q b)) a) ∙ e))

pub none_found : (live : List Live) → ((q : Path) → found q live ≡ None) → live ≡ []
none_found [] h = refl
none_found (x ∷ live) h = absurd (none≢some x (sym (h x.path) ∙ ap (λ t. cond t (Some x) (found x.path live)) (path_same x.path)))

-- ---- what a step makes

module _ (p : Program) (uses : p.uses ≡ map uses_of p.funcs) (w : World) where
  -- a task that begins, in both
  pub record Newborn (q : Path) (l : Live) (b : Begin) : Type 0 where
    pub named : l.path ≡ q
    pub path : b.path ≡ q
    pub taken : l.taken ≡ 0
    pub like : LikeTask p b.task l.task
    pub holds : OkTask p (Buf w) (Grp w) tt tt l.task

  abbrev pub MadeIs : Path → Option Live → Option Begin → Type 0
  MadeIs q None None = Unit {0}
  MadeIs q (Some l) (Some b) = Newborn q l b
  MadeIs q None (Some b) = ⊥
  MadeIs q (Some l) None = ⊥

  made_cond : (q r : Path) (l : Live) (b : Begin) (o : Option Live) (x : Option Begin) → (r ≡ q → Newborn q l b) → MadeIs q o x → MadeIs q (cond (same_path r q) (Some l) o) (cond (same_path r q) (Some b) x)
  made_cond q r l b o x f h = split (same_path r q) refl where
    split : (t : Bool) → same_path r q ≡ t → MadeIs q (cond t (Some l) o) (cond t (Some b) x)
    split true e = f (path_yes r q e)
    split false e = h

  iteration_like : (l m : Loop) (i : ℕ) → LikeLoop p l m → LikeTask p (iteration l i) (iteration m i)
  iteration_like l m i h =
      subst (λ xs. LikeTask p (iteration l i) (record { pending = []; rest = m.body; frames = []; scope = record m.scope { env = bind xs (map Number (variables m.spans i)) m.scope.env } })) (sym h.params)
      (subst (λ spans. LikeTask p (iteration l i) (record { pending = []; rest = m.body; frames = []; scope = record m.scope { env = bind l.params (map Number (variables spans i)) m.scope.env } })) (sym h.spans)
      (bound_like p uses l.params (map Number (variables l.spans i)) (record { pending = []; rest = l.body; frames = []; scope = l.scope }) (record { pending = []; rest = m.body; frames = []; scope = m.scope })
      (record { pending = like.done; rest = h.body; read = h.read; frames = like.end; scope = h.scope })))

  numbers_held : (ns : List ℕ) → OkVals p (Buf w) (Grp w) tt tt (map Number ns)
  numbers_held [] = tt
  numbers_held (n ∷ ns) = (tt, numbers_held ns)

  iterations_made : (q r : Path) (k : ℕ) (l m : Loop) → LikeLoop p l m → OkVals p (Buf w) (Grp w) tt tt m.scope.env → (i n : ℕ) →
      MadeIs q (found q (map (λ i. newly (iteration_of r k i) (iteration m i)) (numbers_from i n))) (runs.iteration_made r k q i (map (λ i. record { path = iteration_of r k i; task = iteration l i }) (numbers_from i n)))
  iterations_made q r k l m h v i zero = tt
  iterations_made q r k l m h v i (suc n) = made_cond q (iteration_of r k i) (newly (iteration_of r k i) (iteration m i)) (record { path = iteration_of r k i; task = iteration l i })
      (found q (map (λ i. newly (iteration_of r k i) (iteration m i)) (numbers_from (i + 1) n))) (runs.iteration_made r k q (suc i) (map (λ i. record { path = iteration_of r k i; task = iteration l i }) (numbers_from (i + 1) n)))
      (λ e. record { named = e; path = e; taken = refl; like = iteration_like l m i h; holds = ok_bound p (Buf w) (Grp w) tt tt m.params (map Number (variables m.spans i)) (record { pending = []; rest = m.body; frames = []; scope = m.scope }) (record { pending = tt; frames = tt; env = v }) (numbers_held (variables m.spans i)) })
      (subst (λ j. MadeIs q (found q (map (λ i. newly (iteration_of r k i) (iteration m i)) (numbers_from j n))) (runs.iteration_made r k q (suc i) (map (λ i. record { path = iteration_of r k i; task = iteration l i }) (numbers_from j n)))) (omega arith) (iterations_made q r k l m h v (suc i) n))

  pub made_is : (ext : MadeName → ℕ → Bool) (q r : Path) (k : ℕ) (a ask : Ask) → LikeAsk p a ask → OkAsk p (Buf w) (Grp w) tt tt ask → MadeIs q (found q (made_by r k ask)) (runs.made_by (clipped ext (asked r k a)) r k q)
  made_is ext q r k a ask (like.launches t u n m) ok = made_cond q (launched_by r k) (newly (launched_by r k) u) (record { path = launched_by r k; task = t }) None None (λ e. record { named = e; path = e; taken = refl; like = m; holds = ok }) tt
  made_is ext q r k a ask (like.enters l m h) ok = subst (λ n. MadeIs q (found q (map (λ i. newly (iteration_of r k i) (iteration m i)) (numbers_from 0 n))) (runs.iteration_made r k q 0 (map (λ i. record { path = iteration_of r k i; task = iteration l i }) (numbers_from 0 l.total)))) (sym h.total) (iterations_made q r k l m h ok 0 l.total)
  made_is ext q r k a ask (like.joins_all l m h) ok = tt
  made_is ext q r k a ask (like.same (Launches t n) z) ok = absurd z
  made_is ext q r k a ask (like.same (Enters loop) z) ok = absurd z
  made_is ext q r k a ask (like.same (JoinsAll loop) z) ok = absurd z
  made_is ext q r k a ask (like.same (Reads b i) z) ok = tt
  made_is ext q r k a ask (like.same (Writes b i n) z) ok = tt
  made_is ext q r k a ask (like.same (Allocs dims) z) ok = tt
  made_is ext q r k a ask (like.same (Creates n) z) ok = tt
  made_is ext q r k a ask (like.same (Adds g x used) z) ok = tt
  made_is ext q r k a ask (like.same (AwaitsOne x) z) ok = tt
  made_is ext q r k a ask (like.same (AwaitsAll g) z) ok = tt
