-- The tasks of a module whose values are numbered are those of the module, so their operations have results too.
use Rattle.std.proofs.Common.{◌≡◌, ℕ, ◌+◌, cond, Bool, true, false, List, [], ◌∷◌, ◌++◌, map, Option, Some, None, refl, sym, ap, ◌∙◌, subst}
use Rattle.op_table.specs.declared.kind.OpKind.{OpKind}
use Rattle.op_table.specs.declared.kind.OpKind.TheVariants as op
use Rattle.ir_forms.specs.Names.{Path, iteration_of, same_path}
use Rattle.ir_forms.specs.declared.args.ArgValue.{ArgValue}
use Rattle.ir_forms.specs.declared.ops.Module.{Module}
use Rattle.ir_forms.specs.declared.ops.Op.{Op, out-Op, out-roll-Op}
use Rattle.ir_forms.specs.declared.ops.Op.TheFolds.{fold_out-Op}
use Rattle.ir_forms.specs.declared.ops.Region.{Region}
use Rattle.ir_forms.specs.declared.ops.ValueNo.{ValueNo}
use Rattle.ir_verify.specs.Calls.{AreMarks}
use Rattle.ir_verify.specs.Verdict.{IsSound}
use Rattle.value_numbers.specs.Numbers.{value_numbered}
use Rattle.meaning_laws.proofs.Renamed.{step_is_renamed}
use Rattle.source_meaning.specs.declared.values.Val.{Val}
use Rattle.source_meaning.specs.Values.{Env, named, values_at}
use Rattle.source_meaning.specs.Parts.{Node, uses_of}
use Rattle.source_meaning.specs.Renaming.{renamed_op, renamed_ops, renamed_region, op_renamed, region_renamed, renamed_node, renamed_values, IsRenamed, IsInjective, Sees, LikeTask, LikePending, done, awaits, joining, failing}
use Rattle.source_meaning.specs.Sequential.{IsProgram, iteration}
use Rattle.source_meaning.specs.Start.{first_world}
use Rattle.source_meaning.specs.Steps.{next}
use Rattle.source_meaning.specs.Tasks.{Program, Pending, Loop, Task, Ask, Reads, Writes, Allocs, Creates, Adds, Launches, Enters, JoinsAll, AwaitsOne, AwaitsAll, Answer, Next, Asks, told, resumed}
use Rattle.source_meaning.specs.TaskOrder.{Live, Event, Order, newly, made_by, moved, replaced, without, logged, acts, steps_to, task_at, and_then, step, run, first_order, IsReached}
use Rattle.source_meaning.specs.World.{World, answer, after, enabled, ended, numbers_from, shown_end}
use Rattle.carry_laws.specs.Agreement.{IsTaskOf, HasNoTask, LikeLoop, LikeAsk, same, launches, enters, joins_all, GoOn, LikeNext, goes, asks, ends}
use Rattle.carry_laws.proofs.Asked.{answer_like, after_like, enabled_like}
use Rattle.carry_laws.proofs.Basics.{none≢some, some_inj, found_path}
use Rattle.carry_laws.proofs.Renamed.{next_like, root_like}
use Rattle.check_insert.specs.Shape as shape
use Rattle.sound_laws.proofs.Uses.{sound_uses_own}
use Rattle.number_laws.specs.Laws.{places_of, IsRenaming}
use Rattle.number_laws.proofs.Renaming.{numbering_is_a_renaming}
use Rattle.check_laws.specs.Fits.{has_result}
use Rattle.check_laws.specs.Laws.{PassHasResults}
use Rattle.check_laws.specs.Silent.{IsSafe, SafeAt}
use Rattle.check_laws.proofs.Ahead.{checked_has_results}
use Rattle.check_laws.proofs.Pass.{checked_sound}
use Rattle.check_laws.proofs.Safe.{reached_on}

-- ---- results

result_renamed : (σ : ℕ → ℕ) (kind : OpKind) (o : Node) (vs : List Val) → has_result kind (renamed_node σ o) vs ≡ has_result kind o vs
result_renamed σ op.ArithDivsi o vs = refl
result_renamed σ op.ArithDivui o vs = refl
result_renamed σ op.ArithRemsi o vs = refl
result_renamed σ op.ArithRemui o vs = refl
result_renamed σ op.ArithShli o vs = refl
result_renamed σ op.ArithShrsi o vs = refl
result_renamed σ op.ArithShrui o vs = refl
result_renamed σ op.AsyncCreateGroup o vs = refl
result_renamed σ op.MemrefAlloc o vs = refl
result_renamed σ op.MemrefDim o vs = refl
result_renamed σ op.MemrefLoad o vs = refl
result_renamed σ op.MemrefStore o vs = refl
result_renamed σ op.ScfFor o vs = refl
result_renamed σ op.ScfParallel o vs = refl
result_renamed σ kind o vs = refl

pub parts : (σ : ℕ → ℕ) (o : Op) → out-Op (renamed_op σ o) ≡ renamed_node σ (out-Op o)
unfolding renamed_op renamed_region
parts σ o = ap out-Op (fold_out-Op Op Region (op_renamed σ) (region_renamed σ) o) ∙ out-roll-Op _

module _ (σ : ℕ → ℕ → ℕ) where
  pub values_same : (k : ℕ) (env other : Env) → Sees σ k env other → (xs : List ValueNo) → values_at other (renamed_values (σ k) xs) ≡ values_at env xs
  values_same k env other h [] = refl
  values_same k env other h (x ∷ xs) = ap (λ v. v ∷ values_at other (renamed_values (σ k) xs)) (h x.0) ∙ ap (λ vs. named env x.0 ∷ vs) (values_same k env other h xs)

  safe_ops : (k : ℕ) (env other : Env) → Sees σ k env other → (os : List Op) → SafeAt [] os env → SafeAt [] (renamed_ops (σ k) os) other
  safe_ops k env other h [] safe = tt
  safe_ops k env other h (o ∷ os) safe =
      subst (λ (n : Node). has_result n.kind n (values_at other n.operands) ≡ true) (sym (parts (σ k) o))
      (ap (has_result (out-Op o).kind (renamed_node (σ k) (out-Op o))) (values_same k env other h (out-Op o).operands)
      ∙ result_renamed (σ k) (out-Op o).kind (out-Op o) (values_at env (out-Op o).operands) ∙ safe)

  safe_pending : (k : ℕ) (env other : Env) → Sees σ k env other → (os : List Op) {ps qs : List Pending} → LikePending σ k ps qs → SafeAt ps os env → SafeAt qs (renamed_ops (σ k) os) other
  safe_pending k env other h os done safe = safe_ops k env other h os safe
  safe_pending k env other h os (awaits at x xs m) safe = tt
  safe_pending k env other h os (joining at l m like n) safe = tt
  safe_pending k env other h os (failing at m) safe = tt

  safe_like : (t u : Task) → LikeTask σ t u → IsSafe t → IsSafe u
  safe_like t u h safe = subst (λ os. SafeAt u.pending os u.scope.env) (sym h.rest) (safe_pending t.scope.func t.scope.env u.scope.env h.scope.sees t.rest h.pending safe)

-- ---- runs in any order

module _ (σ : ℕ → ℕ → ℕ) (inj : IsInjective σ) (p q : Program) (entry : ℕ) (args : List ArgValue) (renamed : IsRenamed σ p q) where
  abbrev Like : Task → Task → Type 0
  Like = LikeTask σ

  record Pair (l m : Live) : Type 0 where
    path : m.path ≡ l.path
    taken : m.taken ≡ l.taken
    like : Like l.task m.task

  data Pairs : List Live → List Live → Type 0 where
    nobody : Pairs [] []
    pair : (l m : Live) (ls ms : List Live) → Pair l m → Pairs ls ms → Pairs (l ∷ ls) (m ∷ ms)

  data PairFound : Option Live → Option Live → Type 0 where
    nowhere : PairFound None None
    twice : (l m : Live) → Pair l m → PairFound (Some l) (Some m)

  -- states with tasks of the same paths, and the same shared state
  data SameOrder : Order → Order → Type 0 where
    orders : (ls ms : List Live) (w : World) (log more : List Event) → Pairs ls ms →
        SameOrder (record { live = ls; world = w; log = log }) (record { live = ms; world = w; log = more })

  abbrev at_path : Path → List Live → Option Live
  at_path r ls = task_at (record { live = ls; world = first_world args; log = [] }) r

  found_pair : (r : Path) (ls ms : List Live) → Pairs ls ms → PairFound (at_path r ls) (at_path r ms)
  found_pair r ls ms nobody = nowhere
  found_pair r ls ms (pair l m rest others h hs) = split (same_path l.path r) (same_path m.path r) (ap (λ x. same_path x r) h.path) (found_pair r rest others hs) where
    split : (b c : Bool) → c ≡ b → PairFound (at_path r rest) (at_path r others) → PairFound (cond b (Some l) (at_path r rest)) (cond c (Some m) (at_path r others))
    split true true e f = twice l m h
    split true false e f = cc
    split false true e f = cc
    split false false e f = f

  replaced_pair : (a b : Live) (ls ms : List Live) → Pair a b → Pairs ls ms → Pairs (replaced a ls) (replaced b ms)
  replaced_pair a b ls ms h nobody = nobody
  replaced_pair a b ls ms h (pair l m rest others k hs) =
      pair _ _ _ _ (split (same_path l.path a.path) (same_path m.path b.path) (ap (λ x. same_path x b.path) k.path ∙ ap (same_path l.path) h.path)) (replaced_pair a b rest others h hs) where
        split : (c d : Bool) → d ≡ c → Pair (cond c a l) (cond d b m)
        split true true e = h
        split true false e = cc
        split false true e = cc
        split false false e = k

  without_pair : (r : Path) (ls ms : List Live) → Pairs ls ms → Pairs (without r ls) (without r ms)
  without_pair r ls ms nobody = nobody
  without_pair r ls ms (pair l m rest others k hs) = split (same_path l.path r) (same_path m.path r) (ap (λ x. same_path x r) k.path) (without_pair r rest others hs) where
    split : (c d : Bool) → d ≡ c → Pairs (without r rest) (without r others) → Pairs (cond c (without r rest) (l ∷ without r rest)) (cond d (without r others) (m ∷ without r others))
    split true true e f = f
    split true false e f = cc
    split false true e f = cc
    split false false e f = pair l m _ _ k f

  append_pair : (ls ms ks ns : List Live) → Pairs ls ms → Pairs ks ns → Pairs (ls ++ ks) (ms ++ ns)
  append_pair ls ms ks ns nobody g = g
  append_pair ls ms ks ns (pair l m rest others k hs) g = pair l m _ _ k (append_pair rest others ks ns hs g)

  iterations_pair : (at : Path) (k : ℕ) (l m : Loop) → LikeLoop Like l m → (is : List ℕ) →
      Pairs (map (λ i. newly (iteration_of at k i) (iteration l i)) is) (map (λ i. newly (iteration_of at k i) (iteration m i)) is)
  iterations_pair at k l m h [] = nobody
  iterations_pair at k l m h (i ∷ is) = pair _ _ _ _ (record { path = refl; taken = refl; like = h.iterations i }) (iterations_pair at k l m h is)

  made_none : (at : Path) (k : ℕ) (a : Ask) → HasNoTask a → Pairs (made_by at k a) (made_by at k a)
  made_none at k (Reads b i) n = nobody
  made_none at k (Writes b i v) n = nobody
  made_none at k (Allocs dims) n = nobody
  made_none at k (Creates v) n = nobody
  made_none at k (Adds g x used) n = nobody
  made_none at k (Launches c r) n = absurd n
  made_none at k (Enters loop) n = absurd n
  made_none at k (JoinsAll loop) n = absurd n
  made_none at k (AwaitsOne x) n = nobody
  made_none at k (AwaitsAll g) n = nobody

  made_pair : (at : Path) (k : ℕ) (a b : Ask) → LikeAsk Like a b → Pairs (made_by at k a) (made_by at k b)
  made_pair at k a b (same c n) = made_none at k c n
  made_pair at k a b (launches t u r h) = pair _ _ [] [] (record { path = refl; taken = refl; like = h }) nobody
  made_pair at k a b (enters l m h) =
      subst (λ n. Pairs (map (λ i. newly (iteration_of at k i) (iteration l i)) (numbers_from 0 l.total)) (map (λ i. newly (iteration_of at k i) (iteration m i)) (numbers_from 0 n))) (sym h.total) (iterations_pair at k l m h (numbers_from 0 l.total))
  made_pair at k a b (joins_all l m h) = nobody

  -- ---- one step

  moved_pair : (l m : Live) → Pair l m → (x y : Next) → next p l.task ≡ x → next q m.task ≡ y → (r s : Answer) (i j : ℕ) → j ≡ i → Like (told x l.task r) (told y m.task s) → Pair (moved p l r i) (moved q m s j)
  moved_pair l m h x y e f r s i j same_taken k = record {
    path = h.path;
    taken = same_taken;
    like = subst (λ n. Like (told n l.task r) (told (next q m.task) m.task s)) (sym e) (subst (λ n. Like (told x l.task r) (told n m.task s)) (sym f) k);
  }

  -- the first program's task takes the step too
  abbrev Led : Order → Live → Next → Order → Type 0
  Led s l x t' = (s' : Order) × (steps_to p s l x ≡ Some s') × SameOrder s' t'

  module _ (ls ms : List Live) (w : World) (log more : List Event) (all : Pairs ls ms) (l m : Live) (h : Pair l m) where
    abbrev one_at : Order
    one_at = record { live = ls; world = w; log = log }

    abbrev other_at : Order
    other_at = record { live = ms; world = w; log = more }

    asked : (at by : ℕ) (a b : Ask) (xs ys : List ValueNo) (t u : Task) → next p l.task ≡ Asks at a xs t → next q m.task ≡ Asks by b ys u → LikeAsk Like a b → GoOn Like (λ v. Unit {0}) a (resumed at xs t) (resumed by ys u) →
        (t' : Order) (can : Bool) → enabled w m.path m.taken b ≡ can → cond can (Some (acts q other_at m b (answer w m.path m.taken b))) None ≡ Some t' → Led one_at l (Asks at a xs t) t'
    asked at by a b xs ys t u e f like go t' false is g = absurd (none≢some t' g)
    asked at by a b xs ys t u e f like go t' true is g =
        let r : Answer = answer w l.path l.taken a in
        let answered : answer w m.path m.taken b ≡ r = ap (λ n. answer w n m.taken b) h.path ∙ ap (λ n. answer w l.path n b) h.taken ∙ answer_like Like w l.path l.taken a b like in
        let can : enabled w l.path l.taken a ≡ true = sym (ap (λ n. enabled w n m.taken b) h.path ∙ ap (λ n. enabled w l.path n b) h.taken ∙ enabled_like Like w l.path l.taken a b like) ∙ is in
        let behind : after w m.path m.taken b ≡ after w l.path l.taken a = ap (λ n. after w n m.taken b) h.path ∙ ap (λ n. after w l.path n b) h.taken ∙ after_like Like w l.path l.taken a b like in
        let l1 : Live = moved p l r (l.taken + 1) in
        let m1 : Live = moved q m (answer w m.path m.taken b) (m.taken + 1) in
        let moved_on : Pair l1 m1 =
        moved_pair l m h _ _ e f r (answer w m.path m.taken b) (l.taken + 1) (m.taken + 1) (ap (λ n. n + 1) h.taken)
        (subst (λ z. Like (resumed at xs t r) (resumed by ys u z)) (sym answered) (go w l.path l.taken tt).0) in
        let made : Pairs (made_by l.path (l.taken + 1) a) (made_by m.path (m.taken + 1) b) =
        subst (λ n. Pairs (made_by l.path (l.taken + 1) a) (made_by n (m.taken + 1) b)) (sym h.path) (subst (λ n. Pairs (made_by l.path (l.taken + 1) a) (made_by l.path (n + 1) b)) (sym h.taken) (made_pair l.path (l.taken + 1) a b like)) in
        let s' : Order = acts p one_at l a r in
        let t1 : Order = acts q other_at m b (answer w m.path m.taken b) in (
          s',
          ap (λ c. cond c (Some s') None) can,
          subst (SameOrder s') (some_inj t1 t' g)
              (subst (λ v. SameOrder s' (record { live = t1.live; world = v; log = t1.log })) (sym behind)
              (orders s'.live t1.live (after w l.path l.taken a) s'.log t1.log (append_pair _ _ _ _ (replaced_pair l1 m1 ls ms moved_on all) made))),
        )

    next_step : (x y : Next) → LikeNext Like (λ v. Unit {0}) x y → next p l.task ≡ x → next q m.task ≡ y → (t' : Order) → steps_to q other_at m y ≡ Some t' → Led one_at l x t'
    next_step x y (goes t u k) e f t' is = (
      record one_at { live = replaced (moved p l None l.taken) ls },
      refl,
      subst (SameOrder (record one_at { live = replaced (moved p l None l.taken) ls })) (some_inj (record other_at { live = replaced (moved q m None m.taken) ms }) t' is)
          (orders _ _ w log more (replaced_pair _ _ ls ms (moved_pair l m h _ _ e f None None l.taken m.taken h.taken k) all)),
    )
    next_step x y (asks at by a b xs ys t u like go) e f t' is = asked at by a b xs ys t u e f like go t' (enabled w m.path m.taken b) refl is
    next_step x y (ends o k) e f t' is =
        let s' : Order = record { live = without l.path ls; world = ended w l.path o; log = logged one_at l.path (shown_end o) None } in
        let t1 : Order = record { live = without m.path ms; world = ended w m.path o; log = logged other_at m.path (shown_end o) None } in (
          s',
          refl,
          subst (SameOrder s') (some_inj t1 t' is)
              (subst (λ n. SameOrder s' (record { live = without n ms; world = ended w n o; log = t1.log })) (sym h.path) (orders (without l.path ls) (without l.path ms) (ended w l.path o) s'.log t1.log (without_pair l.path ls ms all))),
        )

  one_step : (r : Path) (s t t' : Order) → SameOrder s t → step q r t ≡ Some t' → (s' : Order) × (step p r s ≡ Some s') × SameOrder s' t'
  one_step r s t t' (orders ls ms w log more all) is = split (at_path r ls) (at_path r ms) (found_pair r ls ms all) is where
    split : (x y : Option Live) → PairFound x y → and_then (λ m. steps_to q (record { live = ms; world = w; log = more }) m (next q m.task)) y ≡ Some t' →
        (s' : Order) × (and_then (λ l. steps_to p (record { live = ls; world = w; log = log }) l (next p l.task)) x ≡ Some s') × SameOrder s' t'
    split x y nowhere e = absurd (none≢some t' e)
    split x y (twice l m h) e =
        next_step ls ms w log more all l m h (next p l.task) (next q m.task) (next_like σ inj p q entry args renamed (next p l.task) (next q m.task) (step_is_renamed σ p q l.task m.task inj renamed h.like)) refl refl t' e

  abbrev Follows : Order → Type 0
  Follows t = (s : Order) × IsReached p entry args s × SameOrder s t

  runs_so : (rs : List Path) (t t' : Order) → Follows t → run q rs t ≡ Some t' → Follows t'
  runs_so [] t t' h is = subst Follows (some_inj t t' is) h
  runs_so (r ∷ rs) t t' h is = split (step q r t) refl (λ x e f. runs_so rs x t' (let to = one_step r h.0 t x h.2 e in (to.0, reached_on p entry args r h.0 to.0 h.1 to.1, to.2)) f) is where
    split : (o : Option Order) → step q r t ≡ o → ((x : Order) → step q r t ≡ Some x → run q rs x ≡ Some t' → Follows t') → and_then (run q rs) o ≡ Some t' → Follows t'
    split None e m f = absurd (none≢some t' f)
    split (Some x) e m f = m x e f

  reached_so : (t : Order) → IsReached q entry args t → Follows t
  reached_so t h =
      runs_so h.order (first_order q entry args) t
      (first_order p entry args, record { order = []; comes = refl }, orders _ _ (first_world args) [] [] (pair _ _ [] [] (record { path = refl; taken = refl; like = root_like σ inj p q entry args renamed }) nobody)) h.comes

  -- each task is one of the first program under the other names
  task_so : (u : Task) → IsTaskOf q entry args u → (t : Task) × IsTaskOf p entry args t × Like t u
  task_so u a = let f = reached_so a.at a.reached in go f.0 a.at f.1 f.2 a.live a.found a.task where
    go : (s t : Order) → IsReached p entry args s → SameOrder s t → (m : Live) → task_at t m.path ≡ Some m → m.task ≡ u → (t : Task) × IsTaskOf p entry args t × Like t u
    go s t there (orders ls ms w log more all) m found is = split (at_path m.path ls) refl (at_path m.path ms) (found_pair m.path ls ms all) found where
      split : (x : Option Live) → at_path m.path ls ≡ x → (y : Option Live) → PairFound x y → y ≡ Some m → (t : Task) × IsTaskOf p entry args t × Like t u
      split x e y nowhere f = absurd (none≢some m f)
      split x e y (twice l n h) f = (
        l.task,
        record { at = record { live = ls; world = w; log = log }; reached = there; live = l; found = subst (λ r. at_path r ls ≡ Some l) (sym (found_path m.path ls l e)) e; task = refl },
        subst (Like l.task) (ap (λ (x : Live). x.task) (some_inj n m f) ∙ is) h.like,
      )

-- ---- the pass

-- a task of what the pass makes is one of the module with its checks under other names
pub record OfChecked (program : Module) (entry : ℕ) (args : List ArgValue) (u : Task) : Type 0 where
  pub program_of : Program
  pub is : IsProgram (shape.checked program) program_of
  pub task : Task
  pub there : IsTaskOf program_of entry args task
  pub like : LikeTask (places_of (shape.checked program)) task u

pub of_checked : (program : Module) (r : Program) (entry : ℕ) (args : List ArgValue) → IsSound program.funcs → IsProgram (value_numbered (shape.checked program)) r → (u : Task) → IsTaskOf r entry args u → OfChecked program entry args u
of_checked program r entry args sound ir u is =
    let m : Module = shape.checked program in
    let renaming : IsRenaming m = numbering_is_a_renaming m (sound_uses_own m (checked_sound program sound)) in
    let q : Program = record { funcs = m.funcs; called = r.called; uses = map uses_of m.funcs } in
    let iq : IsProgram m q = record { funcs = refl; called = subst (λ g. AreMarks g r.called) renaming.graph ir.called; uses = refl } in
    let t = task_so (places_of m) renaming.injective q r entry args (renaming.renamed q r iq ir) u is in
    record { program_of = q; is = iq; task = t.0; there = t.1; like = t.2 }

pub pass_has_results : PassHasResults
pass_has_results program r entry args h ir a u is =
    let t = of_checked program r entry args h.sound ir u is in
    safe_like (places_of (shape.checked program)) t.task u t.like (checked_has_results program t.program_of entry args h t.is a t.task t.there)
