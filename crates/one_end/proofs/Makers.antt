-- Which task made which: each has one maker.
use Rattle.std.specs.Prelude.{◌⊎◌}
use mathlib.Core.Logic.{inl, inr}
use Rattle.std.proofs.Common.{◌≡◌, ◌<◌, ℕ, zero, suc, Bool, cond, List, [], ◌∷◌, ◌++◌, length, Option, Some, None, refl, sym, ap, subst, ◌∙◌, arith}
use Rattle.std.proofs.lemmas.List.{length-append}
use Rattle.ir_forms.specs.Names.{Path, same_path, launched_by, iteration_of}
use Rattle.one_end.specs.Programs.{Act, Reads, Writes, Allocs, Creates, Adds, Launches, Enters, JoinsAll, AwaitsOne, AwaitsAll, Ends, Program}
use Rattle.one_end.specs.Runs.{Event, Log, history, taken, Takes, IsRun, begun, made_by, iteration_made, either}
use Rattle.one_end.proofs.Basics.{path_cases, here, there, Older, older_same_list, older_trans, older_tail, older_same, none≢some, some_inj, snoc_inj, snoc_not_nil, two_snoc, head_inj}
use Rattle.one_end.proofs.Histories.{history_own, Found, find_older, run_older, older_history}

module _ {D : Type 0} where
  cond_some : (t q : Path) (d x : D) → cond (same_path t q) (Some d) None ≡ Some x → q ≡ t
  cond_some t q d x e = split (path_cases t q) where
    split : (t ≡ q) ⊎ (t ≡ q → ⊥) → q ≡ t
    split (inl h) = sym h
    split (inr n) = absurd (none≢some x (sym (there t q (Some d) None n) ∙ e))

  iteration_inv : (p : Path) (k : ℕ) (q : Path) (i : ℕ) (ds : List D) (d : D) → iteration_made p k q i ds ≡ Some d → (j : ℕ) × (q ≡ p ++ k ∷ j ∷ [])
  iteration_inv p k q i [] d e = absurd (none≢some d e)
  iteration_inv p k q i (c ∷ ds) d e = split (path_cases (iteration_of p k i) q) (iteration_inv p k q (suc i) ds d) where
    split : (iteration_of p k i ≡ q) ⊎ (iteration_of p k i ≡ q → ⊥) → (iteration_made p k q (suc i) ds ≡ Some d → (j : ℕ) × (q ≡ p ++ k ∷ j ∷ [])) → (j : ℕ) × (q ≡ p ++ k ∷ j ∷ [])
    split (inl h) f = (i, sym h)
    split (inr n) f = f (sym (there (iteration_of p k i) q (Some c) (iteration_made p k q (suc i) ds) n) ∙ e)

module _ {D V : Type 0} where
  -- what made the task q
  pub data Made_how (a : Act D V) (p : Path) (k : ℕ) (q : Path) : Type 0 where
    launched : (d : D) (r : ℕ) → a ≡ Launches d r → q ≡ p ++ k ∷ [] → Made_how a p k q
    iterates : (ds : List D) (s : Bool) (i : ℕ) → a ≡ Enters ds s → q ≡ p ++ k ∷ i ∷ [] → Made_how a p k q

  pub made_how : (a : Act D V) (p : Path) (k : ℕ) (q : Path) (d : D) → made_by a p k q ≡ Some d → Made_how a p k q
  made_how (Launches c r) p k q d e = launched c r refl (cond_some (launched_by p k) q c d e)
  made_how (Enters ds s) p k q d e = let i = iteration_inv p k q 0 ds d e in iterates ds s i.0 refl i.1
  made_how (Reads b i) p k q d e = absurd (none≢some d e)
  made_how (Writes b i n) p k q d e = absurd (none≢some d e)
  made_how (Allocs n) p k q d e = absurd (none≢some d e)
  made_how (Creates n) p k q d e = absurd (none≢some d e)
  made_how (Adds g x u) p k q d e = absurd (none≢some d e)
  made_how JoinsAll p k q d e = absurd (none≢some d e)
  made_how (AwaitsOne x) p k q d e = absurd (none≢some d e)
  made_how (AwaitsAll g) p k q d e = absurd (none≢some d e)
  made_how (Ends o) p k q d e = absurd (none≢some d e)

  -- an event of a log that makes the task q
  pub record Origin (log : Log D V) (q : Path) (d : D) : Type 0 where
    pub by : Path
    pub event : Event D V
    pub did : Log D V
    pub at : Older (event ∷ did) (history log by)
    pub makes : made_by event.act by (suc (length did)) q ≡ Some d

  pub origin_later : (f log : Log D V) (q : Path) (d : D) → Older f log → Origin f q d → Origin log q d
  origin_later f log q d o g = record { by = g.by; event = g.event; did = g.did; at = older_trans (g.event ∷ g.did) (history f g.by) (history log g.by) g.at (older_history f log g.by o); makes = g.makes }

  launch_or_enter : (a : Act D V) (d : D) (r : ℕ) (ds : List D) (s : Bool) → a ≡ Launches d r → a ≡ Enters ds s → ⊥
  launch_or_enter a d r ds s h k = cc

module _ {D V : Type 0} (P : Program D V) where
  pub begun_origin : (log : Log D V) (q : Path) (d : D) → begun P log q ≡ Some d → ((q ≡ []) × (d ≡ P.root)) ⊎ Origin log q d
  begun_origin [] q d e = split (path_cases [] q) where
    split : ([] ≡ q) ⊎ ([] ≡ q → ⊥) → ((q ≡ []) × (d ≡ P.root)) ⊎ Origin {V = V} [] q d
    split (inl h) = inl (sym h, some_inj d P.root (sym e ∙ here [] q (Some P.root) None h))
    split (inr n) = absurd (none≢some d (sym (there [] q (Some P.root) None n) ∙ e))
  begun_origin (x ∷ log) q d e = split (begun P log q) refl (begun_origin log q d) where
    later : ((q ≡ []) × (d ≡ P.root)) ⊎ Origin log q d → ((q ≡ []) × (d ≡ P.root)) ⊎ Origin (x ∷ log) q d
    later (inl r) = inl r
    later (inr o) = inr (origin_later log (x ∷ log) q d (x ∷ [], refl) o)

    split : (o : Option D) → begun P log q ≡ o → (begun P log q ≡ Some d → ((q ≡ []) × (d ≡ P.root)) ⊎ Origin log q d) → ((q ≡ []) × (d ≡ P.root)) ⊎ Origin (x ∷ log) q d
    split (Some c) h k = later (k (h ∙ (sym (ap (λ t. either t (made_by x.act x.task (suc (taken log x.task)) q)) h) ∙ e)))
    split None h k = inr (record {
      by = x.task;
      event = x;
      did = history log x.task;
      at = subst (λ t. Older t (history (x ∷ log) x.task)) (history_own x log x.task refl) (older_same_list (history (x ∷ log) x.task));
      makes = sym (ap (λ t. either t (made_by x.act x.task (suc (taken log x.task)) q)) h) ∙ e;
    })

  begun_after : (m f : Log D V) (q : Path) (d : D) → begun P f q ≡ Some d → begun P (m ++ f) q ≡ Some d
  begun_after [] f q d e = e
  begun_after (x ∷ m) f q d e = ap (λ t. either t (made_by x.act x.task (suc (taken (m ++ f) x.task)) q)) (begun_after m f q d e)

  pub begun_later : (f log : Log D V) (q : Path) (d : D) → Older f log → begun P f q ≡ Some d → begun P log q ≡ Some d
  begun_later f log q d o e = subst (λ t. begun P t q ≡ Some d) (sym o.1) (begun_after o.0 f q d e)

  either_some : (o : Option D) (d : D) → (c : D) × (either o (Some d) ≡ Some c)
  either_some None d = (d, refl)
  either_some (Some c) d = (c, refl)

  pub origin_begun : (log : Log D V) (q : Path) (d : D) → Origin log q d → (c : D) × (begun P log q ≡ Some c)
  origin_begun log q d o = (some.0, begun_later (o.event ∷ at.past) log q some.0 at.older (made ∙ some.1)) where
    at : Found log o.by o.event o.did
    at = find_older log o.by o.event o.did o.at

    some : (c : D) × (either (begun P at.past q) (Some d) ≡ Some c)
    some = either_some (begun P at.past q) d

    number : taken at.past o.event.task ≡ length o.did
    number = ap (λ t. taken at.past t) at.task ∙ ap length at.did

    made : begun P (o.event ∷ at.past) q ≡ either (begun P at.past q) (Some d)
    made = ap (λ t. either (begun P at.past q) t) (ap (λ (t : Path). made_by o.event.act t (suc (taken at.past t)) q) at.task ∙ (ap (λ (n : Log D V). made_by o.event.act o.by (suc (length n)) q) at.did ∙ o.makes))

  pub acted_begun : (log : Log D V) (p : Path) (x : Event D V) (h : Log D V) → IsRun P log → Older (x ∷ h) (history log p) → (d : D) × (begun P log p ≡ Some d)
  acted_begun log p x h r o = (takes.begin, begun_later at.past log p takes.begin (older_tail x at.past log at.older) (subst (λ t. begun P at.past t ≡ Some takes.begin) at.task takes.made)) where
    at : Found log p x h
    at = find_older log p x h o

    takes : Takes P at.past x
    takes = (run_older P (x ∷ at.past) log at.older r).0

  NoClash : Log D V → Path → Type 0
  NoClash log p = (x : Event D V) (h : Log D V) (ds : List D) (s : Bool) (d : D) → Older (x ∷ h) (history log p) → x.act ≡ Enters ds s → begun P log (p ++ suc (length h) ∷ []) ≡ Some d → ⊥

  -- the same place in a task's history
  pub same_place : (log : Log D V) (p q : Path) (x y : Event D V) (h g : Log D V) → q ≡ p → length g ≡ length h → Older (x ∷ h) (history log p) → Older (y ∷ g) (history log q) → y ∷ g ≡ x ∷ h
  same_place log p q x y h g w v o older = older_same (y ∷ g) (x ∷ h) (history log p) (subst (λ t. Older (y ∷ g) (history log t)) w older) o (omega (arith, v))

  -- a task whose action enters a loop has launched no task by it
  clash_step : (log : Log D V) (p : Path) → IsRun P log → ((q : Path) → length q < length p → NoClash log q) → NoClash log p
  unfolding NoClash
  clash_step log p r rec x h ds s d o e b = split (begun_origin log (p ++ suc (length h) ∷ []) d b) where
    launch : (y : Event D V) (g : Log D V) (c : D) (i : ℕ) (q : Path) → q ≡ p → length g ≡ length h → Older (y ∷ g) (history log q) → y.act ≡ Launches c i → ⊥
    launch y g c i q w v older f = launch_or_enter x.act c i ds s (subst (λ (t : Event D V). t.act ≡ Launches c i) (head_inj y x g h (same_place log p q x y h g w v o older)) f) e

    enter : (y : Event D V) (g : Log D V) (cs : List D) (t : Bool) (q : Path) → p ≡ q ++ suc (length g) ∷ [] → Older (y ∷ g) (history log q) → y.act ≡ Enters cs t → ⊥
    enter y g cs t q w older f =
        let made = acted_begun log p x h r o in
        rec q (omega (arith, ap length w, length-append q (suc (length g) ∷ []))) y g cs t made.0 older f (subst (λ z. begun P log z ≡ Some made.0) w made.1)

    how : (o : Origin log (p ++ suc (length h) ∷ []) d) → Made_how o.event.act o.by (suc (length o.did)) (p ++ suc (length h) ∷ []) → ⊥
    how o (launched c i f w) = let two = snoc_inj p o.by (suc (length h)) (suc (length o.did)) w in launch o.event o.did c i o.by (sym two.0) (omega (arith, two.1)) o.at f
    how o (iterates cs t i f w) = let two = snoc_inj p (o.by ++ suc (length o.did) ∷ []) (suc (length h)) i (w ∙ two_snoc o.by (suc (length o.did)) i) in enter o.event o.did cs t o.by two.0 o.at f

    split : (((p ++ suc (length h) ∷ []) ≡ []) × (d ≡ P.root)) ⊎ Origin log (p ++ suc (length h) ∷ []) d → ⊥
    split (inl w) = snoc_not_nil p (suc (length h)) [] (sym w.0)
    split (inr o) = how o (made_how o.event.act o.by (suc (length o.did)) (p ++ suc (length h) ∷ []) d o.makes)

  clash_below : (n : ℕ) (log : Log D V) → IsRun P log → (p : Path) → length p < n → NoClash log p
  clash_below zero log r p l = absurd (omega (arith, l))
  clash_below (suc n) log r p l = clash_step log p r (λ q m. clash_below n log r q (omega (arith, l, m)))

  clash : (log : Log D V) → IsRun P log → (p : Path) → NoClash log p
  clash log r p = clash_below (suc (length p)) log r p (omega arith)

  -- one task, and one of its actions
  pub record SameMaker (p q : Path) (h g : Log D V) : Type 0 where
    pub path : p ≡ q
    pub place : length h ≡ length g

  mixed : (log : Log D V) (q : Path) (c d : D) → IsRun P log → (o : Origin log q c) (w : Origin log q d) (j : ℕ) (ds : List D) (s : Bool) → q ≡ o.by ++ suc (length o.did) ∷ [] → w.event.act ≡ Enters ds s → q ≡ w.by ++ suc (length w.did) ∷ j ∷ [] → ⊥
  unfolding NoClash
  mixed log q c d r o w j ds s e f g =
      let two = snoc_inj o.by (w.by ++ suc (length w.did) ∷ []) (suc (length o.did)) j (sym e ∙ (g ∙ two_snoc w.by (suc (length w.did)) j)) in
      let made = acted_begun log o.by o.event o.did r o.at in
      clash log r w.by w.event w.did ds s made.0 w.at f (subst (λ z. begun P log z ≡ Some made.0) two.0 made.1)

  -- a task has one maker
  pub one_maker : (log : Log D V) (q : Path) (c d : D) → IsRun P log → (o : Origin log q c) (w : Origin log q d) → SameMaker o.by w.by o.did w.did
  one_maker log q c d r o w = both (made_how o.event.act o.by (suc (length o.did)) q c o.makes) (made_how w.event.act w.by (suc (length w.did)) q d w.makes) where
    both : Made_how o.event.act o.by (suc (length o.did)) q → Made_how w.event.act w.by (suc (length w.did)) q → SameMaker o.by w.by o.did w.did
    both (launched x i e f) (launched y j e2 f2) = let two = snoc_inj o.by w.by (suc (length o.did)) (suc (length w.did)) (sym f ∙ f2) in record { path = two.0; place = omega (arith, two.1) }
    both (launched x i e f) (iterates ds s j e2 f2) = absurd (mixed log q c d r o w j ds s f e2 f2)
    both (iterates ds s j e2 f2) (launched x i e f) = absurd (mixed log q d c r w o j ds s f e2 f2)
    both (iterates ds s i e f) (iterates es t j e2 f2) =
        let outer = snoc_inj (o.by ++ suc (length o.did) ∷ []) (w.by ++ suc (length w.did) ∷ []) i j (sym (two_snoc o.by (suc (length o.did)) i) ∙ (sym f ∙ (f2 ∙ two_snoc w.by (suc (length w.did)) j))) in
        let two = snoc_inj o.by w.by (suc (length o.did)) (suc (length w.did)) outer.0 in
        record { path = two.0; place = omega (arith, two.1) }

  -- and begins with what that gives it
  pub one_begin : (log : Log D V) (q : Path) (c d : D) → IsRun P log → Origin log q c → Origin log q d → c ≡ d
  one_begin log q c d r o w = some_inj c d (sym o.makes ∙ (same ∙ w.makes)) where
    maker : SameMaker o.by w.by o.did w.did
    maker = one_maker log q c d r o w

    lists : o.event ∷ o.did ≡ w.event ∷ w.did
    lists = same_place log w.by o.by w.event o.event w.did o.did maker.path maker.place w.at o.at

    same : made_by o.event.act o.by (suc (length o.did)) q ≡ made_by w.event.act w.by (suc (length w.did)) q
    same = ap (λ (t : Event D V). made_by t.act o.by (suc (length o.did)) q) (head_inj o.event w.event o.did w.did lists) ∙ (ap (λ t. made_by w.event.act t (suc (length o.did)) q) maker.path ∙ ap (λ n. made_by w.event.act w.by (suc n) q) maker.place)
