-- Each step of a task of one machine is followed by steps of the same task of the other; where none can be taken, the other's
-- task comes by silent steps to where it cannot take one either.
use Rattle.std.specs.Prelude.{cond, ⊤, ◌+◌}
use Rattle.std.specs.Option.{option_map}
use Rattle.std.proofs.Common.{◌≡◌, ℕ, Bool, true, false, List, [], ◌∷◌, ◌++◌, Option, Some, None, refl, sym, ap, subst, ◌∙◌}
use Rattle.ir_forms.specs.declared.args.ArgValue.{ArgValue}
use Rattle.ir_forms.specs.declared.names.TraceEntry.{TraceEntry}
use Rattle.ir_forms.specs.declared.ops.ValueNo.{ValueNo}
use Rattle.ir_forms.specs.Names.{Path, same_path}
use Rattle.machines.specs.Machine.{Took, Stuck, Idle, Stopped, Takes, IsStill}
use Rattle.machines.specs.Machine as machine
use Rattle.machines.specs.Carries.{Carries}
use Rattle.machines.specs.Simulates.{Owes, Simulates}
use Rattle.machines.proofs.Runs.{append_none, stays}
use Rattle.machines.proofs.Simulated.{simulation_carries}
use Rattle.source_machine.specs.Source.{shown_by, held, takes, source}
use Rattle.source_machine.proofs.Runs.{back, was_step}
use Rattle.source_meaning.specs.declared.ends.SourceEnd.{SourceEnd}
use Rattle.source_meaning.specs.Values.{maybe}
use Rattle.source_meaning.specs.Tasks.{Program, Task, Ask, Reads, Writes, Allocs, Creates, Adds, Launches, Enters, JoinsAll, AwaitsOne, AwaitsAll, Outcome, Next, Goes, Asks, Ends, told}
use Rattle.source_meaning.specs.Steps.{next}
use Rattle.source_meaning.specs.Start.{end_of}
use Rattle.source_meaning.specs.Renaming.{LikeTask}
use Rattle.source_meaning.specs.World.{World, answer, enabled, outcome}
use Rattle.source_meaning.specs.TaskOrder.{Live, Event, Order, moved, replaced, acts, steps_to, task_at, and_then, step, run, IsReached, shown_in}
use Rattle.carry_laws.specs.Agreement.{LikeAsk, same, launches, enters, joins_all, LikeNext, goes, asks, ends, Meets, both, first, second, Agreement}
use Rattle.carry_laws.proofs.Asked.{enabled_like, turned}
use Rattle.carry_laws.proofs.Basics.{none≢some, path_same, path_yes, found, found_path, found_replaced, found_itself}
use Rattle.carry_laws.proofs.InOrder.{run_on, run_one, Held, met, SameFound, nowhere, twice, SameLive, SameOrder, orders, same_replaced, meets_now, one_step, reached_on, none_left, started}
use Rattle.carry_laws.proofs.Renamed.{renamed_programs_agree}
use Rattle.agreeing_machines.specs.Laws.{CarryEachOther, AgreeingCarry, RenamedCarry}

-- ---- lists

cancel : {X : Type 0} (xs ys zs : List X) → xs ++ ys ≡ xs ++ zs → ys ≡ zs
cancel [] ys zs e = e
cancel (x ∷ xs) ys zs e = cancel xs ys zs (ap tail_of e) where
  tail_of : {X : Type 0} → List X → List X
  tail_of [] = []
  tail_of (x ∷ xs) = xs

-- ---- steps that aren't taken

took≢idle : {S V : Type 0} (s : S) (shown : List V) → ◌≡◌ {A = Took S V} (Takes s shown) Idle → ⊥
took≢idle s shown e = cc

took≢stopped : {S V : Type 0} (s : S) (shown : List V) → ◌≡◌ {A = Took S V} (Takes s shown) Stopped → ⊥
took≢stopped s shown e = cc

-- a step of the machine
abbrev Step : Program → Order → Path → Took Order TraceEntry
Step p s q = maybe Idle (takes p s) (task_at s q)

abbrev by : Next → Live → Option Order → Took Order TraceEntry
by n l o = maybe (held n) (λ after. Takes after (shown_by l n)) o

-- one that is idle or stopped isn't taken
not_taken : (n : Next) (l : Live) (o : Option Order) (k : Took Order TraceEntry) → by n l o ≡ k → ((s : Order) (shown : List TraceEntry) → Takes s shown ≡ k → ⊥) → (o ≡ None) × (held n ≡ k)
not_taken n l None k e no' = (refl, e)
not_taken n l (Some s) k e no' = absurd (no' s (shown_by l n) e)

held_like : (Like : Task → Task → Type 0) (at by' : ℕ) (a b : Ask) (xs ys : List ValueNo) (t u : Task) → LikeAsk Like a b → held (Asks by' b ys u) ≡ held (Asks at a xs t)
held_like Like at by' a b xs ys t u (same (Reads c i) n) = refl
held_like Like at by' a b xs ys t u (same (Writes c i v) n) = refl
held_like Like at by' a b xs ys t u (same (Allocs dims) n) = refl
held_like Like at by' a b xs ys t u (same (Creates v) n) = refl
held_like Like at by' a b xs ys t u (same (Adds g x used) n) = refl
held_like Like at by' a b xs ys t u (same (Launches c r) n) = absurd n
held_like Like at by' a b xs ys t u (same (Enters loop) n) = absurd n
held_like Like at by' a b xs ys t u (same (JoinsAll loop) n) = absurd n
held_like Like at by' a b xs ys t u (same (AwaitsOne x) n) = refl
held_like Like at by' a b xs ys t u (same (AwaitsAll g) n) = refl
held_like Like at by' a b xs ys t u (launches c d r h) = refl
held_like Like at by' a b xs ys t u (enters l m h) = refl
held_like Like at by' a b xs ys t u (joins_all l m h) = refl

-- what cannot be taken stays so where the world and the task stay
stays_held : (q : Program) (w : World) (log : List Event) (ms ns : List Live) (m : Live) (n : Next) → steps_to q (record { live = ms; world = w; log = log }) m n ≡ None → steps_to q (record { live = ns; world = w; log = log }) m n ≡ None
stays_held q w log ms ns m (Goes t) e = cc
stays_held q w log ms ns m (Asks at ask xs t) e = split (enabled w m.path m.taken ask) refl e where
  split : (b : Bool) → enabled w m.path m.taken ask ≡ b → cond b (Some (acts q (record { live = ms; world = w; log = log }) m ask (answer w m.path m.taken ask))) None ≡ None →
      cond (enabled w m.path m.taken ask) (Some (acts q (record { live = ns; world = w; log = log }) m ask (answer w m.path m.taken ask))) None ≡ None
  split true h e = cc
  split false h e = ap (λ b. cond b (Some (acts q (record { live = ns; world = w; log = log }) m ask (answer w m.path m.taken ask))) None) h
stays_held q w log ms ns m (Ends o) e = cc

stays_idle : (q : Program) (w : World) (log : List Event) (ms ns : List Live) (r : Path) → found r ns ≡ found r ms → Step q (record { live = ms; world = w; log = log }) r ≡ Idle → Step q (record { live = ns; world = w; log = log }) r ≡ Idle
stays_idle q w log ms ns r e idle = ap (maybe Idle (takes q (record { live = ns; world = w; log = log }))) e ∙ go (found r ms) idle where
  go : (o : Option Live) → maybe Idle (takes q (record { live = ms; world = w; log = log })) o ≡ Idle → maybe Idle (takes q (record { live = ns; world = w; log = log })) o ≡ Idle
  go None h = refl
  go (Some m) h =
      let was = not_taken (next q m.task) m (steps_to q (record { live = ms; world = w; log = log }) m (next q m.task)) Idle h took≢idle in
      ap (by (next q m.task) m) (stays_held q w log ms ns m (next q m.task) was.0) ∙ was.1

module _ (Like : Task → Task → Type 0) (Kept : World → Type 0) (p q : Program) (entry : ℕ) (args : List ArgValue) (A : Agreement Like Kept p q entry args) where
  abbrev SameLives : List Live → List Live → Type 0
  SameLives = SameLive Like Kept p q entry args A

  abbrev Same : Order → Order → Type 0
  Same = SameOrder Like Kept p q entry args A

  abbrev Has : Task → Task → Type 0
  Has = Held Like Kept p q entry args A

  -- ---- where a step isn't taken

  module _ (ls : List Live) (w : World) (log : List Event) (l : Live) (here : found l.path ls ≡ Some l) (waits : steps_to p (record { live = ls; world = w; log = log }) l (next p l.task) ≡ None) where
    abbrev at_ : List Live → Order
    at_ ms = record { live = ms; world = w; log = log }

    -- by steps of its own the second's task comes to where it is held too, and other tasks stay
    abbrev Waiting : List Live → Type 0
    Waiting ms = (qs : List Path) × (ns : List Live) × (run q qs (at_ ms) ≡ Some (at_ ns)) × SameLives ls ns × (Step q (at_ ns) l.path ≡ held (next p l.task)) × ((x : Path) → same_path l.path x ≡ false → found x ns ≡ found x ms)

    goes_on : (t : Task) → next p l.task ≡ Goes t → ⊥
    goes_on t e = let h : steps_to p (at_ ls) l (Goes t) ≡ None = subst (λ n. steps_to p (at_ ls) l n ≡ None) e waits in cc

    met_there : (ms : List Live) → SameLives ls ms → (m : Live) → found l.path ms ≡ Some m → m.path ≡ l.path → m.taken ≡ l.taken →
        (x y : Next) → LikeNext Like Kept x y → next p l.task ≡ x → next q m.task ≡ y → Waiting ms
    met_there ms all m is path taken x y (goes t u h) e f = absurd (goes_on t e)
    met_there ms all m is path taken x y (ends o k) e f = let h : steps_to p (at_ ls) l (Ends o) ≡ None = subst (λ n. steps_to p (at_ ls) l n ≡ None) e waits in cc
    met_there ms all m is path taken x y (asks at by' a b xs ys t u like go) e f =
        let no' : steps_to p (at_ ls) l (Asks at a xs t) ≡ None = subst (λ n. steps_to p (at_ ls) l n ≡ None) e waits in
        let cannot : enabled w l.path l.taken a ≡ false = off (enabled w l.path l.taken a) no' in
        let not_there : enabled w m.path m.taken b ≡ false = ap (λ n. enabled w n m.taken b) path ∙ ap (λ n. enabled w l.path n b) taken ∙ enabled_like Like w l.path l.taken a b like ∙ cannot in
        let none : steps_to q (at_ ms) m (Asks by' b ys u) ≡ None = ap (λ c. cond c (Some (acts q (at_ ms) m b (answer w m.path m.taken b))) None) not_there in
        let stands : Step q (at_ ms) l.path ≡ held (Asks by' b ys u) =
        ap (maybe Idle (takes q (at_ ms))) is ∙ (ap (λ n. by n m (steps_to q (at_ ms) m n)) f ∙ ap (by (Asks by' b ys u) m) none) in
        ([], ms, refl, all, stands ∙ (held_like Like at by' a b xs ys t u like ∙ ap held (sym e)), λ x n. refl)
      where
        off : (c : Bool) → cond c (Some (acts p (at_ ls) l a (answer w l.path l.taken a))) None ≡ None → c ≡ false
        off true h = cc
        off false h = refl

    comes : (t u : Task) → Meets Like Kept p q t u → t ≡ l.task → (ms : List Live) → SameLives ls ms → (m : Live) → found l.path ms ≡ Some m → m.path ≡ l.path → m.taken ≡ l.taken → u ≡ m.task → Waiting ms
    comes t u (both _ _ h) i ms all m is path taken j =
        let like : LikeNext Like Kept (next p l.task) (next q m.task) = subst (λ x. LikeNext Like Kept (next p x) (next q m.task)) i (subst (λ x. LikeNext Like Kept (next p t) (next q x)) j h) in
        met_there ms all m is path taken _ _ like refl refl
    comes t u (first _ _ t' e h) i ms all m is path taken j = absurd (goes_on t' (ap (next p) (sym i) ∙ e))
    comes t u (second _ _ u' e h) i ms all m is path taken j =
        let goes : next q m.task ≡ Goes u' = ap (next q) (sym j) ∙ e in
        let m1 : Live = moved q m None m.taken in
        let to : u' ≡ m1.task = sym (ap (λ n. told n m.task None) goes) in
        let has : Has l.task m1.task = subst (λ x. Has x m1.task) i (subst (Has t) to (met t u' h)) in
        let live : SameLives ls (replaced m1 ms) = λ r. subst (λ x. SameFound Like Kept p q entry args A x (found r (replaced m1 ms))) (found_itself l ls here r) (same_replaced Like Kept p q entry args A l m1 ls ms path taken has all r) in
        let put : found l.path (replaced m1 ms) ≡ Some m1 =
        found_replaced m1 ms l.path ∙ (ap (λ x. cond (same_path x l.path) (option_map (λ z. m1) (found l.path ms)) (found l.path ms)) path ∙ (ap (λ b. cond b (option_map (λ z. m1) (found l.path ms)) (found l.path ms)) (path_same l.path) ∙ ap (option_map (λ z. m1)) is)) in
        let rest = comes t u' h i (replaced m1 ms) live m1 put path taken to in
        let moves : step q l.path (at_ ms) ≡ Some (at_ (replaced m1 ms)) = ap (and_then (λ x. steps_to q (at_ ms) x (next q x.task))) is ∙ ap (steps_to q (at_ ms) m) goes in
        let others : (x : Path) → same_path l.path x ≡ false → found x (replaced m1 ms) ≡ found x ms = λ x n.
        (found_replaced m1 ms x ∙ ap (λ b. cond b (option_map (λ z. m1) (found x ms)) (found x ms)) (ap (λ r. same_path r x) path ∙ n)) in
        (l.path ∷ rest.0, rest.1, run_on q (l.path ∷ []) rest.0 (at_ ms) (at_ (replaced m1 ms)) (at_ rest.1) (run_one q l.path (at_ ms) _ moves) rest.2, rest.3, rest.4, λ x n. rest.5 x n ∙ others x n)

  -- ---- the machines

  abbrev M : machine.Machine TraceEntry SourceEnd
  M = source p entry args

  abbrev N : machine.Machine TraceEntry SourceEnd
  N = source q entry args

  -- a run shows what is logged more
  shows : (qs : List Path) (t u : Order) (shown : List TraceEntry) → run q qs t ≡ Some u → shown_in u.log ≡ shown_in t.log ++ shown → machine.Reaches N t shown u
  shows qs t u shown e logged =
      let on = back q entry args qs t u e in
      (qs, subst (λ l. machine.run N qs t ≡ Some (u, l)) (cancel (shown_in t.log) on.0 shown (sym on.2 ∙ logged)) on.1)

  silent : (qs : List Path) (t u : Order) → run q qs t ≡ Some u → u.log ≡ t.log → machine.Reaches N t [] u
  silent qs t u e logged = shows qs t u [] e (ap shown_in logged ∙ sym (append_none (shown_in t.log)))

  same_log : (s t : Order) → Same s t → t.log ≡ s.log
  same_log s t (orders ls ms w log kept all) = refl

  -- both are reached, and the same
  abbrev Match : Order → Order → Type 0
  Match s t = Same s t × IsReached p entry args s × IsReached q entry args t

  -- where a task of the first is held, the second comes to where it is held
  abbrev Held_up : Order → Order → Path → Took Order TraceEntry → Type 0
  Held_up s t r k = (qs : List Path) × (u : Order) × (run q qs t ≡ Some u) × Same s u × (Step q u r ≡ k) × ((x : Path) → same_path r x ≡ false → Step q t x ≡ Idle → Step q u x ≡ Idle)

  held_up : (r : Path) (s t : Order) → Same s t → IsReached p entry args s → IsReached q entry args t → (l : Live) → task_at s r ≡ Some l → steps_to p s l (next p l.task) ≡ None → Held_up s t r (held (next p l.task))
  held_up r s t (orders ls ms w log kept all) here there l e waits = go (found r ms) refl (subst (λ o. SameFound Like Kept p q entry args A o (found r ms)) e (all r)) where
    at_r : l.path ≡ r
    at_r = found_path r ls l e

    go : (y : Option Live) → found r ms ≡ y → SameFound Like Kept p q entry args A (Some l) y → Held_up (record { live = ls; world = w; log = log }) (record { live = ms; world = w; log = log }) r (held (next p l.task))
    go y f (twice _ m path taken has) =
        let el : found l.path ls ≡ Some l = subst (λ z. found z ls ≡ Some l) (sym at_r) e in
        let fl : found l.path ms ≡ Some m = subst (λ z. found z ms ≡ Some m) (sym at_r) f in
        let fm : found m.path ms ≡ Some m = subst (λ z. found z ms ≡ Some m) (sym path) fl in
        let meets = meets_now Like Kept p q entry args A (record { live = ls; world = w; log = log }) (record { live = ms; world = w; log = log }) here there l m el fm has in
        let to = comes ls w log l el waits l.task m.task meets refl ms all m fl path taken refl in (
          to.0,
          record { live = to.1; world = w; log = log },
          to.2,
          orders ls to.1 w log kept to.3,
          subst (λ z. Step q (record { live = to.1; world = w; log = log }) z ≡ held (next p l.task)) at_r to.4,
          λ x n idle. stays_idle q w log ms to.1 x (to.5 x (subst (λ z. same_path z x ≡ false) (sym at_r) n)) idle,
        )

  -- a step of the first that isn't taken
  follows_held : (k : Took Order TraceEntry) (r : Path) (s t : Order) → Match s t → ((s : Order) (shown : List TraceEntry) → Takes s shown ≡ k → ⊥) → (l : Live) → task_at s r ≡ Some l → takes p s l ≡ k → Held_up s t r k
  follows_held k r s t m no' l e h =
      let was = not_taken (next p l.task) l (steps_to p s l (next p l.task)) k h no' in
      subst (Held_up s t r) was.1 (held_up r s t m.0 m.1 m.2 l e was.0)

  idle≢stopped : ◌≡◌ {A = Took Order TraceEntry} Idle Stopped → ⊥
  idle≢stopped e = cc

  follows : (r : Path) (s t : Order) → Match s t → (k : Took Order TraceEntry) → Step p s r ≡ k → (o : Option Live) → task_at s r ≡ o → Owes M N Match k t
  follows r s t m Stuck e o f = absurd (never_stuck o e') where
    e' : maybe Idle (takes p s) o ≡ Stuck
    e' = ap (maybe Idle (takes p s)) (sym f) ∙ e

    held_so : (n : Next) → held n ≡ Stuck → ⊥
    held_so (Goes u) h = cc
    held_so (Asks at (Reads b i) xs u) h = cc
    held_so (Asks at (Writes b i v) xs u) h = cc
    held_so (Asks at (Allocs dims) xs u) h = cc
    held_so (Asks at (Creates v) xs u) h = cc
    held_so (Asks at (Adds g x used) xs u) h = cc
    held_so (Asks at (Launches c r) xs u) h = cc
    held_so (Asks at (Enters loop) xs u) h = cc
    held_so (Asks at (JoinsAll loop) xs u) h = cc
    held_so (Asks at (AwaitsOne x) xs u) h = cc
    held_so (Asks at (AwaitsAll g) xs u) h = cc
    held_so (Ends o) h = cc

    by_stuck : (n : Next) (l : Live) (o : Option Order) → by n l o ≡ Stuck → ⊥
    by_stuck n l None h = held_so n h
    by_stuck n l (Some x) h = cc

    never_stuck : (o : Option Live) → maybe Idle (takes p s) o ≡ Stuck → ⊥
    never_stuck None h = cc
    never_stuck (Some l) h = by_stuck (next p l.task) l (steps_to p s l (next p l.task)) h
  follows r s t m Idle e o f = tt
  follows r s t m Stopped e None f = absurd (idle≢stopped (ap (maybe Idle (takes p s)) (sym f) ∙ e))
  follows r s t m Stopped e (Some l) f =
      let up = follows_held Stopped r s t m took≢stopped l f (ap (maybe Idle (takes p s)) (sym f) ∙ e) in
      (up.1, silent up.0 t up.1 up.2 (same_log s up.1 up.3 ∙ sym (same_log s t m.0)), (r, up.4))
  follows r s t m (Takes a shown) e o f =
      let was = was_step p entry args s r (task_at s r) refl a shown e in
      let led = one_step Like Kept p q entry args A r s t a m.0 m.1 m.2 was.0 in (
        led.1,
        shows led.0 t led.1 shown led.2 (ap shown_in (same_log a led.1 led.3) ∙ (was.1 ∙ ap (λ l. shown_in l ++ shown) (sym (same_log s t m.0)))),
        (led.3, reached_on Like Kept p q entry args A p s a (r ∷ []) m.1 (run_one p r s a was.0), reached_on Like Kept p q entry args A q t led.1 led.0 m.2 led.2),
      )

  -- ---- ends

  no_one : (ls : List Live) → SameLives ls [] → ls ≡ []
  no_one [] h = refl
  no_one (l ∷ ls) h = absurd (nobody (subst (λ b. SameFound Like Kept p q entry args A (cond b (Some l) (found l.path ls)) None) (path_same l.path) (h l.path))) where
    nobody : SameFound Like Kept p q entry args A (Some l) None → ⊥
    nobody h = elim h [ ]

  ended_end : (w : World) (e : SourceEnd) (o : Option Outcome) → option_map (end_of p entry w) o ≡ Some e → option_map (end_of q entry w) o ≡ Some e
  ended_end w e None h = absurd (none≢some e h)
  ended_end w e (Some o) h = ap Some (A.ends w o) ∙ h

  ended_back : (w : World) (e : SourceEnd) (o : Option Outcome) → option_map (end_of q entry w) o ≡ Some e → option_map (end_of p entry w) o ≡ Some e
  ended_back w e None h = absurd (none≢some e h)
  ended_back w e (Some o) h = ap Some (sym (A.ends w o)) ∙ h

  ends_so : (s t : Order) → Same s t → (e : SourceEnd) → M.Ended s e → N.Ended t e
  ends_so s t (orders ls ms w log kept all) e h = (none_left Like Kept p q entry args A ms (subst (λ xs. SameLives xs ms) h.0 all), ended_end w e (outcome w []) h.1)

  ends_back : (s t : Order) → Same s t → (e : SourceEnd) → N.Ended t e → M.Ended s e
  ends_back s t (orders ls ms w log kept all) e h = (no_one ls (subst (λ xs. SameLives ls xs) h.0 all), ended_back w e (outcome w []) h.1)

  -- ---- rests

  -- each task that isn't among these is idle
  abbrev Idle_but : List Live → Order → Type 0
  Idle_but ls t = (r : Path) → found r ls ≡ None → Step q t r ≡ Idle

  nobody_there : (r : Path) (s t : Order) → Same s t → task_at s r ≡ None → Step q t r ≡ Idle
  nobody_there r s t (orders ls ms w log kept all) e = go (found r ms) refl (subst (λ o. SameFound Like Kept p q entry args A o (found r ms)) e (all r)) where
    go : (y : Option Live) → found r ms ≡ y → SameFound Like Kept p q entry args A None y → Step q (record { live = ms; world = w; log = log }) r ≡ Idle
    go y f nowhere = ap (maybe Idle (takes q (record { live = ms; world = w; log = log }))) f

  -- the task of this path comes to be idle too
  one_more : (r : Path) (s t : Order) → Match s t → Step p s r ≡ Idle → (o : Option Live) → task_at s r ≡ o → Held_up s t r Idle
  one_more r s t m e None f = ([], t, refl, m.0, nobody_there r s t m.0 f, λ x n h. h)
  one_more r s t m e (Some l) f = follows_held Idle r s t m took≢idle l f (ap (maybe Idle (takes p s)) (sym f) ∙ e)

  all_rest : (ls : List Live) (s t : Order) → Match s t → IsStill M s → Idle_but ls t → (qs : List Path) × (u : Order) × (run q qs t ≡ Some u) × Same s u × IsStill N u
  all_rest [] s t m still idle = ([], t, refl, m.0, λ r. idle r refl)
  all_rest (l ∷ ls) s t m still idle =
      let one = one_more l.path s t m (still l.path) (task_at s l.path) refl in
      let now : IsReached q entry args one.1 = reached_on Like Kept p q entry args A q t one.1 one.0 m.2 one.2 in
      let rest = all_rest ls s one.1 (one.3, m.1, now) still (λ r none. split (same_path l.path r) r refl none one.1 one.4 one.5) in
      (one.0 ++ rest.0, rest.1, run_on q one.0 rest.0 t one.1 rest.1 one.2 rest.2, rest.3, rest.4)
    where
      split : (b : Bool) → (r : Path) → same_path l.path r ≡ b → found r ls ≡ None → (u : Order) → Step q u l.path ≡ Idle → ((x : Path) → same_path l.path x ≡ false → Step q t x ≡ Idle → Step q u x ≡ Idle) → Step q u r ≡ Idle
      split true r e none u at_l others = subst (λ z. Step q u z ≡ Idle) (path_yes l.path r e) at_l
      split false r e none u at_l others = others r e (idle r (ap (λ b. cond b (Some l) (found r ls)) e ∙ none))

  rests : (s t : Order) → Match s t → IsStill M s → (c : Order) × machine.Reaches N t [] c × IsStill N c × ((e : SourceEnd) → N.Ended c e → M.Ended s e)
  rests s t m still =
      let on = all_rest s.live s t m still (λ r none. nobody_there r s t m.0 none) in
      (on.1, silent on.0 t on.1 on.2 (same_log s on.1 on.3 ∙ sym (same_log s t m.0)), on.4, ends_back s on.1 on.3)

  simulates : Simulates M N Match
  simulates = record {
    starts = (started Like Kept p q entry args A, record { order = []; comes = refl }, record { order = []; comes = refl });
    follows = λ s t m safe r. follows r s t m (Step p s r) refl (task_at s r) refl;
    ends = λ s t m safe e ended. (t, stays N t, ends_so s t m.0 e ended);
    rests = λ s t m safe still. rests s t m still;
  }

  pub agreeing_carries : Carries M N
  agreeing_carries = simulation_carries M N Match simulates

pub carry_each_other : (Like : Task → Task → Type 0) (Kept : World → Type 0) (p q : Program) (entry : ℕ) (args : List ArgValue) → Agreement Like Kept p q entry args → CarryEachOther p q entry args
carry_each_other Like Kept p q entry args A = (agreeing_carries (λ u t. Like t u) Kept q p entry args (turned Like Kept p q entry args A), agreeing_carries Like Kept p q entry args A)

pub agreeing_carry : (like : Program → Program → Task → Task → Type 0) (kept : World → Type 0) → AgreeingCarry like kept
agreeing_carry like kept p q entry args A = carry_each_other (like p q) kept p q entry args A

pub renamed_carry : RenamedCarry
renamed_carry σ p q entry args inj renamed = carry_each_other (LikeTask σ) (λ w. ⊤) p q entry args (renamed_programs_agree σ p q entry args inj renamed)
