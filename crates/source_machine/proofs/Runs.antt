-- The machine's runs are the runs in any order of tasks.
use Rattle.std.specs.Prelude.{cond}
use Rattle.std.proofs.Common.{◌≡◌, ℕ, Bool, true, false, List, [], ◌∷◌, ◌++◌, Option, Some, None, refl, sym, ap, ◌∙◌, subst, append_assoc}
use Rattle.ir_forms.specs.declared.args.ArgValue.{ArgValue}
use Rattle.ir_forms.specs.declared.names.TraceEntry.{TraceEntry}
use Rattle.ir_forms.specs.Names.{Path}
use Rattle.machines.specs.Machine.{Idle, Takes, IsNotStuck}
use Rattle.machines.specs.Machine as machine
use Rattle.machines.proofs.Runs.{append_none, no_steps, more_steps}
use Rattle.source_meaning.specs.Values.{maybe}
use Rattle.source_meaning.specs.Tasks.{Program, Reads, Writes, Allocs, Creates, Adds, Launches, Enters, JoinsAll, AwaitsOne, AwaitsAll, Next, Goes, Asks, Ends}
use Rattle.source_meaning.specs.Steps.{next}
use Rattle.source_meaning.specs.World.{answer, enabled}
use Rattle.source_meaning.specs.TaskOrder.{Live, Event, Order, acts, steps_to, task_at, and_then, step, run, first_order, shown_in}
use Rattle.source_machine.specs.Source.{shown_by, held, takes, source}
use Rattle.source_machine.specs.Laws.{ReachesTheSame, FinishesTheSame, IsNeverStuck}

none≢some : {X : Type 0} (x : X) → None ≡ Some x → ⊥
none≢some x e = cc

shown_on : (log more : List Event) → shown_in (log ++ more) ≡ shown_in log ++ shown_in more
shown_on [] more = refl
shown_on (e ∷ log) more = ap (λ l. record { task = e.path; action = e.action } ∷ l) (shown_on log more)

-- a step adds to the log what the machine shows of it
logs : (p : Program) (s t : Order) (l : Live) (n : Next) → steps_to p s l n ≡ Some t → shown_in t.log ≡ shown_in s.log ++ shown_by l n
logs p s t l (Goes u) e = ap (λ (o : Order). shown_in o.log) (sym (inside e)) ∙ sym (append_none (shown_in s.log)) where
  inside : {x : Order} → Some x ≡ Some t → x ≡ t
  inside h = cc
logs p s t l (Asks at ask xs u) e = split (enabled s.world l.path l.taken ask) e where
  split : (b : Bool) → cond b (Some (acts p s l ask (answer s.world l.path l.taken ask))) None ≡ Some t → shown_in t.log ≡ shown_in s.log ++ shown_by l (Asks at ask xs u)
  split false h = absurd (none≢some t h)
  split true h = let same : acts p s l ask (answer s.world l.path l.taken ask) ≡ t = cc in ap (λ (o : Order). shown_in o.log) (sym same) ∙ shown_on s.log _
logs p s t l (Ends o) e = ap (λ (x : Order). shown_in x.log) (sym (inside e)) ∙ shown_on s.log _ where
  inside : {x : Order} → Some x ≡ Some t → x ≡ t
  inside h = cc

module _ (p : Program) (entry : ℕ) (args : List ArgValue) where
  -- a step that the machine takes is a step
  was : (s : Order) (l : Live) (n : Next) (o : Option Order) → steps_to p s l n ≡ o → (t : Order) (shown : List TraceEntry) → maybe (held n) (λ after. Takes after (shown_by l n)) o ≡ Takes t shown →
      (steps_to p s l n ≡ Some t) × (shown_in t.log ≡ shown_in s.log ++ shown)
  was s l n None e t shown h = absurd (never n h) where
    never : (n : Next) → held n ≡ Takes t shown → ⊥
    never (Goes u) h = cc
    never (Asks at (Reads b i) xs u) h = cc
    never (Asks at (Writes b i v) xs u) h = cc
    never (Asks at (Allocs dims) xs u) h = cc
    never (Asks at (Creates v) xs u) h = cc
    never (Asks at (Adds g x used) xs u) h = cc
    never (Asks at (Launches c r) xs u) h = cc
    never (Asks at (Enters loop) xs u) h = cc
    never (Asks at (JoinsAll loop) xs u) h = cc
    never (Asks at (AwaitsOne x) xs u) h = cc
    never (Asks at (AwaitsAll g) xs u) h = cc
    never (Ends o) h = cc
  was s l n (Some a) e t shown h =
      let same : a ≡ t = cc in
      let list : shown_by l n ≡ shown = cc in
      let at : steps_to p s l n ≡ Some t = e ∙ ap Some same in
      (at, logs p s t l n at ∙ ap (λ x. shown_in s.log ++ x) list)

  pub was_step : (s : Order) (q : Path) (o : Option Live) → task_at s q ≡ o → (t : Order) (shown : List TraceEntry) → maybe Idle (takes p s) o ≡ Takes t shown →
      (step p q s ≡ Some t) × (shown_in t.log ≡ shown_in s.log ++ shown)
  was_step s q None e t shown h = cc
  was_step s q (Some l) e t shown h =
      let one = was s l (next p l.task) (steps_to p s l (next p l.task)) refl t shown h in
      (ap (and_then (λ x. steps_to p s x (next p x.task))) e ∙ one.0, one.1)

  -- and the other way round
  is_step : (s : Order) (q : Path) (o : Option Live) → task_at s q ≡ o → (t : Order) → and_then (λ l. steps_to p s l (next p l.task)) o ≡ Some t →
      (shown : List TraceEntry) × (maybe Idle (takes p s) o ≡ Takes t shown) × (shown_in t.log ≡ shown_in s.log ++ shown)
  is_step s q None e t h = absurd (none≢some t h)
  is_step s q (Some l) e t h = (shown_by l (next p l.task), ap (maybe (held (next p l.task)) (λ after. Takes after (shown_by l (next p l.task)))) h, logs p s t l (next p l.task) h)

  forth : (qs : List Path) (s t : Order) (shown : List TraceEntry) → machine.run (source p entry args) qs s ≡ Some (t, shown) → (run p qs s ≡ Some t) × (shown_in t.log ≡ shown_in s.log ++ shown)
  unfolding machine.run
  forth [] s t shown e =
      let none = no_steps s t shown e in
      (ap Some none.0, ap (λ (x : Order). shown_in x.log) (sym none.0) ∙ (sym (append_none (shown_in s.log)) ∙ ap (λ l. shown_in s.log ++ l) none.1))
  forth (q ∷ qs) s t shown e =
      let one = more_steps (source p entry args) qs (maybe Idle (takes p s) (task_at s q)) t shown e in
      let first = was_step s q (task_at s q) refl one.0 one.1 one.3 in
      let rest = forth qs one.0 t one.2 one.4 in (
        ap (and_then (run p qs)) first.0 ∙ rest.0,
        rest.1 ∙ (ap (λ l. l ++ one.2) first.1 ∙ (append_assoc (shown_in s.log) one.1 one.2 ∙ ap (λ l. shown_in s.log ++ l) one.5)),
      )

  then_on : (o : Option Order) (f : Order → Option Order) (t : Order) → and_then f o ≡ Some t → (s : Order) × (o ≡ Some s) × (f s ≡ Some t)
  then_on None f t e = absurd (none≢some t e)
  then_on (Some s) f t e = (s, refl, e)

  pub back : (qs : List Path) (s t : Order) → run p qs s ≡ Some t → (shown : List TraceEntry) × (machine.run (source p entry args) qs s ≡ Some (t, shown)) × (shown_in t.log ≡ shown_in s.log ++ shown)
  unfolding machine.run
  back [] s t e =
      let same : s ≡ t = cc in
      ([], ap (λ (x : Order). Some (x, [])) same, ap (λ (x : Order). shown_in x.log) (sym same) ∙ sym (append_none (shown_in s.log)))
  back (q ∷ qs) s t e =
      let one = then_on (step p q s) (run p qs) t e in
      let first = is_step s q (task_at s q) refl one.0 one.1 in
      let rest = back qs one.0 t one.2 in (
        first.0 ++ rest.0,
        ap (machine.and_runs (source p entry args) (machine.run (source p entry args) qs)) first.1 ∙ ap (machine.shown_before (source p entry args) first.0) rest.1,
        rest.2 ∙ (ap (λ l. l ++ rest.0) first.2 ∙ append_assoc (shown_in s.log) first.0 rest.0),
      )

pub reaches_the_same : ReachesTheSame
reaches_the_same p entry args s = (
  (λ shown r. (let on = forth p entry args r.0 (first_order p entry args) s shown r.1 in (record { order = r.0; comes = on.0 }, on.1))),
  (λ r. (
      let on = back p entry args r.order (first_order p entry args) s r.comes in
      (r.order, on.1 ∙ ap (λ (l : List TraceEntry). Some (s, l)) (sym on.2)))),
)

pub finishes_the_same : FinishesTheSame
finishes_the_same p entry args shown end = (
  (λ f. (let on = (reaches_the_same p entry args f.0).0 shown f.1 in record { last = f.0; reached = on.0; finished = f.2.0; shows = on.1; ends = f.2.1 })),
  (λ f. (f.last, subst (λ l. machine.IsReached (source p entry args) l f.last) f.shows ((reaches_the_same p entry args f.last).1 f.reached), (f.finished, f.ends))),
)

-- ---- it is never stuck

module _ (p : Program) (entry : ℕ) (args : List ArgValue) where
  held_so : (n : Next) → IsNotStuck (source p entry args) (held n)
  held_so (Goes u) = tt
  held_so (Asks at (Reads b i) xs u) = tt
  held_so (Asks at (Writes b i v) xs u) = tt
  held_so (Asks at (Allocs dims) xs u) = tt
  held_so (Asks at (Creates v) xs u) = tt
  held_so (Asks at (Adds g x used) xs u) = tt
  held_so (Asks at (Launches c r) xs u) = tt
  held_so (Asks at (Enters loop) xs u) = tt
  held_so (Asks at (JoinsAll loop) xs u) = tt
  held_so (Asks at (AwaitsOne x) xs u) = tt
  held_so (Asks at (AwaitsAll g) xs u) = tt
  held_so (Ends o) = tt

  taken_so : (l : Live) (n : Next) (o : Option Order) → IsNotStuck (source p entry args) (maybe (held n) (λ after. Takes after (shown_by l n)) o)
  taken_so l n None = held_so n
  taken_so l n (Some after) = tt

  step_so : (s : Order) (o : Option Live) → IsNotStuck (source p entry args) (maybe Idle (takes p s) o)
  step_so s None = tt
  step_so s (Some l) = taken_so l (next p l.task) (steps_to p s l (next p l.task))

pub never_stuck : IsNeverStuck
never_stuck p entry args shown s r q = step_so p entry args s (task_at s q)
