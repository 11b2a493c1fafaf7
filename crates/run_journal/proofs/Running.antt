-- What the loops that take bursts and entries keep, by the run before and after.
use Rattle.std.proofs.Common.{◌≡◌, ◌≢◌, ◌⊎◌, ℕ, ◌+◌, ◌<◌, ◌≤◌, ◌-◌, ◌^◌, MatchOption, [], ◌∷◌, zero, suc, slice_get, Bool, true, false, List, length, get_or, Option, Some, None, refl, sym, ap, subst, ◌∙◌, inl, inr, arith}
use Rattle.ir_forms.specs.declared.args.ArgValue.{ArgValue}
use Rattle.ir_forms.specs.declared.runs.FuncNo.{FuncNo}
use Rattle.ir_forms.specs.declared.runs.ObjNo.{ObjNo}
use Rattle.low_forms.specs.declared.code.LowFunc.{LowFunc}
use Rattle.low_forms.specs.declared.code.LowModule.{LowModule}
use Rattle.step_core.specs.declared.ends.Entry.{Entry}
use Rattle.step_core.specs.declared.ends.Step.{Step}
use Rattle.step_core.specs.declared.ends.Step.TheVariants as step
use Rattle.step_core.specs.declared.limits.Limit.{Limit}
use Rattle.step_core.specs.declared.limits.Limits.{Limits}
use Rattle.step_core.specs.Shared.{Took, Takes}
use Rattle.step_core.specs.Core.{Core, IsStep, limited_step, start}
use Rattle.step_core.specs.Runs.{after, next_is_local, longest_burst}
use Rattle.step_core.specs.Running.{Running}
use Rattle.step_core.specs.declared.tasks.Task.{Task}
use Rattle.step_core.specs.Tasks.{in_table, IsReady}
use Rattle.run_journal.specs.Within.{step_within, burst_within, entry_within}
use Rattle.run_journal.specs.Growth.{HasRoom, IsWithin}
use Rattle.run_journal.specs.Replay.{look, local_ahead}
use Rattle.run_journal.specs.declared.faults.TaskLook.{TaskLook}
use Rattle.run_journal.proofs.Steps.{OnlySteps}
use Rattle.run_journal.proofs.Bursts.{IsBegun, burst_left, next_begun, begun_ends, begun_whole}
use Rattle.run_journal.proofs.Entries.{IsReplayed, after_full, after_short, entry_agrees, entry_differs, entry_refused, gone_none, parked_none, replay_next, seen_none, seen_parked, seen_ready, starts_are_within}

-- ---- what a step answers

abbrev pub Answered : Step → Core → Core → Took Core → Type 0
Answered step.Stepped old new took = after took ≡ Some new
Answered step.NotReady old new took = (after took ≡ None) × (new ≡ old)
Answered (step.Stop l) old new took = (after took ≡ None) × (new ≡ old)

pub answered : (answer : Step) (old new : Core) (took : Took Core) → IsStep answer old new took → Answered answer old new took
answered step.Stepped old new took is = ap after is.2
answered step.NotReady old new took is = (elim is.0 [ inl stuck ↦ ap after stuck | inr idle ↦ ap after idle ], is.1)
answered (step.Stop l) old new took is = (ap after is.0, is.1)

-- the answer of a step that isn't taken
abbrev pub IsRefused : Step → Type 0
IsRefused answer = (answer ≡ step.NotReady) ⊎ ((l : Limit) × (answer ≡ step.Stop l))

-- which changes nothing
pub unanswered : (answer : Step) (old new : Core) (took : Took Core) → IsRefused answer → IsStep answer old new took → (after took ≡ None) × (new ≡ old)
unanswered answer old new took (inl same) is = answered step.NotReady old new took (subst (λ a. IsStep a old new took) same is)
unanswered answer old new took (inr stops) is = answered (step.Stop stops.0) old new took (subst (λ a. IsStep a old new took) stops.1 is)

-- ---- a burst

abbrev pub Begun : Running → Running → ℕ → ℕ → Type 0
Begun start now t taken = (now.code ≡ start.code) × (now.limits ≡ start.limits) × IsBegun start.limits start.code start.core now.core t taken

same_step : (start now : Running) (t taken : ℕ) (o : Option Core) → Begun start now t taken → step_within now.limits now.code t now.core ≡ o → step_within start.limits start.code t now.core ≡ o
same_step start now t taken o so is = ap (λ l. step_within l start.code t now.core) (sym so.1) ∙ (ap (λ code. step_within now.limits code t now.core) (sym so.0) ∙ is)

same_local : (start now : Running) (t taken : ℕ) (result b : Bool) → Begun start now t taken → result ≡ next_is_local now.code now.core t → result ≡ b → next_is_local start.code now.core t ≡ b
same_local start now t taken result b so is value = ap (λ code. next_is_local code now.core t) (sym so.0) ∙ (sym is ∙ value)

pub burst_at_shared : (start now : Running) (t taken : ℕ) (result : Bool) → Begun start now t taken → result ≡ next_is_local now.code now.core t → result ≡ false →
    burst_within start.limits start.code longest_burst t start.core ≡ (taken, now.core)
burst_at_shared start now t taken result so is value = begun_ends start.limits start.code start.core now.core t taken so.2 (inl (same_local start now t taken result false so is value))

pub burst_refused : (start now new : Running) (t taken : ℕ) (answer : Step) → Begun start now t taken → IsRefused answer →
    IsStep answer now.core new.core (limited_step now.limits now.code now.core t) → burst_within start.limits start.code longest_burst t start.core ≡ (taken, new.core)
burst_refused start now new t taken answer so other is =
    let refused = unanswered answer now.core new.core (limited_step now.limits now.code now.core t) other is in
    begun_ends start.limits start.code start.core now.core t taken so.2 (inr (same_step start now t taken None so refused.0)) ∙ ap (λ c. (taken, c)) (sym refused.1)

pub burst_next : (start now new : Running) (t taken : ℕ) (result : Bool) → Begun start now t taken → taken < longest_burst → result ≡ next_is_local now.code now.core t → result ≡ true →
    IsStep step.Stepped now.core new.core (limited_step now.limits now.code now.core t) → (new.code ≡ now.code) × (new.limits ≡ now.limits) → Begun start new t (taken + 1)
burst_next start now new t taken result so below is value stepped same = (
  same.0 ∙ so.0,
  same.1 ∙ so.1,
  next_begun start.limits start.code start.core now.core new.core t taken so.2 below (same_local start now t taken result true so is value)
      (same_step start now t taken (Some new.core) so (answered step.Stepped now.core new.core (limited_step now.limits now.code now.core t) stepped)),
)

pub burst_whole : (start now : Running) (t taken : ℕ) → Begun start now t taken → longest_burst ≤ taken → taken ≤ longest_burst → burst_within start.limits start.code longest_burst t start.core ≡ (longest_burst, now.core)
burst_whole start now t taken so high low = begun_whole start.limits start.code start.core now.core t taken so.2 high low

-- ---- an entry of a task that is ready, by the burst of so many steps that was taken

module _ (start mid : Running) (entry : Entry) (local : ℕ) (burst : burst_within start.limits start.code longest_burst entry.task start.core ≡ (local, mid.core)) where
  pub other_number : local ≢ entry.local → entry_within start.limits start.code start.core entry ≡ None
  other_number other = entry_differs start.limits start.code start.core entry (λ same. other (sym (ap (λ p. p.0) burst) ∙ same))

  pub full_burst : local ≡ entry.local → longest_burst ≤ local → entry_within start.limits start.code start.core entry ≡ Some mid.core
  full_burst same high =
      let high_too : longest_burst ≤ (burst_within start.limits start.code longest_burst entry.task start.core).0 = subst (λ p. longest_burst ≤ p.0) (sym burst) high in
      entry_agrees start.limits start.code start.core entry (Some mid.core) (ap (λ p. p.0) burst ∙ same)
      (after_full start.limits start.code entry.task (burst_within start.limits start.code longest_burst entry.task start.core) high_too ∙ ap (λ p. Some p.1) burst)

  pub short_burst : (o : Option Core) → (mid.code ≡ start.code) × (mid.limits ≡ start.limits) → local ≡ entry.local → local ≢ longest_burst → step_within mid.limits mid.code entry.task mid.core ≡ o →
      entry_within start.limits start.code start.core entry ≡ o
  short_burst o kept same other step =
      let most : local ≤ longest_burst = subst (λ p. p.0 ≤ longest_burst) burst (burst_left start.limits start.code longest_burst entry.task start.core).1 in
      let below : local < longest_burst = omega (arith, most, other) in
      let below_too : (burst_within start.limits start.code longest_burst entry.task start.core).0 < longest_burst = subst (λ p. p.0 < longest_burst) (sym burst) below in
      let here : step_within start.limits start.code entry.task mid.core ≡ o =
      ap (λ l. step_within l start.code entry.task mid.core) (sym kept.1) ∙ (ap (λ code. step_within mid.limits code entry.task mid.core) (sym kept.0) ∙ step) in
      entry_agrees start.limits start.code start.core entry o (ap (λ p. p.0) burst ∙ same)
      (after_short start.limits start.code entry.task (burst_within start.limits start.code longest_burst entry.task start.core) below_too
      ∙ (ap (λ p. step_within start.limits start.code entry.task p.1) burst ∙ here))

-- ---- what is left of the numbers after a burst

abbrev Roomy : Core → Type 0
Roomy c = (c.plain.steps < 2 ^ 40) × (length c.plain.tasks < 2 ^ 32 - 1) × (length c.plain.objects < 2 ^ 32 - 1) × (length c.plain.buffers < 2 ^ 32 - 1)

only_room : (c mid : Core) (t n : ℕ) → HasRoom c → OnlySteps c mid t n → n ≤ longest_burst → Roomy mid
only_room c mid t n room keeps most = (
  omega (arith, room.steps, keeps.steps, most),
  omega (arith, room.tasks, keeps.tasks),
  omega (arith, room.objects, keeps.objects),
  omega (arith, room.buffers, keeps.buffers),
)

pub burst_room : (start mid : Running) (t local : ℕ) → HasRoom start.core → burst_within start.limits start.code longest_burst t start.core ≡ (local, mid.core) → Roomy mid.core
burst_room start mid t local room burst =
    let left = burst_left start.limits start.code longest_burst t start.core in
    subst (λ p. Roomy p.1) burst (only_room start.core (burst_within start.limits start.code longest_burst t start.core).1 t _ room left.0 left.1)

-- ---- an entry of a task that isn't there, or is parked

abbrev Refuses : Running → Entry → Option TaskLook → Type 0
Refuses start entry seen = (entry_within start.limits start.code start.core entry ≡ None) × (seen ≡ look start.limits start.code start.core entry.task)

pub refused_gone : (start : Running) (entry : Entry) → in_table start.core.plain.tasks entry.task ≡ None → Refuses start entry None
refused_gone start entry gone = (
  entry_refused start.limits start.code start.core entry (gone_none start.limits start.code start.core entry.task gone),
  seen_none start.limits start.code start.core entry.task gone,
)

pub refused_parked : (start : Running) (entry : Entry) (code : LowModule) (local : ℕ) (task : Task) (o : ObjNo) → start.code ≡ code → in_table start.core.plain.tasks entry.task ≡ Some task →
    task.parked ≡ Some o → local ≡ local_ahead code longest_burst task.stack → Refuses start entry (Some (record { parked = true; local = local }))
refused_parked start entry code local task o same there parked count = (
  entry_refused start.limits start.code start.core entry (parked_none start.limits start.code start.core entry.task task o there parked),
  seen_parked start.limits start.code start.core entry.task local task o there parked (count ∙ ap (λ x. local_ahead x longest_burst task.stack) (sym same)),
)

-- ---- a journal

abbrev pub Replays : Running → Running → List Entry → ℕ → Type 0
Replays start now journal k = (now.code ≡ start.code) × (now.limits ≡ start.limits) × IsReplayed start.limits start.code start.core now.core journal k

pub replays_next : (start now new : Running) (journal : List Entry) (k : ℕ) (d : Entry) → k < length journal → Replays start now journal k → (new.code ≡ now.code) × (new.limits ≡ now.limits) →
    entry_within now.limits now.code now.core (get_or journal k d) ≡ Some new.core → Replays start new journal (k + 1)
replays_next start now new journal k d below so same took = (
  same.0 ∙ so.0,
  same.1 ∙ so.1,
  replay_next start.limits start.code start.core now.core new.core journal k d below so.2
      (ap (λ l. entry_within l start.code now.core (get_or journal k d)) (sym so.1) ∙ (ap (λ code. entry_within now.limits code now.core (get_or journal k d)) (sym so.0) ∙ took)),
)

pub started_within : (o : Option LowFunc) (code : LowModule) (l : Limits) (n : FuncNo) (args : List ArgValue) (now : Running) → MatchOption o ⊥ (λ f. now ≡ record { code = code; limits = l; core = start n f args }) →
    length args < 2 ^ 31 → IsWithin 0 now.core
started_within None code l n args now is few = absurd is
started_within (Some f) code l n args now is few = subst (λ r. IsWithin 0 r.core) (sym is) (starts_are_within n f args few)

pub there_always : {X : Type 0} (xs : List X) (i : ℕ) (P : X → Type 0) → i < length xs → ((x : X) → P x) → MatchOption (slice_get xs i) ⊥ P
there_always [] i P below all = absurd (omega (arith, below))
there_always (x ∷ xs) zero P below all = all x
there_always (x ∷ xs) (suc i) P below all = there_always xs i P (omega (arith, below)) all
