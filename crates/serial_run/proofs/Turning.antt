-- What a turn comes to, by the burst and the step that it takes.
use Rattle.std.proofs.Common.{◌≡◌, ◌≢◌, ◌⊎◌, ℕ, ◌<◌, ◌≤◌, Option, Some, None, List, length, refl, sym, ap, subst, ◌∙◌, inl, inr, ⊎_elim, arith}
use Rattle.ir_forms.specs.declared.runs.TaskNo.{TaskNo}
use Rattle.low_forms.specs.declared.code.LowModule.{LowModule}
use Rattle.step_core.specs.declared.limits.Limit.{Limit}
use Rattle.step_core.specs.declared.limits.Limits.{Limits}
use Rattle.step_core.specs.State.{live_tasks}
use Rattle.step_core.specs.Shared.{Act, Took, Stuck, Idle, Stopped, Takes}
use Rattle.step_core.specs.Core.{Core, core_step, limited, limited_step, limit_at}
use Rattle.step_core.specs.Runs.{after, burst, longest_burst}
use Rattle.step_core.specs.declared.ends.Step.TheVariants as step
use Rattle.step_core.specs.Running.{Running, IsAnswer}
use Rattle.step_core.specs.Tasks.{IsReady}
use Rattle.run_journal.specs.Within.{burst_within, entry_within}
use Rattle.run_journal.proofs.Steps.{never_idle}
use Rattle.run_journal.proofs.Bursts.{Near, burst_left, burst_near}
use Rattle.run_journal.proofs.Entries.{after_full, after_short, entry_agrees}
use Rattle.serial_run.specs.Outcomes.{IsStuck, StopsAt}
use Rattle.serial_run.specs.Turns.{SameTasks}

-- ---- an entry that is taken

pub turn_short : (l : Limits) (code : LowModule) (c mid next : Core) (t local : ℕ) (ws : List TaskNo) (act : Act) → burst_within l code longest_burst t c ≡ (local, mid) → local < longest_burst →
    limited_step l code mid t ≡ Takes next ws act → entry_within l code c (record { task = t; local = local }) ≡ Some next
turn_short l code c mid next t local ws act taken below step =
    let below_too : (burst_within l code longest_burst t c).0 < longest_burst = subst (λ p. p.0 < longest_burst) (sym taken) below in
    entry_agrees l code c (record { task = t; local = local }) (Some next) (ap (λ p. p.0) taken)
    (after_short l code t (burst_within l code longest_burst t c) below_too ∙ (ap (λ p. after (limited_step l code p.1 t)) taken ∙ ap after step))

pub turn_full : (l : Limits) (code : LowModule) (c mid : Core) (t local : ℕ) → burst_within l code longest_burst t c ≡ (local, mid) → longest_burst ≤ local →
    entry_within l code c (record { task = t; local = local }) ≡ Some mid
turn_full l code c mid t local taken high =
    let high_too : longest_burst ≤ (burst_within l code longest_burst t c).0 = subst (λ p. longest_burst ≤ p.0) (sym taken) high in
    entry_agrees l code c (record { task = t; local = local }) (Some mid) (ap (λ p. p.0) taken)
    (after_full l code t (burst_within l code longest_burst t c) high_too ∙ ap (λ p. Some p.1) taken)

-- ---- one that isn't

pub turn_tasks : (l : Limits) (code : LowModule) (c mid : Core) (t local : ℕ) → burst_within l code longest_burst t c ≡ (local, mid) → SameTasks c mid
turn_tasks l code c mid t local taken = (
  subst (λ p. live_tasks p.1.plain.tasks ≡ live_tasks c.plain.tasks) taken (burst_left l code longest_burst t c).0.live,
  subst (λ p. length p.1.plain.tasks ≡ length c.plain.tasks) taken (burst_left l code longest_burst t c).0.tasks,
)

pub turn_stopped : (l : Limits) (code : LowModule) (c mid : Core) (t local : ℕ) (passed : Limit) → burst_within l code longest_burst t c ≡ (local, mid) → local < longest_burst →
    limited_step l code mid t ≡ Stopped passed →
    StopsAt passed l code c t
turn_stopped l code c mid t local passed taken below step =
    (subst (λ p. p.0 < longest_burst) (sym taken) below, ap (λ p. limited_step l code p.1 t) taken ∙ step)

limited_stuck : (passed : Option Limit) (took : Took Core) → limited passed took ≡ Stuck → took ≡ Stuck
limited_stuck passed Stuck is = refl
limited_stuck passed Idle is = cc
limited_stuck passed (Stopped l) is = cc
limited_stuck None (Takes next ws act) is = cc
limited_stuck (Some l) (Takes next ws act) is = cc

near_stuck : (l : Limits) (code : LowModule) (c : Core) (t : ℕ) → Near l code longest_burst t c (burst_within l code longest_burst t c) (burst code longest_burst t c) →
    (burst_within l code longest_burst t c).0 < longest_burst → limited_step l code (burst_within l code longest_burst t c).1 t ≡ Stuck → IsStuck code c t
near_stuck l code c t (inl same) below stuck =
    let end : Core = (burst_within l code longest_burst t c).1 in
    let plain : core_step code end t ≡ Stuck = limited_stuck (limit_at l code end t) (core_step code end t) stuck in
    (subst (λ p. p.0 < longest_burst) same below, subst (λ p. core_step code p.1 t ≡ Stuck) same plain)
near_stuck l code c t (inr stops) below stuck = absurd (let both : Stuck ≡ Stopped stops.1 = sym stuck ∙ stops.2 in cc both)

pub turn_stuck : (l : Limits) (code : LowModule) (c mid : Core) (t local : ℕ) → IsReady c.plain.tasks t → burst_within l code longest_burst t c ≡ (local, mid) → local < longest_burst →
    (limited_step l code mid t ≡ Stuck) ⊎ (limited_step l code mid t ≡ Idle) → IsStuck code c t
turn_stuck l code c mid t local r taken below why =
    let end_ready : IsReady mid.plain.tasks t = subst (λ p. IsReady p.1.plain.tasks t) taken ((burst_left l code longest_burst t c).0.ready r) in
    let stuck : limited_step l code mid t ≡ Stuck = ⊎_elim (λ is. is) (λ idle. absurd (never_idle l code mid t end_ready idle)) why in
    near_stuck l code c t (burst_near l code longest_burst t c) (subst (λ p. p.0 < longest_burst) (sym taken) below) (ap (λ p. limited_step l code p.1 t) taken ∙ stuck)

-- ---- by the burst and the step, of a run

module _ (start mid new : Running) (t local : ℕ) (taken : burst_within start.limits start.code longest_burst t start.core ≡ (local, mid.core)) (kept : (mid.code ≡ start.code) × (mid.limits ≡ start.limits)) where
  here : (took : Took Core) → limited_step mid.limits mid.code mid.core t ≡ took → limited_step start.limits start.code mid.core t ≡ took
  here took is = ap (λ l. limited_step l start.code mid.core t) (sym kept.1) ∙ (ap (λ code. limited_step mid.limits code mid.core t) (sym kept.0) ∙ is)

  below : local ≢ longest_burst → local < longest_burst
  below other = let most : local ≤ longest_burst = subst (λ p. p.0 ≤ longest_burst) taken (burst_left start.limits start.code longest_burst t start.core).1 in omega (arith, most, other)

  pub run_stepped : (before next : List TaskNo) → local ≢ longest_burst → IsAnswer step.Stepped mid new before next (limited_step mid.limits mid.code mid.core t) →
      entry_within start.limits start.code start.core (record { task = t; local = local }) ≡ Some new.core
  run_stepped before next other is =
      turn_short start.limits start.code start.core mid.core new.core t local is.0 is.2.0 taken (below other) (here (Takes new.core is.0 is.2.0) is.2.1)

  pub run_stopped : (before next : List TaskNo) (passed : Limit) → local ≢ longest_burst → IsAnswer (step.Stop passed) mid new before next (limited_step mid.limits mid.code mid.core t) →
      StopsAt passed start.limits start.code start.core t × SameTasks start.core new.core
  run_stopped before next passed other is = (
    turn_stopped start.limits start.code start.core mid.core t local passed taken (below other) (here (Stopped passed) is.0),
    subst (λ r. SameTasks start.core r.core) (sym is.1) (turn_tasks start.limits start.code start.core mid.core t local taken),
  )

  pub run_stuck : (before next : List TaskNo) → IsReady start.core.plain.tasks t → local ≢ longest_burst → IsAnswer step.NotReady mid new before next (limited_step mid.limits mid.code mid.core t) →
      IsStuck start.code start.core t × SameTasks start.core new.core
  run_stuck before next ready other is = (
    turn_stuck start.limits start.code start.core mid.core t local ready taken (below other)
        (⊎_elim (λ stuck. inl (here Stuck stuck)) (λ idle. inr (here Idle idle)) is.0),
    subst (λ r. SameTasks start.core r.core) (sym is.1) (turn_tasks start.limits start.code start.core mid.core t local taken),
  )
