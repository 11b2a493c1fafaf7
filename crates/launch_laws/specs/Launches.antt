-- Whom a launch lets go on.
use Rattle.std.specs.Prelude.{◌≡◌, ℕ, true, List}
use Rattle.ir_forms.specs.declared.runs.TaskNo.{TaskNo}
use Rattle.low_forms.specs.declared.code.LowModule.{LowModule}
use Rattle.step_core.specs.Core.{Core, core_step}
use Rattle.step_core.specs.Enabled.{is_enabled}
use Rattle.step_core.specs.Shared.{Took, Stuck, Takes, Launches}
use Rattle.step_core.specs.Tasks.{IsReady}

-- a step of the first task leads from the first state to the second, and launches the other one
pub record IsLaunch (code : LowModule) (before after : Core) (t u : ℕ) : Type 0 where
  pub wakes : List TaskNo
  pub number : TaskNo
  pub names : number.0 ≡ u
  pub taken : core_step code before t ≡ Takes after wakes (Launches number)

abbrev pub LaunchReadiesBoth : Type 0
LaunchReadiesBoth = (code : LowModule) (before after : Core) (t u : ℕ) → IsLaunch code before after t u → IsReady after.plain.tasks t × IsReady after.plain.tasks u

-- what the next step of a task needs holds, if it is there and isn't parked
abbrev pub IsNotStuck : LowModule → Core → ℕ → Type 0
IsNotStuck code c t = core_step code c t ≡ Stuck → ⊥

abbrev pub LaunchEnablesBoth : Type 0
LaunchEnablesBoth = (code : LowModule) (before after : Core) (t u : ℕ) → IsLaunch code before after t u → ((v : ℕ) → IsNotStuck code after v) →
    (is_enabled (core_step code after t) ≡ true) × (is_enabled (core_step code after u) ≡ true)
