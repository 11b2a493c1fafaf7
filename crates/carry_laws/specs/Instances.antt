-- Programs whose tasks agree: the same program, and one with its values under other names.
use Rattle.std.specs.Prelude.{◌≡◌, ℕ, List, ⊤}
use Rattle.ir_forms.specs.declared.args.ArgValue.{ArgValue}
use Rattle.ir_forms.specs.declared.names.TraceEntry.{TraceEntry}
use Rattle.ir_forms.specs.declared.ops.Module.{Module}
use Rattle.source_meaning.specs.declared.ends.SourceEnd.{SourceEnd}
use Rattle.source_meaning.specs.Runs.{Ends}
use Rattle.source_meaning.specs.Sequential.{IsProgram}
use Rattle.source_meaning.specs.TaskOrder.{Finishes}
use Rattle.source_meaning.specs.Tasks.{Program}
use Rattle.source_meaning.specs.Renaming.{IsRenamed, IsInjective, LikeTask}
use Rattle.carry_laws.specs.Agreement.{Agreement}
use Rattle.carry_laws.specs.Laws.{BothWays, FollowsEach, FollowsIn}

-- a program's tasks agree with themselves
abbrev pub ProgramAgreesWithItself : Type 0
ProgramAgreesWithItself = (p : Program) (entry : ℕ) (args : List ArgValue) → Agreement (λ t u. t ≡ u) (λ w. ⊤) p p entry args

-- with those of a program whose values have other names
abbrev pub RenamedProgramsAgree : Type 0
RenamedProgramsAgree = (σ : ℕ → ℕ → ℕ) (p q : Program) (entry : ℕ) (args : List ArgValue) → IsInjective σ → IsRenamed σ p q → Agreement (LikeTask σ) (λ w. ⊤) p q entry args

-- so their runs are the same: in sequence, in any order of tasks, and with enough fuel
pub record HaveSameRuns (one other : Module) (p q : Program) (entry : ℕ) (args : List ArgValue) : Type 0 where
  pub ends : (end : SourceEnd) (trace : List TraceEntry) → BothWays (Ends p entry args end trace) (Ends q entry args end trace)
  pub finishes : (trace : List TraceEntry) (end : SourceEnd) → BothWays (Finishes p entry args trace end) (Finishes q entry args trace end)
  pub means : FollowsIn one other entry args × FollowsIn other one entry args
  pub states : FollowsEach p q entry args × FollowsEach q p entry args

abbrev pub RenamedProgramsRunAlike : Type 0
RenamedProgramsRunAlike = (σ : ℕ → ℕ → ℕ) (one other : Module) (p q : Program) (entry : ℕ) (args : List ArgValue) → IsInjective σ → IsRenamed σ p q → IsProgram one p → IsProgram other q → HaveSameRuns one other p q entry args
