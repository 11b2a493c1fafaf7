-- How the sequential run stands to the runs in any order of tasks, and what fuel changes.
use Rattle.std.specs.Prelude.{◌≡◌, ◌≤◌, ℕ, List, ⊤}
use Rattle.ir_forms.specs.declared.args.ArgValue.{ArgValue}
use Rattle.ir_forms.specs.declared.names.TraceEntry.{TraceEntry}
use Rattle.source_meaning.specs.declared.ends.SourceEnd.{SourceEnd}
use Rattle.source_meaning.specs.declared.ends.SourceEnd.TheVariants.{Done, Failed, Spent}
use Rattle.source_meaning.specs.Tasks.{Program}
use Rattle.source_meaning.specs.Sequential.{Over, moves, metered, start}
use Rattle.source_meaning.specs.TaskOrder.{Finishes}

-- the run ended by its root, and wasn't stopped
abbrev pub IsEnd : SourceEnd → Type 0
IsEnd (Done results buffers) = ⊤
IsEnd (Failed at) = ⊤
IsEnd _ = ⊥

-- the sequential run of a function ends so, with this trace
pub record Ends (p : Program) (entry : ℕ) (args : List ArgValue) (end : SourceEnd) (trace : List TraceEntry) : Type 0 where
  pub steps : ℕ
  pub comes : moves p entry steps (start p entry args) ≡ Over end trace
  pub is_end : IsEnd end

-- the sequential run is one of the runs
abbrev pub SequentialIsARun : Type 0
SequentialIsARun = (p : Program) (entry : ℕ) (args : List ArgValue) (end : SourceEnd) (trace : List TraceEntry) → Ends p entry args end trace → Finishes p entry args trace end

-- the end isn't that the fuel was spent
abbrev pub IsUnspent : SourceEnd → Type 0
IsUnspent (Spent fuel) = ⊥
IsUnspent _ = ⊤

-- with more fuel, a run whose end isn't that the fuel was spent comes to the same
abbrev pub MoreFuelIsTheSame : Type 0
MoreFuelIsTheSame = (p : Program) (entry fuel more n begun : ℕ) (args : List ArgValue) (end : SourceEnd) (trace : List TraceEntry) →
    metered p entry fuel n (start p entry args) ≡ (begun, Over end trace) → IsUnspent end → fuel ≤ more →
    metered p entry more n (start p entry args) ≡ (begun, Over end trace)
