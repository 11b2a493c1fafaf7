-- The machine's runs are the runs in any order of tasks.
use Rattle.std.specs.Prelude.{◌≡◌, ℕ, List}
use Rattle.ir_forms.specs.declared.args.ArgValue.{ArgValue}
use Rattle.ir_forms.specs.declared.names.TraceEntry.{TraceEntry}
use Rattle.machines.specs.Machine as machine
use Rattle.machines.specs.Carries as carry
use Rattle.machines.specs.Carries.{NeverStuck}
use Rattle.source_meaning.specs.declared.ends.SourceEnd.{SourceEnd}
use Rattle.source_meaning.specs.Tasks.{Program}
use Rattle.source_meaning.specs.TaskOrder as order
use Rattle.source_meaning.specs.TaskOrder.{Order, shown_in}
use Rattle.source_machine.specs.Source.{source}

-- a state that it reaches is one that a run comes to, and what it shows is what that state logs; and the other way round
abbrev pub ReachesTheSame : Type 0
ReachesTheSame = (p : Program) (entry : ℕ) (args : List ArgValue) (s : Order) →
    ((shown : List TraceEntry) → machine.IsReached (source p entry args) shown s → order.IsReached p entry args s × (shown_in s.log ≡ shown)) ×
    (order.IsReached p entry args s → machine.IsReached (source p entry args) (shown_in s.log) s)

-- its finished runs are the finished runs, with the same lists and ends
abbrev pub FinishesTheSame : Type 0
FinishesTheSame = (p : Program) (entry : ℕ) (args : List ArgValue) (shown : List TraceEntry) (end : SourceEnd) →
    (carry.Finishes (source p entry args) shown end → order.Finishes p entry args shown end) ×
    (order.Finishes p entry args shown end → carry.Finishes (source p entry args) shown end)

-- it is never stuck
abbrev pub IsNeverStuck : Type 0
IsNeverStuck = (p : Program) (entry : ℕ) (args : List ArgValue) → NeverStuck (source p entry args)
