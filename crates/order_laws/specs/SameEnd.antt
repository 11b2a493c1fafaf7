-- One end for every order of tasks, over the small steps of a module's tasks.
use Rattle.std.specs.Prelude.{◌≡◌, ℕ, cond, List, ◌++◌, map, Some, None}
use Rattle.ir_forms.specs.declared.args.ArgValue.{ArgValue}
use Rattle.ir_forms.specs.declared.names.Action.{Action}
use Rattle.ir_forms.specs.declared.names.Action.TheVariants as act
use Rattle.ir_forms.specs.declared.names.TraceEntry.{TraceEntry}
use Rattle.ir_forms.specs.declared.ops.Module.{Module}
use Rattle.ir_forms.specs.Names.{Path}
use Rattle.race_order.specs.Race.{IsOrdered}
use Rattle.source_meaning.specs.declared.ends.SourceEnd.{SourceEnd}
use Rattle.source_meaning.specs.Tasks.{Program, Answer}
use Rattle.source_meaning.specs.Sequential.{IsProgram, Means}
use Rattle.source_meaning.specs.TaskOrder.{Event, Order, IsReached, IsFinished, IsEnabled, shown_in, history, end_in}
use Rattle.source_meaning.specs.Runs.{IsEnd, Ends}

-- an answer, but for the rank of an add that isn't used
abbrev pub used_answer : Action → Answer → Answer
used_answer (act.Add g x used) r = cond used r None
used_answer a r = r

-- a task's actions and answers, but for those ranks
abbrev pub used_history : Path → List Event → List (Action × Answer)
used_history q log = map (λ e. (e.0, used_answer e.0 e.1)) (history q log)

-- the second list begins with the first
abbrev pub IsPrefix : {X : Type 0} → List X → List X → Type 0
IsPrefix {X} xs ys = (more : List X) × (xs ++ more ≡ ys)

-- What holds of a state that a run comes to, beside the last state of a finished and ordered run: what each task did is how
-- it begins there, a run that isn't finished goes on, and a finished one has the same end.
pub record Agrees (p : Program) (entry : ℕ) (last s : Order) : Type 0 where
  pub histories : (q : Path) → IsPrefix (used_history q s.log) (used_history q last.log)
  pub goes_on : (IsFinished s → ⊥) → (q : Path) × IsEnabled p s q
  pub one_end : IsFinished s → end_in p entry s ≡ end_in p entry last

-- Where a finished run of a module's function has an ordered trace, all its runs agree with it.
abbrev pub FinishedRunsAgree : Type 0
FinishedRunsAgree = (program : Module) (p : Program) (entry : ℕ) (args : List ArgValue) (last s : Order) →
    IsProgram program p → IsReached p entry args last → IsFinished last → IsOrdered (shown_in last.log) → IsReached p entry args s → Agrees p entry last s

-- the last state of the sequential run, with which each state that a run comes to agrees
pub record IsOneEnd (p : Program) (entry : ℕ) (args : List ArgValue) (end : SourceEnd) (trace : List TraceEntry) : Type 0 where
  pub last : Order
  pub reached : IsReached p entry args last
  pub finished : IsFinished last
  pub shows : shown_in last.log ≡ trace
  pub ends : end_in p entry last ≡ Some end
  pub others : (s : Order) → IsReached p entry args s → Agrees p entry last s

-- Where the sequential run of a module's function ends by its root and its trace is ordered, all its runs agree with it.
abbrev pub OneEndInAnyOrder : Type 0
OneEndInAnyOrder = (program : Module) (p : Program) (entry : ℕ) (args : List ArgValue) (end : SourceEnd) (trace : List TraceEntry) →
    IsProgram program p → Ends p entry args end trace → IsOrdered trace → IsOneEnd p entry args end trace

-- So it is where the sequential meaning with some fuel has this end and this trace.
abbrev pub MeaningIsOneEnd : Type 0
MeaningIsOneEnd = (program : Module) (entry fuel : ℕ) (args : List ArgValue) (end : SourceEnd) (trace : List TraceEntry) →
    Means program entry args fuel end trace → IsEnd end → IsOrdered trace → (p : Program) × IsProgram program p × IsOneEnd p entry args end trace
