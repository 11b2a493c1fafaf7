-- The runs of a module's function in any order of tasks, as a machine. Who takes a step is a task, by its path.
use Rattle.std.specs.Prelude.{◌≡◌, ℕ, List, [], ◌∷◌, Some}
use Rattle.ir_forms.specs.declared.args.ArgValue.{ArgValue}
use Rattle.ir_forms.specs.declared.names.TraceEntry.{TraceEntry}
use Rattle.ir_forms.specs.Names.{Path}
use Rattle.machines.specs.Machine.{Took, Idle, Stopped, Takes, Machine}
use Rattle.source_meaning.specs.declared.ends.SourceEnd.{SourceEnd}
use Rattle.source_meaning.specs.Values.{maybe}
use Rattle.source_meaning.specs.Tasks.{Program, Adds, Next, Goes, Asks, Ends}
use Rattle.source_meaning.specs.Steps.{next}
use Rattle.source_meaning.specs.World.{shown, shown_end}
use Rattle.source_meaning.specs.Sequential.{shows}
use Rattle.source_meaning.specs.TaskOrder.{Live, Order, IsFinished, first_order, steps_to, task_at, end_in}

-- an action with its task; a step that nothing shared sees shows nothing
abbrev pub shown_by : Live → Next → List TraceEntry
shown_by l (Goes t) = []
shown_by l (Asks at ask xs t) = shows l.path (shown ask) ∷ []
shown_by l (Ends o) = shows l.path (shown_end o) ∷ []

-- where an action can't be taken, its task waits; but an add to a full group is stopped by the group's size
abbrev pub held : Next → Took Order TraceEntry
held (Asks at (Adds g x used) xs t) = Stopped
held _ = Idle

-- the next step of a task
abbrev pub takes : Program → Order → Live → Took Order TraceEntry
takes p s l = maybe (held (next p l.task)) (λ after. Takes after (shown_by l (next p l.task))) (steps_to p s l (next p l.task))

-- The function at this place with these arguments.
abbrev pub source : Program → ℕ → List ArgValue → Machine TraceEntry SourceEnd
source p entry args = record {
  State = Order;
  Who = Path;
  start = first_order p entry args;
  step = λ s q. maybe Idle (takes p s) (task_at s q);
  Ended = λ s end. IsFinished s × (end_in p entry s ≡ Some end);
}
