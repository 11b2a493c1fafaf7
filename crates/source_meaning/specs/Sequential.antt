-- The sequential meaning: a launched task takes all its steps directly after its launch, the iterations of a parallel loop
-- theirs after it was entered, one after another.
use Rattle.std.specs.Prelude.{◌≡◌, ℕ, zero, suc, ◌+◌, nat_lt, nat_le, cond, Bool, true, false, List, [], ◌∷◌, ◌++◌, map, length, Option, Some, None}
use Rattle.ir_forms.specs.declared.ops.Module.{Module}
use Rattle.ir_verify.specs.Calls.{AreMarks, graph_of}
use Rattle.source_meaning.specs.declared.ends.SourceEnd.{SourceEnd}
use Rattle.source_meaning.specs.declared.ends.SourceEnd.TheVariants.{Short, Overfull, Cells, Spent}
use Rattle.ir_forms.specs.declared.names.TraceEntry.{TraceEntry}
use Rattle.ir_forms.specs.declared.names.Action.{Action}
use Rattle.ir_forms.specs.declared.args.ArgValue.{ArgValue}
use Rattle.source_meaning.specs.declared.values.Val.TheVariants.{Number}
use Rattle.ir_forms.specs.Names.{Path, launched_by, iteration_of}
use Rattle.source_meaning.specs.Values.{bind}
use Rattle.source_meaning.specs.Parts.{uses_of}
use Rattle.ir_forms.specs.Shapes.{product, most_cells}
use Rattle.source_meaning.specs.Rows.{variables}
use Rattle.source_meaning.specs.Tasks.{Program, Loop, Task, Ask, Allocs, Adds, Launches, JoinsAll, AwaitsAll, Answer, Outcome, Next, Goes, Asks, Ends, resumed}
use Rattle.source_meaning.specs.Steps.{next, begins}
use Rattle.source_meaning.specs.World.{World, members, size, answer, after, ended, shown, shown_end}
use Rattle.source_meaning.specs.Start.{first_world, root_task, end_of}

-- a task with its path, how many actions it has taken, and how many iterations of its last loop have begun
pub record Running : Type 0 where
  pub path : Path
  pub taken : ℕ
  pub begun : ℕ
  pub task : Task

-- a task that begins
abbrev pub born : Path → Task → Running
born q t = record { path = q; taken = 0; begun = 0; task = t }

-- iteration i of a loop, as a task
abbrev pub iteration : Loop → ℕ → Task
iteration loop i = record {
  pending = [];
  rest = loop.body;
  frames = [];
  scope = record loop.scope { env = bind loop.params (map Number (variables loop.spans i)) loop.scope.env };
}

-- the tasks that haven't ended, each below the one that it made; the shared state; and what was done
pub record Sequence : Type 0 where
  pub stack : List Running
  pub world : World
  pub trace : List TraceEntry

-- the run goes on, or is over with its end and trace
pub data Moved : Type 0 where
  On : Sequence → Moved
  Over : SourceEnd → List TraceEntry → Moved

-- what ends the whole run at an action
abbrev pub stops : World → Ask → Option SourceEnd
stops w (Allocs dims) = cond (nat_le (w.used + product dims) most_cells) None (Some (Cells w.used))
stops w (Adds g x used) = cond (nat_lt (length (members w g)) (size w g)) None (Some (Overfull g (size w g)))
stops w (AwaitsAll g) = cond (nat_lt (length (members w g)) (size w g)) (Some (Short g (length (members w g)) (size w g))) None
stops w _ = None

-- an entry of the trace
abbrev pub shows : Path → Action → TraceEntry
shows q a = record { task = q; action = a }

-- the task that a launch puts on top
abbrev pub launched : Path → ℕ → Ask → List Running
launched p k (Launches t r) = born (launched_by p k) t ∷ []
launched p k _ = []

-- the top task takes the action, and goes on as this one with the answer
abbrev pub takes : Sequence → Running → List Running → Ask → (Answer → Task) → Moved
takes s top below ask goes = On (record {
  stack = launched top.path (top.taken + 1) ask ++ record { path = top.path; taken = top.taken + 1; begun = 0; task = goes (answer s.world top.path top.taken ask) } ∷ below;
  world = after s.world top.path top.taken ask;
  trace = s.trace ++ shows top.path (shown ask) ∷ [];
})

-- the iteration of a loop that begins next, if one is left
abbrev pub begins_next : Running → Ask → Option Task
begins_next top (JoinsAll loop) = cond (nat_lt top.begun loop.total) (Some (iteration loop top.begun)) None
begins_next top _ = None

-- the end of a parallel loop waits for the iterations that are left
abbrev pub takes_or_begins : Sequence → Running → List Running → Ask → (Answer → Task) → Option Task → Moved
takes_or_begins s top below ask goes None = takes s top below ask goes
takes_or_begins s top below ask goes (Some t) =
    On (record s { stack = born (iteration_of top.path top.taken top.begun) t ∷ record top { begun = top.begun + 1 } ∷ below })

-- the run is over where something stops it
abbrev pub unless_stopped : Option SourceEnd → List TraceEntry → Moved → Moved
unless_stopped None trace goes = goes
unless_stopped (Some e) trace goes = Over e trace

-- the top task ends, and with the root the run
abbrev pub finishes : Program → ℕ → Sequence → Running → List Running → Outcome → Moved
finishes p entry s top [] o = Over (end_of p entry s.world o) (s.trace ++ shows top.path (shown_end o) ∷ [])
finishes p entry s top (r ∷ below) o = On (record {
  stack = r ∷ below;
  world = ended s.world top.path o;
  trace = s.trace ++ shows top.path (shown_end o) ∷ [];
})

-- what the run is after this step of its top task
abbrev pub moves_to : Program → ℕ → Sequence → Running → List Running → Next → Moved
moves_to p entry s top below (Goes t) = On (record s { stack = record top { task = t } ∷ below })
moves_to p entry s top below (Asks at ask xs t) =
    unless_stopped (stops s.world ask) s.trace (takes_or_begins s top below ask (resumed at xs t) (begins_next top ask))
moves_to p entry s top below (Ends o) = finishes p entry s top below o

-- the same, for the stack
abbrev pub move_of : Program → ℕ → Sequence → List Running → Moved
move_of p entry s [] = On s
move_of p entry s (top ∷ below) = moves_to p entry s top below (next p top.task)

-- One step of the top task.
abbrev pub move : Program → ℕ → Sequence → Moved
move p entry s = move_of p entry s s.stack

-- the run of the function at this place before its first step
abbrev pub start : Program → ℕ → List ArgValue → Sequence
start p entry args = record { stack = born [] (root_task p entry args) ∷ []; world = first_world args; trace = [] }

-- one step more, unless the run is over
abbrev pub and_moves : Program → ℕ → Moved → Moved
and_moves p entry (On s) = move p entry s
and_moves p entry (Over e trace) = Over e trace

-- n steps, without fuel
abbrev pub moves : Program → ℕ → ℕ → Sequence → Moved
moves p entry zero s = On s
moves p entry (suc n) s = and_moves p entry (moves p entry n s)

-- ---- with fuel, of which each operation that is begun takes one unit

-- the next step begins an operation
abbrev pub top_begins : List Running → Bool
top_begins [] = false
top_begins (top ∷ below) = begins top.task

-- how many operations were begun, and what it came to
abbrev pub Metered : Type 0
Metered = ℕ × Moved

-- one step more; a step that begins an operation comes only where fuel is left
abbrev pub burns : Program → ℕ → ℕ → ℕ → Bool → Sequence → Metered
burns p entry fuel begun false s = (begun, move p entry s)
burns p entry fuel begun true s = cond (nat_lt begun fuel) (begun + 1, move p entry s) (begun, Over (Spent fuel) s.trace)

-- one step more, unless the run is over
abbrev pub metered_on : Program → ℕ → ℕ → ℕ → Moved → Metered
metered_on p entry fuel begun (On s) = burns p entry fuel begun (top_begins s.stack) s
metered_on p entry fuel begun (Over e trace) = (begun, Over e trace)

-- n steps with so much fuel
abbrev pub metered : Program → ℕ → ℕ → ℕ → Sequence → Metered
metered p entry fuel zero s = (0, On s)
metered p entry fuel (suc n) s = metered_on p entry fuel (metered p entry fuel n s).0 (metered p entry fuel n s).1

-- the module's functions, with what the calls and the operands say of each
pub record IsProgram (program : Module) (p : Program) : Type 0 where
  pub funcs : p.funcs ≡ program.funcs
  pub called : AreMarks (graph_of program.funcs) p.called
  pub uses : p.uses ≡ map uses_of program.funcs

-- The sequential run of a function with these arguments and so much fuel has this end and this trace.
pub record Means (program : Module) (entry : ℕ) (args : List ArgValue) (fuel : ℕ) (end : SourceEnd) (trace : List TraceEntry) : Type 0 where
  pub p : Program
  pub exact : IsProgram program p
  pub steps : ℕ
  pub begun : ℕ
  pub comes : metered p entry fuel steps (start p entry args) ≡ (begun, Over end trace)
