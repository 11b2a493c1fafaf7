-- Runs in any order of tasks: a list of paths, each of which names a task that takes its next step.
use Rattle.std.specs.Prelude.{◌≡◌, ℕ, zero, suc, ◌+◌, cond, Bool, true, false, List, [], ◌∷◌, ◌++◌, map, Option, Some, None, IsSome}
use Rattle.std.specs.List.{find}
use Rattle.std.specs.Option.{option_map}
use Rattle.source_meaning.specs.declared.ends.SourceEnd.{SourceEnd}
use Rattle.ir_forms.specs.declared.names.Action.{Action}
use Rattle.ir_forms.specs.declared.names.TraceEntry.{TraceEntry}
use Rattle.ir_forms.specs.declared.args.ArgValue.{ArgValue}
use Rattle.ir_forms.specs.Names.{Path, launched_by, iteration_of, same_path}
use Rattle.source_meaning.specs.Values.{maybe}
use Rattle.source_meaning.specs.Tasks.{Program, Task, Ask, Launches, Enters, Answer, Next, Goes, Asks, Ends, told}
use Rattle.source_meaning.specs.Steps.{next, after_answers}
use Rattle.source_meaning.specs.World.{World, answer, after, enabled, ended, outcome, numbers_from, shown, shown_end}
use Rattle.source_meaning.specs.Start.{first_world, root_task, end_of}
use Rattle.source_meaning.specs.Sequential.{iteration}

-- A task that hasn't ended: how it began, the answers to its steps so far, what it is now, and how many actions it took.
pub record Live : Type 0 where
  pub path : Path
  pub first : Task
  pub answers : List Answer
  pub task : Task
  pub taken : ℕ

-- an action that a task took, with the answer
pub record Event : Type 0 where
  pub path : Path
  pub action : Action
  pub answer : Answer

-- the tasks that haven't ended, the shared state, and the actions so far
pub record Order : Type 0 where
  pub live : List Live
  pub world : World
  pub log : List Event

-- a task that begins
abbrev pub newly : Path → Task → Live
newly q t = record { path = q; first = t; answers = []; task = t; taken = 0 }

-- the tasks that the k-th action of p makes
abbrev pub made_by : Path → ℕ → Ask → List Live
made_by p k (Launches t r) = newly (launched_by p k) t ∷ []
made_by p k (Enters loop) = map (λ i. newly (iteration_of p k i) (iteration loop i)) (numbers_from 0 loop.total)
made_by p k _ = []

-- the task after its next step, to which this is the answer
abbrev pub moved : Program → Live → Answer → ℕ → Live
moved p l a taken = record { path = l.path; first = l.first; answers = l.answers ++ a ∷ []; task = told (next p l.task) l.task a; taken = taken }

-- with this task in the place of the one of its path
abbrev pub replaced : Live → List Live → List Live
replaced l live = map (λ m. cond (same_path m.path l.path) l m) live

-- without the task of this path
abbrev pub without : Path → List Live → List Live
without q [] = []
without q (l ∷ live) = cond (same_path l.path q) (without q live) (l ∷ without q live)

-- one more action
abbrev pub logged : Order → Path → Action → Answer → List Event
logged s q a r = s.log ++ record { path = q; action = a; answer = r } ∷ []

-- the task takes the action
abbrev pub acts : Program → Order → Live → Ask → Answer → Order
acts p s l ask r = record {
  live = replaced (moved p l r (l.taken + 1)) s.live ++ made_by l.path (l.taken + 1) ask;
  world = after s.world l.path l.taken ask;
  log = logged s l.path (shown ask) r;
}

-- what the run is after this step of a task, if it can be taken
abbrev pub steps_to : Program → Order → Live → Next → Option Order
steps_to p s l (Goes t) = Some (record s { live = replaced (moved p l None l.taken) s.live })
steps_to p s l (Asks at ask xs t) =
    cond (enabled s.world l.path l.taken ask) (Some (acts p s l ask (answer s.world l.path l.taken ask))) None
steps_to p s l (Ends o) =
    Some (record { live = without l.path s.live; world = ended s.world l.path o; log = logged s l.path (shown_end o) None })

-- the task of this path
abbrev pub task_at : Order → Path → Option Live
task_at s q = find (λ l. same_path l.path q) s.live

-- what follows, if there is something
abbrev pub and_then : {X Y : Type 0} → (X → Option Y) → Option X → Option Y
and_then f o = maybe None f o

-- The named task takes its next step, if what it needs holds.
abbrev pub step : Program → Path → Order → Option Order
step p q s = and_then (λ l. steps_to p s l (next p l.task)) (task_at s q)

-- each of these tasks takes a step, one after another
abbrev pub run : Program → List Path → Order → Option Order
run p [] s = Some s
run p (q ∷ qs) s = and_then (run p qs) (step p q s)

-- the state before the first step
abbrev pub first_order : Program → ℕ → List ArgValue → Order
first_order p entry args = record { live = newly [] (root_task p entry args) ∷ []; world = first_world args; log = [] }

-- a state that some run of the function with these arguments comes to
pub record IsReached (p : Program) (entry : ℕ) (args : List ArgValue) (s : Order) : Type 0 where
  pub order : List Path
  pub comes : run p order (first_order p entry args) ≡ Some s

-- ---- what a run shows

-- the actions with their tasks
abbrev pub shown_in : List Event → List TraceEntry
shown_in log = map (λ e. record { task = e.path; action = e.action }) log

-- each task that was made has ended
abbrev pub IsFinished : Order → Type 0
IsFinished s = s.live ≡ []

-- the root's end, with the cells of the arguments as they are
abbrev pub end_in : Program → ℕ → Order → Option SourceEnd
end_in p entry s = option_map (end_of p entry s.world) (outcome s.world [])

-- a task's actions with the answers to them
abbrev pub history : Path → List Event → List (Action × Answer)
history q [] = []
history q (e ∷ log) = cond (same_path e.path q) ((e.action, e.answer) ∷ history q log) (history q log)

-- a finished run of the function shows this list and has this end
pub record Finishes (p : Program) (entry : ℕ) (args : List ArgValue) (trace : List TraceEntry) (end : SourceEnd) : Type 0 where
  pub last : Order
  pub reached : IsReached p entry args last
  pub finished : IsFinished last
  pub shows : shown_in last.log ≡ trace
  pub ends : end_in p entry last ≡ Some end

-- ---- a task's next action

-- the step is one that nothing shared sees
abbrev pub is_quiet : Next → Bool
is_quiet (Goes t) = true
is_quiet _ = false

-- the task's next step is one that nothing shared sees
abbrev pub is_quiet_at : Program → Order → Path → Bool
is_quiet_at p s q = maybe false (λ l. is_quiet (next p l.task)) (task_at s q)

-- the task takes its next action, or its end, behind at most n quiet steps
abbrev pub acts_within : Program → ℕ → Path → Order → Option Order
acts_within p zero q s = cond (is_quiet_at p s q) None (step p q s)
acts_within p (suc n) q s = cond (is_quiet_at p s q) (and_then (acts_within p n q) (step p q s)) (step p q s)

-- the task comes to an action, and can take it
abbrev pub IsEnabled : Program → Order → Path → Type 0
IsEnabled p s q = (n : ℕ) × IsSome (acts_within p n q s)

-- ---- laws

-- each element has the property
abbrev pub Each : {X : Type 0} → (X → Type 0) → List X → Type 0
Each P [] = Unit {0}
Each P (x ∷ xs) = P x × Each P xs

-- what a task is depends on how it began and on the answers to its steps alone
abbrev pub FollowsAnswers : Program → Live → Type 0
FollowsAnswers p l = l.task ≡ after_answers p l.answers l.first

-- so it is in each state that a run comes to
abbrev pub TasksFollowAnswers : Type 0
TasksFollowAnswers = (p : Program) (entry : ℕ) (args : List ArgValue) (s : Order) → IsReached p entry args s → Each (FollowsAnswers p) s.live
