-- The states of a sequential run among those of the runs in any order of tasks.
use Rattle.std.specs.Prelude.{◌≡◌, ℕ, List, ◌∷◌, Some}
use Rattle.ir_forms.specs.declared.args.ArgValue.{ArgValue}
use Rattle.source_meaning.specs.Tasks.{Program}
use Rattle.source_meaning.specs.Sequential.{Running, Sequence, On, moves, start}
use Rattle.source_meaning.specs.TaskOrder.{Live, Order, IsReached, shown_in, task_at}

-- a run in some order comes to a state that shares and shows the same, in which the task that takes a turn hasn't ended
pub record IsTurn (p : Program) (entry : ℕ) (args : List ArgValue) (s : Sequence) (top : Running) : Type 0 where
  pub at : Order
  pub reached : IsReached p entry args at
  pub world : at.world ≡ s.world
  pub shows : shown_in at.log ≡ s.trace
  pub live : Live
  pub found : task_at at top.path ≡ Some live
  pub path : live.path ≡ top.path
  pub task : live.task ≡ top.task
  pub taken : live.taken ≡ top.taken

-- so it is in each state that the sequential run of a function comes to
abbrev pub TurnsAreReached : Type 0
TurnsAreReached = (p : Program) (entry : ℕ) (args : List ArgValue) (n : ℕ) (s : Sequence) (top : Running) (below : List Running) →
    moves p entry n (start p entry args) ≡ On s → s.stack ≡ top ∷ below → IsTurn p entry args s top
