-- When the tasks of two programs agree one by one.
use Rattle.std.specs.Prelude.{◌≡◌, ℕ, List, Some, ⊤}
use Rattle.ir_forms.specs.declared.args.ArgValue.{ArgValue}
use Rattle.ir_forms.specs.declared.ops.ValueNo.{ValueNo}
use Rattle.ir_forms.specs.Names.{Path}
use Rattle.source_meaning.specs.Tasks.{Program, Loop, Task, Ask, Launches, Enters, JoinsAll, Answer, Outcome, Next, Goes, Asks, Ends, resumed}
use Rattle.source_meaning.specs.Steps.{next}
use Rattle.source_meaning.specs.World.{World, answer, after, ended}
use Rattle.source_meaning.specs.Start.{first_world, root_task, end_of}
use Rattle.source_meaning.specs.Sequential.{iteration}
use Rattle.source_meaning.specs.TaskOrder.{Live, Order, IsReached, task_at}

-- an asking in which there is no task
abbrev pub HasNoTask : Ask → Type 0
HasNoTask (Launches t r) = ⊥
HasNoTask (Enters loop) = ⊥
HasNoTask (JoinsAll loop) = ⊥
HasNoTask _ = ⊤

-- two tasks stand at the same place
module _ (Like : Task → Task → Type 0) where
  -- as many iterations, each like the other's of its number
  pub record LikeLoop (l m : Loop) : Type 0 where
    pub total : m.total ≡ l.total
    pub split : m.split ≡ l.split
    pub iterations : (i : ℕ) → Like (iteration l i) (iteration m i)

  -- the same asking, of tasks that are alike
  pub data LikeAsk : Ask → Ask → Type 0 where
    same : (a : Ask) → HasNoTask a → LikeAsk a a
    launches : (t u : Task) (r : ℕ) → Like t u → LikeAsk (Launches t r) (Launches u r)
    enters : (l m : Loop) → LikeLoop l m → LikeAsk (Enters l) (Enters m)
    joins_all : (l m : Loop) → LikeLoop l m → LikeAsk (JoinsAll l) (JoinsAll m)

  module _ (Kept : World → Type 0) where
    -- after each answer to this asking the tasks are alike, and what holds of the shared state goes on to hold
    abbrev pub GoOn : Ask → (Answer → Task) → (Answer → Task) → Type 0
    GoOn ask one other = (w : World) (q : Path) (k : ℕ) → Kept w → Like (one (answer w q k ask)) (other (answer w q k ask)) × Kept (after w q k ask)

    -- the same next step, to tasks that are alike
    pub data LikeNext : Next → Next → Type 0 where
      goes : (t u : Task) → Like t u → LikeNext (Goes t) (Goes u)
      asks : (at by : ℕ) (a b : Ask) (xs ys : List ValueNo) (t u : Task) → LikeAsk a b → GoOn a (resumed at xs t) (resumed by ys u) → LikeNext (Asks at a xs t) (Asks by b ys u)
      ends : (o : Outcome) → ((w : World) (q : Path) → Kept w → Kept (ended w q o)) → LikeNext (Ends o) (Ends o)

    module _ (p q : Program) where
      -- behind finitely many steps of each task that nothing shared sees, both take the same step
      pub data Meets : Task → Task → Type 0 where
        both : (t u : Task) → LikeNext (next p t) (next q u) → Meets t u
        first : (t u t' : Task) → next p t ≡ Goes t' → Meets t' u → Meets t u
        second : (t u u' : Task) → next q u ≡ Goes u' → Meets t u' → Meets t u

-- ---- tasks that a run comes to

-- a run of the function in some order of tasks comes to a state in which this is a task that hasn't ended
pub record IsTaskOf (p : Program) (entry : ℕ) (args : List ArgValue) (t : Task) : Type 0 where
  pub at : Order
  pub reached : IsReached p entry args at
  pub live : Live
  pub found : task_at at live.path ≡ Some live
  pub task : live.task ≡ t

-- ---- agreement

-- The tasks of two programs agree one by one in runs of the function at this place with these arguments: the relation
-- holds of the root's tasks and from then on, and what is said of the shared state holds at the start. Each pair of tasks
-- that are alike and that runs come to meets.
pub record Agreement (Like : Task → Task → Type 0) (Kept : World → Type 0) (p q : Program) (entry : ℕ) (args : List ArgValue) : Type 0 where
  pub starts : Like (root_task p entry args) (root_task q entry args)
  pub kept : Kept (first_world args)
  pub meets : (t u : Task) → Like t u → IsTaskOf p entry args t → IsTaskOf q entry args u → Meets Like Kept p q t u
  pub ends : (w : World) (o : Outcome) → end_of q entry w o ≡ end_of p entry w o
