-- A task with other names takes the same step, and what it asks for has them too: launched tasks, and loops.
use Rattle.std.specs.Prelude.{ℕ, List, ⊤}
use Rattle.ir_forms.specs.declared.ops.ValueNo.{ValueNo}
use Rattle.source_meaning.specs.Tasks.{Program, Loop, Task, Ask, Launches, Enters, JoinsAll, Outcome, Next, Goes, Asks, Ends}
use Rattle.source_meaning.specs.Steps.{next}
use Rattle.source_meaning.specs.Renaming.{renamed_values, IsRenamed, IsInjective, LikeLoop, LikeTask}

-- an asking in which there is no task
abbrev pub HasNoTask : Ask → Type 0
HasNoTask (Launches t r) = ⊥
HasNoTask (Enters loop) = ⊥
HasNoTask (JoinsAll loop) = ⊥
HasNoTask _ = ⊤

module _ (σ : ℕ → ℕ → ℕ) where
  -- the same asking, of tasks and loops that are the same but for the names
  pub data LikeAsk : Ask → Ask → Type 0 where
    same : (a : Ask) → HasNoTask a → LikeAsk a a
    launches : (t u : Task) (r : ℕ) → LikeTask σ t u → LikeAsk (Launches t r) (Launches u r)
    enters : (l m : Loop) → LikeLoop σ l m → LikeAsk (Enters l) (Enters m)
    joins_all : (l m : Loop) → LikeLoop σ l m → LikeAsk (JoinsAll l) (JoinsAll m)

  -- the same step, of such tasks
  pub data LikeNext : Next → Next → Type 0 where
    goes : (t u : Task) → LikeTask σ t u → LikeNext (Goes t) (Goes u)
    asks : (at : ℕ) (a b : Ask) (xs : List ValueNo) (t u : Task) → LikeAsk a b → LikeTask σ t u →
        LikeNext (Asks at a xs t) (Asks at b (renamed_values (σ t.scope.func) xs) u)
    ends : (o : Outcome) → LikeNext (Ends o) (Ends o)

-- a task with other names does next what it does with its own, and asks for what has them too
abbrev pub StepIsRenamed : Type 0
StepIsRenamed = (σ : ℕ → ℕ → ℕ) (p q : Program) (t u : Task) → IsInjective σ → IsRenamed σ p q → LikeTask σ t u → LikeNext σ (next p t) (next q u)
