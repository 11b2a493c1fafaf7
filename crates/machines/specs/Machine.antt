-- Machines that take one step at a time and show something of it.
use Rattle.std.specs.Prelude.{◌≡◌, List, [], ◌∷◌, ◌++◌, Option, Some, None}

-- A step: what it needs doesn't hold; whoever is to take it isn't there or waits; a limit stops it; or it is taken, and
-- shows this.
pub data Took (S V : Type 0) : Type 0 where
  Stuck : Took S V
  Idle : Took S V
  Stopped : Took S V
  Takes : (after : S) (shown : List V) → Took S V

-- A machine that shows things of V and ends in E. Who takes a step is a task, by its number or its name.
pub record Machine (V E : Type 0) : Type 1 where
  pub State : Type 0
  pub Who : Type 0
  pub start : State
  pub step : State → Who → Took State V
  pub Ended : State → E → Type 0

module _ {V E : Type 0} (M : Machine V E) where
  -- where a run goes to, and what it shows
  abbrev pub Run : Type 0
  Run = Option (M.State × List V)

  abbrev pub shown_before : List V → Run → Run
  shown_before shown None = None
  shown_before shown (Some (s, more)) = Some (s, shown ++ more)

  abbrev pub and_runs : (M.State → Run) → Took M.State V → Run
  and_runs go Stuck = None
  and_runs go Idle = None
  and_runs go Stopped = None
  and_runs go (Takes s shown) = shown_before shown (go s)

  -- each of these takes a step, one after another
  unfoldable pub run : List M.Who → M.State → Run
  run [] s = Some (s, [])
  run (w ∷ ws) s = and_runs (run ws) (M.step s w)

  -- some run leads from the first state to the second, and shows this
  abbrev pub Reaches : M.State → List V → M.State → Type 0
  Reaches s shown t = (ws : List M.Who) × (run ws s ≡ Some (t, shown))

  -- from the start
  abbrev pub IsReached : List V → M.State → Type 0
  IsReached shown s = Reaches M.start shown s

  abbrev pub IsNotStuck : Took M.State V → Type 0
  IsNotStuck Stuck = ⊥
  IsNotStuck _ = Unit {0}

  -- nobody has anything to do
  abbrev pub IsStill : M.State → Type 0
  IsStill s = (w : M.Who) → M.step s w ≡ Idle
