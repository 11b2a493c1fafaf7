-- The equation along a worked run: a task is launched, gives seven, and is awaited.
use Rattle.std.specs.Prelude.{◌≡◌, ℕ, nat_eq, cond, Bool, true, false, List, [], ◌∷◌, ◌++◌, map, replicate}
use Rattle.source_meaning.specs.Values.{maybe}
use Rattle.async_objects.specs.Counts.{count_at}
use Rattle.task_stack.specs.Worked.{main}
use Rattle.own_tables.specs.declared.table.Owned.{Owned}
use Rattle.own_tables.specs.declared.table.OwnTable.{OwnTable}
use Rattle.step_core.specs.Core.{Core, start}
use Rattle.step_core.specs.Runs.{step}
use Rattle.step_core.specs.Worked.{awaits_seven, seven}
use Rattle.count_equation.specs.Equation.{owed}

-- one reference of each of these registers
abbrev pub ones : List ℕ → List Owned
ones rs = map (λ r. record { reg = record { 0 = r }; count = 1 }) rs

-- the root's frame owns the token from the call on until it is dropped, and the value until it was loaded; the coroutine's frame
-- owns both from their creates on, and its copy, which goes on in the second block, owns none
abbrev pub seven_table : OwnTable
seven_table = record {
  funcs =
      ((ones [] ∷ ones (0 ∷ 1 ∷ []) ∷ ones (1 ∷ []) ∷ ones (1 ∷ []) ∷ ones (1 ∷ []) ∷ [])
      ∷ (ones (1 ∷ []) ∷ ones (1 ∷ []) ∷ ones [] ∷ [])
      ∷ (ones (1 ∷ []) ∷ ones [] ∷ ones [] ∷ []) ∷ [])
      ∷ ((ones [] ∷ ones (0 ∷ []) ∷ ones (0 ∷ 1 ∷ []) ∷ ones (0 ∷ 1 ∷ []) ∷ ones (0 ∷ 1 ∷ []) ∷ ones (0 ∷ 1 ∷ []) ∷ ones (0 ∷ 1 ∷ []) ∷ [])
      ∷ [] ∷ [] ∷ (ones (0 ∷ 1 ∷ []) ∷ ones (0 ∷ 1 ∷ []) ∷ []) ∷ []) ∷ [];
}

-- the token and the value have as many references as they are owed
abbrev pub both_equal : Core → Bool
both_equal c =
    cond (nat_eq (count_at c.counts 0) (owed seven seven_table 0 c.plain.tasks c.plain.objects))
    (nat_eq (count_at c.counts 1) (owed seven seven_table 1 c.plain.tasks c.plain.objects))
    false

-- in each state of the run, and each task can take its step
unfoldable pub equal_along : List ℕ → Core → Bool
equal_along [] c = both_equal c
equal_along (t ∷ ts) c = cond (both_equal c) (maybe false (equal_along ts) (step seven t c)) false

-- the root launches the task and is parked, the task sets its objects, and the root loads the value and returns it
abbrev pub turns : List ℕ
turns = replicate 12 0 ++ (replicate 9 1 ++ replicate 5 0)

abbrev pub SevenIsEqual : Type 0
SevenIsEqual = equal_along turns (start main awaits_seven []) ≡ true
