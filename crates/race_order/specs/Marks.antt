-- Of each cell and group and each task, the last entry that touched it.
use Rattle.std.specs.Prelude.{◌≡◌, ℕ, ◌+◌, ◌<◌, ◌≤◌, ◌^◌, ◌==◌, ◌&&◌, not, Bool, cond, List, Some, slice_get, take}
use Rattle.ir_forms.specs.declared.names.TraceEntry.{TraceEntry}
use Rattle.ir_forms.specs.Names.{Path, same_path}
use Rattle.race_order.specs.declared.marks.Marks.{Marks}
use Rattle.race_order.specs.Clocks.{count, IsTree, Grows}
use Rattle.race_order.specs.Race.{entries_of}
use Rattle.race_order.specs.Sights.{number_in}
use Rattle.race_order.specs.Touch.{touched}

-- the clock of the ranks of the last entries that touch so
abbrev pub mark_of : Marks → List ℕ × Bool → ℕ
mark_of marks t = cond t.1 (number_in marks.heavy t.0) (number_in marks.light t.0)

-- no entry among the first n that touches so has a greater rank
pub record AreMarked (trace : List TraceEntry) (n : ℕ) (numbers : Path → ℕ) (depth : ℕ) (nodes : List (ℕ × ℕ)) (marks : Marks) : Type 0 where
  pub trees : (t : List ℕ × Bool) → IsTree nodes depth (mark_of marks t)
  pub marked : (i : ℕ) (d : TraceEntry) (t : List ℕ × Bool) → i < n → slice_get trace i ≡ Some d → touched d.action ≡ Some t → entries_of d.task (take (i + 1) trace) ≤ count nodes depth (mark_of marks t) (numbers d.task)

-- both touch so
abbrev pub same_touch : List ℕ × Bool → List ℕ × Bool → Bool
same_touch t u = cond t.1 (u.1 && same_path t.0 u.0) (not u.1 && same_path t.0 u.0)

-- the marks after one more touch
pub record IsMarked (number rank depth : ℕ) (n0 n1 : List (ℕ × ℕ)) (touch : List ℕ × Bool) (before after : Marks) : Type 0 where
  pub grows : Grows n0 n1
  pub trees : (t : List ℕ × Bool) → IsTree n1 depth (mark_of after t)
  pub value : (t : List ℕ × Bool) (k : ℕ) → k < 2 ^ depth → count n1 depth (mark_of after t) k
      ≡ cond (same_touch touch t) (cond (number == k) rank (count n0 depth (mark_of before t) k)) (count n0 depth (mark_of before t) k)
