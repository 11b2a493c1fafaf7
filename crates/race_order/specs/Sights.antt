-- How the tables of a check stand for what is known after a part of a trace.
use Rattle.std.specs.Prelude.{◌≡◌, ℕ, ◌+◌, ◌<◌, ◌≤◌, ◌^◌, List, [], ◌∷◌, length, take, slice_get, Some, ⊤, cond, max, drop, ◌-◌, ◌++◌}
use Rattle.ir_forms.specs.declared.names.Action.{Action}
use Rattle.ir_forms.specs.declared.names.Action.TheVariants.{Add}
use Rattle.ir_forms.specs.declared.names.TraceEntry.{TraceEntry}
use Rattle.ir_forms.specs.Names.{Path, same_path, maker}
use Rattle.race_order.specs.declared.table.Table.{Table}
use Rattle.race_order.specs.declared.tasks.Added.{Added}
use Rattle.race_order.specs.declared.tasks.Tasks.{Tasks}
use Rattle.race_order.specs.Table.{number_at}
use Rattle.race_order.specs.Keys.{made_key}
use Rattle.race_order.specs.Clocks.{count, IsTree, HasEmpty}
use Rattle.race_order.specs.Known as known
use Rattle.race_order.specs.Known.{Counts, Sight, after_entries, knows_nothing, makes, entered}

-- the number of a list
abbrev pub number_in : Table → List ℕ → ℕ
number_in table key = number_at table.entries.entries key

-- what is known after the first entries
abbrev pub sight : List TraceEntry → ℕ → Sight
sight trace n = after_entries (take n trace) knows_nothing

-- this clock has these counts, by the tasks' numbers
abbrev pub Shows : (Path → ℕ) → ℕ → List (ℕ × ℕ) → ℕ → Counts → Type 0
Shows numbers depth nodes root f = IsTree nodes depth root × ((q : Path) → f q ≡ count nodes depth root (numbers q))

-- the counts that a clock has
abbrev pub counted : (Path → ℕ) → ℕ → List (ℕ × ℕ) → ℕ → Counts
counted numbers depth nodes root q = count nodes depth root (numbers q)

-- the adds, the newest first, are these, the newest last
abbrev pub AreAdds : (Path → ℕ) → ℕ → List (ℕ × ℕ) → List known.Added → List Added → Type 0
AreAdds numbers depth nodes [] items = ⊤
AreAdds numbers depth nodes (a ∷ adds) items =
    (x : Added) × (slice_get items (length adds) ≡ Some x) × (x.group.items ≡ made_key a.group) × (x.maker.items ≡ maker a.element) × Shows numbers depth nodes x.adder a.adder
    × AreAdds numbers depth nodes adds items

-- different tasks have different numbers, where they have one above 0
pub record AreNumbers (depth : ℕ) (numbers : Path → ℕ) : Type 0 where
  pub apart : (p q : Path) → 0 < numbers p → numbers p ≡ numbers q → p ≡ q
  pub within : (p : Path) → numbers p < 2 ^ depth
  pub deep : depth ≤ 64

-- the tables stand for what is known
pub record Holds (s : Sight) (tasks : Tasks) (nodes : List (ℕ × ℕ)) : Type 0 where
  pub empty : HasEmpty nodes
  pub taken : (p : Path) → number_in tasks.taken p ≡ s.taken p
  pub turns : (p : Path) → number_in tasks.turns p ≡ s.turns p
  pub clocks : (p : Path) → Shows (number_in tasks.numbers) tasks.depth nodes (number_in tasks.clocks p) (s.knows p)
  pub adds_len : length tasks.adds ≡ length s.adds
  pub adds : AreAdds (number_in tasks.numbers) tasks.depth nodes s.adds tasks.adds

-- what is known with one more member of the group of this key, if this add is one
abbrev pub with_member : Tasks → List (ℕ × ℕ) → List ℕ → Added → ℕ → ℕ → ℕ
with_member tasks nodes key x own k =
    cond (same_path x.group.items key) (max (max (count nodes tasks.depth own k) (count nodes tasks.depth (number_in tasks.clocks x.maker.items) k)) (count nodes tasks.depth x.adder k)) (count nodes tasks.depth own k)

-- the n oldest
abbrev pub oldest : ℕ → List known.Added → List known.Added
oldest n adds = drop (length adds - n) adds

-- the add, if it is one, is kept behind the others
abbrev pub IsAddedTo : Action → ℕ → List Added → List Added → Type 0
IsAddedTo (Add g x used) own before after =
    (y : Added) × (after ≡ before ++ y ∷ []) × (y.group.items ≡ made_key g) × (y.maker.items ≡ maker x) × (y.adder ≡ own)
IsAddedTo _ own before after = after ≡ before

-- the tables are those after the entry
pub record IsKept (e : TraceEntry) (own : ℕ) (before after : Tasks) : Type 0 where
  pub depth : after.depth ≡ before.depth
  pub numbers : after.numbers ≡ before.numbers
  pub taken : (q : Path) → number_in after.taken q ≡ cond (same_path e.task q) (number_in before.taken e.task + 1) (number_in before.taken q)
  pub clocks : (q : Path) → number_in after.clocks q ≡ cond (same_path e.task q) own (cond (makes e.action e.task (number_in before.taken e.task + 1) q) own (number_in before.clocks q))
  pub turns : (q : Path) → number_in after.turns q ≡ cond (same_path e.task q) (entered e.action (number_in before.turns q)) (number_in before.turns q)
  pub adds : IsAddedTo e.action own before.adds after.adds

-- each task with an entry among the first n has the number of a place of its own, counted from 1, and no other task has one
pub record AreNumbered (trace : List TraceEntry) (n : ℕ) (numbers : Path → ℕ) : Type 0 where
  pub tells : (p : Path) → 0 < numbers p → (d : TraceEntry) × (slice_get trace (numbers p - 1) ≡ Some d) × (d.task ≡ p)
  pub small : (p : Path) → numbers p ≤ n
  pub numbered : (i : ℕ) (d : TraceEntry) → i < n → slice_get trace i ≡ Some d → 0 < numbers d.task
