-- Which entries of a trace are in conflict, and whether each such pair is ordered.
use Rattle.std.specs.Prelude.{◌≡◌, ◌<◌, ◌≤◌, ℕ, zero, suc, ◌+◌, nat_le, nat_eq, cond, not, ◌&&◌, ◌||◌, Bool, true, false, List, [], ◌∷◌, take, length, Option, Some, None, slice_get}
use Rattle.ir_forms.specs.declared.names.Action.{Action}
use Rattle.ir_forms.specs.declared.names.Action.TheVariants.{Read, Write, Add}
use Rattle.ir_forms.specs.declared.names.TraceEntry.{TraceEntry}
use Rattle.ir_forms.specs.Names.{Path, same_path, same_made}
use Rattle.race_order.specs.Known.{known}

-- two actions touch one cell, and one of them writes, or add to one group, and one of the ranks is used
abbrev pub clash : Action → Action → Bool
clash (Read b i) (Write c j) = same_made b c && nat_eq i j
clash (Write b i) (Read c j) = same_made b c && nat_eq i j
clash (Write b i) (Write c j) = same_made b c && nat_eq i j
clash (Add g x used) (Add h y used_too) = same_made g h && (used || used_too)
clash _ _ = false

-- entries of different tasks
abbrev pub in_conflict : TraceEntry → TraceEntry → Bool
in_conflict d e = not (same_path d.task e.task) && clash d.action e.action

-- how many of the entries are the task's
abbrev pub entries_of : Path → List TraceEntry → ℕ
entries_of p [] = 0
entries_of p (e ∷ trace) = cond (same_path e.task p) (suc (entries_of p trace)) (entries_of p trace)

-- the task of entry j knows entry i just before j
abbrev pub is_known : List TraceEntry → ℕ → TraceEntry → ℕ → TraceEntry → Bool
is_known trace i d j e = nat_le (entries_of d.task (take (i + 1) trace)) (known (take j trace) e.task d.task)

-- the entries at i and j are in conflict, and not ordered
abbrev pub are_racing : List TraceEntry → ℕ → Option TraceEntry → ℕ → Option TraceEntry → Bool
are_racing trace i (Some d) j (Some e) = in_conflict d e && not (is_known trace i d j e)
are_racing trace i _ j _ = false

-- the same, by the places alone
abbrev pub races : List TraceEntry → ℕ → ℕ → Bool
races trace i j = are_racing trace i (slice_get trace i) j (slice_get trace j)

-- each pair in conflict is ordered
abbrev pub IsOrdered : List TraceEntry → Type 0
IsOrdered trace = (i j : ℕ) → i < j → races trace i j ≡ false

-- the race with the least later entry, and there with the least earlier one
pub record IsFirstRace (trace : List TraceEntry) (i j : ℕ) : Type 0 where
  pub before : i < j
  pub race : races trace i j ≡ true
  pub least_later : (h k : ℕ) → h < k → k < j → races trace h k ≡ false
  pub least_earlier : (h : ℕ) → h < i → races trace h j ≡ false

-- ---- the first race, computed

-- the least of the n numbers from i on that passes the test
abbrev pub first_below : (ℕ → Bool) → ℕ → ℕ → Option ℕ
first_below test i zero = None
first_below test i (suc n) = cond (test i) (Some i) (first_below test (i + 1) n)

-- the pair with this earlier place, or a later pair
abbrev pub or_later : ℕ → Option ℕ → Option (ℕ × ℕ) → Option (ℕ × ℕ)
or_later j None later = later
or_later j (Some i) later = Some (i, j)

-- the first race among the n later places from j on
abbrev pub race_from : List TraceEntry → ℕ → ℕ → Option (ℕ × ℕ)
race_from trace j zero = None
race_from trace j (suc n) = or_later j (first_below (λ i. races trace i j) 0 j) (race_from trace (j + 1) n)

-- the first race of the trace
abbrev pub first_race_in : List TraceEntry → Option (ℕ × ℕ)
first_race_in trace = race_from trace 0 (length trace)

-- the trace has no race, or this is its first
abbrev pub IsAnswer : List TraceEntry → Option (ℕ × ℕ) → Type 0
IsAnswer trace None = IsOrdered trace
IsAnswer trace (Some r) = IsFirstRace trace r.0 r.1

-- what is computed is the first race, or tells that there is none
abbrev pub FirstRaceIsExact : Type 0
FirstRaceIsExact = (trace : List TraceEntry) → IsAnswer trace (first_race_in trace)

-- ---- what of a task's earlier entries counts

-- the entry stands at this place
abbrev pub IsAt : List TraceEntry → ℕ → TraceEntry → Type 0
IsAt trace i e = slice_get trace i ≡ Some e

-- Where an entry races with an earlier one of some task, it races with each later one of that task which it is in conflict
-- with: so the last ones tell all.
abbrev pub LastTellsAll : Type 0
LastTellsAll = (trace : List TraceEntry) (h i j : ℕ) (c d e : TraceEntry) → h ≤ i → i < j → IsAt trace h c → IsAt trace i d → IsAt trace j e →
    c.task ≡ d.task → in_conflict d e ≡ true → races trace h j ≡ true → races trace i j ≡ true
