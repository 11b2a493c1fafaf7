-- What an action touches, by a key, and whether it is in conflict with each other touch of it.
use Rattle.std.specs.Prelude.{◌≡◌, ℕ, ◌<◌, ◌&&◌, ◌||◌, not, nat_le, Bool, true, false, List, ◌∷◌, Option, None, Some}
use Rattle.ir_forms.specs.declared.names.Action.{Action}
use Rattle.ir_forms.specs.declared.names.Action.TheVariants.{Read, Write, Add}
use Rattle.ir_forms.specs.declared.names.TraceEntry.{TraceEntry}
use Rattle.ir_forms.specs.Names.{Path, same_path}
use Rattle.race_order.specs.declared.touches.Touch.{Touch}
use Rattle.race_order.specs.Keys.{made_key}
use Rattle.race_order.specs.Race.{races}

-- the key of the cell or group that an action touches, and whether it writes or uses its rank
abbrev pub touched : Action → Option (List ℕ × Bool)
touched (Read b i) = Some (0 ∷ i ∷ made_key b, false)
touched (Write b i) = Some (0 ∷ i ∷ made_key b, true)
touched (Add g x used) = Some (1 ∷ made_key g, used)
touched _ = None

-- what a touch of the code is
abbrev pub touch_of : Touch → List ℕ × Bool
touch_of t = (t.key.items, t.heavy)

abbrev pub touch_in : Option Touch → Option (List ℕ × Bool)
touch_in None = None
touch_in (Some t) = Some (touch_of t)

-- both touch one cell or group, and one of them writes or uses its rank
abbrev pub alike : Option (List ℕ × Bool) → List ℕ × Bool → Bool
alike None u = false
alike (Some t) u = same_path t.0 u.0 && (t.1 || u.1)

-- the first of the earlier entries that race with the one at this place
abbrev pub IsEarliest : List TraceEntry → ℕ → Option ℕ → Type 0
IsEarliest trace j None = (h : ℕ) → h < j → races trace h j ≡ false
IsEarliest trace j (Some i) = (i < j) × (races trace i j ≡ true) × ((h : ℕ) → h < i → races trace h j ≡ false)

-- An entry with this rank in its task races with a later one, whose task has these counts and which touches this.
abbrev pub races_by : (Path → ℕ) → TraceEntry → ℕ → TraceEntry → List ℕ × Bool → Bool
races_by knows d rank e touch = (not (same_path d.task e.task) && alike (touched d.action) touch) && not (nat_le rank (knows d.task))
