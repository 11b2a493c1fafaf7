-- The first race, computed, is the first race.
use Rattle.std.proofs.Common.{◌≡◌, ◌<◌, ◌≤◌, ℕ, zero, suc, ◌+◌, Bool, true, false, cond, List, length, Option, Some, None, slice_get, refl, subst, arith}
use Rattle.std.specs.Prelude.{◌⊎◌, ltb}
use Rattle.std.proofs.lemmas.Bool.{ltb-true, ltb-false}
use mathlib.Core.Logic.{inl, inr}
use Rattle.std.proofs.lemmas.Option.{slice_get_past}
use Rattle.std.proofs.Math.Nat.{eq-or-lt_of_le}
use Rattle.ir_forms.specs.declared.names.TraceEntry.{TraceEntry}
use Rattle.race_order.specs.Race.{are_racing, races, first_below, or_later, race_from, first_race_in, IsAnswer, FirstRaceIsExact}

-- what a search among the n numbers from i on tells
Below : (ℕ → Bool) → ℕ → ℕ → Option ℕ → Type 0
Below test i n None = (h : ℕ) → i ≤ h → h < i + n → test h ≡ false
Below test i n (Some m) = (i ≤ m) × (m < i + n) × (test m ≡ true) × ((h : ℕ) → i ≤ h → h < m → test h ≡ false)

before_or : (test : ℕ → Bool) (i h : ℕ) → i ≤ h → test i ≡ false → (i + 1 ≤ h → test h ≡ false) → test h ≡ false
before_or test i h l e k = split (eq-or-lt_of_le l) where
  split : (i ≡ h) ⊎ (i < h) → test h ≡ false
  split (inl s) = subst (λ x. test x ≡ false) s e
  split (inr s) = k (omega (arith, s))

below_step : (test : ℕ → Bool) (i n : ℕ) (b : Bool) (rest : Option ℕ) → test i ≡ b → Below test (i + 1) n rest → Below test i (suc n) (cond b (Some i) rest)
unfolding Below
below_step test i n true rest e k = (omega arith, omega arith, e, λ h l m. absurd (omega (arith, l, m)))
below_step test i n false None e k = λ h l m. before_or test i h l e (λ l'. k h l' (omega (arith, m)))
below_step test i n false (Some m) e k = (omega (arith, k.0), omega (arith, k.1), k.2, λ h l m'. before_or test i h l e (λ l'. k.3 h l' m'))

first_below_tells : (test : ℕ → Bool) (i n : ℕ) → Below test i n (first_below test i n)
unfolding Below
first_below_tells test i zero = λ h l m. absurd (omega (arith, l, m))
first_below_tells test i (suc n) = below_step test i n (test i) (first_below test (i + 1) n) refl (first_below_tells test (i + 1) n)

-- what a search among the n later places from j on tells
From : List TraceEntry → ℕ → ℕ → Option (ℕ × ℕ) → Type 0
From trace j n None = (h k : ℕ) → h < k → j ≤ k → k < j + n → races trace h k ≡ false
From trace j n (Some r) =
    (r.0 < r.1) × (j ≤ r.1) × (r.1 < j + n) × (races trace r.0 r.1 ≡ true) × ((h k : ℕ) → h < k → j ≤ k → k < r.1 → races trace h k ≡ false) × ((h : ℕ) → h < r.0 → races trace h r.1 ≡ false)

at_or_later : (trace : List TraceEntry) (j h k : ℕ) → h < k → j ≤ k → Below (λ i. races trace i j) 0 j None → (j + 1 ≤ k → races trace h k ≡ false) → races trace h k ≡ false
unfolding Below
at_or_later trace j h k l m b f = split (eq-or-lt_of_le m) where
  split : (j ≡ k) ⊎ (j < k) → races trace h k ≡ false
  split (inl e) = subst (λ x. races trace h x ≡ false) e (b h (omega arith) (omega (arith, l, e)))
  split (inr e) = f (omega (arith, e))

from_step : (trace : List TraceEntry) (j n : ℕ) (first : Option ℕ) (rest : Option (ℕ × ℕ)) → Below (λ i. races trace i j) 0 j first → From trace (j + 1) n rest → From trace j (suc n) (or_later j first rest)
unfolding Below From
from_step trace j n (Some i) rest b f =
    (omega (arith, b.1), omega arith, omega arith, b.2, (λ h k l m o. absurd (omega (arith, m, o))), λ h l. b.3 h (omega arith) l)
from_step trace j n None None b f = λ h k l m o. at_or_later trace j h k l m b (λ m'. f h k l m' (omega (arith, o)))
from_step trace j n None (Some r) b f =
    (f.0, omega (arith, f.1), omega (arith, f.2), f.3, (λ h k l m o. at_or_later trace j h k l m b (λ m'. f.4 h k l m' o)), f.5)

from_tells : (trace : List TraceEntry) (j n : ℕ) → From trace j n (race_from trace j n)
unfolding From
from_tells trace j zero = λ h k l m o. absurd (omega (arith, m, o))
from_tells trace j (suc n) = from_step trace j n (first_below (λ i. races trace i j) 0 j) (race_from trace (j + 1) n) (first_below_tells (λ i. races trace i j) 0 j) (from_tells trace (j + 1) n)

-- a place past the trace races with none
none_past : (trace : List TraceEntry) (i j : ℕ) → length trace ≤ j → races trace i j ≡ false
none_past trace i j l = rw (slice_get_past trace j l) (lost (slice_get trace i)) where
  lost : (x : Option TraceEntry) → are_racing trace i x j None ≡ false
  lost None = refl
  lost (Some e) = refl

pub within_or : (trace : List TraceEntry) (i j : ℕ) → (j < length trace → races trace i j ≡ false) → races trace i j ≡ false
within_or trace i j h = split (ltb j (length trace)) refl where
  split : (b : Bool) → ltb j (length trace) ≡ b → races trace i j ≡ false
  split true e = h (ltb-true j (length trace) e)
  split false e = none_past trace i j (ltb-false j (length trace) e)

tells_from : (trace : List TraceEntry) (r : Option (ℕ × ℕ)) → From trace 0 (length trace) r → IsAnswer trace r
unfolding From
tells_from trace None f = λ i j l. within_or trace i j (λ m. f i j l (omega arith) (omega (arith, m)))
tells_from trace (Some r) f = record {
  before = f.0;
  race = f.3;
  least_later = λ h k l m. f.4 h k l (omega arith) m;
  least_earlier = f.5;
}

pub first_race_tells : FirstRaceIsExact
first_race_tells trace = tells_from trace (first_race_in trace) (from_tells trace 0 (length trace))
