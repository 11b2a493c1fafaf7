-- How the objects that are there are kept: in slots by rising number, and those that were taken out read as blank.
use Rattle.std.specs.Prelude.{◌≡◌, ◌≤◌, ℕ, zero, suc, ◌+◌, ◌==◌, nat_lt, cond, ◌⊎◌, List, [], ◌∷◌, ◌++◌}
use Rattle.std.specs.List.{filter}
use Rattle.async_objects.specs.declared.object.Object.{Object}
use Rattle.async_objects.specs.declared.slots.Slot.{Slot}
use Rattle.async_objects.specs.Objects.{blank, one_if}

-- what is kept: objects and their counts by number, and how many may be there without more memory
pub record Kept : Type 0 where
  pub objects : List Object
  pub counts : List ℕ
  pub room : ℕ

-- what the slot of this number holds, and something else where there is none
abbrev pub held : {X : Type 0} → (Slot → X) → X → List Slot → ℕ → X
held f other [] n = other
held f other (s ∷ slots) n = cond (s.number == n) (f s) (held f other slots n)

abbrev pub object_in : List Slot → ℕ → Object
object_in slots n = held (λ s. s.object) blank slots n

abbrev pub count_in : List Slot → ℕ → ℕ
count_in slots n = held (λ s. s.count) 0 slots n

-- the first values of a function
abbrev pub listed : {X : Type 0} → ℕ → (ℕ → X) → List X
listed zero f = []
listed (suc n) f = listed n f ++ f n ∷ []

-- the place of the slot of this number, and past the end where there is none
abbrev pub place_in : List Slot → ℕ → ℕ
place_in [] n = 0
place_in (s ∷ slots) n = cond (s.number == n) 0 (place_in slots n + 1)

-- the numbers rise, from this one on, and end before that one
abbrev pub AreRising : ℕ → ℕ → List Slot → Type 0
AreRising first last [] = first ≤ last
AreRising first last (s ∷ slots) = (first ≤ s.number) × AreRising (s.number + 1) last slots

-- a slot without a count holds what a missing one reads as
abbrev pub AreEmpty : {X : Type 0} → (Slot → X) → X → List Slot → Type 0
AreEmpty f other [] = Unit {0}
AreEmpty f other (s ∷ slots) = (s.count ≡ 0 → f s ≡ other) × AreEmpty f other slots

abbrev pub AreBlank : List Slot → Type 0
AreBlank slots = AreEmpty (λ s. s.object) blank slots

abbrev pub live_in : List Slot → ℕ
live_in [] = 0
live_in (s ∷ slots) = live_in slots + one_if (nat_lt 0 s.count)

-- the slots of objects that are there, or all
abbrev pub IsSwept : List Slot → List Slot → Type 0
IsSwept old new = (new ≡ old) ⊎ (new ≡ filter (λ s. nat_lt 0 s.count) old)
