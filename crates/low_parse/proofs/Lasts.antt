-- The instructions of a block before its last one.
use Rattle.std.proofs.Common.{◌≡◌, ◌≤◌, ◌<◌, ◌+◌, ◌-◌, ℕ, zero, suc, List, [], ◌∷◌, length, drop, Some, None, refl, ap, arith, add-one}
use Rattle.std.specs.Prelude.{slice_get}
use Rattle.low_grammar.specs.declared.named.NamedInstr.{NamedInstr}
use Rattle.low_names.specs.Numbers.{Scope, instr_of, instrs_of, last_of, term_of, no_term}

-- the last instruction is the terminator
last_from : (s : Scope) (is : List NamedInstr) (n : ℕ) (i : NamedInstr) → length is ≡ n + 1 → slice_get is n ≡ Some i → last_of s is ≡ term_of s i
last_from s [] n i len found = cc
last_from s (j ∷ []) zero i len found = let same : j ≡ i = cc in ap (term_of s) same
last_from s (j ∷ []) (suc n) i len found = cc
last_from s (j ∷ k ∷ is) zero i len found = absurd (omega (arith, len))
last_from s (j ∷ k ∷ is) (suc n) i len found = let less : length (k ∷ is) ≡ n + 1 = omega (arith, len) in last_from s (k ∷ is) n i less found

pub last_at : (s : Scope) (is : List NamedInstr) (i : NamedInstr) → slice_get is (length is - 1) ≡ Some i → last_of s is ≡ term_of s i
last_at s [] i found = cc
last_at s (j ∷ is) i found = let len : length (j ∷ is) ≡ (length (j ∷ is) - 1) + 1 = omega arith in last_from s (j ∷ is) (length (j ∷ is) - 1) i len found

none_from : (is : List NamedInstr) (n : ℕ) → length is ≡ n + 1 → slice_get is n ≡ None → ⊥
none_from [] n len found = omega (arith, len)
none_from (j ∷ is) zero len found = cc
none_from (j ∷ is) (suc n) len found = let less : length is ≡ n + 1 = omega (arith, len) in none_from is n less found

pub last_none : (s : Scope) (is : List NamedInstr) → slice_get is (length is - 1) ≡ None → last_of s is ≡ no_term
last_none s [] found = refl
last_none s (j ∷ is) found =
    let len : length (j ∷ is) ≡ (length (j ∷ is) - 1) + 1 = omega arith in absurd (none_from (j ∷ is) (length (j ∷ is) - 1) len found)

-- behind the last but one there are none
pub none_left : (s : Scope) (is : List NamedInstr) (at : ℕ) → length is ≤ at + 1 → instrs_of s (drop at is) ≡ []
none_left s [] zero few = refl
none_left s [] (suc at) few = refl
none_left s (j ∷ []) zero few = refl
none_left s (j ∷ k ∷ is) zero few = absurd (omega (arith, few))
none_left s (j ∷ is) (suc at) few = let less : length is ≤ at + 1 = omega (arith, few) in none_left s is at less

-- one before the last
one_further : (s : Scope) (is : List NamedInstr) (at : ℕ) (i : NamedInstr) → at + 1 < length is → slice_get is at ≡ Some i
    → instrs_of s (drop at is) ≡ instr_of s i ∷ instrs_of s (drop (suc at) is)
one_further s [] at i more found = cc
one_further s (j ∷ []) zero i more found = absurd (omega (arith, more))
one_further s (j ∷ k ∷ is) zero i more found = let same : j ≡ i = cc in ap (λ (x : NamedInstr). instr_of s x ∷ instrs_of s (k ∷ is)) same
one_further s (j ∷ is) (suc at) i more found = let less : at + 1 < length is = omega (arith, more) in one_further s is at i less found

pub one_more : (s : Scope) (is : List NamedInstr) (at : ℕ) (i : NamedInstr) → at + 1 < length is → slice_get is at ≡ Some i
    → instrs_of s (drop at is) ≡ instr_of s i ∷ instrs_of s (drop (at + 1) is)
one_more s is at i more found = rw add-one (one_further s is at i more found)
