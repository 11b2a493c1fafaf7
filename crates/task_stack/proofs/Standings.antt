-- Where frames stand, by lengths; and frames that wait, the nearest last.
use Rattle.std.proofs.Common.{◌≡◌, ◌∙◌, ◌≤◌, ◌<◌, ◌-◌, ℕ, zero, suc, List, [], ◌∷◌, ◌++◌, length, drop, take, reverse, Some, None, refl, sym, ap, arith}
use Rattle.std.proofs.lemmas.List.{take_all, reverse-append, reverse-reverse}
use Rattle.low_forms.specs.declared.code.Instr.{Instr}
use Rattle.low_forms.specs.declared.code.Term.{Term}
use Rattle.low_forms.specs.Places.{remaining_in}

pub stands : (instrs : List Instr) (t : Term) (k : ℕ) → k ≤ length instrs → remaining_in instrs t k ≡ Some (record { instrs = take (length instrs - k) (drop k instrs); term = t })
stands instrs t zero h =
    let e : length instrs - 0 ≡ length instrs = omega arith in
    let whole : take (length instrs) instrs ≡ instrs = take_all (length instrs) instrs (omega arith) in
    rw (e, whole) refl
stands [] t (suc k) h = absurd (omega (arith, h))
stands (i ∷ instrs) t (suc k) h =
    let e : suc (length instrs) - suc k ≡ length instrs - k = omega arith in
    rw e (stands instrs t k (omega (arith, h)))

pub stands_past : (instrs : List Instr) (t : Term) (k : ℕ) → length instrs < k → remaining_in instrs t k ≡ None
stands_past instrs t zero h = absurd (omega (arith, h))
stands_past [] t (suc k) h = refl
stands_past (i ∷ instrs) t (suc k) h = stands_past instrs t k (omega (arith, h))

pub reverse_snoc : {X : Type 0} (xs : List X) (x : X) → reverse (xs ++ x ∷ []) ≡ x ∷ reverse xs
reverse_snoc xs x = reverse-append xs (x ∷ [])

pub reverse_same : {X : Type 0} (xs ys : List X) → reverse xs ≡ reverse ys → xs ≡ ys
reverse_same xs ys e = sym (reverse-reverse xs) ∙ (ap reverse e ∙ reverse-reverse ys)
