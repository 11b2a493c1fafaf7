-- Elements of lists by place, and what remains behind an instruction.
use Rattle.std.proofs.Common.{◌≡◌, ℕ, zero, suc, ◌+◌, List, [], ◌∷◌, ◌++◌, length, Option, Some, None, refl, sym, ap, subst, ◌∙◌, arith, append_assoc, length-append}
use Rattle.std.specs.Prelude.{slice_get}
use Rattle.low_forms.specs.declared.code.Instr.{Instr}
use Rattle.low_forms.specs.declared.code.Term.{Term}
use Rattle.low_forms.specs.declared.code.Block.{Block}
use Rattle.low_forms.specs.Places.{Remaining, remaining_in, remaining_of}
use Rattle.laid_blocks.specs.Placed.{From}

module _ {A : Type 0} (all : List A) where
  moved : (n m : ℕ) (xs : List A) → n ≡ m → From all n xs → From all m xs
  moved n m xs e h = subst (λ k. From all k xs) e h

  -- the parts of what stands somewhere
  pub cut : (n : ℕ) (xs ys : List A) → From all n (xs ++ ys) → From all n xs × From all (n + length xs) ys
  cut n [] ys h = (tt, moved n (n + 0) ys (let e : n ≡ n + 0 = omega arith in e) h)
  cut n (x ∷ xs) ys h =
      let more = cut (n + 1) xs ys h.1 in
      ((h.0, more.0), moved (n + 1 + length xs) (n + suc (length xs)) ys (let e : n + 1 + length xs ≡ n + suc (length xs) = omega arith in e) more.1)

  pub cut_first : (n : ℕ) (xs ys zs : List A) → From all n ((xs ++ ys) ++ zs) → From all n xs × From all (n + length xs) (ys ++ zs)
  cut_first n xs ys zs h = cut n xs (ys ++ zs) (subst (λ l. From all n l) (append_assoc xs ys zs) h)

  pub joined : (n : ℕ) (xs ys : List A) → From all n xs → From all (n + length xs) ys → From all n (xs ++ ys)
  joined n [] ys front back = moved (n + 0) n ys (let e : n + 0 ≡ n = omega arith in e) back
  joined n (x ∷ xs) ys front back =
      (front.0, joined (n + 1) xs ys front.1 (moved (n + suc (length xs)) (n + 1 + length xs) ys (let e : n + suc (length xs) ≡ n + 1 + length xs = omega arith in e) back))

  pub at_place : (n m : ℕ) (xs : List A) → n ≡ m → From all n xs → From all m xs
  at_place = moved

got_after : {A : Type 0} (pre xs : List A) (x : A) → slice_get (pre ++ x ∷ xs) (length pre) ≡ Some x
got_after [] xs x = refl
got_after (y ∷ pre) xs x = got_after pre xs x

-- what stands behind a part
pub from_part : {A : Type 0} (all pre xs : List A) → all ≡ pre ++ xs → From all (length pre) xs
from_part all pre [] e = tt
from_part all pre (x ∷ xs) e =
    let len : length (pre ++ x ∷ []) ≡ length pre + 1 = length-append pre (x ∷ []) in
    let more = from_part all (pre ++ x ∷ []) xs (e ∙ sym (append_assoc pre (x ∷ []) xs)) in
    (ap (λ l. slice_get l (length pre)) e ∙ got_after pre xs x, at_place all (length (pre ++ x ∷ [])) (length pre + 1) xs len more)

-- what remains behind the first instruction that remains
abbrev without_first : List Instr → Term → Option Remaining
without_first [] t = None
without_first (x ∷ instrs) t = Some (record { instrs = instrs; term = t })

abbrev behind_one : Option Remaining → Option Remaining
behind_one None = None
behind_one (Some r) = without_first r.instrs r.term

one_more : (instrs : List Instr) (t : Term) (i : ℕ) → remaining_in instrs t (suc i) ≡ behind_one (remaining_in instrs t i)
one_more [] t zero = refl
one_more [] t (suc i) = refl
one_more (y ∷ instrs) t zero = refl
one_more (y ∷ instrs) t (suc i) = one_more instrs t i

pub has_next : (o : Option Block) (i : ℕ) (x : Instr) (more : List Instr) (u : Term) → remaining_of o i ≡ Some (record { instrs = x ∷ more; term = u }) →
    remaining_of o (i + 1) ≡ Some (record { instrs = more; term = u })
has_next None i x more u e = cc
has_next (Some b) i x more u e =
    let n : i + 1 ≡ suc i = omega arith in
    ap (λ k. remaining_in b.instrs b.term k) n ∙ one_more b.instrs b.term i ∙ ap behind_one e
