-- Lists in which one element is set, what remains of blocks, and registers from a number on.
use Rattle.std.proofs.Common.{◌≡◌, ◌⊎◌, inl, inr, ◌≢◌, ◌<◌, ◌≤◌, ◌&&◌, ℕ, zero, suc, ◌+◌, nat_lt, Bool, true, List, [], ◌∷◌, ◌++◌, map, length, Option, Some, None, refl, sym, ap, ◌∙◌, subst, arith, add-one}
use Rattle.std.specs.Prelude.{slice_get, slice_set}
use Rattle.std.proofs.lemmas.Bool.{ltb-true}
use Rattle.low_forms.specs.declared.code.Block.{Block}
use Rattle.low_forms.specs.declared.code.Instr.{Instr}
use Rattle.low_forms.specs.declared.code.Reg.{Reg}
use Rattle.low_forms.specs.declared.code.Term.{Term}
use Rattle.low_forms.specs.Places.{Remaining, remaining_in, remaining_of}
use Rattle.low_forms.specs.Registers.{every}
use Rattle.low_forms.proofs.Words.{and_left, and_right}
use Rattle.plain_carry.specs.Alike.{AllBelow}

pub set_same : {A : Type 0} (xs : List A) (t : ℕ) (x y : A) → slice_get xs t ≡ Some x → slice_get (slice_set xs t y) t ≡ Some y
set_same [] t x y e = cc
set_same (z ∷ xs) zero x y e = refl
set_same (z ∷ xs) (suc t) x y e = set_same xs t x y e

pub set_other : {A : Type 0} (xs : List A) (t u : ℕ) (y : A) → u ≢ t → slice_get (slice_set xs t y) u ≡ slice_get xs u
set_other [] t u y n = refl
set_other (z ∷ xs) zero zero y n = absurd (n refl)
set_other (z ∷ xs) zero (suc u) y n = refl
set_other (z ∷ xs) (suc t) zero y n = refl
set_other (z ∷ xs) (suc t) (suc u) y n = set_other xs t u y (λ e. n (ap suc e))

pub all_below : (n : ℕ) (rs : List Reg) → every (λ r. nat_lt r.0 n) rs ≡ true → AllBelow n rs
all_below n [] is = tt
all_below n (r ∷ rs) is = (ltb-true r.0 n (and_left (nat_lt r.0 n) (every (λ q. nat_lt q.0 n) rs) is), all_below n rs (and_right (nat_lt r.0 n) (every (λ q. nat_lt q.0 n) rs) is))

-- ---- what remains behind a row

abbrev behind_row : List Instr → Term → Option Remaining
behind_row [] t = None
behind_row (i ∷ instrs) t = Some (record { instrs = instrs; term = t })

abbrev pub after_row : Option Remaining → Option Remaining
after_row None = None
after_row (Some r) = behind_row r.instrs r.term

row_on : (instrs : List Instr) (t : Term) (p : ℕ) → remaining_in instrs t (suc p) ≡ after_row (remaining_in instrs t p)
row_on [] t zero = refl
row_on [] t (suc p) = refl
row_on (i ∷ instrs) t zero = refl
row_on (i ∷ instrs) t (suc p) = row_on instrs t p

pub in_block_on : (instrs : List Instr) (t : Term) (p : ℕ) (i : Instr) (is : List Instr) (u : Term) → remaining_in instrs t p ≡ Some (record { instrs = i ∷ is; term = u }) →
    remaining_in instrs t (p + 1) ≡ Some (record { instrs = is; term = u })
in_block_on instrs t p i is u e = ap (remaining_in instrs t) (add-one p) ∙ row_on instrs t p ∙ ap after_row e

of_block : (o : Option Block) (p : ℕ) → remaining_of o (suc p) ≡ after_row (remaining_of o p)
of_block None p = refl
of_block (Some b) p = row_on b.instrs b.term p

pub in_code_on : (o : Option Block) (p : ℕ) (i : Instr) (is : List Instr) (u : Term) → remaining_of o p ≡ Some (record { instrs = i ∷ is; term = u }) → remaining_of o (p + 1) ≡ Some (record { instrs = is; term = u })
in_code_on o p i is u e = ap (remaining_of o) (add-one p) ∙ of_block o p ∙ ap after_row e

-- where the next row is an instruction, it stands in the block
pub record InBlock (instrs : List Instr) (i : Instr) : Type 0 where
  pub place : ℕ
  pub at : slice_get instrs place ≡ Some i

abbrev first_in : Option Remaining → Option Instr
first_in None = None
first_in (Some r) = first_instr r.instrs
  where
    first_instr : List Instr → Option Instr
    first_instr [] = None
    first_instr (i ∷ instrs) = Some i

pub row_in : (instrs : List Instr) (t : Term) (p : ℕ) (i : Instr) (is : List Instr) (u : Term) → remaining_in instrs t p ≡ Some (record { instrs = i ∷ is; term = u }) → InBlock instrs i
row_in instrs t p i is u e = record { place = p; at = sym (first_at instrs p) ∙ ap first_in e }
  where
    first_at : (xs : List Instr) (q : ℕ) → first_in (remaining_in xs t q) ≡ slice_get xs q
    first_at [] zero = refl
    first_at [] (suc q) = refl
    first_at (x ∷ xs) zero = refl
    first_at (x ∷ xs) (suc q) = first_at xs q

abbrev term_in : Term → Option Remaining → Term
term_in d None = d
term_in d (Some r) = r.term

-- the terminator is the block's
pub term_of_block : (instrs : List Instr) (t : Term) (p : ℕ) (r : Remaining) → remaining_in instrs t p ≡ Some r → r.term ≡ t
term_of_block instrs t p r e = sym (ap (term_in t) e) ∙ always instrs p
  where
    always : (xs : List Instr) (q : ℕ) → term_in t (remaining_in xs t q) ≡ t
    always [] zero = refl
    always [] (suc q) = refl
    always (x ∷ xs) zero = refl
    always (x ∷ xs) (suc q) = always xs q

-- the same where two lists are joined behind it
pub get_first : {A : Type 0} (xs ys zs : List A) (n : ℕ) → n < length xs → slice_get ((xs ++ ys) ++ zs) n ≡ slice_get xs n
get_first [] ys zs n less = absurd (omega (arith, less))
get_first (x ∷ xs) ys zs zero less = refl
get_first (x ∷ xs) ys zs (suc n) less = get_first xs ys zs n (omega (arith, less))

pub beyond : {A : Type 0} (xs : List A) (k : ℕ) → k < length xs → slice_get xs k ≡ None → ⊥
beyond [] k less none = absurd (omega (arith, less))
beyond (x ∷ xs) zero less none = cc
beyond (x ∷ xs) (suc k) less none = beyond xs k (omega (arith, less)) none

-- ---- one more at the end

pub get_push : {A : Type 0} (xs : List A) (y : A) (u : ℕ) (x : A) → slice_get xs u ≡ Some x → slice_get (xs ++ y ∷ []) u ≡ Some x
get_push [] y u x e = cc
get_push (z ∷ xs) y zero x e = e
get_push (z ∷ xs) y (suc u) x e = get_push xs y u x e

pub get_last : {A : Type 0} (xs : List A) (y : A) (u : ℕ) → u ≡ length xs → slice_get (xs ++ y ∷ []) u ≡ Some y
get_last [] y zero e = refl
get_last [] y (suc u) e = absurd (omega (arith, e))
get_last (z ∷ xs) y zero e = absurd (omega (arith, e))
get_last (z ∷ xs) y (suc u) e = get_last xs y u (omega (arith, e))

-- what stands there stood there before, or is the last
pub pushed : {A : Type 0} (xs : List A) (y : A) (u : ℕ) (x : A) → slice_get (xs ++ y ∷ []) u ≡ Some x → (slice_get xs u ≡ Some x) ⊎ ((u ≡ length xs) × (y ≡ x))
pushed [] y zero x e = inr (refl, cc)
pushed [] y (suc u) x e = cc
pushed (z ∷ xs) y zero x e = inl e
pushed (z ∷ xs) y (suc u) x e = elim (pushed xs y u x e) [ inl before ↦ inl before | inr last ↦ (let is : u ≡ length xs = last.0 in inr (omega (arith, is), last.1)) ]

pub push_length : {A : Type 0} (xs : List A) (y : A) → length (xs ++ y ∷ []) ≡ length xs + 1
push_length [] y = refl
push_length (z ∷ xs) y = (let e : length (xs ++ y ∷ []) ≡ length xs + 1 = push_length xs y in omega (arith, e))
