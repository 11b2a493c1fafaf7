-- Tests of lists, and lengths.
use Rattle.std.proofs.Common.{◌≡◌, ◌<◌, ℕ, suc, ◌+◌, nat_lt, ◌&&◌, Bool, true, false, List, [], ◌∷◌, ◌++◌, length, refl, ap, ◌∙◌, length-append, arith}
use Rattle.std.proofs.lemmas.Bool.Decides.{nat_tests}
use Rattle.low_forms.specs.Registers.{every}
use Rattle.low_forms.proofs.Words.{and_left, and_right, and_both}
use Rattle.scf_blocks.specs.Tree.{Var, types_in}
use Rattle.scf_blocks.specs.Code.{regs_from}
use Rattle.scf_blocks.proofs.Counts.{length_types}
use Rattle.ir_forms.specs.declared.types.Ty.{Ty}

pub below : (m n : ℕ) → m < n → nat_lt m n ≡ true
below m n lt = grind (arith, nat_tests)

pub all_three : (a b c : Bool) → a ≡ true → b ≡ true → c ≡ true → (a && b && c) ≡ true
all_three true b c is_a is_b is_c = and_both b c is_b is_c
all_three false b c is_a is_b is_c = cc

pub all_four : (a b c d : Bool) → a ≡ true → b ≡ true → c ≡ true → d ≡ true → (a && b && c && d) ≡ true
all_four true b c d is_a is_b is_c is_d = all_three b c d is_b is_c is_d
all_four false b c d is_a is_b is_c is_d = cc

pub every_append : {A : Type 0} → (p : A → Bool) (xs ys : List A) → every p xs ≡ true → every p ys ≡ true → every p (xs ++ ys) ≡ true
every_append p [] ys front back = back
every_append p (x ∷ xs) ys front back =
    and_both (p x) (every p (xs ++ ys)) (and_left (p x) (every p xs) front) (every_append p xs ys (and_right (p x) (every p xs) front) back)

-- what each element passes, where the first test says the second
pub every_more : {A : Type 0} → (p q : A → Bool) (xs : List A) → ((x : A) → p x ≡ true → q x ≡ true) → every p xs ≡ true → every q xs ≡ true
every_more p q [] more is = refl
every_more p q (x ∷ xs) more is =
    and_both (q x) (every q xs) (more x (and_left (p x) (every p xs) is)) (every_more p q xs more (and_right (p x) (every p xs) is))

-- how many registers there are in two parts
pub types_before : (xs : List Var) (ts : List Ty) → length (types_in xs ++ ts) ≡ length xs + length ts
types_before xs ts = length-append (types_in xs) ts ∙ ap (λ k. k + length ts) (length_types xs)

pub length_regs : {A : Type 0} → (n : ℕ) (xs : List A) → length (regs_from n xs) ≡ length xs
length_regs n [] = refl
length_regs n (x ∷ xs) = ap suc (length_regs (n + 1) xs)
