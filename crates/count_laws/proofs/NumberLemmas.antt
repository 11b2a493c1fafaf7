-- Numbers along the counts that stand before and behind an instruction.
use Rattle.std.proofs.Common.{◌≡◌, inl, inr, ℕ, zero, suc, ◌+◌, ◌-◌, ◌≤◌, ◌==◌, ◌||◌, ◌&&◌, not, if◌then◌else◌, Bool, true, false, List, [], ◌∷◌, ◌++◌, refl, sym, ap, ◌∙◌, arith, subst}
use Rattle.std.specs.Prelude.{nat_le}
use Rattle.std.proofs.lemmas.Bool.Decides.{nat_tests}
use Rattle.low_flow.specs.Lists.{has}
use Rattle.low_forms.specs.declared.code.Reg.{Reg}
use Rattle.low_forms.specs.declared.code.Instr.{Instr}
use Rattle.low_forms.specs.declared.code.LowFunc.{LowFunc}
use Rattle.live_truths.specs.Truths.{is_live}
use Rattle.own_tables.specs.Owns.{allows, after}
use Rattle.ref_counting.specs.Shape.{add_ref, drop_ref, times, adds, drops, dropped_dead}
use Rattle.count_laws.specs.Laws.{along, allowed}
use Rattle.count_laws.proofs.OrderLemmas.{Ascends, not_later}

pub all_three : (a b c : Bool) → a ≡ true → b ≡ true → c ≡ true → (a && b && c) ≡ true
all_three true true true x y z = refl
all_three false b c x y z = cc
all_three true false c x y z = cc
all_three true true false x y z = cc

pub and_all : (a b : Bool) → a ≡ true → b ≡ true → (a && b) ≡ true
and_all true b is also = also
and_all false b is also = cc

and_swap : (a b c : Bool) → (a && (b && c)) ≡ ((a && b) && c)
and_swap true b c = refl
and_swap false b c = refl

pub plus_none : (a : ℕ) → a + 0 ≡ a
plus_none a = omega arith

pub less_none : (a : ℕ) → a - 0 ≡ a
less_none a = omega arith

pub same_number : (a b : ℕ) → (a == b) ≡ true → a ≡ b
same_number a b is = grind (arith, nat_tests)

pub le_true : (a b : ℕ) → a ≤ b → nat_le a b ≡ true
le_true a b less = grind (arith, nat_tests, less)

pub or_right : (a b : Bool) → b ≡ true → (a || b) ≡ true
or_right true b is = refl
or_right false b is = is

pub or_left : (a b : Bool) → a ≡ true → (a || b) ≡ true
or_left true b is = refl
or_left false b is = cc

module _ (f : LowFunc) (r : ℕ) where
  pub along_append : (xs ys : List Instr) (n : ℕ) → along f r (xs ++ ys) n ≡ along f r ys (along f r xs n)
  along_append [] ys n = refl
  along_append (i ∷ xs) ys n = along_append xs ys (after f i r n)

  pub allowed_append : (xs ys : List Instr) (n : ℕ) → allowed f r (xs ++ ys) n ≡ (allowed f r xs n && allowed f r ys (along f r xs n))
  allowed_append [] ys n = refl
  allowed_append (i ∷ xs) ys n = ap (λ x. allows f i r n && x) (allowed_append xs ys (after f i r n)) ∙ and_swap (allows f i r n) (allowed f r xs (after f i r n)) (allowed f r ys (along f r xs (after f i r n)))

  -- ---- one count

  pub after_add : (q m n : ℕ) → after f (add_ref q m) r n ≡ n + (if r == q then m else 0)
  after_add q m n = step (r == q)
    where
      step : (b : Bool) → (n - (0 + (if b then 0 else 0))) + (0 + (if b then m else 0)) ≡ n + (if b then m else 0)
      step true = omega arith
      step false = omega arith

  pub after_drop : (q n : ℕ) → after f (drop_ref q) r n ≡ n - (if r == q then 1 else 0)
  after_drop q n = step (r == q)
    where
      step : (b : Bool) → (n - (0 + (if b then 1 else 0))) + (0 + (if b then 0 else 0)) ≡ n - (if b then 1 else 0)
      step true = omega arith
      step false = omega arith

  pub allows_add : (q m n : ℕ) → ((r == q) ≡ true → 1 ≤ n) → allows f (add_ref q m) r n ≡ true
  allows_add q m n enough = step (r == q) enough
    where
      step : (b : Bool) → (b ≡ true → 1 ≤ n) → ((not (b || false) || nat_le 1 n) && nat_le (0 + (if b then 0 else 0)) n && (not false || (n == 0))) ≡ true
      step true more = all_three (nat_le 1 n) (nat_le (0 + 0) n) true (le_true 1 n (more refl)) (le_true (0 + 0) n (omega arith)) refl
      step false more = all_three true (nat_le (0 + 0) n) true refl (le_true (0 + 0) n (omega arith)) refl

  pub allows_drop : (q n : ℕ) → ((r == q) ≡ true → 1 ≤ n) → allows f (drop_ref q) r n ≡ true
  allows_drop q n enough = step (r == q) enough
    where
      step : (b : Bool) → (b ≡ true → 1 ≤ n) → ((not false || nat_le 1 n) && nat_le (0 + (if b then 1 else 0)) n && (not false || (n == 0))) ≡ true
      step true more = all_three true (nat_le (0 + 1) n) true refl (le_true (0 + 1) n (let e : 1 ≤ n = more refl in omega (arith, e))) refl
      step false more = all_three true (nat_le (0 + 0) n) true refl (le_true (0 + 0) n (omega arith)) refl

  -- ---- before an instruction

  module _ (taken : List Reg) where
    pub along_adds : (qs : List ℕ) (n : ℕ) → Ascends qs → along f r (adds taken qs) n ≡ n + (if has r qs then times r taken else 0)
    along_adds [] n up = omega arith
    along_adds (q ∷ qs) n up = along_adds qs (after f (add_ref q (times q taken)) r n) up.1 ∙ step (r == q) refl
      where
        now : after f (add_ref q (times q taken)) r n ≡ n + (if r == q then times q taken else 0)
        now = after_add q (times q taken) n

        step : (b : Bool) → (r == q) ≡ b → after f (add_ref q (times q taken)) r n + (if has r qs then times r taken else 0) ≡ n + (if b || has r qs then times r taken else 0)
        step true is =
            ap (λ m. m + (if has r qs then times r taken else 0)) now ∙ ap (λ b. (n + (if b then times q taken else 0)) + (if has r qs then times r taken else 0)) is
            ∙ ap (λ b. (n + times q taken) + (if b then times r taken else 0)) (not_later r q qs up is) ∙ plus_none (n + times q taken)
            ∙ ap (λ x. n + times x taken) (sym (same_number r q is))
        step false is =
            ap (λ m. m + (if has r qs then times r taken else 0)) now ∙ ap (λ b. (n + (if b then times q taken else 0)) + (if has r qs then times r taken else 0)) is
            ∙ ap (λ m. m + (if has r qs then times r taken else 0)) (plus_none n)

    pub allowed_adds : (qs : List ℕ) (n : ℕ) → (has r qs ≡ true → 1 ≤ n) → allowed f r (adds taken qs) n ≡ true
    allowed_adds [] n enough = refl
    allowed_adds (q ∷ qs) n enough =
        and_all (allows f (add_ref q (times q taken)) r n) (allowed f r (adds taken qs) (after f (add_ref q (times q taken)) r n))
        (allows_add q (times q taken) n (λ is. enough (or_left (r == q) (has r qs) is)))
        (allowed_adds qs (after f (add_ref q (times q taken)) r n)
        (λ there. (let e : 1 ≤ n = enough (or_right (r == q) (has r qs) there) in let a : after f (add_ref q (times q taken)) r n ≡ n + (if r == q then times q taken else 0) = after_add q (times q taken) n in omega (arith, e, a))))

  -- ---- behind an instruction

  module _ (block row : ℕ) where
    abbrev ends : ℕ → Bool
    ends q = not (is_live f block row q)

    along_dead : (q n : ℕ) → along f r (dropped_dead f block row q) n ≡ n - (if (r == q) && ends q then 1 else 0)
    along_dead q n = step (is_live f block row q)
      where
        step : (b : Bool) → along f r (if b then [] else drop_ref q ∷ []) n ≡ n - (if (r == q) && not b then 1 else 0)
        step true = sym (ap (λ x. n - (if x then 1 else 0)) (and_false (r == q)) ∙ less_none n)
          where
            and_false : (a : Bool) → (a && false) ≡ false
            and_false true = refl
            and_false false = refl
        step false = after_drop q n ∙ ap (λ x. n - (if x then 1 else 0)) (sym (and_true (r == q)))
          where
            and_true : (a : Bool) → (a && true) ≡ a
            and_true true = refl
            and_true false = refl

    allowed_dead : (q n : ℕ) → ((r == q) ≡ true → is_live f block row q ≡ false → 1 ≤ n) → allowed f r (dropped_dead f block row q) n ≡ true
    allowed_dead q n enough = step (is_live f block row q) refl
      where
        step : (b : Bool) → is_live f block row q ≡ b → allowed f r (if b then [] else drop_ref q ∷ []) n ≡ true
        step true is = refl
        step false is = and_all (allows f (drop_ref q) r n) true (allows_drop q n (λ same. enough same is)) refl

    pub along_drops : (qs : List ℕ) (n : ℕ) → Ascends qs → along f r (drops f block row qs) n ≡ n - (if has r qs && ends r then 1 else 0)
    along_drops [] n up = omega arith
    along_drops (q ∷ qs) n up =
        along_append (dropped_dead f block row q) (drops f block row qs) n ∙ along_drops qs (along f r (dropped_dead f block row q) n) up.1
        ∙ ap (λ m. m - (if has r qs && ends r then 1 else 0)) (along_dead q n) ∙ step (r == q) refl
      where
        step : (b : Bool) → (r == q) ≡ b → (n - (if (r == q) && ends q then 1 else 0)) - (if has r qs && ends r then 1 else 0) ≡ n - (if (b || has r qs) && ends r then 1 else 0)
        step true is =
            ap (λ b. (n - (if b && ends q then 1 else 0)) - (if has r qs && ends r then 1 else 0)) is
            ∙ ap (λ b. (n - (if ends q then 1 else 0)) - (if b && ends r then 1 else 0)) (not_later r q qs up is) ∙ less_none (n - (if ends q then 1 else 0))
            ∙ ap (λ x. n - (if ends x then 1 else 0)) (sym (same_number r q is))
        step false is = ap (λ b. (n - (if b && ends q then 1 else 0)) - (if has r qs && ends r then 1 else 0)) is ∙ ap (λ m. m - (if has r qs && ends r then 1 else 0)) (less_none n)

    pub allowed_drops : (qs : List ℕ) (n : ℕ) → Ascends qs → (has r qs ≡ true → is_live f block row r ≡ false → 1 ≤ n) → allowed f r (drops f block row qs) n ≡ true
    allowed_drops [] n up enough = refl
    allowed_drops (q ∷ qs) n up enough =
        allowed_append (dropped_dead f block row q) (drops f block row qs) n
        ∙ and_all (allowed f r (dropped_dead f block row q) n) (allowed f r (drops f block row qs) (along f r (dropped_dead f block row q) n))
        (allowed_dead q n (λ same dead. enough (or_left (r == q) (has r qs) same) (ap (λ x. is_live f block row x) (same_number r q same) ∙ dead)))
        (allowed_drops qs (along f r (dropped_dead f block row q) n) up.1 (λ there dead. later there dead (r == q) refl))
      where
        later : has r qs ≡ true → is_live f block row r ≡ false → (b : Bool) → (r == q) ≡ b → 1 ≤ along f r (dropped_dead f block row q) n
        later there dead true same = (let none : has r qs ≡ false = not_later r q qs up same in cc)
        later there dead false same =
            let e : 1 ≤ n = enough (or_right (r == q) (has r qs) there) dead in
            let a : along f r (dropped_dead f block row q) n ≡ n = along_dead q n ∙ ap (λ b. n - (if b && ends q then 1 else 0)) same ∙ less_none n in
            omega (arith, e, a)
