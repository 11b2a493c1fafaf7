-- What is computed before a parallel loop are the turns of its dimensions.
use Rattle.std.proofs.Common.{◌≡◌, ◌⊎◌, ◌<◌, ◌≤◌, ℕ, zero, suc, ◌+◌, ◌-◌, ◌*◌, ◌/◌, ◌^◌, nat_le, Bool, true, false, cond, Some, None, refl, sym, ap, ap₂, subst, ◌∙◌, arith, ℤ, pos, negsuc, ◌-ℤ◌, inl, inr}
use Rattle.std.specs.Prelude.{◌&&◌, ◌==◌, int_le}
use Rattle.std.proofs.Math.Nat.{div-le_self}
use Rattle.std.proofs.Math.Logic.{⊎_elim}
use Rattle.std.proofs.lemmas.Int.{ints}
use Rattle.std.proofs.lemmas.Bool.{true≢false, cases_lt}
use Rattle.std.proofs.lemmas.Bool.Decides.{leb_tells, eqb_tells}
use Rattle.int_ops.specs.Arithmetic.{residue, arith_result, compares, signed_reading}
use Rattle.int_ops.specs.declared.BinOp.TheVariants.{DivU, Mul, Sub, Add}
use Rattle.int_ops.specs.declared.Pred.TheVariants.{Sle}
use Rattle.int_ops.proofs.Readings.{residue-pos, residue-negsuc, residue-below}
use Rattle.source_meaning.specs.Rows.{result_at, turns_between, are_bounds, is_bound, is_step}
use Rattle.check_laws.specs.Rows.{IsNumber, TurnsAreComputed}
use Rattle.check_laws.proofs.Numbers.{whole, and_true, some_same}

le_self : (n : ℕ) → nat_le n n ≡ true
le_self n = go (leb_tells n n) where
  go : ((nat_le n n ≡ true) × (n ≤ n)) ⊎ ((nat_le n n ≡ false) × (n < n)) → nat_le n n ≡ true
  go (inl a) = a.0
  go (inr a) = absurd (let l : n < n = a.1 in omega arith)

int_le_self : (z : ℤ) → int_le z z ≡ true
int_le_self (pos n) = le_self n
int_le_self (negsuc n) = le_self n

sle_self : (u : ℕ) → compares 64 Sle u u ≡ true
unfolding compares
sle_self u = int_le_self (signed_reading 64 u)

step_positive : (s : ℕ) → is_step s ≡ true → 0 < s
unfolding compares signed_reading
step_positive zero e = absurd (true≢false (sym e))
step_positive (suc s) e = omega arith

pub steps_forward : (l u s : ℕ) → are_bounds l u s ≡ true → 0 < s
steps_forward l u s e = step_positive s (and_true (is_bound u) (is_step s) (and_true (is_bound l) (is_bound u && is_step s) (reordered (is_bound l) (is_bound u) (is_step s) e)).1).1 where
  reordered : (a b c : Bool) → (a && b && c) ≡ true → (a && (b && c)) ≡ true
  reordered true b c h = h
  reordered false b c h = absurd (true≢false (sym h))

pub sub_is : (x y : ℕ) → IsNumber x → IsNumber y → result_at 64 Sub x y ≡ Some (residue 64 (pos x -ℤ pos y))
unfolding arith_result
sub_is x y h g = ap₂ (λ a b. Some (residue 64 (pos a -ℤ pos b))) (whole x h) (whole y g)

pub less_one : (d : ℕ) → IsNumber d → 0 < d → result_at 64 Sub d 1 ≡ Some (d - 1)
less_one d h some = sub_is d 1 h (omega arith) ∙ ap Some (ap (residue 64) (let e : pos d -ℤ pos 1 ≡ pos (d - 1) = omega (arith, ints) in e) ∙ residue-pos 64 (d - 1) (let m : d < 2 ^ 64 = h in omega arith))

pub div_is : (r s : ℕ) → IsNumber r → IsNumber s → 0 < s → result_at 64 DivU r s ≡ Some (r / s)
unfolding arith_result
div_is r s h g some = ap₂ (λ a b. arith_result 64 DivU a b) (whole r h) (whole s g) ∙ go (s == 0) (eqb_tells s 0) where
  go : (b : Bool) → ((s == 0) ≡ true) × (s ≡ 0) ⊎ ((s == 0) ≡ false) × (s ≡ 0 → ⊥) → arith_result 64 DivU r s ≡ Some (r / s)
  go b (inl a) = absurd (let e : s ≡ 0 = a.1 in omega arith)
  go b (inr a) = ap (λ c. cond c None (Some (residue 64 (pos (r / s))))) a.0 ∙ ap Some (residue-pos 64 (r / s) (let m : r < 2 ^ 64 = h in let n = div-le_self r s in omega arith))

pub add_one_is : (n : ℕ) → IsNumber (n + 1) → result_at 64 Add n 1 ≡ Some (n + 1)
unfolding arith_result
add_one_is n h = ap (λ a. Some (residue 64 (pos (a + 1)))) (whole n (let m : n + 1 < 2 ^ 64 = h in omega arith)) ∙ ap Some (residue-pos 64 (n + 1) h)

pub mul_is : (n k : ℕ) → IsNumber n → IsNumber k → IsNumber (n * k) → result_at 64 Mul n k ≡ Some (n * k)
unfolding arith_result
mul_is n k h g l = ap₂ (λ a b. Some (residue 64 (pos (a * b)))) (whole n h) (whole k g) ∙ ap Some (residue-pos 64 (n * k) l)

-- where the upper bound isn't below the lower one, they differ by something
pub between_some : (l u : ℕ) → IsNumber l → IsNumber u → compares 64 Sle u l ≡ false → 0 < residue 64 (pos u -ℤ pos l)
between_some l u h g e = ⊎_elim
    (λ less. let n : l < 2 ^ 64 = h in let is : pos u -ℤ pos l ≡ negsuc (l - u - 1) = omega (arith, ints) in
    subst (λ r. 0 < r) (sym (ap (residue 64) is ∙ residue-negsuc 64 (l - u - 1) (omega arith))) (omega arith))
    (λ more. let n : u < 2 ^ 64 = g in let is : pos u -ℤ pos l ≡ pos (u - l) = omega (arith, ints) in
    subst (λ r. 0 < r) (sym (ap (residue 64) is ∙ residue-pos 64 (u - l) (omega arith))) (apart more))
    (cases_lt u l) where
      apart : l ≤ u → 0 < u - l
      apart more = ⊎_elim (λ less. omega arith) (λ same. let s : u ≤ l = same in absurd (true≢false (sym (sle_self l) ∙ subst (λ x. compares 64 Sle x l ≡ false) (let e : u ≡ l = omega arith in e) e))) (cases_lt l u)

pub turns_some : (l u s : ℕ) → compares 64 Sle u l ≡ false → turns_between l u s ≡ (residue 64 (pos u -ℤ pos l) - 1) / s + 1
turns_some l u s e = ap (λ c. cond c 0 ((residue 64 (pos u -ℤ pos l) - 1) / s + 1)) e

pub turns_none : (l u s : ℕ) → compares 64 Sle u l ≡ true → turns_between l u s ≡ 0
turns_none l u s e = ap (λ c. cond c 0 ((residue 64 (pos u -ℤ pos l) - 1) / s + 1)) e

pub steps_number : (l u s : ℕ) → 0 < residue 64 (pos u -ℤ pos l) → IsNumber ((residue 64 (pos u -ℤ pos l) - 1) / s + 1)
steps_number l u s some = let d = residue-below 64 (pos u -ℤ pos l) in let q = div-le_self (residue 64 (pos u -ℤ pos l) - 1) s in omega arith

pub turns_number : (l u s : ℕ) → IsNumber l → IsNumber u → IsNumber (turns_between l u s)
turns_number l u s h g = go (compares 64 Sle u l) refl where
  go : (b : Bool) → compares 64 Sle u l ≡ b → IsNumber (turns_between l u s)
  go true e = subst IsNumber (sym (turns_none l u s e)) (omega arith)
  go false e = subst IsNumber (sym (turns_some l u s e)) (steps_number l u s (between_some l u h g e))

pub turns_are_computed : TurnsAreComputed
turns_are_computed l u s between rest steps all h g i ok e a b c d =
    let m : ℕ = residue 64 (pos u -ℤ pos l) in
    let some : 0 < m = between_some l u h g e in
    let ma : between ≡ m = some_same between m (sym a ∙ sub_is u l g h) in
    let mb : rest ≡ m - 1 = some_same rest (m - 1) (sym b ∙ (ap (λ x. result_at 64 Sub x 1) ma ∙ less_one m (residue-below 64 (pos u -ℤ pos l)) some)) in
    let low : IsNumber (m - 1) = let r = residue-below 64 (pos u -ℤ pos l) in omega arith in
    let mc : steps ≡ (m - 1) / s = some_same steps ((m - 1) / s) (sym c ∙ (ap (λ x. result_at 64 DivU x s) mb ∙ div_is (m - 1) s low i (steps_forward l u s ok))) in
    some_same all ((m - 1) / s + 1) (sym d ∙ (ap (λ x. result_at 64 Add x 1) mc ∙ add_one_is ((m - 1) / s) (steps_number l u s some))) ∙ sym (turns_some l u s e)
