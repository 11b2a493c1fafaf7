-- The dimensions of a parallel loop, and how many iterations they have.
use Rattle.std.proofs.Common.{◌≡◌, ℕ, zero, suc, ◌+◌, ◌-◌, ◌*◌, ◌/◌, ◌%◌, ◌^◌, ◌<◌, ◌≤◌, ◌&&◌, Bool, true, false, List, [], ◌∷◌, ◌++◌, length, drop, map, get_or, Option, Some, None, refl, ap, sym, subst, ◌∙◌, append_assoc, add-one, add-zero, mul_assoc, mul_comm, mul-zero, zero-mul, arith}
use native.Mathlib.Nat.{add-mod-mod}
use Rattle.std.specs.Prelude.{nat_le, if◌then◌else◌}
use Rattle.std.proofs.Math.Seq.{drop-cons}
use Rattle.std.proofs.lemmas.Bool.{and_right, and_parts, leb-true}
use Rattle.std.proofs.lemmas.Nat.{div_below, div-mul-add}
use Rattle.std.proofs.lemmas.Option.{none-some}
use Rattle.int_ops.specs.Arithmetic.{compares, signed_reading}
use Rattle.ir_forms.specs.Shapes.{product}
use Rattle.source_meaning.specs.declared.values.Val.{Val}
use Rattle.source_meaning.specs.declared.values.Val.TheVariants.{Number}
use Rattle.source_meaning.specs.Rows.{is_bound, are_bounds, product_from, product_within, most_elements, turns_of, variables}
use Rattle.source_meaning.specs.Tasks.{Span}

-- a step of 0 is out of range
pub no_step : (lower upper : ℕ) → are_bounds lower upper 0 ≡ false
unfolding compares signed_reading
no_step lower upper = and_right (is_bound lower && is_bound upper) false refl

-- one turn more than that is in range
pub turns_fit : (distance step : ℕ) → 0 < step → distance < 2 ^ 64 → (distance - 1) / step < 2 ^ 64 - 1
turns_fit distance step h d = div_below (distance - 1) step (2 ^ 64 - 1) h (omega arith)

-- ---- products under a limit

guard_some : {X : Type 0} (b : Bool) (o : Option X) (x : X) → (if b then o else None) ≡ Some x → (b ≡ true) × (o ≡ Some x)
guard_some true o x e = (refl, e)
guard_some false o x e = absurd (none-some x e)

-- the product is the product, and within the limit
pub product_is : (limit n m : ℕ) (ks : List ℕ) → n ≤ limit → product_from limit n ks ≡ Some m → (m ≡ n * product ks) × (m ≤ limit)
product_is limit n m [] h e =
    let s : n ≡ m = some_is n m e in
    let o : n ≡ n * 1 = omega arith in
    (sym s ∙ o, subst (λ (x : ℕ). x ≤ limit) s h)
  where
    some_is : (x y : ℕ) → Some x ≡ Some y → x ≡ y
    some_is x y e = cc
product_is limit n m (k ∷ ks) h e =
    let g : ((nat_le k limit && nat_le (n * k) limit) ≡ true) × (product_from limit (n * k) ks ≡ Some m) = guard_some (nat_le k limit && nat_le (n * k) limit) (product_from limit (n * k) ks) m e in
    let r : (m ≡ n * k * product ks) × (m ≤ limit) = product_is limit (n * k) m ks (leb-true (n * k) limit (and_parts (nat_le k limit) (nat_le (n * k) limit) g.0).1) g.1 in
    (r.0 ∙ mul_assoc n k (product ks), r.1)

-- ---- variables

-- all dimensions are left
pub variables_begin : (spans : List Span) (total i : ℕ) → product_within most_elements (turns_of spans) ≡ Some total → i < total →
    (0 < total) × (total ≡ product (turns_of spans))
variables_begin spans total i fits within =
    let is : (total ≡ 1 * product (turns_of spans)) × (total ≤ most_elements) = product_is most_elements 1 total (turns_of spans) (omega arith) fits in
    let one : 1 * product (turns_of spans) ≡ product (turns_of spans) = omega arith in
    (omega (arith, within), is.0 ∙ one)

-- what is left behind a dimension
pub behind : (later after turns rest : ℕ) → 0 < later → later ≡ turns * rest → after ≡ later / turns → (0 < after) × (after ≡ rest)
behind later after zero rest pos is a = absurd (let z : later ≡ 0 = is ∙ zero-mul rest in omega (arith, pos, z))
behind later after (suc turns) zero pos is a = absurd (let z : later ≡ 0 = is ∙ mul-zero (suc turns) in omega (arith, pos, z))
behind later after (suc turns) (suc rest) pos is a =
    let e : after ≡ suc rest = a ∙ ap (λ (x : ℕ). x / suc turns) (is ∙ mul_comm (suc turns) (suc rest) ∙ sym (add-zero (suc rest * suc turns))) ∙ div-mul-add (suc rest) (suc turns) 0 (omega arith) in
    (omega (arith, e), e)

-- one variable more
pub variables_next : (spans : List Span) (s : Span) (k later after i : ℕ) (vals more whole : List Val) → k < length spans → s ≡ get_or spans k s →
    0 < later → later ≡ product (turns_of (drop k spans)) → after ≡ later / s.turns →
    more ≡ vals ++ Number ((s.lower + (i / after % s.turns * s.step) % 2 ^ 64) % 2 ^ 64) ∷ [] →
    vals ++ map Number (variables (drop k spans) i) ≡ whole →
    (0 < after) × (after ≡ product (turns_of (drop (k + 1) spans))) × (more ++ map Number (variables (drop (k + 1) spans) i) ≡ whole)
variables_next spans s k later after i vals more whole inside at pos left is pushed so_far =
    let front : drop k spans ≡ s ∷ drop (suc k) spans = drop-cons spans k s inside ∙ ap (λ x. x ∷ drop (suc k) spans) (sym at) in
    let all : later ≡ s.turns * product (turns_of (drop (suc k) spans)) = left ∙ ap (λ (xs : List Span). product (turns_of xs)) front in
    let b : (0 < after) × (after ≡ product (turns_of (drop (suc k) spans))) = behind later after s.turns (product (turns_of (drop (suc k) spans))) pos all is in
    let v : (s.lower + (i / after % s.turns * s.step) % 2 ^ 64) % 2 ^ 64 ≡ (s.lower + i / product (turns_of (drop (suc k) spans)) % s.turns * s.step) % 2 ^ 64 =
    add-mod-mod s.lower (i / after % s.turns * s.step) (2 ^ 64) ∙ ap (λ (a : ℕ). (s.lower + i / a % s.turns * s.step) % 2 ^ 64) b.1 in
    rw add-one (
      b.0,
      b.1,
      ap (λ (vs : List Val). vs ++ map Number (variables (drop (suc k) spans) i)) (pushed ∙ ap (λ (n : ℕ). vals ++ Number n ∷ []) v)
          ∙ append_assoc vals (Number ((s.lower + i / product (turns_of (drop (suc k) spans)) % s.turns * s.step) % 2 ^ 64) ∷ []) (map Number (variables (drop (suc k) spans) i))
          ∙ ap (λ (xs : List Span). vals ++ map Number (variables xs i)) (sym front) ∙ so_far,
    )
