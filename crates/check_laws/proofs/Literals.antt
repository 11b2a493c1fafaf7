-- A constant has the bits that it was made for.
use Rattle.std.proofs.Common.{◌≡◌, ◌⊎◌, ◌<◌, ◌≤◌, ℕ, zero, suc, ◌+◌, ◌-◌, ◌*◌, ◌%◌, ◌^◌, nat_lt, Bool, true, false, cond, Some, refl, sym, ap, subst, ◌∙◌, arith, inl, inr}
use Rattle.std.proofs.Math.Nat.{mod-eq_of_lt, mul-add-mod_self_left}
use Rattle.std.proofs.lemmas.Bool.{true≢false}
use Rattle.std.proofs.lemmas.Bool.Decides.{leb_tells}
use Rattle.int_ops.specs.declared.Width.TheVariants.{W1, W8, W16, W32, W64}
use Rattle.ir_forms.specs.declared.ops.Attr.TheVariants as attr
use Rattle.ir_forms.specs.declared.types.NumTy.{NumTy}
use Rattle.ir_forms.specs.declared.types.NumTy.TheVariants as num
use Rattle.made_ops.specs.Made as made
use Rattle.source_meaning.specs.Parts.{width_of}
use Rattle.source_meaning.specs.Rows.{at_width, literal_bits}

pub width_is : (t : NumTy) → width_of (Some (made.type_of t)) ≡ made.width_of t
width_is (num.Int w) = refl
width_is num.Index = refl

-- a number below p that is written by its sign
signed_is : (h p r n all_ : ℕ) → p ≡ h + h → all_ ≡ p * r + p → 2 ^ 64 ≡ all_ → n < p → 0 < h → (b : Bool) → (b ≡ true → n < h) → (b ≡ false → h ≤ n) →
    literal_bits (cond b (attr.Literal false n) (attr.Literal true (p - n))) % p ≡ n
signed_is h p r n all_ two all whole l some true low high =
    let more : n < 2 ^ 64 = subst (λ z. n < z) (sym whole) (let m : n < all_ = omega arith in m) in
    ap (λ z. z % p) (mod-eq_of_lt more) ∙ mod-eq_of_lt l
signed_is h p r n all_ two all whole l some false low high =
    let up : h ≤ n = high refl in
    let c : 0 < p - n = omega arith in
    let a : p - n < 2 ^ 64 = subst (λ z. p - n < z) (sym whole) (let m : p - n < all_ = omega arith in m) in
    let b : 2 ^ 64 - (p - n) < 2 ^ 64 = subst (λ z. z - (p - n) < z) (sym whole) (let m : all_ - (p - n) < all_ = omega arith in m) in
    let split : 2 ^ 64 - (p - n) ≡ p * r + n = subst (λ z. z - (p - n) ≡ p * r + n) (sym whole) (let m : all_ - (p - n) ≡ p * r + n = omega arith in m) in
    ap (λ z. (2 ^ 64 - z) % 2 ^ 64 % p) (mod-eq_of_lt a) ∙ (ap (λ z. z % p) (mod-eq_of_lt b) ∙ (ap (λ z. z % p) split ∙ (mul-add-mod_self_left p r n ∙ mod-eq_of_lt l)))

below_test : (n h : ℕ) → nat_lt n h ≡ true → n < h
below_test n h e = go (leb_tells (suc n) h) where
  go : ((nat_lt n h ≡ true) × (suc n ≤ h)) ⊎ ((nat_lt n h ≡ false) × (h < suc n)) → n < h
  go (inl a) = a.1
  go (inr a) = absurd (true≢false (sym e ∙ a.0))

above_test : (n h : ℕ) → nat_lt n h ≡ false → h ≤ n
above_test n h e = go (leb_tells (suc n) h) where
  go : ((nat_lt n h ≡ true) × (suc n ≤ h)) ⊎ ((nat_lt n h ≡ false) × (h < suc n)) → h ≤ n
  go (inl a) = absurd (true≢false (sym a.0 ∙ e))
  go (inr a) = let l : h < suc n = a.1 in omega arith

pub literal_is : (t : NumTy) (n : ℕ) → n < 2 ^ made.width_of t → at_width (made.width_of t) (literal_bits (made.literal t n)) ≡ n
literal_is (num.Int W1) zero l = refl
literal_is (num.Int W1) (suc zero) l = refl
literal_is (num.Int W1) (suc (suc n)) l = absurd (let m : suc (suc n) < 2 = l in omega arith)
literal_is (num.Int W8) n l = signed_is (2 ^ 7) (2 ^ 8) (2 ^ 56 - 1) n (2 ^ 64) refl refl refl l (omega arith) (nat_lt n (2 ^ 7)) (below_test n (2 ^ 7)) (above_test n (2 ^ 7))
literal_is (num.Int W16) n l = signed_is (2 ^ 15) (2 ^ 16) (2 ^ 48 - 1) n (2 ^ 64) refl refl refl l (omega arith) (nat_lt n (2 ^ 15)) (below_test n (2 ^ 15)) (above_test n (2 ^ 15))
literal_is (num.Int W32) n l = signed_is (2 ^ 31) (2 ^ 32) (2 ^ 32 - 1) n (2 ^ 64) refl refl refl l (omega arith) (nat_lt n (2 ^ 31)) (below_test n (2 ^ 31)) (above_test n (2 ^ 31))
literal_is (num.Int W64) n l = signed_is (2 ^ 63) (2 ^ 64) 0 n (2 ^ 64) refl refl refl l (omega arith) (nat_lt n (2 ^ 63)) (below_test n (2 ^ 63)) (above_test n (2 ^ 63))
literal_is num.Index n l = signed_is (2 ^ 63) (2 ^ 64) 0 n (2 ^ 64) refl refl refl l (omega arith) (nat_lt n (2 ^ 63)) (below_test n (2 ^ 63)) (above_test n (2 ^ 63))
