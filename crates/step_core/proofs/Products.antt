-- The product of sizes, kept below a limit.
use Rattle.std.specs.Prelude.{◌⊎◌}
use mathlib.Core.Logic.{inl, inr}
use Rattle.std.proofs.Common.{◌≡◌, ◌≤◌, ◌<◌, ℕ, zero, suc, ◌+◌, ◌*◌, min, List, ◌∷◌, drop, length, get_or, refl, sym, ap, subst, ◌∙◌, arith}
use Rattle.std.proofs.Math.Nat.{min-eq_left, mul_assoc, le-mul_of_pos_right}
use Rattle.std.proofs.lemmas.List.{drop_more}
use Rattle.ir_forms.specs.Shapes.{product}

either_up : (a b : ℕ) → (a ≤ b) ⊎ (b ≤ a) → (suc a ≤ suc b) ⊎ (suc b ≤ suc a)
either_up a b (inl h) = inl (omega arith)
either_up a b (inr h) = inr (omega arith)

either : (a b : ℕ) → (a ≤ b) ⊎ (b ≤ a)
either zero b = inl (omega arith)
either (suc a) zero = inr (omega arith)
either (suc a) (suc b) = either_up a b (either a b)

at_limit : (a b : ℕ) → b ≤ a → min a b ≡ b
at_limit a b h = omega arith

capped_by : (a p limit : ℕ) → (a ≤ limit) ⊎ (limit ≤ a) → min (min a limit * suc p) limit ≡ min (a * suc p) limit
capped_by a p limit (inl h) = rw (min-eq_left h) refl
capped_by a p limit (inr h) =
    let e : min a limit ≡ limit = at_limit a limit h in
    let k : limit ≤ limit * suc p = le-mul_of_pos_right {m = suc p} limit (omega arith) in
    let l : a ≤ a * suc p = le-mul_of_pos_right {m = suc p} a (omega arith) in
    rw e (at_limit (limit * suc p) limit k ∙ sym (at_limit (a * suc p) limit (omega arith)))

-- a factor that is cut off at the limit changes nothing at the limit
pub capped : (a p limit : ℕ) → min (min a limit * p) limit ≡ min (a * p) limit
capped a zero limit = omega arith
capped a (suc p) limit = capped_by a p limit (either a limit)

-- one factor more
pub product_step : (dims : List ℕ) (i cells next total limit : ℕ) → i < length dims → next ≡ min (cells * get_or dims i 0) limit →
    min (cells * product (drop i dims)) limit ≡ total → min (next * product (drop (i + 1) dims)) limit ≡ total
product_step dims i cells next total limit h e k =
    let d : drop i dims ≡ get_or dims i 0 ∷ drop (i + 1) dims = drop_more dims i 0 h in
    let t : min (cells * product (get_or dims i 0 ∷ drop (i + 1) dims)) limit ≡ total = subst (λ (ds : List ℕ). min (cells * product ds) limit ≡ total) d k in
    subst (λ n. min (n * product (drop (i + 1) dims)) limit ≡ total) (sym e)
    (capped (cells * get_or dims i 0) (product (drop (i + 1) dims)) limit ∙ ap (λ n. min n limit) (mul_assoc cells (get_or dims i 0) (product (drop (i + 1) dims))) ∙ t)
