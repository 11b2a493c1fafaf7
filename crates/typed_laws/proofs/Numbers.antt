-- Numbers that operations come to have 64 bits.
use Rattle.std.proofs.Common.{◌≡◌, ◌<◌, ◌≤◌, ◌%◌, ◌^◌, ℕ, Bool, true, false, cond, List, [], ◌∷◌, Option, Some, None, refl, arith}
use Rattle.std.specs.Prelude.{nat_le, ◌&&◌, ◌*◌, IfSome}
use Rattle.std.proofs.lemmas.Bool.{leb-true}
use Rattle.std.proofs.lemmas.Nat.{mod_below, pow_pos}
use Rattle.int_ops.specs.Arithmetic.{sign_extended, compares}
use Rattle.int_ops.specs.declared.BinOp.{BinOp}
use Rattle.int_ops.specs.declared.Width.TheVariants.{W1, W8, W16, W32, W64}
use Rattle.int_ops.proofs.Results.{result-below}
use Rattle.ir_forms.specs.declared.ops.Attr.{Attr}
use Rattle.ir_forms.specs.declared.ops.Attr.TheVariants as att
use Rattle.ir_forms.specs.declared.types.Ty.{Ty}
use Rattle.ir_forms.specs.declared.types.Ty.TheVariants as ty
use Rattle.source_meaning.specs.Parts.{width_of}
use Rattle.source_meaning.specs.Rows.{bit, at_width, result_at, compared_at, sign_cast, product_from, variables}
use Rattle.source_meaning.specs.Tasks.{Span}
use Rattle.source_meaning.specs.TaskOrder.{Each}
use Rattle.typed_laws.specs.Ranges.{IsNumber}

-- a number of a type's width
pub of_width : (t : Option Ty) (n : ℕ) → n < 2 ^ width_of t → IsNumber n
of_width None n h = h
of_width (Some (ty.Int W1)) n h = omega (arith, h)
of_width (Some (ty.Int W8)) n h = omega (arith, h)
of_width (Some (ty.Int W16)) n h = omega (arith, h)
of_width (Some (ty.Int W32)) n h = omega (arith, h)
of_width (Some (ty.Int W64)) n h = h
of_width (Some ty.Index) n h = h
of_width (Some (ty.Memref m)) n h = h
of_width (Some ty.Token) n h = h
of_width (Some (ty.Value v)) n h = h
of_width (Some ty.Group) n h = h
of_width (Some ty.CoroId) n h = h
of_width (Some ty.CoroHandle) n h = h
of_width (Some ty.CoroState) n h = h
of_width (Some ty.Untyped) n h = h

pub fitted_number : (t : Option Ty) (n : ℕ) → IsNumber (at_width (width_of t) n)
fitted_number t n = of_width t (n % 2 ^ width_of t) (mod_below n (2 ^ width_of t) (pow_pos (width_of t)))

pub cast_number : (v : ℕ) (t : Option Ty) (n : ℕ) → IsNumber (sign_cast v (width_of t) n)
cast_number v t n = fitted_number t (sign_extended v (at_width v n))

pub result_number : (t : Option Ty) (b : BinOp) (x y : ℕ) → IfSome (result_at (width_of t) b x y) IsNumber
result_number t b x y = go (result_at (width_of t) b x y) (result-below (width_of t) b (at_width (width_of t) x) (at_width (width_of t) y)) where
  go : (o : Option ℕ) → IfSome o (λ c. c < 2 ^ width_of t) → IfSome o IsNumber
  go None h = tt
  go (Some n) h = of_width t n h

bit_number : (b : Bool) → IsNumber (bit b)
bit_number true = omega arith
bit_number false = omega arith

pub compared_number : (w : ℕ) (a : Attr) (x y : ℕ) → IsNumber (compared_at w a x y)
compared_number w (att.Pred p) x y = bit_number (compares w p (at_width w x) (at_width w y))
compared_number w _ x y = omega arith

-- the variables of an iteration
pub variables_number : (spans : List Span) (i : ℕ) → Each IsNumber (variables spans i)
variables_number [] i = tt
variables_number (s ∷ spans) i = (mod_below _ (2 ^ 64) (omega arith), variables_number spans i)

-- the numbers of a product within a limit
pub product_each : (limit n m : ℕ) (ks : List ℕ) → product_from limit n ks ≡ Some m → Each (λ k. k ≤ limit) ks
product_each limit n m [] e = tt
product_each limit n m (k ∷ ks) e = split (nat_le k limit) (nat_le (n * k) limit) refl e (product_each limit (n * k) m ks) where
  split : (a b : Bool) → nat_le k limit ≡ a → cond (a && b) (product_from limit (n * k) ks) None ≡ Some m → (product_from limit (n * k) ks ≡ Some m → Each (λ k. k ≤ limit) ks) → (k ≤ limit) × Each (λ k. k ≤ limit) ks
  split true true h e more = (leb-true k limit h, more e)
  split true false h e more = absurd (cc e)
  split false b h e more = absurd (cc e)
