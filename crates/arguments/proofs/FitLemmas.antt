-- Values that fit, one after another.
use Rattle.std.proofs.Common.{◌≡◌, ℕ, List, [], ◌∷◌, ◌++◌, Option, Some, None, refl, sym, ap, ◌∙◌, append_assoc, map, length, ◌<◌, arith}
use Rattle.std.specs.Option.{option_map}
use Rattle.ir_forms.specs.declared.args.ArgValue.{ArgValue}
use Rattle.ir_forms.specs.declared.args.Arg.{Arg}
use Rattle.ir_forms.specs.declared.ops.ValueNo.{ValueNo}
use Rattle.ir_forms.specs.declared.types.Ty.{Ty}
use Rattle.arguments.specs.Fits.{Fitted, Fits, Wrong, before, before_all, fitted_from}

-- these bits in front of the others, if there are some
abbrev pub behind : List ℕ → Option (List ℕ) → Option (List ℕ)
behind bits None = None
behind bits (Some ns) = Some (bits ++ ns)

pub bits_more : (bits : List ℕ) (n : ℕ) (o : Option (List ℕ)) → behind (bits ++ n ∷ []) o ≡ behind bits (option_map (λ ns. n ∷ ns) o)
bits_more bits n None = refl
bits_more bits n (Some ns) = ap Some (append_assoc bits (n ∷ []) ns)

pub bits_none : (o : Option (List ℕ)) → behind [] o ≡ o
bits_none None = refl
bits_none (Some ns) = refl

pub before_more : (vs : List ArgValue) (v : ArgValue) (f : Fitted) → before_all (vs ++ v ∷ []) f ≡ before_all vs (before v f)
before_more [] v f = refl
before_more (w ∷ vs) v f = ap (before w) (before_more vs v f)

pub before_wrong : (vs : List ArgValue) (at : ℕ) → before_all vs (Wrong at) ≡ Wrong at
before_wrong [] at = refl
before_wrong (v ∷ vs) at = ap (before v) (before_wrong vs at)

pub before_last : (vs : List ArgValue) → before_all vs (Fits []) ≡ Fits vs
before_last [] = refl
before_last (v ∷ vs) = ap (before v) (before_last vs)

-- no parameter is left, and no argument
pub ends_fit : (vs : List ArgValue) (at used : ℕ) (params : List (ValueNo × Ty)) (args : List Arg) (total : Fitted) → length params ≡ 0 → length args ≡ 0 →
    before_all vs (fitted_from at used (map (λ p. p.1) params) args) ≡ total → total ≡ Fits vs
ends_fit vs at used [] [] total p a e = sym e ∙ before_last vs
ends_fit vs at used (q ∷ params) args total p a e = let h : ⊥ = omega (arith, p) in elim h [ ]
ends_fit vs at used [] (b ∷ args) total p a e = let h : ⊥ = omega (arith, a) in elim h [ ]

-- no parameter is left, but an argument
pub ends_wrong : (vs : List ArgValue) (at used : ℕ) (params : List (ValueNo × Ty)) (args : List Arg) (total : Fitted) → length params ≡ 0 → 0 < length args →
    before_all vs (fitted_from at used (map (λ p. p.1) params) args) ≡ total → total ≡ Wrong at
ends_wrong vs at used [] [] total p a e = let h : ⊥ = omega (arith, a) in elim h [ ]
ends_wrong vs at used [] (b ∷ args) total p a e = sym e ∙ before_wrong vs at
ends_wrong vs at used (q ∷ params) args total p a e = let h : ⊥ = omega (arith, p) in elim h [ ]
