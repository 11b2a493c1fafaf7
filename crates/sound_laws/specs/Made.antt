-- Insertions of sound operations.
use Rattle.std.specs.Prelude.{◌≡◌, ◌≤◌, ◌<◌, ℕ, ◌+◌, map, nat_lt, List, [], ◌∷◌, ◌++◌, Some, ⊤}
use Rattle.op_table.specs.declared.rows.Level.{Level}
use Rattle.ir_forms.specs.declared.ops.Func.{Func}
use Rattle.ir_forms.specs.declared.ops.Op.{Op}
use Rattle.ir_forms.specs.declared.ops.ValueNo.{ValueNo}
use Rattle.ir_forms.specs.declared.types.NumTy.{NumTy}
use Rattle.ir_forms.specs.declared.types.Ty.{Ty}
use Rattle.ir_forms.specs.Ops.{results_of}
use Rattle.ir_verify.specs.Places.{Seen, defined, types_of}
use Rattle.ir_verify.specs.Scopes.{lookup}
use Rattle.made_ops.specs.Made.{type_of}
use Rattle.made_ops.specs.declared.insertion.Insertion.{Insertion}
use Rattle.made_ops.specs.declared.insertion.Known.{Known}
use Rattle.made_ops.specs.declared.insertion.Operand.{Operand}
use Rattle.made_ops.specs.declared.insertion.Operand.TheVariants.{Value, Number}
use Rattle.source_meaning.specs.Parts.{joined}
use Rattle.value_numbers.specs.Numbers.{values_in}
use Rattle.sound_laws.specs.Extended.{IsMade, AreNew, Names}

-- the values below this number, under their own names
abbrev pub below : ℕ → Names
below n = record { is_own = λ v. nat_lt v n; renamed = λ v. v }

-- what is visible behind these operations
abbrev pub behind : Seen → List Op → Seen
behind seen [] = seen
behind seen (o ∷ os) = behind (seen ++ defined (results_of o) (types_of o)) os

-- these values have the numbers from a on, the next number is b
abbrev pub Runs : ℕ → ℕ → List ValueNo → Type 0
Runs a b [] = a ≡ b
Runs a b (v ∷ vs) = (v.0 ≡ a) × Runs (a + 1) b vs

-- what these operations define, nested regions included
abbrev pub values_along : List Op → List ValueNo
values_along os = joined (map values_in os)

-- each constant that has been made is visible
abbrev pub AreVisible : Seen → List Known → Type 0
AreVisible seen [] = ⊤
AreVisible seen (k ∷ known) = (lookup seen k.value.0 ≡ Some (type_of k.ty)) × AreVisible seen known

-- a value is visible with the type; a number is
abbrev pub Fits : Seen → NumTy → Operand → Type 0
Fits seen t (Value v) = lookup seen v.0 ≡ Some (type_of t)
Fits seen t (Number n) = ⊤

module _ (funcs : List Func) (level : Level) (first : ℕ) where
  -- made operations, each of which breaks nothing where it stands, and whose values aren't below the first number
  abbrev pub AreMade : Seen → List Op → Type 0
  AreMade seen [] = ⊤
  AreMade seen (o ∷ os) = IsMade funcs level seen o × AreNew (below first) (results_of o) × AreMade (seen ++ defined (results_of o) (types_of o)) os

  -- an insertion where these values are visible
  pub record IsGood (seen : Seen) (i : Insertion) : Type 0 where
    pub made : AreMade seen i.ops
    pub bounded : (v : ℕ) (t : Ty) → lookup (behind seen i.ops) v ≡ Some t → v < i.free
    pub above : first ≤ i.free
    pub known : AreVisible (behind seen i.ops) i.known

  -- the second insertion extends the first one; what it defines more is numbered on from the first one's next number
  pub record Grows (seen : Seen) (i j : Insertion) : Type 0 where
    pub good : IsGood seen j
    pub added : List Op
    pub are : j.ops ≡ i.ops ++ added
    pub numbers : Runs i.free j.free (values_along added)
    pub keeps : (v : ℕ) (t : Ty) → lookup (behind seen i.ops) v ≡ Some t → lookup (behind seen j.ops) v ≡ Some t
    pub free : i.free ≤ j.free

  -- and gives a value of this type
  pub record Gives (seen : Seen) (t : Ty) (i : Insertion) (r : ValueNo × Insertion) : Type 0 where
    pub grows : Grows seen i r.1
    pub has : lookup (behind seen r.1.ops) r.0.0 ≡ Some t
