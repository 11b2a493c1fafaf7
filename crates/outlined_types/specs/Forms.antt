-- Operations with regions, launches, tried calls and the ends of regions: the types of what they have.
use Rattle.std.specs.Prelude.{◌≡◌, true, List, [], ◌∷◌, ◌++◌, map, drop, Option, Some, None, ℕ}
use Rattle.op_table.specs.declared.form.Form.{Form}
use Rattle.op_table.specs.declared.form.Form.TheVariants.{Execute}
use Rattle.ir_forms.specs.declared.ops.Func.{Func}
use Rattle.ir_forms.specs.declared.ops.Op.{Op}
use Rattle.ir_forms.specs.declared.types.Ty.{Ty}
use Rattle.ir_forms.specs.declared.types.Ty.TheVariants as ty
use Rattle.ir_forms.specs.Ops.{kind_of, operands_of, written_of, regions_of}
use Rattle.ir_verify.specs.Forms.{form}
use Rattle.ir_verify.specs.Places.{Around, Spot, types_of}
use Rattle.ir_verify.specs.Rules.{given_types, groups_of}
use Rattle.ir_verify.specs.Types.{is_value}
use Rattle.low_forms.specs.declared.code.LowKind.TheVariants.{Launch}
use Rattle.low_forms.specs.Registers.{every}
use Rattle.mlir_print.specs.Printable.{HasForm, param_types, payload}
use Rattle.scf_blocks.specs.declared.role.Role.TheVariants as role
use Rattle.scf_blocks.specs.Tree.{types_in, role_of}
use Rattle.scf_blocks.specs.Code.{truth}
use Rattle.typed_rows.specs.Typed.{AreTypes, HasTypes}
use Rattle.exec_outline.specs.Shape.{tokens, dependency_count, held}
use Rattle.plain_rows.specs.Laws.{IsFine}

-- ---- the ends of regions

-- the types that the end of a region of this operation gives; a task gives what its values hold
abbrev pub end_types_in : Form → Op → ℕ → List Ty
end_types_in Execute holder r = map held (drop 1 (types_of holder))
end_types_in f holder r = given_types f r holder

-- those that the end of the region round an operation gives
abbrev pub end_types_of : Option Op → ℕ → Func → List Ty
end_types_of None r func = func.results
end_types_of (Some holder) r func = end_types_in (form holder) holder r

abbrev pub end_types : Around → List Ty
end_types around = end_types_of around.holder around.region around.func

-- a region ends with values of these types
abbrev pub EndsFit : Type 0
EndsFit = (s : Spot) → IsFine s → role_of (kind_of s.place.op) ≡ role.End → HasTypes s.seen (operands_of s.place.op) (end_types s.place.around)

-- a condition has a truth before them
abbrev pub ConditionsFit : Type 0
ConditionsFit =
    (s : Spot) → IsFine s → role_of (kind_of s.place.op) ≡ role.Condition
    → HasTypes s.seen (operands_of s.place.op) (truth ∷ end_types s.place.around)

-- ---- branches and loops

abbrev pub region_types : Op → List (List Ty)
region_types o = map param_types (regions_of o)

-- two regions without parameters
pub record ChoiceFits (s : Spot) : Type 0 where
  pub has : HasTypes s.seen (operands_of s.place.op) (truth ∷ [])
  pub params : region_types s.place.op ≡ [] ∷ [] ∷ []
  pub are_types : AreTypes (types_of s.place.op)

abbrev pub ChoicesFit : Type 0
ChoicesFit = (s : Spot) → IsFine s → HasForm (kind_of s.place.op) s.place.op → role_of (kind_of s.place.op) ≡ role.Choice → ChoiceFits s

-- bounds and a step, and values of the results' types
pub record CountedFits (s : Spot) : Type 0 where
  pub has : HasTypes s.seen (operands_of s.place.op) (ty.Index ∷ ty.Index ∷ ty.Index ∷ types_of s.place.op)
  pub params : region_types s.place.op ≡ (ty.Index ∷ types_of s.place.op) ∷ []
  pub are_types : AreTypes (types_of s.place.op)

abbrev pub LoopsFit : Type 0
LoopsFit = (s : Spot) → IsFine s → HasForm (kind_of s.place.op) s.place.op → role_of (kind_of s.place.op) ≡ role.Counted → CountedFits s

-- the first region takes the operands, the second one what are the results
pub record TestedFits (s : Spot) : Type 0 where
  pub has : HasTypes s.seen (operands_of s.place.op) (written_of s.place.op)
  pub params : region_types s.place.op ≡ written_of s.place.op ∷ types_of s.place.op ∷ []
  pub are_taken : AreTypes (written_of s.place.op)
  pub are_given : AreTypes (types_of s.place.op)

abbrev pub TestedLoopsFit : Type 0
TestedLoopsFit = (s : Spot) → IsFine s → HasForm (kind_of s.place.op) s.place.op → role_of (kind_of s.place.op) ≡ role.Tested → TestedFits s

-- ---- tried calls and launches

-- a function without results is called
pub record TriedFits (s : Spot) : Type 0 where
  pub func : Func
  pub called : s.place.callee ≡ Some func
  pub has : HasTypes s.seen (operands_of s.place.op) (types_in func.params)
  pub gives_nothing : func.results ≡ []
  pub truth_is : types_of s.place.op ≡ truth ∷ []
  pub are_taken : AreTypes (types_in func.params)

abbrev pub TriedCallsFit : Type 0
TriedCallsFit = (s : Spot) → IsFine s → HasForm (kind_of s.place.op) s.place.op → role_of (kind_of s.place.op) ≡ role.TriedCall → TriedFits s

-- tokens and values are passed, the region takes what the values hold, and a token and values are got
pub record LaunchFits (s : Spot) : Type 0 where
  pub has : HasTypes s.seen (operands_of s.place.op) (tokens (dependency_count (groups_of s.place.op)) ++ written_of s.place.op)
  pub are_values : every is_value (written_of s.place.op) ≡ true
  pub are_taken : AreTypes (written_of s.place.op)
  pub params : region_types s.place.op ≡ map payload (written_of s.place.op) ∷ []
  pub values : List Ty
  pub types : types_of s.place.op ≡ ty.Token ∷ values
  pub gives_values : every is_value values ≡ true

abbrev pub LaunchesFit : Type 0
LaunchesFit = (s : Spot) → IsFine s → HasForm (kind_of s.place.op) s.place.op → role_of (kind_of s.place.op) ≡ role.Plain Launch → LaunchFits s
