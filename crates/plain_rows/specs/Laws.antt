-- Operations without regions, and their rows.
use Rattle.std.specs.Prelude.{◌≡◌, ◌||◌, true, false, List, [], ◌∷◌, Some}
use Rattle.op_table.specs.declared.kind.OpKind.{OpKind}
use Rattle.ir_forms.specs.declared.ops.Func.{Func}
use Rattle.ir_forms.specs.declared.ops.Module.{Module}
use Rattle.ir_forms.specs.declared.types.Ty.{Ty}
use Rattle.ir_forms.specs.Ops.{kind_of, operands_of, attr_of}
use Rattle.ir_verify.specs.declared.fault.VerifyKind.{VerifyKind}
use Rattle.ir_verify.specs.Breaks.{breaks}
use Rattle.ir_verify.specs.Places.{Spot, types_of}
use Rattle.ir_verify.specs.Types.{is_awaitable, is_group}
use Rattle.low_forms.specs.declared.code.LowKind.{LowKind}
use Rattle.low_forms.specs.declared.code.LowKind.TheVariants.{Row}
use Rattle.mlir_print.specs.Printable.{HasForm}
use Rattle.scf_blocks.specs.declared.role.Role.TheVariants as role
use Rattle.scf_blocks.specs.Tree.{types_in, role_of}
use Rattle.scf_blocks.specs.Code.{low_attr, truth}
use Rattle.scf_blocks.specs.Lowered.{lowered}
use Rattle.typed_rows.specs.Typed.{AreTypes, HasTypes, gives_held, row_fits}

-- the operation breaks no rule where it stands
abbrev pub IsFine : Spot → Type 0
IsFine s = (v : VerifyKind) → breaks v s ≡ false

-- the types that its operands have there, with which its row fits in a function that gives values of these types
pub record RowFits (program : Module) (given : List Ty) (s : Spot) (kind : LowKind) : Type 0 where
  pub types : List Ty
  pub has : HasTypes s.seen (operands_of s.place.op) types
  pub fits : row_fits (lowered program) given kind (low_attr program.funcs (attr_of s.place.op)) types (types_of s.place.op) ≡ true

-- an operation that becomes a row of the table fits it
abbrev pub PlainRowsFit : Type 0
PlainRowsFit =
    (program : Module) (given : List Ty) (s : Spot) (k : OpKind) → IsFine s → HasForm (kind_of s.place.op) s.place.op
    → role_of (kind_of s.place.op) ≡ role.Plain (Row k) → RowFits program given s (Row k)

-- ---- awaits and assertions

-- the type of what an await awaits: an object that gives what the await gives
pub record AwaitFits (s : Spot) : Type 0 where
  pub type : Ty
  pub has : HasTypes s.seen (operands_of s.place.op) (type ∷ [])
  pub object : (is_awaitable type || is_group type) ≡ true
  pub held : gives_held type (types_of s.place.op) ≡ true

abbrev pub AwaitsFit : Type 0
AwaitsFit = (s : Spot) → IsFine s → HasForm (kind_of s.place.op) s.place.op → role_of (kind_of s.place.op) ≡ role.Await → AwaitFits s

-- an assertion has a truth
abbrev pub AssertionsFit : Type 0
AssertionsFit = (s : Spot) → IsFine s → HasForm (kind_of s.place.op) s.place.op → role_of (kind_of s.place.op) ≡ role.Assertion → HasTypes s.seen (operands_of s.place.op) (truth ∷ [])

-- ---- calls

-- a call names a function, whose parameters have the types of the operands, and which gives the types of the results
pub record CallFits (s : Spot) : Type 0 where
  pub func : Func
  pub called : s.place.callee ≡ Some func
  pub has : HasTypes s.seen (operands_of s.place.op) (types_in func.params)
  pub results : types_of s.place.op ≡ func.results
  pub are_taken : AreTypes (types_in func.params)
  pub are_given : AreTypes func.results

abbrev pub CallsFit : Type 0
CallsFit = (s : Spot) → IsFine s → HasForm (kind_of s.place.op) s.place.op → role_of (kind_of s.place.op) ≡ role.Call → CallFits s
