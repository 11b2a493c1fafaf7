-- The types of values, and code that the verifier finds nothing wrong with.
use Rattle.std.specs.Prelude.{◌≡◌, ℕ, suc, true, false, List, [], ◌∷◌, ◌++◌, length, slice_get, Option, Some, None, ⊤}
use Rattle.std.specs.Option.{is_some}
use Rattle.op_table.specs.declared.form.Form.{Form}
use Rattle.op_table.specs.declared.form.Form.TheVariants.{Return, Load, Store, Dim, Execute, Await, AddToGroup}
use Rattle.ir_forms.specs.declared.args.ArgValue.{ArgValue}
use Rattle.ir_forms.specs.declared.args.ArgValue.TheVariants as arg
use Rattle.ir_forms.specs.declared.names.ElementName.TheVariants.{Token, Value}
use Rattle.ir_forms.specs.declared.ops.Func.{Func}
use Rattle.ir_forms.specs.declared.ops.Op.{Op, out-Op}
use Rattle.ir_forms.specs.declared.ops.Region.{Region}
use Rattle.ir_forms.specs.declared.types.Ty.{Ty}
use Rattle.ir_forms.specs.declared.types.Ty.TheVariants as ty
use Rattle.ir_forms.specs.declared.types.ValTy.{ValTy}
use Rattle.ir_forms.specs.Names.{Path}
use Rattle.ir_forms.specs.Ops.{results_of, regions_of, ops_of, written_of}
use Rattle.ir_verify.specs.declared.fault.VerifyKind.{VerifyKind}
use Rattle.ir_verify.specs.Breaks.{breaks, lacks_end}
use Rattle.ir_verify.specs.Forms.{form}
use Rattle.ir_verify.specs.Places.{Seen, Spot, defined, params_of, types_of}
use Rattle.ir_verify.specs.Scopes.{lookup}
use Rattle.ir_verify.specs.Verdict.{body_places}
use Rattle.source_meaning.specs.declared.values.Val.{Val}
use Rattle.source_meaning.specs.declared.values.Val.TheVariants.{Number, Memory, Element, Group}
use Rattle.source_meaning.specs.Values.{dims_in, element_in}
use Rattle.source_meaning.specs.Parts.{Node, dims_of}
use Rattle.source_meaning.specs.Steps.{operands, value, group}
use Rattle.source_meaning.specs.Tasks.{Program, Task}
use Rattle.source_meaning.specs.TaskOrder.{Each}
use Rattle.carry_laws.specs.Agreement.{IsTaskOf}

-- ---- values

-- what is known of launched tasks: the types of the results of the operation that launched each
abbrev pub Typing : Type 0
Typing = Path → Option (List Ty)

-- result j of the task, counted without its token, holds a value of this type
pub record Says (typing : Typing) (q : Path) (j : ℕ) (w : ValTy) : Type 0 where
  pub types : List Ty
  pub known : typing q ≡ Some types
  pub type : slice_get types (suc j) ≡ Some (ty.Value w)

-- the value is one of this type
abbrev pub HasType : Typing → Ty → Val → Type 0
HasType typing (ty.Int w) (Number n) = ⊤
HasType typing (ty.Int w) _ = ⊥
HasType typing ty.Index (Number n) = ⊤
HasType typing ty.Index _ = ⊥
HasType typing (ty.Memref m) (Memory b dims) = length dims ≡ length m.dims
HasType typing (ty.Memref m) _ = ⊥
HasType typing ty.Token (Element (Token q)) = ⊤
HasType typing ty.Token _ = ⊥
HasType typing (ty.Value w) (Element (Value q j)) = Says typing q j w
HasType typing (ty.Value w) _ = ⊥
HasType typing ty.Group (Group g) = ⊤
HasType typing ty.Group _ = ⊥
HasType typing _ v = ⊤

-- ---- code

-- none of these values is visible yet, and none stands twice
abbrev pub Fresh : Seen → Seen → Type 0
Fresh seen [] = ⊤
Fresh seen (x ∷ xs) = (lookup seen x.0.0 ≡ None) × Fresh (seen ++ x ∷ []) xs

-- so it is for the parameters of each region
abbrev pub AreFresh : Seen → List Region → Type 0
AreFresh seen [] = ⊤
AreFresh seen (region ∷ regions) = Fresh seen (params_of region) × AreFresh seen regions

-- an operation that breaks no rule, and defines values that are new
pub record IsGood (s : Spot) : Type 0 where
  pub fine : (kind : VerifyKind) → breaks kind s ≡ false
  pub results : Fresh s.seen (defined (results_of s.place.op) (types_of s.place.op))
  pub params : AreFresh s.seen (regions_of s.place.op)

-- such a function, whose body sees its parameters and no others
pub record IsGoodFunc (funcs : List Func) (f : Func) : Type 0 where
  pub places : Each IsGood (body_places funcs f false)
  pub params : Fresh [] f.params
  pub again : (v : ℕ) → lookup (f.params ++ params_of f.body) v ≡ lookup f.params v
  pub ends : lacks_end Return (ops_of f.body) ≡ false

abbrev pub AreGood : List Func → Type 0
AreGood funcs = (k : ℕ) (f : Func) → slice_get funcs k ≡ Some f → IsGoodFunc funcs f

-- ---- runs

-- an argument for a parameter of this type
abbrev pub ArgFits : Ty → ArgValue → Type 0
ArgFits (ty.Int w) (arg.Number n) = ⊤
ArgFits ty.Index (arg.Number n) = ⊤
ArgFits (ty.Memref m) (arg.Cells dims cells) = length dims ≡ length m.dims
ArgFits _ _ = ⊥

-- one for each parameter
abbrev pub ArgsFit : Seen → List ArgValue → Type 0
ArgsFit [] [] = ⊤
ArgsFit (p ∷ params) (a ∷ args) = ArgFits p.1 a × ArgsFit params args
ArgsFit _ _ = ⊥

-- the buffer has as many dimensions as the first of these types
abbrev pub HasRank : List Ty → Val → Type 0
HasRank types v = length (dims_in v) ≡ length (dims_of (slice_get types 0))

-- the buffer of an access has as many dimensions as its written type
abbrev pub BufferFits : Form → List Ty → List Val → Type 0
BufferFits Load types vs = HasRank types (value vs 0)
BufferFits Store types vs = HasRank types (value vs 1)
BufferFits Dim types vs = HasRank types (value vs 0)
BufferFits _ types vs = ⊤

-- Where a task that a run comes to takes an operation next that accesses a buffer, the buffer has as many dimensions as the
-- operation's written type.
abbrev pub BuffersFit : Type 0
BuffersFit = (p : Program) (entry : ℕ) (f : Func) (args : List ArgValue) → AreGood p.funcs → slice_get p.funcs entry ≡ Some f → ArgsFit f.params args →
    (t : Task) (o : Op) (rest : List Op) → IsTaskOf p entry args t → t.pending ≡ [] → t.rest ≡ o ∷ rest → BufferFits (form o) (written_of o) (operands t (out-Op o))

-- the value is a task's token, or a value that a task gives
abbrev pub IsElement : Val → Type 0
IsElement v = is_some (element_in v) ≡ true

-- what an operation awaits, adds to a group or launches a task with are such values
abbrev pub AreElements : Form → Node → List Val → Type 0
AreElements Execute o vs = Each IsElement (group o vs 0) × Each IsElement (group o vs 1)
AreElements Await o vs = IsElement (value vs 0)
AreElements AddToGroup o vs = IsElement (value vs 0)
AreElements _ o vs = ⊤

-- So they are for the operation that a task takes next, whatever task a run comes to.
abbrev pub ElementsFit : Type 0
ElementsFit = (p : Program) (entry : ℕ) (f : Func) (args : List ArgValue) → AreGood p.funcs → slice_get p.funcs entry ≡ Some f → ArgsFit f.params args →
    (t : Task) (o : Op) (rest : List Op) → IsTaskOf p entry args t → t.pending ≡ [] → t.rest ≡ o ∷ rest → AreElements (form o) (out-Op o) (operands t (out-Op o))
