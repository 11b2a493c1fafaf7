-- Types that fit slots of no objects are no objects.
use Rattle.std.proofs.Common.{◌≡◌, ℕ, zero, suc, ◌&&◌, not, Bool, true, false, List, [], ◌∷◌, Option, Some, None, refl}
use Rattle.std.specs.Prelude.{slice_get}
use Rattle.ir_forms.specs.declared.types.Ty.{Ty}
use Rattle.ir_forms.specs.declared.types.Ty.TheVariants as ty
use Rattle.ir_forms.specs.declared.types.CellTy.{CellTy}
use Rattle.ir_forms.specs.declared.types.CellTy.TheVariants as cell
use Rattle.ir_forms.specs.declared.types.ValTy.{ValTy}
use Rattle.ir_forms.specs.declared.types.ValTy.TheVariants as val
use Rattle.ir_verify.specs.Types.{same_type, holds, is_cell, is_element, extends, truncates, casts_index, literal_fits, is_async_cell, has_async_cells}
use Rattle.low_forms.specs.declared.code.Reg.{Reg}
use Rattle.low_forms.specs.declared.code.LowAttr.{LowAttr}
use Rattle.low_forms.specs.declared.code.LowAttr.TheVariants as low
use Rattle.low_forms.specs.declared.code.LowFunc.{LowFunc}
use Rattle.low_forms.specs.declared.row.Slot.{Slot}
use Rattle.low_forms.specs.declared.row.Slot.TheVariants as slot
use Rattle.low_forms.specs.declared.row.LowRow.{LowRow}
use Rattle.low_forms.specs.Registers.{every, on_type, type_of, type_at}
use Rattle.low_forms.specs.Fits.{literal_of, beside, slot_fits}
use Rattle.low_forms.specs.Owns.{is_object}
use Rattle.liveness.proofs.ListLemmas.{and_both, not_true}

holds_none : (u t : Ty) → holds u t ≡ true → is_object t ≡ false
holds_none u (ty.Int w) is = refl
holds_none u ty.Index is = refl
holds_none u (ty.Memref m) is = refl
holds_none (ty.Int v) ty.Token is = cc
holds_none ty.Index ty.Token is = cc
holds_none (ty.Memref n) ty.Token is = cc
holds_none ty.Token ty.Token is = cc
holds_none (ty.Value (val.Int v)) ty.Token is = cc
holds_none (ty.Value val.Index) ty.Token is = cc
holds_none (ty.Value (val.Memref n)) ty.Token is = cc
holds_none ty.Group ty.Token is = cc
holds_none ty.CoroId ty.Token is = cc
holds_none ty.CoroHandle ty.Token is = cc
holds_none ty.CoroState ty.Token is = cc
holds_none ty.Untyped ty.Token is = cc
holds_none (ty.Int v) (ty.Value p) is = cc
holds_none ty.Index (ty.Value p) is = cc
holds_none (ty.Memref n) (ty.Value p) is = cc
holds_none ty.Token (ty.Value p) is = cc
holds_none (ty.Value (val.Int v)) (ty.Value p) is = cc
holds_none (ty.Value val.Index) (ty.Value p) is = cc
holds_none (ty.Value (val.Memref n)) (ty.Value p) is = cc
holds_none ty.Group (ty.Value p) is = cc
holds_none ty.CoroId (ty.Value p) is = cc
holds_none ty.CoroHandle (ty.Value p) is = cc
holds_none ty.CoroState (ty.Value p) is = cc
holds_none ty.Untyped (ty.Value p) is = cc
holds_none (ty.Int v) ty.Group is = cc
holds_none ty.Index ty.Group is = cc
holds_none (ty.Memref n) ty.Group is = cc
holds_none ty.Token ty.Group is = cc
holds_none (ty.Value (val.Int v)) ty.Group is = cc
holds_none (ty.Value val.Index) ty.Group is = cc
holds_none (ty.Value (val.Memref n)) ty.Group is = cc
holds_none ty.Group ty.Group is = cc
holds_none ty.CoroId ty.Group is = cc
holds_none ty.CoroHandle ty.Group is = cc
holds_none ty.CoroState ty.Group is = cc
holds_none ty.Untyped ty.Group is = cc
holds_none u ty.CoroId is = refl
holds_none u ty.CoroHandle is = refl
holds_none u ty.CoroState is = refl
holds_none u ty.Untyped is = refl

extends_none : (u t : Ty) → extends u t ≡ true → is_object t ≡ false
extends_none u (ty.Int w) is = refl
extends_none u ty.Index is = refl
extends_none u (ty.Memref m) is = refl
extends_none (ty.Int v) ty.Token is = cc
extends_none ty.Index ty.Token is = cc
extends_none (ty.Memref n) ty.Token is = cc
extends_none ty.Token ty.Token is = cc
extends_none (ty.Value q) ty.Token is = cc
extends_none ty.Group ty.Token is = cc
extends_none ty.CoroId ty.Token is = cc
extends_none ty.CoroHandle ty.Token is = cc
extends_none ty.CoroState ty.Token is = cc
extends_none ty.Untyped ty.Token is = cc
extends_none (ty.Int v) (ty.Value p) is = cc
extends_none ty.Index (ty.Value p) is = cc
extends_none (ty.Memref n) (ty.Value p) is = cc
extends_none ty.Token (ty.Value p) is = cc
extends_none (ty.Value q) (ty.Value p) is = cc
extends_none ty.Group (ty.Value p) is = cc
extends_none ty.CoroId (ty.Value p) is = cc
extends_none ty.CoroHandle (ty.Value p) is = cc
extends_none ty.CoroState (ty.Value p) is = cc
extends_none ty.Untyped (ty.Value p) is = cc
extends_none (ty.Int v) ty.Group is = cc
extends_none ty.Index ty.Group is = cc
extends_none (ty.Memref n) ty.Group is = cc
extends_none ty.Token ty.Group is = cc
extends_none (ty.Value q) ty.Group is = cc
extends_none ty.Group ty.Group is = cc
extends_none ty.CoroId ty.Group is = cc
extends_none ty.CoroHandle ty.Group is = cc
extends_none ty.CoroState ty.Group is = cc
extends_none ty.Untyped ty.Group is = cc
extends_none u ty.CoroId is = refl
extends_none u ty.CoroHandle is = refl
extends_none u ty.CoroState is = refl
extends_none u ty.Untyped is = refl

truncates_none : (u t : Ty) → truncates u t ≡ true → is_object t ≡ false
truncates_none u (ty.Int w) is = refl
truncates_none u ty.Index is = refl
truncates_none u (ty.Memref m) is = refl
truncates_none (ty.Int v) ty.Token is = cc
truncates_none ty.Index ty.Token is = cc
truncates_none (ty.Memref n) ty.Token is = cc
truncates_none ty.Token ty.Token is = cc
truncates_none (ty.Value q) ty.Token is = cc
truncates_none ty.Group ty.Token is = cc
truncates_none ty.CoroId ty.Token is = cc
truncates_none ty.CoroHandle ty.Token is = cc
truncates_none ty.CoroState ty.Token is = cc
truncates_none ty.Untyped ty.Token is = cc
truncates_none (ty.Int v) (ty.Value p) is = cc
truncates_none ty.Index (ty.Value p) is = cc
truncates_none (ty.Memref n) (ty.Value p) is = cc
truncates_none ty.Token (ty.Value p) is = cc
truncates_none (ty.Value q) (ty.Value p) is = cc
truncates_none ty.Group (ty.Value p) is = cc
truncates_none ty.CoroId (ty.Value p) is = cc
truncates_none ty.CoroHandle (ty.Value p) is = cc
truncates_none ty.CoroState (ty.Value p) is = cc
truncates_none ty.Untyped (ty.Value p) is = cc
truncates_none (ty.Int v) ty.Group is = cc
truncates_none ty.Index ty.Group is = cc
truncates_none (ty.Memref n) ty.Group is = cc
truncates_none ty.Token ty.Group is = cc
truncates_none (ty.Value q) ty.Group is = cc
truncates_none ty.Group ty.Group is = cc
truncates_none ty.CoroId ty.Group is = cc
truncates_none ty.CoroHandle ty.Group is = cc
truncates_none ty.CoroState ty.Group is = cc
truncates_none ty.Untyped ty.Group is = cc
truncates_none u ty.CoroId is = refl
truncates_none u ty.CoroHandle is = refl
truncates_none u ty.CoroState is = refl
truncates_none u ty.Untyped is = refl

casts_index_none : (u t : Ty) → casts_index u t ≡ true → is_object t ≡ false
casts_index_none u (ty.Int w) is = refl
casts_index_none u ty.Index is = refl
casts_index_none u (ty.Memref m) is = refl
casts_index_none (ty.Int v) ty.Token is = cc
casts_index_none ty.Index ty.Token is = cc
casts_index_none (ty.Memref n) ty.Token is = cc
casts_index_none ty.Token ty.Token is = cc
casts_index_none (ty.Value q) ty.Token is = cc
casts_index_none ty.Group ty.Token is = cc
casts_index_none ty.CoroId ty.Token is = cc
casts_index_none ty.CoroHandle ty.Token is = cc
casts_index_none ty.CoroState ty.Token is = cc
casts_index_none ty.Untyped ty.Token is = cc
casts_index_none (ty.Int v) (ty.Value p) is = cc
casts_index_none ty.Index (ty.Value p) is = cc
casts_index_none (ty.Memref n) (ty.Value p) is = cc
casts_index_none ty.Token (ty.Value p) is = cc
casts_index_none (ty.Value q) (ty.Value p) is = cc
casts_index_none ty.Group (ty.Value p) is = cc
casts_index_none ty.CoroId (ty.Value p) is = cc
casts_index_none ty.CoroHandle (ty.Value p) is = cc
casts_index_none ty.CoroState (ty.Value p) is = cc
casts_index_none ty.Untyped (ty.Value p) is = cc
casts_index_none (ty.Int v) ty.Group is = cc
casts_index_none ty.Index ty.Group is = cc
casts_index_none (ty.Memref n) ty.Group is = cc
casts_index_none ty.Token ty.Group is = cc
casts_index_none (ty.Value q) ty.Group is = cc
casts_index_none ty.Group ty.Group is = cc
casts_index_none ty.CoroId ty.Group is = cc
casts_index_none ty.CoroHandle ty.Group is = cc
casts_index_none ty.CoroState ty.Group is = cc
casts_index_none ty.Untyped ty.Group is = cc
casts_index_none u ty.CoroId is = refl
casts_index_none u ty.CoroHandle is = refl
casts_index_none u ty.CoroState is = refl
casts_index_none u ty.Untyped is = refl

pub same_none : (u t : Ty) → same_type u t ≡ true → is_object u ≡ false → is_object t ≡ false
same_none u (ty.Int w) is none = refl
same_none u ty.Index is none = refl
same_none u (ty.Memref m) is none = refl
same_none (ty.Int v) ty.Token is none = cc
same_none ty.Index ty.Token is none = cc
same_none (ty.Memref n) ty.Token is none = cc
same_none ty.Token ty.Token is none = cc
same_none (ty.Value q) ty.Token is none = cc
same_none ty.Group ty.Token is none = cc
same_none ty.CoroId ty.Token is none = cc
same_none ty.CoroHandle ty.Token is none = cc
same_none ty.CoroState ty.Token is none = cc
same_none ty.Untyped ty.Token is none = cc
same_none (ty.Int v) (ty.Value p) is none = cc
same_none ty.Index (ty.Value p) is none = cc
same_none (ty.Memref n) (ty.Value p) is none = cc
same_none ty.Token (ty.Value p) is none = cc
same_none (ty.Value q) (ty.Value p) is none = cc
same_none ty.Group (ty.Value p) is none = cc
same_none ty.CoroId (ty.Value p) is none = cc
same_none ty.CoroHandle (ty.Value p) is none = cc
same_none ty.CoroState (ty.Value p) is none = cc
same_none ty.Untyped (ty.Value p) is none = cc
same_none (ty.Int v) ty.Group is none = cc
same_none ty.Index ty.Group is none = cc
same_none (ty.Memref n) ty.Group is none = cc
same_none ty.Token ty.Group is none = cc
same_none (ty.Value q) ty.Group is none = cc
same_none ty.Group ty.Group is none = cc
same_none ty.CoroId ty.Group is none = cc
same_none ty.CoroHandle ty.Group is none = cc
same_none ty.CoroState ty.Group is none = cc
same_none ty.Untyped ty.Group is none = cc
same_none u ty.CoroId is none = refl
same_none u ty.CoroHandle is none = refl
same_none u ty.CoroState is none = refl
same_none u ty.Untyped is none = refl

cell_token : (c : CellTy) → is_cell c ty.Token ≡ true → is_async_cell c ≡ false → true ≡ false
cell_token (cell.Int w) is none = cc
cell_token cell.Index is none = cc
cell_token cell.Token is none = cc
cell_token cell.Group is none = cc
cell_token (cell.Value k) is none = cc

cell_value : (p : ValTy) (c : CellTy) → is_cell c (ty.Value p) ≡ true → is_async_cell c ≡ false → true ≡ false
cell_value p (cell.Int w) is none = cc
cell_value p cell.Index is none = cc
cell_value p cell.Token is none = cc
cell_value p cell.Group is none = cc
cell_value p (cell.Value k) is none = cc

cell_group : (c : CellTy) → is_cell c ty.Group ≡ true → is_async_cell c ≡ false → true ≡ false
cell_group (cell.Int w) is none = cc
cell_group cell.Index is none = cc
cell_group cell.Token is none = cc
cell_group cell.Group is none = cc
cell_group (cell.Value k) is none = cc

element_none : (u t : Ty) → is_element u t ≡ true → has_async_cells u ≡ false → is_object t ≡ false
element_none u (ty.Int w) is none = refl
element_none u ty.Index is none = refl
element_none u (ty.Memref m) is none = refl
element_none (ty.Int v) ty.Token is none = cc
element_none ty.Index ty.Token is none = cc
element_none (ty.Memref n) ty.Token is none = cell_token n.elem is none
element_none ty.Token ty.Token is none = cc
element_none (ty.Value q) ty.Token is none = cc
element_none ty.Group ty.Token is none = cc
element_none ty.CoroId ty.Token is none = cc
element_none ty.CoroHandle ty.Token is none = cc
element_none ty.CoroState ty.Token is none = cc
element_none ty.Untyped ty.Token is none = cc
element_none (ty.Int v) (ty.Value p) is none = cc
element_none ty.Index (ty.Value p) is none = cc
element_none (ty.Memref n) (ty.Value p) is none = cell_value p n.elem is none
element_none ty.Token (ty.Value p) is none = cc
element_none (ty.Value q) (ty.Value p) is none = cc
element_none ty.Group (ty.Value p) is none = cc
element_none ty.CoroId (ty.Value p) is none = cc
element_none ty.CoroHandle (ty.Value p) is none = cc
element_none ty.CoroState (ty.Value p) is none = cc
element_none ty.Untyped (ty.Value p) is none = cc
element_none (ty.Int v) ty.Group is none = cc
element_none ty.Index ty.Group is none = cc
element_none (ty.Memref n) ty.Group is none = cell_group n.elem is none
element_none ty.Token ty.Group is none = cc
element_none (ty.Value q) ty.Group is none = cc
element_none ty.Group ty.Group is none = cc
element_none ty.CoroId ty.Group is none = cc
element_none ty.CoroHandle ty.Group is none = cc
element_none ty.CoroState ty.Group is none = cc
element_none ty.Untyped ty.Group is none = cc
element_none u ty.CoroId is none = refl
element_none u ty.CoroHandle is none = refl
element_none u ty.CoroState is none = refl
element_none u ty.Untyped is none = refl

literal_none : (a : LowAttr) (t : Ty) → literal_fits (literal_of a) t ≡ true → is_object t ≡ false
literal_none a (ty.Int w) is = refl
literal_none a ty.Index is = refl
literal_none a (ty.Memref m) is = refl
literal_none low.None ty.Token is = cc
literal_none (low.Literal negative magnitude) ty.Token is = cc
literal_none (low.Truth bit) ty.Token is = cc
literal_none (low.Pred p) ty.Token is = cc
literal_none (low.Count n) ty.Token is = cc
literal_none (low.Callee g) ty.Token is = cc
literal_none low.None (ty.Value p) is = cc
literal_none (low.Literal negative magnitude) (ty.Value p) is = cc
literal_none (low.Truth bit) (ty.Value p) is = cc
literal_none (low.Pred c) (ty.Value p) is = cc
literal_none (low.Count n) (ty.Value p) is = cc
literal_none (low.Callee g) (ty.Value p) is = cc
literal_none low.None ty.Group is = cc
literal_none (low.Literal negative magnitude) ty.Group is = cc
literal_none (low.Truth bit) ty.Group is = cc
literal_none (low.Pred c) ty.Group is = cc
literal_none (low.Count n) ty.Group is = cc
literal_none (low.Callee g) ty.Group is = cc
literal_none a ty.CoroId is = refl
literal_none a ty.CoroHandle is = refl
literal_none a ty.CoroState is = refl
literal_none a ty.Untyped is = refl

-- slots of one class of types, none of which is of objects
abbrev pub is_basic : Slot → Bool
is_basic slot.Number = true
is_basic slot.Truth = true
is_basic slot.Index = true
is_basic slot.Code = true
is_basic slot.Memref = true
is_basic slot.CoroId = true
is_basic slot.CoroHandle = true
is_basic slot.CoroState = true
is_basic _ = false

pub basic_none : (s : Slot) (f : LowFunc) (operands : List Reg) (a : LowAttr) (t : Ty) → is_basic s ≡ true → slot_fits s f operands a t ≡ true → is_object t ≡ false
basic_none s f operands a (ty.Int w) basic is = refl
basic_none s f operands a ty.Index basic is = refl
basic_none s f operands a (ty.Memref m) basic is = refl
basic_none slot.Number f operands a ty.Token basic is = cc
basic_none slot.Truth f operands a ty.Token basic is = cc
basic_none slot.Index f operands a ty.Token basic is = cc
basic_none slot.Code f operands a ty.Token basic is = cc
basic_none slot.Memref f operands a ty.Token basic is = cc
basic_none slot.CoroId f operands a ty.Token basic is = cc
basic_none slot.CoroHandle f operands a ty.Token basic is = cc
basic_none slot.CoroState f operands a ty.Token basic is = cc
basic_none slot.Absent f operands a ty.Token basic is = cc
basic_none slot.Element f operands a ty.Token basic is = cc
basic_none slot.Value f operands a ty.Token basic is = cc
basic_none slot.Group f operands a ty.Token basic is = cc
basic_none slot.Object f operands a ty.Token basic is = cc
basic_none (slot.Like k) f operands a ty.Token basic is = cc
basic_none (slot.CellOf k) f operands a ty.Token basic is = cc
basic_none (slot.HeldBy k) f operands a ty.Token basic is = cc
basic_none slot.Wider f operands a ty.Token basic is = cc
basic_none slot.Narrower f operands a ty.Token basic is = cc
basic_none slot.Recast f operands a ty.Token basic is = cc
basic_none slot.OfLiteral f operands a ty.Token basic is = cc
basic_none slot.Number f operands a (ty.Value p) basic is = cc
basic_none slot.Truth f operands a (ty.Value p) basic is = cc
basic_none slot.Index f operands a (ty.Value p) basic is = cc
basic_none slot.Code f operands a (ty.Value p) basic is = cc
basic_none slot.Memref f operands a (ty.Value p) basic is = cc
basic_none slot.CoroId f operands a (ty.Value p) basic is = cc
basic_none slot.CoroHandle f operands a (ty.Value p) basic is = cc
basic_none slot.CoroState f operands a (ty.Value p) basic is = cc
basic_none slot.Absent f operands a (ty.Value p) basic is = cc
basic_none slot.Element f operands a (ty.Value p) basic is = cc
basic_none slot.Value f operands a (ty.Value p) basic is = cc
basic_none slot.Group f operands a (ty.Value p) basic is = cc
basic_none slot.Object f operands a (ty.Value p) basic is = cc
basic_none (slot.Like k) f operands a (ty.Value p) basic is = cc
basic_none (slot.CellOf k) f operands a (ty.Value p) basic is = cc
basic_none (slot.HeldBy k) f operands a (ty.Value p) basic is = cc
basic_none slot.Wider f operands a (ty.Value p) basic is = cc
basic_none slot.Narrower f operands a (ty.Value p) basic is = cc
basic_none slot.Recast f operands a (ty.Value p) basic is = cc
basic_none slot.OfLiteral f operands a (ty.Value p) basic is = cc
basic_none slot.Number f operands a ty.Group basic is = cc
basic_none slot.Truth f operands a ty.Group basic is = cc
basic_none slot.Index f operands a ty.Group basic is = cc
basic_none slot.Code f operands a ty.Group basic is = cc
basic_none slot.Memref f operands a ty.Group basic is = cc
basic_none slot.CoroId f operands a ty.Group basic is = cc
basic_none slot.CoroHandle f operands a ty.Group basic is = cc
basic_none slot.CoroState f operands a ty.Group basic is = cc
basic_none slot.Absent f operands a ty.Group basic is = cc
basic_none slot.Element f operands a ty.Group basic is = cc
basic_none slot.Value f operands a ty.Group basic is = cc
basic_none slot.Group f operands a ty.Group basic is = cc
basic_none slot.Object f operands a ty.Group basic is = cc
basic_none (slot.Like k) f operands a ty.Group basic is = cc
basic_none (slot.CellOf k) f operands a ty.Group basic is = cc
basic_none (slot.HeldBy k) f operands a ty.Group basic is = cc
basic_none slot.Wider f operands a ty.Group basic is = cc
basic_none slot.Narrower f operands a ty.Group basic is = cc
basic_none slot.Recast f operands a ty.Group basic is = cc
basic_none slot.OfLiteral f operands a ty.Group basic is = cc
basic_none s f operands a ty.CoroId basic is = refl
basic_none s f operands a ty.CoroHandle basic is = refl
basic_none s f operands a ty.CoroState basic is = refl
basic_none s f operands a ty.Untyped basic is = refl

-- ---- slots that fit beside an operand

pub on_none : (p q : Ty → Bool) → ((t : Ty) → p t ≡ true → q t ≡ false) → (o : Option Ty) → on_type p o ≡ true → on_type q o ≡ false
on_none p q rule None is = refl
on_none p q rule (Some t) is = rule t is

like_none : (k : ℕ) (o : Option Ty) (t : Ty) → beside (slot.Like k) o t ≡ true → on_type is_object o ≡ false → is_object t ≡ false
like_none k None t is none = cc
like_none k (Some u) t is none = same_none u t is none

cell_of_none : (k : ℕ) (o : Option Ty) (t : Ty) → beside (slot.CellOf k) o t ≡ true → on_type has_async_cells o ≡ false → is_object t ≡ false
cell_of_none k None t is none = cc
cell_of_none k (Some u) t is none = element_none u t is none

held_by_none : (k : ℕ) (o : Option Ty) (t : Ty) → beside (slot.HeldBy k) o t ≡ true → is_object t ≡ false
held_by_none k None t is = cc
held_by_none k (Some u) t is = holds_none u t is

wider_none : (o : Option Ty) (t : Ty) → beside slot.Wider o t ≡ true → is_object t ≡ false
wider_none None t is = cc
wider_none (Some u) t is = extends_none u t is

narrower_none : (o : Option Ty) (t : Ty) → beside slot.Narrower o t ≡ true → is_object t ≡ false
narrower_none None t is = cc
narrower_none (Some u) t is = truncates_none u t is

recast_none : (o : Option Ty) (t : Ty) → beside slot.Recast o t ≡ true → is_object t ≡ false
recast_none None t is = cc
recast_none (Some u) t is = casts_index_none u t is

-- ---- by rows: a slot of no object, where a slot like another one is like a basic one

abbrev pub basic_at : LowRow → ℕ → Bool
basic_at row zero = is_basic row.first
basic_at row (suc zero) = is_basic row.first && is_basic row.second
basic_at row (suc (suc k)) = false

abbrev pub is_plain_slot : LowRow → Slot → Bool
is_plain_slot row slot.Number = true
is_plain_slot row slot.Truth = true
is_plain_slot row slot.Index = true
is_plain_slot row slot.Code = true
is_plain_slot row slot.Memref = true
is_plain_slot row slot.CoroId = true
is_plain_slot row slot.CoroHandle = true
is_plain_slot row slot.CoroState = true
is_plain_slot row (slot.Like k) = basic_at row k
is_plain_slot row (slot.CellOf k) = true
is_plain_slot row (slot.HeldBy k) = true
is_plain_slot row slot.Wider = true
is_plain_slot row slot.Narrower = true
is_plain_slot row slot.Recast = true
is_plain_slot row slot.OfLiteral = true
is_plain_slot row slot.Absent = true
is_plain_slot row _ = false

module _ (row : LowRow) (f : LowFunc) (operands : List Reg) (a : LowAttr)
    (likes : (k : ℕ) → basic_at row k ≡ true → on_type is_object (type_at f operands k) ≡ false) (cells : (k : ℕ) → on_type has_async_cells (type_at f operands k) ≡ false) where
  pub plain_none : (s : Slot) (t : Ty) → is_plain_slot row s ≡ true → slot_fits s f operands a t ≡ true → is_object t ≡ false
  plain_none slot.Number t plain is = basic_none slot.Number f operands a t refl is
  plain_none slot.Truth t plain is = basic_none slot.Truth f operands a t refl is
  plain_none slot.Index t plain is = basic_none slot.Index f operands a t refl is
  plain_none slot.Code t plain is = basic_none slot.Code f operands a t refl is
  plain_none slot.Memref t plain is = basic_none slot.Memref f operands a t refl is
  plain_none slot.CoroId t plain is = basic_none slot.CoroId f operands a t refl is
  plain_none slot.CoroHandle t plain is = basic_none slot.CoroHandle f operands a t refl is
  plain_none slot.CoroState t plain is = basic_none slot.CoroState f operands a t refl is
  plain_none (slot.Like k) t plain is = like_none k (type_at f operands k) t is (likes k plain)
  plain_none (slot.CellOf k) t plain is = cell_of_none k (type_at f operands k) t is (cells k)
  plain_none (slot.HeldBy k) t plain is = held_by_none k (type_at f operands k) t is
  plain_none slot.Wider t plain is = wider_none (type_at f operands 0) t is
  plain_none slot.Narrower t plain is = narrower_none (type_at f operands 0) t is
  plain_none slot.Recast t plain is = recast_none (type_at f operands 0) t is
  plain_none slot.OfLiteral t plain is = literal_none a t is
  plain_none slot.Absent t plain is = cc
  plain_none slot.Element t plain is = cc
  plain_none slot.Value t plain is = cc
  plain_none slot.Group t plain is = cc
  plain_none slot.Object t plain is = cc

-- no memref of a function has objects in its cells
pub cells_none : (types : List Ty) (r : ℕ) → every (λ t. not (has_async_cells t)) types ≡ true → on_type has_async_cells (slice_get types r) ≡ false
cells_none [] r all = refl
cells_none (t ∷ types) zero all = not_true (has_async_cells t) (and_both (not (has_async_cells t)) (every (λ t. not (has_async_cells t)) types) all).0
cells_none (t ∷ types) (suc r) all = cells_none types r (and_both (not (has_async_cells t)) (every (λ t. not (has_async_cells t)) types) all).1

pub cells_at : (f : LowFunc) (rs : List Reg) (k : ℕ) → every (λ t. not (has_async_cells t)) f.regs ≡ true → on_type has_async_cells (type_at f rs k) ≡ false
cells_at f rs k all = step (slice_get rs k)
  where
    step : (o : Option Reg) → on_type has_async_cells (type_of f o) ≡ false
    step None = refl
    step (Some r) = cells_none f.regs r.0 all
