-- When an instruction or a terminator fits its row of the table.
use Rattle.std.specs.Prelude.{ℕ, ◌==◌, ◌&&◌, ◌||◌, not, if◌then◌else◌, Bool, true, false, List, [], ◌∷◌, length, Option, Some, None}
use Rattle.int_ops.specs.declared.Width.TheVariants.{W64}
use Rattle.ir_forms.specs.declared.ops.Attr.{Attr}
use Rattle.ir_forms.specs.declared.ops.Attr.TheVariants as attr
use Rattle.ir_forms.specs.declared.types.Ty.{Ty}
use Rattle.ir_forms.specs.declared.types.Ty.TheVariants as ty
use Rattle.ir_verify.specs.Types.{same_type, holds, is_element, is_number, is_truth, is_index, is_memref, is_token, is_value, is_group, is_awaitable, dims_of, open_dims, extends, truncates, casts_index, literal_fits}
use Rattle.low_forms.specs.declared.code.Reg.{Reg}
use Rattle.low_forms.specs.declared.code.LowAttr.{LowAttr}
use Rattle.low_forms.specs.declared.code.LowAttr.TheVariants as low
use Rattle.low_forms.specs.declared.code.Instr.{Instr}
use Rattle.low_forms.specs.declared.code.Target.{Target}
use Rattle.low_forms.specs.declared.code.Term.{Term}
use Rattle.low_forms.specs.declared.code.Block.{Block}
use Rattle.low_forms.specs.declared.code.LowFunc.{LowFunc}
use Rattle.low_forms.specs.declared.code.LowModule.{LowModule}
use Rattle.low_forms.specs.declared.row.LowRow.{LowRow}
use Rattle.low_forms.specs.declared.row.Slot.{Slot}
use Rattle.low_forms.specs.declared.row.Slot.TheVariants as slot
use Rattle.low_forms.specs.declared.row.Rest.{Rest}
use Rattle.low_forms.specs.declared.row.Rest.TheVariants as rest
use Rattle.low_forms.specs.declared.row.Results.{Results}
use Rattle.low_forms.specs.declared.row.Results.TheVariants as results
use Rattle.low_forms.specs.declared.row.AttrSlot.{AttrSlot}
use Rattle.low_forms.specs.declared.row.AttrSlot.TheVariants as carries
use Rattle.low_forms.specs.declared.row.Targets.{Targets}
use Rattle.low_forms.specs.declared.row.Targets.TheVariants as to
use Rattle.low_forms.specs.Rows.{row_of}
use Rattle.low_forms.specs.Registers.{every, reg_type, type_at, on_type, on_types, like_types, have_types, hold_types, callee, block_at}

-- ---- slots

abbrev pub is_absent : Slot → Bool
is_absent slot.Absent = true
is_absent _ = false

abbrev pub is_code : Ty → Bool
is_code (ty.Int W64) = true
is_code _ = false

abbrev pub is_coro_id : Ty → Bool
is_coro_id ty.CoroId = true
is_coro_id _ = false

abbrev pub is_coro_handle : Ty → Bool
is_coro_handle ty.CoroHandle = true
is_coro_handle _ = false

abbrev pub is_coro_state : Ty → Bool
is_coro_state ty.CoroState = true
is_coro_state _ = false

-- the literal that an instruction carries
abbrev pub literal_of : LowAttr → Attr
literal_of (low.Literal negative magnitude) = attr.Literal negative magnitude
literal_of (low.Truth bit) = attr.Truth bit
literal_of _ = attr.None

-- a type may stand in the slot, which asks for it beside another one
abbrev pub beside : Slot → Option Ty → Ty → Bool
beside s None t = false
beside (slot.Like k) (Some u) t = same_type u t
beside (slot.CellOf k) (Some u) t = is_element u t
beside (slot.HeldBy k) (Some u) t = holds u t
beside slot.Wider (Some u) t = extends u t
beside slot.Narrower (Some u) t = truncates u t
beside slot.Recast (Some u) t = casts_index u t
beside _ (Some u) t = false

-- a type may stand in the slot, for an instruction with these operands that carries this
abbrev pub slot_fits : Slot → LowFunc → List Reg → LowAttr → Ty → Bool
slot_fits slot.Absent f operands a t = false
slot_fits slot.Number f operands a t = is_number t
slot_fits slot.Truth f operands a t = is_truth t
slot_fits slot.Index f operands a t = is_index t
slot_fits slot.Code f operands a t = is_code t
slot_fits slot.Memref f operands a t = is_memref t
slot_fits slot.Element f operands a t = is_awaitable t
slot_fits slot.Value f operands a t = is_value t
slot_fits slot.Group f operands a t = is_group t
slot_fits slot.Object f operands a t = is_awaitable t || is_group t
slot_fits slot.CoroId f operands a t = is_coro_id t
slot_fits slot.CoroHandle f operands a t = is_coro_handle t
slot_fits slot.CoroState f operands a t = is_coro_state t
slot_fits (slot.Like k) f operands a t = beside (slot.Like k) (type_at f operands k) t
slot_fits (slot.CellOf k) f operands a t = beside (slot.CellOf k) (type_at f operands k) t
slot_fits (slot.HeldBy k) f operands a t = beside (slot.HeldBy k) (type_at f operands k) t
slot_fits slot.Wider f operands a t = beside slot.Wider (type_at f operands 0) t
slot_fits slot.Narrower f operands a t = beside slot.Narrower (type_at f operands 0) t
slot_fits slot.Recast f operands a t = beside slot.Recast (type_at f operands 0) t
slot_fits slot.OfLiteral f operands a t = literal_fits (literal_of a) t

-- ---- operands and results

abbrev pub reg_fits : Slot → LowFunc → Instr → Reg → Bool
reg_fits s f i r = on_type (slot_fits s f i.operands i.attr) (reg_type f r)

-- the registers fit a called function's parameters, or its results
abbrev pub fit_params : Option LowFunc → LowFunc → List Reg → Bool
fit_params None f rs = false
fit_params (Some g) f rs = like_types f rs g g.params

abbrev pub fit_results : Option LowFunc → LowFunc → List Reg → Bool
fit_results None f rs = false
fit_results (Some g) f rs = have_types f rs g.results

-- or a token, and a value for each result of a launched one
abbrev pub fit_launched : Option LowFunc → LowFunc → List Reg → Bool
fit_launched None f rs = false
fit_launched (Some g) f [] = false
fit_launched (Some g) f (r ∷ rs) = on_type is_token (reg_type f r) && hold_types f rs g.results

-- how many dimensions a memref has, and how many of their sizes are `?`
abbrev pub rank_of : Option Ty → ℕ
rank_of None = 0
rank_of (Some t) = length (dims_of t)

abbrev pub open_rank_of : Option Ty → ℕ
open_rank_of None = 0
open_rank_of (Some t) = open_dims (dims_of t)

-- as many indices
abbrev pub are_indices : LowFunc → ℕ → List Reg → Bool
are_indices f n rs = (length rs == n) && every (λ r. on_type is_index (reg_type f r)) rs

-- the operands behind the fixed ones
abbrev pub rest_fits : Rest → LowModule → LowFunc → Instr → List Reg → Bool
rest_fits rest.Nothing code f i rs = length rs == 0
rest_fits rest.Sizes code f i rs = are_indices f (open_rank_of (type_at f i.results 0)) rs
rest_fits (rest.Indices k) code f i rs = are_indices f (rank_of (type_at f i.operands k)) rs
rest_fits rest.Params code f i rs = fit_params (callee code i.attr) f rs
rest_fits rest.Returned code f i rs = have_types f rs f.results

-- the registers fill these slots, and then the rest
abbrev pub fill : List Slot → LowRow → LowModule → LowFunc → Instr → List Reg → Bool
fill [] row code f i rs = rest_fits row.rest code f i rs
fill (s ∷ ss) row code f i [] = is_absent s && rest_fits row.rest code f i []
fill (s ∷ ss) row code f i (r ∷ rs) = if is_absent s then rest_fits row.rest code f i (r ∷ rs) else (reg_fits s f i r && fill ss row code f i rs)

abbrev pub operands_fit : LowRow → LowModule → LowFunc → Instr → Bool
operands_fit row code f i = fill (row.first ∷ row.second ∷ row.third ∷ []) row code f i i.operands

-- a lone result fits its slot
abbrev pub result_fits : Slot → LowFunc → Instr → List Reg → Bool
result_fits s f i [] = is_absent s
result_fits s f i (r ∷ []) = reg_fits s f i r
result_fits s f i (r ∷ q ∷ rs) = false

abbrev pub these_fit : Results → LowRow → LowModule → LowFunc → Instr → Bool
these_fit results.Own row code f i = result_fits row.result f i i.results
these_fit results.Called row code f i = fit_results (callee code i.attr) f i.results
these_fit results.Launched row code f i = fit_launched (callee code i.attr) f i.results

abbrev pub results_fit : LowRow → LowModule → LowFunc → Instr → Bool
results_fit row code f i = these_fit row.results row code f i

-- ---- what instructions carry

abbrev pub is_coroutine : Option LowFunc → Bool
is_coroutine None = false
is_coroutine (Some g) = g.coroutine

abbrev pub is_plain : Option LowFunc → Bool
is_plain None = false
is_plain (Some g) = not g.coroutine

-- literals fit by their result's slot, and counts have a sentence of their own
abbrev pub attr_fits : AttrSlot → LowModule → LowAttr → Bool
attr_fits carries.Nothing code low.None = true
attr_fits carries.Literal code (low.Literal negative magnitude) = true
attr_fits carries.Literal code (low.Truth bit) = true
attr_fits carries.Pred code (low.Pred p) = true
attr_fits carries.Count code (low.Count n) = true
attr_fits carries.Coroutine code a = is_coroutine (callee code a)
attr_fits carries.Plain code a = is_plain (callee code a)
attr_fits _ code a = false

-- an instruction fits its row, its targets aside
abbrev pub instr_fits : LowModule → LowFunc → Instr → Bool
instr_fits code f i =
    let row : LowRow = row_of i.kind in
    row.stands && attr_fits row.attr code i.attr && operands_fit row code f i && results_fit row code f i

-- ---- targets

-- the arguments of a target fit its block's parameters
abbrev pub args_fit : Option Block → LowFunc → List Reg → Bool
args_fit None f args = false
args_fit (Some b) f args = like_types f args f b.params

-- no arguments are written for the target
abbrev pub is_bare : Target → Bool
is_bare t = length t.args == 0

abbrev pub target_fits : LowFunc → Target → Bool
target_fits f t = args_fit (block_at f t.block) f t.args

-- a target with no arguments, whose block has no parameters
abbrev pub bare_fits : LowFunc → Target → Bool
bare_fits f t = is_bare t && target_fits f t

abbrev pub same_reg : Option Reg → Option Reg → Bool
same_reg None s = false
same_reg (Some r) None = false
same_reg (Some r) (Some s) = r.0 == s.0

abbrev pub same_regs : List Reg → List Reg → Bool
same_regs [] [] = true
same_regs (r ∷ rs) (s ∷ ss) = (r.0 == s.0) && same_regs rs ss
same_regs [] (s ∷ ss) = false
same_regs (r ∷ rs) [] = false

-- a block that takes the results of a call
abbrev pub takes_results : Option Block → Option LowFunc → LowFunc → Bool
takes_results None g f = false
takes_results (Some b) g f = fit_results g f b.params

-- one register for the code of a failure
abbrev pub are_code : LowFunc → List Reg → Bool
are_code f [] = false
are_code f (r ∷ []) = on_type is_code (reg_type f r)
are_code f (r ∷ q ∷ rs) = false

abbrev pub takes_code : Option Block → LowFunc → Bool
takes_code None f = false
takes_code (Some b) f = are_code f b.params

-- registers for what an awaited object holds: one for a value, and none else
abbrev pub are_held : LowFunc → Option Ty → List Reg → Bool
are_held f o [] = not (on_type is_value o)
are_held f o (r ∷ []) = on_types holds o (reg_type f r)
are_held f o (r ∷ q ∷ rs) = false

abbrev pub takes_held : Option Block → LowFunc → Option Ty → Bool
takes_held None f o = false
takes_held (Some b) f o = are_held f o b.params

abbrev pub either_fits : LowFunc → Target → Target → Bool
either_fits f t u = same_regs t.args u.args && target_fits f t && target_fits f u

abbrev pub call_fits : LowModule → LowFunc → Instr → Target → Target → Bool
call_fits code f i t u =
    is_bare t && is_bare u && takes_results (block_at f t.block) (callee code i.attr) f && takes_code (block_at f u.block) f

abbrev pub await_fits : LowFunc → Instr → Target → Target → Bool
await_fits f i t u = is_bare t && takes_held (block_at f t.block) f (type_at f i.operands 0) && bare_fits f u

abbrev pub suspend_fits : LowFunc → Target → Target → Target → Bool
suspend_fits f t u v = bare_fits f t && bare_fits f u && bare_fits f v

abbrev pub ends : Targets → Bool
ends to.Ends = true
ends _ = false

abbrev pub one_fits : Targets → LowFunc → Target → Bool
one_fits to.One f t = target_fits f t
one_fits _ f t = false

abbrev pub two_fit : Targets → LowModule → LowFunc → Instr → Target → Target → Bool
two_fit to.Either code f i t u = either_fits f t u
two_fit to.Call code f i t u = call_fits code f i t u
two_fit to.Await code f i t u = await_fits f i t u
two_fit _ code f i t u = false

abbrev pub three_fit : Targets → LowFunc → Target → Target → Target → Bool
three_fit to.Suspend f t u v = suspend_fits f t u v
three_fit _ f t u v = false

-- the targets are those that the row asks for
abbrev pub targets_fit : Targets → LowModule → LowFunc → Instr → List Target → Bool
targets_fit asked code f i [] = ends asked
targets_fit asked code f i (t ∷ []) = one_fits asked f t
targets_fit asked code f i (t ∷ u ∷ []) = two_fit asked code f i t u
targets_fit asked code f i (t ∷ u ∷ v ∷ []) = three_fit asked f t u v
targets_fit asked code f i (t ∷ u ∷ v ∷ w ∷ ts) = false

abbrev pub is_instruction : Targets → Bool
is_instruction to.Instruction = true
is_instruction _ = false

-- an instruction within a block is no terminator
abbrev pub inner_fits : LowModule → LowFunc → Instr → Bool
inner_fits code f i = is_instruction (row_of i.kind).targets && instr_fits code f i

abbrev pub term_fits : LowModule → LowFunc → Term → Bool
term_fits code f t = instr_fits code f t.instr && targets_fit (row_of t.instr.kind).targets code f t.instr t.targets

abbrev pub block_fits : LowModule → LowFunc → Block → Bool
block_fits code f b = every (inner_fits code f) b.instrs && term_fits code f b.term
