-- Which rules an operation breaks in its place: by itself, at an operand, at a written type, at a result, or at one of
-- its regions.
use Rattle.std.specs.Prelude.{ℕ, suc, ◌+◌, ◌==◌, ◌&&◌, ◌||◌, not, Bool, true, false, List, [], ◌∷◌, length, Option, Some, None}
use Rattle.std.specs.Option.{is_some}
use Rattle.ir_forms.specs.declared.ops.Op.{Op, out-Op}
use Rattle.ir_forms.specs.declared.ops.Region.{Region}
use Rattle.ir_forms.specs.declared.ops.Func.{Func}
use Rattle.ir_forms.specs.declared.ops.ValueNo.{ValueNo}
use Rattle.ir_forms.specs.declared.types.Ty.{Ty}
use Rattle.ir_forms.specs.Ops.{operands_of, written_of, results_of, regions_of, ops_of}
use Rattle.ir_verify.specs.declared.fault.Broken.{Broken}
use Rattle.ir_verify.specs.declared.fault.VerifyKind.{VerifyKind}
use Rattle.ir_verify.specs.declared.fault.VerifyKind.TheVariants.{Undefined, TypeMismatch, Terminator, UnknownFunc, Arity, AsyncInMemref, BlockingAwait}
use Rattle.op_table.specs.declared.form.Form.{Form}
use Rattle.op_table.specs.declared.form.Form.TheVariants.{Call, TryCall, If, Await, AwaitAll, Other}
use Rattle.ir_verify.specs.declared.place.Nest.{Nest}
use Rattle.ir_verify.specs.declared.place.Nest.TheVariants.{InFunction, InTask, InLoop}
use Rattle.op_table.specs.Rows.{is_other}
use Rattle.ir_verify.specs.Faults.{noted}
use Rattle.ir_verify.specs.Places.{Place, Spot, Seen, types_of, params_of}
use Rattle.ir_verify.specs.Forms.{row_at, form, end_asked, ends, is_ending}
use Rattle.ir_verify.specs.Scopes.{lookup}
use Rattle.ir_verify.specs.Types.{has_async_cells}
use Rattle.ir_verify.specs.Rules.{is_in_place, operand_fits, operands_asked, written_fits, written_asked, result_fits, types_asked, param_fits, params_fit, groups_fit}

-- some element of a list, the first of which has the place i, passes a test of its place and itself
abbrev pub some_from : {X : Type 0} → (ℕ → X → Bool) → ℕ → List X → Bool
some_from test i [] = false
some_from test i (x ∷ xs) = test i x || some_from test (i + 1) xs

abbrev pub some_at : {X : Type 0} → (ℕ → X → Bool) → List X → Bool
some_at test xs = some_from test 0 xs

-- ---- at an operand

-- an operand that isn't visible has no type, so that only `Undefined` comes of it
abbrev pub misfits : (Ty → Bool) → Option Ty → Bool
misfits fits None = false
misfits fits (Some t) = not (fits t)

abbrev pub operand_breaks : VerifyKind → Seen → Place → ℕ → ValueNo → Bool
operand_breaks Undefined seen p i v = not (is_some (lookup seen v.0))
operand_breaks TypeMismatch seen p i v = misfits (operand_fits (form p.op) p i) (lookup seen v.0)
operand_breaks _ seen p i v = false

-- ---- at a written type and at a result's type

abbrev pub written_breaks : VerifyKind → Place → ℕ → Ty → Bool
written_breaks TypeMismatch p i t = not (written_fits (form p.op) p i t)
written_breaks AsyncInMemref p i t = has_async_cells t
written_breaks _ p i t = false

abbrev pub result_breaks : VerifyKind → Place → ℕ → Ty → Bool
result_breaks TypeMismatch p i t = not (result_fits (form p.op) p i t)
result_breaks AsyncInMemref p i t = has_async_cells t
result_breaks _ p i t = false

-- ---- at a region

abbrev pub param_breaks : VerifyKind → Op → ℕ → ℕ → (ValueNo × Ty) → Bool
param_breaks TypeMismatch op r i param = not (param_fits (form op) op r i param.1)
param_breaks AsyncInMemref op r i param = has_async_cells param.1
param_breaks _ op r i param = false

-- the form of the last operation
abbrev pub last_form : List Op → Form
last_form [] = Other
last_form (op ∷ []) = form op
last_form (op ∷ o ∷ ops) = last_form (o ∷ ops)

-- the operations don't end as is asked
abbrev pub lacks_end : Form → List Op → Bool
lacks_end asked ops = is_ending asked && not (ends asked (last_form ops))

-- a branch without results may have nothing in its second region
abbrev pub may_be_empty : Form → ℕ → List Ty → List Op → Bool
may_be_empty If (suc r) [] [] = true
may_be_empty _ _ _ _ = false

abbrev pub region_breaks : VerifyKind → Op → ℕ → Region → Bool
region_breaks Terminator op r region = not (may_be_empty (form op) r (types_of op) (ops_of region)) && lacks_end (end_asked (form op) r) (ops_of region)
region_breaks Arity op r region = not (params_fit (form op) op r (length (params_of region)))
region_breaks TypeMismatch op r region = some_at (param_breaks TypeMismatch op r) (params_of region)
region_breaks AsyncInMemref op r region = some_at (param_breaks AsyncInMemref op r) (params_of region)
region_breaks _ op r region = false

-- ---- by itself

abbrev pub is_call : Form → Bool
is_call Call = true
is_call TryCall = true
is_call _ = false

abbrev pub is_await : Form → Bool
is_await Await = true
is_await AwaitAll = true
is_await _ = false

-- an await here would block a worker: in a parallel loop, and in a function that a task calls
abbrev pub would_block : Nest → Bool → Bool
would_block InTask is_called = false
would_block InLoop is_called = true
would_block InFunction is_called = is_called

-- a list of the operation has another length than is asked
abbrev pub miscounts : Place → Bool
miscounts p =
    not (length (operands_of p.op) == operands_asked p.op) || (not (length (written_of p.op) == written_asked (form p.op) p)
    || (not (length (types_of p.op) == types_asked p) || (not (length (results_of p.op) == length (types_of p.op))
    || (not (length (regions_of p.op) == (row_at p.op).regions) || not (groups_fit (form p.op) p.op)))))

abbrev pub has_results : Option Func → Bool
has_results None = false
has_results (Some f) = not (length f.results == 0)

-- `aio.try_call` calls a function without results
abbrev pub tries_results : Form → Option Func → Bool
tries_results TryCall callee = has_results callee
tries_results _ callee = false

abbrev pub own_breaks : VerifyKind → Place → Bool
own_breaks Undefined p = false
own_breaks TypeMismatch p = is_other (form p.op)
own_breaks Terminator p = is_ending (form p.op) && not (is_in_place p)
own_breaks UnknownFunc p = is_call (form p.op) && not (is_some p.callee)
own_breaks Arity p = miscounts p || tries_results (form p.op) p.callee
own_breaks AsyncInMemref p = false
own_breaks BlockingAwait p = is_await (form p.op) && would_block p.around.nest p.around.is_called

-- ---- an operation

abbrev pub breaks : VerifyKind → Spot → Bool
breaks kind s =
    own_breaks kind s.place || (some_at (operand_breaks kind s.seen s.place) (operands_of s.place.op)
    || (some_at (written_breaks kind s.place) (written_of s.place.op) || (some_at (result_breaks kind s.place) (types_of s.place.op)
    || some_at (region_breaks kind s.place.op) (regions_of s.place.op))))

abbrev pub number_of : Op → ℕ
number_of op = (out-Op op).at

-- the earliest fault, with those of this kind at an operation counted
abbrev pub noted_kind : VerifyKind → Spot → Option Broken → Option Broken
noted_kind kind s best = noted best (breaks kind s) (record { op = number_of s.place.op; kind = kind })

-- with all faults of an operation counted
abbrev pub noted_spot : Spot → Option Broken → Option Broken
noted_spot s best =
    noted_kind BlockingAwait s (noted_kind AsyncInMemref s (noted_kind Arity s (noted_kind UnknownFunc s (noted_kind Terminator s
    (noted_kind TypeMismatch s (noted_kind Undefined s best))))))

-- with those of all these places counted
abbrev pub noted_all : List Spot → Option Broken → Option Broken
noted_all [] best = best
noted_all (s ∷ spots) best = noted_all spots (noted_spot s best)
