-- What the verifier asks of an operation in its place, list by list: of its operands, its written types, the types of
-- its results, and the parameters of its regions.
use Rattle.std.specs.Prelude.{ℕ, zero, suc, ◌+◌, ◌-◌, ◌*◌, ◌==◌, nat_lt, nat_le, max, ◌&&◌, ◌||◌, not, if◌then◌else◌, Bool, true, false, List, [], ◌∷◌, length, Option, Some, None, slice_get}
use Rattle.std.specs.Option.{option_map, unwrap_or}
use Rattle.ir_forms.specs.declared.ops.Op.{Op, out-Op}
use Rattle.ir_forms.specs.declared.ops.Region.{Region}
use Rattle.ir_forms.specs.declared.ops.Func.{Func}
use Rattle.ir_forms.specs.declared.types.Ty.{Ty}
use Rattle.ir_forms.specs.declared.types.Ty.TheVariants.{Untyped}
use Rattle.ir_forms.specs.Ops.{written_of, regions_of, attr_of}
use Rattle.op_table.specs.declared.rows.Count.{Count}
use Rattle.op_table.specs.declared.rows.Count.TheVariants.{Exactly, Any}
use Rattle.op_table.specs.declared.form.Form.{Form}
use Rattle.op_table.specs.declared.form.Form.TheVariants.{Binary, Compare, Select, Extend, Truncate, IndexCast, Constant, Assert, Call, TryCall, Return, For, If, While, Condition, Parallel, Yield, Alloc, Dealloc, Load, Store, Dim, Execute, TaskYield, Await, AwaitAll, CreateGroup, AddToGroup}
use Rattle.ir_verify.specs.Places.{Around, Place, Seen, types_of, params_of}
use Rattle.ir_verify.specs.Forms.{row_at, form, end_asked, ends}
use Rattle.ir_verify.specs.Types.{same_type, holds, is_element, is_number, is_truth, is_index, is_memref, is_token, is_value, is_group, is_awaitable, dims_of, open_dims, extends, truncates, casts_index, literal_fits}

-- ---- words

abbrev pub first_type : List Ty → Ty
first_type [] = Untyped
first_type (t ∷ ts) = t

-- a type is the one that is asked, where one is
abbrev pub is_asked : Option Ty → Ty → Bool
is_asked None t = true
is_asked (Some asked) t = same_type asked t

-- a type is what the value of the asked type holds, where one is asked
abbrev pub is_held : Option Ty → Ty → Bool
is_held None t = true
is_held (Some asked) t = holds asked t

abbrev pub groups_of : Op → List ℕ
groups_of op = (out-Op op).groups

-- the length of an operand group
abbrev pub group : Op → ℕ → ℕ
group op k = unwrap_or (slice_get (groups_of op) k) 0

abbrev pub first_params : List Region → Seen
first_params [] = []
first_params (region ∷ regions) = params_of region

-- how many dimensions a parallel loop has
abbrev pub dimensions : Op → ℕ
dimensions op = length (first_params (regions_of op))

-- ---- the ends of regions

-- what ends the region round an operation
abbrev pub end_around : Option Op → ℕ → Form
end_around None r = Return
end_around (Some holder) r = end_asked (form holder) r

-- the operation ends its region as the region asks
abbrev pub is_in_place : Place → Bool
is_in_place p = p.is_last && ends (end_around p.around.holder p.around.region) (form p.op)

-- what a loop's or a branch's region gives, by its place
abbrev pub given_types : Form → ℕ → Op → List Ty
given_types While (suc r) holder = written_of holder
given_types f r holder = types_of holder

-- the i-th of the types that the end of the region round the operation gives: those of the function's results, of the
-- holder's results, or for the second region of a `while` of the first one's parameters; from a task's types the token
-- is left out
abbrev pub end_type_in : Form → Op → ℕ → ℕ → Option Ty
end_type_in Execute holder r i = slice_get (types_of holder) (i + 1)
end_type_in f holder r i = slice_get (given_types f r holder) i

abbrev pub end_type : Around → ℕ → Option Ty
end_type around i = go around.holder
  where
    go : Option Op → Option Ty
    go None = slice_get around.func.results i
    go (Some holder) = end_type_in (form holder) holder around.region i

abbrev pub end_length_in : Form → Op → ℕ → ℕ
end_length_in Execute holder r = length (types_of holder) - 1
end_length_in f holder r = length (given_types f r holder)

abbrev pub end_length : Around → ℕ
end_length around = go around.holder
  where
    go : Option Op → ℕ
    go None = length around.func.results
    go (Some holder) = end_length_in (form holder) holder around.region

-- ---- the called function

abbrev pub param_type : Option Func → ℕ → Option Ty
param_type None i = None
param_type (Some f) i = option_map (λ p. p.1) (slice_get f.params i)

abbrev pub result_type : Option Func → ℕ → Option Ty
result_type None i = None
result_type (Some f) i = slice_get f.results i

abbrev pub param_length : Option Func → ℕ → ℕ
param_length None own = own
param_length (Some f) own = length f.params

abbrev pub result_length : Option Func → ℕ → ℕ
result_length None own = own
result_length (Some f) own = length f.results

-- ---- operands

abbrev pub select_operand : Op → ℕ → Ty → Bool
select_operand op zero t = is_truth t
select_operand op (suc i) t = same_type (first_type (written_of op)) t

abbrev pub for_operand : Op → ℕ → Ty → Bool
for_operand op zero t = is_index t
for_operand op (suc zero) t = is_index t
for_operand op (suc (suc zero)) t = is_index t
for_operand op (suc (suc (suc i))) t = is_asked (slice_get (types_of op) i) t

abbrev pub condition_operand : Op → ℕ → Ty → Bool
condition_operand op zero t = is_truth t
condition_operand op (suc i) t = is_asked (slice_get (written_of op) i) t

abbrev pub indexes : Op → ℕ → Ty → Bool
indexes op i t = nat_le (length (dims_of (first_type (written_of op)))) i || is_index t

abbrev pub load_operand : Op → ℕ → Ty → Bool
load_operand op zero t = same_type (first_type (written_of op)) t
load_operand op (suc i) t = indexes op i t

abbrev pub store_operand : Op → ℕ → Ty → Bool
store_operand op zero t = is_element (first_type (written_of op)) t
store_operand op (suc i) t = load_operand op i t

abbrev pub dim_operand : Op → ℕ → Ty → Bool
dim_operand op zero t = same_type (first_type (written_of op)) t
dim_operand op (suc i) t = is_index t

abbrev pub member_operand : Op → ℕ → Ty → Bool
member_operand op zero t = same_type (first_type (written_of op)) t
member_operand op (suc i) t = is_group t

-- the place of an operand in its group of a parallel loop's bounds
abbrev pub bound_place : Op → ℕ → ℕ
bound_place op i = if nat_lt i (group op 0) then i else (if nat_lt i (group op 0 + group op 1) then i - group op 0 else i - (group op 0 + group op 1))

abbrev pub task_operand : Op → ℕ → Ty → Bool
task_operand op i t = if nat_lt i (group op 0) then is_token t else is_asked (slice_get (written_of op) (i - group op 0)) t

-- the i-th operand may have this type
abbrev pub operand_fits : Form → Place → ℕ → Ty → Bool
operand_fits Binary p i t = same_type (first_type (written_of p.op)) t
operand_fits Compare p i t = same_type (first_type (written_of p.op)) t
operand_fits Select p i t = select_operand p.op i t
operand_fits Extend p i t = same_type (first_type (written_of p.op)) t
operand_fits Truncate p i t = same_type (first_type (written_of p.op)) t
operand_fits IndexCast p i t = same_type (first_type (written_of p.op)) t
operand_fits Assert p i t = is_truth t
operand_fits Call p i t = is_asked (slice_get (written_of p.op) i) t
operand_fits TryCall p i t = is_asked (slice_get (written_of p.op) i) t
operand_fits Return p i t = is_asked (slice_get (written_of p.op) i) t
operand_fits Yield p i t = is_asked (slice_get (written_of p.op) i) t
operand_fits TaskYield p i t = is_asked (slice_get (written_of p.op) i) t
operand_fits Condition p i t = condition_operand p.op i t
operand_fits For p i t = for_operand p.op i t
operand_fits If p i t = is_truth t
operand_fits While p i t = is_asked (slice_get (written_of p.op) i) t
operand_fits Parallel p i t = nat_le (dimensions p.op) (bound_place p.op i) || is_index t
operand_fits Alloc p i t = nat_le (open_dims (dims_of (first_type (types_of p.op)))) i || is_index t
operand_fits Dealloc p i t = same_type (first_type (written_of p.op)) t
operand_fits Load p i t = load_operand p.op i t
operand_fits Store p i t = store_operand p.op i t
operand_fits Dim p i t = dim_operand p.op i t
operand_fits Execute p i t = task_operand p.op i t
operand_fits Await p i t = same_type (first_type (written_of p.op)) t
operand_fits AwaitAll p i t = is_group t
operand_fits CreateGroup p i t = is_index t
operand_fits AddToGroup p i t = member_operand p.op i t
operand_fits _ p i t = true

-- a row's count, and where it has none this one
abbrev pub counted : Count → ℕ → ℕ
counted (Exactly n) own = n
counted Any own = own

-- how many operands an operation of a form has, where its row has no count
abbrev pub operands_given : Form → Op → ℕ
operands_given Call op = length (written_of op)
operands_given TryCall op = length (written_of op)
operands_given Return op = length (written_of op)
operands_given Yield op = length (written_of op)
operands_given TaskYield op = length (written_of op)
operands_given Condition op = length (written_of op) + 1
operands_given For op = length (types_of op) + 3
operands_given While op = length (written_of op)
operands_given Parallel op = 3 * dimensions op
operands_given Alloc op = open_dims (dims_of (first_type (types_of op)))
operands_given Load op = length (dims_of (first_type (written_of op))) + 1
operands_given Store op = length (dims_of (first_type (written_of op))) + 2
operands_given Execute op = group op 0 + length (written_of op)
operands_given _ op = 0

-- how many operands there are
abbrev pub operands_asked : Op → ℕ
operands_asked op = counted (row_at op).operands (operands_given (form op) op)

-- ---- written types

-- the i-th written type may be this one
abbrev pub written_fits : Form → Place → ℕ → Ty → Bool
written_fits Binary p i t = is_number t && same_type (first_type (written_of p.op)) t
written_fits Compare p i t = is_number t && same_type (first_type (written_of p.op)) t
written_fits Select p i t = is_number t && same_type (first_type (written_of p.op)) t
written_fits Extend p i t = extends t (first_type (types_of p.op))
written_fits Truncate p i t = truncates t (first_type (types_of p.op))
written_fits IndexCast p i t = casts_index t (first_type (types_of p.op))
written_fits Call p i t = is_asked (param_type p.callee i) t
written_fits TryCall p i t = is_asked (param_type p.callee i) t
written_fits Return p i t = not (is_in_place p) || is_asked (end_type p.around i) t
written_fits Yield p i t = not (is_in_place p) || is_asked (end_type p.around i) t
written_fits Condition p i t = not (is_in_place p) || is_asked (end_type p.around i) t
written_fits TaskYield p i t = not (is_in_place p) || is_held (end_type p.around i) t
written_fits Dealloc p i t = is_memref t
written_fits Load p i t = is_memref t
written_fits Store p i t = is_memref t
written_fits Dim p i t = is_memref t
written_fits Execute p i t = is_value t
written_fits Await p i t = is_awaitable t
written_fits AddToGroup p i t = is_awaitable t
written_fits _ p i t = true

abbrev pub end_asks : Place → ℕ
end_asks p = if is_in_place p then end_length p.around else length (written_of p.op)

-- how many written types there are
abbrev pub written_asked : Form → Place → ℕ
written_asked Binary p = 2
written_asked Compare p = 2
written_asked Select p = 2
written_asked Extend p = 1
written_asked Truncate p = 1
written_asked IndexCast p = 1
written_asked Call p = param_length p.callee (length (written_of p.op))
written_asked TryCall p = param_length p.callee (length (written_of p.op))
written_asked Return p = end_asks p
written_asked Yield p = end_asks p
written_asked Condition p = end_asks p
written_asked TaskYield p = end_asks p
written_asked While p = length (written_of p.op)
written_asked Dealloc p = 1
written_asked Load p = 1
written_asked Store p = 1
written_asked Dim p = 1
written_asked Execute p = length (written_of p.op)
written_asked Await p = 1
written_asked AddToGroup p = 1
written_asked _ p = 0

-- ---- results

abbrev pub task_result : ℕ → Ty → Bool
task_result zero t = is_token t
task_result (suc i) t = is_value t

-- the i-th result may have this type
abbrev pub result_fits : Form → Place → ℕ → Ty → Bool
result_fits Binary p i t = same_type (first_type (written_of p.op)) t
result_fits Compare p i t = is_truth t
result_fits Select p i t = same_type (first_type (written_of p.op)) t
result_fits Constant p i t = literal_fits (attr_of p.op) t
result_fits Call p i t = is_asked (result_type p.callee i) t
result_fits TryCall p i t = is_truth t
result_fits Alloc p i t = is_memref t
result_fits Load p i t = is_element (first_type (written_of p.op)) t
result_fits Dim p i t = is_index t
result_fits Execute p i t = task_result i t
result_fits Await p i t = holds (first_type (written_of p.op)) t
result_fits CreateGroup p i t = is_group t
result_fits AddToGroup p i t = is_index t
result_fits _ p i t = true

-- how many types an operation of a form gives its results, where its row has no count
abbrev pub types_given : Form → Place → ℕ
types_given Call p = result_length p.callee (length (types_of p.op))
types_given Execute p = max 1 (length (types_of p.op))
types_given Await p = if is_value (first_type (written_of p.op)) then 1 else 0
types_given _ p = length (types_of p.op)

-- how many types the operation gives its results
abbrev pub types_asked : Place → ℕ
types_asked p = counted (row_at p.op).results (types_given (form p.op) p)

-- ---- the parameters of regions

abbrev pub for_param : Op → ℕ → Ty → Bool
for_param op zero t = is_index t
for_param op (suc i) t = is_asked (slice_get (types_of op) i) t

abbrev pub while_types : Op → ℕ → List Ty
while_types op zero = written_of op
while_types op (suc r) = types_of op

-- the i-th parameter of the r-th region may have this type
abbrev pub param_fits : Form → Op → ℕ → ℕ → Ty → Bool
param_fits For op r i t = for_param op i t
param_fits While op r i t = is_asked (slice_get (while_types op r) i) t
param_fits Parallel op r i t = is_index t
param_fits Execute op r i t = is_held (slice_get (written_of op) i) t
param_fits _ op r i t = true

-- the r-th region has this number of parameters; a parallel loop has one to four dimensions
abbrev pub params_fit : Form → Op → ℕ → ℕ → Bool
params_fit For op r n = n == length (types_of op) + 1
params_fit While op r n = n == length (while_types op r)
params_fit Parallel op r n = nat_le 1 n && nat_le n 4
params_fit Execute op r n = n == length (written_of op)
params_fit _ op r n = n == 0

-- ---- operand groups

abbrev pub are_groups : List ℕ → ℕ → Bool
are_groups (a ∷ b ∷ c ∷ []) n = a == n && (b == n && c == n)
are_groups _ n = false

abbrev pub are_task_groups : List ℕ → ℕ → Bool
are_task_groups (a ∷ b ∷ []) n = b == n
are_task_groups _ n = false

-- a parallel loop has as many lower bounds, upper bounds and steps as dimensions, and a task one type for each value
abbrev pub groups_fit : Form → Op → Bool
groups_fit Parallel op = are_groups (groups_of op) (dimensions op)
groups_fit Execute op = are_task_groups (groups_of op) (length (written_of op))
groups_fit _ op = true
