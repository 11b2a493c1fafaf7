-- What a step of writing makes of a function's body.
use Rattle.std.specs.Prelude.{◌≡◌, ℕ, ◌+◌, ◌-◌, Bool, true, false, List, [], ◌∷◌, ◌++◌, length, drop, slice_get, Option}
use Rattle.ir_forms.specs.declared.ops.Attr.{Attr}
use Rattle.ir_forms.specs.declared.ops.Op.{Op, out-Op}
use Rattle.ir_forms.specs.declared.ops.ValueNo.{ValueNo}
use Rattle.ir_forms.specs.Ops.{kind_of, operands_of, results_of, attr_of, regions_of}
use Rattle.low_forms.specs.declared.code.LowKind.{LowKind}
use Rattle.low_forms.specs.declared.code.LowAttr.{LowAttr}
use Rattle.low_forms.specs.declared.code.LowAttr.TheVariants as low
use Rattle.ir_forms.specs.declared.ops.Func.{Func}
use Rattle.ir_forms.specs.declared.types.Ty.{Ty}
use Rattle.low_forms.specs.declared.code.Reg.{Reg}
use Rattle.low_forms.specs.declared.code.BlockNo.{BlockNo}
use Rattle.low_forms.specs.declared.code.Instr.{Instr}
use Rattle.low_forms.specs.declared.code.Term.{Term}
use Rattle.scf_blocks.specs.declared.body.Body.{Body}
use Rattle.scf_blocks.specs.declared.body.Failure.{Failure}
use Rattle.scf_blocks.specs.declared.body.Failure.TheVariants.{Constant, Passed}
use Rattle.scf_blocks.specs.declared.body.Close.{Close}
use Rattle.scf_blocks.specs.declared.body.Close.TheVariants.{Joins, Repeats, Decides}
use Rattle.scf_blocks.specs.declared.role.Role.{Role}
use Rattle.scf_blocks.specs.declared.role.Role.TheVariants as role
use Rattle.scf_blocks.specs.Tree.{Var, types_in, typed, Ops, role_of, ends_region, tree_before, tree_at, params_at}
use Rattle.scf_blocks.specs.Code.{Scope, reg_no, block_no, operand, regs, regs_from, with_values, with_vars, instr, constant, less, br, cond_br, call, await, truth, code_type, low_attr, blocks_of, Code, code_of, types_of, close_types, fails_of}

-- an open block without parameters, before its first instruction
abbrev pub begun : ℕ → Body
begun first_failure = record { done = []; params = []; instrs = []; types = []; failures = []; first_failure = first_failure; scope = [] }

-- ---- the next numbers

abbrev pub next_block : Body → ℕ → BlockNo
next_block w ahead = block_no (length w.done + ahead)

abbrev pub next_reg : Body → Reg
next_reg w = reg_no (length w.types)

abbrev pub next_failure : Body → BlockNo
next_failure w = block_no (w.first_failure + length w.failures)

-- ---- single steps

abbrev pub written : Instr → Body → Body
written i w = record w { instrs = w.instrs ++ i ∷ [] }

-- a register that no value has
abbrev pub made : Ty → Body → Body
made t w = record w { types = w.types ++ t ∷ [] }

-- registers of these values
abbrev pub defined : List Var → Body → Body
defined xs w = record w { types = w.types ++ types_in xs; scope = with_vars xs (length w.types) w.scope }

abbrev pub failing : Failure → Body → Body
failing f w = record w { failures = w.failures ++ f ∷ [] }

-- the open block ends, and one without parameters is open
abbrev pub ended : Term → Body → Body
ended t w = record w { done = w.done ++ record { params = w.params; instrs = w.instrs; term = t } ∷ []; params = []; instrs = [] }

abbrev pub opened : List Reg → Body → Body
opened params w = record w { params = params }

-- a block that takes these values
abbrev pub takes : List Var → Body → Body
takes xs w = opened (regs_from (length w.types) xs) (defined xs w)

-- ---- with all of the operations that are left

-- with this code behind it, which makes these registers and failures; these values are visible afterwards
abbrev pub behind : Body → Scope → Code → List Ty → List Failure → Body
behind w outer c types failures = record {
  done = w.done ++ record { params = w.params; instrs = w.instrs ++ c.instrs; term = c.term } ∷ c.blocks;
  params = [];
  instrs = [];
  types = w.types ++ types;
  failures = w.failures ++ failures;
  first_failure = w.first_failure;
  scope = outer;
}

abbrev pub finished : List Func → Body → Scope → Close → Ops → Body
finished funcs w outer end ops =
    behind w outer (code_of funcs ops (length w.done) (length w.types) (w.first_failure + length w.failures) w.scope end)
    (types_of ops ++ close_types end) (fails_of ops)

-- ---- whole operations

abbrev pub with_plain : List Func → LowKind → Attr → List ValueNo → List Var → Body → Body
with_plain funcs kind a args rs w =
    written (instr kind (regs w.scope args) (regs_from (length w.types) rs) (low_attr funcs a)) (defined rs w)

abbrev pub with_assertion : ℕ → Option ValueNo → Body → Body
with_assertion at c w = failing (Constant at) (ended (cond_br (operand w.scope c) (next_block w 1) (next_failure w) []) w)

abbrev pub with_choice : List Func → Option ValueNo → (on off : Ops) → List Var → Body → Body
with_choice funcs c on off rs w =
    let b2 : BlockNo = next_block w (2 + blocks_of on) in
    let b3 : BlockNo = next_block w (3 + (blocks_of on + blocks_of off)) in
    let first : Body = ended (cond_br (operand w.scope c) (next_block w 1) b2 []) w in
    let second : Body = finished funcs first first.scope (Joins b3) on in
    takes rs (finished funcs second second.scope (Joins b3) off)

-- so many values are still visible
abbrev pub keeps : ℕ → Body → Body
keeps k w = record w { scope = drop (length w.scope - k) w.scope }

-- a counted loop: its head, its body, and what follows it
abbrev pub with_head : (lower upper : Option ValueNo) → List ValueNo → List Var → (exit : BlockNo) → Body → Body
with_head lower upper inits params exit w =
    let before : Body = ended (br (next_block w 1) (operand w.scope lower ∷ regs w.scope inits)) w in
    let head : Body = takes params before in
    ended (cond_br (next_reg head) (next_block w 2) exit []) (written (less (next_reg head) (next_reg w) (operand w.scope upper)) (made truth head))

abbrev pub with_counted : List Func → (lower upper step : Option ValueNo) → List ValueNo → List Var → Ops → List ValueNo → Body → Body
with_counted funcs lower upper step inits params body rs w =
    let head : Body = with_head lower upper inits params (next_block w (3 + blocks_of body)) w in
    let last : Body = keeps (length w.scope) (finished funcs head head.scope (Repeats (next_block w 1) (next_reg w) (operand w.scope step)) body) in
    record last { scope = with_values rs (length w.types + 1) last.scope }

abbrev pub with_cycle : List Func → List ValueNo → List Var → Ops → List Var → Ops → List Var → Body → Body
with_cycle funcs inits params before passed after rs w =
    let b2 : BlockNo = next_block w (2 + blocks_of before) in
    let b3 : BlockNo = next_block w (3 + (blocks_of before + blocks_of after)) in
    let first : Body = takes params (ended (br (next_block w 1) (regs w.scope inits)) w) in
    let second : Body = takes passed (keeps (length w.scope) (finished funcs first first.scope (Decides b2 b3) before)) in
    takes rs (keeps (length w.scope) (finished funcs second second.scope (Joins (next_block w 1)) after))

abbrev pub with_call : List Func → Attr → List ValueNo → List Var → Body → Body
with_call funcs a args rs w =
    takes rs (failing Passed (ended (call (low_attr funcs a) (regs w.scope args) (next_block w 1) (next_failure w)) w))

-- a block that gives this bit to another
abbrev pub with_bit : LowAttr → BlockNo → Body → Body
with_bit bit to w = ended (br to (next_reg w ∷ [])) (written (constant (next_reg w) bit) (made truth w))

abbrev pub with_tried : List Func → Attr → List ValueNo → List Var → Body → Body
with_tried funcs a args rs w =
    let join : BlockNo = next_block w 3 in
    let on : Body = with_bit (low.Truth true) join (ended (call (low_attr funcs a) (regs w.scope args) (next_block w 1) (next_block w 2)) w) in
    takes rs (with_bit (low.Truth false) join (opened (next_reg on ∷ []) (made code_type on)))

abbrev pub with_await : ℕ → Option ValueNo → List Var → Body → Body
with_await at o rs w =
    takes rs (failing (Constant at) (ended (await (operand w.scope o) (next_block w 1) (next_failure w)) w))

-- ---- what is owed behind an operation

-- so many values more are visible
pub record Extends (outer inner : Scope) : Type 0 where
  pub more : ℕ
  pub back : drop more inner ≡ outer
  pub len : length inner ≡ length outer + more

-- with any operations behind it, what is written makes the same as before with this operation in front of them
pub record Behind (funcs : List Func) (old new : Body) (f : Ops → Ops) : Type 0 where
  pub whole : (end : Close) (outer : Scope) (rest : Ops) → finished funcs new outer end rest ≡ finished funcs old outer end (f rest)
  pub scope : Extends old.scope new.scope

-- the operation ends its region
abbrev pub Ends : Op → Type 0
Ends op = (rest : Ops) → tree_before op rest ≡ ends_region (role_of (kind_of op)) (operands_of op)

-- ---- by the role of an operation

abbrev pub results_in : Op → List Var
results_in op = typed (results_of op) (out-Op op).types

abbrev pub operand_of : Op → ℕ → Option ValueNo
operand_of op k = slice_get (operands_of op) k

abbrev pub by_role : List Func → Role → Op → Body → Body
by_role funcs (role.Plain kind) op w = with_plain funcs kind (attr_of op) (operands_of op) (results_in op) w
by_role funcs role.Assertion op w = with_assertion (out-Op op).at (operand_of op 0) w
by_role funcs role.Choice op w = with_choice funcs (operand_of op 0) (tree_at (regions_of op) 0) (tree_at (regions_of op) 1) (results_in op) w
by_role funcs role.Counted op w =
    with_counted funcs (operand_of op 0) (operand_of op 1) (operand_of op 2) (drop 3 (operands_of op)) (params_at (regions_of op) 0) (tree_at (regions_of op) 0) (results_of op) w
by_role funcs role.Tested op w =
    with_cycle funcs (operands_of op) (params_at (regions_of op) 0) (tree_at (regions_of op) 0) (params_at (regions_of op) 1) (tree_at (regions_of op) 1) (results_in op) w
by_role funcs role.Call op w = with_call funcs (attr_of op) (operands_of op) (results_in op) w
by_role funcs role.TriedCall op w = with_tried funcs (attr_of op) (operands_of op) (results_in op) w
by_role funcs role.Await op w = with_await (out-Op op).at (operand_of op 0) (results_in op) w
by_role funcs role.End op w = w
by_role funcs role.Condition op w = w
by_role funcs role.Nothing op w = w

abbrev pub ends : Role → Bool
ends role.End = true
ends role.Condition = true
ends _ = false

-- the blocks of an operation with so many in its first two regions
abbrev pub own_blocks : Role → (first second : ℕ) → ℕ
own_blocks role.Assertion first second = 1
own_blocks role.Choice first second = 3 + (first + second)
own_blocks role.Counted first second = 3 + first
own_blocks role.Tested first second = 3 + (first + second)
own_blocks role.Call first second = 1
own_blocks role.TriedCall first second = 3
own_blocks role.Await first second = 1
own_blocks _ first second = 0
