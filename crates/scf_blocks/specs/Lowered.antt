-- Functions and modules as blocks.
use Rattle.std.specs.Prelude.{ℕ, ◌+◌, ◌-◌, Bool, true, false, List, [], ◌∷◌, ◌++◌, length, map, slice_get, Option, Some, None}
use Rattle.op_table.specs.declared.form.Form.{Form}
use Rattle.op_table.specs.declared.form.Form.TheVariants.{TaskYield}
use Rattle.op_table.specs.Rows.{row_of}
use Rattle.ir_forms.specs.declared.ops.Op.{Op}
use Rattle.ir_forms.specs.declared.ops.Func.{Func}
use Rattle.ir_forms.specs.declared.ops.Module.{Module}
use Rattle.ir_forms.specs.Ops.{kind_of, ops_of}
use Rattle.low_forms.specs.declared.code.LowFunc.{LowFunc}
use Rattle.low_forms.specs.declared.code.LowModule.{LowModule}
use Rattle.low_forms.specs.declared.code.Reg.{Reg}
use Rattle.scf_blocks.specs.declared.body.Body.{Body}
use Rattle.scf_blocks.specs.declared.body.Failure.{Failure}
use Rattle.scf_blocks.specs.declared.body.Close.TheVariants.{Returns}
use Rattle.scf_blocks.specs.Tree.{types_in, Ops, tree}
use Rattle.scf_blocks.specs.Code.{code_of, block_of, blocks_of, regs_of, types_of, fails_of, failure_block, failure_blocks, code_type, code_types, regs_from, with_vars}
use Rattle.scf_blocks.specs.Bodies.{defined, finished}

-- a body that ends with `async.yield` is a task's
abbrev pub is_task_yield : Form → Bool
is_task_yield TaskYield = true
is_task_yield _ = false

abbrev pub ends_task : Option Op → Bool
ends_task None = false
ends_task (Some op) = is_task_yield (row_of (kind_of op)).form

abbrev pub is_task : List Op → Bool
is_task ops = ends_task (slice_get ops (length ops - 1))

-- the operations of a function's body
abbrev pub func_tree : Func → Ops
func_tree f = tree (ops_of f.body)

-- its blocks stand in the order of the text, and then the failure blocks
abbrev pub lowered_func : List Func → Func → LowFunc
lowered_func funcs f =
    let ops : Ops = func_tree f in
    let n : ℕ = length f.params in
    record {
      name = f.name;
      coroutine = is_task (ops_of f.body);
      params = regs_from 0 f.params;
      results = f.results;
      regs = types_in f.params ++ (types_of ops ++ code_types (fails_of ops));
      blocks = block_of [] (code_of funcs ops 0 n (blocks_of ops + 1) (with_vars f.params 0 []) Returns) ++ failure_blocks (n + regs_of ops) (fails_of ops);
    }

abbrev pub lowered : Module → LowModule
lowered program = record { funcs = map (lowered_func program.funcs) program.funcs }

-- ---- in steps

-- the next failure block
abbrev pub with_failure : Failure → Body → Body
with_failure f w = record w { done = w.done ++ failure_block (length w.types) f ∷ []; types = w.types ++ code_type ∷ [] }

abbrev pub with_failures : List Failure → Body → Body
with_failures [] w = w
with_failures (f ∷ fs) w = with_failures fs (with_failure f w)

-- all operations, and then the failure blocks
abbrev pub with_func : List Func → Func → Body → Body
with_func funcs f w =
    let all : Body = finished funcs (defined f.params w) (defined f.params w).scope Returns (func_tree f) in
    with_failures all.failures all

-- a function with this body
abbrev pub low_func : Func → List Reg → Body → LowFunc
low_func f params w = record { name = f.name; coroutine = is_task (ops_of f.body); params = params; results = f.results; regs = w.types; blocks = w.done }
