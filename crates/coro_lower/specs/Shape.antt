-- The pass: code with launches and awaits becomes code of runtime rows, and its tasks become coroutines.
use Rattle.std.specs.Prelude.{ℕ, ◌+◌, cond, List, [], ◌∷◌, ◌++◌, map, Option, Some, None, slice_get}
use Rattle.op_table.specs.declared.kind.OpKind.TheVariants as op
use Rattle.low_forms.specs.declared.code.Reg.{Reg}
use Rattle.low_forms.specs.declared.code.Instr.{Instr}
use Rattle.low_forms.specs.declared.code.Target.{Target}
use Rattle.low_forms.specs.declared.code.Term.{Term}
use Rattle.low_forms.specs.declared.code.Block.{Block}
use Rattle.low_forms.specs.declared.code.LowFunc.{LowFunc}
use Rattle.low_forms.specs.declared.code.LowModule.{LowModule}
use Rattle.register_numbers.specs.Renumbered.{renumbered}
use Rattle.coro_lower.specs.declared.label.Label.{Label}
use Rattle.coro_lower.specs.declared.label.Label.TheVariants.{Entry, Next, Body, SetsError, Cleanup, Suspended}
use Rattle.coro_lower.specs.declared.label.End.{End}
use Rattle.coro_lower.specs.declared.label.End.TheVariants as end
use Rattle.coro_lower.specs.Layout.{awaiting, end_of, layout, place, target_at}
use Rattle.coro_lower.specs.Registers.{flag, saved, made, token, identity, handle, first_saved, values, object_types, reg_types}
use Rattle.coro_lower.specs.Rows.{row, ends, block, idle, called}

-- ---- terminators

abbrev pub jump : LowFunc → Label → Term
jump f l = ends op.CfBr [] (place f l ∷ [])

-- where what was awaited is in error, to the failure block
abbrev pub branch : LowFunc → ℕ → List Target → Term
branch f k targets = ends op.CfCondBr (flag f k ∷ []) (place f (Body (target_at targets 1)) ∷ place f (Body (target_at targets 0)) ∷ [])

abbrev pub suspend : LowFunc → Reg → Label → Term
suspend f state next = ends op.AsyncCoroSuspend (state ∷ []) (place f Suspended ∷ place f next ∷ place f Cleanup ∷ [])

abbrev pub moved : LowFunc → Target → Target
moved f t = record t { block = record { 0 = place f (Body t.block.0) } }

abbrev pub term_of : End → LowFunc → ℕ → Term → Term
term_of end.Stays f k t = record t { targets = map (moved f) t.targets }
term_of end.Waits f k t = branch f k t.targets
term_of end.Suspends f k t = suspend f (saved f k) (Next k)
term_of end.Gives f k t = jump f Cleanup
term_of end.Fails f k t = jump f SetsError

-- ---- instructions

abbrev pub is_error : LowFunc → ℕ → List Reg → Instr
is_error f k awaited = row op.AsyncRuntimeIsError awaited (flag f k ∷ [])

-- each value is stored and set, and then the token
abbrev pub gives : LowFunc → ℕ → List Reg → List Instr
gives f j [] = row op.AsyncRuntimeSetAvailable (token f ∷ []) [] ∷ []
gives f j (v ∷ vs) = row op.AsyncRuntimeStore (v ∷ made f j ∷ []) [] ∷ row op.AsyncRuntimeSetAvailable (made f j ∷ []) [] ∷ gives f (j + 1) vs

-- what stands before the end of a block
abbrev pub before_end : End → LowFunc → ℕ → List Reg → List Instr
before_end end.Stays f k rs = []
before_end end.Waits f k rs = row op.AsyncRuntimeAwait rs [] ∷ is_error f k rs ∷ []
before_end end.Suspends f k rs = row op.AsyncCoroSave (handle f ∷ []) (saved f k ∷ []) ∷ row op.AsyncRuntimeAwaitAndResume (rs ++ handle f ∷ []) [] ∷ []
before_end end.Gives f k rs = gives f 1 rs
before_end end.Fails f k rs = []

abbrev pub awaited_at : Option Block → List Reg
awaited_at None = []
awaited_at (Some b) = b.term.instr.operands

-- a block in which an await goes on takes no value, and loads it instead
abbrev pub loads : LowFunc → Option ℕ → List Reg → List Instr
loads f None params = []
loads f (Some b) [] = []
loads f (Some b) (r ∷ rs) = row op.AsyncRuntimeLoad (awaited_at (slice_get f.blocks b)) (r ∷ rs) ∷ []

abbrev pub params_left : Option ℕ → List Reg → List Reg
params_left None params = params
params_left (Some b) params = []

-- a failure block is empty
abbrev pub instrs_of : End → LowFunc → ℕ → Block → List Instr
instrs_of end.Fails f k b = []
instrs_of e f k b = loads f (awaiting f k) b.params ++ map called b.instrs ++ before_end e f k b.term.instr.operands

-- ---- blocks

abbrev pub body : LowFunc → ℕ → Option Block → Block
body f k None = idle
body f k (Some b) = record {
  params = params_left (awaiting f k) b.params;
  instrs = instrs_of (end_of f b) f k b;
  term = term_of (end_of f b) f k b.term;
}

abbrev pub next : LowFunc → ℕ → Option Block → Block
next f k None = idle
next f k (Some b) = block (is_error f k b.term.instr.operands ∷ []) (branch f k b.term.targets)

abbrev pub create : Reg → Instr
create r = row op.AsyncRuntimeCreate [] (r ∷ [])

abbrev pub set_error : Reg → Instr
set_error r = row op.AsyncRuntimeSetError (r ∷ []) []

abbrev pub begins : LowFunc → List Instr
begins f =
    row op.AsyncCoroId [] (identity f ∷ [])
    ∷ row op.AsyncCoroBegin (identity f ∷ []) (handle f ∷ [])
    ∷ row op.AsyncCoroSave (handle f ∷ []) (first_saved f ∷ [])
    ∷ row op.AsyncRuntimeResume (handle f ∷ []) [] ∷ []

abbrev pub coro_end : LowFunc → Instr
coro_end f = row op.AsyncCoroEnd (handle f ∷ []) []

abbrev pub label_block : LowFunc → Label → Block
label_block f Entry = block (map create (token f ∷ values f) ++ begins f) (suspend f (first_saved f) (Body 0))
label_block f (Body k) = body f k (slice_get f.blocks k)
label_block f (Next k) = next f k (slice_get f.blocks k)
label_block f SetsError = block (map set_error (values f ++ token f ∷ [])) (jump f Cleanup)
label_block f Cleanup = block (row op.AsyncCoroFree (identity f ∷ handle f ∷ []) [] ∷ coro_end f ∷ []) (ends op.AioFinish [] [])
label_block f Suspended = block (coro_end f ∷ []) (ends op.FuncReturn (token f ∷ values f) [])

-- ---- functions

abbrev pub lowered : LowFunc → LowFunc
lowered f = record f {
  results = cond f.coroutine (object_types f.results) f.results;
  regs = reg_types f;
  blocks = map (label_block f) (layout f);
}

-- its registers are numbered in the order of the text
unfoldable pub runtime_func : LowFunc → LowFunc
runtime_func f = renumbered (lowered f)

abbrev pub runtime_code : LowModule → LowModule
runtime_code code = record { funcs = map runtime_func code.funcs }
