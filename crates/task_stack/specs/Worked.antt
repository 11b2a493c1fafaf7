-- Small functions, and what their local steps come to.
use Rattle.std.specs.Prelude.{◌≡◌, ℕ, zero, suc, Bool, true, false, List, [], ◌∷◌, map, replicate, Option, Some, None}
use Rattle.int_ops.specs.declared.Width.TheVariants as wd
use Rattle.ir_forms.specs.declared.runs.FuncNo.{FuncNo}
use Rattle.ir_forms.specs.declared.types.Ty.{Ty}
use Rattle.ir_forms.specs.declared.types.Ty.TheVariants as ty
use Rattle.op_table.specs.declared.kind.OpKind.{OpKind}
use Rattle.op_table.specs.declared.kind.OpKind.TheVariants as op
use Rattle.low_forms.specs.declared.code.Reg.{Reg}
use Rattle.low_forms.specs.declared.code.LowKind.TheVariants.{Row}
use Rattle.low_forms.specs.declared.code.LowAttr.{LowAttr}
use Rattle.low_forms.specs.declared.code.LowAttr.TheVariants as low
use Rattle.low_forms.specs.declared.code.Instr.{Instr}
use Rattle.low_forms.specs.declared.code.Term.{Term}
use Rattle.low_forms.specs.declared.code.Block.{Block}
use Rattle.low_forms.specs.declared.code.LowFunc.{LowFunc}
use Rattle.low_forms.specs.declared.code.LowModule.{LowModule}
use Rattle.async_objects.specs.declared.kinds.Val.{Val}
use Rattle.async_objects.specs.declared.kinds.Val.TheVariants.{Number}
use Rattle.task_stack.specs.declared.frames.Place.{Place}
use Rattle.task_stack.specs.declared.frames.Saved.TheVariants.{Nothing, Kept}
use Rattle.task_stack.specs.Frames.{Stack, root_stack}
use Rattle.task_stack.specs.Local as local
use Rattle.task_stack.specs.Local.{Local, local_step}

-- ---- code in short

abbrev pub regs : List ℕ → List Reg
regs ns = map (λ n. record { 0 = n }) ns

-- an instruction of this kind, with these operands and results, that carries this
abbrev pub row : OpKind → List ℕ → List ℕ → LowAttr → Instr
row kind operands results attr = record { kind = Row kind; operands = regs operands; results = regs results; attr = attr }

-- a literal in a register
abbrev pub constant : ℕ → ℕ → Instr
constant n r = row op.ArithConstant [] (r ∷ []) (low.Literal false n)

-- a terminator to these blocks
abbrev pub end : OpKind → List ℕ → LowAttr → List ℕ → Term
end kind operands attr blocks = record { instr = row kind operands [] attr; targets = map (λ b. record { block = record { 0 = b }; args = [] }) blocks }

abbrev pub block : List ℕ → List Instr → Term → Block
block params instrs term = record { params = regs params; instrs = instrs; term = term }

-- a function with so many registers of 64 bits
abbrev pub func : Bool → List Ty → ℕ → List Block → LowFunc
func coroutine results n blocks =
    record { name = []; coroutine = coroutine; params = []; results = results; regs = replicate n (ty.Int wd.W64); blocks = blocks }

-- ---- steps in a row

abbrev pub more_steps : (Stack → Option Stack) → Local → Option Stack
more_steps go (local.Done after counts) = go after
more_steps go _ = None

-- the stack after so many local steps
abbrev pub steps : ℕ → LowModule → Stack → Option Stack
steps zero code s = Some s
steps (suc n) code s = more_steps (steps n code) (local_step code s)

abbrev pub main : FuncNo
main = record { 0 = 0 }

-- the root's stack with one frame, which stands in a block of the first function
abbrev pub alone : ℕ → ℕ → List Val → Stack
alone b at vals = record {
  is_root = true;
  top = record { current = record { place = record { func = main; block = record { 0 = b }; at = at }; regs = vals }; saved = Nothing };
  below = [];
}

-- ---- forty and two are added, and the return is shared

abbrev pub adds : LowFunc
adds = func false (ty.Int wd.W64 ∷ []) 3
    (block [] (constant 40 0 ∷ constant 2 1 ∷ row op.ArithAddi (0 ∷ 1 ∷ []) (2 ∷ []) low.None ∷ []) (end op.FuncReturn (2 ∷ []) low.None []) ∷ [])

abbrev pub added : Stack
added = alone 0 3 (Number 40 ∷ Number 2 ∷ Number 42 ∷ [])

abbrev pub AddsFortyAndTwo : Type 0
AddsFortyAndTwo =
    let code : LowModule = record { funcs = adds ∷ [] } in
    (steps 3 code (root_stack main adds []) ≡ Some added) × (local_step code added ≡ local.Shared)

-- ---- a failure of a called function goes to the call's second target, with its code; what is behind the call is not taken

abbrev pub caller : LowFunc
caller = func false [] 1
    (block [] [] (end op.AioCall [] (low.Callee (record { 0 = 1 })) (1 ∷ 2 ∷ []))
    ∷ block [] [] (end op.FuncReturn [] low.None [])
    ∷ block (0 ∷ []) [] (end op.AioFail (0 ∷ []) low.None []) ∷ [])

abbrev pub failing : LowFunc
failing = func false [] 1 (block [] (constant 9 0 ∷ []) (end op.AioFail (0 ∷ []) low.None []) ∷ [])

abbrev pub caught : Stack
caught = alone 2 0 (Number 9 ∷ [])

abbrev pub FailsAtItsCall : Type 0
FailsAtItsCall =
    let code : LowModule = record { funcs = caller ∷ failing ∷ [] } in
    (steps 3 code (root_stack main caller []) ≡ Some caught) × (local_step code caught ≡ local.Shared)

-- ---- a save keeps a copy that stands at the suspend

abbrev pub saves : LowFunc
saves = func true [] 3
    (block [] (row op.AsyncCoroId [] (0 ∷ []) low.None ∷ row op.AsyncCoroBegin (0 ∷ []) (1 ∷ []) low.None ∷ row op.AsyncCoroSave (1 ∷ []) (2 ∷ []) low.None ∷ row op.AsyncRuntimeResume (1 ∷ []) [] low.None ∷ [])
    (end op.AsyncCoroSuspend (2 ∷ []) low.None (2 ∷ 1 ∷ 1 ∷ []))
    ∷ block [] [] (end op.AioFinish [] low.None [])
    ∷ block [] [] (end op.FuncReturn [] low.None []) ∷ [])

abbrev pub saved : Stack
saved =
    let vals : List Val = Number 0 ∷ Number 0 ∷ Number 0 ∷ [] in
    let at_suspend : Place = record { func = main; block = record { 0 = 0 }; at = 4 } in
    record {
      is_root = true;
      top = record { current = record { place = record { func = main; block = record { 0 = 0 }; at = 3 }; regs = vals }; saved = Kept (record { place = at_suspend; regs = vals }) };
      below = [];
    }

abbrev pub SavesBeforeItsSuspend : Type 0
SavesBeforeItsSuspend =
    let code : LowModule = record { funcs = saves ∷ [] } in
    (steps 3 code (root_stack main saves []) ≡ Some saved) × (local_step code saved ≡ local.Shared)

-- ---- a call is too deep where there are 1,024 frames, and not where there is one less

abbrev pub calls_itself : LowFunc
calls_itself = func false [] 0
    (block [] [] (end op.AioCall [] (low.Callee main) (1 ∷ 1 ∷ [])) ∷ block [] [] (end op.FuncReturn [] low.None []) ∷ [])

-- so many frames that wait in the call, below one that works
abbrev pub waiting : ℕ → Stack
waiting n = record { is_root = true; top = (alone 0 0 []).top; below = replicate n (alone 0 0 []).top }

abbrev pub IsDeepAtTheLimit : Type 0
IsDeepAtTheLimit =
    let code : LowModule = record { funcs = calls_itself ∷ [] } in
    (local_step code (waiting 1023) ≡ local.Deep) × (local_step code (waiting 1022) ≡ local.Done (waiting 1023) None)

-- ---- all of them

abbrev pub WorkedStacks : Type 0
WorkedStacks = AddsFortyAndTwo × FailsAtItsCall × SavesBeforeItsSuspend × IsDeepAtTheLimit
