-- What a shared step answers, by its row.
use Rattle.std.proofs.Common.{◌≡◌, ℕ, List, Result, Ok, Err, IfOk}
use Rattle.ir_forms.specs.declared.runs.ObjNo.{ObjNo}
use Rattle.ir_forms.specs.declared.runs.TaskNo.{TaskNo}
use Rattle.low_forms.specs.declared.code.Instr.{Instr}
use Rattle.low_forms.specs.declared.code.LowFunc.{LowFunc}
use Rattle.async_objects.specs.Tables.{Table}
use Rattle.task_stack.specs.Frames.{Stack}
use Rattle.task_stack.specs.Local.{operands}
use Rattle.step_core.specs.declared.limits.Limits.{Limits}
use Rattle.step_core.specs.declared.parts.Row.{Row}
use Rattle.step_core.specs.declared.rows.SharedRow.{SharedRow}
use Rattle.step_core.specs.State.{live_tasks}
use Rattle.step_core.specs.Core.{Core}
use Rattle.step_core.specs.Parts.{with_parts, row_step, IsRow}

pub if_ok : {A E : Type 0} (r : Result A E) (P Q : A → Type 0) → IfOk r P → ((x : A) → P x → Q x) → IfOk r Q
if_ok (Ok x) P Q h go = go x h
if_ok (Err e) P Q h go = tt

-- a row is taken as this one
abbrev pub IsTaken : Row → Limits → ℕ → ℕ → LowFunc → Instr → (objects objects' : Table) → (buffers buffers' : List (List ℕ)) → (gone gone' : List ObjNo) → (woken woken' : List TaskNo) → (stack stack' : Stack) → SharedRow → Type 0
IsTaken row limits live t func instr objects objects' buffers buffers' gone gone' woken woken' stack stack' kind =
    (rest : Core) → live_tasks rest.plain.tasks ≡ live →
    IsRow row (with_parts objects buffers gone rest) (with_parts objects' buffers' gone' rest) woken woken' t stack stack'
    (row_step limits kind func instr (operands stack instr) (with_parts objects buffers gone rest) t stack)
