-- The laws: an instruction that both codes have does the same in both, where registers are alike.
use Rattle.std.specs.Prelude.{◌≡◌, ◌<◌, ℕ, true, List, slice_get, Option, Some}
use Rattle.low_forms.specs.declared.code.Reg.{Reg}
use Rattle.low_forms.specs.declared.code.Instr.{Instr}
use Rattle.low_forms.specs.declared.code.LowFunc.{LowFunc}
use Rattle.low_forms.specs.declared.code.LowModule.{LowModule}
use Rattle.async_objects.specs.declared.kinds.Val.{Val}
use Rattle.task_stack.specs.declared.effects.Number as one
use Rattle.task_stack.specs.declared.effects.Effect.{Effect}
use Rattle.task_stack.specs.Registers.{bind, values_at}
use Rattle.task_stack.specs.Numbers.{computed}
use Rattle.task_stack.specs.Frames.{Stack}
use Rattle.task_stack.specs.Local.{operands, inner_step}
use Rattle.step_core.specs.declared.rows.SharedRow.{SharedRow}
use Rattle.step_core.specs.State.{Plain}
use Rattle.step_core.specs.Shared.{shared_step}
use Rattle.step_core.specs.High.{Ref}
use Rattle.code_machines.specs.Objects.{Stands}
use Rattle.plain_carry.specs.Alike.{AllAlike, MaybeAlike, AlikeRegs, AllBelow, SameTypes, AlikeLocal, stays, is_of_cells, AlikeTook}

-- what registers hold is alike, and stays so where both bind what is alike
abbrev pub OperandsAlike : Type 0
OperandsAlike = (ks : List Stands) (rs : List Ref) (n : ℕ) (regs regs' : List Val) (these : List Reg) → AlikeRegs ks rs n regs regs' → AllBelow n these →
    AllAlike ks rs (values_at regs these) (values_at regs' these)

abbrev pub BoundAlike : Type 0
BoundAlike = (ks : List Stands) (rs : List Ref) (n : ℕ) (these : List Reg) (vs ws regs regs' : List Val) → AllAlike ks rs vs ws → AlikeRegs ks rs n regs regs' →
    AlikeRegs ks rs n (bind these vs regs) (bind these ws regs')

-- numbers that are computed
abbrev pub ComputedAlike : Type 0
ComputedAlike = (ks : List Stands) (rs : List Ref) (n : one.Number) (f g : LowFunc) (i : Instr) (vs ws : List Val) → SameTypes f g i → AllAlike ks rs vs ws →
    MaybeAlike ks rs (computed n f i vs) (computed n g i ws)

-- an instruction of the task alone
abbrev pub InnerAlike : Type 0
InnerAlike =
    (ks : List Stands) (rs : List Ref) (e : Effect) (code above : LowModule) (f g : LowFunc) (i : Instr) (first second : Stack) → stays e ≡ true → SameTypes f g i →
    AllAlike ks rs (operands first i) (operands second i) → AlikeLocal ks rs i first second (inner_step e true code f i first) (inner_step e true above g i second)

-- an instruction of buffers
abbrev pub CellsAlike : Type 0
CellsAlike =
    (ks : List Stands) (rs : List Ref) (r : SharedRow) (f g : LowFunc) (i : Instr) (vs ws : List Val) (s h : Plain) (t : ℕ) (first second : Stack) → is_of_cells r ≡ true →
    SameTypes f g i → AllAlike ks rs vs ws → s.buffers ≡ h.buffers → AlikeTook ks rs i s h t first second (shared_step r f i vs s t first) (shared_step r g i ws h t second)
