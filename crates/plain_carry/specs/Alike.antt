-- Values, registers and steps of two codes that are alike where objects have other numbers: the first code makes objects, of which a run
-- shows what they stand for, and the second has the high rows.
use Rattle.std.specs.Prelude.{◌≡◌, ◌<◌, ◌⊎◌, ℕ, Bool, true, false, List, [], ◌∷◌, Option, Some, None, slice_get}
use Rattle.ir_forms.specs.declared.runs.ObjNo.{ObjNo}
use Rattle.low_forms.specs.declared.code.Reg.{Reg}
use Rattle.low_forms.specs.declared.code.Instr.{Instr}
use Rattle.low_forms.specs.declared.code.LowFunc.{LowFunc}
use Rattle.source_meaning.specs.Parts.{dims_of}
use Rattle.low_forms.specs.Registers.{type_at}
use Rattle.async_objects.specs.declared.kinds.Val.{Val}
use Rattle.async_objects.specs.declared.kinds.Val.TheVariants.{Number, Buffer, Object}
use Rattle.task_stack.specs.declared.effects.Effect.{Effect}
use Rattle.task_stack.specs.declared.effects.Effect.TheVariants as effect
use Rattle.task_stack.specs.Registers.{held}
use Rattle.task_stack.specs.Numbers.{result_width, operand_width}
use Rattle.task_stack.specs.Frames.{Stack}
use Rattle.task_stack.specs.Local as local
use Rattle.task_stack.specs.Local.{Local}
use Rattle.task_stack.specs.Shared.{moved}
use Rattle.step_core.specs.declared.rows.SharedRow.{SharedRow}
use Rattle.step_core.specs.declared.rows.SharedRow.TheVariants as row
use Rattle.step_core.specs.State.{Plain, with_task, with_buffers, counted, ready}
use Rattle.step_core.specs.Shared as act
use Rattle.step_core.specs.Shared.{Act, Took, Stuck, Takes}
use Rattle.step_core.specs.High as high
use Rattle.step_core.specs.High.{Ref}
use Rattle.code_machines.specs.Objects as objects
use Rattle.code_machines.specs.Objects.{Stands}

-- ---- objects and values

abbrev pub stands_for : Ref → Stands
stands_for (high.Element q j) = objects.Element q j
stands_for (high.Group k) = objects.Group k

-- the object of the first code is what the second's stands for
abbrev pub SameObject : List Stands → List Ref → ObjNo → ObjNo → Type 0
SameObject ks rs o p = (r : Ref) × (slice_get rs p.0 ≡ Some r) × (slice_get ks o.0 ≡ Some (stands_for r))

abbrev pub AlikeVal : List Stands → List Ref → Val → Val → Type 0
AlikeVal ks rs (Number n) (Number m) = n ≡ m
AlikeVal ks rs (Buffer b rank dims) (Buffer c rank' dims') = (b ≡ c) × (rank ≡ rank') × (dims ≡ dims')
AlikeVal ks rs (Object o) (Object p) = SameObject ks rs o p
AlikeVal ks rs _ _ = ⊥

abbrev pub AllAlike : List Stands → List Ref → List Val → List Val → Type 0
AllAlike ks rs [] [] = Unit {0}
AllAlike ks rs [] (w ∷ ws) = ⊥
AllAlike ks rs (v ∷ vs) [] = ⊥
AllAlike ks rs (v ∷ vs) (w ∷ ws) = AlikeVal ks rs v w × AllAlike ks rs vs ws

abbrev pub MaybeAlike : List Stands → List Ref → Option Val → Option Val → Type 0
MaybeAlike ks rs None None = Unit {0}
MaybeAlike ks rs (Some v) (Some w) = AlikeVal ks rs v w
MaybeAlike ks rs _ _ = ⊥

-- the first n registers hold values that are alike; the first code may have more
abbrev pub AlikeRegs : List Stands → List Ref → ℕ → List Val → List Val → Type 0
AlikeRegs ks rs n regs regs' = (r : ℕ) → r < n → AlikeVal ks rs (held regs r) (held regs' r)

abbrev pub AllBelow : ℕ → List Reg → Type 0
AllBelow n [] = Unit {0}
AllBelow n (r ∷ regs) = (r.0 < n) × AllBelow n regs

-- ---- instructions

-- an instruction has the same types in both functions
pub record SameTypes (f g : LowFunc) (i : Instr) : Type 0 where
  pub results : result_width f i ≡ result_width g i
  pub operands : operand_width f i ≡ operand_width g i
  pub dims : dims_of (type_at f i.results 0) ≡ dims_of (type_at g i.results 0)

-- both stacks are behind the instruction, with results that are alike
pub record Moved (ks : List Stands) (rs : List Ref) (i : Instr) (first second after after' : Stack) : Type 0 where
  pub results : List Reg
  pub own : (results ≡ i.results) ⊎ (results ≡ [])
  pub gives : List Val
  pub gives' : List Val
  pub alike : AllAlike ks rs gives gives'
  pub now : after ≡ moved results gives first
  pub now' : after' ≡ moved results gives' second

-- both steps are taken and move their stacks, or neither is
abbrev pub AlikeLocal : List Stands → List Ref → Instr → Stack → Stack → Local → Local → Type 0
AlikeLocal ks rs i first second (local.Done after counts) (local.Done after' counts') = Moved ks rs i first second after after'
AlikeLocal ks rs i first second local.Stuck local.Stuck = Unit {0}
AlikeLocal ks rs i first second _ _ = ⊥

-- it is taken alone, is no call of a coroutine, and saves nothing
abbrev pub stays : Effect → Bool
stays effect.Launches = false
stays effect.Saves = false
stays effect.Shared = false
stays _ = true

-- ---- cells

-- an action of no object and no task
abbrev pub is_plain : Act → Bool
is_plain act.Nothing = true
is_plain (act.Reads b c) = true
is_plain (act.Writes b c) = true
is_plain (act.Allocates b n) = true
is_plain _ = false

abbrev pub is_of_cells : SharedRow → Bool
is_of_cells row.Allocate = true
is_of_cells row.Deallocate = true
is_of_cells row.LoadCell = true
is_of_cells row.StoreCell = true
is_of_cells _ = false

-- both tasks go on behind the instruction, and show the same; the cells of both are the same again
pub record Goes (ks : List Stands) (rs : List Ref) (i : Instr) (s h : Plain) (t : ℕ) (first second : Stack) (took took' : Took Plain) : Type 0 where
  pub results : List Reg
  pub own : (results ≡ i.results) ⊎ (results ≡ [])
  pub gives : List Val
  pub gives' : List Val
  pub alike : AllAlike ks rs gives gives'
  pub buffers : List (List ℕ)
  pub buffers' : List (List ℕ)
  pub same : buffers ≡ buffers'
  pub act : Act
  pub plain : is_plain act ≡ true
  pub now : took ≡ Takes (counted (with_task (with_buffers s buffers) t (Some (ready (moved results gives first))))) [] act
  pub now' : took' ≡ Takes (counted (with_task (with_buffers h buffers') t (Some (ready (moved results gives' second))))) [] act

abbrev pub AlikeTook : List Stands → List Ref → Instr → Plain → Plain → ℕ → Stack → Stack → Took Plain → Took Plain → Type 0
AlikeTook ks rs i s h t first second took took' = Goes ks rs i s h t first second took took' ⊎ ((took ≡ Stuck) × (took' ≡ Stuck))
