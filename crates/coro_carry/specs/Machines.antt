-- The two machines that the pass of coroutines relates: the code that it makes, before its registers are numbered and counts of references
-- aside; and code with the high rows, stuck where an await would give a register no value.
use Rattle.std.specs.Prelude.{ℕ, zero, suc, nat_lt, cond, Bool, true, false, List, [], ◌∷◌, length, slice_get}
use Rattle.ir_forms.specs.declared.args.ArgValue.{ArgValue}
use Rattle.ir_forms.specs.declared.runs.FuncNo.{FuncNo}
use Rattle.low_forms.specs.declared.code.Block.{Block}
use Rattle.low_forms.specs.declared.code.Instr.{Instr}
use Rattle.low_forms.specs.declared.code.LowFunc.{LowFunc}
use Rattle.low_forms.specs.declared.code.LowKind.{LowKind}
use Rattle.low_forms.specs.declared.code.LowKind.TheVariants.{Await}
use Rattle.low_forms.specs.declared.code.LowModule.{LowModule}
use Rattle.low_forms.specs.declared.code.Reg.{Reg}
use Rattle.low_forms.specs.declared.code.Target.{Target}
use Rattle.low_forms.specs.declared.code.Term.{Term}
use Rattle.low_forms.specs.Owns.{params_of}
use Rattle.low_forms.specs.Registers.{block_at}
use Rattle.machines.specs.Machine.{Machine}
use Rattle.machines.specs.Machine as machine
use Rattle.machines.specs.Reading.{Read}
use Rattle.machines.specs.Strict.{Strictly}
use Rattle.source_meaning.specs.declared.ends.SourceEnd.{SourceEnd}
use Rattle.source_meaning.specs.Values.{maybe}
use Rattle.async_objects.specs.declared.kinds.Val.{Val}
use Rattle.async_objects.specs.declared.kinds.Val.TheVariants.{Object}
use Rattle.task_stack.specs.Registers.{value}
use Rattle.task_stack.specs.Frames.{Stack}
use Rattle.task_stack.specs.Local.{Standing, standing, operands}
use Rattle.step_core.specs.State.{Plain, task_at, start_in}
use Rattle.step_core.specs.Shared.{Took, Stuck, Idle, Stopped, Takes}
use Rattle.step_core.specs.Plain.{plain_step}
use Rattle.step_core.specs.High as the
use Rattle.step_core.specs.High.{High, Outcome, Ref, outcome}
use Rattle.code_machines.specs.Numbered.{Numbered}
use Rattle.code_machines.specs.HighCode.{HasEnded, high}
use Rattle.code_machines.specs.CoreCode.{ByObject, core_shown}
use Rattle.code_machines.specs.Objects.{objects}

-- ---- lowered code, counts of references aside

abbrev pub plain_took : LowModule → Plain → ℕ → Took Plain → machine.Took Plain ByObject
plain_took code s t Stuck = machine.Stuck
plain_took code s t Idle = machine.Idle
plain_took code s t (Stopped l) = machine.Stopped
plain_took code s t (Takes after wakes act) = machine.Takes after (core_shown code s after t act)

abbrev pub plain_lowered : LowModule → FuncNo → LowFunc → List ArgValue → Machine ByObject SourceEnd
plain_lowered code n f args = record {
  State = Plain;
  Who = ℕ;
  start = start_in n f args;
  step = λ s t. plain_took code s t (plain_step code s t);
  Ended = λ s e. HasEnded s e;
}

-- with objects as what they stand for
abbrev pub numbered_plain : LowModule → FuncNo → LowFunc → List ArgValue → Machine Numbered SourceEnd
numbered_plain code n f args = Read objects (plain_lowered code n f args)

-- ---- code with the high rows, where awaits give values

abbrev pub holds_some : List Reg → Bool
holds_some [] = false
holds_some (r ∷ rs) = true

-- the block in which an await goes on takes a value
abbrev pub takes_value : LowFunc → Term → Bool
takes_value f t = maybe false (λ target. holds_some (params_of (block_at f target.block))) (slice_get t.targets 0)

-- there is one at this place
abbrev pub is_given : List Val → ℕ → Bool
is_given vals zero = false
is_given vals (suc j) = nat_lt j (length vals)

abbrev pub outcome_gives : ℕ → Outcome → Bool
outcome_gives j (the.Gave vals) = is_given vals j
outcome_gives j the.Failed = true

abbrev pub ref_gives : High → Ref → Bool
ref_gives h (the.Element q j) = maybe true (outcome_gives j) (outcome h q)
ref_gives h (the.Group k) = false

abbrev pub val_gives : High → Val → Bool
val_gives h (Object o) = maybe true (ref_gives h) (slice_get h.refs o.0)
val_gives h _ = true

abbrev pub await_gives : LowKind → LowFunc → Term → High → Stack → Bool
await_gives Await f t h stack = cond (takes_value f t) (val_gives h (value (operands stack t.instr) 0)) true
await_gives _ f t h stack = true

abbrev pub gives_in : List Instr → LowFunc → Term → High → Stack → Bool
gives_in [] f t h stack = await_gives t.instr.kind f t h stack
gives_in (i ∷ instrs) f t h stack = true

abbrev pub gives_at : LowModule → High → Stack → Bool
gives_at code h stack = maybe true (λ st. gives_in st.rest.instrs st.func st.rest.term h stack) (standing code stack.top.current.place)

-- where the task's next instruction is an await whose block takes a value, there is one
abbrev pub gives : LowModule → High → ℕ → Bool
gives code h t = maybe true (λ task. gives_at code h task.stack) (task_at h.plain t)

abbrev pub strict_high : LowModule → FuncNo → LowFunc → List ArgValue → Machine Numbered SourceEnd
strict_high code n f args = Strictly (high code n f args) (gives code)
