-- Ends and launches in the machine of code with the high rows.
use Rattle.std.proofs.Common.{◌≡◌, ◌^◌, ◌%◌, ℕ, cond, Bool, true, false, List, [], ◌∷◌, Some, refl, ap, ap₂, ◌∙◌}
use Rattle.std.proofs.Math.Nat.{mod-eq_of_lt}
use Rattle.op_table.specs.declared.kind.OpKind.TheVariants as op
use Rattle.low_forms.specs.declared.code.LowKind.TheVariants.{Row, Launch}
use Rattle.low_forms.specs.declared.code.LowModule.{LowModule}
use Rattle.low_forms.specs.declared.code.Term.{Term}
use Rattle.source_meaning.specs.Values.{maybe}
use Rattle.async_objects.specs.declared.kinds.Val.{Val}
use Rattle.async_objects.specs.declared.kinds.Val.TheVariants as val
use Rattle.task_stack.specs.Frames.{Stack}
use Rattle.task_stack.specs.Local as local
use Rattle.task_stack.specs.Local.{Local, free_step, operands, leaves}
use Rattle.task_stack.specs.Registers.{held, number_in, values_at}
use Rattle.task_stack.specs.Shared as stack
use Rattle.task_stack.specs.Shared.{next_of}
use Rattle.step_core.specs.declared.ends.RootEnd.TheVariants as end
use Rattle.step_core.specs.declared.rows.SharedRow.TheVariants as row
use Rattle.step_core.specs.declared.tasks.Task.{Task}
use Rattle.step_core.specs.Shared as core
use Rattle.step_core.specs.Shared.{Stuck, Idle, outs}
use Rattle.step_core.specs.High.{High, lifted, launches, launch_of, last_ends, stuck_at, by_local, high_step}
use Rattle.scf_blocks.specs.Code.{return, fail}
use Rattle.block_carry.specs.Taken.{HasTask, LaunchesTaken, GaveTaken, FailedTaken, RootGaveTaken, RootFailedTaken}
use Rattle.block_carry.proofs.Moves.{free_is, next_is, ahead}
use Rattle.block_carry.proofs.Taking.{kind_taken}

pub launches_taken : LaunchesTaken
launches_taken p code k h t s number child r xs u has asks =
    let a = asks.asks in
    let one = kind_taken code h t s asks.f asks.i Launch has asks.shared asks.is a.0 in
    (a.2, a.3, a.6, one.1 ∙ ap (λ at_ref. launches code at_ref asks.i (operands s asks.i) h t s) a.4 ∙ ap (maybe Stuck (λ g. launch_of a.2 g asks.i (operands s asks.i) h t s)) a.5)

-- what a stack does at the end of its last frame
pub at_last : (fails : Bool) (code : LowModule) (vs : List Val) (s : Stack) (root : Bool) → s.below ≡ [] → s.is_root ≡ root → leaves fails code vs s.below s ≡ cond root local.Shared local.Stuck
at_last fails code vs s root last is = ap (λ bl. leaves fails code vs bl s) last ∙ ap (λ z. cond z local.Shared local.Stuck) is

stuck_taken : (code : LowModule) (h : High) (t : ℕ) (s : Stack) (n : stack.Next) → HasTask h t s → free_step code s ≡ local.Stuck → next_of code s ≡ Some n → high_step code h t ≡ stuck_at n h t s
stuck_taken code h t s n has is next =
    ap (maybe Idle (λ (task : Task). by_local (free_step code task.stack) code h t task.stack)) has
    ∙ ap (λ l. by_local l code h t s) is ∙ ap (maybe Stuck (λ (n : stack.Next). stuck_at n h t s)) next

pub gave_taken : GaveTaken
gave_taken p code k h t s vs has is e =
    let ws : List Val = values_at s.top.current.regs e.ends.0 in
    let tm : Term = return e.ends.0 in (
      ws,
      e.ends.2,
      stuck_taken code h t s (ahead code e.f tm.instr) has (free_is code s e.f [] tm e.is e.ends.1 ∙ at_last false code ws s false e.last is) (next_is code s e.f [] tm e.is e.ends.1)
          ∙ ap₂ (λ bl z. last_ends row.Return ws bl z h t) e.last is,
    )

pub failed_taken : FailedTaken
failed_taken p code k h t s number has is e =
    let tm : Term = fail e.ends.0 in
    let v : Val = val.Number (number_in (held s.top.current.regs e.ends.0.0)) in
    stuck_taken code h t s (ahead code e.f tm.instr) has (free_is code s e.f [] tm e.is e.ends.1 ∙ at_last true code (v ∷ []) s false e.last is) (next_is code s e.f [] tm e.is e.ends.1)
    ∙ ap₂ (λ bl z. last_ends row.Fail (held s.top.current.regs e.ends.0.0 ∷ []) bl z h t) e.last is

pub root_gave_taken : RootGaveTaken
root_gave_taken p code k h t s vs has is e =
    let ws : List Val = values_at s.top.current.regs e.ends.0 in
    let tm : Term = return e.ends.0 in
    let one = kind_taken code h t s e.f tm.instr (Row op.FuncReturn) has (free_is code s e.f [] tm e.is e.ends.1 ∙ at_last false code ws s true e.last is) (next_is code s e.f [] tm e.is e.ends.1) refl in
    (ws, e.ends.2, one.1 ∙ ap₂ (λ bl z. lifted h (core.root_ends h.plain t bl z (end.Returned (outs e.f.results ws)))) e.last is)

pub root_failed_taken : RootFailedTaken
root_failed_taken p code k h t s number has is e =
    let tm : Term = fail e.ends.0 in
    let v : Val = val.Number (number_in (held s.top.current.regs e.ends.0.0)) in
    let one = kind_taken code h t s e.f tm.instr (Row op.AioFail) has (free_is code s e.f [] tm e.is e.ends.1 ∙ at_last true code (v ∷ []) s true e.last is) (next_is code s e.f [] tm e.is e.ends.1) refl in
    one.1 ∙ ap₂ (λ bl z. lifted h (core.root_ends h.plain t bl z (end.FailedAt (number_in (held s.top.current.regs e.ends.0.0) % 2 ^ 32)))) e.last is
    ∙ ap (λ n. lifted h (core.root_ends h.plain t [] true (end.FailedAt (n % 2 ^ 32)))) e.ends.2 ∙ ap (λ n. lifted h (core.root_ends h.plain t [] true (end.FailedAt n))) (mod-eq_of_lt e.ends.3)
