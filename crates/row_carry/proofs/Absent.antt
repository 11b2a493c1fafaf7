-- Rows at which code of blocks is stuck.
use Rattle.std.proofs.Common.{◌≡◌, ℕ, true, List, Option, refl, ap, ◌∙◌}
use Rattle.op_table.specs.declared.kind.OpKind.{OpKind}
use Rattle.op_table.specs.declared.kind.OpKind.TheVariants as op
use Rattle.low_forms.specs.declared.code.Instr.{Instr}
use Rattle.low_forms.specs.declared.code.LowFunc.{LowFunc}
use Rattle.low_forms.specs.declared.code.LowKind.{LowKind}
use Rattle.low_forms.specs.declared.code.LowKind.TheVariants as kind
use Rattle.low_forms.specs.declared.code.LowModule.{LowModule}
use Rattle.low_forms.specs.declared.code.Term.{Term}
use Rattle.source_meaning.specs.Values.{maybe}
use Rattle.async_objects.specs.declared.kinds.Val.{Val}
use Rattle.task_stack.specs.declared.effects.Effect.{Effect}
use Rattle.task_stack.specs.declared.effects.Effect.TheVariants as effect
use Rattle.task_stack.specs.Effects.{effect_of, effect_of_kind}
use Rattle.task_stack.specs.Frames.{Stack}
use Rattle.task_stack.specs.Local as local
use Rattle.task_stack.specs.Local.{Standing, standing, operands, inner_step, end_step}
use Rattle.task_stack.specs.Shared.{Next}
use Rattle.step_core.specs.declared.rows.SharedRow.{SharedRow}
use Rattle.step_core.specs.declared.rows.SharedRow.TheVariants as row
use Rattle.step_core.specs.Rows.{row_of_kind}
use Rattle.step_core.specs.Shared.{Stuck}
use Rattle.step_core.specs.High as upper
use Rattle.step_core.specs.High.{High, shared_row_step, shared_kind_step}
use Rattle.coro_lower.specs.Rows.{called, call_kind}
use Rattle.coro_carry.proofs.Inner as inner
use Rattle.coro_carry.proofs.Jumps as ends
use Rattle.coro_carry.proofs.Steps.{never_stuck}
use Rattle.row_carry.specs.Laws.{is_absent_row, is_absent, AbsentFollows, AbsentEndFollows}

row_stuck : (x : SharedRow) (f : LowFunc) (i : Instr) (vs : List Val) (h : High) (t : ℕ) (stack : Stack) → is_absent_row x ≡ true → shared_row_step x f i vs h t stack ≡ Stuck
row_stuck row.Allocate f i vs h t stack is = cc
row_stuck row.Deallocate f i vs h t stack is = cc
row_stuck row.LoadCell f i vs h t stack is = cc
row_stuck row.StoreCell f i vs h t stack is = cc
row_stuck row.Return f i vs h t stack is = cc
row_stuck row.Fail f i vs h t stack is = cc
row_stuck row.CreateGroup f i vs h t stack is = cc
row_stuck row.AddToGroup f i vs h t stack is = cc
row_stuck _ f i vs h t stack is = refl

kind_stuck : (kd : LowKind) (code : LowModule) (f : LowFunc) (i : Instr) (term : Term) (vs : List Val) (h : High) (t : ℕ) (stack : Stack) → is_absent kd ≡ true → shared_kind_step kd code f i term vs h t stack ≡ Stuck
kind_stuck kind.Launch code f i term vs h t stack is = cc
kind_stuck kind.Await code f i term vs h t stack is = cc
kind_stuck (kind.Row x) code f i term vs h t stack is = row_stuck (row_of_kind x) f i vs h t stack is

row_shared : (x : OpKind) → is_absent_row (row_of_kind x) ≡ true → effect_of_kind x ≡ effect.Shared
row_shared op.AioFinish is = refl
row_shared op.AsyncRuntimeCreate is = refl
row_shared op.AsyncRuntimeResume is = refl
row_shared op.AsyncRuntimeAwait is = refl
row_shared op.AsyncRuntimeAwaitAndResume is = refl
row_shared op.AsyncRuntimeIsError is = refl
row_shared op.AsyncRuntimeStore is = refl
row_shared op.AsyncRuntimeLoad is = refl
row_shared op.AsyncRuntimeSetAvailable is = refl
row_shared op.AsyncRuntimeSetError is = refl
row_shared _ is = cc

kind_shared : (kd : LowKind) → is_absent kd ≡ true → effect_of kd ≡ effect.Shared
kind_shared kind.Launch is = cc
kind_shared kind.Await is = cc
kind_shared (kind.Row x) is = row_shared x is

absent_call : (kd : LowKind) → is_absent kd ≡ true → call_kind kd ≡ kd
absent_call kind.Launch is = cc
absent_call kind.Await is = refl
absent_call (kind.Row x) is = refl

pub absent_follows : AbsentFollows
absent_follows code n fl gh args s k h t task task' r a i is next absent =
    let same : called i ≡ i = ap (λ (kd : LowKind). let j : Instr = record i { kind = kd } in j) (absent_call i.kind absent) in
    let stands = inner.high_stands code n fl gh args s k h t task task' r a i is next same in
    absurd (never_stuck code n fl gh args h t r.safe
    (inner.high_by code n fl gh args s k h t task task' r a i is next same local.Shared (ap (λ (x : Effect). inner_step x true code a.func i task'.stack) (kind_shared i.kind absent))
    ∙ ap (λ (o : Option Next). maybe Stuck (λ x. maybe Stuck (λ st. upper.shared_at code x st.rest.term h t task'.stack) (standing code task'.stack.top.current.place)) o) (inner.high_next code n fl gh args s k h t task task' r a i is next same)
    ∙ ap (λ (o : Option Standing). maybe Stuck (λ st. upper.shared_at code (record { func = a.func; instr = i }) st.rest.term h t task'.stack) o) stands
    ∙ kind_stuck i.kind code a.func i a.rest.term (operands task'.stack i) h t task'.stack absent))

pub absent_end_follows : AbsentEndFollows
absent_end_follows code n fl gh args s k h t task task' r a last stays absent =
    absurd (never_stuck code n fl gh args h t r.safe
    (ends.high_by code n fl gh args s k h t task task' r a last stays local.Shared (ap (λ (x : Effect). end_step x true code a.func a.rest.term task'.stack) (kind_shared a.rest.term.instr.kind absent))
    ∙ ap (λ (o : Option Next). maybe Stuck (λ x. maybe Stuck (λ st. upper.shared_at code x st.rest.term h t task'.stack) (standing code task'.stack.top.current.place)) o) (ends.high_next code n fl gh args s k h t task task' r a last stays)
    ∙ ap (λ (o : Option Standing). maybe Stuck (λ st. upper.shared_at code (record { func = a.func; instr = a.rest.term.instr }) st.rest.term h t task'.stack) o) (ends.high_stands code n fl gh args s k h t task task' r a last stays)
    ∙ kind_stuck a.rest.term.instr.kind code a.func a.rest.term.instr a.rest.term (operands task'.stack a.rest.term.instr) h t task'.stack absent))
