-- An await of a plain function.
use Rattle.std.proofs.Common.{inl, inr, ◌≡◌, ◌≢◌, ◌≤◌, ◌<◌, ℕ, ◌+◌, ◌*◌, ◌==◌, ◌&&◌, cond, Bool, true, false, List, [], ◌∷◌, ◌++◌, map, length, Option, Some, None, refl, sym, ap, ◌∙◌, subst, arith}
use Rattle.std.specs.Prelude.{slice_get}
use Rattle.std.proofs.lemmas.Option.{slice_get_within}
use Rattle.op_table.specs.declared.kind.OpKind.TheVariants as op
use Rattle.ir_forms.specs.declared.args.ArgValue.{ArgValue}
use Rattle.ir_forms.specs.declared.runs.FuncNo.{FuncNo}
use Rattle.ir_forms.specs.declared.runs.ObjNo.{ObjNo}
use Rattle.low_forms.specs.declared.code.Block.{Block}
use Rattle.low_forms.specs.declared.code.Instr.{Instr}
use Rattle.low_forms.specs.declared.code.LowFunc.{LowFunc}
use Rattle.low_forms.specs.declared.code.LowKind.{LowKind}
use Rattle.low_forms.specs.declared.code.LowKind.TheVariants as kind
use Rattle.low_forms.specs.declared.code.LowModule.{LowModule}
use Rattle.low_forms.specs.declared.code.Reg.{Reg}
use Rattle.low_forms.specs.declared.code.Target.{Target}
use Rattle.low_forms.specs.declared.code.Term.{Term}
use Rattle.low_forms.specs.declared.row.LowRow.{LowRow}
use Rattle.std.proofs.lemmas.Bool.Decides.{eqb_tells}
use Rattle.low_forms.specs.Fits.{fill, attr_fits, operands_fit, results_fit, instr_fits, targets_fit, term_fits, reg_fits}
use Rattle.low_forms.specs.declared.row.Slot.TheVariants as slot
use Rattle.low_forms.specs.Places.{Remaining, remaining_of}
use Rattle.low_forms.specs.Rows.{row_of}
use Rattle.low_forms.specs.WellFormed.{IsWellFormed}
use Rattle.low_forms.proofs.Words.{and_left, and_right}
use Rattle.source_meaning.specs.Values.{maybe}
use Rattle.async_objects.specs.Objects.{is_done, object_at, awaited}
use Rattle.async_objects.specs.declared.kinds.Val.{Val}
use Rattle.async_objects.specs.declared.kinds.Val.TheVariants as val
use Rattle.task_stack.specs.declared.effects.Effect.{Effect}
use Rattle.task_stack.specs.declared.frames.Activation.{Activation}
use Rattle.task_stack.specs.declared.frames.Saved.{Saved}
use Rattle.task_stack.specs.declared.frames.Saved.TheVariants as saved_as
use Rattle.task_stack.specs.Effects.{effect_of}
use Rattle.task_stack.specs.Registers.{held, bind, value}
use Rattle.task_stack.specs.Frames.{Stack, Way, went, saving, settled}
use Rattle.task_stack.specs.Local as local
use Rattle.task_stack.specs.Local.{Local, Standing, standing, operands, with_top, goes, side, target_way, inner_step, end_step, step_in, free_step}
use Rattle.task_stack.specs.Shared.{Next as Ahead, next_of, first_of, kept, kept_in, becomes, passed}
use Rattle.step_core.specs.declared.tasks.Task.{Task}
use Rattle.step_core.specs.State.{Plain, ready}
use Rattle.step_core.specs.Rows.{shared_row}
use Rattle.step_core.specs.Shared as core
use Rattle.step_core.specs.Shared.{Took, Stuck, Takes, on_object, shared_step}
use Rattle.step_core.specs.Plain as plain
use Rattle.step_core.specs.Plain.{plain_step}
use Rattle.step_core.specs.High as upper
use Rattle.step_core.specs.High.{High, high_step, Ref}
use Rattle.code_machines.specs.Objects.{Objects}
use Rattle.coro_lower.specs.declared.label.End.{End}
use Rattle.coro_lower.specs.declared.label.End.TheVariants as end
use Rattle.coro_lower.specs.declared.label.Label.TheVariants.{Body, Next, Cleanup, Suspended}
use Rattle.coro_lower.specs.Layout.{end_of, plain_end, place, target_at}
use Rattle.coro_lower.specs.Registers.{saved, made, handle}
use Rattle.coro_lower.specs.Rows.{row, called}
use Rattle.coro_lower.specs.Shape as shape
use Rattle.coro_lower.specs.Shape.{suspend, before_end, term_of, next, lowered}
use Rattle.coro_laws.specs.Half.{IsHalfLowered}
use Rattle.coro_laws.proofs.Awaiting.{AwaitsAt, term_at, waits, waits_await, edge_inside, go_inside}
use Rattle.coro_laws.proofs.Making.{is_task_end, no_task_end}
use Rattle.plain_carry.specs.Alike.{AlikeVal, AllBelow, SameObject}
use Rattle.coro_carry.specs.Relation.{View, view, Data, Above, Below, SameRow, remains, AllWait, AtRow, Awaits, WaitsFor, Saves, Suspends, Tests, Match, saves, suspends, tests, Agree, top}
use Rattle.coro_carry.specs.Laws.{AgreeAt, Running, Followed, WaitFollows}
use Rattle.coro_carry.proofs.Lists.{all_below, term_of_block, in_code_on, beyond}
use Rattle.coro_carry.proofs.Frames.{data_put, Within, last_in}
use Rattle.coro_carry.proofs.Landing.{bind_none, block_no, way_to, next_stands}
use Rattle.coro_carry.proofs.Steps.{low, above_stands, below_stands, low_steps, low_parked, high_steps, moves_alone, moves_waiting, never_stuck, silent, idle}
use Rattle.coro_carry.proofs.Waiting.{awaited_faces, Same, same_there, waits_now}
use Rattle.coro_carry.proofs.Saving as await
use Rattle.coro_carry.proofs.Saving.{Names, names}

-- ---- an await of a plain function

module _ (code : LowModule) (n : FuncNo) (fl gh : LowFunc) (args : List ArgValue) (s : Plain) (k : Objects) (h : High) (t : ℕ) (task task' : Task) (r : Running code n fl gh args s k h t task task')
    (a : AtRow code (view s k h) t task task') (last : a.rest.instrs ≡ []) (ends : end_of a.func a.block ≡ end.Waits) where
  abbrev f : LowFunc
  f = a.func

  abbrev b : ℕ
  b = (top task').place.block.0

  abbrev q : Reg
  q = await.awaited code n fl gh args s k h t task task' r a last end.Waits ends refl

  abbrev term' : Term
  term' = a.rest.term

  abbrev waits_row : Instr
  waits_row = row op.AsyncRuntimeAwait (q ∷ []) []

  abbrev test : Instr
  test = shape.is_error f b (q ∷ [])

  abbrev splits : Term
  splits = shape.branch f b term'.targets

  abbrev blocks_at : Option Block
  blocks_at = slice_get (lowered f).blocks (top task).place.block.0

  here : Below (top task).place (top task').place f (record { instrs = waits_row ∷ test ∷ []; term = splits })
  here = await.below code n fl gh args s k h t task task' r a last end.Waits ends refl

  at_it : Awaits code (view s k h) t task task' (top task).regs
  at_it = await.at_await code n fl gh args s k h t task task' r a last end.Waits ends refl (top task).regs a.both task refl refl

  abbrev above' : Above code (top task').place f a.block (record { instrs = []; term = term' })
  above' = await.above code n fl gh args s k h t task task' r a last end.Waits ends refl

  abbrev one' : term'.instr.operands ≡ q ∷ []
  one' = await.operands_are code n fl gh args s k h t task task' r a last end.Waits ends refl

  kind' : term'.instr.kind ≡ kind.Await
  kind' = ap (λ (x : Term). x.instr.kind) (await.its_term code n fl gh args s k h t task task' r a last end.Waits ends refl) ∙ await.its_kind code n fl gh args s k h t task task' r a last end.Waits ends refl

  within : Within f term'.instr
  within =
      subst (λ (x : Term). Within f x.instr) (sym (await.its_term code n fl gh args s k h t task task' r a last end.Waits ends refl))
      (last_in code f (await.well code n fl gh args s k h t task task' r a last end.Waits ends refl) (await.half code n fl gh args s k h t task task' r a last end.Waits ends refl) b a.block above'.block)

  few : AllBelow (length f.regs) (q ∷ [])
  few = subst (λ (xs : List Reg). AllBelow (length f.regs) xs) one' within.operands

  named_here : Names code n fl gh args s k h t task task' r f a.block term' above' kind' q one' (held (top task).regs q.0)
  named_here = names code n fl gh args s k h t task task' r f a.block term' above' kind' q one' (held (top task).regs q.0) (a.both.own q.0 few.0)

  abbrev object : ObjNo
  object = named_here.object

  abbrev here' : Remaining
  here' = record { instrs = waits_row ∷ test ∷ []; term = splits }

  stands : standing (low code) (top task).place ≡ Some (record { func = lowered f; rest = here' })
  stands = below_stands code (top task).place (top task').place f here' a.row.above.func here

  next_is : next_of (low code) task.stack ≡ Some (record { func = lowered f; instr = waits_row })
  next_is = ap (λ (o : Option Standing). maybe None (λ st. let x : Ahead = record { func = st.func; instr = first_of st.rest.instrs st.rest.term } in Some x) o) stands

  steps : plain_step (low code) s t ≡ core.awaits s t (passed task.stack) object
  steps =
      low_steps code s t task r.now a.ready
      ∙ ap (λ (o : Option Standing). plain.by_local (maybe local.Stuck (λ st. step_in true (low code) st.func st.rest.instrs st.rest.term task.stack) o) (low code) s t task.stack) stands
      ∙ ap (λ (o : Option Ahead). maybe Stuck (λ x. shared_step (shared_row x.instr.kind) x.func x.instr (operands task.stack x.instr) s t task.stack) o) next_is
      ∙ ap (λ (x : Val). on_object x (core.awaits s t (passed task.stack))) named_here.holds

  abbrev after : Task
  after = record { stack = passed task.stack; parked = cond (is_done (object_at s.objects object)) None (Some object) }

  is_tested : Tests code (view s k h) t after task'
  is_tested = record {
    at = record {
      func = f;
      block = a.block;
      term = term';
      awaited = q;
      above = above';
      kind = kind';
      one = one';
      both = a.both;
      under = record { root = a.under.root; frames = a.under.frames };
    };
    saved = a.saved;
    below = record { func = here.func; here = in_code_on blocks_at (top task).place.at waits_row (test ∷ []) splits here.here };
    waits = waits_now code s k h object named_here.object' (held (top task).regs q.0) named_here.holds named_here.same;
  }

  pub wait_goes : Followed code n fl gh args s k h t
  wait_goes =
      silent code n fl gh args s _ k h t [] steps
      (moves_waiting code s k h t task task' after (awaited object (record { 0 = t }) s.objects) (awaited_faces object (record { 0 = t }) s.objects) r.agree r.now r.now' (tests is_tested))

pub wait_follows : WaitFollows
wait_follows code n f g args s k h t task task' r a last ends = wait_goes code n f g args s k h t task task' r a last ends
