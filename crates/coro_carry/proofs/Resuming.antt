-- The working frame becomes the copy that it kept.
use Rattle.std.proofs.Common.{inl, inr, ◌≡◌, ◌≢◌, ◌≤◌, ◌<◌, ℕ, ◌+◌, ◌*◌, ◌==◌, ◌&&◌, cond, Bool, true, false, List, [], ◌∷◌, ◌++◌, map, length, Option, Some, None, refl, sym, ap, ◌∙◌, subst, arith}
use Rattle.std.specs.Prelude.{slice_get}
use Rattle.std.proofs.lemmas.Option.{slice_get_within}
use Rattle.op_table.specs.declared.kind.OpKind.TheVariants as op
use Rattle.ir_forms.specs.declared.args.ArgValue.{ArgValue}
use Rattle.ir_forms.specs.declared.runs.FuncNo.{FuncNo}
use Rattle.ir_forms.specs.declared.runs.ObjNo.{ObjNo}
use Rattle.low_forms.specs.declared.code.Block.{Block}
use Rattle.low_forms.specs.declared.code.Instr.{Instr}
use Rattle.low_forms.specs.declared.code.LowFunc.{LowFunc}
use Rattle.low_forms.specs.declared.code.LowKind.{LowKind}
use Rattle.low_forms.specs.declared.code.LowKind.TheVariants as kind
use Rattle.low_forms.specs.declared.code.LowModule.{LowModule}
use Rattle.low_forms.specs.declared.code.Reg.{Reg}
use Rattle.low_forms.specs.declared.code.Target.{Target}
use Rattle.low_forms.specs.declared.code.Term.{Term}
use Rattle.low_forms.specs.declared.row.LowRow.{LowRow}
use Rattle.std.proofs.lemmas.Bool.Decides.{eqb_tells}
use Rattle.low_forms.specs.Fits.{fill, attr_fits, operands_fit, results_fit, instr_fits, targets_fit, term_fits, reg_fits}
use Rattle.low_forms.specs.declared.row.Slot.TheVariants as slot
use Rattle.low_forms.specs.Places.{Remaining, remaining_of}
use Rattle.low_forms.specs.Rows.{row_of}
use Rattle.low_forms.specs.WellFormed.{IsWellFormed}
use Rattle.low_forms.proofs.Words.{and_left, and_right}
use Rattle.source_meaning.specs.Values.{maybe}
use Rattle.async_objects.specs.Objects.{is_done, object_at, awaited}
use Rattle.async_objects.specs.declared.kinds.Val.{Val}
use Rattle.async_objects.specs.declared.kinds.Val.TheVariants as val
use Rattle.task_stack.specs.declared.effects.Effect.{Effect}
use Rattle.task_stack.specs.declared.frames.Activation.{Activation}
use Rattle.task_stack.specs.declared.frames.Saved.{Saved}
use Rattle.task_stack.specs.declared.frames.Saved.TheVariants as saved_as
use Rattle.task_stack.specs.Effects.{effect_of}
use Rattle.task_stack.specs.Registers.{held, bind, value}
use Rattle.task_stack.specs.Frames.{Stack, Way, went, saving, settled}
use Rattle.task_stack.specs.Local as local
use Rattle.task_stack.specs.Local.{Local, Standing, standing, operands, with_top, goes, side, target_way, inner_step, end_step, step_in, free_step}
use Rattle.task_stack.specs.Shared.{Next as Ahead, next_of, first_of, kept, kept_in, becomes, passed}
use Rattle.step_core.specs.declared.tasks.Task.{Task}
use Rattle.step_core.specs.State.{Plain, ready}
use Rattle.step_core.specs.Rows.{shared_row}
use Rattle.step_core.specs.Shared as core
use Rattle.step_core.specs.Shared.{Took, Stuck, Takes, on_object, shared_step}
use Rattle.step_core.specs.Plain as plain
use Rattle.step_core.specs.Plain.{plain_step}
use Rattle.step_core.specs.High as upper
use Rattle.step_core.specs.High.{High, high_step, Ref}
use Rattle.code_machines.specs.Objects.{Objects}
use Rattle.coro_lower.specs.declared.label.End.{End}
use Rattle.coro_lower.specs.declared.label.End.TheVariants as end
use Rattle.coro_lower.specs.declared.label.Label.TheVariants.{Body, Next, Cleanup, Suspended}
use Rattle.coro_lower.specs.Layout.{end_of, plain_end, place, target_at}
use Rattle.coro_lower.specs.Registers.{saved, made, handle}
use Rattle.coro_lower.specs.Rows.{row, called}
use Rattle.coro_lower.specs.Shape as shape
use Rattle.coro_lower.specs.Shape.{suspend, before_end, term_of, next, lowered}
use Rattle.coro_laws.specs.Half.{IsHalfLowered}
use Rattle.coro_laws.proofs.Awaiting.{AwaitsAt, term_at, waits, waits_await, edge_inside, go_inside}
use Rattle.coro_laws.proofs.Making.{is_task_end, no_task_end}
use Rattle.plain_carry.specs.Alike.{AlikeVal, AllBelow, SameObject}
use Rattle.coro_carry.specs.Relation.{View, view, Data, Above, Below, SameRow, remains, AllWait, AtRow, Awaits, WaitsFor, Saves, Suspends, Tests, Match, saves, suspends, tests, Agree, top}
use Rattle.coro_carry.specs.Laws.{AgreeAt, Running, Followed, ResumeFollows}
use Rattle.coro_carry.proofs.Lists.{all_below, term_of_block, in_code_on, beyond}
use Rattle.coro_carry.proofs.Frames.{data_put, Within, last_in}
use Rattle.coro_carry.proofs.Landing.{bind_none, block_no, way_to, next_stands}
use Rattle.coro_carry.proofs.Steps.{low, above_stands, below_stands, low_steps, low_parked, high_steps, moves_alone, moves_waiting, never_stuck, silent, idle}
use Rattle.coro_carry.proofs.Waiting.{awaited_faces, Same, same_there, waits_now}
use Rattle.coro_carry.proofs.Saving as await
use Rattle.coro_carry.proofs.Saving.{Names, names}
use Rattle.coro_carry.proofs.Standing.{its_term, its_kind, well, half, kind_is, named}

-- ---- the frame becomes the copy

module _ (code : LowModule) (n : FuncNo) (fl gh : LowFunc) (args : List ArgValue) (s : Plain) (k : Objects) (h : High) (t : ℕ) (task task' : Task) (r : Running code n fl gh args s k h t task task')
    (m : Saves code (view s k h) t task task') where
  abbrev f : LowFunc
  f = m.at.func

  abbrev b : ℕ
  b = (top task').place.block.0

  abbrev q : Reg
  q = m.at.awaited

  abbrev resume : Instr
  resume = row op.AsyncRuntimeAwaitAndResume (q ∷ handle f ∷ []) []

  abbrev here : Remaining
  here = record { instrs = resume ∷ []; term = suspend f (saved f b) (Next b) }

  awaits_here : waits (end_of f m.at.block) ≡ true
  awaits_here = ap waits m.ends

  named_here : Names code n fl gh args s k h t task task' r f m.at.block m.at.term m.at.above (kind_is code n fl gh args s k h t task task' r (top task).regs m.at awaits_here) q m.at.one (held (top task).regs q.0)
  named_here = named code n fl gh args s k h t task task' r (top task).regs m.at awaits_here

  abbrev object : ObjNo
  object = named_here.object

  stands : standing (low code) (top task).place ≡ Some (record { func = lowered f; rest = here })
  stands = below_stands code (top task).place (top task').place f here m.at.above.func m.below

  next_is : next_of (low code) task.stack ≡ Some (record { func = lowered f; instr = resume })
  next_is = ap (λ (o : Option Standing). maybe None (λ st. let x : Ahead = record { func = st.func; instr = first_of st.rest.instrs st.rest.term } in Some x) o) stands

  steps : plain_step (low code) s t ≡ core.awaits s t (becomes m.copy task.stack) object
  steps =
      low_steps code s t task r.now m.ready
      ∙ ap (λ (o : Option Standing). plain.by_local (maybe local.Stuck (λ st. step_in true (low code) st.func st.rest.instrs st.rest.term task.stack) o) (low code) s t task.stack) stands
      ∙ ap (λ (o : Option Ahead). maybe Stuck (λ x. shared_step (shared_row x.instr.kind) x.func x.instr (operands task.stack x.instr) s t task.stack) o) next_is
      ∙ ap (λ (x : Saved). maybe Stuck (λ copy. on_object (held (top task).regs q.0) (core.awaits s t (becomes copy task.stack))) (kept_in x)) m.kept
      ∙ ap (λ (x : Val). on_object x (core.awaits s t (becomes m.copy task.stack))) named_here.holds

  abbrev after : Task
  after = record { stack = becomes m.copy task.stack; parked = cond (is_done (object_at s.objects object)) None (Some object) }

  is_suspended : Suspends code (view s k h) t after task'
  is_suspended = record {
    copied = refl;
    at = record {
      func = f;
      block = m.at.block;
      term = m.at.term;
      awaited = q;
      above = m.at.above;
      kind = m.at.kind;
      one = m.at.one;
      both = subst (λ (x : List Val). Data (view s k h) t f x (top task').regs) (sym m.same) m.at.both;
      under = record { root = m.at.under.root; frames = m.at.under.frames };
    };
    ends = m.ends;
    below = m.behind;
    waits = waits_now code s k h object named_here.object' (held m.copy.regs q.0) (ap (λ (x : List Val). held x q.0) m.same ∙ named_here.holds) named_here.same;
  }

  pub resume_goes : Followed code n fl gh args s k h t
  resume_goes =
      silent code n fl gh args s _ k h t [] steps
      (moves_waiting code s k h t task task' after (awaited object (record { 0 = t }) s.objects) (awaited_faces object (record { 0 = t }) s.objects) r.agree r.now r.now' (suspends is_suspended))

pub resume_follows : ResumeFollows
resume_follows code n f g args s k h t task task' r m = resume_goes code n f g args s k h t task task' r m
