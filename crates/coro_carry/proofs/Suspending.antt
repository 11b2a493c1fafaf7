-- A suspended task goes on at the test.
use Rattle.std.proofs.Common.{inl, inr, ◌≡◌, ◌≢◌, ◌≤◌, ◌<◌, ℕ, ◌+◌, ◌*◌, ◌==◌, ◌&&◌, cond, Bool, true, false, List, [], ◌∷◌, ◌++◌, map, length, Option, Some, None, refl, sym, ap, ◌∙◌, subst, arith}
use Rattle.std.specs.Prelude.{slice_get}
use Rattle.std.proofs.lemmas.Option.{slice_get_within}
use Rattle.op_table.specs.declared.kind.OpKind.TheVariants as op
use Rattle.ir_forms.specs.declared.args.ArgValue.{ArgValue}
use Rattle.ir_forms.specs.declared.runs.FuncNo.{FuncNo}
use Rattle.ir_forms.specs.declared.runs.ObjNo.{ObjNo}
use Rattle.low_forms.specs.declared.code.Block.{Block}
use Rattle.low_forms.specs.declared.code.Instr.{Instr}
use Rattle.low_forms.specs.declared.code.LowFunc.{LowFunc}
use Rattle.low_forms.specs.declared.code.LowKind.{LowKind}
use Rattle.low_forms.specs.declared.code.LowKind.TheVariants as kind
use Rattle.low_forms.specs.declared.code.LowModule.{LowModule}
use Rattle.low_forms.specs.declared.code.Reg.{Reg}
use Rattle.low_forms.specs.declared.code.Target.{Target}
use Rattle.low_forms.specs.declared.code.Term.{Term}
use Rattle.low_forms.specs.declared.row.LowRow.{LowRow}
use Rattle.std.proofs.lemmas.Bool.Decides.{eqb_tells}
use Rattle.low_forms.specs.Fits.{fill, attr_fits, operands_fit, results_fit, instr_fits, targets_fit, term_fits, reg_fits}
use Rattle.low_forms.specs.declared.row.Slot.TheVariants as slot
use Rattle.low_forms.specs.Places.{Remaining, remaining_of}
use Rattle.low_forms.specs.Rows.{row_of}
use Rattle.low_forms.specs.WellFormed.{IsWellFormed}
use Rattle.low_forms.proofs.Words.{and_left, and_right}
use Rattle.source_meaning.specs.Values.{maybe}
use Rattle.async_objects.specs.Objects.{is_done, object_at, awaited}
use Rattle.async_objects.specs.declared.kinds.Val.{Val}
use Rattle.async_objects.specs.declared.kinds.Val.TheVariants as val
use Rattle.task_stack.specs.declared.effects.Effect.{Effect}
use Rattle.task_stack.specs.declared.frames.Activation.{Activation}
use Rattle.task_stack.specs.declared.frames.Saved.{Saved}
use Rattle.task_stack.specs.declared.frames.Saved.TheVariants as saved_as
use Rattle.task_stack.specs.Effects.{effect_of}
use Rattle.task_stack.specs.Registers.{held, bind, value}
use Rattle.task_stack.specs.Frames.{Stack, Way, went, saving, settled}
use Rattle.task_stack.specs.Local as local
use Rattle.task_stack.specs.Local.{Local, Standing, standing, operands, with_top, goes, side, target_way, inner_step, end_step, step_in, free_step}
use Rattle.task_stack.specs.Shared.{Next as Ahead, next_of, first_of, kept, kept_in, becomes, passed}
use Rattle.step_core.specs.declared.tasks.Task.{Task}
use Rattle.step_core.specs.State.{Plain, ready}
use Rattle.step_core.specs.Rows.{shared_row}
use Rattle.step_core.specs.Shared as core
use Rattle.step_core.specs.Shared.{Took, Stuck, Takes, on_object, shared_step}
use Rattle.step_core.specs.Plain as plain
use Rattle.step_core.specs.Plain.{plain_step}
use Rattle.step_core.specs.High as upper
use Rattle.step_core.specs.High.{High, high_step, Ref}
use Rattle.code_machines.specs.Objects.{Objects}
use Rattle.coro_lower.specs.declared.label.End.{End}
use Rattle.coro_lower.specs.declared.label.End.TheVariants as end
use Rattle.coro_lower.specs.declared.label.Label.TheVariants.{Body, Next, Cleanup, Suspended}
use Rattle.coro_lower.specs.Layout.{end_of, plain_end, place, target_at}
use Rattle.coro_lower.specs.Registers.{saved, made, handle}
use Rattle.coro_lower.specs.Rows.{row, called}
use Rattle.coro_lower.specs.Shape as shape
use Rattle.coro_lower.specs.Shape.{suspend, before_end, term_of, next, lowered}
use Rattle.coro_laws.specs.Half.{IsHalfLowered}
use Rattle.coro_laws.proofs.Awaiting.{AwaitsAt, term_at, waits, waits_await, edge_inside, go_inside}
use Rattle.coro_laws.proofs.Making.{is_task_end, no_task_end}
use Rattle.plain_carry.specs.Alike.{AlikeVal, AllBelow, SameObject}
use Rattle.coro_carry.specs.Relation.{View, view, Data, Above, Below, SameRow, remains, AllWait, AtRow, Awaits, WaitsFor, Saves, Suspends, Tests, Match, saves, suspends, tests, Agree, top}
use Rattle.coro_carry.specs.Laws.{AgreeAt, Running, Followed, SuspendFollows}
use Rattle.coro_carry.proofs.Lists.{all_below, term_of_block, in_code_on, beyond}
use Rattle.coro_carry.proofs.Frames.{data_put, Within, last_in}
use Rattle.coro_carry.proofs.Landing.{bind_none, block_no, way_to, next_stands}
use Rattle.coro_carry.proofs.Steps.{low, above_stands, below_stands, low_steps, low_parked, high_steps, moves_alone, moves_waiting, never_stuck, silent, idle}
use Rattle.coro_carry.proofs.Waiting.{awaited_faces, Same, same_there, waits_now}
use Rattle.coro_carry.proofs.Saving as await
use Rattle.coro_carry.proofs.Saving.{Names, names}
use Rattle.coro_carry.proofs.Standing.{its_term, its_kind, well, half, kind_is, named}

-- ---- the copy goes on at the test

module _ (code : LowModule) (n : FuncNo) (fl gh : LowFunc) (args : List ArgValue) (s : Plain) (k : Objects) (h : High) (t : ℕ) (task task' : Task) (r : Running code n fl gh args s k h t task task')
    (m : Suspends code (view s k h) t task task') (ready_now : task.parked ≡ None) where
  abbrev f : LowFunc
  f = m.at.func

  abbrev b : ℕ
  b = (top task').place.block.0

  abbrev leaves : Term
  leaves = suspend f (saved f b) (Next b)

  abbrev here : Remaining
  here = record { instrs = []; term = leaves }

  abbrev after : Task
  after = ready (with_top task.stack (went (way_to f (Next b)) [] (settled task.stack.top)))

  stands : standing (low code) (top task).place ≡ Some (record { func = lowered f; rest = here })
  stands = below_stands code (top task).place (top task').place f here m.at.above.func m.below

  steps : plain_step (low code) s t ≡ core.goes_on s t after.stack core.Nothing
  steps =
      low_steps code s t task r.now ready_now
      ∙ ap (λ (o : Option Standing). plain.by_local (maybe local.Stuck (λ st. step_in true (low code) st.func st.rest.instrs st.rest.term task.stack) o) (low code) s t task.stack) stands
      ∙ ap (λ (x : Saved). plain.by_local (maybe local.Stuck (λ i. maybe local.Stuck (λ way. goes way [] (with_top task.stack (settled task.stack.top))) (target_way (lowered f) leaves i)) (side x)) (low code) s t task.stack) m.copied

  awaits_here : waits (end_of f m.at.block) ≡ true
  awaits_here = ap waits m.ends

  is_task : (c : Bool) → f.coroutine ≡ c → f.coroutine ≡ true
  is_task true is = is
  is_task false is = (let no : is_task_end (end_of f m.at.block) ≡ false = no_task_end f m.at.block is in let yes' : is_task_end (end_of f m.at.block) ≡ true = ap is_task_end m.ends in cc)

  awaits_at : AwaitsAt f b (target_at m.at.block.term.targets 0)
  awaits_at = record { block = m.at.block; at = m.at.above.block; kind = its_kind code n fl gh args s k h t task task' r (top task).regs m.at awaits_here; go = refl }

  go_block : (o : Option Block) → slice_get f.blocks (target_at m.at.block.term.targets 0) ≡ o → (c : Block) × (slice_get f.blocks (target_at m.at.block.term.targets 0) ≡ Some c)
  go_block None none =
      absurd (beyond f.blocks (target_at m.at.block.term.targets 0) (go_inside code f (well code n fl gh args s k h t task task' r (top task).regs m.at awaits_here) (half code n fl gh args s k h t task task' r (top task).regs m.at awaits_here) b (target_at m.at.block.term.targets 0) awaits_at) none)
  go_block (Some c) there = (c, there)

  test_block : slice_get (lowered f).blocks (place f (Next b)) ≡ Some (next f b (Some m.at.block))
  test_block =
      let c = go_block (slice_get f.blocks (target_at m.at.block.term.targets 0)) refl in
      next_stands code f (well code n fl gh args s k h t task task' r (top task).regs m.at awaits_here) (half code n fl gh args s k h t task task' r (top task).regs m.at awaits_here) b (target_at m.at.block.term.targets 0) m.at.block c.0
      (is_task f.coroutine refl) awaits_at m.at.above.block c.1

  same_term : m.at.block.term ≡ m.at.term
  same_term = sym (its_term code n fl gh args s k h t task task' r (top task).regs m.at awaits_here)

  regs_same : (top after).regs ≡ (top task).regs
  regs_same = bind_none (way_to f (Next b)).regs (top task).regs

  is_tested : Tests code (view s k h) t after task'
  is_tested = record {
    at = record {
      func = f;
      block = m.at.block;
      term = m.at.term;
      awaited = m.at.awaited;
      above = m.at.above;
      kind = m.at.kind;
      one = m.at.one;
      both = subst (λ (x : List Val). Data (view s k h) t f x (top task').regs) (sym regs_same) m.at.both;
      under = record { root = m.at.under.root; frames = m.at.under.frames };
    };
    saved = refl;
    below = record {
      func = m.below.func;
      here = ap (λ (o : Option Block). remaining_of o 0) test_block
          ∙ ap (λ (x : Term). let y : Remaining = record { instrs = shape.is_error f b x.instr.operands ∷ []; term = shape.branch f b x.targets } in Some y) same_term
          ∙ ap (λ (xs : List Reg). let y : Remaining = record { instrs = shape.is_error f b xs ∷ []; term = shape.branch f b m.at.term.targets } in Some y) m.at.one;
    };
    waits = subst (λ (x : List Val). WaitsFor (view s k h) None (held x m.at.awaited.0)) (sym regs_same) (subst (λ (p : Option ObjNo). WaitsFor (view s k h) p (held (top task).regs m.at.awaited.0)) ready_now m.waits);
  }

  pub suspend_goes : Followed code n fl gh args s k h t
  suspend_goes = silent code n fl gh args s _ k h t [] steps (moves_alone code s k h t task task' after r.agree r.now r.now' (tests is_tested))

pub suspend_follows : SuspendFollows
suspend_follows code n f g args s k h t task task' r m = by task.parked refl
  where
    by : (o : Option ObjNo) → task.parked ≡ o → Followed code n f g args s k h t
    by None is = suspend_goes code n f g args s k h t task task' r m is
    by (Some o) is = idle code n f g args s k h t (low_parked code s t task o r.now is)
