-- What holds of an await that a task stands at.
use Rattle.std.proofs.Common.{inl, inr, ◌≡◌, ◌≢◌, ◌≤◌, ◌<◌, ℕ, ◌+◌, ◌*◌, ◌==◌, ◌&&◌, cond, Bool, true, false, List, [], ◌∷◌, ◌++◌, map, length, Option, Some, None, refl, sym, ap, ◌∙◌, subst, arith}
use Rattle.std.specs.Prelude.{slice_get}
use Rattle.std.proofs.lemmas.Option.{slice_get_within}
use Rattle.op_table.specs.declared.kind.OpKind.TheVariants as op
use Rattle.ir_forms.specs.declared.args.ArgValue.{ArgValue}
use Rattle.ir_forms.specs.declared.runs.FuncNo.{FuncNo}
use Rattle.ir_forms.specs.declared.runs.ObjNo.{ObjNo}
use Rattle.low_forms.specs.declared.code.Block.{Block}
use Rattle.low_forms.specs.declared.code.Instr.{Instr}
use Rattle.low_forms.specs.declared.code.LowFunc.{LowFunc}
use Rattle.low_forms.specs.declared.code.LowKind.{LowKind}
use Rattle.low_forms.specs.declared.code.LowKind.TheVariants as kind
use Rattle.low_forms.specs.declared.code.LowModule.{LowModule}
use Rattle.low_forms.specs.declared.code.Reg.{Reg}
use Rattle.low_forms.specs.declared.code.Target.{Target}
use Rattle.low_forms.specs.declared.code.Term.{Term}
use Rattle.low_forms.specs.declared.row.LowRow.{LowRow}
use Rattle.std.proofs.lemmas.Bool.Decides.{eqb_tells}
use Rattle.low_forms.specs.Fits.{fill, attr_fits, operands_fit, results_fit, instr_fits, targets_fit, term_fits, reg_fits}
use Rattle.low_forms.specs.declared.row.Slot.TheVariants as slot
use Rattle.low_forms.specs.Places.{Remaining, remaining_of}
use Rattle.low_forms.specs.Rows.{row_of}
use Rattle.low_forms.specs.WellFormed.{IsWellFormed}
use Rattle.low_forms.proofs.Words.{and_left, and_right}
use Rattle.source_meaning.specs.Values.{maybe}
use Rattle.async_objects.specs.Objects.{is_done, object_at, awaited}
use Rattle.async_objects.specs.declared.kinds.Val.{Val}
use Rattle.async_objects.specs.declared.kinds.Val.TheVariants as val
use Rattle.task_stack.specs.declared.effects.Effect.{Effect}
use Rattle.task_stack.specs.declared.frames.Activation.{Activation}
use Rattle.task_stack.specs.declared.frames.Saved.{Saved}
use Rattle.task_stack.specs.declared.frames.Saved.TheVariants as saved_as
use Rattle.task_stack.specs.Effects.{effect_of}
use Rattle.task_stack.specs.Registers.{held, bind, value}
use Rattle.task_stack.specs.Frames.{Stack, Way, went, saving, settled}
use Rattle.task_stack.specs.Local as local
use Rattle.task_stack.specs.Local.{Local, Standing, standing, operands, with_top, goes, side, target_way, inner_step, end_step, step_in, free_step}
use Rattle.task_stack.specs.Shared.{Next as Ahead, next_of, first_of, kept, kept_in, becomes, passed}
use Rattle.step_core.specs.declared.tasks.Task.{Task}
use Rattle.step_core.specs.State.{Plain, ready}
use Rattle.step_core.specs.Rows.{shared_row}
use Rattle.step_core.specs.Shared as core
use Rattle.step_core.specs.Shared.{Took, Stuck, Takes, on_object, shared_step}
use Rattle.step_core.specs.Plain as plain
use Rattle.step_core.specs.Plain.{plain_step}
use Rattle.step_core.specs.High as upper
use Rattle.step_core.specs.High.{High, high_step, Ref}
use Rattle.code_machines.specs.Objects.{Objects}
use Rattle.coro_lower.specs.declared.label.End.{End}
use Rattle.coro_lower.specs.declared.label.End.TheVariants as end
use Rattle.coro_lower.specs.declared.label.Label.TheVariants.{Body, Next, Cleanup, Suspended}
use Rattle.coro_lower.specs.Layout.{end_of, plain_end, place, target_at}
use Rattle.coro_lower.specs.Registers.{saved, made, handle}
use Rattle.coro_lower.specs.Rows.{row, called}
use Rattle.coro_lower.specs.Shape as shape
use Rattle.coro_lower.specs.Shape.{suspend, before_end, term_of, next, lowered}
use Rattle.coro_laws.specs.Half.{IsHalfLowered}
use Rattle.coro_laws.proofs.Awaiting.{AwaitsAt, term_at, waits, waits_await, edge_inside, go_inside}
use Rattle.coro_laws.proofs.Making.{is_task_end, no_task_end}
use Rattle.plain_carry.specs.Alike.{AlikeVal, AllBelow, SameObject}
use Rattle.coro_carry.specs.Relation.{View, view, Data, Above, Below, SameRow, remains, AllWait, AtRow, Awaits, WaitsFor, Saves, Suspends, Tests, Match, saves, suspends, tests, Agree, top}
use Rattle.coro_carry.specs.Laws.{AgreeAt, Running, Followed}
use Rattle.coro_carry.proofs.Lists.{all_below, term_of_block, in_code_on, beyond}
use Rattle.coro_carry.proofs.Frames.{data_put, Within, last_in}
use Rattle.coro_carry.proofs.Landing.{bind_none, block_no, way_to, next_stands}
use Rattle.coro_carry.proofs.Steps.{low, above_stands, below_stands, low_steps, low_parked, high_steps, moves_alone, moves_waiting, never_stuck, silent, idle}
use Rattle.coro_carry.proofs.Waiting.{awaited_faces, Same, same_there, waits_now}
use Rattle.coro_carry.proofs.Saving as await
use Rattle.coro_carry.proofs.Saving.{Names, names}

-- ---- of an await that a task stands at

module _ (code : LowModule) (n : FuncNo) (fl gh : LowFunc) (args : List ArgValue) (s : Plain) (k : Objects) (h : High) (t : ℕ) (task task' : Task) (r : Running code n fl gh args s k h t task task')
    (regs : List Val) (m : Awaits code (view s k h) t task task' regs) (awaits : waits (end_of m.func m.block) ≡ true) where
  pub its_term : m.term ≡ m.block.term
  its_term = term_of_block m.block.instrs m.block.term (top task').place.at (record { instrs = []; term = m.term }) m.above.here

  pub its_kind : m.block.term.instr.kind ≡ kind.Await
  its_kind = waits_await m.func.coroutine m.block.term.instr.kind awaits

  pub well : IsWellFormed code m.func
  well = r.well (top task').place.func.0 m.func m.above.func

  pub half : IsHalfLowered m.func
  half = r.half (top task').place.func.0 m.func m.above.func

  pub kind_is : m.term.instr.kind ≡ kind.Await
  kind_is = ap (λ (x : Term). x.instr.kind) its_term ∙ its_kind

  few : AllBelow (length m.func.regs) (m.awaited ∷ [])
  few =
      let there : Within m.func m.block.term.instr = last_in code m.func well half (top task').place.block.0 m.block m.above.block in
      subst (λ (xs : List Reg). AllBelow (length m.func.regs) xs) m.one (subst (λ (x : Term). AllBelow (length m.func.regs) x.instr.operands) (sym its_term) there.operands)

  pub named : Names code n fl gh args s k h t task task' r m.func m.block m.term m.above kind_is m.awaited m.one (held regs m.awaited.0)
  named = names code n fl gh args s k h t task task' r m.func m.block m.term m.above kind_is m.awaited m.one (held regs m.awaited.0) (m.both.own m.awaited.0 few.0)
