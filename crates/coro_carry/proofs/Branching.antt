-- The branch by what was looked at.
use Rattle.std.proofs.Common.{inl, inr, zero, suc, ◌≡◌, ◌≢◌, ◌≤◌, ◌<◌, ℕ, ◌+◌, ◌*◌, ◌==◌, ◌&&◌, cond, Bool, true, false, List, [], ◌∷◌, ◌++◌, map, length, Option, Some, None, refl, sym, ap, ◌∙◌, subst, arith}
use Rattle.std.specs.Prelude.{slice_get}
use Rattle.std.proofs.lemmas.Option.{slice_get_within}
use Rattle.op_table.specs.declared.kind.OpKind.TheVariants as op
use Rattle.ir_forms.specs.declared.args.ArgValue.{ArgValue}
use Rattle.ir_forms.specs.declared.runs.FuncNo.{FuncNo}
use Rattle.ir_forms.specs.declared.runs.ObjNo.{ObjNo}
use Rattle.low_forms.specs.declared.code.Block.{Block}
use Rattle.low_forms.specs.declared.code.Instr.{Instr}
use Rattle.low_forms.specs.declared.code.LowFunc.{LowFunc}
use Rattle.low_forms.specs.declared.code.LowKind.{LowKind}
use Rattle.low_forms.specs.declared.code.LowKind.TheVariants as kind
use Rattle.low_forms.specs.declared.code.LowModule.{LowModule}
use Rattle.low_forms.specs.declared.code.Reg.{Reg}
use Rattle.low_forms.specs.declared.code.Target.{Target}
use Rattle.low_forms.specs.declared.code.Term.{Term}
use Rattle.low_forms.specs.declared.row.LowRow.{LowRow}
use Rattle.std.proofs.lemmas.Bool.Decides.{eqb_tells}
use Rattle.low_forms.specs.Fits.{fill, attr_fits, operands_fit, results_fit, instr_fits, targets_fit, term_fits, reg_fits}
use Rattle.low_forms.specs.declared.row.Slot.TheVariants as slot
use Rattle.low_forms.specs.Places.{Remaining, remaining_of}
use Rattle.low_forms.specs.Edges.{blocks_of}
use Rattle.low_forms.specs.Owns.{params_of}
use Rattle.low_forms.specs.Registers.{block_at}
use Rattle.std.proofs.lemmas.Bool.{ltb-true}
use Rattle.register_laws.proofs.Lists.{mapped_there}
use Rattle.coro_carry.specs.Machines.{holds_some, takes_value, is_given, outcome_gives, ref_gives, val_gives, await_gives, gives_in, gives_at, gives}
use Rattle.low_forms.specs.WellFormed.{IsWellFormed}
use Rattle.low_forms.proofs.Words.{and_left, and_right}
use Rattle.source_meaning.specs.Values.{maybe, or_else}
use Rattle.source_meaning.specs.Rows.{bit}
use Rattle.async_objects.specs.Objects.{is_done, is_error, state_of, object_at}
use Rattle.async_objects.specs.declared.object.Object.{Object}
use Rattle.async_objects.specs.declared.kinds.Val.{Val}
use Rattle.async_objects.specs.declared.kinds.Val.TheVariants as val
use Rattle.task_stack.specs.declared.effects.Effect.{Effect}
use Rattle.task_stack.specs.declared.frames.Activation.{Activation}
use Rattle.task_stack.specs.declared.frames.Saved.{Saved}
use Rattle.task_stack.specs.declared.frames.Saved.TheVariants as saved_as
use Rattle.task_stack.specs.Effects.{effect_of}
use Rattle.task_stack.specs.Registers.{nothing, held, bind, value, number_in}
use Rattle.task_stack.specs.Frames.{Stack, Way, into, went}
use Rattle.task_stack.specs.Local as local
use Rattle.task_stack.specs.Local.{Local, Standing, standing, operands, with_top, target_way, inner_step, end_step, step_in, free_step}
use Rattle.task_stack.specs.Shared.{Next as Ahead, next_of, first_of, kept, kept_in, becomes, passed}
use Rattle.step_core.specs.declared.tasks.Task.{Task}
use Rattle.step_core.specs.State.{Plain, ready}
use Rattle.step_core.specs.Rows.{shared_row}
use Rattle.step_core.specs.Shared as core
use Rattle.step_core.specs.Shared.{Took, Stuck, Takes, on_object, shared_step}
use Rattle.step_core.specs.Plain as plain
use Rattle.step_core.specs.Plain.{plain_step}
use Rattle.step_core.specs.High as upper
use Rattle.step_core.specs.High.{High, high_step, Ref, Outcome, Gathering, has_failed}
use Rattle.code_machines.specs.HighCode.{looks_at}
use Rattle.code_machines.specs.Objects.{Stands, reads_look, Objects}
use Rattle.coro_lower.specs.declared.label.End.{End}
use Rattle.coro_lower.specs.declared.label.End.TheVariants as end
use Rattle.coro_lower.specs.declared.label.Label.TheVariants.{Body, Next, Cleanup, Suspended}
use Rattle.coro_lower.specs.Layout.{end_of, plain_end, place, target_at}
use Rattle.coro_lower.specs.Registers.{flag, made}
use Rattle.coro_lower.specs.Rows.{row, called}
use Rattle.coro_lower.specs.Shape as shape
use Rattle.coro_lower.specs.Shape.{suspend, before_end, term_of, next, lowered}
use Rattle.coro_laws.specs.Half.{IsHalfLowered}
use Rattle.coro_laws.proofs.Awaiting.{Two, AwaitsAt, edge_inside, await_edges, awaiting_is}
use Rattle.coro_laws.proofs.Making.{is_task_end, no_task_end}
use Rattle.plain_carry.specs.Alike.{stands_for, AlikeVal, AllBelow}
use Rattle.plain_carry.proofs.Values.{put_same, put_other}
use Rattle.coro_carry.specs.Relation.{View, view, all_over, one_bad, Holding, Settled, Data, Above, Below, SameRow, remains, AllWait, AtRow, at_row, AtLoad, Lands, jumped, Tested, lands, tested, Awaits, WaitsFor, Saves, Suspends, Tests, Match, saves, suspends, tests, Agree, top}
use Rattle.coro_carry.specs.Laws.{AgreeAt, Running, Followed, BranchFollows}
use Rattle.coro_carry.proofs.Lists.{all_below, term_of_block, in_code_on, beyond}
use Rattle.coro_carry.proofs.Frames.{data_put, data_bound, Within, last_in}
use Rattle.coro_carry.proofs.Landing.{block_no, way_to, failed_not_awaited, lands_at, lands_go}
use Rattle.coro_carry.proofs.Steps.{can_step, both, moves, low, above_stands, below_stands, low_steps, low_parked, high_steps, moves_alone, moves_waiting, never_stuck, silent, idle}
use Rattle.coro_carry.proofs.Waiting.{done_face, state_face, There, there, Same}
use Rattle.coro_carry.proofs.Saving.{Names, awaits_is, names}

-- ---- the branch by the test

module _ (code : LowModule) (n : FuncNo) (fl gh : LowFunc) (args : List ArgValue) (s : Plain) (k : Objects) (h : High) (t : ℕ) (task task' : Task) (r : Running code n fl gh args s k h t task task')
    (m : Tested code (view s k h) t task task') where
  abbrev f : LowFunc
  f = m.func

  abbrev splits : Term
  splits = shape.branch f m.number m.targets

  abbrev here : Remaining
  here = record { instrs = []; term = splits }

  abbrev after : Task
  after = jumped f (Body (target_at m.targets (cond m.failed 1 0))) task

  stands : standing (low code) (top task).place ≡ Some (record { func = lowered f; rest = here })
  stands = below_stands code (top task).place (top task').place f here m.there m.below

  ways : (x : Bool) → local.jumps (lowered f) (slice_get splits.targets (local.branch (bit x))) task.stack ≡ local.Done (jumped f (Body (target_at m.targets (cond x 1 0))) task).stack None
  ways true = refl
  ways false = refl

  steps : plain_step (low code) s t ≡ core.goes_on s t after.stack core.Nothing
  steps =
      low_steps code s t task r.now m.ready
      ∙ ap (λ (x : Option Standing). plain.by_local (maybe local.Stuck (λ st. step_in true (low code) st.func st.rest.instrs st.rest.term task.stack) x) (low code) s t task.stack) stands
      ∙ ap (λ (x : Val). plain.by_local (local.jumps (lowered f) (slice_get splits.targets (local.branch (number_in x))) task.stack) (low code) s t task.stack) m.flagged
      ∙ ap (λ (x : Local). plain.by_local x (low code) s t task.stack) (ways m.failed)

  pub branch_goes : Followed code n fl gh args s k h t
  branch_goes = silent code n fl gh args s _ k h t [] steps (moves_alone code s k h t task task' after r.agree r.now r.now' (lands m.lands))

pub branch_follows : BranchFollows
branch_follows code n f g args s k h t task task' r m = branch_goes code n f g args s k h t task task' r m
