-- Calls of plain functions.
use Rattle.std.proofs.Common.{◌≡◌, ◌<◌, ◌&&◌, ℕ, ◌+◌, Bool, true, false, List, [], ◌∷◌, ◌++◌, map, length, Option, Some, None, refl, sym, ap, ◌∙◌, subst}
use Rattle.std.specs.Prelude.{cond, slice_get}
use Rattle.op_table.specs.declared.kind.OpKind.{OpKind}
use Rattle.op_table.specs.declared.kind.OpKind.TheVariants as op
use Rattle.ir_forms.specs.declared.args.ArgValue.{ArgValue}
use Rattle.ir_forms.specs.declared.runs.FuncNo.{FuncNo}
use Rattle.low_forms.specs.declared.code.Block.{Block}
use Rattle.low_forms.specs.declared.code.Instr.{Instr}
use Rattle.low_forms.specs.declared.code.LowAttr.{LowAttr}
use Rattle.low_forms.specs.declared.code.LowAttr.TheVariants.{Callee}
use Rattle.low_forms.specs.declared.code.LowFunc.{LowFunc}
use Rattle.low_forms.specs.declared.code.LowKind.{LowKind}
use Rattle.low_forms.specs.declared.code.LowKind.TheVariants as kind
use Rattle.low_forms.specs.declared.code.LowModule.{LowModule}
use Rattle.low_forms.specs.declared.code.Reg.{Reg}
use Rattle.low_forms.specs.declared.code.Target.{Target}
use Rattle.low_forms.specs.declared.code.Term.{Term}
use Rattle.low_forms.specs.Edges.{blocks_of}
use Rattle.low_forms.specs.Numbers.{regs_within, target_within}
use Rattle.low_forms.specs.Fits.{is_plain, attr_fits, operands_fit, results_fit, instr_fits, targets_fit, term_fits}
use Rattle.low_forms.specs.Registers.{callee}
use Rattle.low_forms.specs.Rows.{row_of}
use Rattle.low_forms.specs.Places.{Remaining, remaining_of}
use Rattle.low_forms.specs.WellFormed.{IsWellFormed, WellFormed}
use Rattle.low_forms.proofs.Words.{and_left, and_right}
use Rattle.std.specs.Prelude.{nat_lt}
use Rattle.source_meaning.specs.Values.{maybe}
use Rattle.async_objects.specs.declared.kinds.Val.{Val}
use Rattle.async_objects.specs.declared.kinds.Val.TheVariants as val
use Rattle.task_stack.specs.declared.frames.Frame.{Frame}
use Rattle.step_core.specs.declared.rows.SharedRow.{SharedRow}
use Rattle.step_core.specs.declared.rows.SharedRow.TheVariants as shared
use Rattle.task_stack.specs.declared.effects.Effect.{Effect}
use Rattle.task_stack.specs.Effects.{effect_of}
use Rattle.task_stack.specs.Registers.{number}
use Rattle.task_stack.specs.Frames.{Stack, Way, into, went, new_frame}
use Rattle.task_stack.specs.Local as local
use Rattle.task_stack.specs.Local.{Local, Standing, standing, operands, pushes, calls, target_way, after_call, way_in, way_on, leaves, end_step}
use Rattle.task_stack.specs.Shared.{Next, next_of, first_of}
use Rattle.step_core.specs.declared.tasks.Task.{Task}
use Rattle.step_core.specs.Rows.{shared_row}
use Rattle.step_core.specs.State.{Plain, ready}
use Rattle.step_core.specs.Shared.{Took, Stuck, Nothing}
use Rattle.step_core.specs.Plain as plain
use Rattle.step_core.specs.Plain.{plain_step}
use Rattle.step_core.specs.High as upper
use Rattle.step_core.specs.High.{High, high_step}
use Rattle.code_machines.specs.Objects.{Objects}
use Rattle.coro_lower.specs.declared.label.End.{End}
use Rattle.coro_lower.specs.declared.label.End.TheVariants as end
use Rattle.coro_lower.specs.declared.label.Label.TheVariants.{Body}
use Rattle.coro_lower.specs.Layout.{plain_end, task_end, awaiting, end_of, layout}
use Rattle.coro_lower.specs.Rows.{called as called_row}
use Rattle.coro_lower.specs.Shape.{moved, before_end, term_of, loads, instrs_of, body, label_block, lowered}
use Rattle.coro_laws.specs.Half.{is_emptied, IsHalfLowered, HalfLowered}
use Rattle.coro_laws.proofs.Edging.{first_plain}
use Rattle.coro_laws.proofs.Giving.{some_blocks}
use Rattle.coro_laws.proofs.Making.{not_false, is_task_end, no_task_end}
use Rattle.coro_laws.proofs.Awaiting.{term_at, edge_inside}
use Rattle.register_laws.proofs.Lists.{every_at, mapped_there}
use Rattle.plain_carry.specs.Alike.{AllAlike, AllBelow}
use Rattle.plain_carry.proofs.Values.{bind_alike, at_alike}
use Rattle.coro_carry.specs.Relation.{View, view, Data, Above, Below, remains, Waits, AllWait, AtRow, Lands, Match, lands, Agree, top}
use Rattle.coro_carry.specs.Laws.{Running, Followed, CallFollows}
use Rattle.coro_carry.proofs.Lists.{term_of_block, beyond}
use Rattle.coro_carry.proofs.Jumps as ends
use Rattle.coro_carry.proofs.Landing.{way_to, not_awaited, lands_at}
use Rattle.coro_carry.proofs.Entering.{enters_at}
use Rattle.coro_carry.proofs.Steps.{low, above_stands, below_stands, low_steps, high_steps, moves, never_stuck, both_plain}

-- ---- a call

module _ (code : LowModule) (n : FuncNo) (fl gh : LowFunc) (args : List ArgValue) (s : Plain) (k : Objects) (h : High) (t : ℕ) (task task' : Task) (r : Running code n fl gh args s k h t task task')
    (a : AtRow code (view s k h) t task task') (last : a.rest.instrs ≡ []) (stays : end_of a.func a.block ≡ end.Stays) (is : a.rest.term.instr.kind ≡ kind.Row op.AioCall) where
  abbrev V : View
  V = view s k h

  abbrev stack : Stack
  stack = task.stack

  abbrev stack' : Stack
  stack' = task'.stack

  abbrev F : Type 0
  F = Followed code n fl gh args s k h t

  abbrev instr : Instr
  instr = a.rest.term.instr

  abbrev given : List Val
  given = operands stack instr

  abbrev given' : List Val
  given' = operands stack' instr

  low_by : plain_step (low code) s t ≡ plain.by_local (calls true (low code) instr.attr given stack) (low code) s t stack
  low_by =
      ends.low_by code n fl gh args s k h t task task' r a last stays (calls true (low code) instr.attr given stack)
      (ap (λ (x : LowKind). end_step (effect_of x) true (low code) (lowered a.func) (ends.term code n fl gh args s k h t task task' r a last stays) stack) is)

  high_by : high_step code h t ≡ upper.by_local (calls true code instr.attr given' stack') code h t stack'
  high_by = ends.high_by code n fl gh args s k h t task task' r a last stays (calls true code instr.attr given' stack') (ap (λ (x : LowKind). end_step (effect_of x) true code a.func a.rest.term stack') is)

  stuck_here : high_step code h t ≡ upper.by_local local.Stuck code h t stack' → F
  stuck_here e = absurd (never_stuck code n fl gh args h t r.safe (e ∙ ends.stuck_is code n fl gh args s k h t task task' r a last stays op.AioCall is (λ vs. refl)))

  is_plain_call : (g : FuncNo) (gf : LowFunc) → instr.attr ≡ Callee g → slice_get code.funcs g.0 ≡ Some gf → gf.coroutine ≡ false
  is_plain_call g gf attr there =
      let block_term : term_fits code a.func a.block.term ≡ true = term_at code a.func (ends.well code n fl gh args s k h t task task' r a last stays) (ends.half code n fl gh args s k h t task task' r a last stays) (top task').place.block.0 a.block a.row.above.block in
      let its : term_fits code a.func a.rest.term ≡ true = subst (λ (x : Term). term_fits code a.func x ≡ true) (sym (ends.its_term code n fl gh args s k h t task task' r a last stays)) block_term in
      let fits : instr_fits code a.func instr ≡ true = and_left (instr_fits code a.func instr) (targets_fit (row_of instr.kind).targets code a.func instr a.rest.term.targets) its in
      let x : Bool = (row_of instr.kind).stands in
      let y : Bool = attr_fits (row_of instr.kind).attr code instr.attr in
      let z : Bool = operands_fit (row_of instr.kind) code a.func instr in
      let three : (x && y && z) ≡ true = and_left (x && y && z) (results_fit (row_of instr.kind) code a.func instr) fits in
      let two : (x && y) ≡ true = and_left (x && y) z three in
      let one : y ≡ true = and_right x y two in
      let plain_is : is_plain (callee code instr.attr) ≡ true = subst (λ (q : LowKind). attr_fits (row_of q).attr code instr.attr ≡ true) is one in
      not_false gf.coroutine (sym (ap is_plain (ap (callee code) attr ∙ there)) ∙ plain_is)

  module _ (g : FuncNo) (gf : LowFunc) (attr : instr.attr ≡ Callee g) (there : slice_get code.funcs g.0 ≡ Some gf) where
    abbrev after : Task
    after = ready (record { is_root = stack.is_root; top = new_frame g (lowered gf) given; below = stack.top ∷ stack.below })

    abbrev after' : Task
    after' = ready (record { is_root = stack'.is_root; top = new_frame g gf given'; below = stack'.top ∷ stack'.below })

    well : IsWellFormed code gf
    well = r.well g.0 gf there

    half : IsHalfLowered gf
    half = r.half g.0 gf there

    plain_func : gf.coroutine ≡ false
    plain_func = is_plain_call g gf attr there

    is_waiting : Waits code V t stack.top stack'.top
    is_waiting = record {
      func = a.func;
      block = a.block;
      rest = a.rest;
      last = last;
      row = a.row;
      both = a.both;
      saved = a.saved;
    }

    starts : Match code V t after after'
    starts =
        lands (subst (λ (x : Bool). Lands code V t (ready (record { is_root = x; top = new_frame g (lowered gf) given; below = stack.top ∷ stack.below })) after') (sym a.under.root)
        (enters_at code gf well half plain_func V t g there stack'.is_root (stack.top ∷ stack.below) (stack'.top ∷ stack'.below) (is_waiting, a.under.frames) given given' (ends.alike code n fl gh args s k h t task task' r a last stays)))

    goes_in : F
    goes_in =
        both_plain code n fl gh args s _ k h _ t _ _ Nothing r.safe refl
        (low_by ∙ ap (λ (x : LowAttr). plain.by_local (calls true (low code) x given stack) (low code) s t stack) attr
        ∙ ap (λ (o : Option LowFunc). plain.by_local (maybe local.Stuck (λ x. pushes true (new_frame g x given) stack) o) (low code) s t stack) (mapped_there lowered code.funcs g.0 gf there))
        (high_by ∙ ap (λ (x : LowAttr). upper.by_local (calls true code x given' stack') code h t stack') attr
        ∙ ap (λ (o : Option LowFunc). upper.by_local (maybe local.Stuck (λ x. pushes true (new_frame g x given') stack') o) code h t stack') there)
        (moves code s k h t task task' after after' s.buffers h.plain.buffers r.agree r.now r.now' r.agree.buffers starts)

  by_func : (g : FuncNo) → instr.attr ≡ Callee g → (o : Option LowFunc) → slice_get code.funcs g.0 ≡ o → F
  by_func g attr None none = stuck_here (high_by ∙ ap (λ (x : LowAttr). upper.by_local (calls true code x given' stack') code h t stack') attr ∙ ap (λ (o : Option LowFunc). upper.by_local (maybe local.Stuck (λ x. pushes true (new_frame g x given') stack') o) code h t stack') none)
  by_func g attr (Some gf) there = goes_in g gf attr there

  by_attr : (x : LowAttr) → instr.attr ≡ x → F
  by_attr (Callee g) attr = by_func g attr (slice_get code.funcs g.0) refl
  by_attr x attr = stuck_here (high_by ∙ ap (λ (y : LowAttr). upper.by_local (calls true code y given' stack') code h t stack') attr)

  pub call_goes : F
  call_goes = by_attr instr.attr refl

pub call_follows : CallFollows
call_follows code n f g args s k h t task task' r at last is = call_goes code n f g args s k h t task task' r at last stays is
  where
    its : at.block.term.instr.kind ≡ kind.Row op.AioCall
    its = subst (λ (x : Term). x.instr.kind ≡ kind.Row op.AioCall) (term_of_block at.block.instrs at.block.term (top task').place.at at.rest at.row.above.here) is

    always : (c : Bool) → cond c (task_end (kind.Row op.AioCall)) (plain_end (kind.Row op.AioCall)) ≡ end.Stays
    always true = refl
    always false = refl

    stays : end_of at.func at.block ≡ end.Stays
    stays = ap (λ (x : LowKind). cond at.func.coroutine (task_end x) (plain_end x)) its ∙ always at.func.coroutine
