-- Frames that go back to those that called them.
use Rattle.std.proofs.Common.{◌≡◌, ◌<◌, ◌&&◌, ℕ, ◌+◌, Bool, true, false, List, [], ◌∷◌, ◌++◌, map, length, Option, Some, None, refl, sym, ap, ◌∙◌, subst}
use Rattle.std.specs.Prelude.{cond, slice_get}
use Rattle.op_table.specs.declared.kind.OpKind.{OpKind}
use Rattle.op_table.specs.declared.kind.OpKind.TheVariants as op
use Rattle.ir_forms.specs.declared.args.ArgValue.{ArgValue}
use Rattle.ir_forms.specs.declared.runs.FuncNo.{FuncNo}
use Rattle.low_forms.specs.declared.code.Block.{Block}
use Rattle.low_forms.specs.declared.code.Instr.{Instr}
use Rattle.low_forms.specs.declared.code.LowAttr.{LowAttr}
use Rattle.low_forms.specs.declared.code.LowAttr.TheVariants.{Callee}
use Rattle.low_forms.specs.declared.code.LowFunc.{LowFunc}
use Rattle.low_forms.specs.declared.code.LowKind.{LowKind}
use Rattle.low_forms.specs.declared.code.LowKind.TheVariants as kind
use Rattle.low_forms.specs.declared.code.LowModule.{LowModule}
use Rattle.low_forms.specs.declared.code.Reg.{Reg}
use Rattle.low_forms.specs.declared.code.Target.{Target}
use Rattle.low_forms.specs.declared.code.Term.{Term}
use Rattle.low_forms.specs.Edges.{blocks_of}
use Rattle.low_forms.specs.Numbers.{regs_within, target_within}
use Rattle.low_forms.specs.Fits.{is_plain, attr_fits, operands_fit, results_fit, instr_fits, targets_fit, term_fits}
use Rattle.low_forms.specs.Registers.{callee}
use Rattle.low_forms.specs.Rows.{row_of}
use Rattle.low_forms.specs.Places.{Remaining, remaining_of}
use Rattle.low_forms.specs.WellFormed.{IsWellFormed, WellFormed}
use Rattle.low_forms.proofs.Words.{and_left, and_right}
use Rattle.std.specs.Prelude.{nat_lt}
use Rattle.source_meaning.specs.Values.{maybe}
use Rattle.async_objects.specs.declared.kinds.Val.{Val}
use Rattle.async_objects.specs.declared.kinds.Val.TheVariants as val
use Rattle.task_stack.specs.declared.frames.Frame.{Frame}
use Rattle.step_core.specs.declared.rows.SharedRow.{SharedRow}
use Rattle.step_core.specs.declared.rows.SharedRow.TheVariants as shared
use Rattle.task_stack.specs.declared.effects.Effect.{Effect}
use Rattle.task_stack.specs.Effects.{effect_of}
use Rattle.task_stack.specs.Registers.{number}
use Rattle.task_stack.specs.Frames.{Stack, Way, into, went, new_frame}
use Rattle.task_stack.specs.Local as local
use Rattle.task_stack.specs.Local.{Local, Standing, standing, operands, pushes, calls, target_way, after_call, way_in, way_on, leaves, end_step}
use Rattle.task_stack.specs.Shared.{Next, next_of, first_of}
use Rattle.step_core.specs.declared.tasks.Task.{Task}
use Rattle.step_core.specs.Rows.{shared_row}
use Rattle.step_core.specs.State.{Plain, ready}
use Rattle.step_core.specs.Shared.{Took, Stuck, Nothing}
use Rattle.step_core.specs.Plain as plain
use Rattle.step_core.specs.Plain.{plain_step}
use Rattle.step_core.specs.High as upper
use Rattle.step_core.specs.High.{High, high_step}
use Rattle.code_machines.specs.Objects.{Objects}
use Rattle.coro_lower.specs.declared.label.End.{End}
use Rattle.coro_lower.specs.declared.label.End.TheVariants as end
use Rattle.coro_lower.specs.declared.label.Label.TheVariants.{Body}
use Rattle.coro_lower.specs.Layout.{plain_end, task_end, awaiting, end_of, layout}
use Rattle.coro_lower.specs.Rows.{called as called_row}
use Rattle.coro_lower.specs.Shape.{moved, before_end, term_of, loads, instrs_of, body, label_block, lowered}
use Rattle.coro_laws.specs.Half.{is_emptied, IsHalfLowered, HalfLowered}
use Rattle.coro_laws.proofs.Edging.{first_plain}
use Rattle.coro_laws.proofs.Giving.{some_blocks}
use Rattle.coro_laws.proofs.Making.{not_false, is_task_end, no_task_end}
use Rattle.coro_laws.proofs.Awaiting.{term_at, edge_inside}
use Rattle.register_laws.proofs.Lists.{every_at, mapped_there}
use Rattle.plain_carry.specs.Alike.{AllAlike, AllBelow}
use Rattle.plain_carry.proofs.Values.{bind_alike, at_alike}
use Rattle.coro_carry.specs.Relation.{View, view, Data, Above, Below, remains, Waits, AllWait, AtRow, Lands, Match, lands, Agree, top}
use Rattle.coro_carry.specs.Laws.{Running, Followed, is_return, ReturnFollows}
use Rattle.coro_carry.proofs.Lists.{term_of_block, beyond}
use Rattle.coro_carry.proofs.Jumps as ends
use Rattle.coro_carry.proofs.Landing.{way_to, not_awaited, lands_at}
use Rattle.coro_carry.proofs.Steps.{low, above_stands, below_stands, low_steps, high_steps, moves, never_stuck, both_plain}

-- ---- frames that go back to the one that called them

module _ (code : LowModule) (n : FuncNo) (fl gh : LowFunc) (args : List ArgValue) (s : Plain) (k : Objects) (h : High) (t : ℕ) (task task' : Task) (r : Running code n fl gh args s k h t task task')
    (a : AtRow code (view s k h) t task task') (last : a.rest.instrs ≡ []) (stays : end_of a.func a.block ≡ end.Stays) where
  abbrev V : View
  V = view s k h

  abbrev stack : Stack
  stack = task.stack

  abbrev stack' : Stack
  stack' = task'.stack

  abbrev F : Type 0
  F = Followed code n fl gh args s k h t

  abbrev place_of : Bool → ℕ
  place_of fails = cond fails 1 0

  -- the caller goes on at one of its call's targets
  module _ (fails : Bool) (frame frame' : Frame) (ls ls' : List Frame) (w : Waits code V t frame frame') (under : AllWait code V t ls ls') (root : stack.is_root ≡ stack'.is_root) (vs ws : List Val) (alike : AllAlike k.stands h.refs vs ws)
      (lo : plain_step (low code) s t ≡ plain.by_local (leaves fails (low code) vs (frame ∷ ls) stack) (low code) s t stack) (hi : high_step code h t ≡ upper.by_local (leaves fails code ws (frame' ∷ ls') stack') code h t stack')
      (no_end : upper.by_local local.Stuck code h t stack' ≡ Stuck) where
    abbrev f : LowFunc
    f = w.func

    abbrev c : ℕ
    c = frame'.current.place.block.0

    abbrev term : Term
    term = w.rest.term

    above_it : Above code frame'.current.place f w.block (record { instrs = []; term = term })
    above_it = record {
      func = w.row.above.func;
      block = w.row.above.block;
      here = w.row.above.here ∙ ap (λ (xs : List Instr). let m : Remaining = record { instrs = xs; term = term } in Some m) w.last;
    }

    well : IsWellFormed code f
    well = r.well frame'.current.place.func.0 f above_it.func

    half : IsHalfLowered f
    half = r.half frame'.current.place.func.0 f above_it.func

    its_term : term ≡ w.block.term
    its_term = term_of_block w.block.instrs w.block.term frame'.current.place.at (record { instrs = []; term = term }) above_it.here

    high_way : way_on fails code frame'.current.place ≡ after_call (effect_of term.instr.kind) (place_of fails) f term
    high_way = ap (λ (o : Option Standing). maybe None (λ st. way_in fails st.func st.rest.instrs st.rest.term) o) (above_stands code frame'.current.place f w.block (record { instrs = []; term = term }) above_it)

    stuck_way : after_call (effect_of term.instr.kind) (place_of fails) f term ≡ None → F
    stuck_way none =
        absurd (never_stuck code n fl gh args h t r.safe (hi ∙ ap (λ (o : Option Way). upper.by_local (maybe local.Stuck (λ way. local.Done (record { is_root = stack'.is_root; top = went way ws frame'; below = ls' }) None) o) code h t stack') (high_way ∙ none) ∙ no_end))

    module _ (is : term.instr.kind ≡ kind.Row op.AioCall) where
      its_kind : w.block.term.instr.kind ≡ kind.Row op.AioCall
      its_kind = subst (λ (x : Term). x.instr.kind ≡ kind.Row op.AioCall) its_term is

      ends_stay : (x : Bool) → cond x (task_end (kind.Row op.AioCall)) (plain_end (kind.Row op.AioCall)) ≡ end.Stays
      ends_stay true = refl
      ends_stay false = refl

      end_is : end_of f w.block ≡ end.Stays
      end_is = ap (λ (x : LowKind). cond f.coroutine (task_end x) (plain_end x)) its_kind ∙ ends_stay f.coroutine

      abbrev low_term : Term
      low_term = record term { targets = map (moved f) term.targets }

      below_it : Below frame.current.place frame'.current.place f (record { instrs = []; term = low_term })
      below_it = record {
        func = w.row.below.func;
        here = w.row.below.here ∙ ap (λ (xs : List Instr). Some (remains (end_of f w.block) f c (record { instrs = xs; term = term }))) w.last
            ∙ ap (λ (e : End). Some (remains e f c (record { instrs = []; term = term }))) end_is;
      }

      high_way_is : way_on fails code frame'.current.place ≡ target_way f term (place_of fails)
      high_way_is = high_way ∙ ap (λ (x : LowKind). after_call (effect_of x) (place_of fails) f term) is

      low_way_is : way_on fails (low code) frame.current.place ≡ target_way (lowered f) low_term (place_of fails)
      low_way_is =
          ap (λ (o : Option Standing). maybe None (λ st. way_in fails st.func st.rest.instrs st.rest.term) o) (below_stands code frame.current.place frame'.current.place f (record { instrs = []; term = low_term }) above_it.func below_it)
          ∙ ap (λ (x : LowKind). after_call (effect_of x) (place_of fails) (lowered f) low_term) is

      abbrev after_to : Target → Task
      after_to u = ready (record { is_root = stack.is_root; top = went (way_to f (Body u.block.0)) vs frame; below = ls })

      abbrev after_to' : Target → Task
      after_to' u = ready (record { is_root = stack'.is_root; top = went (into f u.block) ws frame'; below = ls' })

      to_block : (u : Target) → slice_get w.block.term.targets (place_of fails) ≡ Some u → (o : Option Block) → slice_get f.blocks u.block.0 ≡ o → Lands code V t (after_to u) (after_to' u)
      to_block u at None none =
          absurd (beyond f.blocks u.block.0 (edge_inside code f well half c w.block above_it.block (place_of fails) u.block.0 (mapped_there (λ (x : Target). x.block.0) w.block.term.targets (place_of fails) u at)) none)
      to_block u at (Some b) there =
          subst (λ (x : Bool). Lands code V t (ready (record { is_root = x; top = went (way_to f (Body u.block.0)) vs frame; below = ls })) (after_to' u)) (sym root)
          (lands_at code f well half V t u.block.0 b there stack'.is_root frame frame' ls ls' w.saved above_it.func below_it.func under
          (not_awaited code f well half c (place_of fails) u.block.0 w.block above_it.block (λ e. let no : kind.Row op.AioCall ≡ kind.Await = sym its_kind ∙ e in cc) (mapped_there (λ (x : Target). x.block.0) w.block.term.targets (place_of fails) u at))
          vs ws alike w.both)

      by_target : (o : Option Target) → slice_get term.targets (place_of fails) ≡ o → F
      by_target None none = stuck_way (ap (λ (x : LowKind). after_call (effect_of x) (place_of fails) f term) is ∙ ap (λ (o : Option Target). maybe None (λ u. Some (into f u.block)) o) none)
      by_target (Some u) at =
          both_plain code n fl gh args s _ k h _ t _ _ Nothing r.safe refl
          (lo ∙ ap (λ (o : Option Way). plain.by_local (maybe local.Stuck (λ way. local.Done (record { is_root = stack.is_root; top = went way vs frame; below = ls }) None) o) (low code) s t stack)
          (low_way_is ∙ ap (λ (o : Option Target). maybe None (λ x. Some (into (lowered f) x.block)) o) (mapped_there (moved f) term.targets (place_of fails) u at)))
          (hi ∙ ap (λ (o : Option Way). upper.by_local (maybe local.Stuck (λ way. local.Done (record { is_root = stack'.is_root; top = went way ws frame'; below = ls' }) None) o) code h t stack')
          (high_way_is ∙ ap (λ (o : Option Target). maybe None (λ x. Some (into f x.block)) o) at))
          (moves code s k h t task task' (after_to u) (after_to' u) s.buffers h.plain.buffers r.agree r.now r.now' r.agree.buffers
          (lands (to_block u (subst (λ (x : Term). slice_get x.targets (place_of fails) ≡ Some u) its_term at) (slice_get f.blocks u.block.0) refl)))

      called : F
      called = by_target (slice_get term.targets (place_of fails)) refl

    back_by : (x : LowKind) → term.instr.kind ≡ x → F
    back_by (kind.Row op.AioCall) is = called is
    back_by x is = stuck_way (ap (λ (y : LowKind). after_call (effect_of y) (place_of fails) f term) is)

    pub goes_back : F
    goes_back = back_by term.instr.kind refl

  -- ---- a return, and a failure

  abbrev instr : Instr
  instr = a.rest.term.instr

  abbrev given : List Val
  given = operands stack instr

  abbrev given' : List Val
  given' = operands stack' instr

  given_alike : AllAlike k.stands h.refs given given'
  given_alike = ends.alike code n fl gh args s k h t task task' r a last stays

  no_end_below : (frame' : Frame) (ls' : List Frame) → stack'.below ≡ frame' ∷ ls' → upper.by_local local.Stuck code h t stack' ≡ Stuck
  no_end_below frame' ls' is =
      ap (λ (o : Option Next). maybe Stuck (λ x. upper.stuck_at x h t stack') o) (ends.high_next code n fl gh args s k h t task task' r a last stays)
      ∙ ap (λ (xs : List Frame). upper.last_ends (shared_row instr.kind) given' xs stack'.is_root h t) is ∙ none (shared_row instr.kind)
    where
      none : (x : SharedRow) → upper.last_ends x given' (frame' ∷ ls') stack'.is_root h t ≡ Stuck
      none shared.Return = refl
      none shared.Fail = refl
      none x = refl

  waiting : (xs xs' : List Frame) → stack.below ≡ xs → stack'.below ≡ xs' → AllWait code V t xs xs'
  waiting xs xs' e e' = subst (λ (ys : List Frame). AllWait code V t ys xs') e (subst (λ (ys : List Frame). AllWait code V t stack.below ys) e' a.under.frames)

  return_by : (xs xs' : List Frame) → stack.below ≡ xs → stack'.below ≡ xs' → AllWait code V t xs xs' → instr.kind ≡ kind.Row op.FuncReturn → (xs' ≡ [] → ⊥) → F
  return_by [] [] e e' w is some = absurd (some refl)
  return_by [] (x ∷ xs') e e' w is some = elim w [ ]
  return_by (x ∷ xs) [] e e' w is some = elim w [ ]
  return_by (frame ∷ ls) (frame' ∷ ls') e e' w is some =
      goes_back false frame frame' ls ls' w.0 w.1 a.under.root given given' given_alike
      (ends.low_by code n fl gh args s k h t task task' r a last stays (leaves false (low code) given (frame ∷ ls) stack)
      (ap (λ (x : LowKind). end_step (effect_of x) true (low code) (lowered a.func) (ends.term code n fl gh args s k h t task task' r a last stays) stack) is ∙ ap (λ (ys : List Frame). leaves false (low code) given ys stack) e))
      (ends.high_by code n fl gh args s k h t task task' r a last stays (leaves false code given' (frame' ∷ ls') stack') (ap (λ (x : LowKind). end_step (effect_of x) true code a.func a.rest.term stack') is ∙ ap (λ (ys : List Frame). leaves false code given' ys stack') e'))
      (no_end_below frame' ls' e')

  fail_by : (xs xs' : List Frame) → stack.below ≡ xs → stack'.below ≡ xs' → AllWait code V t xs xs' → instr.kind ≡ kind.Row op.AioFail → (xs' ≡ [] → ⊥) → F
  fail_by [] [] e e' w is some = absurd (some refl)
  fail_by [] (x ∷ xs') e e' w is some = elim w [ ]
  fail_by (x ∷ xs) [] e e' w is some = elim w [ ]
  fail_by (frame ∷ ls) (frame' ∷ ls') e e' w is some =
      goes_back true frame frame' ls ls' w.0 w.1 a.under.root (val.Number (number given 0) ∷ []) (val.Number (number given' 0) ∷ []) (at_alike k.stands h.refs given given' 0 given_alike, tt)
      (ends.low_by code n fl gh args s k h t task task' r a last stays (leaves true (low code) (val.Number (number given 0) ∷ []) (frame ∷ ls) stack)
      (ap (λ (x : LowKind). end_step (effect_of x) true (low code) (lowered a.func) (ends.term code n fl gh args s k h t task task' r a last stays) stack) is ∙ ap (λ (ys : List Frame). leaves true (low code) (val.Number (number given 0) ∷ []) ys stack) e))
      (ends.high_by code n fl gh args s k h t task task' r a last stays (leaves true code (val.Number (number given' 0) ∷ []) (frame' ∷ ls') stack')
      (ap (λ (x : LowKind). end_step (effect_of x) true code a.func a.rest.term stack') is ∙ ap (λ (ys : List Frame). leaves true code (val.Number (number given' 0) ∷ []) ys stack') e'))
      (no_end_below frame' ls' e')

  pub back_goes : (stack'.below ≡ [] → ⊥) → (x : LowKind) → instr.kind ≡ x → is_return x ≡ true → F
  back_goes some (kind.Row op.FuncReturn) is yes' = return_by stack.below stack'.below refl refl a.under.frames is some
  back_goes some (kind.Row op.AioFail) is yes' = fail_by stack.below stack'.below refl refl a.under.frames is some
  back_goes some x is yes' = cc

pub return_follows : ReturnFollows
return_follows code n f g args s k h t task task' r at last stays some is = back_goes code n f g args s k h t task task' r at last stays some at.rest.term.instr.kind refl is
