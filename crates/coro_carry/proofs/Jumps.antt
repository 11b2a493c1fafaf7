-- Branches.
use Rattle.std.proofs.Common.{◌≡◌, ℕ, ◌+◌, Bool, true, false, List, [], ◌∷◌, ◌++◌, map, length, Option, Some, None, refl, sym, ap, ◌∙◌, subst}
use Rattle.std.specs.Prelude.{cond, slice_get}
use Rattle.op_table.specs.declared.kind.OpKind.{OpKind}
use Rattle.op_table.specs.declared.kind.OpKind.TheVariants as op
use Rattle.ir_forms.specs.declared.args.ArgValue.{ArgValue}
use Rattle.ir_forms.specs.declared.runs.FuncNo.{FuncNo}
use Rattle.low_forms.specs.declared.code.Block.{Block}
use Rattle.low_forms.specs.declared.code.Instr.{Instr}
use Rattle.low_forms.specs.declared.code.LowFunc.{LowFunc}
use Rattle.low_forms.specs.declared.code.LowKind.{LowKind}
use Rattle.low_forms.specs.declared.code.LowKind.TheVariants as kind
use Rattle.low_forms.specs.declared.code.LowModule.{LowModule}
use Rattle.low_forms.specs.declared.code.Reg.{Reg}
use Rattle.low_forms.specs.declared.code.Target.{Target}
use Rattle.low_forms.specs.declared.code.Term.{Term}
use Rattle.low_forms.specs.Edges.{blocks_of}
use Rattle.low_forms.specs.Numbers.{regs_within, target_within}
use Rattle.low_forms.specs.Places.{Remaining, remaining}
use Rattle.low_forms.specs.WellFormed.{IsWellFormed, WellFormed}
use Rattle.low_forms.proofs.Words.{and_right}
use Rattle.std.specs.Prelude.{nat_lt}
use Rattle.source_meaning.specs.Values.{maybe}
use Rattle.async_objects.specs.declared.kinds.Val.{Val}
use Rattle.task_stack.specs.declared.effects.Effect.{Effect}
use Rattle.task_stack.specs.Effects.{effect_of}
use Rattle.task_stack.specs.Registers.{values_at, number}
use Rattle.task_stack.specs.Frames.{Stack, into, went}
use Rattle.task_stack.specs.Local as local
use Rattle.task_stack.specs.Local.{Local, Standing, standing, operands, with_top, branch, end_step, jumps, step_in, free_step}
use Rattle.task_stack.specs.Shared.{Next, next_of, first_of}
use Rattle.step_core.specs.declared.tasks.Task.{Task}
use Rattle.step_core.specs.Rows.{shared_row}
use Rattle.step_core.specs.State.{Plain, ready}
use Rattle.step_core.specs.Shared.{Took, Stuck, Nothing}
use Rattle.step_core.specs.Plain as plain
use Rattle.step_core.specs.Plain.{plain_step}
use Rattle.step_core.specs.High as upper
use Rattle.step_core.specs.High.{High, high_step}
use Rattle.code_machines.specs.Objects.{Objects}
use Rattle.coro_lower.specs.declared.label.End.{End}
use Rattle.coro_lower.specs.declared.label.End.TheVariants as end
use Rattle.coro_lower.specs.declared.label.Label.TheVariants.{Body}
use Rattle.coro_lower.specs.Layout.{plain_end, task_end, end_of}
use Rattle.coro_lower.specs.Shape.{moved, before_end, term_of, lowered}
use Rattle.coro_laws.specs.Half.{IsHalfLowered, HalfLowered}
use Rattle.coro_laws.proofs.Awaiting.{parts_at, edge_inside}
use Rattle.register_laws.proofs.Lists.{every_at, mapped_there}
use Rattle.plain_carry.specs.Alike.{AllAlike, AllBelow}
use Rattle.plain_carry.proofs.Values.{values_alike, at_alike}
use Rattle.coro_carry.specs.Relation.{View, view, Data, Above, Below, SameRow, remains, AtRow, Lands, Match, lands, Agree, top}
use Rattle.coro_carry.specs.Laws.{AgreeAt, Running, Followed, is_branch, JumpFollows}
use Rattle.coro_carry.proofs.Lists.{all_below, term_of_block, beyond}
use Rattle.coro_carry.proofs.Frames.{Within, last_in}
use Rattle.coro_carry.proofs.Landing.{block_no, way_to, not_awaited, lands_at}
use Rattle.coro_carry.proofs.Steps.{low, above_stands, below_stands, low_steps, high_steps, moves, never_stuck, both_plain}

-- ---- a terminator that both codes have

module _ (code : LowModule) (n : FuncNo) (fl gh : LowFunc) (args : List ArgValue) (s : Plain) (k : Objects) (h : High) (t : ℕ) (task task' : Task) (r : Running code n fl gh args s k h t task task')
    (a : AtRow code (view s k h) t task task') (last : a.rest.instrs ≡ []) (stays : end_of a.func a.block ≡ end.Stays) where
  abbrev pub F : Type 0
  F = Followed code n fl gh args s k h t

  abbrev pub stack : Stack
  stack = task.stack

  abbrev pub stack' : Stack
  stack' = task'.stack

  abbrev pub number' : ℕ
  number' = (top task').place.block.0

  abbrev pub term' : Term
  term' = a.rest.term

  abbrev pub term : Term
  term = record term' { targets = map (moved a.func) term'.targets }

  pub above : Above code (top task').place a.func a.block (record { instrs = []; term = term' })
  above = record {
    func = a.row.above.func;
    block = a.row.above.block;
    here = a.row.above.here ∙ ap (λ (xs : List Instr). let m : Remaining = record { instrs = xs; term = a.rest.term } in Some m) last;
  }

  pub below : Below (top task).place (top task').place a.func (record { instrs = []; term = term })
  below = record {
    func = a.row.below.func;
    here = a.row.below.here ∙ ap (λ (xs : List Instr). Some (remains (end_of a.func a.block) a.func number' (record { instrs = xs; term = a.rest.term }))) last
        ∙ ap (λ (e : End). Some (remains e a.func number' (record { instrs = []; term = a.rest.term }))) stays;
  }

  pub well : IsWellFormed code a.func
  well = r.well (top task').place.func.0 a.func a.row.above.func

  pub half : IsHalfLowered a.func
  half = r.half (top task').place.func.0 a.func a.row.above.func

  pub its_term : term' ≡ a.block.term
  its_term = term_of_block a.block.instrs a.block.term (top task').place.at (record { instrs = []; term = term' }) above.here

  pub within : Within a.func term'.instr
  within = subst (λ (x : Term). Within a.func x.instr) (sym its_term) (last_in code a.func well half number' a.block above.block)

  pub alike : AllAlike k.stands h.refs (operands stack term'.instr) (operands stack' term'.instr)
  alike = values_alike k.stands h.refs (length a.func.regs) (top task).regs (top task').regs term'.instr.operands a.both.own within.operands

  pub low_stands : standing (low code) (top task).place ≡ Some (record { func = lowered a.func; rest = record { instrs = []; term = term } })
  low_stands = below_stands code (top task).place (top task').place a.func (record { instrs = []; term = term }) a.row.above.func below

  pub high_stands : standing code (top task').place ≡ Some (record { func = a.func; rest = record { instrs = []; term = term' } })
  high_stands = above_stands code (top task').place a.func a.block (record { instrs = []; term = term' }) above

  pub high_next : next_of code stack' ≡ Some (record { func = a.func; instr = term'.instr })
  high_next = ap (λ (o : Option Standing). maybe None (λ st. let x : Next = record { func = st.func; instr = first_of st.rest.instrs st.rest.term } in Some x) o) high_stands

  pub low_by : (l : Local) → end_step (effect_of term'.instr.kind) true (low code) (lowered a.func) term stack ≡ l → plain_step (low code) s t ≡ plain.by_local l (low code) s t stack
  low_by l is =
      low_steps code s t task r.now a.ready
      ∙ ap (λ (x : Local). plain.by_local x (low code) s t stack) (ap (λ (o : Option Standing). maybe local.Stuck (λ st. step_in true (low code) st.func st.rest.instrs st.rest.term stack) o) low_stands ∙ is)

  pub high_by : (l : Local) → end_step (effect_of term'.instr.kind) true code a.func term' stack' ≡ l → high_step code h t ≡ upper.by_local l code h t stack'
  high_by l is =
      high_steps code h t task' r.now'
      ∙ ap (λ (x : Local). upper.by_local x code h t stack') (ap (λ (o : Option Standing). maybe local.Stuck (λ st. step_in true code st.func st.rest.instrs st.rest.term stack') o) high_stands ∙ is)

  pub stuck_here : high_step code h t ≡ Stuck → F
  stuck_here it = absurd (never_stuck code n fl gh args h t r.safe it)

  -- both go to the block of a target
  module _ (no_await : term'.instr.kind ≡ kind.Await → ⊥) (no_end : upper.by_local local.Stuck code h t stack' ≡ Stuck) where
    abbrev goes_by : Option Target → Local
    goes_by o = jumps (lowered a.func) o stack

    abbrev goes_by' : Option Target → Local
    goes_by' o = jumps a.func o stack'

    to_block : (i : ℕ) (u : Target) → slice_get term'.targets i ≡ Some u → (o : Option Block) → slice_get a.func.blocks u.block.0 ≡ o →
        Lands code (view s k h) t (ready (with_top stack (went (way_to a.func (Body u.block.0)) (values_at (top task).regs u.args) stack.top)))
        (ready (with_top stack' (went (into a.func u.block) (values_at (top task').regs u.args) stack'.top)))
    to_block i u at o found = by o found
      where
        at_term : slice_get a.block.term.targets i ≡ Some u
        at_term = subst (λ (x : Term). slice_get x.targets i ≡ Some u) its_term at

        leads : slice_get (blocks_of a.block.term.targets) i ≡ Some u.block.0
        leads = mapped_there (λ (x : Target). x.block.0) a.block.term.targets i u at_term

        few : AllBelow (length a.func.regs) u.args
        few = all_below (length a.func.regs) u.args (and_right (nat_lt u.block.0 (length a.func.blocks)) (regs_within a.func u.args) (every_at (target_within a.func) a.block.term.targets i u (parts_at code a.func well half number' a.block above.block).targets at_term))

        by : (p : Option Block) → slice_get a.func.blocks u.block.0 ≡ p →
            Lands code (view s k h) t (ready (with_top stack (went (way_to a.func (Body u.block.0)) (values_at (top task).regs u.args) stack.top)))
            (ready (with_top stack' (went (into a.func u.block) (values_at (top task').regs u.args) stack'.top)))
        by None none = absurd (beyond a.func.blocks u.block.0 (edge_inside code a.func well half number' a.block above.block i u.block.0 leads) none)
        by (Some b) there =
            subst (λ (x : Bool). Lands code (view s k h) t (ready (record { is_root = x; top = went (way_to a.func (Body u.block.0)) (values_at (top task).regs u.args) stack.top; below = stack.below })) (ready (with_top stack' (went (into a.func u.block) (values_at (top task').regs u.args) stack'.top)))) (sym a.under.root)
            (lands_at code a.func well half (view s k h) t u.block.0 b there stack'.is_root stack.top stack'.top stack.below stack'.below a.saved a.row.above.func a.row.below.func a.under.frames
            (not_awaited code a.func well half number' i u.block.0 a.block above.block (λ e. no_await (subst (λ (x : Term). x.instr.kind ≡ kind.Await) (sym its_term) e)) leads)
            (values_at (top task).regs u.args) (values_at (top task').regs u.args) (values_alike k.stands h.refs (length a.func.regs) (top task).regs (top task').regs u.args a.both.own few) a.both)

    pub goes_to : (i : ℕ) → plain_step (low code) s t ≡ plain.by_local (goes_by (slice_get term.targets i)) (low code) s t stack → high_step code h t ≡ upper.by_local (goes_by' (slice_get term'.targets i)) code h t stack' → F
    goes_to i lo hi = by (slice_get term'.targets i) refl
      where
        by : (o : Option Target) → slice_get term'.targets i ≡ o → F
        by None none = stuck_here (hi ∙ ap (λ (o : Option Target). upper.by_local (goes_by' o) code h t stack') none ∙ no_end)
        by (Some u) at =
            both_plain code n fl gh args s _ k h _ t _ _ Nothing r.safe refl
            (lo ∙ ap (λ (o : Option Target). plain.by_local (goes_by o) (low code) s t stack) (mapped_there (moved a.func) term'.targets i u at))
            (hi ∙ ap (λ (o : Option Target). upper.by_local (goes_by' o) code h t stack') at)
            (moves code s k h t task task' _ _ s.buffers h.plain.buffers r.agree r.now r.now' r.agree.buffers (lands (to_block i u at (slice_get a.func.blocks u.block.0) refl)))

  -- the two branches
  pub stuck_is : (kd : OpKind) → term'.instr.kind ≡ kind.Row kd → ((vs : List Val) → upper.last_ends (shared_row (kind.Row kd)) vs stack'.below stack'.is_root h t ≡ Stuck) → upper.by_local local.Stuck code h t stack' ≡ Stuck
  stuck_is kd is none =
      ap (λ (o : Option Next). maybe Stuck (λ x. upper.stuck_at x h t stack') o) high_next
      ∙ ap (λ (x : LowKind). upper.last_ends (shared_row x) (operands stack' term'.instr) stack'.below stack'.is_root h t) is ∙ none (operands stack' term'.instr)

  other_kind : (kd : OpKind) → term'.instr.kind ≡ kind.Row kd → term'.instr.kind ≡ kind.Await → ⊥
  other_kind kd is e = (let no : kind.Row kd ≡ kind.Await = sym is ∙ e in cc)

  pub one_way : term'.instr.kind ≡ kind.Row op.CfBr → F
  one_way is =
      goes_to (other_kind op.CfBr is) (stuck_is op.CfBr is (λ vs. refl)) 0
      (low_by (jumps (lowered a.func) (slice_get term.targets 0) stack) (ap (λ (x : LowKind). end_step (effect_of x) true (low code) (lowered a.func) term stack) is))
      (high_by (jumps a.func (slice_get term'.targets 0) stack') (ap (λ (x : LowKind). end_step (effect_of x) true code a.func term' stack') is))

  pub two_ways : term'.instr.kind ≡ kind.Row op.CfCondBr → F
  two_ways is =
      goes_to (other_kind op.CfCondBr is) (stuck_is op.CfCondBr is (λ vs. refl)) (branch (number (operands stack' term'.instr) 0))
      (low_by (jumps (lowered a.func) (slice_get term.targets (branch (number (operands stack' term'.instr) 0))) stack)
      (ap (λ (x : LowKind). end_step (effect_of x) true (low code) (lowered a.func) term stack) is
      ∙ ap (λ (m : ℕ). jumps (lowered a.func) (slice_get term.targets (branch m)) stack) (at_alike k.stands h.refs (operands stack term'.instr) (operands stack' term'.instr) 0 alike)))
      (high_by (jumps a.func (slice_get term'.targets (branch (number (operands stack' term'.instr) 0))) stack') (ap (λ (x : LowKind). end_step (effect_of x) true code a.func term' stack') is))

-- a block that branches stays as it is
pub branch_stays : (kd : OpKind) → is_branch (kind.Row kd) ≡ true → (c : Bool) → cond c (task_end (kind.Row kd)) (plain_end (kind.Row kd)) ≡ end.Stays
branch_stays op.CfBr is true = refl
branch_stays op.CfBr is false = refl
branch_stays op.CfCondBr is true = refl
branch_stays op.CfCondBr is false = refl
branch_stays kd is c = cc

pub jump_follows : JumpFollows
jump_follows code n f g args s k h t task task' r at last is = by at.rest.term.instr.kind refl is
  where
    same : at.rest.term ≡ at.block.term
    same = term_of_block at.block.instrs at.block.term (top task').place.at at.rest at.row.above.here

    stays : (kd : OpKind) → at.rest.term.instr.kind ≡ kind.Row kd → is_branch (kind.Row kd) ≡ true → end_of at.func at.block ≡ end.Stays
    stays kd e yes' =
        let its : at.block.term.instr.kind ≡ kind.Row kd = subst (λ (x : Term). x.instr.kind ≡ kind.Row kd) same e in
        ap (λ (x : LowKind). cond at.func.coroutine (task_end x) (plain_end x)) its ∙ branch_stays kd yes' at.func.coroutine

    by : (x : LowKind) → at.rest.term.instr.kind ≡ x → is_branch x ≡ true → Followed code n f g args s k h t
    by kind.Launch e yes' = cc
    by kind.Await e yes' = cc
    by (kind.Row op.CfBr) e yes' = one_way code n f g args s k h t task task' r at last (stays op.CfBr e yes') e
    by (kind.Row op.CfCondBr) e yes' = two_ways code n f g args s k h t task task' r at last (stays op.CfCondBr e yes') e
    by (kind.Row kd) e yes' = cc
