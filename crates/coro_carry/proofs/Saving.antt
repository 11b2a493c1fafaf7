-- An await of a task: its state is saved, it waits, and is suspended.
use Rattle.std.proofs.Common.{inl, inr, ◌≡◌, ◌≢◌, ◌≤◌, ◌<◌, ℕ, ◌+◌, ◌*◌, ◌==◌, ◌&&◌, cond, Bool, true, false, List, [], ◌∷◌, ◌++◌, map, length, Option, Some, None, refl, sym, ap, ◌∙◌, subst, arith}
use Rattle.std.specs.Prelude.{slice_get}
use Rattle.std.proofs.lemmas.Option.{slice_get_within}
use Rattle.op_table.specs.declared.kind.OpKind.TheVariants as op
use Rattle.ir_forms.specs.declared.args.ArgValue.{ArgValue}
use Rattle.ir_forms.specs.declared.runs.FuncNo.{FuncNo}
use Rattle.ir_forms.specs.declared.runs.ObjNo.{ObjNo}
use Rattle.low_forms.specs.declared.code.Block.{Block}
use Rattle.low_forms.specs.declared.code.Instr.{Instr}
use Rattle.low_forms.specs.declared.code.LowFunc.{LowFunc}
use Rattle.low_forms.specs.declared.code.LowKind.{LowKind}
use Rattle.low_forms.specs.declared.code.LowKind.TheVariants as kind
use Rattle.low_forms.specs.declared.code.LowModule.{LowModule}
use Rattle.low_forms.specs.declared.code.Reg.{Reg}
use Rattle.low_forms.specs.declared.code.Target.{Target}
use Rattle.low_forms.specs.declared.code.Term.{Term}
use Rattle.low_forms.specs.declared.row.LowRow.{LowRow}
use Rattle.std.proofs.lemmas.Bool.Decides.{eqb_tells}
use Rattle.low_forms.specs.Fits.{fill, attr_fits, operands_fit, results_fit, instr_fits, targets_fit, term_fits, reg_fits}
use Rattle.low_forms.specs.declared.row.Slot.TheVariants as slot
use Rattle.low_forms.specs.Places.{Remaining, remaining_of}
use Rattle.low_forms.specs.Rows.{row_of}
use Rattle.low_forms.specs.WellFormed.{IsWellFormed}
use Rattle.low_forms.proofs.Words.{and_left, and_right}
use Rattle.source_meaning.specs.Values.{maybe}
use Rattle.async_objects.specs.declared.kinds.Val.{Val}
use Rattle.async_objects.specs.declared.kinds.Val.TheVariants as val
use Rattle.task_stack.specs.declared.effects.Effect.{Effect}
use Rattle.task_stack.specs.declared.frames.Activation.{Activation}
use Rattle.task_stack.specs.declared.frames.Saved.{Saved}
use Rattle.task_stack.specs.declared.frames.Saved.TheVariants as saved_as
use Rattle.task_stack.specs.Effects.{effect_of}
use Rattle.task_stack.specs.Registers.{held, bind, value}
use Rattle.task_stack.specs.Frames.{Stack, Way, went, saving, settled}
use Rattle.task_stack.specs.Local as local
use Rattle.task_stack.specs.Local.{Local, Standing, standing, operands, with_top, goes, side, target_way, inner_step, end_step, step_in, free_step}
use Rattle.task_stack.specs.Shared.{Next as Ahead, next_of, first_of, kept, kept_in, becomes, passed}
use Rattle.step_core.specs.declared.tasks.Task.{Task}
use Rattle.step_core.specs.State.{Plain, ready}
use Rattle.step_core.specs.Rows.{shared_row}
use Rattle.step_core.specs.Shared as core
use Rattle.step_core.specs.Shared.{Took, Stuck, Takes, on_object, shared_step}
use Rattle.step_core.specs.Plain as plain
use Rattle.step_core.specs.Plain.{plain_step}
use Rattle.step_core.specs.High as upper
use Rattle.step_core.specs.High.{High, high_step, Ref}
use Rattle.code_machines.specs.Objects.{Objects}
use Rattle.coro_lower.specs.declared.label.End.{End}
use Rattle.coro_lower.specs.declared.label.End.TheVariants as end
use Rattle.coro_lower.specs.declared.label.Label.TheVariants.{Body, Next, Cleanup, Suspended}
use Rattle.coro_lower.specs.Layout.{end_of, plain_end, place, target_at}
use Rattle.coro_lower.specs.Registers.{saved, made, handle}
use Rattle.coro_lower.specs.Rows.{row, called}
use Rattle.coro_lower.specs.Shape as shape
use Rattle.coro_lower.specs.Shape.{suspend, before_end, term_of, next, lowered}
use Rattle.coro_laws.specs.Half.{IsHalfLowered}
use Rattle.coro_laws.proofs.Awaiting.{AwaitsAt, term_at, waits, waits_await, edge_inside, go_inside}
use Rattle.coro_laws.proofs.Making.{is_task_end, no_task_end}
use Rattle.plain_carry.specs.Alike.{AlikeVal, AllBelow, SameObject}
use Rattle.coro_carry.specs.Relation.{View, view, Data, Above, Below, SameRow, remains, AllWait, AtRow, Awaits, WaitsFor, Saves, Suspends, Tests, Match, saves, suspends, tests, Agree, top}
use Rattle.coro_carry.specs.Laws.{AgreeAt, Running, Followed, SaveFollows}
use Rattle.coro_carry.proofs.Lists.{all_below, term_of_block, in_code_on, beyond}
use Rattle.coro_carry.proofs.Frames.{data_put, Within, last_in}
use Rattle.coro_carry.proofs.Landing.{block_no, way_to, next_stands}
use Rattle.coro_carry.proofs.Steps.{low, above_stands, below_stands, low_steps, low_parked, high_steps, moves_alone, moves_waiting, never_stuck, silent, idle}
use Rattle.coro_carry.proofs.Waiting.{awaited_faces, Same, same_there, waits_now}

-- ---- an await has one operand

pub one_operand : (code : LowModule) (f : LowFunc) (i : Instr) → i.kind ≡ kind.Await → instr_fits code f i ≡ true → (r : Reg) × (i.operands ≡ r ∷ [])
one_operand code f i is fits = one i.operands here
  where
    filled : operands_fit (row_of i.kind) code f i ≡ true
    filled =
        let three : ((row_of i.kind).stands && attr_fits (row_of i.kind).attr code i.attr && operands_fit (row_of i.kind) code f i) ≡ true =
        and_left ((row_of i.kind).stands && attr_fits (row_of i.kind).attr code i.attr && operands_fit (row_of i.kind) code f i) (results_fit (row_of i.kind) code f i) fits in
        and_right ((row_of i.kind).stands && attr_fits (row_of i.kind).attr code i.attr) (operands_fit (row_of i.kind) code f i) three

    here : operands_fit (row_of kind.Await) code f i ≡ true
    here = subst (λ (x : LowKind). operands_fit (row_of x) code f i ≡ true) is filled

    one : (rs : List Reg) → fill (slot.Object ∷ slot.Absent ∷ slot.Absent ∷ []) (row_of kind.Await) code f i rs ≡ true → (r : Reg) × (rs ≡ r ∷ [])
    one [] fit = cc
    one (r ∷ []) fit = (r, refl)
    one (r ∷ q ∷ rs) fit = elim (eqb_tells (length (q ∷ rs)) 0) [
      | inl same ↦ (let none : length (q ∷ rs) ≡ 0 = same.1 in absurd (omega (arith, none)))
      | inr other ↦ (let no : (length (q ∷ rs) == 0) ≡ false = other.0 in let yes' : (length (q ∷ rs) == 0) ≡ true = and_right (reg_fits slot.Object f i r) (length (q ∷ rs) == 0) fit in cc)
    ]

-- ---- at an await

module _ (code : LowModule) (n : FuncNo) (fl gh : LowFunc) (args : List ArgValue) (s : Plain) (k : Objects) (h : High) (t : ℕ) (task task' : Task) (r : Running code n fl gh args s k h t task task')
    (a : AtRow code (view s k h) t task task') (last : a.rest.instrs ≡ []) (e : End) (ends : end_of a.func a.block ≡ e) (awaits : waits e ≡ true) where
  abbrev F : Type 0
  F = Followed code n fl gh args s k h t

  abbrev stack : Stack
  stack = task.stack

  abbrev pub number' : ℕ
  number' = (top task').place.block.0

  abbrev pub term' : Term
  term' = a.rest.term

  pub above : Above code (top task').place a.func a.block (record { instrs = []; term = term' })
  above = record {
    func = a.row.above.func;
    block = a.row.above.block;
    here = a.row.above.here ∙ ap (λ (xs : List Instr). let m : Remaining = record { instrs = xs; term = a.rest.term } in Some m) last;
  }

  pub well : IsWellFormed code a.func
  well = r.well (top task').place.func.0 a.func a.row.above.func

  pub half : IsHalfLowered a.func
  half = r.half (top task').place.func.0 a.func a.row.above.func

  pub its_term : term' ≡ a.block.term
  its_term = term_of_block a.block.instrs a.block.term (top task').place.at (record { instrs = []; term = term' }) above.here

  pub its_kind : a.block.term.instr.kind ≡ kind.Await
  its_kind = waits_await a.func.coroutine a.block.term.instr.kind (ap waits ends ∙ awaits)

  pub operand : (q : Reg) × (a.block.term.instr.operands ≡ q ∷ [])
  operand = one_operand code a.func a.block.term.instr its_kind (and_left (instr_fits code a.func a.block.term.instr) (targets_fit (row_of a.block.term.instr.kind).targets code a.func a.block.term.instr a.block.term.targets) (term_at code a.func well half number' a.block above.block))

  abbrev pub awaited : Reg
  awaited = operand.0

  pub operands_are : term'.instr.operands ≡ awaited ∷ []
  operands_are = ap (λ (x : Term). x.instr.operands) its_term ∙ operand.1

  pub below : Below (top task).place (top task').place a.func (record { instrs = before_end e a.func number' (awaited ∷ []); term = term_of e a.func number' term' })
  below = record {
    func = a.row.below.func;
    here = a.row.below.here ∙ ap (λ (xs : List Instr). Some (remains (end_of a.func a.block) a.func number' (record { instrs = xs; term = a.rest.term }))) last
        ∙ ap (λ (x : End). Some (remains x a.func number' (record { instrs = []; term = a.rest.term }))) ends
        ∙ ap (λ (xs : List Reg). let m : Remaining = record { instrs = before_end e a.func number' xs; term = term_of e a.func number' term' } in Some m) operands_are;
  }

  pub at_await : (regs : List Val) → Data (view s k h) t a.func regs (top task').regs → (x : Task) → x.stack.is_root ≡ stack.is_root → x.stack.below ≡ stack.below → Awaits code (view s k h) t x task' regs
  at_await regs d x root frames = record {
    func = a.func;
    block = a.block;
    term = term';
    awaited = awaited;
    above = above;
    kind = ap (λ (x : Term). x.instr.kind) its_term ∙ its_kind;
    one = operands_are;
    both = d;
    under = record { root = root ∙ a.under.root; frames = subst (λ fs. AllWait code (view s k h) t fs task'.stack.below) (sym frames) a.under.frames };
  }

-- ---- the state is saved

module _ (code : LowModule) (n : FuncNo) (fl gh : LowFunc) (args : List ArgValue) (s : Plain) (k : Objects) (h : High) (t : ℕ) (task task' : Task) (r : Running code n fl gh args s k h t task task')
    (a : AtRow code (view s k h) t task task') (last : a.rest.instrs ≡ []) (ends : end_of a.func a.block ≡ end.Suspends) where
  abbrev f : LowFunc
  f = a.func

  abbrev b : ℕ
  b = (top task').place.block.0

  abbrev state : Reg
  state = saved f b

  abbrev its : Reg
  its = awaited code n fl gh args s k h t task task' r a last end.Suspends ends refl

  abbrev save : Instr
  save = row op.AsyncCoroSave (handle f ∷ []) (state ∷ [])

  abbrev resume : Instr
  resume = row op.AsyncRuntimeAwaitAndResume (its ∷ handle f ∷ []) []

  abbrev leaves : Term
  leaves = suspend f state (Next b)

  abbrev after : Task
  after = ready (with_top task.stack (saving (state ∷ []) task.stack.top))

  abbrev blocks_at : Option Block
  blocks_at = slice_get (lowered f).blocks (top task).place.block.0

  here : Below (top task).place (top task').place f (record { instrs = save ∷ resume ∷ []; term = leaves })
  here = below code n fl gh args s k h t task task' r a last end.Suspends ends refl

  behind_one : remaining_of blocks_at ((top task).place.at + 1) ≡ Some (record { instrs = resume ∷ []; term = leaves })
  behind_one = in_code_on blocks_at (top task).place.at save (resume ∷ []) leaves here.here

  behind_two : remaining_of blocks_at ((top task).place.at + 1 + 1) ≡ Some (record { instrs = []; term = leaves })
  behind_two = in_code_on blocks_at ((top task).place.at + 1) resume [] leaves behind_one

  within_blocks : b < length f.blocks
  within_blocks = slice_get_within f.blocks b a.block a.row.above.block

  far : length f.regs ≤ state.0
  far = omega arith

  other : (j : ℕ) → (made f j).0 ≢ state.0
  other j e = (let same : length f.regs + 2 * length f.blocks + j ≡ length f.regs + length f.blocks + b = e in let less : b < length f.blocks = within_blocks in omega (arith, same, less))

  now : Data (view s k h) t f (top after).regs (top task').regs
  now = data_put f (view s k h) t state.0 (val.Number 0) (top task).regs (top task').regs far other a.both

  is_saved : Saves code (view s k h) t after task'
  unfolding at_await
  is_saved = record {
    copy = record { place = record { func = (top task).place.func; block = (top task).place.block; at = (top task).place.at + 1 + 1 }; regs = (top after).regs };
    kept = refl;
    at = at_await code n fl gh args s k h t task task' r a last end.Suspends ends refl (top after).regs now after refl refl;
    same = refl;
    ends = ends;
    below = record { func = here.func; here = behind_one };
    behind = record { func = here.func; here = behind_two };
    ready = refl;
  }

  stands : standing (low code) (top task).place ≡ Some (record { func = lowered f; rest = record { instrs = save ∷ resume ∷ []; term = leaves } })
  stands = below_stands code (top task).place (top task').place f (record { instrs = save ∷ resume ∷ []; term = leaves }) a.row.above.func here

  steps : plain_step (low code) s t ≡ core.goes_on s t after.stack core.Nothing
  steps =
      low_steps code s t task r.now a.ready
      ∙ ap (λ (o : Option Standing). plain.by_local (maybe local.Stuck (λ st. step_in true (low code) st.func st.rest.instrs st.rest.term task.stack) o) (low code) s t task.stack) stands

  pub save_goes : Followed code n fl gh args s k h t
  save_goes = silent code n fl gh args s _ k h t [] steps (moves_alone code s k h t task task' after r.agree r.now r.now' (saves is_saved))

pub save_follows : SaveFollows
save_follows code n f g args s k h t task task' r a last ends = save_goes code n f g args s k h t task task' r a last ends

-- ---- the second code's await needs an object

module _ (code : LowModule) (n : FuncNo) (fl gh : LowFunc) (args : List ArgValue) (s : Plain) (k : Objects) (h : High) (t : ℕ) (task task' : Task) (r : Running code n fl gh args s k h t task task')
    (f : LowFunc) (b : Block) (term : Term) (above' : Above code (top task').place f b (record { instrs = []; term = term })) (is : term.instr.kind ≡ kind.Await) (q : Reg) (one : term.instr.operands ≡ q ∷ []) where
  abbrev v' : Val
  v' = held (top task').regs q.0

  stands_there : standing code (top task').place ≡ Some (record { func = f; rest = record { instrs = []; term = term } })
  stands_there = above_stands code (top task').place f b (record { instrs = []; term = term }) above'

  next_there : next_of code task'.stack ≡ Some (record { func = f; instr = term.instr })
  next_there = ap (λ (o : Option Standing). maybe None (λ st. let x : Ahead = record { func = st.func; instr = first_of st.rest.instrs st.rest.term } in Some x) o) stands_there

  pub awaits_is : high_step code h t ≡ upper.on_ref v' h (λ o ref. upper.awaits_ref ref f term o h t task'.stack)
  awaits_is =
      high_steps code h t task' r.now'
      ∙ ap (λ (x : Local). upper.by_local x code h t task'.stack)
      (ap (λ (o : Option Standing). maybe local.Stuck (λ st. step_in true code st.func st.rest.instrs st.rest.term task'.stack) o) stands_there ∙ ap (λ (x : LowKind). end_step (effect_of x) true code f term task'.stack) is)
      ∙ ap (λ (o : Option Ahead). maybe Stuck (λ x. maybe Stuck (λ st. upper.shared_at code x st.rest.term h t task'.stack) (standing code (top task').place)) o) next_there
      ∙ ap (λ (o : Option Standing). maybe Stuck (λ st. upper.shared_at code (record { func = f; instr = term.instr }) st.rest.term h t task'.stack) o) stands_there
      ∙ ap (λ (x : LowKind). upper.shared_kind_step x code f term.instr term (operands task'.stack term.instr) h t task'.stack) is
      ∙ ap (λ (xs : List Reg). upper.on_ref (value (map (λ (x : Reg). held (top task').regs x.0) xs) 0) h (λ o ref. upper.awaits_ref ref f term o h t task'.stack)) one

  pub record Names (v : Val) : Type 0 where
    pub object : ObjNo
    pub object' : ObjNo
    pub holds : v ≡ val.Object object
    pub holds' : v' ≡ val.Object object'
    pub same : Same code s k h object object'

  names_by : (v w : Val) → v' ≡ w → AlikeVal k.stands h.refs v w → Names v
  names_by (val.Number x) (val.Number y) e same = absurd (never_stuck code n fl gh args h t r.safe (awaits_is ∙ ap (λ (z : Val). upper.on_ref z h (λ o ref. upper.awaits_ref ref f term o h t task'.stack)) e))
  names_by (val.Number x) (val.Buffer y rank dims) e same = elim same [ ]
  names_by (val.Number x) (val.Object p) e same = elim same [ ]
  names_by (val.Buffer x rank dims) (val.Number y) e same = elim same [ ]
  names_by (val.Buffer x rank dims) (val.Buffer y rank' dims') e same = absurd (never_stuck code n fl gh args h t r.safe (awaits_is ∙ ap (λ (z : Val). upper.on_ref z h (λ o ref. upper.awaits_ref ref f term o h t task'.stack)) e))
  names_by (val.Buffer x rank dims) (val.Object p) e same = elim same [ ]
  names_by (val.Object o) (val.Number y) e same = elim same [ ]
  names_by (val.Object o) (val.Buffer y rank dims) e same = elim same [ ]
  names_by (val.Object o) (val.Object p) e same = record { object = o; object' = p; holds = refl; holds' = e; same = same_there code s k h o p r.agree same }

  pub names : (v : Val) → AlikeVal k.stands h.refs v v' → Names v
  names v alike = names_by v v' refl alike
