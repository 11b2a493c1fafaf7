-- What was awaited is looked at, and both codes go on.
use Rattle.std.proofs.Common.{inl, inr, zero, suc, ◌≡◌, ◌≢◌, ◌≤◌, ◌<◌, ℕ, ◌+◌, ◌*◌, ◌==◌, ◌&&◌, cond, Bool, true, false, List, [], ◌∷◌, ◌++◌, map, length, Option, Some, None, refl, sym, ap, ◌∙◌, subst, arith}
use Rattle.std.specs.Prelude.{slice_get}
use Rattle.std.proofs.lemmas.Option.{slice_get_within}
use Rattle.op_table.specs.declared.kind.OpKind.TheVariants as op
use Rattle.ir_forms.specs.declared.args.ArgValue.{ArgValue}
use Rattle.ir_forms.specs.declared.runs.FuncNo.{FuncNo}
use Rattle.ir_forms.specs.declared.runs.ObjNo.{ObjNo}
use Rattle.low_forms.specs.declared.code.Block.{Block}
use Rattle.low_forms.specs.declared.code.Instr.{Instr}
use Rattle.low_forms.specs.declared.code.LowFunc.{LowFunc}
use Rattle.low_forms.specs.declared.code.LowKind.{LowKind}
use Rattle.low_forms.specs.declared.code.LowKind.TheVariants as kind
use Rattle.low_forms.specs.declared.code.LowModule.{LowModule}
use Rattle.low_forms.specs.declared.code.Reg.{Reg}
use Rattle.low_forms.specs.declared.code.Target.{Target}
use Rattle.low_forms.specs.declared.code.Term.{Term}
use Rattle.low_forms.specs.declared.row.LowRow.{LowRow}
use Rattle.std.proofs.lemmas.Bool.Decides.{eqb_tells}
use Rattle.low_forms.specs.Fits.{fill, attr_fits, operands_fit, results_fit, instr_fits, targets_fit, term_fits, reg_fits}
use Rattle.low_forms.specs.declared.row.Slot.TheVariants as slot
use Rattle.low_forms.specs.Places.{Remaining, remaining_of}
use Rattle.low_forms.specs.Edges.{blocks_of}
use Rattle.low_forms.specs.Owns.{params_of}
use Rattle.low_forms.specs.Registers.{block_at}
use Rattle.std.proofs.lemmas.Bool.{ltb-true}
use Rattle.register_laws.proofs.Lists.{mapped_there}
use Rattle.coro_carry.specs.Machines.{holds_some, takes_value, is_given, outcome_gives, ref_gives, val_gives, await_gives, gives_in, gives_at, gives}
use Rattle.low_forms.specs.WellFormed.{IsWellFormed}
use Rattle.low_forms.proofs.Words.{and_left, and_right}
use Rattle.source_meaning.specs.Values.{maybe, or_else}
use Rattle.source_meaning.specs.Rows.{bit}
use Rattle.async_objects.specs.Objects.{is_done, is_error, state_of, object_at}
use Rattle.async_objects.specs.declared.object.Object.{Object}
use Rattle.async_objects.specs.declared.kinds.Val.{Val}
use Rattle.async_objects.specs.declared.kinds.Val.TheVariants as val
use Rattle.task_stack.specs.declared.effects.Effect.{Effect}
use Rattle.task_stack.specs.declared.frames.Activation.{Activation}
use Rattle.task_stack.specs.declared.frames.Saved.{Saved}
use Rattle.task_stack.specs.declared.frames.Saved.TheVariants as saved_as
use Rattle.task_stack.specs.Effects.{effect_of}
use Rattle.task_stack.specs.Registers.{nothing, held, bind, value, number_in}
use Rattle.task_stack.specs.Frames.{Stack, Way, into, went}
use Rattle.task_stack.specs.Local as local
use Rattle.task_stack.specs.Local.{Local, Standing, standing, operands, with_top, target_way, inner_step, end_step, step_in, free_step}
use Rattle.task_stack.specs.Shared.{Next as Ahead, next_of, first_of, kept, kept_in, becomes, passed}
use Rattle.step_core.specs.declared.tasks.Task.{Task}
use Rattle.step_core.specs.State.{Plain, ready}
use Rattle.step_core.specs.Rows.{shared_row}
use Rattle.step_core.specs.Shared as core
use Rattle.step_core.specs.Shared.{Took, Stuck, Idle, Takes, on_object, shared_step}
use Rattle.step_core.specs.Plain as plain
use Rattle.step_core.specs.Plain.{plain_step}
use Rattle.step_core.specs.High as upper
use Rattle.step_core.specs.High.{High, high_step, Ref, Outcome, Gathering, has_failed}
use Rattle.code_machines.specs.HighCode.{looks_at}
use Rattle.code_machines.specs.Objects.{Stands, reads_look, Objects}
use Rattle.coro_lower.specs.declared.label.End.{End}
use Rattle.coro_lower.specs.declared.label.End.TheVariants as end
use Rattle.coro_lower.specs.declared.label.Label.TheVariants.{Body, Next, Cleanup, Suspended}
use Rattle.coro_lower.specs.Layout.{end_of, plain_end, place, target_at}
use Rattle.coro_lower.specs.Registers.{flag, made}
use Rattle.coro_lower.specs.Rows.{row, called}
use Rattle.coro_lower.specs.Shape as shape
use Rattle.coro_lower.specs.Shape.{suspend, before_end, term_of, next, lowered}
use Rattle.coro_laws.specs.Half.{IsHalfLowered}
use Rattle.coro_laws.proofs.Awaiting.{Two, AwaitsAt, edge_inside, await_edges, awaiting_is}
use Rattle.coro_laws.proofs.Making.{is_task_end, no_task_end}
use Rattle.plain_carry.specs.Alike.{stands_for, AlikeVal, AllBelow}
use Rattle.plain_carry.proofs.Values.{put_same, put_other}
use Rattle.coro_carry.specs.Relation.{View, view, all_over, one_bad, Holding, Settled, Data, Above, Below, SameRow, remains, AllWait, AtRow, at_row, AtLoad, Lands, jumped, Tested, lands, tested, Awaits, WaitsFor, Saves, Suspends, Tests, Match, saves, suspends, tests, Agree, top}
use Rattle.coro_carry.specs.Laws.{AgreeAt, Running, Followed, TestFollows}
use Rattle.coro_carry.proofs.Lists.{all_below, term_of_block, in_code_on, beyond}
use Rattle.coro_carry.proofs.Frames.{data_put, data_bound, Within, last_in}
use Rattle.coro_carry.proofs.Landing.{block_no, way_to, failed_not_awaited, lands_at, lands_go}
use Rattle.coro_carry.proofs.Steps.{can_step, both, moves, low, above_stands, below_stands, low_steps, low_parked, high_steps, moves_alone, moves_waiting, never_stuck, silent, idle}
use Rattle.coro_carry.proofs.Waiting.{done_face, state_face, There, there, Same}
use Rattle.coro_carry.proofs.Saving.{Names, awaits_is, names}

-- ---- what groups have gathered, as both say it

all_same : (h : High) (qs : List ℕ) → upper.all_ended h qs ≡ all_over h.outcomes qs
all_same h [] = refl
all_same h (q ∷ qs) = ap (λ (b : Bool). maybe false (λ o. b) (upper.outcome h q)) (all_same h qs)

bad_same : (h : High) (qs : List ℕ) → upper.one_failed h qs ≡ one_bad h.outcomes qs
bad_same h [] = refl
bad_same h (q ∷ qs) = ap (λ (b : Bool). cond (maybe false has_failed (upper.outcome h q)) true b) (bad_same h qs)

get_some : {A : Type 0} (xs : List A) (i : ℕ) → i < length xs → (x : A) × (slice_get xs i ≡ Some x)
get_some [] i less = absurd (omega (arith, less))
get_some (x ∷ xs) zero less = (x, refl)
get_some (x ∷ xs) (suc i) less = get_some xs i (omega (arith, less))

-- what is shown of the look
shown_same : (t : ℕ) (ref : Ref) → reads_look t (Some (stands_for ref)) ++ [] ≡ looks_at t (Some ref)
shown_same t (upper.Element q j) = refl
shown_same t (upper.Group g) = refl

module _ (code : LowModule) (n : FuncNo) (fl gh : LowFunc) (args : List ArgValue) (s : Plain) (k : Objects) (h : High) (t : ℕ) (task task' : Task) (r : Running code n fl gh args s k h t task task')
    (m : Tests code (view s k h) t task task') (ready_now : task.parked ≡ None) where
  abbrev f : LowFunc
  f = m.at.func

  abbrev b : ℕ
  b = (top task').place.block.0

  abbrev q : Reg
  q = m.at.awaited

  abbrev term : Term
  term = m.at.term

  abbrev v : Val
  v = held (top task).regs q.0

  abbrev test : Instr
  test = shape.is_error f b (q ∷ [])

  abbrev splits : Term
  splits = shape.branch f b term.targets

  abbrev here : Remaining
  here = record { instrs = test ∷ []; term = splits }

  its_term : term ≡ m.at.block.term
  its_term = term_of_block m.at.block.instrs m.at.block.term (top task').place.at (record { instrs = []; term = term }) m.at.above.here

  well : IsWellFormed code f
  well = r.well (top task').place.func.0 f m.at.above.func

  half : IsHalfLowered f
  half = r.half (top task').place.func.0 f m.at.above.func

  -- the object
  abbrev V : View
  V = view s k h

  waits_for : WaitsFor V None v
  waits_for = subst (λ (p : Option ObjNo). WaitsFor V p v) ready_now m.waits

  is_await : m.at.block.term.instr.kind ≡ kind.Await
  is_await = ap (λ (x : Term). x.instr.kind) (sym its_term) ∙ m.at.kind

  kind_is : term.instr.kind ≡ kind.Await
  kind_is = m.at.kind

  within : AllBelow (length f.regs) (q ∷ [])
  within =
      let inside : Within f m.at.block.term.instr = last_in code f well half b m.at.block m.at.above.block in
      subst (λ (xs : List Reg). AllBelow (length f.regs) xs) m.at.one (subst (λ (x : Term). AllBelow (length f.regs) x.instr.operands) (sym its_term) inside.operands)

  it : Names code n fl gh args s k h t task task' r f m.at.block term m.at.above kind_is q m.at.one v
  it = names code n fl gh args s k h t task task' r f m.at.block term m.at.above kind_is q m.at.one v (m.at.both.own q.0 within.0)

  abbrev o : ObjNo
  o = it.object

  abbrev p : ObjNo
  p = it.object'

  abbrev face : Object
  face = it.same.face

  done : is_done face ≡ true
  done =
      let both : val.Object o ≡ val.Object waits_for.0 = sym it.holds ∙ waits_for.2 in
      let same : o ≡ waits_for.0 = cc in
      let faces : Some face ≡ Some waits_for.1 = sym it.same.faced ∙ ap (λ (x : ObjNo). slice_get V.faces x.0) same ∙ waits_for.3 in
      let one : face ≡ waits_for.1 = cc in
      ap is_done one ∙ waits_for.4

  settled_it : Settled V face (Some (stands_for it.same.ref))
  settled_it = subst (λ (x : Option Stands). Settled V face x) it.same.stands (r.agree.settled o.0 face it.same.faced done)

  abbrev err : Bool
  err = is_error (state_of (object_at s.objects o))

  err_is : is_error (state_of face) ≡ err
  err_is = ap is_error (ap state_of (sym it.same.object.same) ∙ state_face it.same.object.object ∙ ap state_of (sym it.same.object.is))

  done_there : is_done (object_at s.objects o) ≡ true
  done_there = ap is_done it.same.object.is ∙ sym (done_face it.same.object.object) ∙ ap is_done it.same.object.same ∙ done

  -- the first code
  stands : standing (low code) (top task).place ≡ Some (record { func = lowered f; rest = here })
  stands = below_stands code (top task).place (top task').place f here m.at.above.func m.below

  next_is : next_of (low code) task.stack ≡ Some (record { func = lowered f; instr = test })
  next_is = ap (λ (x : Option Standing). maybe None (λ st. let y : Ahead = record { func = st.func; instr = first_of st.rest.instrs st.rest.term } in Some y) x) stands

  abbrev after : Task
  after = ready (core.on task.stack test (val.Number (bit err) ∷ []))

  steps : plain_step (low code) s t ≡ core.goes_on s t after.stack (core.Looks o)
  steps =
      low_steps code s t task r.now ready_now
      ∙ ap (λ (x : Option Standing). plain.by_local (maybe local.Stuck (λ st. step_in true (low code) st.func st.rest.instrs st.rest.term task.stack) x) (low code) s t task.stack) stands
      ∙ ap (λ (x : Option Ahead). maybe Stuck (λ y. shared_step (shared_row y.instr.kind) y.func y.instr (operands task.stack y.instr) s t task.stack) x) next_is
      ∙ ap (λ (x : Val). on_object x (core.looks s t task.stack test)) it.holds
      ∙ ap (λ (x : Bool). core.where_so x (core.goes_on s t after.stack (core.Looks o))) done_there

  -- the second code
  high_at : high_step code h t ≡ upper.awaits_ref it.same.ref f term p h t task'.stack
  high_at =
      awaits_is code n fl gh args s k h t task task' r f m.at.block term m.at.above kind_is q m.at.one
      ∙ ap (λ (x : Val). upper.on_ref x h (λ y ref. upper.awaits_ref ref f term y h t task'.stack)) it.holds'
      ∙ ap (λ (x : Option Ref). maybe Stuck (λ ref. upper.awaits_ref ref f term p h t task'.stack) x) it.same.refers

  two : Two code f m.at.block.term
  two = await_edges code f well half b m.at.block m.at.above.block is_await

  targets : term.targets ≡ two.go ∷ two.failed ∷ []
  targets = ap (λ (x : Term). x.targets) its_term ∙ two.targets

  -- where the block that goes on takes a value, there is one
  gives_is : gives code h t ≡ cond (takes_value f term) (ref_gives h it.same.ref) true
  gives_is =
      ap (λ (x : Option (Option Task)). maybe true (λ y. gives_at code h y.stack) (or_else None x)) r.now'
      ∙ ap (λ (x : Option Standing). maybe true (λ st. gives_in st.rest.instrs st.func st.rest.term h task'.stack) x) (above_stands code (top task').place f m.at.block (record { instrs = []; term = term }) m.at.above)
      ∙ ap (λ (x : LowKind). await_gives x f term h task'.stack) kind_is
      ∙ ap (λ (xs : List Reg). cond (takes_value f term) (val_gives h (value (map (λ (x : Reg). held (top task').regs x.0) xs) 0)) true) m.at.one
      ∙ ap (λ (x : Val). cond (takes_value f term) (val_gives h x) true) it.holds'
      ∙ ap (λ (x : Option Ref). cond (takes_value f term) (maybe true (ref_gives h) x) true) it.same.refers

  takes_one : (c : Block) → slice_get f.blocks two.go.block.0 ≡ Some c → (x : Reg) (xs : List Reg) → c.params ≡ x ∷ xs → takes_value f term ≡ true
  takes_one c at x xs params =
      ap (λ (ts : List Target). maybe false (λ target. holds_some (params_of (block_at f target.block))) (slice_get ts 0)) targets
      ∙ ap (λ (y : Option Block). holds_some (params_of y)) at ∙ ap holds_some params

  gives_one : (c : Block) → slice_get f.blocks two.go.block.0 ≡ Some c → (x : Reg) (xs : List Reg) → c.params ≡ x ∷ xs → ref_gives h it.same.ref ≡ true
  gives_one c at x xs params =
      sym (ap (λ (y : Bool). cond y (ref_gives h it.same.ref) true) (takes_one c at x xs params)) ∙ sym gives_is ∙ (can_step code n fl gh args h t r.safe).0

  -- both go on, the second code's task to this block with these values
  abbrev GoesTo : Bool → List Val → Type 0
  GoesTo failed ws = high_step code h t ≡ upper.goes_to f term (cond failed 1 0) ws p h t task'.stack

  abbrev Value : List Val → Type 0
  Value ws = (x : Val) × (y : Val) × (face.payload ≡ Some x) × AlikeVal k.stands h.refs x y × (ws ≡ y ∷ [])

  abbrev HasValue : Bool → List Val → Type 0
  HasValue true ws = ws ≡ []
  HasValue false ws = (c : Block) → slice_get f.blocks two.go.block.0 ≡ Some c → (x : Reg) (xs : List Reg) → c.params ≡ x ∷ xs → Value ws

  record Goes (failed : Bool) : Type 0 where
    pub ws : List Val
    pub goes : GoesTo failed ws
    pub has : HasValue failed ws

  given_value : (vals : List Val) (j : ℕ) → Holding V face (upper.Gave vals) j → is_given vals j ≡ true → Value (upper.given_at vals j)
  given_value vals zero holding is = cc
  given_value vals (suc j) holding is =
      let w = get_some vals j (ltb-true j (length vals) is) in
      let x = holding w.0 w.1 in
      (x.0, w.0, x.1, x.2, ap (λ (y : Option Val). or_else nothing y ∷ []) w.1)

  of_outcome : (ref : Ref) → it.same.ref ≡ ref → (g j : ℕ) → ref ≡ upper.Element g j → (e : Outcome) → upper.outcome h g ≡ Some e → Holding V face e j → has_failed e ≡ err → Goes err
  of_outcome ref is g j el (upper.Gave vals) ended holding failed = subst Goes failed (record {
    ws = upper.given_at vals j;
    goes = high_at ∙ ap (λ (x : Ref). upper.awaits_ref x f term p h t task'.stack) (is ∙ el) ∙ ap (λ (x : Option Outcome). maybe Idle (λ y. upper.awaits_outcome y j f term p h t task'.stack) x) ended;
    has = λ c at x xs params. given_value vals j holding (sym (ap (λ (y : Ref). ref_gives h y) (is ∙ el) ∙ ap (λ (y : Option Outcome). maybe true (outcome_gives j) y) ended) ∙ gives_one c at x xs params);
  })
  of_outcome ref is g j el upper.Failed ended holding failed = subst Goes failed (record {
    ws = [];
    goes = high_at ∙ ap (λ (x : Ref). upper.awaits_ref x f term p h t task'.stack) (is ∙ el) ∙ ap (λ (x : Option Outcome). maybe Idle (λ y. upper.awaits_outcome y j f term p h t task'.stack) x) ended;
    has = refl;
  })

  no_value : (x : Bool) (g : ℕ) → it.same.ref ≡ upper.Group g → HasValue x []
  no_value true g is = refl
  no_value false g is = λ c at x xs params. (let no : ref_gives h (upper.Group g) ≡ true = subst (λ (y : Ref). ref_gives h y ≡ true) is (gives_one c at x xs params) in cc)

  goes_by : (ref : Ref) → it.same.ref ≡ ref → Settled V face (Some (stands_for ref)) → Goes err
  goes_by (upper.Element g j) is given = of_outcome (upper.Element g j) is g j refl given.outcome given.ended given.holding (given.failed ∙ err_is)
  goes_by (upper.Group g) is gathered = record {
    ws = [];
    goes = high_at ∙ ap (λ (x : Ref). upper.awaits_ref x f term p h t task'.stack) is
        ∙ ap (λ (x : Option Gathering). maybe Stuck (λ y. upper.awaits_group y f term p h t task'.stack) x) gathered.there
        ∙ ap (λ (x : Bool). cond (cond x (upper.all_ended h gathered.group.members) false) (upper.goes_to f term (cond (upper.one_failed h gathered.group.members) 1 0) [] p h t task'.stack) Idle) gathered.full
        ∙ ap (λ (x : Bool). cond x (upper.goes_to f term (cond (upper.one_failed h gathered.group.members) 1 0) [] p h t task'.stack) Idle) (all_same h gathered.group.members ∙ gathered.over)
        ∙ ap (λ (x : Bool). upper.goes_to f term (cond x 1 0) [] p h t task'.stack) (bad_same h gathered.group.members ∙ gathered.failed ∙ err_is);
    has = no_value err g is;
  }

  goes_it : Goes err
  goes_it = goes_by it.same.ref refl settled_it

  -- where both land
  abbrev flag_reg : Reg
  flag_reg = flag f b

  within_blocks : b < length f.blocks
  within_blocks = slice_get_within f.blocks b m.at.block m.at.above.block

  far : length f.regs ≤ flag_reg.0
  far = omega arith

  other : (j : ℕ) → (made f j).0 ≢ flag_reg.0
  other j e = (let same : length f.regs + 2 * length f.blocks + j ≡ length f.regs + b = e in let less : b < length f.blocks = within_blocks in omega (arith, same, less))

  now : Data V t f (top after).regs (top task').regs
  now = data_put f V t flag_reg.0 (val.Number (bit err)) (top task).regs (top task').regs far other m.at.both

  abbrev after' : Target → List Val → Task
  after' u ws = ready (with_top task'.stack (went (into f u.block) ws task'.stack.top))

  in_block : (i : ℕ) (u : Target) → slice_get m.at.block.term.targets i ≡ Some u → (o : Option Block) → slice_get f.blocks u.block.0 ≡ o → (c : Block) × (slice_get f.blocks u.block.0 ≡ Some c)
  in_block i u at None none = absurd (beyond f.blocks u.block.0 (edge_inside code f well half b m.at.block m.at.above.block i u.block.0 (mapped_there (λ (x : Target). x.block.0) m.at.block.term.targets i u at)) none)
  in_block i u at (Some c) is = (c, is)

  -- the flag's register isn't that of the awaited object
  kept_operand : held (top after).regs q.0 ≡ v
  kept_operand = put_other (top task).regs flag_reg.0 q.0 (val.Number (bit err)) (λ e. let same : q.0 ≡ length f.regs + b = e in let less : q.0 < length f.regs = within.0 in absurd (omega (arith, same, less)))

  abbrev LandsIn : Bool → Target → List Val → Type 0
  LandsIn failed u ws = Lands code V t (jumped f (Body (target_at term.targets (cond failed 1 0))) after) (after' u ws)

  in_failed : (ws : List Val) → ws ≡ [] → LandsIn true two.failed ws
  in_failed ws none =
      let at : slice_get m.at.block.term.targets 1 ≡ Some two.failed = ap (λ (ts : List Target). slice_get ts 1) two.targets in
      let c : (y : Block) × (slice_get f.blocks two.failed.block.0 ≡ Some y) = in_block 1 two.failed at (slice_get f.blocks two.failed.block.0) refl in
      subst (λ (x : ℕ). Lands code V t (jumped f (Body x) after) (after' two.failed ws)) (sym (ap (λ (ts : List Target). target_at ts 1) targets))
      (subst (λ (x : List Val). Lands code V t (jumped f (Body two.failed.block.0) after) (after' two.failed x)) (sym none)
      (subst (λ (x : Bool). Lands code V t (ready (record { is_root = x; top = went (way_to f (Body two.failed.block.0)) [] after.stack.top; below = task.stack.below })) (after' two.failed [])) (sym m.at.under.root)
      (lands_at code f well half V t two.failed.block.0 c.0 c.1 task'.stack.is_root after.stack.top task'.stack.top task.stack.below task'.stack.below m.saved m.at.above.func m.below.func m.at.under.frames
      (failed_not_awaited code f well half b two.failed.block.0 m.at.block m.at.above.block (ap (λ (ts : List Target). slice_get (blocks_of ts) 1) two.targets)) [] [] tt now)))

  awaits_at : AwaitsAt f b two.go.block.0
  awaits_at = record { block = m.at.block; at = m.at.above.block; kind = is_await; go = ap (λ (ts : List Target). target_at ts 0) two.targets }

  in_go : (ws : List Val) → HasValue false ws → LandsIn false two.go ws
  in_go ws value =
      let at : slice_get m.at.block.term.targets 0 ≡ Some two.go = ap (λ (ts : List Target). slice_get ts 0) two.targets in
      let c : (y : Block) × (slice_get f.blocks two.go.block.0 ≡ Some y) = in_block 0 two.go at (slice_get f.blocks two.go.block.0) refl in
      subst (λ (x : ℕ). Lands code V t (jumped f (Body x) after) (after' two.go ws)) (sym (ap (λ (ts : List Target). target_at ts 0) targets))
      (subst (λ (x : Bool). Lands code V t (ready (record { is_root = x; top = went (way_to f (Body two.go.block.0)) [] after.stack.top; below = task.stack.below })) (after' two.go ws)) (sym m.at.under.root)
      (lands_go code f well half V t two.go.block.0 c.0 c.1 task'.stack.is_root after.stack.top task'.stack.top task.stack.below task'.stack.below m.saved m.at.above.func m.below.func m.at.under.frames b
      (awaiting_is code f well half b two.go.block.0 awaits_at) q (ap shape.awaited_at m.at.above.block ∙ ap (λ (x : Term). x.instr.operands) (sym its_term) ∙ m.at.one) ws now
      (λ x xs params. (let y : Value ws = value c.0 c.1 x xs params in record {
        object = o;
        holds = kept_operand ∙ it.holds;
        face = face;
        there = it.same.faced;
        value = y.0;
        value' = y.1;
        payload = y.2;
        alike = y.3;
        one = y.4;
      }))))

  abbrev target_of : Bool → Target
  target_of failed = cond failed two.failed two.go

  lands_in : (failed : Bool) → (g : Goes failed) → LandsIn failed (target_of failed) g.ws
  lands_in true g = in_failed g.ws g.has
  lands_in false g = in_go g.ws g.has

  way_is : (failed : Bool) → target_way f term (cond failed 1 0) ≡ Some (into f (target_of failed).block)
  way_is true = ap (λ (ts : List Target). maybe None (λ u. Some (into f u.block)) (slice_get ts 1)) targets
  way_is false = ap (λ (ts : List Target). maybe None (λ u. Some (into f u.block)) (slice_get ts 0)) targets

  abbrev task_then : Task
  task_then = after' (target_of err) goes_it.ws

  high_steps_to : high_step code h t ≡ upper.goes_on h t task_then.stack (core.Looks p)
  high_steps_to = goes_it.goes ∙ ap (λ (x : Option Way). maybe Stuck (λ way. upper.goes_on h t (with_top task'.stack (went way goes_it.ws task'.stack.top)) (core.Looks p)) x) (way_is err)

  is_tested : Tested code V t after task_then
  is_tested = record {
    func = f;
    number = b;
    targets = term.targets;
    below = record { func = m.below.func; here = in_code_on (slice_get (lowered f).blocks (top task).place.block.0) (top task).place.at test [] splits m.below.here };
    there = m.at.above.func;
    failed = err;
    flagged = put_same (top task).regs flag_reg.0 (val.Number (bit err));
    ready = refl;
    lands = lands_in err goes_it;
  }

  pub test_goes : Followed code n fl gh args s k h t
  test_goes =
      both code n fl gh args s _ k h _ t [] [] (core.Looks o) (core.Looks p) r.safe steps high_steps_to
      (ap (λ (x : Option Stands). reads_look t x ++ []) it.same.stands ∙ shown_same t it.same.ref ∙ ap (λ (x : Option Ref). looks_at t x) (sym it.same.refers))
      (moves code s k h t task task' after task_then s.buffers h.plain.buffers r.agree r.now r.now' r.agree.buffers (tested is_tested))

pub test_follows : TestFollows
test_follows code n f g args s k h t task task' r m = by task.parked refl
  where
    by : (o : Option ObjNo) → task.parked ≡ o → Followed code n f g args s k h t
    by None is = test_goes code n f g args s k h t task task' r m is
    by (Some o) is = idle code n f g args s k h t (low_parked code s t task o r.now is)
