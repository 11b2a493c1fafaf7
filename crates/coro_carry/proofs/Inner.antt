-- Instructions that both codes have.
use Rattle.std.proofs.Common.{◌≡◌, ◌⊎◌, inl, inr, ℕ, ◌+◌, Bool, true, false, List, [], ◌∷◌, ◌++◌, map, length, Option, Some, None, refl, sym, ap, ◌∙◌, subst}
use Rattle.std.specs.Prelude.{slice_get}
use Rattle.std.proofs.Math.Logic.{⊎_elim}
use Rattle.op_table.specs.declared.kind.OpKind.{OpKind}
use Rattle.op_table.specs.declared.kind.OpKind.TheVariants as op
use Rattle.ir_forms.specs.declared.args.ArgValue.{ArgValue}
use Rattle.ir_forms.specs.declared.runs.FuncNo.{FuncNo}
use Rattle.low_forms.specs.declared.code.Block.{Block}
use Rattle.low_forms.specs.declared.code.Instr.{Instr}
use Rattle.low_forms.specs.declared.code.LowFunc.{LowFunc}
use Rattle.low_forms.specs.declared.code.LowKind.{LowKind}
use Rattle.low_forms.specs.declared.code.LowKind.TheVariants as kind
use Rattle.low_forms.specs.declared.code.LowModule.{LowModule}
use Rattle.low_forms.specs.declared.code.Reg.{Reg}
use Rattle.low_forms.specs.declared.code.Term.{Term}
use Rattle.low_forms.specs.Fits.{is_instruction, inner_fits, instr_fits, term_fits, block_fits}
use Rattle.low_forms.specs.Places.{Remaining, remaining, remaining_in}
use Rattle.low_forms.specs.Registers.{every}
use Rattle.low_forms.specs.Rows.{row_of}
use Rattle.low_forms.specs.WellFormed.{IsWellFormed, WellFormed}
use Rattle.low_forms.proofs.Words.{and_left, and_right}
use Rattle.source_meaning.specs.Values.{maybe}
use Rattle.async_objects.specs.declared.kinds.Val.{Val}
use Rattle.task_stack.specs.declared.effects.Effect.{Effect}
use Rattle.task_stack.specs.declared.effects.Effect.TheVariants as effect
use Rattle.task_stack.specs.declared.frames.Frame.{Frame}
use Rattle.task_stack.specs.Effects.{effect_of}
use Rattle.task_stack.specs.Frames.{Stack}
use Rattle.task_stack.specs.Local as local
use Rattle.task_stack.specs.Local.{Local, Standing, standing, operands, inner_step, step_in, free_step}
use Rattle.task_stack.specs.Shared.{Next, moved, next_of, first_of}
use Rattle.step_core.specs.declared.rows.SharedRow.{SharedRow}
use Rattle.step_core.specs.declared.rows.SharedRow.TheVariants as row
use Rattle.step_core.specs.declared.tasks.Task.{Task}
use Rattle.step_core.specs.Rows.{shared_row, row_of_kind}
use Rattle.step_core.specs.State.{Plain, ready}
use Rattle.step_core.specs.Shared as core
use Rattle.step_core.specs.Shared.{Took, Stuck, Takes, Nothing, shared_step}
use Rattle.step_core.specs.Plain as plain
use Rattle.step_core.specs.Plain.{plain_step}
use Rattle.step_core.specs.High as upper
use Rattle.step_core.specs.High.{High, high_step, lifted, last_ends, shared_row_step, shared_kind_step}
use Rattle.code_machines.specs.Objects.{Objects}
use Rattle.coro_lower.specs.declared.label.End.{End}
use Rattle.coro_lower.specs.Layout.{end_of}
use Rattle.coro_lower.specs.Rows.{call_kind, called}
use Rattle.coro_lower.specs.Shape.{before_end, term_of, lowered}
use Rattle.coro_laws.specs.Half.{IsHalfLowered, HalfLowered}
use Rattle.register_laws.proofs.Lists.{every_at}
use Rattle.plain_carry.specs.Alike.{AllAlike, AllBelow, SameTypes, Moved, AlikeLocal, stays, is_of_cells, Goes, AlikeTook}
use Rattle.plain_carry.proofs.Values.{values_alike}
use Rattle.plain_carry.proofs.Rows.{inner_as}
use Rattle.plain_carry.proofs.Cells.{cells_as}
use Rattle.coro_carry.specs.Relation.{View, view, Data, Above, Below, SameRow, remains, AtRow, Lands, at_row, Match, lands, Agree, top}
use Rattle.coro_carry.specs.Laws.{AgreeAt, Running, Followed, is_kept_row, is_kept, InnerFollows}
use Rattle.coro_carry.proofs.Lists.{in_block_on, in_code_on, InBlock, row_in}
use Rattle.coro_carry.proofs.Frames.{types_stay, data_bound, Within, inner_in}
use Rattle.coro_carry.proofs.Steps.{low, above_stands, below_stands, low_steps, high_steps, moves, never_stuck, both_plain}

-- ---- kinds

kept_call : (kd : LowKind) → is_kept kd ≡ true → call_kind kd ≡ kd
kept_call kind.Launch is = cc
kept_call kind.Await is = cc
kept_call (kind.Row k) is = refl

pub kept_called : (i : Instr) → is_kept i.kind ≡ true → called i ≡ i
kept_called i is = ap (λ (kd : LowKind). let j : Instr = record i { kind = kd } in j) (kept_call i.kind is)

-- an instruction within a block ends no task
inner_ends : (kd : LowKind) (vs : List Val) (below : List Frame) (is_root : Bool) (h : High) (t : ℕ) → is_instruction (row_of kd).targets ≡ true → last_ends (shared_row kd) vs below is_root h t ≡ Stuck
inner_ends kind.Launch vs below is_root h t is = refl
inner_ends kind.Await vs below is_root h t is = refl
inner_ends (kind.Row op.FuncReturn) vs below is_root h t is = cc
inner_ends (kind.Row op.AioFail) vs below is_root h t is = cc
inner_ends (kind.Row k) vs below is_root h t is = refl

cells_row : (r : SharedRow) (f : LowFunc) (i : Instr) (vs : List Val) (h : High) (t : ℕ) (stack : Stack) → is_of_cells r ≡ true → shared_row_step r f i vs h t stack ≡ lifted h (shared_step r f i vs h.plain t stack)
cells_row row.Allocate f i vs h t stack is = refl
cells_row row.Deallocate f i vs h t stack is = refl
cells_row row.LoadCell f i vs h t stack is = refl
cells_row row.StoreCell f i vs h t stack is = refl
cells_row _ f i vs h t stack is = cc

cells_kind : (kd : LowKind) (code : LowModule) (f : LowFunc) (i : Instr) (term : Term) (vs : List Val) (h : High) (t : ℕ) (stack : Stack) → is_of_cells (shared_row kd) ≡ true →
    shared_kind_step kd code f i term vs h t stack ≡ lifted h (shared_step (shared_row kd) f i vs h.plain t stack)
cells_kind kind.Launch code f i term vs h t stack is = cc
cells_kind kind.Await code f i term vs h t stack is = cc
cells_kind (kind.Row k) code f i term vs h t stack is = cells_row (row_of_kind k) f i vs h t stack is

-- ---- a row that both have

module _ (code : LowModule) (n : FuncNo) (fl gh : LowFunc) (args : List ArgValue) (s : Plain) (k : Objects) (h : High) (t : ℕ) (task task' : Task) (r : Running code n fl gh args s k h t task task')
    (a : AtRow code (view s k h) t task task') (i : Instr) (is : List Instr) (next : a.rest.instrs ≡ i ∷ is) (kept : called i ≡ i) where
  abbrev F : Type 0
  F = Followed code n fl gh args s k h t

  abbrev stack : Stack
  stack = task.stack

  abbrev stack' : Stack
  stack' = task'.stack

  abbrev pub number : ℕ
  number = (top task').place.block.0

  abbrev pub e : End
  e = end_of a.func a.block

  abbrev here' : Remaining
  here' = record { instrs = i ∷ is; term = a.rest.term }

  abbrev pub behind' : Remaining
  behind' = record { instrs = is; term = a.rest.term }

  abbrev pub left : List Instr
  left = map called is ++ before_end e a.func number a.rest.term.instr.operands

  abbrev here : Remaining
  here = record { instrs = i ∷ left; term = term_of e a.func number a.rest.term }

  pub above : Above code (top task').place a.func a.block here'
  above = record {
    func = a.row.above.func;
    block = a.row.above.block;
    here = a.row.above.here ∙ ap (λ (xs : List Instr). let m : Remaining = record { instrs = xs; term = a.rest.term } in Some m) next;
  }

  pub below : Below (top task).place (top task').place a.func here
  below = record {
    func = a.row.below.func;
    here = a.row.below.here ∙ ap (λ (xs : List Instr). Some (remains e a.func number (record { instrs = xs; term = a.rest.term }))) next
        ∙ ap (λ (x : Instr). let m : Remaining = record { instrs = x ∷ left; term = term_of e a.func number a.rest.term } in Some m) kept;
  }

  well : IsWellFormed code a.func
  well = r.well (top task').place.func.0 a.func a.row.above.func

  half : IsHalfLowered a.func
  half = r.half (top task').place.func.0 a.func a.row.above.func

  where_is : InBlock a.block.instrs i
  where_is = row_in a.block.instrs a.block.term (top task').place.at i is a.rest.term above.here

  pub within : Within a.func i
  within = inner_in code a.func well half number a.block above.block where_is.place i where_is.at

  types : SameTypes (lowered a.func) a.func i
  types = types_stay a.func i within.operands within.results

  pub alike : AllAlike k.stands h.refs (operands stack i) (operands stack' i)
  alike = values_alike k.stands h.refs (length a.func.regs) (top task).regs (top task').regs i.operands a.both.own within.operands

  low_stands : standing (low code) (top task).place ≡ Some (record { func = lowered a.func; rest = here })
  low_stands = below_stands code (top task).place (top task').place a.func here a.row.above.func below

  pub high_stands : standing code (top task').place ≡ Some (record { func = a.func; rest = here' })
  high_stands = above_stands code (top task').place a.func a.block here' above

  low_free : free_step (low code) stack ≡ inner_step (effect_of i.kind) true (low code) (lowered a.func) i stack
  low_free = ap (λ (o : Option Standing). maybe local.Stuck (λ st. step_in true (low code) st.func st.rest.instrs st.rest.term stack) o) low_stands

  high_free : free_step code stack' ≡ inner_step (effect_of i.kind) true code a.func i stack'
  high_free = ap (λ (o : Option Standing). maybe local.Stuck (λ st. step_in true code st.func st.rest.instrs st.rest.term stack') o) high_stands

  pub low_next : next_of (low code) stack ≡ Some (record { func = lowered a.func; instr = i })
  low_next = ap (λ (o : Option Standing). maybe None (λ st. let x : Next = record { func = st.func; instr = first_of st.rest.instrs st.rest.term } in Some x) o) low_stands

  pub high_next : next_of code stack' ≡ Some (record { func = a.func; instr = i })
  high_next = ap (λ (o : Option Standing). maybe None (λ st. let x : Next = record { func = st.func; instr = first_of st.rest.instrs st.rest.term } in Some x) o) high_stands

  -- behind the instruction both stand at the same row again
  moved_on : (results : List Reg) (vs ws : List Val) → (results ≡ i.results) ⊎ (results ≡ []) → AllAlike k.stands h.refs vs ws →
      Match code (view s k h) t (ready (moved results vs stack)) (ready (moved results ws stack'))
  moved_on results vs ws own same = lands (at_row (record {
    func = a.func;
    block = a.block;
    rest = behind';
    row = record {
      above = record { func = above.func; block = above.block; here = in_block_on a.block.instrs a.block.term (top task').place.at i is a.rest.term above.here };
      stays = a.row.stays;
      below = record { func = below.func; here = in_code_on (slice_get (lowered a.func).blocks (top task).place.block.0) (top task).place.at i left (term_of e a.func number a.rest.term) below.here };
    };
    both = data_bound a.func (view s k h) t results vs ws (top task).regs (top task').regs few same a.both;
    saved = a.saved;
    ready = refl;
    under = record { root = a.under.root; frames = a.under.frames };
  }))
    where
      few : AllBelow (length a.func.regs) results
      few = ⊎_elim
          (λ e. subst (λ (xs : List Reg). AllBelow (length a.func.regs) xs) (sym e) within.results)
          (λ e. subst (λ (xs : List Reg). AllBelow (length a.func.regs) xs) (sym e) tt)
          own

  pub low_by : (l : Local) → inner_step (effect_of i.kind) true (low code) (lowered a.func) i stack ≡ l → plain_step (low code) s t ≡ plain.by_local l (low code) s t stack
  low_by l is_it = low_steps code s t task r.now a.ready ∙ ap (λ (x : Local). plain.by_local x (low code) s t stack) (low_free ∙ is_it)

  pub high_by : (l : Local) → inner_step (effect_of i.kind) true code a.func i stack' ≡ l → high_step code h t ≡ upper.by_local l code h t stack'
  high_by l is_it = high_steps code h t task' r.now' ∙ ap (λ (x : Local). upper.by_local x code h t stack') (high_free ∙ is_it)

  stuck_here : high_step code h t ≡ Stuck → F
  stuck_here it = absurd (never_stuck code n fl gh args h t r.safe it)

  inner : is_instruction (row_of i.kind).targets ≡ true
  inner =
      let fits : every (inner_fits code a.func) a.block.instrs ≡ true =
      and_left (every (inner_fits code a.func) a.block.instrs) (term_fits code a.func a.block.term) (every_at (block_fits code a.func) a.func.blocks number a.block well.fits above.block) in
      and_left (is_instruction (row_of i.kind).targets) (instr_fits code a.func i) (every_at (inner_fits code a.func) a.block.instrs where_is.place i fits where_is.at)

  no_end : upper.by_local local.Stuck code h t stack' ≡ Stuck
  no_end =
      ap (λ (o : Option Next). maybe Stuck (λ x. upper.stuck_at x h t stack') o) high_next
      ∙ inner_ends i.kind (operands stack' i) stack'.below stack'.is_root h t inner

  alone : (l l' : Local) → inner_step (effect_of i.kind) true (low code) (lowered a.func) i stack ≡ l → inner_step (effect_of i.kind) true code a.func i stack' ≡ l' → AlikeLocal k.stands h.refs i stack stack' l l' → F
  alone (local.Done after counts) (local.Done after' counts') lo hi m =
      both_plain code n fl gh args s _ k h _ t _ _ Nothing r.safe refl (low_by (local.Done after counts) lo) (high_by (local.Done after' counts') hi)
      (moves code s k h t task task' (ready after) (ready after') s.buffers h.plain.buffers r.agree r.now r.now' r.agree.buffers
      (subst (λ (x : Stack). Match code (view s k h) t (ready x) (ready after')) (sym m.now) (subst (λ (x : Stack). Match code (view s k h) t (ready (moved m.results m.gives stack)) (ready x)) (sym m.now') (moved_on m.results m.gives m.gives' m.own m.alike))))
  alone (local.Done after counts) local.Shared lo hi m = elim m [ ]
  alone (local.Done after counts) local.Stuck lo hi m = elim m [ ]
  alone (local.Done after counts) local.Deep lo hi m = elim m [ ]
  alone local.Shared l' lo hi m = elim m [ ]
  alone local.Stuck (local.Done after' counts') lo hi m = elim m [ ]
  alone local.Stuck local.Shared lo hi m = elim m [ ]
  alone local.Stuck local.Stuck lo hi m = stuck_here (high_by local.Stuck hi ∙ no_end)
  alone local.Stuck local.Deep lo hi m = elim m [ ]
  alone local.Deep l' lo hi m = elim m [ ]

  by_alone : stays (effect_of i.kind) ≡ true → F
  by_alone is_alone =
      alone (inner_step (effect_of i.kind) true (low code) (lowered a.func) i stack) (inner_step (effect_of i.kind) true code a.func i stack') refl refl
      (inner_as k.stands h.refs (effect_of i.kind) (low code) code (lowered a.func) a.func i stack stack' is_alone types alike)

  abbrev took : Took Plain
  took = shared_step (shared_row i.kind) (lowered a.func) i (operands stack i) s t stack

  abbrev took' : Took Plain
  took' = shared_step (shared_row i.kind) a.func i (operands stack' i) h.plain t stack'

  by_cells : effect_of i.kind ≡ effect.Shared → is_of_cells (shared_row i.kind) ≡ true → F
  by_cells shared cells = ⊎_elim goes stuck (cells_as k.stands h.refs i s h.plain t stack stack' r.agree.buffers (shared_row i.kind) (lowered a.func) a.func (operands stack i) (operands stack' i) cells types alike)
    where
      low_is : plain_step (low code) s t ≡ took
      low_is = low_by local.Shared (ap (λ (x : Effect). inner_step x true (low code) (lowered a.func) i stack) shared)
          ∙ ap (λ (o : Option Next). maybe Stuck (λ x. shared_step (shared_row x.instr.kind) x.func x.instr (operands stack x.instr) s t stack) o) low_next

      high_is : high_step code h t ≡ lifted h took'
      high_is = high_by local.Shared (ap (λ (x : Effect). inner_step x true code a.func i stack') shared)
          ∙ ap (λ (o : Option Next). maybe Stuck (λ x. maybe Stuck (λ st. upper.shared_at code x st.rest.term h t stack') (standing code stack'.top.current.place)) o) high_next
          ∙ ap (λ (o : Option Standing). maybe Stuck (λ st. upper.shared_at code (record { func = a.func; instr = i }) st.rest.term h t stack') o) high_stands
          ∙ cells_kind i.kind code a.func i a.rest.term (operands stack' i) h t stack' cells

      goes : Goes k.stands h.refs i s h.plain t stack stack' took took' → F
      goes g =
          both_plain code n fl gh args s _ k h _ t _ _ g.act r.safe g.plain (low_is ∙ g.now) (high_is ∙ ap (λ (x : Took Plain). lifted h x) g.now')
          (moves code s k h t task task' (ready (moved g.results g.gives stack)) (ready (moved g.results g.gives' stack')) g.buffers g.buffers' r.agree r.now r.now' g.same (moved_on g.results g.gives g.gives' g.own g.alike))

      stuck : (took ≡ Stuck) × (took' ≡ Stuck) → F
      stuck both = stuck_here (high_is ∙ ap (λ (x : Took Plain). lifted h x) both.1)

  by_effect : (x : Effect) → effect_of i.kind ≡ x → is_kept_row x i.kind ≡ true → F
  by_effect effect.Shared same is_it = by_cells same is_it
  by_effect x same is_it = by_alone (ap stays same ∙ is_it)

  pub inner_goes : is_kept i.kind ≡ true → F
  inner_goes stays_here = by_effect (effect_of i.kind) refl stays_here

pub inner_follows : InnerFollows
inner_follows code n f g args s k h t task task' r at i is next kept = inner_goes code n f g args s k h t task task' r at i is next (kept_called i kept) kept
