-- A plain function begins, and so does a run.
use Rattle.std.proofs.Common.{◌≡◌, ◌<◌, ◌+◌, ℕ, zero, suc, Bool, true, false, List, [], ◌∷◌, ◌++◌, map, length, Option, Some, None, refl, sym, ap, ◌∙◌, subst}
use Rattle.std.specs.Prelude.{slice_get}
use Rattle.ir_forms.specs.declared.args.ArgValue.{ArgValue}
use Rattle.ir_forms.specs.declared.args.ArgValue.TheVariants as arg
use Rattle.ir_forms.specs.declared.runs.FuncNo.{FuncNo}
use Rattle.ir_forms.specs.declared.types.Ty.{Ty}
use Rattle.low_forms.specs.declared.code.Block.{Block}
use Rattle.low_forms.specs.declared.code.Instr.{Instr}
use Rattle.low_forms.specs.declared.code.LowFunc.{LowFunc}
use Rattle.low_forms.specs.declared.code.LowModule.{LowModule}
use Rattle.low_forms.specs.declared.code.Reg.{Reg}
use Rattle.low_forms.specs.Registers.{reg_type}
use Rattle.low_forms.specs.Places.{Remaining, remaining_of}
use Rattle.low_forms.specs.WellFormed.{IsWellFormed, WellFormed}
use Rattle.async_objects.specs.declared.kinds.Val.{Val}
use Rattle.task_stack.specs.declared.frames.Frame.{Frame}
use Rattle.task_stack.specs.Frames.{new_frame}
use Rattle.step_core.specs.declared.cells.ArgBuffer.{ArgBuffer}
use Rattle.step_core.specs.declared.tasks.Task.{Task}
use Rattle.step_core.specs.State.{buffer_val, argument_vals, argument_buffers, cell_type, ready, start_in}
use Rattle.step_core.specs.High.{High, Ref, start}
use Rattle.code_machines.specs.Objects.{Stands, objects}
use Rattle.coro_lower.specs.declared.label.End.{End}
use Rattle.coro_lower.specs.declared.label.End.TheVariants as end
use Rattle.coro_lower.specs.declared.label.Label.TheVariants.{Body}
use Rattle.coro_lower.specs.Layout.{awaiting, end_of, layout}
use Rattle.coro_lower.specs.Rows.{called}
use Rattle.coro_lower.specs.Shape.{before_end, term_of, loads, instrs_of, body, label_block, lowered}
use Rattle.coro_laws.specs.Half.{is_emptied, IsHalfLowered, HalfLowered}
use Rattle.coro_laws.proofs.Edging.{first_plain}
use Rattle.coro_laws.proofs.Giving.{some_blocks}
use Rattle.coro_laws.proofs.Making.{is_task_end, no_task_end}
use Rattle.register_laws.proofs.Lists.{mapped_there}
use Rattle.plain_carry.specs.Alike.{AlikeVal, AllAlike, AllBelow}
use Rattle.plain_carry.proofs.Values.{bind_alike}
use Rattle.coro_carry.specs.Relation.{View, view, AllWait, Lands, at_row, MatchAt, lands, Agree}
use Rattle.coro_carry.specs.Laws.{StartAgrees}
use Rattle.coro_carry.proofs.Lists.{all_below, beyond}
use Rattle.coro_carry.proofs.Frames.{type_stays}
use Rattle.coro_carry.proofs.Landing.{start_not_awaited}

module _ (code : LowModule) (f : LowFunc) (well : IsWellFormed code f) (half : IsHalfLowered f) (plain : f.coroutine ≡ false) where
  some : 0 < length f.blocks
  some = some_blocks f.blocks well.start

  first : (o : Option Block) → slice_get f.blocks 0 ≡ o → (b : Block) × (slice_get f.blocks 0 ≡ Some b)
  first None none = absurd (beyond f.blocks 0 some none)
  first (Some b) at = (b, at)

  module _ (b : Block) (at : slice_get f.blocks 0 ≡ Some b) where
    stays_there : (e : End) → is_task_end e ≡ false → is_emptied e ≡ false
    stays_there end.Fails e = cc
    stays_there end.Stays e = refl
    stays_there end.Waits e = refl
    stays_there end.Suspends e = refl
    stays_there end.Gives e = refl

    begins : slice_get (lowered f).blocks 0 ≡ Some (body f 0 (Some b))
    begins = mapped_there (label_block f) (layout f) 0 (Body 0) (first_plain f plain some) ∙ ap (λ (o : Option Block). Some (body f 0 o)) at

    none_awaits : awaiting f 0 ≡ None
    none_awaits = start_not_awaited code f well half some

    enters : (e : End) → is_emptied e ≡ false → instrs_of e f 0 b ≡ map called b.instrs ++ before_end e f 0 b.term.instr.operands
    enters end.Stays e = ap (λ (o : Option ℕ). loads f o b.params ++ map called b.instrs ++ before_end end.Stays f 0 b.term.instr.operands) none_awaits
    enters end.Waits e = ap (λ (o : Option ℕ). loads f o b.params ++ map called b.instrs ++ before_end end.Waits f 0 b.term.instr.operands) none_awaits
    enters end.Suspends e = ap (λ (o : Option ℕ). loads f o b.params ++ map called b.instrs ++ before_end end.Suspends f 0 b.term.instr.operands) none_awaits
    enters end.Gives e = ap (λ (o : Option ℕ). loads f o b.params ++ map called b.instrs ++ before_end end.Gives f 0 b.term.instr.operands) none_awaits
    enters end.Fails e = cc

  -- new frames of both codes, with arguments that are alike
  pub enters_at : (V : View) (t : ℕ) (n : FuncNo) → slice_get code.funcs n.0 ≡ Some f → (root : Bool) (below below' : List Frame) → AllWait code V t below below' → (vs ws : List Val) → AllAlike V.stands V.refs vs ws →
      Lands code V t (ready (record { is_root = root; top = new_frame n (lowered f) vs; below = below })) (ready (record { is_root = root; top = new_frame n f ws; below = below' }))
  enters_at V t n there root below below' waits vs ws alike =
      let b : (b : Block) × (slice_get f.blocks 0 ≡ Some b) = first (slice_get f.blocks 0) refl in
      let kept : is_emptied (end_of f b.0) ≡ false = stays_there b.0 b.1 (end_of f b.0) (no_task_end f b.0 plain) in
      at_row (record {
        func = f;
        block = b.0;
        rest = record { instrs = b.0.instrs; term = b.0.term };
        row = record {
          above = record { func = there; block = b.1; here = refl };
          stays = kept;
          below = record {
            func = refl;
            here = ap (λ (o : Option Block). remaining_of o 0) (begins b.0 b.1)
                ∙ ap (λ (xs : List Instr). let m : Remaining = record { instrs = xs; term = term_of (end_of f b.0) f 0 b.0.term } in Some m) (enters b.0 b.1 (end_of f b.0) kept);
          };
        };
        both = record {
          own = bind_alike V.stands V.refs (length f.regs) f.params vs ws [] [] alike (λ x less. refl);
          objects = λ is_task j le. (let never : true ≡ false = sym is_task ∙ plain in cc);
        };
        saved = refl;
        ready = refl;
        under = record { root = refl; frames = waits };
      })

-- buffers of arguments are the same
buffer_self : (ks : List Stands) (rs : List Ref) (b : ℕ) (ns : List ℕ) → AlikeVal ks rs (buffer_val b ns) (buffer_val b ns)
buffer_self ks rs b [] = (refl, refl, refl)
buffer_self ks rs b (x ∷ []) = (refl, refl, refl)
buffer_self ks rs b (x ∷ y ∷ []) = (refl, refl, refl)
buffer_self ks rs b (x ∷ y ∷ z ∷ []) = (refl, refl, refl)
buffer_self ks rs b (x ∷ y ∷ z ∷ w ∷ ns) = (refl, refl, refl)

arguments_alike : (ks : List Stands) (rs : List Ref) (b : ℕ) (args : List ArgValue) → AllAlike ks rs (argument_vals b args) (argument_vals b args)
arguments_alike ks rs b [] = tt
arguments_alike ks rs b (arg.Number n ∷ args) = (refl, arguments_alike ks rs b args)
arguments_alike ks rs b (arg.Cells dims cells ∷ args) = (buffer_self ks rs b dims, arguments_alike ks rs (b + 1) args)

-- the buffers of the parameters have the same cells in the code that the pass makes
buffers_stay : (f : LowFunc) (j b : ℕ) (rs : List Reg) (args : List ArgValue) → AllBelow (length f.regs) rs → argument_buffers (lowered f) j b rs args ≡ argument_buffers f j b rs args
buffers_stay f j b [] args below = refl
buffers_stay f j b (r ∷ rs) [] below = refl
buffers_stay f j b (r ∷ rs) (arg.Number n ∷ args) below = buffers_stay f (j + 1) b rs args below.1
buffers_stay f j b (r ∷ rs) (arg.Cells dims cells ∷ args) below =
    ap (λ (o : Option Ty). let it : ArgBuffer = record { argument = j; buffer = b; cell = cell_type o } in it ∷ argument_buffers (lowered f) (j + 1) (b + 1) rs args) (type_stays f r below.0)
    ∙ ap (λ (xs : List ArgBuffer). let it : ArgBuffer = record { argument = j; buffer = b; cell = cell_type (reg_type f r) } in it ∷ xs) (buffers_stay f (j + 1) (b + 1) rs args below.1)

-- where a run starts, both agree
pub start_agrees : StartAgrees
start_agrees code n f args well half there plain = record {
  buffers = refl;
  arguments = buffers_stay f 0 0 f.params args (all_below (length f.regs) f.params (well n.0 f there).params_within);
  root_end = refl;
  tasks = each;
  counted = refl;
  as_many = refl;
  named = λ o what at. cc;
  settled = λ o x at done. cc;
}
  where
    each : (t : ℕ) → MatchAt code (view (start_in n (lowered f) args) objects.first (start n f args)) t (slice_get (start_in n (lowered f) args).tasks t) (slice_get (start n f args).plain.tasks t)
    each zero =
        lands (enters_at code f (well n.0 f there) (half n.0 f there) plain (view (start_in n (lowered f) args) objects.first (start n f args)) 0 n there true [] [] tt (argument_vals 0 args) (argument_vals 0 args)
        (arguments_alike [] [] 0 args))
    each (suc t) = tt
