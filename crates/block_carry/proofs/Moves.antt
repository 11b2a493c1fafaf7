-- Single steps of a stack.
use Rattle.std.proofs.Common.{◌≡◌, ◌<◌, ◌^◌, ◌%◌, ℕ, zero, suc, ◌+◌, nat_eq, cond, Bool, true, false, List, [], ◌∷◌, Option, Some, None, slice_get, refl, ap, subst, ◌∙◌, arith}
use Rattle.std.proofs.Math.Nat.{mod-eq_of_lt, mod-add-mod, add-mod-mod}
use Rattle.int_ops.specs.Arithmetic.{arith_result, residue}
use Rattle.int_ops.specs.declared.BinOp.TheVariants as bin
use Rattle.ir_forms.specs.declared.runs.FuncNo.{FuncNo}
use Rattle.low_forms.specs.declared.code.Block.{Block}
use Rattle.low_forms.specs.declared.code.Instr.{Instr}
use Rattle.low_forms.specs.declared.code.LowAttr.TheVariants as low
use Rattle.low_forms.specs.declared.code.LowFunc.{LowFunc}
use Rattle.low_forms.specs.declared.code.LowModule.{LowModule}
use Rattle.low_forms.specs.declared.code.Reg.{Reg}
use Rattle.low_forms.specs.declared.code.Term.{Term}
use Rattle.low_forms.specs.Places.{Remaining, remaining_in, remaining_of}
use Rattle.source_meaning.specs.Values.{maybe}
use Rattle.source_meaning.specs.Rows.{result_at, stepped}
use Rattle.source_meaning.specs.Tasks.{Program}
use Rattle.async_objects.specs.declared.kinds.Val.{Val}
use Rattle.async_objects.specs.declared.kinds.Val.TheVariants.{Number}
use Rattle.task_stack.specs.declared.effects.Effect.TheVariants as effect
use Rattle.task_stack.specs.declared.effects.Number as one
use Rattle.task_stack.specs.declared.frames.Frame.{Frame}
use Rattle.task_stack.specs.declared.frames.Place.{Place}
use Rattle.task_stack.specs.declared.steps.CountStep.{CountStep}
use Rattle.task_stack.specs.Effects.{effect_of}
use Rattle.task_stack.specs.Frames.{Stack, Way, behind, into, went, new_frame}
use Rattle.task_stack.specs.Local as local
use Rattle.task_stack.specs.Local.{Local, Standing, standing_in, standing, with_top, goes, operands, pushes, jumps, way_in, way_on, inner_step, end_step, step_in, free_step}
use Rattle.task_stack.specs.Numbers.{computed}
use Rattle.task_stack.specs.Registers.{held, number_in, values_at}
use Rattle.task_stack.specs.Shared as stack
use Rattle.task_stack.specs.Shared.{first_of, next_of, moved, passed}
use Rattle.scf_blocks.specs.Code.{block_no, br, cond_br, call, return, fail}
use Rattle.block_carry.specs.Laid.{Has}
use Rattle.block_carry.specs.Stands.{WaitsInCall}
use Rattle.block_carry.specs.Follows.{quiet_by, quiet}
use Rattle.block_carry.proofs.Values.{none_is, some_is}

-- ---- what remains of a block

tail_of : List Instr → List Instr
tail_of [] = []
tail_of (i ∷ is) = is

rest_of : Remaining → Remaining
rest_of r = record { instrs = tail_of r.instrs; term = r.term }

in_next : (xs : List Instr) (t : Term) (i : ℕ) (x : Instr) (more : List Instr) (u : Term) → remaining_in xs t i ≡ Some (record { instrs = x ∷ more; term = u }) → remaining_in xs t (suc i) ≡ Some (record { instrs = more; term = u })
unfolding rest_of tail_of
in_next [] t zero x more u e = absurd (nil (ap (λ (r : Remaining). r.instrs) (some_is (record { instrs = []; term = t }) (record { instrs = x ∷ more; term = u }) e))) where
  nil : [] ≡ x ∷ more → ⊥
  nil h = cc
in_next [] t (suc i) x more u e = absurd (none_is _ e)
in_next (y ∷ ys) t zero x more u e = ap (maybe None (λ r. Some (rest_of r))) e
in_next (y ∷ ys) t (suc i) x more u e = in_next ys t i x more u e

has_suc : (f : LowFunc) (b i : ℕ) (x : Instr) (more : List Instr) (u : Term) → Has f b i (x ∷ more) u → Has f b (suc i) more u
has_suc f b i x more u h = go (slice_get f.blocks b) h
  where
    go : (o : Option Block) → remaining_of o i ≡ Some (record { instrs = x ∷ more; term = u }) → remaining_of o (suc i) ≡ Some (record { instrs = more; term = u })
    go None e = absurd (none_is _ e)
    go (Some b) e = in_next b.instrs b.term i x more u e

next_place : (i : ℕ) → suc i ≡ i + 1
next_place i = omega arith

pub has_next : (f : LowFunc) (b i : ℕ) (x : Instr) (more : List Instr) (u : Term) → Has f b i (x ∷ more) u → Has f b (i + 1) more u
has_next f b i x more u h = subst (λ j. Has f b j more u) (next_place i) (has_suc f b i x more u h)

-- ---- numbers of 64 bits

pub added : (i s : ℕ) → result_at 64 bin.Add i s ≡ Some (stepped i s)
unfolding arith_result residue
added i s = ap Some (mod-add-mod i (2 ^ 64) (s % 2 ^ 64) ∙ add-mod-mod i s (2 ^ 64))

pub whole : (n : ℕ) → n < 2 ^ 64 → n % 2 ^ 64 ≡ n
whole n h = mod-eq_of_lt h

module _ (code : LowModule) where
  abbrev pub stands : LowFunc → Remaining → Standing
  stands f r = record { func = f; rest = r }

  abbrev pub left_of : List Instr → Term → Remaining
  left_of is t = record { instrs = is; term = t }

  abbrev pub ahead : LowFunc → Instr → stack.Next
  ahead f i = record { func = f; instr = i }

  pub standing_is : (pl : Place) (f : LowFunc) (is : List Instr) (t : Term) → slice_get code.funcs pl.func.0 ≡ Some f → Has f pl.block.0 pl.at is t → standing code pl ≡ Some (stands f (left_of is t))
  standing_is pl f is t e h = ap (maybe None (standing_in pl)) e ∙ ap (maybe None (λ rest. Some (stands f rest))) h

  pub free_is : (s : Stack) (f : LowFunc) (is : List Instr) (t : Term) → slice_get code.funcs s.top.current.place.func.0 ≡ Some f → Has f s.top.current.place.block.0 s.top.current.place.at is t →
      free_step code s ≡ step_in true code f is t s
  free_is s f is t e h = ap (maybe local.Stuck (λ (st : Standing). step_in true code st.func st.rest.instrs st.rest.term s)) (standing_is s.top.current.place f is t e h)

  pub next_is : (s : Stack) (f : LowFunc) (is : List Instr) (t : Term) → slice_get code.funcs s.top.current.place.func.0 ≡ Some f → Has f s.top.current.place.block.0 s.top.current.place.at is t →
      next_of code s ≡ Some (ahead f (first_of is t))
  next_is s f is t e h = ap (maybe None (λ (st : Standing). Some (ahead st.func (first_of st.rest.instrs st.rest.term)))) (standing_is s.top.current.place f is t e h)

  pub quiet_done : (s a : Stack) (c : Option CountStep) → free_step code s ≡ local.Done a c → quiet code s ≡ Some a
  quiet_done s a c e = ap (λ l. quiet_by l code s) e

  -- at the start of a block, with these values of its parameters
  abbrev pub to : LowFunc → ℕ → List Val → Stack → Stack
  to f b vs s = with_top s (went (into f (block_no b)) vs s.top)

  pub jump_quiet : (s : Stack) (f : LowFunc) (b : ℕ) (rs : List Reg) → slice_get code.funcs s.top.current.place.func.0 ≡ Some f → Has f s.top.current.place.block.0 s.top.current.place.at [] (br (block_no b) rs) →
      quiet code s ≡ Some (to f b (values_at s.top.current.regs rs) s)
  jump_quiet s f b rs e h = quiet_done s (to f b (values_at s.top.current.regs rs) s) None (free_is s f [] (br (block_no b) rs) e h)

  pub decide_quiet : (s : Stack) (f : LowFunc) (c : Reg) (go other : ℕ) (rs : List Reg) (z : Bool) → nat_eq (number_in (held s.top.current.regs c.0)) 0 ≡ z → slice_get code.funcs s.top.current.place.func.0 ≡ Some f →
      Has f s.top.current.place.block.0 s.top.current.place.at [] (cond_br c (block_no go) (block_no other) rs) → quiet code s ≡ Some (to f (cond z other go) (values_at s.top.current.regs rs) s)
  decide_quiet s f c go other rs z is e h = quiet_done s (to f (cond z other go) (values_at s.top.current.regs rs) s) None
      (free_is s f [] (cond_br c (block_no go) (block_no other) rs) e h ∙ ap (λ y. jumps f (slice_get (cond_br c (block_no go) (block_no other) rs).targets (cond y 1 0)) s) is ∙ by z)
    where
      by : (y : Bool) → jumps f (slice_get (cond_br c (block_no go) (block_no other) rs).targets (cond y 1 0)) s ≡ local.Done (to f (cond y other go) (values_at s.top.current.regs rs) s) None
      by true = refl
      by false = refl

  pub compute_quiet : (s : Stack) (f : LowFunc) (x : Instr) (more : List Instr) (t : Term) (m : one.Number) (w : Val) → effect_of x.kind ≡ effect.Computes m → computed m f x (operands s x) ≡ Some w →
      slice_get code.funcs s.top.current.place.func.0 ≡ Some f → Has f s.top.current.place.block.0 s.top.current.place.at (x ∷ more) t → quiet code s ≡ Some (moved x.results (w ∷ []) s)
  compute_quiet s f x more t m w eff comes e h = quiet_done s (moved x.results (w ∷ []) s) None
      (free_is s f (x ∷ more) t e h ∙ ap (λ y. inner_step y true code f x s) eff ∙ ap (maybe local.Stuck (λ v. goes (behind x.results) (v ∷ []) s)) comes)

  -- a frame more
  abbrev pub pushed : Frame → Stack → Stack
  pushed frame s = record { is_root = s.is_root; top = frame; below = s.top ∷ s.below }

  pub call_quiet : (s : Stack) (f : LowFunc) (g : FuncNo) (h : LowFunc) (rs : List Reg) (ok failure : ℕ) → slice_get code.funcs s.top.current.place.func.0 ≡ Some f →
      Has f s.top.current.place.block.0 s.top.current.place.at [] (call (low.Callee g) rs (block_no ok) (block_no failure)) → slice_get code.funcs g.0 ≡ Some h →
      quiet code s ≡ Some (pushed (new_frame g h (values_at s.top.current.regs rs)) s)
  call_quiet s f g h rs ok failure e has is = quiet_done s (pushed (new_frame g h (values_at s.top.current.regs rs)) s) None
      (free_is s f [] (call (low.Callee g) rs (block_no ok) (block_no failure)) e has ∙ ap (maybe local.Stuck (λ f. pushes true (new_frame g f (values_at s.top.current.regs rs)) s)) is)

  -- ---- ends of frames

  abbrev pub stack_of : Bool → Frame → List Frame → Stack
  stack_of root frame below = record { is_root = root; top = frame; below = below }

  pub way_is : (p : Program) (fails : Bool) (frame : Frame) (w : WaitsInCall p code frame) → way_on fails code frame.current.place ≡ Some (into w.f (block_no (cond fails w.failure w.ok)))
  way_is p fails frame w = ap (maybe None (λ (st : Standing). way_in fails st.func st.rest.instrs st.rest.term)) (standing_is frame.current.place w.f [] (call w.callee w.args (block_no w.ok) (block_no w.failure)) w.is w.has) ∙ by fails
    where
      by : (b : Bool) → way_in b w.f [] (call w.callee w.args (block_no w.ok) (block_no w.failure)) ≡ Some (into w.f (block_no (cond b w.failure w.ok)))
      by true = refl
      by false = refl

  pub return_quiet : (p : Program) (root : Bool) (top frame : Frame) (below : List Frame) (f : LowFunc) (rs : List Reg) (w : WaitsInCall p code frame) → slice_get code.funcs top.current.place.func.0 ≡ Some f →
      Has f top.current.place.block.0 top.current.place.at [] (return rs) →
      quiet code (stack_of root top (frame ∷ below)) ≡ Some (to w.f w.ok (values_at top.current.regs rs) (stack_of root frame below))
  return_quiet p root top frame below f rs w e h = quiet_done (stack_of root top (frame ∷ below)) (to w.f w.ok (values_at top.current.regs rs) (stack_of root frame below)) None
      (free_is (stack_of root top (frame ∷ below)) f [] (return rs) e h
      ∙ ap (maybe local.Stuck (λ (way : Way). local.Done (stack_of root (went way (values_at top.current.regs rs) frame) below) None)) (way_is p false frame w))

  pub fail_quiet : (p : Program) (root : Bool) (top frame : Frame) (below : List Frame) (f : LowFunc) (r : Reg) (w : WaitsInCall p code frame) → slice_get code.funcs top.current.place.func.0 ≡ Some f →
      Has f top.current.place.block.0 top.current.place.at [] (fail r) →
      quiet code (stack_of root top (frame ∷ below)) ≡ Some (to w.f w.failure (Number (number_in (held top.current.regs r.0)) ∷ []) (stack_of root frame below))
  fail_quiet p root top frame below f r w e h = quiet_done (stack_of root top (frame ∷ below)) (to w.f w.failure (Number (number_in (held top.current.regs r.0)) ∷ []) (stack_of root frame below)) None
      (free_is (stack_of root top (frame ∷ below)) f [] (fail r) e h
      ∙ ap (maybe local.Stuck (λ (way : Way). local.Done (stack_of root (went way (Number (number_in (held top.current.regs r.0)) ∷ []) frame) below) None)) (way_is p true frame w))
