-- What well formed code says of a branch; and a step at one keeps the equation.
use Rattle.std.proofs.Common.{◌≡◌, ℕ, zero, suc, ◌==◌, ◌&&◌, if◌then◌else◌, Bool, true, false, List, [], ◌∷◌, length, Option, Some, None, refl, sym, ap, ◌∙◌, subst, arith}
use Rattle.std.specs.Prelude.{slice_get}
use Rattle.ir_forms.specs.declared.runs.ObjNo.{ObjNo}
use Rattle.ir_forms.specs.declared.types.Ty.{Ty}
use Rattle.ir_forms.specs.declared.types.Ty.TheVariants as ty
use Rattle.ir_verify.specs.Types.{is_truth}
use Rattle.low_forms.specs.declared.code.Reg.{Reg}
use Rattle.low_forms.specs.declared.code.Instr.{Instr}
use Rattle.low_forms.specs.declared.code.Target.{Target}
use Rattle.low_forms.specs.declared.code.Term.{Term}
use Rattle.low_forms.specs.declared.code.Block.{Block}
use Rattle.low_forms.specs.declared.code.LowFunc.{LowFunc}
use Rattle.low_forms.specs.declared.code.LowModule.{LowModule}
use Rattle.low_forms.specs.declared.row.LowRow.{LowRow}
use Rattle.low_forms.specs.declared.row.Rest.TheVariants as rest
use Rattle.low_forms.specs.declared.row.Slot.{Slot}
use Rattle.low_forms.specs.declared.row.Slot.TheVariants as slot
use Rattle.low_forms.specs.declared.row.Targets.TheVariants as to
use Rattle.low_forms.specs.Rows.{row_of}
use Rattle.low_forms.specs.Registers.{every, on_type, reg_type, block_at, like_types}
use Rattle.low_forms.specs.Edges.{edges_of, blocks_of}
use Rattle.low_forms.specs.Owns.{is_object, references, first_args, params_of}
use Rattle.low_forms.specs.Fits.{reg_fits, slot_fits, rest_fits, fill, operands_fit, results_fit, attr_fits, instr_fits, inner_fits, term_fits, block_fits, targets_fit, target_fits, args_fit, same_regs}
use Rattle.source_meaning.specs.Values.{maybe}
use Rattle.async_objects.specs.declared.kinds.Val.{Val}
use Rattle.async_objects.proofs.ListLemmas.{some_is}
use Rattle.task_stack.specs.declared.effects.Effect.{Effect}
use Rattle.task_stack.specs.declared.effects.Effect.TheVariants as effect
use Rattle.task_stack.specs.declared.frames.Place.{Place}
use Rattle.task_stack.specs.declared.frames.Saved.TheVariants as saved
use Rattle.task_stack.specs.Effects.{effect_of}
use Rattle.task_stack.specs.Registers.{bind, values_at, number}
use Rattle.task_stack.specs.Frames.{Stack}
use Rattle.task_stack.specs.Local as local
use Rattle.task_stack.specs.Local.{Standing, standing, jumps, branch, operands, end_step, step_in, free_step}
use Rattle.task_stack.specs.Shared.{first_of}
use Rattle.own_tables.specs.declared.table.OwnTable.{OwnTable}
use Rattle.own_tables.specs.Owns.{IsReached, Fits}
use Rattle.step_core.specs.declared.tasks.Task.{Task}
use Rattle.step_core.specs.State.{with_task, counted, ready, task_at}
use Rattle.step_core.specs.Shared.{Idle}
use Rattle.step_core.specs.Plain.{by_local, ready_step, uses_by, changes_by, uses, changes, plain_step}
use Rattle.step_core.specs.Core.{Core, all_there, leaves, may_step, counting}
use Rattle.count_sums.specs.Sums.{owned}
use Rattle.count_equation.specs.Equation.{at_place, Stands, Holds}
use Rattle.count_equation.specs.Covers.{CoversEnd, CoversLast, BranchesAt, BranchesTask, Branches, ParamsOnce}
use Rattle.count_equation.specs.Laws.{BranchesKeep}
use Rattle.count_equation.proofs.EndFacts.{EndIs, end_is}
use Rattle.count_equation.proofs.Places.{untrue, and_first, and_second, last_two, At, at_standing, every_at}
use Rattle.count_equation.proofs.Numbers.{same_number}
use Rattle.count_equation.proofs.Effects.{keeps, stand_set, moves}
use Rattle.count_equation.proofs.Jumps.{JumpsTo, term_at, jump_owns, jump_stands}
use Rattle.count_equation.proofs.Keeps.{no_copy, there_is, cond_second, Good, Owes, owes_good, by_took}

module _ (code : LowModule) (f : LowFunc) (t : Term) where
  -- ---- operands

  not_none : (r : Reg) (rs : List Reg) → (length (r ∷ rs) == 0) ≡ true → ⊥
  not_none r rs e = let z : suc (length rs) ≡ 0 = same_number (length (r ∷ rs)) 0 e in absurd (omega (arith, z))

  bare : (ss : List Slot) (row : LowRow) → row.rest ≡ rest.Nothing → (ops : List Reg) → fill (slot.Absent ∷ ss) row code f t.instr ops ≡ true → ops ≡ []
  bare ss row none [] e = refl
  bare ss row none (r ∷ rs) e = absurd (not_none r rs (subst (λ s. rest_fits s code f t.instr (r ∷ rs) ≡ true) none e))

  no_object : (u : Ty) → is_truth u ≡ true → is_object u ≡ false
  no_object (ty.Int w) e = refl
  no_object ty.Index e = refl
  no_object (ty.Memref m) e = refl
  no_object ty.Token e = untrue e
  no_object (ty.Value v) e = untrue e
  no_object ty.Group e = untrue e
  no_object ty.CoroId e = refl
  no_object ty.CoroHandle e = refl
  no_object ty.CoroState e = refl
  no_object ty.Untyped e = refl

  no_objects : (o : Option Ty) → on_type (slot_fits slot.Truth f t.instr.operands t.instr.attr) o ≡ true → on_type is_object o ≡ false
  no_objects None e = untrue e
  no_objects (Some u) e = no_object u e

  one_truth : (ss : List Slot) (row : LowRow) → row.rest ≡ rest.Nothing → (ops : List Reg) → fill (slot.Truth ∷ slot.Absent ∷ ss) row code f t.instr ops ≡ true → references f ops ≡ []
  one_truth ss row none [] e = refl
  one_truth ss row none (q ∷ ops) e =
      let others : ops ≡ [] = bare ss row none ops (and_second (reg_fits slot.Truth f t.instr q) (fill (slot.Absent ∷ ss) row code f t.instr ops) e) in
      let other : on_type is_object (reg_type f q) ≡ false = no_objects (reg_type f q) (and_first (reg_fits slot.Truth f t.instr q) (fill (slot.Absent ∷ ss) row code f t.instr ops) e) in
      ap (λ (b : Bool). if b then q.0 ∷ references f ops else references f ops) other ∙ ap (references f) others

  -- ---- targets

  same_regs_are : (rs ss : List Reg) → same_regs rs ss ≡ true → rs ≡ ss
  same_regs_are [] [] e = refl
  same_regs_are [] (s ∷ ss) e = untrue e
  same_regs_are (r ∷ rs) [] e = untrue e
  same_regs_are (r ∷ rs) (s ∷ ss) e =
      let head : r.0 ≡ s.0 = same_number r.0 s.0 (and_first (r.0 == s.0) (same_regs rs ss) e) in
      let here : r ≡ s = ap (λ (n : ℕ). let q : Reg = record { 0 = n } in q) head in
      let tail : rs ≡ ss = same_regs_are rs ss (and_second (r.0 == s.0) (same_regs rs ss) e) in
      ap (λ (q : Reg). q ∷ rs) here ∙ ap (λ (qs : List Reg). s ∷ qs) tail

  -- arguments and the fit of the k-th of these
  abbrev FitsAt : List Target → Target → Type 0
  FitsAt ts target = (references f (first_args ts) ≡ references f target.args) × (target_fits f target ≡ true)

  none_some : {X : Type 0} (x : X) → None ≡ Some x → ⊥
  none_some x e = cc

  one_target : (ts : List Target) (k : ℕ) (target : Target) → targets_fit to.One code f t.instr ts ≡ true → slice_get ts k ≡ Some target → FitsAt ts target
  one_target [] k target e there = absurd (untrue e)
  one_target (u ∷ []) zero target e there = subst (FitsAt (u ∷ [])) (some_is u target there) (refl, e)
  one_target (u ∷ []) (suc k) target e there = absurd (none_some target there)
  one_target (u ∷ v ∷ []) k target e there = absurd (untrue e)
  one_target (u ∷ v ∷ w ∷ []) k target e there = absurd (untrue e)
  one_target (u ∷ v ∷ w ∷ x ∷ ts) k target e there = absurd (untrue e)

  two_targets : (ts : List Target) (k : ℕ) (target : Target) → targets_fit to.Either code f t.instr ts ≡ true → slice_get ts k ≡ Some target → FitsAt ts target
  two_targets [] k target e there = absurd (untrue e)
  two_targets (u ∷ []) k target e there = absurd (untrue e)
  two_targets (u ∷ v ∷ []) zero target e there = subst (FitsAt (u ∷ v ∷ [])) (some_is u target there) (refl, middle (same_regs u.args v.args) (target_fits f u) (target_fits f v) e)
    where
      middle : (a b c : Bool) → (a && b && c) ≡ true → b ≡ true
      middle true true c e = refl
      middle true false c e = untrue e
      middle false b c e = untrue e
  two_targets (u ∷ v ∷ []) (suc zero) target e there =
      subst (FitsAt (u ∷ v ∷ [])) (some_is v target there) (ap (references f) (same_regs_are u.args v.args (first (same_regs u.args v.args) (target_fits f u) (target_fits f v) e)), last (same_regs u.args v.args) (target_fits f u) (target_fits f v) e)
    where
      first : (a b c : Bool) → (a && b && c) ≡ true → a ≡ true
      first true b c e = refl
      first false b c e = untrue e

      last : (a b c : Bool) → (a && b && c) ≡ true → c ≡ true
      last true true c e = e
      last true false c e = untrue e
      last false b c e = untrue e
  two_targets (u ∷ v ∷ []) (suc (suc k)) target e there = absurd (none_some target there)
  two_targets (u ∷ v ∷ w ∷ []) k target e there = absurd (untrue e)
  two_targets (u ∷ v ∷ w ∷ x ∷ ts) k target e there = absurd (untrue e)

  -- ---- the branch

  pub record Lands (k : ℕ) (target : Target) : Type 0 where
    pub block : Block
    pub jump : JumpsTo f t k target block

  by_block : (k : ℕ) (target : Target) (b : Option Block) → block_at f target.block ≡ b → args_fit b f target.args ≡ true
      → ((block : Block) → slice_get f.blocks target.block.0 ≡ Some block → like_types f target.args f block.params ≡ true → JumpsTo f t k target block) → Lands k target
  by_block k target None there e go = absurd (untrue e)
  by_block k target (Some b) there e go = record { block = b; jump = go b there e }

  pub lands : (e : Effect) → CoversEnd e → EndIs e t.instr.kind → term_fits code f t ≡ true → (k : ℕ) (target : Target) → slice_get t.targets k ≡ Some target → Lands k target
  lands effect.Jumps cov is fit k target there =
      let row : LowRow = row_of t.instr.kind in
      let instr : instr_fits code f t.instr ≡ true = and_first (instr_fits code f t.instr) (targets_fit row.targets code f t.instr t.targets) fit in
      let ops : operands_fit row code f t.instr ≡ true = (last_two row.stands (attr_fits row.attr code t.instr.attr) (operands_fit row code f t.instr) (results_fit row code f t.instr) instr).0 in
      let none : t.instr.operands ≡ [] = bare (row.second ∷ row.third ∷ []) row is.0.4 t.instr.operands (subst (λ s. fill (s ∷ row.second ∷ row.third ∷ []) row code f t.instr t.instr.operands ≡ true) is.1 ops) in
      let at' : FitsAt t.targets target = one_target t.targets k target (subst (λ a. targets_fit a code f t.instr t.targets ≡ true) is.0.1 (and_second (instr_fits code f t.instr) (targets_fit row.targets code f t.instr t.targets) fit)) there in
      by_block k target (block_at f target.block) refl at'.1
      (λ b block like. record { takes_them = is.0.0; alone = ap (references f) none; there = there; same_args = at'.0; block_there = block; like = like; leads = λ first. ap (λ a. edges_of a first (blocks_of t.targets)) is.0.1; goes_on = is.0.2 })
  lands effect.Branches cov is fit k target there =
      let row : LowRow = row_of t.instr.kind in
      let instr : instr_fits code f t.instr ≡ true = and_first (instr_fits code f t.instr) (targets_fit row.targets code f t.instr t.targets) fit in
      let ops : operands_fit row code f t.instr ≡ true = (last_two row.stands (attr_fits row.attr code t.instr.attr) (operands_fit row code f t.instr) (results_fit row code f t.instr) instr).0 in
      let none : references f t.instr.operands ≡ [] =
      one_truth (row.third ∷ []) row is.0.4 t.instr.operands
      (subst (λ s. fill (slot.Truth ∷ s ∷ row.third ∷ []) row code f t.instr t.instr.operands ≡ true) is.0.3 (subst (λ s. fill (s ∷ row.second ∷ row.third ∷ []) row code f t.instr t.instr.operands ≡ true) is.1 ops)) in
      let at' : FitsAt t.targets target = two_targets t.targets k target (subst (λ a. targets_fit a code f t.instr t.targets ≡ true) is.0.1 (and_second (instr_fits code f t.instr) (targets_fit row.targets code f t.instr t.targets) fit)) there in
      by_block k target (block_at f target.block) refl at'.1
      (λ b block like. record { takes_them = is.0.0; alone = none; there = there; same_args = at'.0; block_there = block; like = like; leads = λ first. ap (λ a. edges_of a first (blocks_of t.targets)) is.0.1; goes_on = is.0.2 })
  lands effect.Absent cov is fit k target there = elim cov [ ]
  lands (effect.Computes n) cov is fit k target there = elim cov [ ]
  lands effect.Skips cov is fit k target there = elim cov [ ]
  lands effect.Launches cov is fit k target there = elim cov [ ]
  lands effect.Calls cov is fit k target there = elim cov [ ]
  lands effect.Returns cov is fit k target there = elim cov [ ]
  lands effect.Fails cov is fit k target there = elim cov [ ]
  lands effect.Saves cov is fit k target there = elim cov [ ]
  lands effect.Suspends cov is fit k target there = elim cov [ ]
  lands effect.AddsReferences cov is fit k target there = elim cov [ ]
  lands effect.DropsReferences cov is fit k target there = elim cov [ ]
  lands effect.Shared cov is fit k target there = elim cov [ ]

module _ (code : LowModule) (table : OwnTable) (fits : Fits code table) (once : ParamsOnce code) (c : Core) (holds : Holds code table c) (t : ℕ) where
  module _ (stack : Stack) (there : slice_get c.plain.tasks t ≡ Some (Some (ready stack))) (plain : stack.top.saved ≡ saved.Nothing)
      (f : LowFunc) (term : Term) (at' : At code stack.top.current.place (record { func = f; rest = record { instrs = []; term = term } })) where
    abbrev here : Place
    here = stack.top.current.place

    stands : Stands code here
    stands = holds.stands t (Some (ready stack)) there

    reached : IsReached f here.block.0
    reached = subst (λ g. IsReached g here.block.0) (some_is stands.func f (sym stands.there ∙ at'.func_there)) stands.reached

    fitting : term_fits code f term ≡ true
    fitting =
        let all : block_fits code f at'.block ≡ true = every_at (block_fits code f) f.blocks here.block.0 at'.block (fits.well_formed here.func.0 f at'.func_there).fits at'.block_there in
        subst (λ u. term_fits code f u ≡ true) (term_at at'.block.instrs at'.block.term term here.at at'.rest).1 (and_second (every (inner_fits code f) at'.block.instrs) (term_fits code f at'.block.term) all)

    lands_good : (k : ℕ) (target : Target) (land : Lands code f term k target) (params : List Reg) → params_of (block_at f target.block) ≡ params → params ≡ land.block.params
        → let after : Stack = record stack { top = record { current = record { place = record { func = here.func; block = target.block; at = 0 }; regs = bind params (values_at stack.top.current.regs target.args) stack.top.current.regs }; saved = stack.top.saved } } in
        Holds code table (counting c [] (counted (with_task c.plain t (Some (ready after)))))
    lands_good k target land params are same =
        let p : Place = record { func = here.func; block = target.block; at = 0 } in
        let regs : List Val = bind params (values_at stack.top.current.regs target.args) stack.top.current.regs in
        record {
          equation = moves code table stack plain p regs c.plain.tasks c.plain.objects c.plain.objects c.counts c.counts t None None there holds.equation
              (λ o. let e : owned (at_place code table p) o regs ≡ owned (at_place code table here) o stack.top.current.regs =
              ap (λ ps. owned (at_place code table p) o (bind ps (values_at stack.top.current.regs target.args) stack.top.current.regs)) same ∙ jump_owns code table fits once here f term at' reached k target land.block land.jump o stack.top.current.regs in
              omega (arith, e));
          made = holds.made;
          stands = stand_set code table c.plain.tasks t (Some (ready stack)) _ there holds.stands (jump_stands code table fits once here f term at' reached k target land.block land.jump);
        }

    jumps_good : CoversEnd (effect_of term.instr.kind) → (k : ℕ) (m : Option Target) → slice_get term.targets k ≡ m
        → Owes code table fits c holds t stack (jumps f m stack) (Some (record { func = f; instr = term.instr }))
    jumps_good cov k None there' = tt
    jumps_good cov k (Some target) there' =
        let land : Lands code f term k target = lands code f term (effect_of term.instr.kind) cov (end_is term.instr.kind) fitting k target there' in
        λ all can. lands_good k target land (params_of (block_at f target.block)) refl (ap params_of land.jump.block_there)

    end_good : (e : Effect) → CoversEnd e → CoversEnd (effect_of term.instr.kind) → Owes code table fits c holds t stack (end_step e true code f term stack) (Some (record { func = f; instr = term.instr }))
    end_good effect.Jumps cov real = jumps_good real 0 (slice_get term.targets 0) refl
    end_good effect.Branches cov real = jumps_good real (branch (number (operands stack term.instr) 0)) (slice_get term.targets (branch (number (operands stack term.instr) 0))) refl
    end_good effect.Absent cov real = elim cov [ ]
    end_good (effect.Computes n) cov real = elim cov [ ]
    end_good effect.Skips cov real = elim cov [ ]
    end_good effect.Launches cov real = elim cov [ ]
    end_good effect.Calls cov real = elim cov [ ]
    end_good effect.Returns cov real = elim cov [ ]
    end_good effect.Fails cov real = elim cov [ ]
    end_good effect.Saves cov real = elim cov [ ]
    end_good effect.Suspends cov real = elim cov [ ]
    end_good effect.AddsReferences cov real = elim cov [ ]
    end_good effect.DropsReferences cov real = elim cov [ ]
    end_good effect.Shared cov real = elim cov [ ]

  module _ (stack : Stack) (there : slice_get c.plain.tasks t ≡ Some (Some (ready stack))) (plain : stack.top.saved ≡ saved.Nothing) where
    by_last : (st : Standing) → At code stack.top.current.place st → (xs : List Instr) → st.rest.instrs ≡ xs → CoversLast xs st.rest.term
        → Owes code table fits c holds t stack (step_in true code st.func xs st.rest.term stack) (Some (record { func = st.func; instr = first_of xs st.rest.term }))
    by_last st at' (i ∷ is) are cov = elim cov [ ]
    by_last st at' [] are cov =
        end_good stack there plain st.func st.rest.term
        (record { block = at'.block; func_there = at'.func_there; block_there = at'.block_there; rest = at'.rest ∙ ap (λ xs. Some (record { instrs = xs; term = st.rest.term })) are })
        (effect_of st.rest.term.instr.kind) cov cov

    by_standing : (m : Option Standing) → standing code stack.top.current.place ≡ m → BranchesAt m
        → Owes code table fits c holds t stack (maybe local.Stuck (λ st. step_in true code st.func st.rest.instrs st.rest.term stack) m) (maybe None (λ st. Some (record { func = st.func; instr = first_of st.rest.instrs st.rest.term })) m)
    by_standing None e cov = elim cov [ ]
    by_standing (Some st) e cov = by_last st (at_standing code stack.top.current.place st e) st.rest.instrs refl cov

    stack_good : BranchesAt (standing code stack.top.current.place) → Good code table fits c holds t (changes_by (free_step code stack) code c.plain stack) (uses_by (free_step code stack) code stack) (by_local (free_step code stack) code c.plain t stack)
    stack_good cov = owes_good code table fits c holds t stack there plain (free_step code stack) (by_standing (standing code stack.top.current.place) refl cov)

  by_parked : (task : Task) (parked : Option ObjNo) → slice_get c.plain.tasks t ≡ Some (Some task) → task.parked ≡ parked → BranchesTask code (Some task)
      → Good code table fits c holds t (changes_by (free_step code task.stack) code c.plain task.stack) (uses_by (free_step code task.stack) code task.stack) (maybe (by_local (free_step code task.stack) code c.plain t task.stack) (λ o. Idle) parked)
  by_parked task (Some o) there is cov = tt
  by_parked task None there is cov =
      stack_good task.stack (there ∙ ap (λ p. Some (Some (record { stack = task.stack; parked = p }))) is) (no_copy task.stack.top.saved cov.0) cov.1

  by_task : (m : Option Task) → task_at c.plain t ≡ m → BranchesTask code m
      → Good code table fits c holds t (maybe [] (λ task. changes_by (free_step code task.stack) code c.plain task.stack) m) (maybe [] (λ task. uses_by (free_step code task.stack) code task.stack) m) (maybe Idle (ready_step code c.plain t) m)
  by_task None e cov = tt
  by_task (Some task) e cov = by_parked task task.parked (there_is (slice_get c.plain.tasks t) task e) refl cov

pub branches_keep : BranchesKeep
branches_keep code table fits once c next t holds cov e =
    by_took code table fits c holds t (may_step code c t) (changes code c.plain t) (uses code c.plain t) (plain_step code c.plain t)
    (cond_second (leaves code c t) (all_there (uses code c.plain t) c.counts)) (by_task code table fits once c holds t (task_at c.plain t) refl cov) next e
