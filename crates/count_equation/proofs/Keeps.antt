-- A step at a covered row keeps the equation.
use Rattle.std.proofs.Common.{◌≡◌, ℕ, suc, ◌+◌, ◌-◌, ◌≤◌, ◌==◌, nat_lt, cond, Bool, true, false, List, [], ◌∷◌, length, drop, Option, Some, None, refl, sym, ap, ◌∙◌, subst, arith}
use Rattle.std.specs.Prelude.{slice_get, slice_set, nat_le}
use Rattle.ir_forms.specs.declared.runs.ObjNo.{ObjNo}
use Rattle.ir_forms.specs.declared.runs.TaskNo.{TaskNo}
use Rattle.low_forms.specs.declared.code.Reg.{Reg}
use Rattle.low_forms.specs.declared.code.Instr.{Instr}
use Rattle.low_forms.specs.declared.code.Term.{Term}
use Rattle.low_forms.specs.declared.code.LowFunc.{LowFunc}
use Rattle.low_forms.specs.declared.code.LowModule.{LowModule}
use Rattle.low_forms.specs.declared.row.Slot.TheVariants as slot
use Rattle.low_forms.specs.declared.row.Change.TheVariants as change
use Rattle.low_forms.specs.Rows.{row_of}
use Rattle.low_forms.specs.Owns.{count_of}
use Rattle.low_forms.specs.Fits.{instr_fits}
use Rattle.low_forms.specs.Registers.{type_at}
use Rattle.source_meaning.specs.Values.{maybe, or_else}
use Rattle.async_objects.specs.declared.object.Object.{Object}
use Rattle.async_objects.specs.declared.kinds.Kind.{Kind}
use Rattle.async_objects.specs.declared.kinds.Kind.TheVariants as kind
use Rattle.async_objects.specs.declared.kinds.Val.{Val}
use Rattle.async_objects.specs.declared.kinds.Val.TheVariants as val
use Rattle.async_objects.specs.Objects.{object_at, is_done, is_open, new_object, with_awaiter, created, stored, put}
use Rattle.async_objects.specs.Counts.{CountChange, count_at, is_there, raised, can_change, more, less, made, first_count, create_changes}
use Rattle.async_objects.proofs.ListLemmas.{some_is}
use Rattle.async_objects.proofs.LoopLemmas.{length_put, count_same, count_other}
use Rattle.task_stack.specs.declared.effects.Effect.{Effect}
use Rattle.task_stack.specs.declared.effects.Effect.TheVariants as effect
use Rattle.task_stack.specs.declared.frames.Place.{Place}
use Rattle.task_stack.specs.declared.frames.Saved.{Saved}
use Rattle.task_stack.specs.declared.frames.Saved.TheVariants as saved
use Rattle.task_stack.specs.Effects.{effect_of}
use Rattle.task_stack.specs.Registers.{held, values_at, value, number, bind}
use Rattle.task_stack.specs.Frames.{Stack, place_after, behind}
use Rattle.task_stack.specs.Numbers.{computed}
use Rattle.task_stack.specs.Local as local
use Rattle.task_stack.specs.Local.{Local, Standing, standing, goes, count_step, counts, inner_step, step_in, free_step, operands}
use Rattle.task_stack.specs.Shared.{Next, first_of, next_of, passed}
use Rattle.own_tables.specs.declared.table.OwnTable.{OwnTable}
use Rattle.own_tables.specs.Owns.{IsReached, Fits, is_object_reg}
use Rattle.step_core.specs.declared.rows.SharedRow.{SharedRow}
use Rattle.step_core.specs.declared.rows.SharedRow.TheVariants as row
use Rattle.step_core.specs.declared.tasks.Task.{Task}
use Rattle.step_core.specs.Rows.{shared_row}
use Rattle.step_core.specs.State.{Plain, with_task, counted, ready, task_at, cells_of}
use Rattle.step_core.specs.Shared.{Took, Stuck, Idle, Stopped, Takes, Nothing, on, goes_on, on_object, on_buffer, where_so, numbers, cell_there, asked_sizes, can_allocate, creates, kind_of, awaits, looks, stores, loads, shared_step}
use Rattle.step_core.specs.Plain.{by_local, ready_step, shared_uses, counting_uses, uses_by, counting_changes, shared_changes, changes_by, uses, changes, plain_step}
use Rattle.step_core.specs.Core.{Core, own_count, all_there, leaves, may_step, counting, overlay}
use Rattle.step_core.specs.Runs.{after}
use Rattle.count_sums.specs.Sums.{point, share, owned}
use Rattle.count_sums.proofs.Sums.{put_held, owned_same, owned_point, owned_bind, point_none, point_sum}
use Rattle.count_equation.specs.Equation.{at_place, owed, Stands, AllStand, Holds}
use Rattle.count_equation.specs.Covers.{CoversShared, CoversEffect, CoversNext, CoversAt, CoversTask, HasNoCopy, Covers}
use Rattle.count_equation.specs.Laws.{CoveredKeeps}
use Rattle.count_equation.proofs.RowFacts.{Neutral, Counting, SharedIs, EffectIs, row_is}
use Rattle.count_equation.proofs.Places.{untrue, and_first, At, at_standing, row_at, FirstIsObject, OneObject, first_is_object, makes_element, makes_group, instr_at}
use Rattle.count_equation.proofs.Numbers as numbers_of
use Rattle.count_equation.proofs.Effects.{keeps, keeps_put, keeps_end, length_end, count_changed, stand_set, stands_on, gone_on, moves, taken_out, length_without}

pub no_copy : (s : Saved) → HasNoCopy s → s ≡ saved.Nothing
no_copy saved.Nothing h = refl
no_copy (saved.Kept copy) h = elim h [ ]
no_copy saved.Taken h = elim h [ ]
no_copy saved.Copied h = elim h [ ]

pub there_is : (m : Option (Option Task)) (task : Task) → or_else None m ≡ Some task → m ≡ Some (Some task)
there_is None task e = cc
there_is (Some x) task e = ap Some e

pub cond_second : (a b : Bool) → cond a b false ≡ true → b ≡ true
cond_second true b e = e
cond_second false b e = untrue e

cond_true : (b : Bool) → cond b true false ≡ true → b ≡ true
cond_true true e = refl
cond_true false e = e

-- an operand that is there
record First (f : LowFunc) (rs : List Reg) : Type 0 where
  reg : Reg
  others : List Reg
  are : rs ≡ reg ∷ others
  object : is_object_reg f reg.0 ≡ true

first_of_these : (f : LowFunc) (rs : List Reg) → FirstIsObject f rs → First f rs
first_of_these f [] h = elim h [ ]
first_of_these f (q ∷ qs) h = record { reg = q; others = qs; are = refl; object = h }

-- ---- objects that keep what they kept

keeps_awaited : (objects : List Object) (o : ObjNo) (t : TaskNo) (done : Bool) (q : ℕ) → keeps (cond done objects (put objects o (with_awaiter t (object_at objects o)))) q ≡ keeps objects q
keeps_awaited objects o t true q = refl
keeps_awaited objects o t false q = keeps_put objects o.0 (with_awaiter t (object_at objects o)) refl q

length_awaited : (objects : List Object) (o : ObjNo) (t : TaskNo) (done : Bool) → length (cond done objects (put objects o (with_awaiter t (object_at objects o)))) ≡ length objects
length_awaited objects o t true = refl
length_awaited objects o t false = length_put objects o.0 (with_awaiter t (object_at objects o))

-- a new object keeps one less than its first count
first_is : (k : Kind) → first_count k ≡ 1 + own_count (new_object k)
first_is (kind.Group size) = refl
first_is kind.Token = refl
first_is kind.Value = refl

module _ (code : LowModule) (table : OwnTable) (fits : Fits code table) (c : Core) (holds : Holds code table c) (t : ℕ) where
  abbrev pub s : Plain
  s = c.plain

  -- what is owed of a step
  abbrev pub Good : List CountChange → List ObjNo → Took Plain → Type 0
  Good cs needs (Takes next wakes act) = all_there needs c.counts ≡ true → can_change cs c.counts ≡ true → Holds code table (counting c cs next)
  Good cs needs _ = Unit {0}

  -- what is owed of a local step, where the next instruction is this one
  abbrev pub Owes : Stack → Local → Option Next → Type 0
  Owes stack (local.Done next counts') n = Good (counting_changes counts') (counting_uses counts') (goes_on s t next Nothing)
  Owes stack local.Shared n =
      Good (maybe [] (λ n. shared_changes (shared_row n.instr.kind) n.func n.instr (operands stack n.instr) s) n)
      (maybe [] (λ n. shared_uses (shared_row n.instr.kind) (operands stack n.instr)) n)
      (maybe Stuck (λ n. shared_step (shared_row n.instr.kind) n.func n.instr (operands stack n.instr) s t stack) n)
  Owes stack _ n = Unit {0}

  where_good : (cs : List CountChange) (needs : List ObjNo) (so : Bool) (took : Took Plain) → Good cs needs took → Good cs needs (where_so so took)
  where_good cs needs true took good = good
  where_good cs needs false took good = tt

  maybe_good : {X : Type 0} (cs : List CountChange) (needs : List ObjNo) (go : X → Took Plain) (m : Option X) → ((x : X) → Good cs needs (go x)) → Good cs needs (maybe Stuck go m)
  maybe_good cs needs go None good = tt
  maybe_good cs needs go (Some x) good = good x

  buffer_good : (cs : List CountChange) (needs : List ObjNo) (go : ℕ → List ℕ → Took Plain) (v : Val) → ((b : ℕ) (dims : List ℕ) → Good cs needs (go b dims)) → Good cs needs (on_buffer v go)
  buffer_good cs needs go (val.Number n) good = tt
  buffer_good cs needs go (val.Object o) good = tt
  buffer_good cs needs go (val.Buffer b rank dims) good = good b _

  object_good : (cs : List CountChange) (needs : List ObjNo) (go : ObjNo → Took Plain) (v : Val) → ((o : ObjNo) → Good cs needs (go o)) → Good cs needs (on_object v go)
  object_good cs needs go (val.Number n) good = tt
  object_good cs needs go (val.Object o) good = good o
  object_good cs needs go (val.Buffer b rank dims) good = tt

  -- what is there was made
  there_made : (p : ObjNo) → is_there c.counts p ≡ true → (o : ℕ) → length s.objects ≤ o → p.0 ≡ o → ⊥
  there_made p there o past e =
      let none : count_at c.counts p.0 ≡ 0 = holds.made p.0 (subst (λ x. length s.objects ≤ x) (sym e) past) in
      untrue (sym (ap (λ n. nat_lt 0 n) none) ∙ there)

  module _ (stack : Stack) (there : slice_get s.tasks t ≡ Some (Some (ready stack))) (plain : stack.top.saved ≡ saved.Nothing)
      (f : LowFunc) (i : Instr) (is : List Instr) (term : Term) (at' : At code stack.top.current.place (record { func = f; rest = record { instrs = i ∷ is; term = term } })) where
    abbrev here : Place
    here = stack.top.current.place

    abbrev regs : List Val
    regs = stack.top.current.regs

    abbrev then : Place
    then = place_after None here

    abbrev was : ℕ → ℕ
    was = at_place code table here

    abbrev now : ℕ → ℕ
    now = at_place code table then

    row_there : slice_get at'.block.instrs here.at ≡ Some i
    row_there = row_at at'.block.instrs at'.block.term term here.at i is at'.rest

    stands : Stands code here
    stands = holds.stands t (Some (ready stack)) there

    reached : IsReached f here.block.0
    reached = subst (λ g. IsReached g here.block.0) (some_is stands.func f (sym stands.there ∙ at'.func_there)) stands.reached

    abbrev IsNext : Plain → List Val → Option ObjNo → Type 0
    IsNext next regs' parked = next.tasks ≡ slice_set s.tasks t (Some (record { stack = gone_on code table stack plain then regs'; parked = parked }))

    stand : (regs' : List Val) (parked : Option ObjNo) → AllStand code (slice_set s.tasks t (Some (record { stack = gone_on code table stack plain then regs'; parked = parked })))
    stand regs' parked = stand_set code table s.tasks t (Some (ready stack)) (Some (record { stack = gone_on code table stack plain then regs'; parked = parked })) there holds.stands (stands_on code table here stands)

    -- no count changes
    finish : (next : Plain) (regs' : List Val) (parked : Option ObjNo) → IsNext next regs' parked → length next.objects ≡ length s.objects
        → ((o : ℕ) → keeps next.objects o ≡ keeps s.objects o) → ((o : ℕ) → owned now o regs' ≡ owned was o regs) → Holds code table (counting c [] next)
    finish next regs' parked tasks len kept same = record {
      equation = λ o. subst (λ ts. count_at c.counts o ≡ owed code table o ts next.objects) (sym tasks)
          (moves code table stack plain then regs' s.tasks s.objects next.objects c.counts c.counts t None parked there holds.equation
          (λ q. let a : keeps next.objects q ≡ keeps s.objects q = kept q in let b : owned now q regs' ≡ owned was q regs = same q in omega (arith, a, b)) o);
      made = λ o past. holds.made o (subst (λ n. n ≤ o) len past);
      stands = subst (AllStand code) (sym tasks) (stand regs' parked);
    }

    -- one count changes
    change_one : (next : Plain) (regs' : List Val) (parked : Option ObjNo) (ch : CountChange) → IsNext next regs' parked → can_change (ch ∷ []) c.counts ≡ true
        → ((o : ℕ) → length next.objects ≤ o → (ch.object.0 ≡ o → ⊥) × (length s.objects ≤ o))
        → ((o : ℕ) → owned was o regs + keeps s.objects o + point ch.object.0 (ch.made + ch.more) o ≡ owned now o regs' + keeps next.objects o + point ch.object.0 ch.less o)
        → Holds code table (counting c (ch ∷ []) next)
    change_one next regs' parked ch tasks can past same =
        let p : ℕ = ch.object.0 in
        let n : ℕ = raised ch c.counts - ch.less in
        let enough : ch.less ≤ raised ch c.counts = numbers_of.within ch.less (raised ch c.counts) (and_first (nat_le ch.less (raised ch c.counts)) true can) in
        let counts' : (o : ℕ) → count_at (counting c (ch ∷ []) next).counts o + point p ch.less o ≡ count_at c.counts o + point p (ch.made + ch.more) o = λ o. count_changed c.counts p (ch.made + ch.more) ch.less enough o in
        record {
          equation = λ o. subst (λ ts. count_at (counting c (ch ∷ []) next).counts o ≡ owed code table o ts (counting c (ch ∷ []) next).plain.objects) (sym tasks)
              (taken_out code table (slice_set s.tasks t (Some (record { stack = gone_on code table stack plain then regs'; parked = parked }))) next.objects (counting c (ch ∷ []) next).counts ch.object n (n == 0) refl (count_same c.counts p n)
              (moves code table stack plain then regs' s.tasks s.objects next.objects c.counts (counting c (ch ∷ []) next).counts t None parked there holds.equation
              (λ q. let a : count_at (counting c (ch ∷ []) next).counts q + point p ch.less q ≡ count_at c.counts q + point p (ch.made + ch.more) q = counts' q in
              let b : owned was q regs + keeps s.objects q + point p (ch.made + ch.more) q ≡ owned now q regs' + keeps next.objects q + point p ch.less q = same q in
              omega (arith, a, b))) o);
          made = λ o far.
              let away : length next.objects ≤ o = subst (λ l. l ≤ o) (length_without next.objects ch.object (n == 0)) far in
              count_other c.counts p o n (λ e. (past o away).0 (sym e)) ∙ holds.made o (past o away).1;
          stands = subst (AllStand code) (sym tasks) (stand regs' parked);
        }

    -- ---- rows that leave references alone

    module _ (neutral : Neutral (row_of i.kind)) where
      numbers_stay : (r : ℕ) → now r ≡ was r
      numbers_stay = numbers_of.neutral code table fits here f at'.block i at'.func_there reached at'.block_there row_there neutral

      results_stay : (vs : List Val) (o : ℕ) → owned now o (bind i.results vs regs) ≡ owned was o regs
      results_stay vs o =
          owned_same now was o (bind i.results vs regs) numbers_stay
          ∙ owned_bind was o i.results vs regs (numbers_of.results_free code table fits here f at'.block i at'.func_there reached at'.block_there row_there)

      -- with these results, and other objects that keep as much
      with_results : (needs : List ObjNo) (next : Plain) (vs : List Val) → IsNext next (bind i.results vs regs) None → length next.objects ≡ length s.objects
          → ((o : ℕ) → keeps next.objects o ≡ keeps s.objects o) → all_there needs c.counts ≡ true → can_change [] c.counts ≡ true → Holds code table (counting c [] next)
      with_results needs next vs tasks len kept all can = finish next (bind i.results vs regs) None tasks len kept (results_stay vs)

      without_results : (needs : List ObjNo) (next : Plain) (parked : Option ObjNo) → IsNext next regs parked → length next.objects ≡ length s.objects
          → ((o : ℕ) → keeps next.objects o ≡ keeps s.objects o) → all_there needs c.counts ≡ true → can_change [] c.counts ≡ true → Holds code table (counting c [] next)
      without_results needs next parked tasks len kept all can = finish next regs parked tasks len kept (λ o. owned_same now was o regs numbers_stay)

    -- ---- rows that count references

    added_good : (v : Val) → ((o : ℕ) → owned now o regs ≡ owned was o regs + share o v (count_of i.attr))
        → Good (counting_changes (count_step true (count_of i.attr) v)) (counting_uses (count_step true (count_of i.attr) v)) (goes_on s t (passed stack) Nothing)
    added_good (val.Number n) same all can =
        finish (counted (with_task s t (Some (ready (passed stack))))) regs None refl refl (λ o. refl) (λ o. let e : owned now o regs ≡ owned was o regs + 0 = same o in omega (arith, e))
    added_good (val.Buffer b rank dims) same all can =
        finish (counted (with_task s t (Some (ready (passed stack))))) regs None refl refl (λ o. refl) (λ o. let e : owned now o regs ≡ owned was o regs + 0 = same o in omega (arith, e))
    added_good (val.Object p) same all can =
        change_one (counted (with_task s t (Some (ready (passed stack))))) regs None (more p (count_of i.attr)) refl can
        (λ o far. (there_made p (cond_true (is_there c.counts p) all) o far, far))
        (λ o. let e : owned now o regs ≡ owned was o regs + point p.0 (count_of i.attr) o = same o in
        let a : point p.0 (0 + count_of i.attr) o ≡ point p.0 (count_of i.attr) o = ap (λ n. point p.0 n o) (omega arith) in
        let b : point p.0 0 o ≡ 0 = point_none p.0 o in
        omega (arith, e, a, b))

    dropped_good : (v : Val) → ((o : ℕ) → owned was o regs ≡ owned now o regs + share o v (count_of i.attr))
        → Good (counting_changes (count_step false (count_of i.attr) v)) (counting_uses (count_step false (count_of i.attr) v)) (goes_on s t (passed stack) Nothing)
    dropped_good (val.Number n) same all can =
        finish (counted (with_task s t (Some (ready (passed stack))))) regs None refl refl (λ o. refl) (λ o. let e : owned was o regs ≡ owned now o regs + 0 = same o in omega (arith, e))
    dropped_good (val.Buffer b rank dims) same all can =
        finish (counted (with_task s t (Some (ready (passed stack))))) regs None refl refl (λ o. refl) (λ o. let e : owned was o regs ≡ owned now o regs + 0 = same o in omega (arith, e))
    dropped_good (val.Object p) same all can =
        change_one (counted (with_task s t (Some (ready (passed stack))))) regs None (less p (count_of i.attr)) refl can
        (λ o far. (there_made p (cond_true (is_there c.counts p) all) o far, far))
        (λ o. let e : owned was o regs ≡ owned now o regs + point p.0 (count_of i.attr) o = same o in
        let a : point p.0 (0 + 0) o ≡ 0 = point_none p.0 o in
        omega (arith, e, a))

    instr_fit : instr_fits code f i ≡ true
    instr_fit = instr_at code f here.block.0 here.at at'.block i (fits.well_formed here.func.0 f at'.func_there) at'.block_there row_there

    adds_good : Counting change.Adds (row_of i.kind)
        → Good (counting_changes (count_step true (count_of i.attr) (value (operands stack i) 0))) (counting_uses (count_step true (count_of i.attr) (value (operands stack i) 0))) (goes_on s t (passed stack) Nothing)
    adds_good is' =
        let q : First f i.operands = first_of_these f i.operands (first_is_object code f i instr_fit is'.3) in
        let v : value (operands stack i) 0 ≡ held regs q.reg.0 = ap (λ rs. value (values_at regs rs) 0) q.are in
        added_good (value (operands stack i) 0)
        (λ o. owned_same now (λ r. was r + point q.reg.0 (count_of i.attr) r) o regs
        (numbers_of.adding code table fits here f at'.block i at'.func_there reached at'.block_there row_there q.reg q.others q.are q.object is')
        ∙ owned_point was o regs q.reg.0 (count_of i.attr) ∙ ap (λ v. owned was o regs + share o v (count_of i.attr)) (sym v))

    drops_good : Counting change.Drops (row_of i.kind)
        → Good (counting_changes (count_step false (count_of i.attr) (value (operands stack i) 0))) (counting_uses (count_step false (count_of i.attr) (value (operands stack i) 0))) (goes_on s t (passed stack) Nothing)
    drops_good is' =
        let q : First f i.operands = first_of_these f i.operands (first_is_object code f i instr_fit is'.3) in
        let v : value (operands stack i) 0 ≡ held regs q.reg.0 = ap (λ rs. value (values_at regs rs) 0) q.are in
        dropped_good (value (operands stack i) 0)
        (λ o. owned_same was (λ r. now r + point q.reg.0 (count_of i.attr) r) o regs
        (numbers_of.dropping code table fits here f at'.block i at'.func_there reached at'.block_there row_there q.reg q.others q.are q.object is')
        ∙ owned_point now o regs q.reg.0 (count_of i.attr) ∙ ap (λ v. owned now o regs + share o v (count_of i.attr)) (sym v))

    -- ---- objects are made

    made_good : (k : Kind) → OneObject f i.results → (row_of i.kind).takes ≡ false → (row_of i.kind).gives ≡ true → (row_of i.kind).change ≡ change.Nothing → Good (create_changes k s.objects) [] (creates k s t stack i)
    made_good k one takes gives changes' all can =
        let new : ObjNo = record { 0 = length s.objects } in
        let next : Plain = counted (with_task (record s { objects = created k s.objects }) t (Some (ready (on stack i (val.Object new ∷ []))))) in
        let bound : List Val = bind i.results (val.Object new ∷ []) regs in
        change_one next bound None (made new (first_count k)) refl can
        (λ o far. (let l : length (created k s.objects) ≡ suc (length s.objects) = length_end s.objects (new_object k) in
        ((λ e. absurd (omega (arith, far, l, e))), omega (arith, far, l))))
        (λ o. let w : owned now o bound ≡ owned was o bound + share o (held bound one.reg.0) 1 =
        owned_same now (λ r. was r + point one.reg.0 1 r) o bound (numbers_of.making code table fits here f at'.block i at'.func_there reached at'.block_there row_there one.reg one.alone one.object takes gives changes')
        ∙ owned_point was o bound one.reg.0 1 in
        let x : owned was o bound ≡ owned was o regs = owned_bind was o i.results (val.Object new ∷ []) regs (numbers_of.results_free code table fits here f at'.block i at'.func_there reached at'.block_there row_there) in
        let y : share o (held bound one.reg.0) 1 ≡ point (length s.objects) 1 o = ap (λ rs. share o (held (bind rs (val.Object new ∷ []) regs) one.reg.0) 1) one.alone ∙ ap (λ v. share o v 1) (put_held regs one.reg.0 (val.Object new)) in
        let z : keeps (created k s.objects) o ≡ keeps s.objects o + point (length s.objects) (own_count (new_object k)) o = keeps_end s.objects (new_object k) o in
        let u : point (length s.objects) (first_count k + 0) o ≡ point (length s.objects) 1 o + point (length s.objects) (own_count (new_object k)) o =
        ap (λ n. point (length s.objects) n o) (let e : first_count k ≡ 1 + own_count (new_object k) = first_is k in let g : first_count k + 0 ≡ 1 + own_count (new_object k) = omega (arith, e) in g) ∙ point_sum (length s.objects) 1 (own_count (new_object k)) o in
        let n : point (length s.objects) 0 o ≡ 0 = point_none (length s.objects) o in
        omega (arith, w, x, y, z, u, n))

    -- ---- by rows

    abbrev vs : List Val
    vs = operands stack i

    shared_good : (r : SharedRow) → CoversShared r → SharedIs r (row_of i.kind) → Good (shared_changes r f i vs s) (shared_uses r vs) (shared_step r f i vs s t stack)
    shared_good row.Allocate cov is' = where_good [] [] (can_allocate (asked_sizes f i vs)) _ (with_results is' [] _ _ refl refl (λ o. refl))
    shared_good row.Deallocate cov is' = without_results is' [] _ None refl refl (λ o. refl)
    shared_good row.LoadCell cov is' = buffer_good [] [] _ (value vs 0) (λ b dims. maybe_good [] [] _ (cell_there (cells_of s b) dims (numbers (drop 1 vs))) (λ x. with_results is' [] _ _ refl refl (λ o. refl)))
    shared_good row.StoreCell cov is' = buffer_good [] [] _ (value vs 1) (λ b dims. maybe_good [] [] _ (cell_there (cells_of s b) dims (numbers (drop 2 vs))) (λ x. without_results is' [] _ None refl refl (λ o. refl)))
    shared_good row.Create cov is' = made_good (kind_of (type_at f i.results 0)) (makes_element code f i instr_fit is'.3 is'.4) is'.0 is'.1 is'.2
    shared_good row.CreateGroup cov is' = made_good (kind.Group (number vs 0)) (makes_group code f i instr_fit is'.3 is'.4) is'.0 is'.1 is'.2
    shared_good row.Await cov is' =
        object_good [] (shared_uses row.Await vs) (awaits s t (passed stack)) (value vs 0)
        (λ o. without_results is' (shared_uses row.Await vs) _ _ refl (length_awaited s.objects o (record { 0 = t }) (is_done (object_at s.objects o))) (keeps_awaited s.objects o (record { 0 = t }) (is_done (object_at s.objects o))))
    shared_good row.IsError cov is' =
        object_good [] (shared_uses row.IsError vs) (looks s t stack i) (value vs 0)
        (λ o. where_good [] (shared_uses row.IsError vs) (is_done (object_at s.objects o)) _ (with_results is' (shared_uses row.IsError vs) _ _ refl refl (λ q. refl)))
    shared_good row.Store cov is' =
        object_good [] (shared_uses row.Store vs) (stores s t stack (value vs 0)) (value vs 1)
        (λ o. where_good [] (shared_uses row.Store vs) (is_open (object_at s.objects o)) (goes_on (record s { objects = stored o (value vs 0) s.objects }) t (passed stack) Nothing) (without_results is' (shared_uses row.Store vs) _ None refl (length_put s.objects o.0 (record (object_at s.objects o) { payload = Some (value vs 0) })) (keeps_put s.objects o.0 (record (object_at s.objects o) { payload = Some (value vs 0) }) refl)))
    shared_good row.Load cov is' =
        object_good [] (shared_uses row.Load vs) (loads s t stack i) (value vs 0)
        (λ o. maybe_good [] (shared_uses row.Load vs) _ (object_at s.objects o).payload (λ v. with_results is' (shared_uses row.Load vs) _ _ refl refl (λ q. refl)))
    shared_good row.AddToGroup cov is' = elim cov [ ]
    shared_good row.Return cov is' = elim cov [ ]
    shared_good row.Fail cov is' = elim cov [ ]
    shared_good row.Finish cov is' = elim cov [ ]
    shared_good row.Resume cov is' = elim cov [ ]
    shared_good row.AwaitAndResume cov is' = elim cov [ ]
    shared_good row.SetAvailable cov is' = elim cov [ ]
    shared_good row.SetError cov is' = elim cov [ ]
    shared_good row.Absent cov is' = elim cov [ ]

    effect_good : (e : Effect) → CoversEffect e (shared_row i.kind) → EffectIs e (shared_row i.kind) (row_of i.kind) → Owes stack (inner_step e true code f i stack) (Some (record { func = f; instr = i }))
    effect_good (effect.Computes n) cov is' = computed_good (computed n f i (operands stack i))
      where
        computed_good : (v : Option Val) → Owes stack (maybe local.Stuck (λ v. goes (behind i.results) (v ∷ []) stack) v) (Some (record { func = f; instr = i }))
        computed_good None = tt
        computed_good (Some v) = with_results is' [] (counted (with_task s t (Some (ready (on stack i (v ∷ [])))))) (v ∷ []) refl refl (λ o. refl)
    effect_good effect.Skips cov is' = with_results is' [] (counted (with_task s t (Some (ready (on stack i []))))) [] refl refl (λ o. refl)
    effect_good effect.AddsReferences cov is' = adds_good is'
    effect_good effect.DropsReferences cov is' = drops_good is'
    effect_good effect.Shared cov is' = shared_good (shared_row i.kind) cov is'
    effect_good effect.Jumps cov is' = elim cov [ ]
    effect_good effect.Branches cov is' = elim cov [ ]
    effect_good effect.Launches cov is' = elim cov [ ]
    effect_good effect.Calls cov is' = elim cov [ ]
    effect_good effect.Returns cov is' = elim cov [ ]
    effect_good effect.Fails cov is' = elim cov [ ]
    effect_good effect.Saves cov is' = elim cov [ ]
    effect_good effect.Suspends cov is' = elim cov [ ]
    effect_good effect.Absent cov is' = elim cov [ ]

  module _ (stack : Stack) (there : slice_get s.tasks t ≡ Some (Some (ready stack))) (plain : stack.top.saved ≡ saved.Nothing) where
    pub owes_good : (l : Local) → Owes stack l (next_of code stack) → Good (changes_by l code s stack) (uses_by l code stack) (by_local l code s t stack)
    owes_good (local.Done next counts') owes = owes
    owes_good local.Shared owes = owes
    owes_good local.Stuck owes = tt
    owes_good local.Deep owes = tt

    by_next : (st : Standing) → At code stack.top.current.place st → (xs : List Instr) → st.rest.instrs ≡ xs → CoversNext xs
        → Owes stack (step_in true code st.func xs st.rest.term stack) (Some (record { func = st.func; instr = first_of xs st.rest.term }))
    by_next st at' [] are cov = elim cov [ ]
    by_next st at' (i ∷ is) are cov =
        effect_good stack there plain st.func i is st.rest.term
        (record { block = at'.block; func_there = at'.func_there; block_there = at'.block_there; rest = at'.rest ∙ ap (λ xs. Some (record { instrs = xs; term = st.rest.term })) are })
        (effect_of i.kind) cov (row_is i.kind)

    by_standing : (m : Option Standing) → standing code stack.top.current.place ≡ m → CoversAt m
        → Owes stack (maybe local.Stuck (λ st. step_in true code st.func st.rest.instrs st.rest.term stack) m) (maybe None (λ st. Some (record { func = st.func; instr = first_of st.rest.instrs st.rest.term })) m)
    by_standing None e cov = elim cov [ ]
    by_standing (Some st) e cov = by_next st (at_standing code stack.top.current.place st e) st.rest.instrs refl cov

    stack_good : CoversAt (standing code stack.top.current.place) → Good (changes_by (free_step code stack) code s stack) (uses_by (free_step code stack) code stack) (by_local (free_step code stack) code s t stack)
    stack_good cov = owes_good (free_step code stack) (by_standing (standing code stack.top.current.place) refl cov)

  by_parked : (task : Task) (parked : Option ObjNo) → slice_get s.tasks t ≡ Some (Some task) → task.parked ≡ parked → CoversTask code (Some task)
      → Good (changes_by (free_step code task.stack) code s task.stack) (uses_by (free_step code task.stack) code task.stack) (maybe (by_local (free_step code task.stack) code s t task.stack) (λ o. Idle) parked)
  by_parked task (Some o) there is cov = tt
  by_parked task None there is cov =
      stack_good task.stack (there ∙ ap (λ p. Some (Some (record { stack = task.stack; parked = p }))) is) (no_copy task.stack.top.saved cov.0) cov.1

  by_task : (m : Option Task) → task_at s t ≡ m → CoversTask code m
      → Good (maybe [] (λ task. changes_by (free_step code task.stack) code s task.stack) m) (maybe [] (λ task. uses_by (free_step code task.stack) code task.stack) m) (maybe Idle (ready_step code s t) m)
  by_task None e cov = tt
  by_task (Some task) e cov = by_parked task task.parked (there_is (slice_get s.tasks t) task e) refl cov

  pub step_good : Covers code c t → Good (changes code s t) (uses code s t) (plain_step code s t)
  step_good cov = by_task (task_at s t) refl cov

  by_can : (cs : List CountChange) (next' : Plain) (wakes : List TaskNo) (act : _) (can : Bool) → (can ≡ true → Holds code table (counting c cs next')) → (next : Core)
      → after (cond can (Takes (counting c cs next') wakes act) Stuck) ≡ Some next → Holds code table next
  by_can cs next' wakes act true good next e = subst (Holds code table) (some_is (counting c cs next') next e) (good refl)
  by_can cs next' wakes act false good next e = cc

  pub by_took : (may : Bool) (cs : List CountChange) (needs : List ObjNo) (took : Took Plain) → (may ≡ true → all_there needs c.counts ≡ true) → Good cs needs took → (next : Core)
      → after (overlay may c cs took) ≡ Some next → Holds code table next
  by_took may cs needs Stuck all good next e = cc
  by_took may cs needs Idle all good next e = cc
  by_took true cs needs (Stopped l) all good next e = cc
  by_took false cs needs (Stopped l) all good next e = cc
  by_took false cs needs (Takes next' wakes act) all good next e = cc
  by_took true cs needs (Takes next' wakes act) all good next e = by_can cs next' wakes act (can_change cs c.counts) (λ can. good (all refl) can) next e

-- ---- the laws

pub covered_keeps : CoveredKeeps
covered_keeps code table fits c next t holds cov e =
    by_took code table fits c holds t (may_step code c t) (changes code c.plain t) (uses code c.plain t) (plain_step code c.plain t)
    (cond_second (leaves code c t) (all_there (uses code c.plain t) c.counts)) (step_good code table fits c holds t cov) next e
