-- Whether shared rows go on, by what they need.
use Rattle.std.proofs.Common.{◌≡◌, ℕ, ◌<◌, nat_lt, nat_le, cond, Bool, true, false, List, [], ◌∷◌, ◌++◌, drop, take, length, replicate, slice_set, ◌%◌, ◌^◌, Option, Some, None, refl, sym, ap, ◌∙◌}
use Rattle.std.specs.Option.{is_some}
use Rattle.std.proofs.lemmas.Bool.{ltb-true}
use Rattle.ir_forms.specs.declared.runs.ObjNo.{ObjNo}
use Rattle.ir_forms.specs.declared.runs.TaskNo.{TaskNo}
use Rattle.ir_forms.specs.Shapes.{product}
use Rattle.low_forms.specs.declared.code.Instr.{Instr}
use Rattle.low_forms.specs.declared.code.LowFunc.{LowFunc}
use Rattle.low_forms.specs.Registers.{type_at}
use Rattle.source_meaning.specs.Rows.{bit}
use Rattle.source_meaning.specs.Values.{maybe}
use Rattle.async_objects.specs.declared.kinds.Kind.{Kind}
use Rattle.async_objects.specs.declared.kinds.Kind.TheVariants.{Token, Value, Group}
use Rattle.async_objects.specs.declared.kinds.State as the_state
use Rattle.async_objects.specs.declared.kinds.State.TheVariants.{Available, Error}
use Rattle.async_objects.specs.declared.kinds.Val.{Val}
use Rattle.async_objects.specs.declared.kinds.Val.TheVariants.{Number, Buffer, Object}
use Rattle.async_objects.specs.declared.object.Object.{Object as Obj}
use Rattle.async_objects.specs.Objects.{object_at, is_group, is_done, is_error, is_open, state_of, takes_more, set_to, added, stored}
use Rattle.async_objects.specs.Counts.{CountChange, count_at, is_there, made, first_count, live, can_change, create_changes, add_changes, set_changes}
use Rattle.async_objects.specs.Sound.{Fits}
use Rattle.task_stack.specs.declared.frames.Activation.{Activation}
use Rattle.task_stack.specs.declared.frames.Frame.{Frame}
use Rattle.task_stack.specs.Frames.{Stack}
use Rattle.task_stack.specs.Registers.{value, number}
use Rattle.task_stack.specs.Shared.{kept, passed, becomes}
use Rattle.step_core.specs.declared.ends.RootEnd.{RootEnd}
use Rattle.step_core.specs.declared.ends.RootEnd.TheVariants.{Returned, FailedAt}
use Rattle.step_core.specs.declared.limits.Limit.{Limit}
use Rattle.step_core.specs.declared.limits.Limit.TheVariants as limit
use Rattle.step_core.specs.declared.limits.Limits.{Limits}
use Rattle.step_core.specs.declared.rows.SharedRow.{SharedRow}
use Rattle.step_core.specs.declared.rows.SharedRow.TheVariants as row
use Rattle.step_core.specs.State.{Plain, cells_of, with_objects, with_buffers, buffer_val}
use Rattle.step_core.specs.Shared.{Act, Took, Stuck, Idle, Stopped, Takes, Nothing, Reads, Writes, Allocates, Adds, Looks, Sets, on, goes_on, wakes, outs, where_so, on_object, on_buffer, numbers, asked_sizes, can_allocate, cell_there, kind_of, allocates, loads_cell, stores_cell, root_ends, task_ends, creates, awaits, looks, stores, loads, sets, adds_by, adds, resumes}
use Rattle.step_core.specs.Plain.{object_in, of_object}
use Rattle.step_core.specs.Core.{Core, all_there, counting, overlay, limited, row_limit}
use Rattle.step_core.specs.Parts.{named, cell_named, row_step}
use Rattle.step_core.specs.Enabled.{is_enabled, is_only, of_named, can_add, row_can}
use Rattle.step_core.proofs.RowLemmas.{can_grow}
use Rattle.step_core.proofs.SetBounds.{can_set}
use Rattle.step_core.proofs.SetRows.{can_join}

-- ---- limits and counts

pub by_limit : (passed : Option Limit) (took : Took Core) → is_enabled (limited passed took) ≡ is_enabled took
by_limit passed Stuck = refl
by_limit passed Idle = refl
by_limit passed (Stopped l) = refl
by_limit None (Takes after ws act) = refl
by_limit (Some l) (Takes after ws act) = refl

pub plainly : (c : Core) (took : Took Plain) → is_enabled (overlay true c [] took) ≡ is_enabled took
plainly c Stuck = refl
plainly c Idle = refl
plainly c (Stopped l) = refl
plainly c (Takes after ws act) = refl

pub gone : (c : Core) (cs : List CountChange) (took : Took Plain) → is_enabled (overlay false c cs took) ≡ false
gone c cs Stuck = refl
gone c cs Idle = refl
gone c cs (Stopped l) = refl
gone c cs (Takes after ws act) = refl

pub counted : (c : Core) (cs : List CountChange) (took : Took Plain) → can_change cs c.counts ≡ true → is_enabled (overlay true c cs took) ≡ is_enabled took
counted c cs Stuck can = refl
counted c cs Idle can = refl
counted c cs (Stopped l) can = refl
counted c cs (Takes after ws act) can = ap (λ b. is_enabled (cond b (Takes (counting c cs after) ws act) Stuck)) can

if_so : (b : Bool) (took : Took Plain) → is_enabled took ≡ true → is_enabled (where_so b took) ≡ b
if_so true took e = e
if_so false took e = refl

if_some : {X : Type 0} (o : Option X) (go : X → Took Plain) → ((x : X) → is_enabled (go x) ≡ true) → is_enabled (maybe Stuck go o) ≡ is_some o
if_some None go e = refl
if_some (Some x) go e = e x

-- ---- an object that it names

module _ (c : Core) (cs : Val → List CountChange) (go : ObjNo → Took Plain) (holds : ObjNo → Bool) where
  pub named_row : (v : Val) → ((o : ObjNo) → is_there c.counts o ≡ true → is_enabled (overlay true c (cs (Object o)) (go o)) ≡ holds o) →
      is_enabled (limited None (overlay (all_there (object_in v) c.counts) c (cs v) (on_object v go))) ≡ of_named v c.counts holds
  named_row (Number n) each = refl
  named_row (Buffer n rank dims) each = refl
  named_row (Object o) each = split (is_there c.counts o) refl where
    split : (b : Bool) → is_there c.counts o ≡ b → is_enabled (limited None (overlay (cond b true false) c (cs (Object o)) (go o))) ≡ maybe false holds (cond b (Some o) None)
    split true there = by_limit None (overlay true c (cs (Object o)) (go o)) ∙ each o there
    split false there = by_limit None (overlay false c (cs (Object o)) (go o)) ∙ gone c (cs (Object o)) (go o)

-- ---- cells

cell_row : (s : Plain) (v : Val) (indices : List ℕ) (go : ℕ → ℕ × ℕ → Took Plain) → ((b : ℕ) (p : ℕ × ℕ) → is_enabled (go b p) ≡ true) →
    is_enabled (on_buffer v (λ b dims. maybe Stuck (go b) (cell_there (cells_of s b) dims indices))) ≡ is_some (cell_named v indices s.buffers)
cell_row s (Number n) indices go e = refl
cell_row s (Object o) indices go e = refl
cell_row s (Buffer b rank dims) indices go e = split (cell_there (cells_of s b) (take rank dims) indices) where
  split : (o : Option (ℕ × ℕ)) → is_enabled (maybe Stuck (go b) o) ≡ is_some (maybe None (λ (p : ℕ × ℕ). let q : ℕ × ℕ = (b, p.0) in Some q) o)
  split None = refl
  split (Some p) = e b p

-- ---- ends

root_only : (s : Plain) (t : ℕ) (below : List Frame) (is_root : Bool) (e : RootEnd) → is_enabled (root_ends s t below is_root e) ≡ is_only below is_root true
root_only s t [] true e = refl
root_only s t [] false e = refl
root_only s t (f ∷ below) true e = refl
root_only s t (f ∷ below) false e = refl

task_only : (s : Plain) (t : ℕ) (below : List Frame) (is_root : Bool) → is_enabled (task_ends s t below is_root) ≡ is_only below is_root false
task_only s t [] true = refl
task_only s t [] false = refl
task_only s t (f ∷ below) true = refl
task_only s t (f ∷ below) false = refl

-- ---- groups

if_full : (b : Bool) (took : Took Plain) (l : Limit) → is_enabled took ≡ true → is_enabled (cond b took (Stopped l)) ≡ true
if_full true took l e = e
if_full false took l e = refl

adds_to : (k : Kind) (s : Plain) (t : ℕ) (stack : Stack) (i : Instr) (x g : ObjNo) → is_enabled (adds_by k s t stack i x g) ≡ is_group k
adds_to Token s t stack i x g = refl
adds_to Value s t stack i x g = refl
adds_to (Group size) s t stack i x g =
    let rank : ℕ = (object_at s.objects g).members.added in
    if_full (takes_more (object_at s.objects g)) (wakes s t (on stack i (Number rank ∷ [])) (added x g s.objects) (Adds g x rank)) (limit.Group size) refl

-- a group is no element
alone_adds : (b : Bool) (k : Kind) (s : Plain) (t : ℕ) (stack : Stack) (i : Instr) (x g : ObjNo) → is_enabled (cond b Stuck (adds_by k s t stack i x g)) ≡ cond b false (is_group k)
alone_adds true k s t stack i x g = refl
alone_adds false k s t stack i x g = adds_to k s t stack i x g

-- ---- by the row

module _ (l : Limits) (f : LowFunc) (i : Instr) (vs : List Val) (c : Core) (t : ℕ) (stack : Stack) (sound : Fits [] [] c.plain.objects c.counts) where
  abbrev GoesBy : SharedRow → Type 0
  GoesBy kind = is_enabled (row_step l kind f i vs c t stack) ≡ row_can kind f i vs c.plain.objects c.counts c.plain.buffers stack

  by_plain : (passed : Option Limit) (took : Took Plain) → is_enabled (limited passed (overlay true c [] took)) ≡ is_enabled took
  by_plain passed took = by_limit passed (overlay true c [] took) ∙ plainly c took

  makes : (k : Kind) (passed : Option Limit) → is_enabled (limited passed (overlay true c (create_changes k c.plain.objects) (creates k c.plain t stack i))) ≡ true
  makes k passed =
      by_limit passed (overlay true c (create_changes k c.plain.objects) (creates k c.plain t stack i))
      ∙ counted c (create_changes k c.plain.objects) (creates k c.plain t stack i) (can_grow (made (record { 0 = length c.plain.objects }) (first_count k)) c.counts refl)

  waits : (v : Val) (after : Stack) → is_enabled (limited None (overlay (all_there (object_in v) c.counts) c [] (on_object v (awaits c.plain t after)))) ≡ of_named v c.counts (λ o. true)
  waits v after = named_row c (λ x. []) (awaits c.plain t after) (λ o. true) v (λ o there. plainly c (awaits c.plain t after o))

  waits_as : (k : Option Activation) (v : Val) → is_enabled (limited None (overlay (all_there (object_in v) c.counts) c [] (maybe Stuck (λ copy. on_object v (awaits c.plain t (becomes copy stack))) k))) ≡ cond (is_some k) (of_named v c.counts (λ o. true)) false
  waits_as None v = by_limit None (overlay (all_there (object_in v) c.counts) c [] Stuck)
  waits_as (Some copy) v = waits v (becomes copy stack)

  set_by : (state : the_state.State) (o : ObjNo) (b : Bool) → is_open (object_at c.plain.objects o) ≡ b → 0 < count_at c.counts o.0 →
      is_enabled (overlay true c (set_changes o c.plain.objects) (where_so b (wakes c.plain t (passed stack) (set_to state o c.plain.objects) (Sets o state)))) ≡ b
  set_by state o true opened some =
      counted c (set_changes o c.plain.objects) (wakes c.plain t (passed stack) (set_to state o c.plain.objects) (Sets o state)) (can_set c.plain.objects c.counts o sound opened some)
  set_by state o false opened some = refl

  set_row : (state : the_state.State) (v : Val) →
      is_enabled (limited None (overlay (all_there (object_in v) c.counts) c (of_object v (λ o. set_changes o c.plain.objects)) (on_object v (sets state c.plain t stack)))) ≡ of_named v c.counts (λ o. is_open (object_at c.plain.objects o))
  set_row state v =
      named_row c (λ x. of_object x (λ o. set_changes o c.plain.objects)) (sets state c.plain t stack) (λ o. is_open (object_at c.plain.objects o)) v
      (λ o there. set_by state o (is_open (object_at c.plain.objects o)) refl (ltb-true 0 (count_at c.counts o.0) there))

  adds_in : (x : ObjNo) (v : Val) →
      is_enabled (limited None (overlay (all_there (object_in v) c.counts) c (of_object v (λ g. add_changes x g c.plain.objects)) (on_object v (adds c.plain t stack i x)))) ≡ of_named v c.counts (λ g. can_add c.plain.objects x g)
  adds_in x v =
      named_row c (λ w. of_object w (λ g. add_changes x g c.plain.objects)) (adds c.plain t stack i x) (λ g. can_add c.plain.objects x g) v
      (λ g there. counted c (add_changes x g c.plain.objects) (adds c.plain t stack i x g) (can_join (object_at c.plain.objects x).state g c.counts).0
      ∙ alone_adds (is_group (object_at c.plain.objects x).kind) (object_at c.plain.objects g).kind c.plain t stack i x g)

  adds_of : (v w : Val) →
      is_enabled (limited None (overlay (all_there (object_in v ++ object_in w) c.counts) c (of_object v (λ x. of_object w (λ g. add_changes x g c.plain.objects))) (on_object v (λ x. on_object w (adds c.plain t stack i x)))))
      ≡ of_named v c.counts (λ x. of_named w c.counts (λ g. can_add c.plain.objects x g))
  adds_of (Number n) w = by_limit None (overlay (all_there (object_in w) c.counts) c [] Stuck)
  adds_of (Buffer n rank dims) w = by_limit None (overlay (all_there (object_in w) c.counts) c [] Stuck)
  adds_of (Object x) w = split (is_there c.counts x) where
    split : (b : Bool) →
        is_enabled (limited None (overlay (cond b (all_there (object_in w) c.counts) false) c (of_object w (λ g. add_changes x g c.plain.objects)) (on_object w (adds c.plain t stack i x))))
        ≡ maybe false (λ x. of_named w c.counts (λ g. can_add c.plain.objects x g)) (cond b (Some x) None)
    split true = adds_in x w
    split false = by_limit None (overlay false c (of_object w (λ g. add_changes x g c.plain.objects)) (on_object w (adds c.plain t stack i x))) ∙ gone c (of_object w (λ g. add_changes x g c.plain.objects)) (on_object w (adds c.plain t stack i x))

  pub row_goes : (kind : SharedRow) → GoesBy kind
  row_goes row.Absent = refl
  row_goes row.Allocate =
      let ns : List ℕ = asked_sizes f i vs in
      by_plain (row_limit l row.Allocate f i vs c) (allocates ns c.plain t stack i) ∙ if_so (can_allocate ns) (goes_on (with_buffers c.plain (c.plain.buffers ++ replicate (product ns) 0 ∷ [])) t (on stack i (buffer_val (length c.plain.buffers) ns ∷ [])) (Allocates (length c.plain.buffers) (product ns))) refl
  row_goes row.Deallocate = refl
  row_goes row.LoadCell =
      by_plain None (loads_cell c.plain t stack i vs)
      ∙ cell_row c.plain (value vs 0) (numbers (drop 1 vs)) (λ b p. goes_on c.plain t (on stack i (Number p.1 ∷ [])) (Reads b p.0)) (λ b p. refl)
  row_goes row.StoreCell =
      by_plain None (stores_cell c.plain t stack i vs)
      ∙ cell_row c.plain (value vs 1) (numbers (drop 2 vs)) (λ b p. goes_on (with_buffers c.plain (slice_set c.plain.buffers b (slice_set (cells_of c.plain b) p.0 (number vs 0)))) t (passed stack) (Writes b p.0)) (λ b p. refl)
  row_goes row.Return = by_plain None (root_ends c.plain t stack.below stack.is_root (Returned (outs f.results vs))) ∙ root_only c.plain t stack.below stack.is_root (Returned (outs f.results vs))
  row_goes row.Fail = by_plain None (root_ends c.plain t stack.below stack.is_root (FailedAt (number vs 0 % 2 ^ 32))) ∙ root_only c.plain t stack.below stack.is_root (FailedAt (number vs 0 % 2 ^ 32))
  row_goes row.Finish = by_plain None (task_ends c.plain t stack.below stack.is_root) ∙ task_only c.plain t stack.below stack.is_root
  row_goes row.Create = makes (kind_of (type_at f i.results 0)) (row_limit l row.Create f i vs c)
  row_goes row.CreateGroup = makes (Group (number vs 0)) (row_limit l row.CreateGroup f i vs c)
  row_goes row.AddToGroup = adds_of (value vs 0) (value vs 1)
  row_goes row.Resume = by_plain (row_limit l row.Resume f i vs c) (maybe Stuck (resumes c.plain t stack) (kept stack)) ∙ if_some (kept stack) (resumes c.plain t stack) (λ copy. refl)
  row_goes row.Await = waits (value vs 0) (passed stack)
  row_goes row.AwaitAndResume = waits_as (kept stack) (value vs 0)
  row_goes row.IsError =
      named_row c (λ x. []) (looks c.plain t stack i) (λ o. is_done (object_at c.plain.objects o)) (value vs 0)
      (λ o there. plainly c (looks c.plain t stack i o) ∙ if_so (is_done (object_at c.plain.objects o)) (goes_on c.plain t (on stack i (Number (bit (is_error (state_of (object_at c.plain.objects o)))) ∷ [])) (Looks o)) refl)
  row_goes row.Store =
      named_row c (λ x. []) (stores c.plain t stack (value vs 0)) (λ o. is_open (object_at c.plain.objects o)) (value vs 1)
      (λ o there. plainly c (stores c.plain t stack (value vs 0) o) ∙ if_so (is_open (object_at c.plain.objects o)) (goes_on (with_objects c.plain (stored o (value vs 0) c.plain.objects)) t (passed stack) Nothing) refl)
  row_goes row.Load =
      named_row c (λ x. []) (loads c.plain t stack i) (λ o. is_some (object_at c.plain.objects o).payload) (value vs 0)
      (λ o there. plainly c (loads c.plain t stack i o) ∙ if_some (object_at c.plain.objects o).payload (λ v. goes_on c.plain t (on stack i (v ∷ [])) Nothing) (λ v. refl))
  row_goes row.SetAvailable = set_row Available (value vs 0)
  row_goes row.SetError = set_row Error (value vs 0)
