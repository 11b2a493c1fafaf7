-- A step sees those objects alone that it touches.
use Rattle.std.proofs.Common.{◌≡◌, ◌<◌, ℕ, cond, Bool, true, false, List, [], ◌∷◌, ◌++◌, drop, length, Option, Some, None, refl, sym, ap, ap₂, ◌∙◌, subst}
use Rattle.std.specs.Prelude.{⊤}
use Rattle.ir_forms.specs.declared.runs.ObjNo.{ObjNo}
use Rattle.low_forms.specs.declared.code.Instr.{Instr}
use Rattle.low_forms.specs.declared.code.LowFunc.{LowFunc}
use Rattle.low_forms.specs.declared.code.LowModule.{LowModule}
use Rattle.low_forms.specs.Registers.{type_at}
use Rattle.source_meaning.specs.Rows.{bit}
use Rattle.source_meaning.specs.Values.{maybe}
use Rattle.async_objects.specs.declared.kinds.Kind.{Kind}
use Rattle.async_objects.specs.declared.kinds.Kind.TheVariants as kind
use Rattle.async_objects.specs.declared.kinds.State.{State}
use Rattle.async_objects.specs.declared.kinds.State.TheVariants.{Available, Error}
use Rattle.async_objects.specs.declared.kinds.Val.{Val}
use Rattle.async_objects.specs.declared.kinds.Val.TheVariants as val
use Rattle.async_objects.specs.declared.object.Object.{Object}
use Rattle.async_objects.specs.Objects.{Waking, object_at, is_group, is_done, is_error, is_open, state_of, takes_more, awaited, stored, set_to, added, created}
use Rattle.async_objects.specs.Counts.{CountChange, create_changes, add_changes, set_changes, made, first_count, joins, all_less, less}
use Rattle.task_stack.specs.declared.frames.Frame.{Frame}
use Rattle.task_stack.specs.Registers.{value, number}
use Rattle.task_stack.specs.Frames.{Stack}
use Rattle.task_stack.specs.Local as local
use Rattle.task_stack.specs.Local.{Local, operands, free_step}
use Rattle.task_stack.specs.Shared.{Next, kept, passed, becomes, next_of}
use Rattle.step_core.specs.declared.ends.RootEnd.{RootEnd}
use Rattle.step_core.specs.declared.limits.Limit.TheVariants as limit
use Rattle.step_core.specs.declared.rows.SharedRow.{SharedRow}
use Rattle.step_core.specs.declared.rows.SharedRow.TheVariants as row
use Rattle.step_core.specs.declared.tasks.Task.{Task}
use Rattle.step_core.specs.Rows.{shared_row}
use Rattle.step_core.specs.State.{Plain, with_task, with_objects, counted, ready, task_at, cells_of}
use Rattle.step_core.specs.Shared.{Act, Nothing, Creates, Adds, Looks, Sets, Took, Stuck, Idle, Stopped, Takes, on, goes_on, wakes, on_object, on_buffer, where_so, numbers, cell_there, asked_sizes, can_allocate, loads_cell, stores_cell, root_ends, task_ends, kind_of, creates, awaits, looks, stores, loads, sets, adds_by, adds, resumes, shared_step}
use Rattle.step_core.specs.Plain.{plain_step, by_local, shared_at, ready_step, object_in, shared_uses, uses_by, shared_changes, changes_by, of_object}
use Rattle.touched_laws.specs.Touched.{IsNone, StepSeesTouched, ChangesSeeTouched, groups_of, with_groups, with_object, then_changed}
use Rattle.touched_laws.proofs.Objects as object

none_front : (o : ObjNo) (ps qs : List ObjNo) → IsNone o (ps ++ qs) → IsNone o ps
none_front o [] qs h = tt
none_front o (p ∷ ps) qs h = (h.0, none_front o ps qs h.1)

module _ (o : ObjNo) (x : Object) (s : Plain) (t : ℕ) where
  abbrev changed : Plain → Plain
  changed = with_object o x

  abbrev after : Took Plain → Took Plain
  after = then_changed changed

  abbrev then : Plain
  then = changed s

  -- none of these objects, and of the groups that wait for them
  abbrev IsApart : List ObjNo → Type 0
  IsApart os = IsNone o (with_groups os s.objects)

  -- ---- parts of steps

  where_same : (b : Bool) (took : Took Plain) → where_so b (after took) ≡ after (where_so b took)
  where_same b took = object.cond_both after b took Stuck

  maybe_same : {X : Type 0} (p q : X → Took Plain) (m : Option X) → ((y : X) → q y ≡ after (p y)) → maybe Stuck q m ≡ after (maybe Stuck p m)
  maybe_same p q None e = refl
  maybe_same p q (Some y) e = e y

  buffer_same : (p q : ℕ → List ℕ → Took Plain) (v : Val) → ((b : ℕ) (dims : List ℕ) → q b dims ≡ after (p b dims)) → on_buffer v q ≡ after (on_buffer v p)
  buffer_same p q (val.Number n) e = refl
  buffer_same p q (val.Object u) e = refl
  buffer_same p q (val.Buffer b rank dims) e = e b _

  object_same : (p q : ObjNo → Took Plain) (v : Val) → IsApart (object_in v) → ((u : ObjNo) → (u.0 ≡ o.0 → ⊥) → IsNone o (object_at s.objects u).memberships → q u ≡ after (p u)) → on_object v q ≡ after (on_object v p)
  object_same p q (val.Number n) h e = refl
  object_same p q (val.Object u) h e = e u h.0 (none_front o (object_at s.objects u).memberships [] h.1)
  object_same p q (val.Buffer b rank dims) h e = refl

  -- ---- objects

  awaits_same : (stack : Stack) (u : ObjNo) → (u.0 ≡ o.0 → ⊥) → awaits then t stack u ≡ after (awaits s t stack u)
  awaits_same stack u d =
      let goes : Object → List Object → Took Plain = λ y l. let task : Task = record { stack = stack; parked = cond (is_done y) None (Some u) } in Takes (counted (with_task (with_objects s l) t (Some task))) [] Nothing in
      ap₂ goes (object.sees o x s.objects u d) (object.awaits o x u (record { 0 = t }) s.objects d)

  looks_same : (stack : Stack) (i : Instr) (u : ObjNo) → (u.0 ≡ o.0 → ⊥) → looks then t stack i u ≡ after (looks s t stack i u)
  looks_same stack i u d =
      let goes : Plain → Object → Took Plain = λ z y. goes_on z t (on stack i (val.Number (bit (is_error (state_of y))) ∷ [])) (Looks u) in
      let was : Object = object_at s.objects u in
      ap (λ (y : Object). where_so (is_done y) (goes then y)) (object.sees o x s.objects u d) ∙ where_same (is_done was) (goes s was)

  stores_same : (stack : Stack) (v : Val) (u : ObjNo) → (u.0 ≡ o.0 → ⊥) → stores then t stack v u ≡ after (stores s t stack v u)
  stores_same stack v u d =
      let goes : Object → List Object → Took Plain = λ y l. where_so (is_open y) (goes_on (with_objects s l) t (passed stack) Nothing) in
      ap₂ goes (object.sees o x s.objects u d) (object.stores o x u v s.objects d)
      ∙ where_same (is_open (object_at s.objects u)) (goes_on (with_objects s (stored u v s.objects)) t (passed stack) Nothing)

  loads_same : (stack : Stack) (i : Instr) (u : ObjNo) → (u.0 ≡ o.0 → ⊥) → loads then t stack i u ≡ after (loads s t stack i u)
  loads_same stack i u d =
      let goes : Plain → Val → Took Plain = λ z v. goes_on z t (on stack i (v ∷ [])) Nothing in
      ap (λ (y : Object). maybe Stuck (goes then) y.payload) (object.sees o x s.objects u d) ∙ maybe_same (goes s) (goes then) (object_at s.objects u).payload (λ v. refl)

  sets_same : (state : State) (stack : Stack) (u : ObjNo) → (u.0 ≡ o.0 → ⊥) → IsNone o (object_at s.objects u).memberships → sets state then t stack u ≡ after (sets state s t stack u)
  sets_same state stack u d h =
      let goes : Object → Waking → Took Plain = λ y w. where_so (is_open y) (wakes s t (passed stack) w (Sets u state)) in
      ap₂ goes (object.sees o x s.objects u d) (object.sets o x state u s.objects d h)
      ∙ where_same (is_open (object_at s.objects u)) (wakes s t (passed stack) (set_to state u s.objects) (Sets u state))

  adds_by_same : (k : Kind) (stack : Stack) (i : Instr) (u g : ObjNo) → (u.0 ≡ o.0 → ⊥) → (g.0 ≡ o.0 → ⊥) → adds_by k then t stack i u g ≡ after (adds_by k s t stack i u g)
  adds_by_same (kind.Group size) stack i u g d e =
      let goes : Object → Waking → Took Plain = λ y w. wakes s t (on stack i (val.Number y.members.added ∷ [])) w (Adds g u y.members.added) in
      let was : Object = object_at s.objects g in
      ap₂ (λ (y : Object) (w : Waking). cond (takes_more y) (goes y w) (Stopped (limit.Group size))) (object.sees o x s.objects g e) (object.adds o x u g s.objects d e)
      ∙ object.cond_both after (takes_more was) (goes was (added u g s.objects)) (Stopped (limit.Group size))
  adds_by_same kind.Token stack i u g d e = refl
  adds_by_same kind.Value stack i u g d e = refl

  adds_same : (stack : Stack) (i : Instr) (u g : ObjNo) → (u.0 ≡ o.0 → ⊥) → (g.0 ≡ o.0 → ⊥) → adds then t stack i u g ≡ after (adds s t stack i u g)
  adds_same stack i u g d e =
      let element : Object = object_at s.objects u in
      let group : Object = object_at s.objects g in
      ap₂ (λ (y z : Object). cond (is_group y.kind) Stuck (adds_by z.kind then t stack i u g)) (object.sees o x s.objects u d) (object.sees o x s.objects g e)
      ∙ ap (λ (took : Took Plain). cond (is_group element.kind) Stuck took) (adds_by_same group.kind stack i u g d e)
      ∙ object.cond_both after (is_group element.kind) Stuck (adds_by group.kind s t stack i u g)

  two_same : (stack : Stack) (i : Instr) (v w : Val) → IsApart (object_in v ++ object_in w) → on_object v (λ u. on_object w (λ g. adds then t stack i u g)) ≡ after (on_object v (λ u. on_object w (λ g. adds s t stack i u g)))
  two_same stack i (val.Number n) w h = refl
  two_same stack i (val.Buffer b rank dims) w h = refl
  two_same stack i (val.Object u) (val.Number n) h = refl
  two_same stack i (val.Object u) (val.Buffer b rank dims) h = refl
  two_same stack i (val.Object u) (val.Object g) h = adds_same stack i u g h.0 h.1.0

  creates_same : o.0 < length s.objects → (k : Kind) (stack : Stack) (i : Instr) → creates k then t stack i ≡ after (creates k s t stack i)
  creates_same made k stack i =
      let goes : ℕ → List Object → Took Plain = λ n l. let u : ObjNo = record { 0 = n } in goes_on (with_objects s l) t (on stack i (val.Object u ∷ [])) (Creates u) in
      ap₂ goes (object.length_stays o x s.objects) (object.makes o x k s.objects made)

  -- ---- cells, ends and launches

  cells_same : (stack : Stack) (i : Instr) (vs : List Val) → loads_cell then t stack i vs ≡ after (loads_cell s t stack i vs)
  cells_same stack i vs = buffer_same _ _ (value vs 0) (λ b dims. maybe_same _ _ (cell_there (cells_of s b) dims (numbers (drop 1 vs))) (λ c. refl))

  stored_same : (stack : Stack) (i : Instr) (vs : List Val) → stores_cell then t stack i vs ≡ after (stores_cell s t stack i vs)
  stored_same stack i vs = buffer_same _ _ (value vs 1) (λ b dims. maybe_same _ _ (cell_there (cells_of s b) dims (numbers (drop 2 vs))) (λ c. refl))

  root_same : (below : List Frame) (is_root : Bool) (e : RootEnd) → root_ends then t below is_root e ≡ after (root_ends s t below is_root e)
  root_same [] true e = refl
  root_same [] false e = refl
  root_same (frame ∷ below) true e = refl
  root_same (frame ∷ below) false e = refl

  task_same : (below : List Frame) (is_root : Bool) → task_ends then t below is_root ≡ after (task_ends s t below is_root)
  task_same [] true = refl
  task_same [] false = refl
  task_same (frame ∷ below) true = refl
  task_same (frame ∷ below) false = refl

  -- ---- rows

  row_same : o.0 < length s.objects → (r : SharedRow) (f : LowFunc) (i : Instr) (vs : List Val) (stack : Stack) → IsApart (shared_uses r vs) → shared_step r f i vs then t stack ≡ after (shared_step r f i vs s t stack)
  row_same made row.Allocate f i vs stack h = where_same (can_allocate (asked_sizes f i vs)) _
  row_same made row.Deallocate f i vs stack h = refl
  row_same made row.LoadCell f i vs stack h = cells_same stack i vs
  row_same made row.StoreCell f i vs stack h = stored_same stack i vs
  row_same made row.Return f i vs stack h = root_same stack.below stack.is_root _
  row_same made row.Fail f i vs stack h = root_same stack.below stack.is_root _
  row_same made row.Finish f i vs stack h = task_same stack.below stack.is_root
  row_same made row.Create f i vs stack h = creates_same made (kind_of (type_at f i.results 0)) stack i
  row_same made row.CreateGroup f i vs stack h = creates_same made (kind.Group (number vs 0)) stack i
  row_same made row.AddToGroup f i vs stack h = two_same stack i (value vs 0) (value vs 1) h
  row_same made row.Resume f i vs stack h = maybe_same (resumes s t stack) (resumes then t stack) (kept stack) (λ copy. refl)
  row_same made row.Await f i vs stack h = object_same _ _ (value vs 0) h (λ u d none. awaits_same (passed stack) u d)
  row_same made row.AwaitAndResume f i vs stack h = maybe_same _ _ (kept stack) (λ copy. object_same _ _ (value vs 0) h (λ u d none. awaits_same (becomes copy stack) u d))
  row_same made row.IsError f i vs stack h = object_same _ _ (value vs 0) h (λ u d none. looks_same stack i u d)
  row_same made row.Store f i vs stack h = object_same _ _ (value vs 1) h (λ u d none. stores_same stack (value vs 0) u d)
  row_same made row.Load f i vs stack h = object_same _ _ (value vs 0) h (λ u d none. loads_same stack i u d)
  row_same made row.SetAvailable f i vs stack h = object_same _ _ (value vs 0) h (λ u d none. sets_same Available stack u d none)
  row_same made row.SetError f i vs stack h = object_same _ _ (value vs 0) h (λ u d none. sets_same Error stack u d none)
  row_same made row.Absent f i vs stack h = refl

  -- ---- the next step

  next_same : o.0 < length s.objects → (stack : Stack) (m : Option Next) → IsApart (maybe [] (λ n. shared_uses (shared_row n.instr.kind) (operands stack n.instr)) m)
      → maybe Stuck (λ n. shared_step (shared_row n.instr.kind) n.func n.instr (operands stack n.instr) then t stack) m
      ≡ after (maybe Stuck (λ n. shared_step (shared_row n.instr.kind) n.func n.instr (operands stack n.instr) s t stack) m)
  next_same made stack None h = refl
  next_same made stack (Some n) h = row_same made (shared_row n.instr.kind) n.func n.instr (operands stack n.instr) stack h

  local_same : o.0 < length s.objects → (code : LowModule) (stack : Stack) (l : Local) → IsApart (uses_by l code stack) → by_local l code then t stack ≡ after (by_local l code s t stack)
  local_same made code stack (local.Done stays counts) h = refl
  local_same made code stack local.Shared h = next_same made stack (next_of code stack) h
  local_same made code stack local.Stuck h = refl
  local_same made code stack local.Deep h = refl

  ready_same : o.0 < length s.objects → (code : LowModule) (stack : Stack) (parked : Option ObjNo) → IsApart (uses_by (free_step code stack) code stack)
      → maybe (by_local (free_step code stack) code then t stack) (λ u. Idle) parked ≡ after (maybe (by_local (free_step code stack) code s t stack) (λ u. Idle) parked)
  ready_same made code stack None h = local_same made code stack (free_step code stack) h
  ready_same made code stack (Some u) h = refl

  task_steps : o.0 < length s.objects → (code : LowModule) (m : Option Task) → IsApart (maybe [] (λ task. uses_by (free_step code task.stack) code task.stack) m)
      → maybe Idle (ready_step code then t) m ≡ after (maybe Idle (ready_step code s t) m)
  task_steps made code None h = refl
  task_steps made code (Some task) h = ready_same made code task.stack task.parked h

  -- ---- changes of counts

  of_one : (p q : ObjNo → List CountChange) (v : Val) → IsApart (object_in v) → ((u : ObjNo) → (u.0 ≡ o.0 → ⊥) → q u ≡ p u) → of_object v q ≡ of_object v p
  of_one p q (val.Number n) h e = refl
  of_one p q (val.Object u) h e = e u h.0
  of_one p q (val.Buffer b rank dims) h e = refl

  set_changed : (u : ObjNo) → (u.0 ≡ o.0 → ⊥) → set_changes u then.objects ≡ set_changes u s.objects
  set_changed u d = ap (λ (y : Object). all_less y.memberships ++ less u 1 ∷ []) (object.sees o x s.objects u d)

  two_changed : (v w : Val) → IsApart (object_in v ++ object_in w) → of_object v (λ u. of_object w (λ g. add_changes u g then.objects)) ≡ of_object v (λ u. of_object w (λ g. add_changes u g s.objects))
  two_changed (val.Number n) w h = refl
  two_changed (val.Buffer b rank dims) w h = refl
  two_changed (val.Object u) (val.Number n) h = refl
  two_changed (val.Object u) (val.Buffer b rank dims) h = refl
  two_changed (val.Object u) (val.Object g) h = ap (λ (y : Object). joins y.state g) (object.sees o x s.objects u h.0)

  create_changed : (k : Kind) → create_changes k then.objects ≡ create_changes k s.objects
  create_changed k = ap (λ n. made (record { 0 = n }) (first_count k) ∷ []) (object.length_stays o x s.objects)

  row_changed : (r : SharedRow) (f : LowFunc) (i : Instr) (vs : List Val) → IsApart (shared_uses r vs) → shared_changes r f i vs then ≡ shared_changes r f i vs s
  row_changed row.Create f i vs h = create_changed (kind_of (type_at f i.results 0))
  row_changed row.CreateGroup f i vs h = create_changed (kind.Group (number vs 0))
  row_changed row.AddToGroup f i vs h = two_changed (value vs 0) (value vs 1) h
  row_changed row.SetAvailable f i vs h = of_one _ _ (value vs 0) h set_changed
  row_changed row.SetError f i vs h = of_one _ _ (value vs 0) h set_changed
  row_changed row.Allocate f i vs h = refl
  row_changed row.Deallocate f i vs h = refl
  row_changed row.LoadCell f i vs h = refl
  row_changed row.StoreCell f i vs h = refl
  row_changed row.Return f i vs h = refl
  row_changed row.Fail f i vs h = refl
  row_changed row.Finish f i vs h = refl
  row_changed row.Resume f i vs h = refl
  row_changed row.Await f i vs h = refl
  row_changed row.AwaitAndResume f i vs h = refl
  row_changed row.IsError f i vs h = refl
  row_changed row.Store f i vs h = refl
  row_changed row.Load f i vs h = refl
  row_changed row.Absent f i vs h = refl

  next_changed : (stack : Stack) (m : Option Next) → IsApart (maybe [] (λ n. shared_uses (shared_row n.instr.kind) (operands stack n.instr)) m)
      → maybe [] (λ n. shared_changes (shared_row n.instr.kind) n.func n.instr (operands stack n.instr) then) m
      ≡ maybe [] (λ n. shared_changes (shared_row n.instr.kind) n.func n.instr (operands stack n.instr) s) m
  next_changed stack None h = refl
  next_changed stack (Some n) h = row_changed (shared_row n.instr.kind) n.func n.instr (operands stack n.instr) h

  local_changed : (code : LowModule) (stack : Stack) (l : Local) → IsApart (uses_by l code stack) → changes_by l code then stack ≡ changes_by l code s stack
  local_changed code stack (local.Done stays counts) h = refl
  local_changed code stack local.Shared h = next_changed stack (next_of code stack) h
  local_changed code stack local.Stuck h = refl
  local_changed code stack local.Deep h = refl

  task_changed : (code : LowModule) (m : Option Task) → IsApart (maybe [] (λ task. uses_by (free_step code task.stack) code task.stack) m)
      → maybe [] (λ task. changes_by (free_step code task.stack) code then task.stack) m ≡ maybe [] (λ task. changes_by (free_step code task.stack) code s task.stack) m
  task_changed code None h = refl
  task_changed code (Some task) h = local_changed code task.stack (free_step code task.stack) h

-- ---- the laws

pub step_sees_touched : StepSeesTouched
step_sees_touched code s t o x made h = task_steps o x s t made code (task_at s t) h

pub changes_see_touched : ChangesSeeTouched
changes_see_touched code s t o x h = task_changed o x s t code (task_at s t) h
