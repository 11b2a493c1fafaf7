-- A launch leaves both tasks ready, and a ready task is never idle.
use Rattle.std.proofs.Common.{◌≡◌, ◌<◌, ℕ, zero, suc, cond, Bool, true, false, List, [], ◌∷◌, ◌++◌, drop, length, Option, Some, None, slice_get, slice_set, refl, sym, ap, ◌∙◌, subst, arith}
use Rattle.std.specs.Prelude.{⊤}
use Rattle.ir_forms.specs.declared.runs.ObjNo.{ObjNo}
use Rattle.ir_forms.specs.declared.runs.TaskNo.{TaskNo}
use Rattle.low_forms.specs.declared.code.Instr.{Instr}
use Rattle.low_forms.specs.declared.code.LowFunc.{LowFunc}
use Rattle.low_forms.specs.declared.code.LowModule.{LowModule}
use Rattle.source_meaning.specs.Values.{maybe}
use Rattle.async_objects.specs.declared.kinds.Kind.{Kind}
use Rattle.async_objects.specs.declared.kinds.Kind.TheVariants as kind
use Rattle.async_objects.specs.declared.kinds.Val.{Val}
use Rattle.async_objects.specs.declared.kinds.Val.TheVariants as val
use Rattle.async_objects.specs.Objects.{object_at, is_done, is_group, is_open, takes_more}
use Rattle.async_objects.specs.Counts.{CountChange, can_change}
use Rattle.async_objects.proofs.ListLemmas.{get_end, get_front, some_is}
use Rattle.task_stack.specs.declared.frames.Activation.{Activation}
use Rattle.task_stack.specs.declared.frames.Frame.{Frame}
use Rattle.task_stack.specs.Registers.{value, number}
use Rattle.task_stack.specs.Frames.{Stack, copied_stack}
use Rattle.task_stack.specs.Local as local
use Rattle.task_stack.specs.Local.{Local, operands, free_step}
use Rattle.task_stack.specs.Shared.{Next, kept, next_of, resumed}
use Rattle.step_core.specs.declared.ends.RootEnd.{RootEnd}
use Rattle.step_core.specs.declared.rows.SharedRow.{SharedRow}
use Rattle.step_core.specs.declared.rows.SharedRow.TheVariants as row
use Rattle.step_core.specs.declared.tasks.Task.{Task}
use Rattle.step_core.specs.Rows.{shared_row}
use Rattle.step_core.specs.State.{Plain, ready, task_at, cells_of}
use Rattle.step_core.specs.Shared.{Act, Launches, Took, Stuck, Idle, Stopped, Takes, on_object, on_buffer, where_so, numbers, cell_there, asked_sizes, can_allocate, root_ends, task_ends, adds_by, adds, resumes, shared_step}
use Rattle.step_core.specs.Plain.{plain_step, by_local, ready_step, changes}
use Rattle.step_core.specs.Tasks.{IsReady, in_table, stack_at, no_stack}
use Rattle.step_core.specs.Core.{Core, core_step, counting, may_step, overlay}
use Rattle.step_core.specs.Enabled.{is_enabled}
use Rattle.launch_laws.specs.Launches.{IsLaunch, IsNotStuck, LaunchEnablesBoth, LaunchReadiesBoth}

-- ---- tasks by number

set_same : {X : Type 0} (xs : List X) (i : ℕ) (x : X) → i < length xs → slice_get (slice_set xs i x) i ≡ Some x
set_same [] i x h = absurd (omega (arith, h))
set_same (y ∷ xs) zero x h = refl
set_same (y ∷ xs) (suc i) x h = set_same xs i x (omega (arith, h))

set_length : {X : Type 0} (xs : List X) (i : ℕ) (x : X) → i < length xs → length (slice_set xs i x) ≡ length xs
set_length [] i x h = absurd (omega (arith, h))
set_length (y ∷ xs) zero x h = refl
set_length (y ∷ xs) (suc i) x h = ap suc (set_length xs i x (omega (arith, h)))

there : (tasks : List (Option Task)) (t : ℕ) (task : Task) → in_table tasks t ≡ Some task → t < length tasks
there [] t task e = absurd cc
there (x ∷ tasks) zero task e = omega arith
there (x ∷ tasks) (suc t) task e = let l = there tasks t task e in omega (arith, l)

is_ready : (tasks : List (Option Task)) (t : ℕ) (stack : Stack) → in_table tasks t ≡ Some (ready stack) → IsReady tasks t
is_ready tasks t stack e = e ∙ sym (ap (λ (o : Option Task). Some (ready (maybe no_stack (λ task. task.stack) o))) e)

both_ready : (tasks : List (Option Task)) (t : ℕ) (stack copy : Stack) → t < length tasks →
    let after : List (Option Task) = slice_set tasks t (Some (ready stack)) ++ Some (ready copy) ∷ [] in IsReady after t × IsReady after (length tasks)
both_ready tasks t stack copy h =
    let changed : List (Option Task) = slice_set tasks t (Some (ready stack)) in
    let long : length changed ≡ length tasks = set_length tasks t (Some (ready stack)) h in
    let within : t < length changed = omega (arith, h, long) in
    let first = get_front changed (Some (ready copy) ∷ []) t within ∙ set_same tasks t (Some (ready stack)) h in
    let second = subst (λ n. slice_get (changed ++ Some (ready copy) ∷ []) n ≡ Some (Some (ready copy))) long (get_end changed (Some (ready copy))) in (
      is_ready (changed ++ Some (ready copy) ∷ []) t stack (ap (maybe None (λ (o : Option Task). o)) first),
      is_ready (changed ++ Some (ready copy) ∷ []) (length tasks) copy (ap (maybe None (λ (o : Option Task). o)) second),
    )

-- ---- steps that aren't idle, and leave both tasks ready where they launch one

module _ (t : ℕ) where
  abbrev Leaves : Plain → Act → Type 0
  Leaves after (Launches u) = IsReady after.tasks t × IsReady after.tasks u.0
  Leaves after _ = ⊤

  abbrev Good : Took Plain → Type 0
  Good Stuck = ⊤
  Good Idle = ⊥
  Good (Stopped l) = ⊤
  Good (Takes after wakes act) = Leaves after act

  good_where : (b : Bool) (p q : Took Plain) → Good p → Good q → Good (cond b p q)
  good_where true p q h g = h
  good_where false p q h g = g

  good_maybe : {X : Type 0} (p : X → Took Plain) (m : Option X) → ((x : X) → Good (p x)) → Good (maybe Stuck p m)
  good_maybe p None h = tt
  good_maybe p (Some x) h = h x

  good_buffer : (p : ℕ → List ℕ → Took Plain) (v : Val) → ((b : ℕ) (dims : List ℕ) → Good (p b dims)) → Good (on_buffer v p)
  good_buffer p (val.Number n) h = tt
  good_buffer p (val.Object o) h = tt
  good_buffer p (val.Buffer b rank dims) h = h b _

  good_object : (p : ObjNo → Took Plain) (v : Val) → ((o : ObjNo) → Good (p o)) → Good (on_object v p)
  good_object p (val.Number n) h = tt
  good_object p (val.Object o) h = h o
  good_object p (val.Buffer b rank dims) h = tt

  module _ (s : Plain) where
    good_adds_by : (k : Kind) (stack : Stack) (i : Instr) (x g : ObjNo) → Good (adds_by k s t stack i x g)
    good_adds_by (kind.Group size) stack i x g = good_where (takes_more (object_at s.objects g)) _ _ tt tt
    good_adds_by kind.Token stack i x g = tt
    good_adds_by kind.Value stack i x g = tt

    good_root : (below : List Frame) (is_root : Bool) (e : RootEnd) → Good (root_ends s t below is_root e)
    good_root [] true e = tt
    good_root [] false e = tt
    good_root (frame ∷ below) true e = tt
    good_root (frame ∷ below) false e = tt

    good_end : (below : List Frame) (is_root : Bool) → Good (task_ends s t below is_root)
    good_end [] true = tt
    good_end [] false = tt
    good_end (frame ∷ below) true = tt
    good_end (frame ∷ below) false = tt

    good_resume : t < length s.tasks → (stack : Stack) (copy : Activation) → Good (resumes s t stack copy)
    good_resume h stack copy = both_ready s.tasks t (resumed stack) (copied_stack copy) h

    good_row : t < length s.tasks → (r : SharedRow) (f : LowFunc) (i : Instr) (vs : List Val) (stack : Stack) → Good (shared_step r f i vs s t stack)
    good_row h row.Allocate f i vs stack = good_where (can_allocate (asked_sizes f i vs)) _ _ tt tt
    good_row h row.Deallocate f i vs stack = tt
    good_row h row.LoadCell f i vs stack = good_buffer _ (value vs 0) (λ b dims. good_maybe _ (cell_there (cells_of s b) dims (numbers (drop 1 vs))) (λ c. tt))
    good_row h row.StoreCell f i vs stack = good_buffer _ (value vs 1) (λ b dims. good_maybe _ (cell_there (cells_of s b) dims (numbers (drop 2 vs))) (λ c. tt))
    good_row h row.Return f i vs stack = good_root stack.below stack.is_root _
    good_row h row.Fail f i vs stack = good_root stack.below stack.is_root _
    good_row h row.Finish f i vs stack = good_end stack.below stack.is_root
    good_row h row.Create f i vs stack = tt
    good_row h row.CreateGroup f i vs stack = tt
    good_row h row.AddToGroup f i vs stack =
        good_object _ (value vs 0) (λ x. good_object _ (value vs 1) (λ g. good_where (is_group (object_at s.objects x).kind) Stuck _ tt (good_adds_by (object_at s.objects g).kind stack i x g)))
    good_row h row.Resume f i vs stack = good_maybe (resumes s t stack) (kept stack) (good_resume h stack)
    good_row h row.Await f i vs stack = good_object _ (value vs 0) (λ o. tt)
    good_row h row.AwaitAndResume f i vs stack = good_maybe _ (kept stack) (λ copy. good_object _ (value vs 0) (λ o. tt))
    good_row h row.IsError f i vs stack = good_object _ (value vs 0) (λ o. good_where (is_done (object_at s.objects o)) _ _ tt tt)
    good_row h row.Store f i vs stack = good_object _ (value vs 1) (λ o. good_where (is_open (object_at s.objects o)) _ _ tt tt)
    good_row h row.Load f i vs stack = good_object _ (value vs 0) (λ o. good_maybe _ (object_at s.objects o).payload (λ v. tt))
    good_row h row.SetAvailable f i vs stack = good_object _ (value vs 0) (λ o. good_where (is_open (object_at s.objects o)) _ _ tt tt)
    good_row h row.SetError f i vs stack = good_object _ (value vs 0) (λ o. good_where (is_open (object_at s.objects o)) _ _ tt tt)
    good_row h row.Absent f i vs stack = tt

    good_next : t < length s.tasks → (stack : Stack) (m : Option Next) → Good (maybe Stuck (λ n. shared_step (shared_row n.instr.kind) n.func n.instr (operands stack n.instr) s t stack) m)
    good_next h stack None = tt
    good_next h stack (Some n) = good_row h (shared_row n.instr.kind) n.func n.instr (operands stack n.instr) stack

    good_local : t < length s.tasks → (code : LowModule) (stack : Stack) (l : Local) → Good (by_local l code s t stack)
    good_local h code stack (local.Done after counts) = tt
    good_local h code stack local.Shared = good_next h stack (next_of code stack)
    good_local h code stack local.Stuck = tt
    good_local h code stack local.Deep = tt

  -- ---- with counts of references

  abbrev GoodCore : Took Core → Type 0
  GoodCore Stuck = ⊤
  GoodCore Idle = ⊥
  GoodCore (Stopped l) = ⊤
  GoodCore (Takes after wakes act) = Leaves after.plain act

  good_taken : (may can : Bool) (c : Core) (cs : List CountChange) (p : Plain) (wakes : List TaskNo) (act : Act) → Leaves p act → GoodCore (cond may (cond can (Takes (counting c cs p) wakes act) Stuck) Stuck)
  good_taken true true c cs p wakes (Launches u) h = h
  good_taken true true c cs p wakes _ h = tt
  good_taken true false c cs p wakes act h = tt
  good_taken false can c cs p wakes act h = tt

  good_stopped : (may : Bool) (took : Took Core) → GoodCore took → GoodCore (cond may took Stuck)
  good_stopped true took h = h
  good_stopped false took h = tt

  good_overlay : (may : Bool) (c : Core) (cs : List CountChange) (took : Took Plain) → Good took → GoodCore (overlay may c cs took)
  good_overlay may c cs Stuck h = tt
  good_overlay may c cs Idle h = absurd h
  good_overlay may c cs (Stopped l) h = good_stopped may (Stopped l) tt
  good_overlay may c cs (Takes p wakes act) h = good_taken may (can_change cs c.counts) c cs p wakes act h

  -- a step of a ready task
  good_step : (code : LowModule) (c : Core) → IsReady c.plain.tasks t → GoodCore (core_step code c t)
  good_step code c is =
      let stack : Stack = stack_at c.plain.tasks t in
      good_overlay (may_step code c t) c (changes code c.plain t) (plain_step code c.plain t)
      (subst (λ (m : Option Task). Good (maybe Idle (ready_step code c.plain t) m)) (sym is) (good_local c.plain (there c.plain.tasks t (ready stack) is) code stack (free_step code stack)))

  -- a step that is taken is one of a ready task
  idle_overlay : (may : Bool) (c : Core) (cs : List CountChange) (after : Core) (wakes : List TaskNo) (act : Act) (took : Took Plain) → took ≡ Idle → overlay may c cs took ≡ Takes after wakes act → ⊥
  idle_overlay may c cs after wakes act took e h = let no : Idle ≡ Takes after wakes act = subst (λ (k : Took Plain). overlay may c cs k ≡ Takes after wakes act) e h in absurd cc

  was_ready : (code : LowModule) (c after : Core) (wakes : List TaskNo) (act : Act) (m : Option Task) → in_table c.plain.tasks t ≡ m → core_step code c t ≡ Takes after wakes act → IsReady c.plain.tasks t
  was_ready code c after wakes act None e h = absurd (idle_overlay (may_step code c t) c (changes code c.plain t) after wakes act (plain_step code c.plain t) (ap (maybe Idle (ready_step code c.plain t)) e) h)
  was_ready code c after wakes act (Some task) e h = by_parked task.parked refl where
    by_parked : (o : Option ObjNo) → task.parked ≡ o → IsReady c.plain.tasks t
    by_parked None is = is_ready c.plain.tasks t task.stack (e ∙ (λ i. Some (record { stack = task.stack; parked = is i })))
    by_parked (Some o) is =
        absurd (idle_overlay (may_step code c t) c (changes code c.plain t) after wakes act (plain_step code c.plain t)
        (ap (maybe Idle (ready_step code c.plain t)) e ∙ ap (maybe (by_local (free_step code task.stack) code c.plain t task.stack) (λ (p : ObjNo). Idle)) is) h)

-- ---- the laws

pub launch_readies_both : LaunchReadiesBoth
launch_readies_both code before after t u l =
    let ready_before = was_ready t code before after l.wakes (Launches l.number) (in_table before.plain.tasks t) refl l.taken in
    let both : IsReady after.plain.tasks t × IsReady after.plain.tasks l.number.0 = subst (GoodCore t) l.taken (good_step t code before ready_before) in
    (both.0, subst (IsReady after.plain.tasks) l.names both.1)

goes_on : (t : ℕ) (took : Took Core) → GoodCore t took → (took ≡ Stuck → ⊥) → is_enabled took ≡ true
goes_on t Stuck h d = absurd (d refl)
goes_on t Idle h d = absurd h
goes_on t (Stopped l) h d = refl
goes_on t (Takes after wakes act) h d = refl

pub launch_enables_both : LaunchReadiesBoth → LaunchEnablesBoth
launch_enables_both readies code before after t u l free =
    let both = readies code before after t u l in (
      goes_on t (core_step code after t) (good_step t code after both.0) (free t),
      goes_on u (core_step code after u) (good_step u code after both.1) (free u),
    )
