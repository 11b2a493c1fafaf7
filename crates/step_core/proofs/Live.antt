-- The table of tasks: what a change of one of them leaves, and how many have not ended.
use Rattle.std.proofs.Common.{◌≡◌, ℕ, zero, suc, ◌+◌, ◌<◌, ◌≤◌, List, [], ◌∷◌, ◌++◌, length, drop, get_or, slice_set, Option, Some, None, refl, sym, ap, arith, add-one, drop-cons}
use Rattle.std.proofs.lemmas.Option.{slice_get_read}
use Rattle.ir_forms.specs.declared.runs.ObjNo.{ObjNo}
use Rattle.ir_forms.specs.declared.runs.TaskNo.{TaskNo}
use Rattle.source_meaning.specs.Values.{or_else}
use Rattle.task_stack.specs.Frames.{Stack}
use Rattle.step_core.specs.declared.tasks.Task.{Task}
use Rattle.step_core.specs.State.{live_tasks, ready, made_ready, woken}
use Rattle.step_core.specs.Tasks.{in_table, stack_at, put_task, IsReady, IsIdle}

pub live_over : (tasks : List (Option Task)) (t : ℕ) (x y : Task) → in_table tasks t ≡ Some x → live_tasks (slice_set tasks t (Some y)) ≡ live_tasks tasks
live_over [] zero x y e = cc
live_over [] (suc t) x y e = cc
live_over (Some z ∷ tasks) zero x y e = refl
live_over (None ∷ tasks) zero x y e = cc
live_over (Some z ∷ tasks) (suc t) x y e = ap (λ n. n + 1) (live_over tasks t x y e)
live_over (None ∷ tasks) (suc t) x y e = live_over tasks t x y e

pub live_out : (tasks : List (Option Task)) (t : ℕ) (x : Task) → in_table tasks t ≡ Some x → live_tasks (slice_set tasks t None) + 1 ≡ live_tasks tasks
live_out [] zero x e = cc
live_out [] (suc t) x e = cc
live_out (Some z ∷ tasks) zero x e = refl
live_out (None ∷ tasks) zero x e = cc
live_out (Some z ∷ tasks) (suc t) x e = ap (λ n. n + 1) (live_out tasks t x e)
live_out (None ∷ tasks) (suc t) x e = live_out tasks t x e

pub live_push : (tasks : List (Option Task)) (x : Task) → live_tasks (tasks ++ Some x ∷ []) ≡ live_tasks tasks + 1
live_push [] x = refl
live_push (Some z ∷ tasks) x = ap (λ n. n + 1) (live_push tasks x)
live_push (None ∷ tasks) x = live_push tasks x

pub live_most : (tasks : List (Option Task)) → live_tasks tasks ≤ length tasks
live_most [] = omega arith
live_most (Some x ∷ tasks) = let more : live_tasks tasks ≤ length tasks = live_most tasks in omega (arith, more)
live_most (None ∷ tasks) = let more : live_tasks tasks ≤ length tasks = live_most tasks in omega (arith, more)

pub table_within : (tasks : List (Option Task)) (t : ℕ) (x : Task) → in_table tasks t ≡ Some x → t < length tasks
table_within [] zero x e = cc
table_within [] (suc t) x e = cc
table_within (z ∷ tasks) zero x e = omega arith
table_within (z ∷ tasks) (suc t) x e = let more : t < length tasks = table_within tasks t x e in omega (arith, more)

pub table_set : (tasks : List (Option Task)) (t : ℕ) (x : Task) (y : Option Task) → in_table tasks t ≡ Some x → in_table (slice_set tasks t y) t ≡ y
table_set [] zero x y e = cc
table_set [] (suc t) x y e = cc
table_set (z ∷ tasks) zero x y e = refl
table_set (z ∷ tasks) (suc t) x y e = table_set tasks t x y e

pub table_same : (tasks : List (Option Task)) (t : ℕ) (x : Task) → in_table tasks t ≡ Some x → slice_set tasks t (Some x) ≡ tasks
table_same [] zero x e = cc
table_same [] (suc t) x e = cc
table_same (z ∷ tasks) zero x e = ap (λ y. y ∷ tasks) (sym e)
table_same (z ∷ tasks) (suc t) x e = ap (λ ys. z ∷ ys) (table_same tasks t x e)

-- one task more is woken
pub wake_next : (ts : List TaskNo) (i : ℕ) (a : TaskNo) (tasks after : List (Option Task)) → after ≡ slice_set tasks a.0 (made_ready (in_table tasks a.0)) → i < length ts → a ≡ get_or ts i a
    → woken (drop (i + 1) ts) after ≡ woken (drop i ts) tasks
wake_next ts i a tasks after e h same =
    let dropped : drop i ts ≡ a ∷ drop (i + 1) ts = rw (add-one, drop-cons ts i a) (ap (λ x. x ∷ drop (suc i) ts) (sym same)) in
    rw (dropped, e) refl

-- ---- tasks that are ready, or not

pub ready_is : (tasks : List (Option Task)) (t : ℕ) (x : Task) → in_table tasks t ≡ Some x → x.parked ≡ None → IsReady tasks t
ready_is tasks t x e p = rw e (λ i. Some (record { stack = x.stack; parked = p i }))

pub idle_some : (tasks : List (Option Task)) (t : ℕ) (x : Task) (o : ObjNo) → in_table tasks t ≡ Some x → x.parked ≡ Some o → IsIdle tasks t
idle_some tasks t x o e p = rw (e, p) refl

pub idle_none : (tasks : List (Option Task)) (t : ℕ) → in_table tasks t ≡ None → IsIdle tasks t
idle_none tasks t e = rw e tt

-- a task that is ready stays so with another stack
pub ready_put : (tasks : List (Option Task)) (t : ℕ) (s : Stack) → IsReady tasks t → (in_table (put_task tasks t s None) t ≡ Some (ready s)) × (stack_at (put_task tasks t s None) t ≡ s)
ready_put tasks t s h =
    let e : in_table (put_task tasks t s None) t ≡ Some (ready s) = table_set tasks t (ready (stack_at tasks t)) (Some (ready s)) h in
    (e, rw e refl)

pub same_put : (tasks : List (Option Task)) (t : ℕ) → IsReady tasks t → put_task tasks t (stack_at tasks t) None ≡ tasks
same_put tasks t h = table_same tasks t (ready (stack_at tasks t)) h

pub put_twice : (tasks : List (Option Task)) (t : ℕ) (x y : Option Task) → slice_set (slice_set tasks t x) t y ≡ slice_set tasks t y
put_twice [] zero x y = refl
put_twice [] (suc t) x y = refl
put_twice (z ∷ tasks) zero x y = refl
put_twice (z ∷ tasks) (suc t) x y = ap (λ ys. z ∷ ys) (put_twice tasks t x y)

-- the task that is read at its place
pub table_read : (tasks : List (Option Task)) (t : ℕ) (y : Option Task) → t < length tasks → y ≡ get_or tasks t y → in_table tasks t ≡ y
table_read tasks t y h e = ap (or_else None) (slice_get_read tasks (length tasks) t y refl h e)
