-- The machine of code that has the high rows. Tasks are numbered as they are launched; there are no runtime objects: a
-- token or value stands for a task and a place among what it gives, and holds what that task has ended with. It is a
-- machine of definitions, for laws alone.
use Rattle.std.specs.Prelude.{◌≡◌, ℕ, zero, suc, ◌+◌, ◌==◌, nat_lt, cond, Bool, true, false, List, [], ◌∷◌, ◌++◌, length, Option, Some, None, slice_get, slice_set, IsSome}
use Rattle.ir_forms.specs.declared.args.ArgValue.{ArgValue}
use Rattle.ir_forms.specs.declared.runs.FuncNo.{FuncNo}
use Rattle.ir_forms.specs.declared.runs.ObjNo.{ObjNo}
use Rattle.ir_forms.specs.declared.runs.TaskNo.{TaskNo}
use Rattle.low_forms.specs.declared.code.Instr.{Instr}
use Rattle.low_forms.specs.declared.code.LowAttr.{LowAttr}
use Rattle.low_forms.specs.declared.code.LowAttr.TheVariants.{Callee}
use Rattle.low_forms.specs.declared.code.LowKind.{LowKind}
use Rattle.low_forms.specs.declared.code.LowKind.TheVariants as kind
use Rattle.low_forms.specs.declared.code.Term.{Term}
use Rattle.low_forms.specs.declared.code.LowFunc.{LowFunc}
use Rattle.low_forms.specs.declared.code.LowModule.{LowModule}
use Rattle.source_meaning.specs.Values.{maybe, or_else}
use Rattle.async_objects.specs.declared.kinds.Val.{Val}
use Rattle.async_objects.specs.declared.kinds.Val.TheVariants.{Number, Object}
use Rattle.task_stack.specs.declared.frames.Frame.{Frame}
use Rattle.task_stack.specs.Registers.{nothing, value, number}
use Rattle.task_stack.specs.Frames.{Stack, went, new_frame}
use Rattle.task_stack.specs.Local as local
use Rattle.task_stack.specs.Local.{Local, standing, operands, with_top, target_way, free_step}
use Rattle.task_stack.specs.Shared.{Next, next_of}
use Rattle.step_core.specs.declared.limits.Limit.TheVariants as limit
use Rattle.step_core.specs.declared.rows.SharedRow.{SharedRow}
use Rattle.step_core.specs.declared.rows.SharedRow.TheVariants as row
use Rattle.step_core.specs.Rows.{shared_row}
use Rattle.step_core.specs.State.{Plain, task_at, live_tasks, with_task, counted, ready, start_in}
use Rattle.step_core.specs.Shared.{Act, Nothing, Creates, Adds, Launches, Looks, Ends, Took, Stuck, Idle, Stopped, Takes, on, shared_step}

-- what a launched task has ended with
pub data Outcome : Type 0 where
  Gave : (vals : List Val) → Outcome
  Failed : Outcome

-- What an object of a register stands for. The token of a task has the place 0, and its values those from 1 on.
pub data Ref : Type 0 where
  Element : (task place : ℕ) → Ref
  Group : (k : ℕ) → Ref

-- a group: its size, and the tasks of its elements in the order in which they were added
pub record Gathering : Type 0 where
  pub size : ℕ
  pub members : List ℕ

-- the tasks, buffers and the root's end, without runtime objects
pub record High : Type 0 where
  pub plain : Plain
  -- of each task by number, once it has ended
  pub outcomes : List (Option Outcome)
  -- by the numbers that registers have for objects
  pub refs : List Ref
  pub groups : List Gathering

-- ---- what is there

abbrev pub outcome : High → ℕ → Option Outcome
outcome h t = or_else None (slice_get h.outcomes t)

abbrev pub has_failed : Outcome → Bool
has_failed (Gave vals) = false
has_failed Failed = true

abbrev pub all_ended : High → List ℕ → Bool
all_ended h [] = true
all_ended h (t ∷ ts) = maybe false (λ o. all_ended h ts) (outcome h t)

abbrev pub one_failed : High → List ℕ → Bool
one_failed h [] = false
one_failed h (t ∷ ts) = cond (maybe false has_failed (outcome h t)) true (one_failed h ts)

-- ---- changes

abbrev pub with_plain : High → Plain → High
with_plain h s = record h { plain = s }

-- a task goes on
abbrev pub goes_on : High → ℕ → Stack → Act → Took High
goes_on h t stack act = Takes (with_plain h (counted (with_task h.plain t (Some (ready stack))))) [] act

-- the step of a core without objects
abbrev pub lifted : High → Took Plain → Took High
lifted h Stuck = Stuck
lifted h Idle = Idle
lifted h (Stopped l) = Stopped l
lifted h (Takes after wakes act) = Takes (with_plain h after) wakes act

-- ---- launches

abbrev pub elements_from : ℕ → ℕ → ℕ → List Ref
elements_from q j zero = []
elements_from q j (suc n) = Element q j ∷ elements_from q (j + 1) n

abbrev pub objects_from : ℕ → ℕ → List Val
objects_from o zero = []
objects_from o (suc n) = Object (record { 0 = o }) ∷ objects_from (o + 1) n

-- the stack of a launched task
abbrev pub launched_stack : FuncNo → LowFunc → List Val → Stack
launched_stack n f vs = record { is_root = false; top = new_frame n f vs; below = [] }

-- a new task of this function, and as many elements as the launch has results
abbrev pub launch_of : FuncNo → LowFunc → Instr → List Val → High → ℕ → Stack → Took High
launch_of n f i vs h t stack =
    let q : TaskNo = record { 0 = length h.plain.tasks } in
    let made : ℕ = length i.results in
    let after : Plain = counted (with_task h.plain t (Some (ready (on stack i (objects_from (length h.refs) made))))) in
    Takes (record {
      plain = record after { tasks = after.tasks ++ Some (ready (launched_stack n f vs)) ∷ [] };
      outcomes = h.outcomes ++ None ∷ [];
      refs = h.refs ++ elements_from q.0 0 made;
      groups = h.groups;
    }) (q ∷ []) (Launches q)

abbrev pub launches : LowModule → LowAttr → Instr → List Val → High → ℕ → Stack → Took High
launches code (Callee n) i vs h t stack = maybe Stuck (λ f. launch_of n f i vs h t stack) (slice_get code.funcs n.0)
launches code _ i vs h t stack = Stuck

-- ---- awaits

-- to one of the targets, with these values
abbrev pub goes_to : LowFunc → Term → ℕ → List Val → ObjNo → High → ℕ → Stack → Took High
goes_to f term k vs o h t stack = maybe Stuck (λ way. goes_on h t (with_top stack (went way vs stack.top)) (Looks o)) (target_way f term k)

-- what a task gives at a place; nothing at that of its token
abbrev pub given_at : List Val → ℕ → List Val
given_at vals zero = []
given_at vals (suc j) = or_else nothing (slice_get vals j) ∷ []

abbrev pub awaits_outcome : Outcome → ℕ → LowFunc → Term → ObjNo → High → ℕ → Stack → Took High
awaits_outcome (Gave vals) j f term o h t stack = goes_to f term 0 (given_at vals j) o h t stack
awaits_outcome Failed j f term o h t stack = goes_to f term 1 [] o h t stack

-- an await of what isn't done yet is no step
abbrev pub awaits_group : Gathering → LowFunc → Term → ObjNo → High → ℕ → Stack → Took High
awaits_group g f term o h t stack =
    cond (cond (length g.members == g.size) (all_ended h g.members) false)
    (goes_to f term (cond (one_failed h g.members) 1 0) [] o h t stack) Idle

abbrev pub awaits_ref : Ref → LowFunc → Term → ObjNo → High → ℕ → Stack → Took High
awaits_ref (Element q j) f term o h t stack = maybe Idle (λ e. awaits_outcome e j f term o h t stack) (outcome h q)
awaits_ref (Group k) f term o h t stack = maybe Stuck (λ g. awaits_group g f term o h t stack) (slice_get h.groups k)

abbrev pub on_ref : Val → High → (ObjNo → Ref → Took High) → Took High
on_ref (Object o) h go = maybe Stuck (go o) (slice_get h.refs o.0)
on_ref _ h go = Stuck

abbrev pub awaits : LowFunc → Term → List Val → High → ℕ → Stack → Took High
awaits f term vs h t stack = on_ref (value vs 0) h (λ o r. awaits_ref r f term o h t stack)

-- ---- groups

abbrev pub creates : ℕ → Instr → High → ℕ → Stack → Took High
creates size i h t stack =
    let o : ObjNo = record { 0 = length h.refs } in
    let made : High = record h { refs = h.refs ++ Group (length h.groups) ∷ []; groups = h.groups ++ record { size = size; members = [] } ∷ [] } in
    goes_on made t (on stack i (Object o ∷ [])) (Creates o)

abbrev pub adds_to : Gathering → ℕ → ℕ → ObjNo → ObjNo → Instr → High → ℕ → Stack → Took High
adds_to group k q g x i h t stack =
    let rank : ℕ = length group.members in
    cond (nat_lt rank group.size)
    (goes_on (record h { groups = slice_set h.groups k (record group { members = group.members ++ q ∷ [] }) }) t (on stack i (Number rank ∷ [])) (Adds g x rank))
    (Stopped (limit.Group group.size))

abbrev pub adds_by : Ref → Ref → ObjNo → ObjNo → Instr → High → ℕ → Stack → Took High
adds_by (Group k) (Element q j) g x i h t stack = maybe Stuck (λ group. adds_to group k q g x i h t stack) (slice_get h.groups k)
adds_by _ _ g x i h t stack = Stuck

abbrev pub adds : List Val → Instr → High → ℕ → Stack → Took High
adds vs i h t stack = on_ref (value vs 0) h (λ x rx. on_ref (value vs 1) h (λ g rg. adds_by rg rx g x i h t stack))

-- ---- ends

abbrev pub task_ends : Outcome → High → ℕ → Took High
task_ends e h t = Takes (record h { plain = counted (with_task h.plain t None); outcomes = slice_set h.outcomes t (Some e) }) [] Ends

-- a launched task's last frame ends the task
abbrev pub last_ends : SharedRow → List Val → List Frame → Bool → High → ℕ → Took High
last_ends row.Return vs [] false h t = task_ends (Gave vs) h t
last_ends row.Fail vs [] false h t = task_ends Failed h t
last_ends _ vs below is_root h t = Stuck

-- ---- by the next instruction

-- rows that need no objects are those of the core
abbrev pub shared_row_step : SharedRow → LowFunc → Instr → List Val → High → ℕ → Stack → Took High
shared_row_step row.Allocate f i vs h t stack = lifted h (shared_step row.Allocate f i vs h.plain t stack)
shared_row_step row.Deallocate f i vs h t stack = lifted h (shared_step row.Deallocate f i vs h.plain t stack)
shared_row_step row.LoadCell f i vs h t stack = lifted h (shared_step row.LoadCell f i vs h.plain t stack)
shared_row_step row.StoreCell f i vs h t stack = lifted h (shared_step row.StoreCell f i vs h.plain t stack)
shared_row_step row.Return f i vs h t stack = lifted h (shared_step row.Return f i vs h.plain t stack)
shared_row_step row.Fail f i vs h t stack = lifted h (shared_step row.Fail f i vs h.plain t stack)
shared_row_step row.CreateGroup f i vs h t stack = creates (number vs 0) i h t stack
shared_row_step row.AddToGroup f i vs h t stack = adds vs i h t stack
shared_row_step _ f i vs h t stack = Stuck

abbrev pub shared_kind_step : LowKind → LowModule → LowFunc → Instr → Term → List Val → High → ℕ → Stack → Took High
shared_kind_step kind.Launch code f i term vs h t stack = launches code i.attr i vs h t stack
shared_kind_step kind.Await code f i term vs h t stack = awaits f term vs h t stack
shared_kind_step (kind.Row k) code f i term vs h t stack = shared_row_step (shared_row (kind.Row k)) f i vs h t stack

abbrev pub shared_at : LowModule → Next → Term → High → ℕ → Stack → Took High
shared_at code n term h t stack = shared_kind_step n.instr.kind code n.func n.instr term (operands stack n.instr) h t stack

abbrev pub stuck_at : Next → High → ℕ → Stack → Took High
stuck_at n h t stack = last_ends (shared_row n.instr.kind) (operands stack n.instr) stack.below stack.is_root h t

abbrev pub by_local : Local → LowModule → High → ℕ → Stack → Took High
by_local (local.Done after counts) code h t stack = goes_on h t after Nothing
by_local local.Shared code h t stack =
    maybe Stuck (λ n. maybe Stuck (λ st. shared_at code n st.rest.term h t stack) (standing code stack.top.current.place)) (next_of code stack)
by_local local.Stuck code h t stack = maybe Stuck (λ n. stuck_at n h t stack) (next_of code stack)
by_local local.Deep code h t stack = Stuck

abbrev pub high_step : LowModule → High → ℕ → Took High
high_step code h t = maybe Idle (λ task. by_local (free_step code task.stack) code h t task.stack) (task_at h.plain t)

-- ---- the start, and runs

abbrev pub start : FuncNo → LowFunc → List ArgValue → High
start n f args = record { plain = start_in n f args; outcomes = None ∷ []; refs = []; groups = [] }

abbrev pub then_run : (High → Option High) → Took High → Option High
then_run go (Takes h wakes act) = go h
then_run go _ = None

unfoldable pub run : LowModule → List ℕ → High → Option High
run code [] h = Some h
run code (t ∷ ts) h = then_run (run code ts) (high_step code h t)

-- the root has ended, and no task is left
abbrev pub IsFinished : High → Type 0
IsFinished h = IsSome h.plain.root_end × (live_tasks h.plain.tasks ≡ 0)
