-- What the step of a task comes to, by the local step of its stack.
use Rattle.std.proofs.Common.{◌≡◌, ◌⊎◌, ℕ, ◌+◌, nat_le, Bool, true, false, cond, List, [], ◌∷◌, Option, Some, None, IsSome, slice_get, refl, sym, ap, ◌∙◌, inl, inr, ⊎_elim, arith, append-nil}
use Rattle.std.proofs.lemmas.Bool.Decides.{nat_tests}
use Rattle.ir_forms.specs.declared.runs.ObjNo.{ObjNo}
use Rattle.low_forms.specs.declared.code.LowAttr.{LowAttr}
use Rattle.low_forms.specs.declared.code.LowAttr.TheVariants as attr
use Rattle.low_forms.specs.declared.code.Instr.{Instr}
use Rattle.low_forms.specs.declared.code.Term.{Term}
use Rattle.low_forms.specs.declared.code.LowFunc.{LowFunc}
use Rattle.low_forms.specs.declared.code.LowModule.{LowModule}
use Rattle.source_meaning.specs.Values.{maybe}
use Rattle.async_objects.specs.declared.kinds.Val.{Val}
use Rattle.async_objects.specs.Counts.{count_at, is_there, can_change}
use Rattle.task_stack.specs.declared.effects.Effect.{Effect}
use Rattle.task_stack.specs.declared.effects.Effect.TheVariants as effect
use Rattle.task_stack.specs.declared.steps.CountStep.{CountStep}
use Rattle.task_stack.specs.Frames.{Stack, new_frame}
use Rattle.task_stack.specs.declared.frames.Frame.{Frame}
use Rattle.task_stack.specs.Numbers.{computed}
use Rattle.task_stack.specs.Registers.{number}
use Rattle.task_stack.specs.Local.{Local, Standing, standing, operands, pushes, calls, branch, jumps, side, suspends, target_way, leaves, way_on, has_room, inner_step, end_step, step_in, step_by, local_step, free_step, IsLocal}
use Rattle.task_stack.specs.Local as local
use Rattle.task_stack.specs.declared.steps.LocalStep.{LocalStep}
use Rattle.task_stack.specs.declared.steps.LocalStep.TheVariants as answer
use Rattle.task_stack.specs.Shared.{Next, next_of}
use Rattle.task_stack.specs.Ahead.{counted as stack_counts}
use Rattle.async_objects.specs.Counts.{CountChange}
use Rattle.step_core.specs.declared.limits.Limit.{Limit}
use Rattle.step_core.specs.declared.limits.Limit.TheVariants as limit
use Rattle.step_core.specs.declared.limits.Limits.{Limits}
use Rattle.step_core.specs.declared.tasks.Task.{Task}
use Rattle.step_core.specs.State.{Plain, ready, counted, with_task}
use Rattle.step_core.specs.Shared.{Took, Stuck, Idle, Stopped, Takes, Nothing}
use Rattle.step_core.specs.Plain.{by_local, uses_by, changes_by, counting_change}
use Rattle.step_core.specs.Core.{Core, limited, limited_step, limit_by, overlay, counting, leaves_by, leaves_own, own_count, all_there}
use Rattle.step_core.specs.Tasks.{in_table, waits}
use Rattle.step_core.specs.Running.{next_took}
use Rattle.async_objects.specs.Objects.{object_at}

-- ---- the limit on frames alone tells the local step from the free one

abbrev pub AreNear : Local → Local → Type 0
AreNear l free = (l ≡ free) ⊎ ((l ≡ local.Deep) × (after : Stack) × (free ≡ local.Done after None))

near_pushes : (room : Bool) (o : Option LowFunc) (frame : LowFunc → _) (s : Stack) → AreNear (maybe local.Stuck (λ f. pushes room (frame f) s) o) (maybe local.Stuck (λ f. pushes true (frame f) s) o)
near_pushes room None frame s = inl refl
near_pushes true (Some f) frame s = inl refl
near_pushes false (Some f) frame s = inr (refl, _, refl)

near_calls : (room : Bool) (code : LowModule) (a : LowAttr) (vs : List Val) (s : Stack) → AreNear (calls room code a vs s) (calls true code a vs s)
near_calls room code (attr.Callee n) vs s = near_pushes room (slice_get code.funcs n.0) (λ f. new_frame n f vs) s
near_calls room code attr.None vs s = inl refl
near_calls room code (attr.Literal negative magnitude) vs s = inl refl
near_calls room code (attr.Truth bit) vs s = inl refl
near_calls room code (attr.Pred p) vs s = inl refl
near_calls room code (attr.Count n) vs s = inl refl

near_inner : (e : Effect) (room : Bool) (code : LowModule) (f : LowFunc) (i : Instr) (s : Stack) → AreNear (inner_step e room code f i s) (inner_step e true code f i s)
near_inner effect.Absent room code f i s = inl refl
near_inner (effect.Computes n) room code f i s = inl refl
near_inner effect.Skips room code f i s = inl refl
near_inner effect.Jumps room code f i s = inl refl
near_inner effect.Branches room code f i s = inl refl
near_inner effect.Launches room code f i s = near_calls room code i.attr (operands s i) s
near_inner effect.Calls room code f i s = inl refl
near_inner effect.Returns room code f i s = inl refl
near_inner effect.Fails room code f i s = inl refl
near_inner effect.Saves room code f i s = inl refl
near_inner effect.Suspends room code f i s = inl refl
near_inner effect.AddsReferences room code f i s = inl refl
near_inner effect.DropsReferences room code f i s = inl refl
near_inner effect.Shared room code f i s = inl refl

near_end : (e : Effect) (room : Bool) (code : LowModule) (f : LowFunc) (t : Term) (s : Stack) → AreNear (end_step e room code f t s) (end_step e true code f t s)
near_end effect.Absent room code f t s = inl refl
near_end (effect.Computes n) room code f t s = inl refl
near_end effect.Skips room code f t s = inl refl
near_end effect.Jumps room code f t s = inl refl
near_end effect.Branches room code f t s = inl refl
near_end effect.Launches room code f t s = inl refl
near_end effect.Calls room code f t s = near_calls room code t.instr.attr (operands s t.instr) s
near_end effect.Returns room code f t s = inl refl
near_end effect.Fails room code f t s = inl refl
near_end effect.Saves room code f t s = inl refl
near_end effect.Suspends room code f t s = inl refl
near_end effect.AddsReferences room code f t s = inl refl
near_end effect.DropsReferences room code f t s = inl refl
near_end effect.Shared room code f t s = inl refl

near_in : (room : Bool) (code : LowModule) (f : LowFunc) (is : List Instr) (t : Term) (s : Stack) → AreNear (step_in room code f is t s) (step_in true code f is t s)
near_in room code f [] t s = near_end _ room code f t s
near_in room code f (i ∷ is) t s = near_inner _ room code f i s

near_at : (o : Option Standing) (room : Bool) (code : LowModule) (s : Stack) →
    AreNear (maybe local.Stuck (λ st. step_in room code st.func st.rest.instrs st.rest.term s) o) (maybe local.Stuck (λ st. step_in true code st.func st.rest.instrs st.rest.term s) o)
near_at None room code s = inl refl
near_at (Some st) room code s = near_in room code st.func st.rest.instrs st.rest.term s

pub near : (code : LowModule) (s : Stack) → AreNear (local_step code s) (free_step code s)
near code s = near_at (standing code s.top.current.place) (has_room s) code s

pub free_of : (code : LowModule) (s : Stack) (l : Local) → local_step code s ≡ l → (l ≡ local.Deep → ⊥) → free_step code s ≡ l
free_of code s l e d = ⊎_elim (λ same. sym same ∙ e) (λ deep. absurd (d (sym e ∙ deep.0))) (near code s)

-- ---- without the limit none is too deep

abbrev pub is_deep : Local → Bool
is_deep local.Deep = true
is_deep _ = false

shallow_maybe : {X : Type 0} (o : Option X) (f : X → Local) → ((x : X) → is_deep (f x) ≡ false) → is_deep (maybe local.Stuck f o) ≡ false
shallow_maybe None f h = refl
shallow_maybe (Some x) f h = h x

shallow_calls : (code : LowModule) (a : LowAttr) (vs : List Val) (s : Stack) → is_deep (calls true code a vs s) ≡ false
shallow_calls code (attr.Callee n) vs s = shallow_maybe (slice_get code.funcs n.0) _ (λ f. refl)
shallow_calls code attr.None vs s = refl
shallow_calls code (attr.Literal negative magnitude) vs s = refl
shallow_calls code (attr.Truth bit) vs s = refl
shallow_calls code (attr.Pred p) vs s = refl
shallow_calls code (attr.Count n) vs s = refl

shallow_root : (b : Bool) → is_deep (cond b local.Shared local.Stuck) ≡ false
shallow_root true = refl
shallow_root false = refl

shallow_leaves : (fails : Bool) (code : LowModule) (vs : List Val) (below : List Frame) (s : Stack) → is_deep (leaves fails code vs below s) ≡ false
shallow_leaves fails code vs [] s = shallow_root s.is_root
shallow_leaves fails code vs (caller ∷ below) s = shallow_maybe (way_on fails code caller.current.place) _ (λ way. refl)

shallow_inner : (e : Effect) (code : LowModule) (f : LowFunc) (i : Instr) (s : Stack) → is_deep (inner_step e true code f i s) ≡ false
shallow_inner effect.Absent code f i s = refl
shallow_inner (effect.Computes n) code f i s = shallow_maybe (computed n f i (operands s i)) _ (λ v. refl)
shallow_inner effect.Skips code f i s = refl
shallow_inner effect.Jumps code f i s = refl
shallow_inner effect.Branches code f i s = refl
shallow_inner effect.Launches code f i s = shallow_calls code i.attr (operands s i) s
shallow_inner effect.Calls code f i s = refl
shallow_inner effect.Returns code f i s = refl
shallow_inner effect.Fails code f i s = refl
shallow_inner effect.Saves code f i s = refl
shallow_inner effect.Suspends code f i s = refl
shallow_inner effect.AddsReferences code f i s = refl
shallow_inner effect.DropsReferences code f i s = refl
shallow_inner effect.Shared code f i s = refl

shallow_end : (e : Effect) (code : LowModule) (f : LowFunc) (t : Term) (s : Stack) → is_deep (end_step e true code f t s) ≡ false
shallow_end effect.Absent code f t s = refl
shallow_end (effect.Computes n) code f t s = refl
shallow_end effect.Skips code f t s = refl
shallow_end effect.Jumps code f t s = shallow_maybe (slice_get t.targets 0) _ (λ v. refl)
shallow_end effect.Branches code f t s = shallow_maybe (slice_get t.targets (branch (number (operands s t.instr) 0))) _ (λ v. refl)
shallow_end effect.Launches code f t s = refl
shallow_end effect.Calls code f t s = shallow_calls code t.instr.attr (operands s t.instr) s
shallow_end effect.Returns code f t s = shallow_leaves false code (operands s t.instr) s.below s
shallow_end effect.Fails code f t s = shallow_leaves true code _ s.below s
shallow_end effect.Saves code f t s = refl
shallow_end effect.Suspends code f t s = shallow_maybe (side s.top.saved) _ (λ k. shallow_maybe (target_way f t k) _ (λ way. refl))
shallow_end effect.AddsReferences code f t s = refl
shallow_end effect.DropsReferences code f t s = refl
shallow_end effect.Shared code f t s = refl

shallow_in : (code : LowModule) (f : LowFunc) (is : List Instr) (t : Term) (s : Stack) → is_deep (step_in true code f is t s) ≡ false
shallow_in code f [] t s = shallow_end _ code f t s
shallow_in code f (i ∷ is) t s = shallow_inner _ code f i s

pub shallow : (code : LowModule) (s : Stack) → is_deep (free_step code s) ≡ false
shallow code s = shallow_maybe (standing code s.top.current.place) _ (λ st. shallow_in code st.func st.rest.instrs st.rest.term s)

pub free_deep : (code : LowModule) (s : Stack) → local_step code s ≡ local.Deep → (after : Stack) × (free_step code s ≡ local.Done after None)
free_deep code s e =
    ⊎_elim (λ same. let both : true ≡ false = ap is_deep (sym e ∙ same) ∙ shallow code s in cc) (λ deep. (deep.1, deep.2)) (near code s)

-- ---- a task that isn't ready

idle_parked : (l : Limits) (code : LowModule) (c : Core) (t : ℕ) (x : Task) (parked : Option ObjNo) → in_table c.plain.tasks t ≡ Some x → x.parked ≡ parked → IsSome parked → limited_step l code c t ≡ Idle
idle_parked l code c t x None e p h = cc
idle_parked l code c t x (Some o) e p h = rw (e, p) refl

idle_at : (l : Limits) (code : LowModule) (c : Core) (t : ℕ) (o : Option Task) → in_table c.plain.tasks t ≡ o → waits o → limited_step l code c t ≡ Idle
idle_at l code c t None e h = rw e refl
idle_at l code c t (Some x) e h = idle_parked l code c t x x.parked e refl h

pub idle : (l : Limits) (code : LowModule) (c : Core) (t : ℕ) → waits (in_table c.plain.tasks t) → limited_step l code c t ≡ Idle
idle l code c t h = idle_at l code c t (in_table c.plain.tasks t) refl h

-- ---- a task that is ready

some_same : {X : Type 0} (x y : X) → Some x ≡ Some y → x ≡ y
some_same x y e = cc

abbrev pub may_in : CountStep → Core → Bool
may_in n c = cond (is_there c.counts n.object) (leaves_own c n) false

abbrev pub by_step : Limits → LowModule → Core → ℕ → Stack → Local → Local → Took Core
by_step l code c t s lo free =
    limited (limit_by lo l code c s) (overlay (cond (leaves_by free c) (all_there (uses_by free code s) c.counts) false) c (changes_by free code c.plain s) (by_local free code c.plain t s))

pub can_by : (c : Core) (n : CountStep) (adds : Bool) → n.adds ≡ adds → is_there c.counts n.object ≡ true → leaves_own c n ≡ true → can_change (counting_change n ∷ []) c.counts ≡ true
can_by c n true a there h = let least : nat_le 0 (count_at c.counts n.object.0 + (0 + n.n)) ≡ true = grind (arith, nat_tests) in rw (a, least) refl
can_by c n false a there h =
    let left : nat_le (n.n + own_count (object_at c.plain.objects n.object)) (count_at c.counts n.object.0) ≡ true = rw a at h in
    rw (a, drops n.n (own_count (object_at c.plain.objects n.object)) (count_at c.counts n.object.0) left) refl
  where
    drops : (m own count : ℕ) → nat_le (m + own) count ≡ true → nat_le m (count + 0) ≡ true
    drops m own count h = grind (arith, nat_tests, h)

module _ (l : Limits) (code : LowModule) (c : Core) (t : ℕ) (s : Stack) (e : in_table c.plain.tasks t ≡ Some (ready s)) where
  is_by_step : limited_step l code c t ≡ by_step l code c t s (local_step code s) (free_step code s)
  is_by_step = rw e refl

  abbrev pub gone_on : Stack → Plain
  gone_on after = counted (with_task c.plain t (Some (ready after)))

  pub steps_plainly : (after : Stack) → local_step code s ≡ local.Done after None → limited_step l code c t ≡ Takes (record { plain = gone_on after; counts = c.counts; gone = c.gone }) [] Nothing
  steps_plainly after d =
      let free : free_step code s ≡ local.Done after None = free_of code s _ d (λ z. cc) in
      is_by_step ∙ rw (d, free, append-nil c.gone) refl

  pub steps_stuck : local_step code s ≡ local.Stuck → limited_step l code c t ≡ Stuck
  steps_stuck d =
      let free : free_step code s ≡ local.Stuck = free_of code s _ d (λ z. cc) in
      is_by_step ∙ rw (d, free) refl

  pub steps_deep : local_step code s ≡ local.Deep → limited_step l code c t ≡ Stopped (limit.Stack 1024)
  steps_deep d = let free : (after : Stack) × (free_step code s ≡ local.Done after None) = free_deep code s d in is_by_step ∙ rw (d, free.1) refl

  shared_at_next : (o : Option Next) → next_of code s ≡ o → local_step code s ≡ local.Shared → free_step code s ≡ local.Shared → limited_step l code c t ≡ next_took l code c t s
  shared_at_next None n d free = is_by_step ∙ rw (d, free, n) refl
  shared_at_next (Some next) n d free = is_by_step ∙ rw (d, free, n) refl

  pub steps_shared : local_step code s ≡ local.Shared → limited_step l code c t ≡ next_took l code c t s
  steps_shared d = shared_at_next (next_of code s) refl d (free_of code s _ d (λ z. cc))

  -- a count step is taken where it may be, and is stuck elsewhere
  pub counts_not : (n : CountStep) → stack_counts (free_step code s) ≡ Some n → may_in n c ≡ false → limited_step l code c t ≡ Stuck
  counts_not n e miss = not_by (local_step code s) (free_step code s) refl refl e
    where
      stuck_by : (there leaves : Bool) (lim : Option Limit) (cs : List CountChange) (p : Plain) → cond there leaves false ≡ false → limited lim (overlay (cond leaves (cond there true false) false) c cs (Takes p [] Nothing)) ≡ Stuck
      stuck_by true true lim cs p h = cc
      stuck_by true false lim cs p h = refl
      stuck_by false true lim cs p h = refl
      stuck_by false false lim cs p h = refl

      not_by : (lo free : Local) → local_step code s ≡ lo → free_step code s ≡ free → stack_counts free ≡ Some n → limited_step l code c t ≡ Stuck
      not_by lo (local.Done after (Some m)) d f is =
          let same : m ≡ n = some_same m n is in
          is_by_step ∙ rw (f, same) (stuck_by (is_there c.counts n.object) (leaves_own c n) (limit_by (local_step code s) l code c s) (counting_change n ∷ []) (gone_on after) miss)
      not_by lo (local.Done after None) d f is = cc
      not_by lo local.Shared d f is = cc
      not_by lo local.Stuck d f is = cc
      not_by lo local.Deep d f is = cc

  pub counts_so : (after : Stack) (n : CountStep) → local_step code s ≡ local.Done after (Some n) → is_there c.counts n.object ≡ true → leaves_own c n ≡ true →
      limited_step l code c t ≡ Takes (counting c (counting_change n ∷ []) (gone_on after)) [] Nothing
  counts_so after n d there left =
      let free : free_step code s ≡ local.Done after (Some n) = free_of code s _ d (λ z. cc) in
      is_by_step ∙ rw (d, free, there, left, can_by c n n.adds refl there left) refl

-- ---- the answer of a local step, against what it counts

pub counted_local : (code : LowModule) (s after : Stack) (n : CountStep) (l : LocalStep) → IsLocal l s after (local_step code s) → stack_counts (free_step code s) ≡ Some n → l ≡ answer.Done (Some n)
counted_local code s after n (answer.Done counts) e is =
    let same : counts ≡ Some n = ap stack_counts (sym (free_of code s (local.Done after counts) e (λ z. cc))) ∙ is in ap answer.Done same
counted_local code s after n answer.Shared e is = let free : free_step code s ≡ local.Shared = free_of code s local.Shared e.0 (λ z. cc) in let none : None ≡ Some n = ap stack_counts (sym free) ∙ is in cc
counted_local code s after n answer.Stuck e is = let free : free_step code s ≡ local.Stuck = free_of code s local.Stuck e.0 (λ z. cc) in let none : None ≡ Some n = ap stack_counts (sym free) ∙ is in cc
counted_local code s after n answer.Deep e is =
    let free : (after : Stack) × (free_step code s ≡ local.Done after None) = free_deep code s e.0 in let none : None ≡ Some n = ap stack_counts (sym free.1) ∙ is in cc

pub uncounted_local : (code : LowModule) (s after : Stack) (counts : Option CountStep) → local_step code s ≡ local.Done after counts → stack_counts (free_step code s) ≡ None → counts ≡ None
uncounted_local code s after counts e is = ap stack_counts (sym (free_of code s (local.Done after counts) e (λ z. cc))) ∙ is
