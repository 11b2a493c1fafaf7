-- The tasks and the state after a shared step.
use Rattle.std.proofs.Common.{◌≡◌, ◌⊎◌, ◌≤◌, ℕ, ◌+◌, Bool, true, false, cond, List, [], ◌∷◌, ◌++◌, length, drop, slice_set, Option, Some, None, refl, sym, ap, subst, ◌∙◌, arith, inl, ⊎_elim, length-append, append-nil}
use Rattle.std.proofs.lemmas.List.{length-set}
use Rattle.std.proofs.Math.Seq.{drop-append_seam}
use Rattle.ir_forms.specs.declared.runs.ObjNo.{ObjNo}
use Rattle.ir_forms.specs.declared.runs.TaskNo.{TaskNo}
use Rattle.low_forms.specs.declared.code.LowModule.{LowModule}
use Rattle.async_objects.specs.Counts.{is_there, freed}
use Rattle.async_objects.specs.Tables.{Table, changed_to}
use Rattle.task_stack.specs.declared.steps.CountStep.{CountStep}
use Rattle.task_stack.specs.declared.steps.LocalStep.{LocalStep}
use Rattle.task_stack.specs.declared.steps.LocalStep.TheVariants as answer
use Rattle.task_stack.specs.Frames.{Stack}
use Rattle.task_stack.specs.Local as local
use Rattle.task_stack.specs.Local.{Local, IsLocal, local_step, free_step}
use Rattle.task_stack.specs.Ahead.{is_shared, counted as stack_counts}
use Rattle.step_core.specs.declared.cells.ArgBuffer.{ArgBuffer}
use Rattle.step_core.specs.declared.ends.RootEnd.{RootEnd}
use Rattle.step_core.specs.declared.limits.Limit.{Limit}
use Rattle.step_core.specs.declared.limits.Limit.TheVariants as limit
use Rattle.step_core.specs.declared.limits.Limits.{Limits}
use Rattle.step_core.specs.declared.parts.Row.{Row}
use Rattle.step_core.specs.declared.parts.Row.TheVariants as the
use Rattle.step_core.specs.declared.tasks.Task.{Task}
use Rattle.step_core.specs.State.{made_ready, woken, ready as ready_task}
use Rattle.step_core.specs.Shared.{Act, Took, Stuck, Idle, Stopped, Takes, Nothing}
use Rattle.step_core.specs.Plain.{counting_change}
use Rattle.step_core.specs.Core.{Core, limited_step, leaves_own}
use Rattle.step_core.specs.Counting.{may_count}
use Rattle.step_core.specs.Parts.{IsRow, with_parts, end_or}
use Rattle.step_core.specs.Running.{Running, core_of, next_took}
use Rattle.step_core.specs.Tasks.{in_table, stack_at, put_task, IsReady}
use Rattle.step_core.proofs.Live.{put_twice, ready_put, same_put}
use Rattle.step_core.proofs.Steps.{near, free_of, steps_plainly, steps_stuck, steps_deep, steps_shared, counts_not, counts_so, counted_local, uncounted_local}

-- with these tasks
abbrev pub retasked : List (Option Task) → Core → Core
retasked tasks c = record {
  plain = record { tasks = tasks; objects = c.plain.objects; buffers = c.plain.buffers; arguments = c.plain.arguments; root_end = c.plain.root_end; steps = c.plain.steps };
  counts = c.counts;
  gone = c.gone;
}

pub nothing_new : (tasks : List (Option Task)) (c d : Core) → d ≡ c → tasks ≡ c.plain.tasks → retasked tasks d ≡ c
nothing_new tasks c d e t = rw (e, t) refl

pub goes_tasks : (tasks tasks' : List (Option Task)) (t : ℕ) (second : Stack) (parked : Option ObjNo) (slice wakes : List TaskNo) → slice ≡ wakes → tasks' ≡ put_task tasks t second None
    → woken slice (put_task tasks' t second parked) ≡ woken wakes (put_task tasks t second parked)
goes_tasks tasks tasks' t second parked slice wakes e p = rw (e, p, put_twice tasks t (Some (record { stack = second; parked = None })) (Some (record { stack = second; parked = parked }))) refl

pub sliced : (before after wakes slice : List TaskNo) (n : ℕ) → slice ≡ drop n after → after ≡ before ++ wakes → n ≡ length before → slice ≡ wakes
sliced before after wakes slice n is e l =
    let cut : drop (length before) (before ++ wakes) ≡ wakes = drop-append_seam before wakes in
    is ∙ rw (e, l) cut

pub row_longer : (r : Row) (parked : Option ObjNo) (old new : Core) (before after : List TaskNo) (t : ℕ) (f s : Stack) (took : Took Core) → r ≡ the.Goes parked → IsRow r old new before after t f s took → length before ≤ length after
row_longer r parked old new before after t f s took is made =
    let row : IsRow (the.Goes parked) old new before after t f s took = subst (λ x. IsRow x old new before after t f s took) is made in
    let both : length after ≡ length before + length row.0 = ap length row.2 ∙ length-append before row.0 in
    omega (arith, both)

pub row_places : (r : Row) (copy : Stack) (old new : Core) (before after : List TaskNo) (t : ℕ) (f s : Stack) (took : Took Core) → r ≡ the.Launches copy → IsRow r old new before after t f s took → after ≡ before
row_places r copy old new before after t f s took is made =
    let row : IsRow (the.Launches copy) old new before after t f s took = subst (λ x. IsRow x old new before after t f s took) is made in row.1

pub put_length : (tasks tasks' : List (Option Task)) (t : ℕ) (x : Option Task) → tasks' ≡ slice_set tasks t x → length tasks' ≡ length tasks
put_length tasks tasks' t x p = ap length p ∙ length-set tasks t x

pub woken_length : (ts : List TaskNo) (tasks : List (Option Task)) → length (woken ts tasks) ≡ length tasks
woken_length [] tasks = refl
woken_length (t ∷ ts) tasks = woken_length ts (slice_set tasks t.0 (made_ready (in_table tasks t.0))) ∙ length-set tasks t.0 (made_ready (in_table tasks t.0))

pub ready_again : (tasks tasks' : List (Option Task)) (t : ℕ) → tasks' ≡ put_task tasks t (stack_at tasks' t) None → IsReady tasks t → IsReady tasks' t
ready_again tasks tasks' t p h = ap (λ x. in_table x t) p ∙ (ready_put tasks t (stack_at tasks' t) h).0

pub shared_local : (code : LowModule) (s : Stack) → is_shared (free_step code s) ≡ true → local_step code s ≡ local.Shared
shared_local code s e = ⊎_elim (λ same. same ∙ shared_of (free_step code s) e) (λ deep. let no_shared : false ≡ true = ap is_shared (sym deep.2) ∙ e in cc) (near code s)
  where
    shared_of : (l : Local) → is_shared l ≡ true → l ≡ local.Shared
    shared_of local.Shared e = refl
    shared_of (local.Done after counts) e = cc
    shared_of local.Stuck e = cc
    shared_of local.Deep e = cc

pub not_shared : (code : LowModule) (s : Stack) → is_shared (free_step code s) ≡ false → local_step code s ≡ local.Shared → ⊥
not_shared code s e d = let both : true ≡ false = ap is_shared (sym (free_of code s local.Shared d (λ z. cc))) ∙ e in cc

-- ---- a run of these parts, whose task of this number is ready

module _ (code : LowModule) (limits : Limits) (tasks : List (Option Task)) (table : Table) (buffers : List (List ℕ)) (arguments : List ArgBuffer) (root_end : Option RootEnd) (steps : ℕ) (gone : List ObjNo) (t : ℕ)
    (now : Running) (v : record { code = code; limits = limits; core = core_of tasks table buffers arguments root_end steps gone } ≡ now) (ready : IsReady now.core.plain.tasks t) where
  abbrev here : Core
  here = core_of tasks table buffers arguments root_end steps gone

  pub ready_here : IsReady tasks t
  ready_here = subst (λ n. IsReady n.core.plain.tasks t) (sym v) ready

  abbrev Step_is : Took Core → Type 0
  Step_is took = limited_step now.limits now.code now.core t ≡ took

  seen_step : (took : Took Core) → limited_step limits code here t ≡ took → Step_is took
  seen_step took e = subst (λ n. limited_step n.limits n.code n.core t ≡ took) v e

  -- ---- steps of the task alone

  module _ (tasks' : List (Option Task)) (p : tasks' ≡ put_task tasks t (stack_at tasks' t) None) where
    unmoved : stack_at tasks' t ≡ stack_at tasks t → record { code = code; limits = limits; core = core_of tasks' table buffers arguments root_end steps gone } ≡ now
    unmoved same = ap (λ ts. record { code = code; limits = limits; core = core_of ts table buffers arguments root_end steps gone }) (p ∙ (ap (λ s. put_task tasks t s None) same ∙ same_put tasks t ready_here)) ∙ v

    pub alone_done : (counts : Option CountStep) → stack_counts (free_step now.code (stack_at now.core.plain.tasks t)) ≡ None → IsLocal (answer.Done counts) (stack_at tasks t) (stack_at tasks' t) (local_step code (stack_at tasks t)) →
        (act : Act) × Step_is (Takes (core_of tasks' table buffers arguments root_end (steps + 1) gone) [] act) × (code ≡ now.code) × (limits ≡ now.limits)
    alone_done counts none e =
        let uncounted : stack_counts (free_step code (stack_at tasks t)) ≡ None = subst (λ n. stack_counts (free_step n.code (stack_at n.core.plain.tasks t)) ≡ None) (sym v) none in
        let plainly : local_step code (stack_at tasks t) ≡ local.Done (stack_at tasks' t) None = e ∙ ap (local.Done (stack_at tasks' t)) (uncounted_local code (stack_at tasks t) (stack_at tasks' t) counts e uncounted) in
        (Nothing, seen_step _ (steps_plainly limits code here t (stack_at tasks t) ready_here (stack_at tasks' t) plainly ∙ ap (λ ts. Takes (core_of ts table buffers arguments root_end (steps + 1) gone) [] Nothing) (sym p)), ap (λ n. n.code) v, ap (λ n. n.limits) v)

    pub alone_stuck : IsLocal answer.Stuck (stack_at tasks t) (stack_at tasks' t) (local_step code (stack_at tasks t)) →
        (Step_is Stuck ⊎ Step_is Idle) × (record { code = code; limits = limits; core = core_of tasks' table buffers arguments root_end steps gone } ≡ now)
    alone_stuck e = (inl (seen_step Stuck (steps_stuck limits code here t (stack_at tasks t) ready_here e.0)), unmoved e.1)

    pub alone_deep : IsLocal answer.Deep (stack_at tasks t) (stack_at tasks' t) (local_step code (stack_at tasks t)) →
        Step_is (Stopped (limit.Stack 1024)) × (record { code = code; limits = limits; core = core_of tasks' table buffers arguments root_end steps gone } ≡ now)
    alone_deep e = (seen_step _ (steps_deep limits code here t (stack_at tasks t) ready_here e.0), unmoved e.1)

    -- ---- shared steps

    module _ (sh : is_shared (free_step now.code (stack_at now.core.plain.tasks t)) ≡ true) (table' : Table) (buffers' : List (List ℕ)) (gone' : List ObjNo) (first before after : List TaskNo) (b : before ≡ first) where
      abbrev pub took : Took Core
      took = next_took limits code here t (stack_at tasks t)

      is_took : Step_is took
      is_took =
          let here_shared : is_shared (free_step code (stack_at tasks t)) ≡ true = subst (λ n. is_shared (free_step n.code (stack_at n.core.plain.tasks t)) ≡ true) (sym v) sh in
          seen_step took (steps_shared limits code here t (stack_at tasks t) ready_here (shared_local code (stack_at tasks t) here_shared))

      abbrev Made : Row → Type 0
      Made row = IsRow row here (with_parts table' buffers' gone' here) before after t (stack_at tasks t) (stack_at tasks' t) took

      unchanged : with_parts table' buffers' gone' here ≡ here → stack_at tasks' t ≡ stack_at tasks t → record { code = code; limits = limits; core = core_of tasks' table' buffers' arguments root_end steps gone' } ≡ now
      unchanged e same =
          ap (λ d. record { code = code; limits = limits; core = retasked tasks' d }) e ∙ unmoved same

      pub row_stuck : (r : Row) → r ≡ the.Stuck → Made r → (Step_is Stuck ⊎ Step_is Idle) × (record { code = code; limits = limits; core = core_of tasks' table' buffers' arguments root_end steps gone' } ≡ now) × (after ≡ first)
      row_stuck r is made = let row : Made the.Stuck = subst Made is made in (inl (is_took ∙ row.0), unchanged row.1 row.3, row.2 ∙ b)

      pub row_stop : (r : Row) (l : Limit) → r ≡ the.Stop l → Made r → Step_is (Stopped l) × (record { code = code; limits = limits; core = core_of tasks' table' buffers' arguments root_end steps gone' } ≡ now) × (after ≡ first)
      row_stop r l is made = let row : Made (the.Stop l) = subst Made is made in (is_took ∙ row.0, unchanged row.1 row.3, row.2 ∙ b)

      abbrev Stepped_to : List (Option Task) → Option RootEnd → List TaskNo → Type 0
      Stepped_to ts e all = (wakes : List TaskNo) × (all ≡ first ++ wakes) × ((act : Act) × Step_is (Takes (core_of ts table' buffers' arguments e (steps + 1) gone') wakes act) × (code ≡ now.code) × (limits ≡ now.limits))

      pub row_goes : (r : Row) (parked : Option ObjNo) (ts : List (Option Task)) (slice : List TaskNo) → r ≡ the.Goes parked → Made r → ((wakes : List TaskNo) → after ≡ first ++ wakes → slice ≡ wakes) →
          ts ≡ woken slice (put_task tasks' t (stack_at tasks' t) parked) → Stepped_to ts root_end after
      row_goes r parked ts slice is made cut g =
          let row : Made (the.Goes parked) = subst Made is made in
          let all : after ≡ first ++ row.0 = row.2 ∙ ap (λ xs. xs ++ row.0) b in
          let same : ts ≡ woken row.0 (put_task tasks t (stack_at tasks' t) parked) = g ∙ goes_tasks tasks tasks' t (stack_at tasks' t) parked slice row.0 (cut row.0 all) p in
          (row.0, all, (row.1, is_took ∙ (row.3 ∙ ap (λ xs. Takes (core_of xs table' buffers' arguments root_end (steps + 1) gone') row.0 row.1) (sym same)), ap (λ n. n.code) v, ap (λ n. n.limits) v))

      pub row_launches : (r : Row) (copy : Stack) (ts : List (Option Task)) (n : ℕ) (all : List TaskNo) → r ≡ the.Launches copy → Made r → n ≡ length tasks' → all ≡ after ++ (record { 0 = n }) ∷ [] → ts ≡ tasks' ++ Some (ready_task copy) ∷ [] → Stepped_to ts root_end all
      row_launches r copy ts n all is made len pushed g =
          let row : Made (the.Launches copy) = subst Made is made in
          let number : n ≡ length tasks = len ∙ (ap length p ∙ length-set tasks t (Some (ready_task (stack_at tasks' t)))) in (
            (record { 0 = length tasks }) ∷ [],
            pushed ∙ (ap (λ m. after ++ (record { 0 = m }) ∷ []) number ∙ ap (λ xs. xs ++ (record { 0 = length tasks }) ∷ []) (row.1 ∙ b)),
            (row.0, is_took ∙ (row.2 ∙ ap (λ xs. Takes (core_of xs table' buffers' arguments root_end (steps + 1) gone') ((record { 0 = length tasks }) ∷ []) row.0) (sym (g ∙ ap (λ xs. xs ++ Some (ready_task copy) ∷ []) p))), ap (λ n. n.code) v, ap (λ n. n.limits) v),
          )

      pub row_ends : (r : Row) (e e' : Option RootEnd) (ts : List (Option Task)) → r ≡ the.Ends e → Made r → e' ≡ end_or e root_end → ts ≡ slice_set tasks' t None → Stepped_to ts e' after
      row_ends r e e' ts is made ends g =
          let row : Made (the.Ends e) = subst Made is made in
          let out : ts ≡ slice_set tasks t None = g ∙ (ap (λ xs. slice_set xs t None) p ∙ put_twice tasks t (Some (ready_task (stack_at tasks' t))) None) in (
            [],
            row.1 ∙ (b ∙ sym (append-nil first)),
            (row.0, is_took ∙ (row.2 ∙ (ap (λ xs. Takes (core_of xs table' buffers' arguments (end_or e root_end) (steps + 1) gone') [] row.0) (sym out) ∙ ap (λ x. Takes (core_of ts table' buffers' arguments x (steps + 1) gone') [] row.0) (sym ends))), ap (λ n. n.code) v, ap (λ n. n.limits) v),
          )

  -- ---- steps that count

  pub count_not : (n : CountStep) → stack_counts (free_step now.code (stack_at now.core.plain.tasks t)) ≡ Some n → may_count n table ≡ false → (Step_is Stuck ⊎ Step_is Idle)
  count_not n e miss =
      let counts : stack_counts (free_step code (stack_at tasks t)) ≡ Some n = subst (λ m. stack_counts (free_step m.code (stack_at m.core.plain.tasks t)) ≡ Some n) (sym v) e in
      inl (seen_step Stuck (counts_not limits code here t (stack_at tasks t) ready_here n counts miss))

  module _ (tasks' : List (Option Task)) (p : tasks' ≡ put_task tasks t (stack_at tasks' t) None) (n : CountStep) (e : stack_counts (free_step now.code (stack_at now.core.plain.tasks t)) ≡ Some n)
      (l : LocalStep) (local_is : IsLocal l (stack_at tasks t) (stack_at tasks' t) (local_step code (stack_at tasks t))) where
    here_counts : stack_counts (free_step code (stack_at tasks t)) ≡ Some n
    here_counts = subst (λ m. stack_counts (free_step m.code (stack_at m.core.plain.tasks t)) ≡ Some n) (sym v) e

    pub is_counting : l ≡ answer.Done (Some n)
    is_counting = counted_local code (stack_at tasks t) (stack_at tasks' t) n l local_is here_counts

    pub count_done : may_count n table ≡ true → (table' : Table) (gone' : List ObjNo) → table' ≡ changed_to table.objects (counting_change n ∷ []) table → gone' ≡ gone ++ freed (counting_change n ∷ []) table.counts →
        (act : Act) × Step_is (Takes (core_of tasks' table' buffers arguments root_end (steps + 1) gone') [] act) × (code ≡ now.code) × (limits ≡ now.limits)
    count_done may table' gone' changed went =
        let both : (is_there table.counts n.object ≡ true) × (leaves_own here n ≡ true) = both_of _ _ may in
        let done : local_step code (stack_at tasks t) ≡ local.Done (stack_at tasks' t) (Some n) = subst (λ x. IsLocal x (stack_at tasks t) (stack_at tasks' t) (local_step code (stack_at tasks t))) is_counting local_is in
        let first : Took Core = Takes (core_of (put_task tasks t (stack_at tasks' t) None) (changed_to table.objects (counting_change n ∷ []) table) buffers arguments root_end (steps + 1) (gone ++ freed (counting_change n ∷ []) table.counts)) [] Nothing in
        let same : first ≡ Takes (core_of tasks' table' buffers arguments root_end (steps + 1) gone') [] Nothing =
        ap (λ ts. Takes (core_of ts (changed_to table.objects (counting_change n ∷ []) table) buffers arguments root_end (steps + 1) (gone ++ freed (counting_change n ∷ []) table.counts)) [] Nothing) (sym p)
        ∙ (ap (λ tb. Takes (core_of tasks' tb buffers arguments root_end (steps + 1) (gone ++ freed (counting_change n ∷ []) table.counts)) [] Nothing) (sym changed)
        ∙ ap (λ g. Takes (core_of tasks' table' buffers arguments root_end (steps + 1) g) [] Nothing) (sym went)) in
        (Nothing, seen_step _ (counts_so limits code here t (stack_at tasks t) ready_here (stack_at tasks' t) n done both.0 both.1 ∙ same), ap (λ m. m.code) v, ap (λ m. m.limits) v)
      where
        both_of : (x y : Bool) → cond x y false ≡ true → (x ≡ true) × (y ≡ true)
        both_of true y e = (refl, e)
        both_of false y e = cc
