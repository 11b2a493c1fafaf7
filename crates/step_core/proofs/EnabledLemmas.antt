-- Whether a task's step goes on, by what the task needs.
use Rattle.std.proofs.Common.{◌≡◌, ◌↔◌, ◌≤◌, ◌<◌, ℕ, suc, ◌+◌, cond, Bool, true, false, IsTrue, IsSome, List, [], ◌∷◌, drop, length, Option, Some, None, refl, sym, ap, ◌∙◌, arith, ⊎_elim}
use Rattle.std.specs.Option.{is_some}
use Rattle.std.proofs.lemmas.Option.{slice_get_past, slice_get_cases}
use Rattle.ir_forms.specs.declared.runs.ObjNo.{ObjNo}
use Rattle.ir_forms.specs.declared.types.Dim.{Dim}
use Rattle.ir_forms.specs.declared.types.Dim.TheVariants.{Fixed, Dynamic}
use Rattle.low_forms.specs.declared.code.Instr.{Instr}
use Rattle.low_forms.specs.declared.code.LowModule.{LowModule}
use Rattle.source_meaning.specs.Rows.{sizes}
use Rattle.source_meaning.specs.Values.{maybe, or_else}
use Rattle.async_objects.specs.declared.object.Object.{Object}
use Rattle.async_objects.specs.Counts.{CountChange, is_there}
use Rattle.async_objects.specs.Sound.{Fits}
use Rattle.task_stack.specs.declared.steps.CountStep.{CountStep}
use Rattle.task_stack.specs.declared.frames.Activation.{Activation}
use Rattle.task_stack.specs.declared.frames.Frame.{Frame}
use Rattle.task_stack.specs.Frames.{Stack}
use Rattle.task_stack.specs.Registers.{nothing, number, number_in}
use Rattle.task_stack.specs.Local as local
use Rattle.task_stack.specs.Local.{Local, operands, free_step}
use Rattle.task_stack.specs.Shared.{Next, next_of}
use Rattle.task_stack.specs.Ahead.{is_shared, counted as stack_counts, is_stuck}
use Rattle.step_core.specs.declared.limits.Limits.{Limits}
use Rattle.step_core.specs.declared.tasks.Task.{Task}
use Rattle.step_core.specs.Rows.{shared_row}
use Rattle.step_core.specs.State.{task_at}
use Rattle.step_core.specs.Shared.{Took, Stuck, Idle, Nothing, goes_on, shared_step, numbers}
use Rattle.step_core.specs.Plain.{by_local, ready_step, uses_by, changes_by, shared_uses, shared_changes, counting_change}
use Rattle.step_core.specs.Core.{Core, all_there, overlay, leaves_by, leaves_own, row_limit, limit_at, core_step, limited_step}
use Rattle.step_core.specs.Enabled.{is_enabled, is_only, row_can, counts_can, local_can, stack_can, task_can, core_can}
use Rattle.step_core.proofs.Steps.{is_deep, shallow, can_by}
use Rattle.step_core.proofs.CellRows.{values_length, numbers_at, numbers_end}
use Rattle.step_core.proofs.EnabledRows.{by_limit, plainly, gone, counted, row_goes}

module _ (l : Limits) (code : LowModule) (c : Core) (t : ℕ) (sound : Fits [] [] c.plain.objects c.counts) where
  -- ---- by the local step

  abbrev by_free : Stack → Local → Took Core
  by_free stack free = overlay (cond (leaves_by free c) (all_there (uses_by free code stack) c.counts) false) c (changes_by free code c.plain stack) (by_local free code c.plain t stack)

  counts_by : (stack after : Stack) (n : CountStep) (left there : Bool) → leaves_own c n ≡ left → is_there c.counts n.object ≡ there →
      is_enabled (overlay (cond left (cond there true false) false) c (counting_change n ∷ []) (goes_on c.plain t after Nothing)) ≡ cond there left false
  counts_by stack after n true true left there = counted c (counting_change n ∷ []) (goes_on c.plain t after Nothing) (can_by c n n.adds refl there left)
  counts_by stack after n true false left there = gone c (counting_change n ∷ []) (goes_on c.plain t after Nothing)
  counts_by stack after n false true left there = gone c (counting_change n ∷ []) (goes_on c.plain t after Nothing)
  counts_by stack after n false false left there = gone c (counting_change n ∷ []) (goes_on c.plain t after Nothing)

  shared_by : (stack : Stack) (n : Option Next) →
      is_enabled (overlay (all_there (maybe [] (λ n. shared_uses (shared_row n.instr.kind) (operands stack n.instr)) n) c.counts) c (maybe [] (λ n. shared_changes (shared_row n.instr.kind) n.func n.instr (operands stack n.instr) c.plain) n)
      (maybe Stuck (λ n. shared_step (shared_row n.instr.kind) n.func n.instr (operands stack n.instr) c.plain t stack) n))
      ≡ maybe false (λ n. row_can (shared_row n.instr.kind) n.func n.instr (operands stack n.instr) c.plain.objects c.counts c.plain.buffers stack) n
  shared_by stack None = refl
  shared_by stack (Some n) =
      sym (by_limit (row_limit l (shared_row n.instr.kind) n.func n.instr (operands stack n.instr) c) _)
      ∙ row_goes l n.func n.instr (operands stack n.instr) c t stack sound (shared_row n.instr.kind)

  free_can : (stack : Stack) (free : Local) → is_deep free ≡ false → is_enabled (by_free stack free) ≡ local_can free code c.plain.objects c.counts c.plain.buffers stack
  free_can stack (local.Done after None) e = plainly c (goes_on c.plain t after Nothing)
  free_can stack (local.Done after (Some n)) e = counts_by stack after n (leaves_own c n) (is_there c.counts n.object) refl refl
  free_can stack local.Shared e = shared_by stack (next_of code stack)
  free_can stack local.Stuck e = refl
  free_can stack local.Deep e = cc

  -- ---- by the task

  abbrev by_task : Option Task → Took Core
  by_task o =
      overlay (cond (maybe true (λ task. leaves_by (free_step code task.stack) c) o) (all_there (maybe [] (λ task. uses_by (free_step code task.stack) code task.stack) o) c.counts) false) c
      (maybe [] (λ task. changes_by (free_step code task.stack) code c.plain task.stack) o) (maybe Idle (ready_step code c.plain t) o)

  idles : (may : Bool) (cs : List CountChange) → is_enabled (overlay may c cs Idle) ≡ false
  idles may cs = refl

  ready_can : (stack : Stack) (parked : Option ObjNo) →
      is_enabled (overlay (cond (leaves_by (free_step code stack) c) (all_there (uses_by (free_step code stack) code stack) c.counts) false) c (changes_by (free_step code stack) code c.plain stack)
      (maybe (by_local (free_step code stack) code c.plain t stack) (λ o. Idle) parked))
      ≡ maybe (stack_can code c.plain.objects c.counts c.plain.buffers stack) (λ o. false) parked
  ready_can stack None = free_can stack (free_step code stack) (shallow code stack)
  ready_can stack (Some o) = refl

  by_task_can : (o : Option Task) → is_enabled (by_task o) ≡ task_can code c.plain.objects c.counts c.plain.buffers o
  by_task_can None = refl
  by_task_can (Some task) = ready_can task.stack task.parked

  pub step_can : is_enabled (limited_step l code c t) ≡ core_can code c t
  step_can = by_limit (limit_at l code c t) (core_step code c t) ∙ by_task_can (task_at c.plain t)

-- ---- what the code looks at

module _ (code : LowModule) (objects : List Object) (counts : List ℕ) (buffers : List (List ℕ)) (stack : Stack) where
  pub can_count : (free : Local) (n : CountStep) → stack_counts free ≡ Some n → local_can free code objects counts buffers stack ≡ counts_can n objects counts
  can_count (local.Done after counted) n e = ap (λ o. maybe true (λ m. counts_can m objects counts) o) e
  can_count local.Shared n e = cc
  can_count local.Stuck n e = cc
  can_count local.Deep n e = cc

  pub can_share : (free : Local) → is_shared free ≡ true →
      local_can free code objects counts buffers stack ≡ maybe false (λ n. row_can (shared_row n.instr.kind) n.func n.instr (operands stack n.instr) objects counts buffers stack) (next_of code stack)
  can_share (local.Done after counted) e = cc
  can_share local.Shared e = refl
  can_share local.Stuck e = cc
  can_share local.Deep e = cc

  pub can_alone : (free : Local) → is_deep free ≡ false → stack_counts free ≡ None → is_shared free ≡ false → local_can free code objects counts buffers stack ≡ cond (is_stuck free) false true
  can_alone (local.Done after counted) d n e = ap (λ o. maybe true (λ m. counts_can m objects counts) o) n
  can_alone local.Shared d n e = cc
  can_alone local.Stuck d n e = refl
  can_alone local.Deep d n e = cc

-- ---- the only frame, and its copy

pub only_is : (r : Bool) (below : List Frame) (is_root of_root : Bool) → IsTrue r ↔ ((below ≡ []) × (is_root ≡ of_root)) → r ≡ is_only below is_root of_root
only_is true [] true true h = refl
only_is true [] true false h = let e = (h.0 refl).1 in cc
only_is true [] false true h = let e = (h.0 refl).1 in cc
only_is true [] false false h = refl
only_is true (f ∷ below) is_root of_root h = let e = (h.0 refl).0 in cc
only_is false [] true true h = h.1 (refl, refl)
only_is false [] true false h = refl
only_is false [] false true h = refl
only_is false [] false false h = h.1 (refl, refl)
only_is false (f ∷ below) is_root of_root h = refl

pub copy_is : (r : Bool) (k : Option Activation) → IsTrue r ↔ IsSome k → r ≡ is_some k
copy_is true (Some copy) h = refl
copy_is true None h = sym (h.0 refl)
copy_is false (Some copy) h = h.1 refl
copy_is false None h = refl

-- ---- the sizes that an allocation asks for

pub size_next : (s : Stack) (i : Instr) (k : ℕ) (dims : List Dim) → sizes (Dynamic ∷ dims) (numbers (drop k (operands s i))) ≡ number (operands s i) k ∷ sizes dims (numbers (drop (k + 1) (operands s i)))
size_next s i k dims =
    ⊎_elim
    (λ p. let less : k < length (operands s i) = p.1 in ap (sizes (Dynamic ∷ dims)) (numbers_at s i k (omega (arith, less, values_length s.top.current.regs i.operands))))
    (λ q. let most : length (operands s i) ≤ k = q.0 in past (omega (arith, most, values_length s.top.current.regs i.operands)))
    (slice_get_cases (operands s i) k).1
  where
    past : length i.operands ≤ k → sizes (Dynamic ∷ dims) (numbers (drop k (operands s i))) ≡ number (operands s i) k ∷ sizes dims (numbers (drop (k + 1) (operands s i)))
    past h =
        let none : number (operands s i) k ≡ 0 = ap (λ v. number_in (or_else nothing v)) (slice_get_past (operands s i) k (omega (arith, h, values_length s.top.current.regs i.operands))) in
        let after : numbers (drop (k + 1) (operands s i)) ≡ [] = numbers_end s i (k + 1) (omega (arith, h)) in
        ap (sizes (Dynamic ∷ dims)) (numbers_end s i k h) ∙ (λ j. sym none j ∷ sizes dims (sym after j))

pub sizes_length : (dims : List Dim) (given : List ℕ) → length (sizes dims given) ≡ length dims
sizes_length [] given = refl
sizes_length (Fixed n ∷ dims) given = ap suc (sizes_length dims given)
sizes_length (Dynamic ∷ dims) [] = ap suc (sizes_length dims [])
sizes_length (Dynamic ∷ dims) (n ∷ given) = ap suc (sizes_length dims given)
