-- What the rows that end a task, launch one, or do nothing come to.
use Rattle.std.proofs.Common.{◌≡◌, ◌<◌, ℕ, nat_lt, true, false, List, [], ◌∷◌, ◌++◌, Option, Some, None, IsSome, length, refl, sym, ap, ◌∙◌, append_assoc, MatchOption}
use Rattle.std.proofs.lemmas.Bool.{true≢false, lt-ltb}
use Rattle.std.proofs.lemmas.Option.{same_Some}
use Rattle.ir_forms.specs.declared.runs.TaskNo.{TaskNo}
use Rattle.low_forms.specs.declared.code.Instr.{Instr}
use Rattle.low_forms.specs.declared.code.LowFunc.{LowFunc}
use Rattle.source_meaning.specs.Values.{maybe}
use Rattle.async_objects.specs.declared.kinds.Val.{Val}
use Rattle.task_stack.specs.declared.frames.Activation.{Activation}
use Rattle.task_stack.specs.Frames.{Stack, copied_stack}
use Rattle.task_stack.specs.Shared.{passed, kept, resumed}
use Rattle.step_core.specs.declared.ends.RootEnd.{RootEnd}
use Rattle.step_core.specs.declared.limits.Limit.TheVariants as limit
use Rattle.step_core.specs.declared.limits.Limits.{Limits}
use Rattle.step_core.specs.declared.parts.Row.TheVariants as the
use Rattle.step_core.specs.declared.rows.SharedRow.TheVariants as row
use Rattle.step_core.specs.State.{Plain, live_tasks, with_task, counted, ready}
use Rattle.step_core.specs.Shared.{Stuck, Takes, Nothing, Ends, Launches, root_ends, task_ends, resumes}
use Rattle.step_core.specs.Core.{Core, overlay, unless, limited}
use Rattle.step_core.specs.Parts.{row_step, launched, over, gone_on, IsRow}
use Rattle.step_core.proofs.RowLemmas.{goes, taken}

pub snoc_append : {X : Type 0} (xs : List X) (x : X) (ys : List X) → (xs ++ x ∷ []) ++ ys ≡ xs ++ x ∷ ys
snoc_append xs x ys = append_assoc xs (x ∷ []) ys

pub passes : (c : Core) (w : List TaskNo) (t : ℕ) (first second : Stack) → second ≡ passed first →
    (l : Limits) (f : LowFunc) (i : Instr) (vs : List Val) → IsRow (the.Goes None) c c w w t first second (row_step l row.Deallocate f i vs c t first)
passes c w t first second stack_is l f i vs =
    goes None c c w t first second Nothing (row_step l row.Deallocate f i vs c t first)
    (taken c (counted (with_task c.plain t (Some (ready (passed first))))) [] Nothing ∙ ap (λ s. Takes (gone_on c t s None []) [] Nothing) (sym stack_is))

-- ---- ends

module _ (c : Core) (w : List TaskNo) (t : ℕ) (s : Stack) where
  pub root_is_over : (given e : RootEnd) → given ≡ e → (s.below ≡ []) × (s.is_root ≡ true) → IsRow (the.Ends (Some given)) c c w w t s s (limited None (overlay true c [] (root_ends c.plain t s.below s.is_root e)))
  root_is_over given e same is =
      (Ends, refl, (λ i. limited None (overlay true c [] (root_ends c.plain t (is.0 i) (is.1 i) e))) ∙ (taken c (record (counted (with_task c.plain t None)) { root_end = Some e }) [] Ends ∙ (λ i. Takes (over c t (Some (sym same i))) [] Ends)))

  pub task_is_over : (s.below ≡ []) × (s.is_root ≡ false) → IsRow (the.Ends None) c c w w t s s (limited None (overlay true c [] (task_ends c.plain t s.below s.is_root)))
  task_is_over is =
      (Ends, refl, (λ i. limited None (overlay true c [] (task_ends c.plain t (is.0 i) (is.1 i)))) ∙ taken c (counted (with_task c.plain t None)) [] Ends)

-- ---- a launch

module _ (l : Limits) (f : LowFunc) (i : Instr) (vs : List Val) (c : Core) (w : List TaskNo) (t : ℕ) (first second : Stack) where
  pub resume_goes : (n : ℕ) (made : Option Stack) (copy : Stack) → made ≡ Some copy → live_tasks c.plain.tasks ≡ n → IsSome (kept first) → n < l.tasks →
      MatchOption (kept first) ((made ≡ None) × (second ≡ first)) (λ k. (made ≡ Some (copied_stack k)) × (second ≡ resumed first)) →
      IsRow (the.Launches copy) c c w w t first second (row_step l row.Resume f i vs c t first)
  resume_goes n made copy is live some few made_is = split (kept first) refl some made_is where
    split : (k : Option Activation) → kept first ≡ k → IsSome k → MatchOption k ((made ≡ None) × (second ≡ first)) (λ k. (made ≡ Some (copied_stack k)) × (second ≡ resumed first)) →
        IsRow (the.Launches copy) c c w w t first second (row_step l row.Resume f i vs c t first)
    split None e some made_is = absurd (true≢false (sym some))
    split (Some k) e some made_is =
        let new : TaskNo = record { 0 = length c.plain.tasks } in
        let after : Plain = counted (with_task c.plain t (Some (ready (resumed first)))) in (
          Launches new,
          refl,
          ap (λ m. limited (unless (nat_lt m l.tasks) (limit.Tasks m)) (overlay true c [] (maybe Stuck (resumes c.plain t first) (kept first)))) live
              ∙ (ap (λ b. limited (unless b (limit.Tasks n)) (overlay true c [] (maybe Stuck (resumes c.plain t first) (kept first)))) (lt-ltb n l.tasks few)
              ∙ (ap (λ k. limited None (overlay true c [] (maybe Stuck (resumes c.plain t first) k))) e
              ∙ (taken c (record after { tasks = after.tasks ++ Some (ready (copied_stack k)) ∷ [] }) (new ∷ []) (Launches new)
              ∙ (λ j. Takes (launched c t (sym (made_is.1) j) (same_Some (copied_stack k) copy (sym (made_is.0) ∙ is) j)) (new ∷ []) (Launches new))))),
        )
