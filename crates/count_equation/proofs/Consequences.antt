-- What follows from the equation, in any state in which it holds.
use Rattle.std.proofs.Common.{◌≡◌, ℕ, zero, suc, ◌+◌, ◌≤◌, nat_lt, cond, true, false, List, [], ◌∷◌, Option, Some, None, refl, ap, ◌∙◌, arith}
use Rattle.std.specs.Prelude.{slice_get}
use Rattle.std.proofs.lemmas.Bool.Decides.{nat_tests}
use Rattle.ir_forms.specs.declared.runs.ObjNo.{ObjNo}
use Rattle.low_forms.specs.declared.code.LowModule.{LowModule}
use Rattle.async_objects.specs.declared.kinds.Val.{Val}
use Rattle.async_objects.specs.declared.kinds.Val.TheVariants as val
use Rattle.async_objects.specs.Objects.{object_at}
use Rattle.async_objects.specs.Counts.{count_at}
use Rattle.async_objects.proofs.ListLemmas.{some_is}
use Rattle.task_stack.specs.declared.frames.Saved.TheVariants as saved
use Rattle.task_stack.specs.Registers.{held}
use Rattle.task_stack.specs.Frames.{Stack}
use Rattle.own_tables.specs.declared.table.OwnTable.{OwnTable}
use Rattle.step_core.specs.declared.tasks.Task.{Task}
use Rattle.step_core.specs.State.{live_tasks, ready}
use Rattle.step_core.specs.Plain.{object_in}
use Rattle.step_core.specs.Core.{Core, all_there, own_count}
use Rattle.count_sums.specs.Sums.{total, share, owned}
use Rattle.count_sums.proofs.Sums.{point_here}
use Rattle.count_equation.specs.Equation.{CountEquation, at_place, below_owns, stack_owns, task_owns}
use Rattle.count_equation.specs.Laws.{OwnedIsThere, GoneIsUnowned, NoneIsLeft}
use Rattle.count_equation.proofs.Effects.{keeps, owns_now}

pub owned_most : (w : ℕ → ℕ) (o : ℕ) (regs : List Val) (r : ℕ) → share o (held regs r) (w r) ≤ owned w o regs
owned_most w o [] zero = omega arith
owned_most w o [] (suc r) = omega arith
owned_most w o (x ∷ regs) zero = omega arith
owned_most w o (x ∷ regs) (suc r) = let h : share o (held regs r) (w (suc r)) ≤ owned (λ q. w (suc q)) o regs = owned_most (λ q. w (suc q)) o regs r in omega (arith, h)

pub total_most : {X : Type 0} (f : X → ℕ) (xs : List X) (k : ℕ) (x : X) → slice_get xs k ≡ Some x → f x ≤ total f xs
total_most f [] k x e = cc
total_most f (y ∷ xs) zero x e = let same : f y ≡ f x = ap f (some_is y x e) in omega (arith, same)
total_most f (y ∷ xs) (suc k) x e = let h : f x ≤ total f xs = total_most f xs k x e in omega (arith, h)

is_there_of : (n : ℕ) → 1 ≤ n → nat_lt 0 n ≡ true
is_there_of n more = grind (arith, nat_tests, more)

module _ (code : LowModule) (table : OwnTable) (c : Core) (equation : CountEquation code table c) where
  -- what a working frame owns is there
  pub owned_there : (t : ℕ) (stack : Stack) → slice_get c.plain.tasks t ≡ Some (Some (ready stack)) → stack.top.saved ≡ saved.Nothing → (r : ℕ) → 1 ≤ at_place code table stack.top.current.place r
      → all_there (object_in (held stack.top.current.regs r)) c.counts ≡ true
  owned_there t stack there plain r more = by_value (held stack.top.current.regs r) refl
    where
      counted : (p : ObjNo) → held stack.top.current.regs r ≡ val.Object p → 1 ≤ count_at c.counts p.0
      counted p is =
          let w : ℕ → ℕ = at_place code table stack.top.current.place in
          let a : share p.0 (held stack.top.current.regs r) (w r) ≤ owned w p.0 stack.top.current.regs = owned_most w p.0 stack.top.current.regs r in
          let b : share p.0 (held stack.top.current.regs r) (w r) ≡ w r = ap (λ v. share p.0 v (w r)) is ∙ point_here p.0 (w r) in
          let d : stack_owns code table p.0 stack ≡ owned w p.0 stack.top.current.regs + total (below_owns code table p.0) stack.below = owns_now code table stack plain stack.top.current.place stack.top.current.regs p.0 in
          let g : stack_owns code table p.0 stack ≤ total (task_owns code table p.0) c.plain.tasks = total_most (task_owns code table p.0) c.plain.tasks t (Some (ready stack)) there in
          let h : count_at c.counts p.0 ≡ total (task_owns code table p.0) c.plain.tasks + keeps c.plain.objects p.0 = equation p.0 in
          omega (arith, a, b, d, g, h, more)

      by_value : (v : Val) → held stack.top.current.regs r ≡ v → all_there (object_in v) c.counts ≡ true
      by_value (val.Number n) is = refl
      by_value (val.Buffer b rank dims) is = refl
      by_value (val.Object p) is = ap (λ b. cond b true false) (is_there_of (count_at c.counts p.0) (counted p is))

  ended_own : (o : ℕ) (tasks : List (Option Task)) → live_tasks tasks ≡ 0 → total (task_owns code table o) tasks ≡ 0
  ended_own o [] none = refl
  ended_own o (None ∷ tasks) none = let e : total (task_owns code table o) tasks ≡ 0 = ended_own o tasks none in omega (arith, e)
  ended_own o (Some task ∷ tasks) none = absurd (omega (arith, none))

  pub none_left : (o : ObjNo) → live_tasks c.plain.tasks ≡ 0 → own_count (object_at c.plain.objects o) ≡ 0 → count_at c.counts o.0 ≡ 0
  none_left o ended none =
      let h : count_at c.counts o.0 ≡ total (task_owns code table o.0) c.plain.tasks + own_count (object_at c.plain.objects o) = equation o.0 in
      let e : total (task_owns code table o.0) c.plain.tasks ≡ 0 = ended_own o.0 c.plain.tasks ended in
      omega (arith, h, e, none)

  pub gone_owns : (o : ObjNo) → count_at c.counts o.0 ≡ 0 → (t : ℕ) (task : Option Task) → slice_get c.plain.tasks t ≡ Some task → task_owns code table o.0 task ≡ 0
  gone_owns o gone t task there =
      let h : count_at c.counts o.0 ≡ total (task_owns code table o.0) c.plain.tasks + own_count (object_at c.plain.objects o) = equation o.0 in
      let e : task_owns code table o.0 task ≤ total (task_owns code table o.0) c.plain.tasks = total_most (task_owns code table o.0) c.plain.tasks t task there in
      omega (arith, h, e, gone)

  pub gone_keeps : (o : ObjNo) → count_at c.counts o.0 ≡ 0 → own_count (object_at c.plain.objects o) ≡ 0
  gone_keeps o gone =
      let h : count_at c.counts o.0 ≡ total (task_owns code table o.0) c.plain.tasks + own_count (object_at c.plain.objects o) = equation o.0 in
      omega (arith, h, gone)

-- ---- the laws

pub owned_is_there : OwnedIsThere
owned_is_there code table c equation t stack there plain r more = owned_there code table c equation t stack there plain r more

pub gone_is_unowned : GoneIsUnowned
gone_is_unowned code table c equation o gone = (gone_owns code table c equation o gone, gone_keeps code table c equation o gone)

pub none_is_left : NoneIsLeft
none_is_left code table c equation finished o none = none_left code table c equation o finished.1 none
