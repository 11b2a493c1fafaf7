-- In each state that a run comes to all is in range.
use Rattle.std.specs.Prelude.{IfSome}
use Rattle.std.proofs.Common.{◌≡◌, ◌+◌, ℕ, Bool, true, false, cond, List, [], ◌∷◌, map, Option, Some, None, refl, sym, subst}
use Rattle.ir_forms.specs.declared.args.ArgValue.{ArgValue}
use Rattle.ir_forms.specs.declared.args.ArgValue.TheVariants as arg
use Rattle.ir_forms.specs.Names.{Path, iteration_of, same_path}
use Rattle.source_meaning.specs.declared.values.Val.TheVariants.{Number}
use Rattle.source_meaning.specs.Rows.{variables}
use Rattle.source_meaning.specs.Start.{arguments, stores_of}
use Rattle.source_meaning.specs.Sequential.{iteration}
use Rattle.source_meaning.specs.Steps.{next}
use Rattle.source_meaning.specs.Tasks.{Program, Loop, Task, Ask, Reads, Writes, Allocs, Creates, Adds, Launches, Enters, JoinsAll, AwaitsOne, AwaitsAll, Answer, Next, Goes, Asks, Ends, told, resumed}
use Rattle.source_meaning.specs.TaskOrder.{Live, Order, newly, made_by, moved, replaced, without, acts, steps_to, task_at, and_then, step, run, first_order, IsReached, Each}
use Rattle.source_meaning.specs.World.{Store, answer, enabled, numbers_from}
use Rattle.carry_laws.proofs.Basics.{none≢some, some_inj}
use Rattle.carry_laws.proofs.Law.{of_each}
use Rattle.typed_laws.specs.Ranges.{IsNumber, AreInRange, TaskInRange, WorldInRange, ArgInRange, ValuesAreInRange}
use Rattle.typed_laws.proofs.Numbers.{variables_number}
use Rattle.typed_laws.proofs.Ranged.{AskInRange, NextInRange, each_append, each_map, bound_values, values_in, next_in_range, resumed_task}
use Rattle.typed_laws.proofs.Shared.{each_found, answer_in, after_in}

abbrev LiveIn : Live → Type 0
LiveIn l = TaskInRange l.task

abbrev OrderIn : Order → Type 0
OrderIn s = Each LiveIn s.live × WorldInRange s.world

-- ---- lists of tasks

replaced_in : (l : Live) (live : List Live) → LiveIn l → Each LiveIn live → Each LiveIn (replaced l live)
replaced_in l live h k = each_map LiveIn LiveIn (λ m. cond (same_path m.path l.path) l m) (λ m. pick m (same_path m.path l.path)) live k where
  pick : (m : Live) (b : Bool) → LiveIn m → LiveIn (cond b l m)
  pick m true i = h
  pick m false i = i

without_in : (q : Path) (live : List Live) → Each LiveIn live → Each LiveIn (without q live)
without_in q [] h = tt
without_in q (l ∷ live) h = split (same_path l.path q) (without_in q live h.1) where
  split : (b : Bool) → Each LiveIn (without q live) → Each LiveIn (cond b (without q live) (l ∷ without q live))
  split true k = k
  split false k = (h.0, k)

numbers_in : (ns : List ℕ) → Each IsNumber ns → AreInRange (map Number ns)
numbers_in [] h = tt
numbers_in (n ∷ ns) h = (h.0, numbers_in ns h.1)

iterations_in : (q : Path) (k : ℕ) (loop : Loop) → AreInRange loop.scope.env → (is : List ℕ) → Each LiveIn (map (λ i. newly (iteration_of q k i) (iteration loop i)) is)
iterations_in q k loop h [] = tt
iterations_in q k loop h (i ∷ is) =
    (record { frames = tt; env = bound_values loop.params (map Number (variables loop.spans i)) loop.scope.env h (numbers_in (variables loop.spans i) (variables_number loop.spans i)) }, iterations_in q k loop h is)

made_in : (q : Path) (k : ℕ) (a : Ask) → AskInRange a → Each LiveIn (made_by q k a)
made_in q k (Launches t r) h = (h, tt)
made_in q k (Enters loop) h = iterations_in q k loop h (numbers_from 0 loop.total)
made_in q k (Reads b i) h = tt
made_in q k (Writes b i n) h = tt
made_in q k (Allocs dims) h = tt
made_in q k (Creates n) h = tt
made_in q k (Adds g x used) h = tt
made_in q k (JoinsAll loop) h = tt
made_in q k (AwaitsOne x) h = tt
made_in q k (AwaitsAll g) h = tt

-- ---- a step

module _ (p : Program) where
  told_in : (l : Live) (n : Next) (r : Answer) → next p l.task ≡ n → TaskInRange (told n l.task r) → TaskInRange (told (next p l.task) l.task r)
  told_in l n r e h = subst (λ m. TaskInRange (told m l.task r)) (sym e) h

  asked_in : (s : Order) (l : Live) (at : ℕ) (a : Ask) (xs : List _) (t : Task) → OrderIn s → next p l.task ≡ Asks at a xs t → AskInRange a → TaskInRange t → (b : Bool) → enabled s.world l.path l.taken a ≡ b → (s' : Order) →
      cond b (Some (acts p s l a (answer s.world l.path l.taken a))) None ≡ Some s' → OrderIn s'
  asked_in s l at a xs t h e k m false i s' is = absurd (none≢some s' is)
  asked_in s l at a xs t h e k m true i s' is =
      let r : Answer = answer s.world l.path l.taken a in
      let to : TaskInRange (resumed at xs t r) = resumed_task at xs t r m (answer_in s.world l.path l.taken a h.1 k i) in
      subst OrderIn (some_inj _ s' is)
      (each_append LiveIn _ _ (replaced_in (moved p l r (l.taken + 1)) s.live (told_in l (Asks at a xs t) r e to) h.0) (made_in l.path (l.taken + 1) a k), after_in s.world l.path l.taken a h.1 k)

  next_in : (s : Order) (l : Live) → OrderIn s → (n : Next) → next p l.task ≡ n → NextInRange n → (s' : Order) → steps_to p s l n ≡ Some s' → OrderIn s'
  next_in s l h (Goes t) e k s' is = subst OrderIn (some_inj _ s' is) (replaced_in (moved p l None l.taken) s.live (told_in l (Goes t) None e k) h.0, h.1)
  next_in s l h (Asks at a xs t) e k s' is = asked_in s l at a xs t h e k.0 k.1 (enabled s.world l.path l.taken a) refl s' is
  next_in s l h (Ends o) e k s' is = subst OrderIn (some_inj _ s' is) (without_in l.path s.live h.0, record { cells = h.1.cells; sizes = h.1.sizes; ends = (k, h.1.ends) })

  step_in : (s : Order) → OrderIn s → (o : Option Live) → IfSome o LiveIn → (s' : Order) → and_then (λ l. steps_to p s l (next p l.task)) o ≡ Some s' → OrderIn s'
  step_in s h None k s' is = absurd (none≢some s' is)
  step_in s h (Some l) k s' is = next_in s l h (next p l.task) refl (next_in_range p l.task k) s' is

  run_in : (qs : List Path) (s s' : Order) → OrderIn s → run p qs s ≡ Some s' → OrderIn s'
  run_in [] s s' h is = subst OrderIn (some_inj s s' is) h
  run_in (q ∷ qs) s s' h is = split (step p q s) refl (λ x e f. run_in qs x s' (step_in s h (task_at s q) (each_found LiveIn (λ l. same_path l.path q) s.live h.0) x e) f) is where
    split : (o : Option Order) → step p q s ≡ o → ((x : Order) → step p q s ≡ Some x → run p qs x ≡ Some s' → OrderIn s') → and_then (run p qs) o ≡ Some s' → OrderIn s'
    split None e more f = absurd (none≢some s' f)
    split (Some x) e more f = more x e f

-- ---- the start

argument_values : (j : ℕ) (args : List ArgValue) → Each ArgInRange args → AreInRange (arguments j args)
argument_values j [] h = tt
argument_values j (arg.Number n ∷ args) h = (h.0, argument_values (j + 1) args h.1)
argument_values j (arg.Cells dims cells ∷ args) h = (h.0.0, argument_values (j + 1) args h.1)

argument_cells : (j : ℕ) (args : List ArgValue) → Each ArgInRange args → Each (λ (s : Store). Each IsNumber s.cells) (stores_of j args)
argument_cells j [] h = tt
argument_cells j (arg.Number n ∷ args) h = argument_cells (j + 1) args h.1
argument_cells j (arg.Cells dims cells ∷ args) h = (h.0.1, argument_cells (j + 1) args h.1)

first_in : (p : Program) (entry : ℕ) (args : List ArgValue) → Each ArgInRange args → OrderIn (first_order p entry args)
first_in p entry args h = ((record { frames = tt; env = bound_values _ (arguments 0 args) [] tt (argument_values 0 args h) }, tt), record { cells = argument_cells 0 args h; sizes = tt; ends = tt })

reached_in : (p : Program) (entry : ℕ) (args : List ArgValue) → Each ArgInRange args → (s : Order) → IsReached p entry args s → OrderIn s
reached_in p entry args h s r = run_in p r.order (first_order p entry args) s (first_in p entry args h) r.comes

pub values_are_in_range : ValuesAreInRange
values_are_in_range p entry args h =
    let tasks = of_each TaskInRange p entry args (λ s r. (reached_in p entry args h s r).0) in
    record {
      tasks = tasks;
      operands = λ t o i. values_in t.scope.env o.operands (tasks t i).env;
      shared = λ s r. (reached_in p entry args h s r).1;
    }
