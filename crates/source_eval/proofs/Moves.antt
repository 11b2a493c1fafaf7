-- What a step of the code makes of the run.
use Rattle.std.proofs.Common.{◌≡◌, ℕ, ◌+◌, cond, List, [], ◌∷◌, ◌++◌, map, reverse, Option, Some, None, sym, ap, subst, ◌∙◌}
use Rattle.std.specs.Prelude.{nat_lt}
use Rattle.ir_forms.specs.Names.{Path, launched_by, iteration_of}
use Rattle.ir_forms.specs.declared.names.Action.{Action}
use Rattle.ir_forms.specs.declared.names.TraceEntry.{TraceEntry}
use Rattle.ir_forms.specs.declared.ops.ValueNo.{ValueNo}
use Rattle.source_meaning.specs.Values.{maybe}
use Rattle.source_meaning.specs.Tasks.{Program, Loop, Pending, Awaits, Joining, Failing, Task, Ask, JoinsAll, Answer, Next, Asks, resumed}
use Rattle.source_meaning.specs.Steps.{next, next_pending}
use Rattle.source_meaning.specs.World.{World, answer, after, shown}
use Rattle.source_meaning.specs.Sequential.{Running, Sequence, On, born, iteration, launched, shows, stops, begins_next, takes, takes_or_begins, unless_stopped, moves_to, move_of, move}
use Rattle.source_tasks.specs.Asking.{IsAsk}
use Rattle.source_tasks.specs.Pending.{joined_in}
use Rattle.source_tasks.specs.declared.step.Asked.{Asked}
use Rattle.source_tasks.specs.declared.step.Asked.TheVariants as asked
use Rattle.source_state.specs.Seen.{Alike}
use Rattle.source_eval.specs.Answered.{IsAnswered}
use Rattle.source_eval.specs.Following.{IsMoved, left_to_begin, stack_of}
use Rattle.source_eval.specs.declared.answers.Answered.TheVariants as answered
use Rattle.source_eval.specs.declared.sequence.Sequence as code
use Rattle.std.proofs.lemmas.List.{reverse-append}

pub pushed : {X Y : Type 0} (f : X → Y) (xs : List X) (x : X) → map f (reverse (xs ++ x ∷ [])) ≡ f x ∷ map f (reverse xs)
pushed f xs x = ap (map f) (reverse-append xs (x ∷ []))

-- ---- the iteration that begins before a loop is joined

none≢some : {X : Type 0} (x : X) → None ≡ Some x → ⊥
none≢some {X} x e = subst IsNothing e tt where
  IsNothing : Option X → Type 0
  IsNothing None = Unit {0}
  IsNothing (Some y) = ⊥

module _ (p : Program) (k : ℕ) (w : Sequence) (top : Running) (below : List Running) where
  -- an iteration is left
  begins_first : (ps : List Pending) (t : Task) → maybe None (λ (loop : Loop). cond (nat_lt top.begun loop.total) (Some (iteration loop top.begun)) None) (joined_in ps) ≡ Some t →
      moves_to p k w top below (next_pending p ps top.task) ≡ On (record w { stack = born (iteration_of top.path top.taken top.begun) t ∷ record top { begun = top.begun + 1 } ∷ below })
  begins_first [] t e = absurd (none≢some t e)
  begins_first (Awaits at x xs ∷ more) t e = absurd (none≢some t e)
  begins_first (Joining at loop ∷ more) t e = ap (takes_or_begins w top below (JoinsAll loop) (resumed at [] (record top.task { pending = more }))) e
  begins_first (Failing at ∷ more) t e = absurd (none≢some t e)

  pub iteration_moves : (t : Task) → w.stack ≡ top ∷ below → left_to_begin top.begun top.task ≡ Some t →
      move p k w ≡ On (record w { stack = born (iteration_of top.path top.taken top.begun) t ∷ record top { begun = top.begun + 1 } ∷ below })
  iteration_moves t s e = ap (move_of p k w) s ∙ begins_first top.task.pending t e

  -- none is left
  no_more : (asked : Asked) (ask : Ask) → IsAsk asked top.task ask → left_to_begin top.begun top.task ≡ None → begins_next top ask ≡ None
  no_more (asked.Reads b c) ask h e = ap (begins_next top) h.1
  no_more (asked.Writes b c n) ask h e = ap (begins_next top) h.1
  no_more (asked.Allocs dims cells) ask h e = ap (begins_next top) h.0
  no_more (asked.Creates size) ask h e = ap (begins_next top) h
  no_more (asked.Adds g x used) ask h e = ap (begins_next top) h
  no_more (asked.Launches child results) ask h e = ap (begins_next top) h
  no_more (asked.Enters total split) ask h e = ap (begins_next top) h.1
  no_more (asked.JoinsAll total) ask h e =
      ap (begins_next top) h.2 ∙ (sym (ap (maybe None (λ (loop : Loop). cond (nat_lt top.begun loop.total) (Some (iteration loop top.begun)) None)) h.1) ∙ e)
  no_more (asked.AwaitsOne x) ask h e = ap (begins_next top) h
  no_more (asked.AwaitsAll g) ask h e = ap (begins_next top) h

  -- a step that is taken
  pub step_moves : (n : Next) → w.stack ≡ top ∷ below → next p top.task ≡ n → move p k w ≡ moves_to p k w top below n
  step_moves n s e = ap (move_of p k w) s ∙ ap (moves_to p k w top below) e

  pub ask_moves : (at : ℕ) (asked : Asked) (ask : Ask) (xs : List ValueNo) (t : Task) → w.stack ≡ top ∷ below → next p top.task ≡ Asks at ask xs t → IsAsk asked top.task ask → left_to_begin top.begun top.task ≡ None →
      move p k w ≡ unless_stopped (stops w.world ask) w.trace (takes w top below ask (resumed at xs t))
  ask_moves at asked ask xs t s e h none =
      step_moves (Asks at ask xs t) s e ∙ ap (λ o. unless_stopped (stops w.world ask) w.trace (takes_or_begins w top below ask (resumed at xs t) o)) (no_more asked ask h none)

-- an action that is taken
pub taken_moves : (w : Sequence) (top : Running) (below : List Running) (goes : Answer → Task) (a : Ask) (s : code.Sequence) (v : World) (q : Path) (n : ℕ) (es : List TraceEntry)
    (action : Action) (given : Answer) (child : Option Task) → top.path ≡ q → top.taken ≡ n → w.trace ≡ es → IsAnswered (answered.Goes action given child) v w.world q n a →
    stack_of s ≡ maybe [] (λ t. born (launched_by q (n + 1)) t ∷ []) child ++ record { path = q; taken = n + 1; begun = 0; task = goes given } ∷ below →
    s.shared ≡ v → s.entries ≡ es ++ shows q action ∷ [] → IsMoved None s (unless_stopped (stops w.world a) w.trace (takes w top below a goes))
taken_moves w top below goes a s v q n es action given child path taken trace h stack shared entries = (
  record {
    stack = launched top.path (top.taken + 1) a ++ record { path = top.path; taken = top.taken + 1; begun = 0; task = goes (answer w.world top.path top.taken a) } ∷ below;
    world = after w.world top.path top.taken a;
    trace = w.trace ++ shows top.path (shown a) ∷ [];
  },
  ap (λ o. unless_stopped o w.trace (takes w top below a goes)) h.0,
  record {
    stack = (λ j. launched (path j) (taken j + 1) a ++ record { path = path j; taken = taken j + 1; begun = 0; task = goes (answer w.world (path j) (taken j) a) } ∷ below)
        ∙ ((λ j. sym h.4 j ++ record { path = q; taken = n + 1; begun = 0; task = goes (sym h.1 j) } ∷ below) ∙ sym stack);
    world = subst (λ u. Alike u (after w.world top.path top.taken a)) (sym shared) (subst (Alike v) (λ j. after w.world (sym path j) (sym taken j) a) h.3);
    trace = (λ j. trace j ++ shows (path j) (sym h.2 j) ∷ []) ∙ sym entries;
  },
)
