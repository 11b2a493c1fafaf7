-- The sequential run is a run in an order of tasks.
use Rattle.std.specs.Prelude.{◌⊎◌, ltb, leb, is_some, IfSome, nat_lt, nat_le}
use mathlib.Core.Logic.{inl, inr}
use Rattle.std.proofs.Common.{◌≡◌, ◌<◌, ◌≤◌, ℕ, zero, suc, ◌+◌, ◌-◌, Bool, true, false, cond, List, [], ◌∷◌, ◌++◌, map, length, Option, Some, None, refl, sym, ap, subst, ◌∙◌, arith}
use Rattle.std.proofs.lemmas.List.{length-append, map-append}
use Rattle.std.proofs.lemmas.Bool.{ltb-true, ltb-false, le-leb}
use Rattle.std.specs.List.{find}
use Rattle.std.specs.Option.{option_map}
use Rattle.ir_forms.specs.declared.ops.ValueNo.{ValueNo}
use Rattle.source_meaning.specs.declared.ends.SourceEnd.{SourceEnd}
use Rattle.source_meaning.specs.declared.ends.SourceEnd.TheVariants.{Short, Overfull, Cells}
use Rattle.ir_forms.specs.Shapes.{product, most_cells}
use Rattle.source_meaning.specs.Rows.{variables}
use Rattle.ir_forms.specs.declared.names.MadeName.{MadeName}
use Rattle.ir_forms.specs.declared.names.ElementName.{ElementName}
use Rattle.ir_forms.specs.declared.names.ElementName.TheVariants.{Token, Value}
use Rattle.source_meaning.specs.declared.values.Val.TheVariants.{Element, Number}
use Rattle.ir_forms.specs.declared.names.Action.{Action}
use Rattle.ir_forms.specs.declared.names.TraceEntry.{TraceEntry}
use Rattle.ir_forms.specs.Names.{Path, launched_by, iteration_of, same_path, same_made, maker}
use Rattle.source_meaning.specs.Values.{maybe}
use Rattle.source_meaning.specs.Tasks.{Program, Loop, Pending, Awaits, Joining, Failing, Task, Ask, Reads, Writes, Allocs, Creates, Adds, Launches, Enters, JoinsAll, AwaitsOne, AwaitsAll, Answer, Outcome, Gave, FailedAt, Next, Goes, Asks, Ends, told, resumed, bound}
use Rattle.source_meaning.specs.World.{World, Gathering, outcome, has_ended, numbers_from, group_at, members, size, is_good, all_of, all_below, awaited, unless_failed, answer, joined_by, after, ended, enabled, shown, shown_end}
use Rattle.source_meaning.specs.Sequential.{Running, Sequence, Moved, On, Over, born, iteration, stops, shows, launched, takes, begins_next, takes_or_begins, unless_stopped, finishes, moves_to, move, start, and_moves, moves}
use Rattle.source_meaning.specs.TaskOrder.{Live, Event, Order, acts, and_then, step, steps_to, run, end_in, first_order, newly, made_by, moved, replaced, without, shown_in, Each}
use Rattle.source_meaning.specs.Steps.{next, next_pending}
use Rattle.source_meaning.specs.Start.{end_of, arguments}
use Rattle.ir_forms.specs.declared.args.ArgValue.{ArgValue}
use Rattle.ir_forms.specs.declared.args.ArgValue.TheVariants as arg
use Rattle.source_meaning.specs.Runs.{IsEnd, SequentialIsARun}
use Rattle.meaning_laws.specs.Turns.{IsTurn, TurnsAreReached}
use Rattle.meaning_laws.proofs.Elements.{OkVals, OkTask, OkPending, OkJoining, OkOutcome, OkAsk, OkThen, OkNext, each_append, ok_get, ok_bound, ok_bind, ok_next, ok_joined, task_mono, joining_mono, outcome_mono, each_mono}
use Rattle.meaning_laws.proofs.Listed.{none≢some, some_inj, cond_false, cond_true, path_yes, path_same, path_no, V, at, or, at_append, assoc, replaced_other, replaced_same, without_other, without_same, Found, found_at, none_left}

-- ---- the stack, as such a list

its : Path → ℕ → Loop → ℕ → ℕ → List (Path × V)
its path k loop i zero = []
its path k loop i (suc n) = (iteration_of path k i, (iteration loop i, 0)) ∷ its path k loop (i + 1) n

-- the iterations of a running task that haven't begun
abbrev pend_of : Path → ℕ → ℕ → List Pending → List (Path × V)
pend_of path k begun (Joining a loop ∷ more) = its path k loop begun (loop.total - begun)
pend_of path k begun _ = []

abbrev expand : List Running → List (Path × V)
expand [] = []
expand (e ∷ below) = (e.path, (e.task, e.taken)) ∷ (pend_of e.path e.taken e.begun e.task.pending ++ expand below)

-- paths in the list are no longer than this
Low : ℕ → List (Path × V) → Type 0
Low n xs = (q : Path) (v : V) → at xs q ≡ Some v → length q ≤ n

-- each task's path is as long as those below it, and none of them
abbrev Placed : List Running → Type 0
Placed [] = Unit {0}
Placed (e ∷ below) = Low (length e.path) (expand below) × (at (expand below) e.path ≡ None) × Placed below

-- ---- what tasks know

abbrev In : Path → List Path → Type 0
In q [] = ⊥
In q (a ∷ more) = (a ≡ q) ⊎ In q more

abbrev has : List (Path × Outcome) → Path → Bool
has ends q = is_some (option_map (λ e. e.1) (find (λ e. same_path e.0 q) ends))

-- the task has ended, or is one of these
abbrev Known : List (Path × Outcome) → List Path → Path → Type 0
Known ends above q = (has ends q ≡ true) ⊎ In q above

in_more : (q c : Path) (xs : List Path) → In q xs → In q (xs ++ c ∷ [])
in_more q c [] h = absurd h
in_more q c (x ∷ xs) (inl e) = inl e
in_more q c (x ∷ xs) (inr h) = inr (in_more q c xs h)

in_last : (q c : Path) (xs : List Path) → In q (xs ++ c ∷ []) → In q xs ⊎ (c ≡ q)
in_last q c [] (inl e) = inr e
in_last q c [] (inr h) = absurd h
in_last q c (x ∷ xs) (inl e) = inl (inl e)
in_last q c (x ∷ xs) (inr h) = lift (in_last q c xs h) where
  lift : In q xs ⊎ (c ≡ q) → In q (x ∷ xs) ⊎ (c ≡ q)
  lift (inl i) = inl (inr i)
  lift (inr e) = inr e

known_more : (ends : List (Path × Outcome)) (c : Path) (xs : List Path) (q : Path) → Known ends xs q → Known ends (xs ++ c ∷ []) q
known_more ends c xs q (inl e) = inl e
known_more ends c xs q (inr h) = inr (in_more q c xs h)

has_more : (b : Bool) (x : Path × Outcome) (y : Option (Path × Outcome)) → is_some (option_map (λ (e : Path × Outcome). e.1) y) ≡ true → is_some (option_map (λ (e : Path × Outcome). e.1) (cond b (Some x) y)) ≡ true
has_more true x y h = refl
has_more false x y h = h

-- the task u ended
known_popped : (ends : List (Path × Outcome)) (u : Path) (o : Outcome) (xs : List Path) (q : Path) → Known ends (xs ++ u ∷ []) q → Known ((u, o) ∷ ends) xs q
known_popped ends u o xs q (inl e) = inl (has_more (same_path u q) (u, o) (find (λ e. same_path e.0 q) ends) e)
known_popped ends u o xs q (inr h) = split (in_last q u xs h) where
  split : In q xs ⊎ (u ≡ q) → Known ((u, o) ∷ ends) xs q
  split (inl i) = inr i
  split (inr e) = inl (subst (λ q. has ((u, o) ∷ ends) q ≡ true) e (ap (λ b. is_some (option_map (λ (e : Path × Outcome). e.1) (cond b (Some (u, o)) (find (λ e. same_path e.0 u) ends)))) (path_same u)))

-- a running task holds what is known, or waits for iterations, of which the begun ones are known
record JoinsIn (P : Path → Type 0) (e : Running) : Type 0 where
  loop : Loop
  joins : OkJoining P loop e.task
  ended : (i : ℕ) → i < e.begun → P (iteration_of e.path e.taken i)

abbrev OkRun : (Path → Type 0) → Running → Type 0
OkRun P e = OkTask P e.task ⊎ JoinsIn P e

abbrev OkStack : List (Path × Outcome) → List Path → List Running → Type 0
OkStack ends above [] = Unit {0}
OkStack ends above (e ∷ below) = OkRun (Known ends above) e × OkStack ends (e.path ∷ above) below

run_mono : (P Q : Path → Type 0) → ((q : Path) → P q → Q q) → (e : Running) → OkRun P e → OkRun Q e
run_mono P Q f e (inl h) = inl (task_mono P Q f e.task h)
run_mono P Q f e (inr h) = inr (record { loop = h.loop; joins = joining_mono P Q f h.loop e.task h.joins; ended = λ i l. f _ (h.ended i l) })

stack_more : (ends : List (Path × Outcome)) (c : Path) (xs : List Path) (st : List Running) → OkStack ends xs st → OkStack ends (xs ++ c ∷ []) st
stack_more ends c xs [] h = tt
stack_more ends c xs (e ∷ st) h = (run_mono _ _ (known_more ends c xs) e h.0, stack_more ends c (e.path ∷ xs) st h.1)

stack_popped : (ends : List (Path × Outcome)) (u : Path) (o : Outcome) (xs : List Path) (st : List Running) → OkStack ends (xs ++ u ∷ []) st → OkStack ((u, o) ∷ ends) xs st
stack_popped ends u o xs [] h = tt
stack_popped ends u o xs (e ∷ st) h = (run_mono _ _ (known_popped ends u o xs) e h.0, stack_popped ends u o (e.path ∷ xs) st h.1)

-- ---- lengths of paths

launched_length : (p : Path) (k : ℕ) → length (launched_by p k) ≡ length p + 1
launched_length p k = length-append p (k ∷ [])

iteration_length : (p : Path) (k i : ℕ) → length (iteration_of p k i) ≡ length p + 2
iteration_length p k i = length-append p (k ∷ i ∷ [])

other_length : (a b : Path) → (length a ≡ length b → ⊥) → same_path a b ≡ false
other_length a b n = path_no a b (λ e. n (ap length e))

low_none : (n : ℕ) (xs : List (Path × V)) (q : Path) → Low n xs → n < length q → at xs q ≡ None
unfolding Low
low_none n xs q h l = split (at xs q) refl where
  split : (o : Option V) → at xs q ≡ o → at xs q ≡ None
  split None e = e
  split (Some v) e = absurd (omega (arith, h q v e))

abbrev tail_of : List ℕ → List ℕ
tail_of [] = []
tail_of (x ∷ xs) = xs

abbrev second_of : List ℕ → ℕ
second_of (x ∷ y ∷ xs) = y
second_of _ = 0

iteration_inj : (p : Path) (k i j : ℕ) → iteration_of p k i ≡ iteration_of p k j → i ≡ j
iteration_inj [] k i j e = ap second_of e
iteration_inj (x ∷ p) k i j e = iteration_inj p k i j (ap tail_of e)

its_low : (p : Path) (k : ℕ) (loop : Loop) (i n : ℕ) → Low (length p + 2) (its p k loop i n)
unfolding Low its
its_low p k loop i zero q v h = absurd (none≢some v h)
its_low p k loop i (suc n) q v h = split (same_path (iteration_of p k i) q) refl (its_low p k loop (i + 1) n q v) where
  split : (b : Bool) → same_path (iteration_of p k i) q ≡ b → (at (its p k loop (i + 1) n) q ≡ Some v → length q ≤ length p + 2) → length q ≤ length p + 2
  split true e ih = let l : length q ≡ length p + 2 = ap length (sym (path_yes (iteration_of p k i) q e)) ∙ iteration_length p k i in omega (arith, l)
  split false e ih = ih (subst (λ b. cond b (Some (iteration loop i, 0)) (at (its p k loop (i + 1) n) q) ≡ Some v) e h)

its_length : (p : Path) (k : ℕ) (loop : Loop) (i n : ℕ) (q : Path) (v : V) → at (its p k loop i n) q ≡ Some v → length q ≡ length p + 2
unfolding its
its_length p k loop i zero q v h = absurd (none≢some v h)
its_length p k loop i (suc n) q v h = split (same_path (iteration_of p k i) q) refl (its_length p k loop (i + 1) n q v) where
  split : (b : Bool) → same_path (iteration_of p k i) q ≡ b → (at (its p k loop (i + 1) n) q ≡ Some v → length q ≡ length p + 2) → length q ≡ length p + 2
  split true e ih = ap length (sym (path_yes (iteration_of p k i) q e)) ∙ iteration_length p k i
  split false e ih = ih (subst (λ b. cond b (Some (iteration loop i, 0)) (at (its p k loop (i + 1) n) q) ≡ Some v) e h)

-- the task itself is none of its iterations
its_apart : (p : Path) (k : ℕ) (loop : Loop) (i n : ℕ) → at (its p k loop i n) p ≡ None
its_apart p k loop i n = split (at (its p k loop i n) p) refl where
  split : (x : Option V) → at (its p k loop i n) p ≡ x → at (its p k loop i n) p ≡ None
  split None e = e
  split (Some v) e = absurd (omega (arith, its_length p k loop i n p v e))

-- what the first list doesn't have may stand before it
pulled : (xs : List (Path × V)) (c : Path) (v : V) (ys : List (Path × V)) (q : Path) → at xs c ≡ None → at (xs ++ (c, v) ∷ ys) q ≡ at ((c, v) ∷ (xs ++ ys)) q
pulled xs c v ys q n = split (same_path c q) refl where
  split : (b : Bool) → same_path c q ≡ b → at (xs ++ (c, v) ∷ ys) q ≡ at ((c, v) ∷ (xs ++ ys)) q
  split true e =
      at_append xs ((c, v) ∷ ys) q ∙ (ap (λ x. or x (at ((c, v) ∷ ys) q)) (subst (λ q. at xs q ≡ None) (path_yes c q e) n)
      ∙ (cond_true (same_path c q) (Some v) (at ys q) e ∙ sym (cond_true (same_path c q) (Some v) (at (xs ++ ys) q) e)))
  split false e =
      at_append xs ((c, v) ∷ ys) q ∙ (ap (λ x. or (at xs q) x) (cond_false (same_path c q) (Some v) (at ys q) (at ys q) e refl)
      ∙ (sym (at_append xs ys q) ∙ sym (cond_false (same_path c q) (Some v) (at (xs ++ ys) q) (at (xs ++ ys) q) e refl)))

its_other : (p : Path) (k : ℕ) (loop : Loop) (i n j : ℕ) → j < i → at (its p k loop i n) (iteration_of p k j) ≡ None
unfolding its
its_other p k loop i zero j l = refl
its_other p k loop i (suc n) j l =
    let e : same_path (iteration_of p k i) (iteration_of p k j) ≡ false = path_no _ _ (λ e. absurd (omega (arith, l, iteration_inj p k i j e))) in
    cond_false (same_path (iteration_of p k i) (iteration_of p k j)) _ _ _ e (its_other p k loop (i + 1) n j (omega arith))

-- the iterations that an action makes are those of the list
made_its : (p : Path) (k : ℕ) (loop : Loop) (i n : ℕ) → assoc (map (λ i. newly (iteration_of p k i) (iteration loop i)) (numbers_from i n)) ≡ its p k loop i n
unfolding its
made_its p k loop i zero = refl
made_its p k loop i (suc n) = ap (λ xs. (iteration_of p k i, (iteration loop i, 0)) ∷ xs) (made_its p k loop (i + 1) n)

-- ---- what is shared

each_found : {X : Type 0} (P : X → Type 0) (test : X → Bool) (xs : List X) → Each P xs → IfSome (find test xs) P
each_found P test [] h = tt
each_found {X} P test (x ∷ xs) h = pick (test x) (each_found P test xs h.1) where
  pick : (b : Bool) → IfSome (find test xs) P → IfSome (cond b (Some x) (find test xs)) P
  pick true k = h.0
  pick false k = k

record OkWorld (w : World) : Type 0 where
  outcomes : Each (λ (e : Path × Outcome). OkOutcome (Known w.ends []) e.1) w.ends
  groups : Each (λ (g : Gathering). Each (λ x. Known w.ends [] (maker x)) g.members) w.groups

ends_after : (w : World) (p : Path) (k : ℕ) (a : Ask) → (after w p k a).ends ≡ w.ends
ends_after w p k (Reads b i) = refl
ends_after w p k (Writes b i n) = refl
ends_after w p k (Allocs dims) = refl
ends_after w p k (Creates n) = refl
ends_after w p k (Adds g x used) = refl
ends_after w p k (Launches t r) = refl
ends_after w p k (Enters loop) = refl
ends_after w p k (JoinsAll loop) = refl
ends_after w p k (AwaitsOne x) = refl
ends_after w p k (AwaitsAll g) = refl

joined_ok : (P : Path → Type 0) (name : MadeName) (x : ElementName) (gs : List Gathering) → P (maker x) → Each (λ (g : Gathering). Each (λ y. P (maker y)) g.members) gs → Each (λ (g : Gathering). Each (λ y. P (maker y)) g.members) (map (joined_by name x) gs)
joined_ok P name x [] h k = tt
joined_ok P name x (g ∷ gs) h k = (one (same_made g.name name), joined_ok P name x gs h k.1) where
  one : (b : Bool) → Each (λ y. P (maker y)) (cond b (record g { members = g.members ++ x ∷ [] }) g).members
  one true = each_append P (λ y. P (maker y)) g.members (x ∷ []) k.0 (h, tt)
  one false = k.0

world_after : (w : World) (p : Path) (k : ℕ) (a : Ask) → OkAsk (Known w.ends []) a → OkWorld w → OkWorld (after w p k a)
world_after w p k (Reads b i) a h = h
world_after w p k (Writes b i n) a h = record { outcomes = h.outcomes; groups = h.groups }
world_after w p k (Allocs dims) a h = record { outcomes = h.outcomes; groups = h.groups }
world_after w p k (Creates n) a h = record { outcomes = h.outcomes; groups = (tt, h.groups) }
world_after w p k (Adds g x used) a h = record { outcomes = h.outcomes; groups = joined_ok (Known w.ends []) g x w.groups a h.groups }
world_after w p k (Launches t r) a h = h
world_after w p k (Enters loop) a h = h
world_after w p k (JoinsAll loop) a h = h
world_after w p k (AwaitsOne x) a h = h
world_after w p k (AwaitsAll g) a h = h

awaited_ok : (P : Path → Type 0) (x : ElementName) (o : Option Outcome) → IfSome o (OkOutcome P) → IfSome (awaited x o) (OkVals P)
awaited_ok P (Token p) None h = tt
awaited_ok P (Token p) (Some (Gave vs)) h = tt
awaited_ok P (Token p) (Some (FailedAt n)) h = tt
awaited_ok P (Value p j) None h = tt
awaited_ok P (Value p j) (Some (Gave vs)) h = (ok_get P vs j h, tt)
awaited_ok P (Value p j) (Some (FailedAt n)) h = tt

mapped_ok : (P : Path → Type 0) (x : Option (Path × Outcome)) → IfSome x (λ e. OkOutcome P e.1) → IfSome (option_map (λ (e : Path × Outcome). e.1) x) (OkOutcome P)
mapped_ok P None h = tt
mapped_ok P (Some e) h = h

unless_ok : (P : Path → Type 0) (b : Bool) → IfSome (unless_failed b) (OkVals P)
unless_ok P true = tt
unless_ok P false = tt

elements_ok : (P : Path → Type 0) (q : Path) (js : List ℕ) → P q → OkVals P (map (λ j. Element (Value q j)) js)
elements_ok P q [] h = tt
elements_ok P q (j ∷ js) h = (h, elements_ok P q js h)

-- what an action makes is known to the task that took it
abbrev above_of : Path → ℕ → Ask → List Path
above_of p k (Launches t r) = launched_by p k ∷ []
above_of p k _ = []

answer_ok : (w : World) (p : Path) (k : ℕ) (a : Ask) → OkWorld w → IfSome (answer w p k a) (OkVals (Known w.ends (above_of p (k + 1) a)))
answer_ok w p k (Reads b i) h = (tt, tt)
answer_ok w p k (Writes b i n) h = tt
answer_ok w p k (Allocs dims) h = (tt, tt)
answer_ok w p k (Creates n) h = (tt, tt)
answer_ok w p k (Adds g x used) h = (tt, tt)
answer_ok w p k (Launches t r) h = (inr (inl refl), elements_ok (Known w.ends (launched_by p (k + 1) ∷ [])) (launched_by p (k + 1)) (numbers_from 0 r) (inr (inl refl)))
answer_ok w p k (Enters loop) h = tt
answer_ok w p k (JoinsAll loop) h = unless_ok (Known w.ends []) (all_below (λ i. is_good (outcome w (iteration_of p k i))) loop.total)
answer_ok w p k (AwaitsOne x) h = awaited_ok (Known w.ends []) x (outcome w (maker x)) (mapped_ok (Known w.ends []) (find (λ e. same_path e.0 (maker x)) w.ends) (each_found (λ (e : Path × Outcome). OkOutcome (Known w.ends []) e.1) (λ e. same_path e.0 (maker x)) w.ends h.outcomes))
answer_ok w p k (AwaitsAll g) h = unless_ok (Known w.ends []) (all_of (λ x. is_good (outcome w (maker x))) (members w g))

resumed_ok : (P : Path → Type 0) (n : ℕ) (xs : List ValueNo) (t : Task) (r : Answer) → OkTask P t → IfSome r (OkVals P) → OkTask P (resumed n xs t r)
resumed_ok P n xs t None h k = record { pending = (tt, tt); frames = h.frames; env = h.env }
resumed_ok P n xs t (Some vs) h k = ok_bound P xs vs t h k

no_end_if : (b : Bool) (x e : SourceEnd) → (IsEnd x → ⊥) → cond b None (Some x) ≡ Some e → IsEnd e → ⊥
no_end_if true x e n h k = none≢some e h
no_end_if false x e n h k = n (subst IsEnd (sym (some_inj x e h)) k)

no_end_unless : (b : Bool) (x e : SourceEnd) → (IsEnd x → ⊥) → cond b (Some x) None ≡ Some e → IsEnd e → ⊥
no_end_unless true x e n h k = n (subst IsEnd (sym (some_inj x e h)) k)
no_end_unless false x e n h k = none≢some e h

-- where the sequential run goes on, the action can be taken
goes_if : (b : Bool) (e : SourceEnd) → cond b None (Some e) ≡ None → b ≡ true
goes_if true e h = refl
goes_if false e h = absurd (none≢some e (sym h))

stays_if : (b : Bool) (e : SourceEnd) → cond b (Some e) None ≡ None → b ≡ false
stays_if true e h = absurd (none≢some e (sym h))
stays_if false e h = refl

known_ended : (ends : List (Path × Outcome)) (q : Path) → Known ends [] q → has ends q ≡ true
known_ended ends q (inl e) = e
known_ended ends q (inr h) = absurd h

all_ended : (w : World) (xs : List ElementName) → Each (λ x. Known w.ends [] (maker x)) xs → all_of (λ x. has_ended w (maker x)) xs ≡ true
all_ended w [] h = refl
all_ended w (x ∷ xs) h = rw (known_ended w.ends (maker x) h.0) (all_ended w xs h.1)

members_ok : (w : World) (x : Option Gathering) → IfSome x (λ g. Each (λ y. Known w.ends [] (maker y)) g.members) → Each (λ y. Known w.ends [] (maker y)) (maybe [] (λ h. h.members) x)
members_ok w None h = tt
members_ok w (Some g) h = h

can_take : (w : World) (p : Path) (k : ℕ) (a : Ask) (t : Task) → OkAsk (Known w.ends []) a → OkThen (Known w.ends []) a t → OkWorld w → stops w a ≡ None → enabled w p k a ≡ true
can_take w p k (Reads b i) t a m h s = refl
can_take w p k (Writes b i n) t a m h s = refl
can_take w p k (Allocs dims) t a m h s = refl
can_take w p k (Creates n) t a m h s = refl
can_take w p k (Adds g x used) t a m h s = goes_if (nat_lt (length (members w g)) (size w g)) _ s
can_take w p k (Launches c r) t a m h s = refl
can_take w p k (Enters loop) t a m h s = refl
can_take w p k (JoinsAll loop) t a m h s = absurd m
can_take w p k (AwaitsOne x) t a m h s = known_ended w.ends (maker x) a
can_take w p k (AwaitsAll g) t a m h s =
    let l : leb (size w g) (length (members w g)) ≡ true = le-leb (size w g) (length (members w g)) (ltb-false (length (members w g)) (size w g) (stays_if (nat_lt (length (members w g)) (size w g)) _ s)) in
    rw l (all_ended w (members w g) (members_ok w (group_at w g) (each_found (λ (g : Gathering). Each (λ y. Known w.ends [] (maker y)) g.members) (λ h. same_made h.name g) w.groups h.groups)))

-- ---- the sequential state and the order's

-- the lowest task is the root
abbrev Rooted : List Running → Type 0
Rooted [] = Unit {0}
Rooted (e ∷ []) = e.path ≡ []
Rooted (e ∷ b ∷ below) = Rooted (b ∷ below)

rooted_top : (e f : Running) (below : List Running) → f.path ≡ e.path → Rooted (e ∷ below) → Rooted (f ∷ below)
rooted_top e f [] i h = i ∙ h
rooted_top e f (b ∷ below) i h = h

record Sim (s : Sequence) (live : List Live) (log : List Event) : Type 0 where
  looks : (q : Path) → at (assoc live) q ≡ at (expand s.stack) q
  shown_so : shown_in log ≡ s.trace
  placed : Placed s.stack
  ok : OkStack s.world.ends [] s.stack
  shared : OkWorld s.world
  rooted : Rooted s.stack

no_pend : (P : Path → Type 0) (path : Path) (k begun : ℕ) (ps : List Pending) → Each (OkPending P) ps → pend_of path k begun ps ≡ []
no_pend P path k begun [] h = refl
no_pend P path k begun (Awaits n x xs ∷ more) h = refl
no_pend P path k begun (Joining n loop ∷ more) h = absurd h.0
no_pend P path k begun (Failing n ∷ more) h = refl

-- the list of a stack whose top waits for nothing
plain : (P : Path → Type 0) (e : Running) (below : List Running) → OkTask P e.task → expand (e ∷ below) ≡ (e.path, (e.task, e.taken)) ∷ expand below
plain P e below h = ap (λ xs. (e.path, (e.task, e.taken)) ∷ (xs ++ expand below)) (no_pend P e.path e.taken e.begun e.task.pending h.pending)

-- the task of this path changes
changed : (live : List Live) (l : Live) (p : Path) (v w : V) (xs : List (Path × V)) → l.path ≡ p → (l.task, l.taken) ≡ w → ((q : Path) → at (assoc live) q ≡ at ((p, v) ∷ xs) q) → (q : Path) → at (assoc (replaced l live)) q ≡ at ((p, w) ∷ xs) q
changed live l p v w xs e f h q = split (same_path p q) refl where
  split : (b : Bool) → same_path p q ≡ b → at (assoc (replaced l live)) q ≡ cond (same_path p q) (Some w) (at xs q)
  split true i =
      let there : at (assoc live) l.path ≡ Some v = subst (λ x. at (assoc live) x ≡ Some v) (sym e) (h p ∙ cond_true (same_path p p) (Some v) (at xs p) (path_same p)) in
      ap (λ x. at (assoc (replaced l live)) x) (sym (path_yes p q i) ∙ refl) ∙ (subst (λ x. at (assoc (replaced l live)) x ≡ Some (l.task, l.taken)) e (replaced_same l live v there) ∙ (ap Some f ∙ sym (cond_true (same_path p q) (Some w) (at xs q) i)))
  split false i =
      replaced_other l live q (subst (λ x. same_path x q ≡ false) (sym e) i) ∙ (h q ∙ (cond_false (same_path p q) (Some v) (at xs q) (at xs q) i refl ∙ sym (cond_false (same_path p q) (Some w) (at xs q) (at xs q) i refl)))

-- the task of this path ends
gone : (live : List Live) (p : Path) (v : V) (xs : List (Path × V)) → at xs p ≡ None → ((q : Path) → at (assoc live) q ≡ at ((p, v) ∷ xs) q) → (q : Path) → at (assoc (without p live)) q ≡ at xs q
gone live p v xs n h q = split (same_path p q) refl where
  split : (b : Bool) → same_path p q ≡ b → at (assoc (without p live)) q ≡ at xs q
  split true i = subst (λ x. at (assoc (without p live)) x ≡ at xs x) (path_yes p q i) (without_same p live ∙ sym n)
  split false i = without_other p live q i ∙ (h q ∙ cond_false (same_path p q) (Some v) (at xs q) (at xs q) i refl)

module _ (p : Program) (entry : ℕ) where
  -- a run that comes to this state
  record Went (s : Sequence) (o : Order) : Type 0 where
    order : List Path
    live : List Live
    log : List Event
    comes : run p order o ≡ Some (record { live = live; world = s.world; log = log })
    sim : Sim s live log

  record Closes (end : SourceEnd) (trace : List TraceEntry) (o : Order) : Type 0 where
    order : List Path
    last : Order
    comes : run p order o ≡ Some last
    finished : last.live ≡ []
    shown_so : shown_in last.log ≡ trace
    ends : end_in p entry last ≡ Some end

  Comes : Moved → Order → Type 0
  Comes (On s) o = Went s o
  Comes (Over e trace) o = IsEnd e → Closes e trace o

  one_step : (q : Path) (o o' : Order) → step p q o ≡ Some o' → run p (q ∷ []) o ≡ Some o'
  one_step q o o' e = ap (and_then (run p [])) e

  module _ (w : World) (tr : List TraceEntry) (top : Running) (below : List Running) (live : List Live) (log : List Event)
      (sim : Sim (record { stack = top ∷ below; world = w; trace = tr }) live log) where
    abbrev o : Order
    o = record { live = live; world = w; log = log }

    abbrev s : Sequence
    s = record { stack = top ∷ below; world = w; trace = tr }

    here : Found live top.path (top.task, top.taken)
    here = found_at live top.path (top.task, top.taken) (sim.looks top.path ∙ cond_true (same_path top.path top.path) (Some (top.task, top.taken)) (at (pend_of top.path top.taken top.begun top.task.pending ++ expand below) top.path) (path_same top.path))

    abbrev l : Live
    l = record { path = top.path; first = here.first; answers = here.answers; task = top.task; taken = top.taken }

    -- the top task's step
    top_step : (n : Next) → next p top.task ≡ n → step p top.path o ≡ steps_to p o l n
    top_step n e = ap (and_then (λ l. steps_to p o l (next p l.task))) here.found ∙ ap (steps_to p o l) e

    -- the top task goes on as this one
    abbrev changed_to : Task → ℕ → Running
    changed_to t k = record { path = top.path; taken = k; begun = 0; task = t }

    goes_case : (t : Task) → next p top.task ≡ Goes t → OkTask (Known w.ends []) top.task → OkTask (Known w.ends []) t → Comes (moves_to p entry s top below (Goes t)) o
    unfolding Comes
    goes_case t e h k = record {
      order = top.path ∷ [];
      live = replaced (moved p l None top.taken) live;
      log = log;
      comes = one_step top.path o _ (top_step (Goes t) e);
      sim = record {
        looks = λ q. changed live (moved p l None top.taken) top.path (top.task, top.taken) (t, top.taken) (expand below) refl (ap (λ n. (told n top.task None, top.taken)) e)
            (λ q. sim.looks q ∙ ap (λ xs. at xs q) (plain (Known w.ends []) top below h)) q ∙ ap (λ xs. at xs q) (sym (plain (Known w.ends []) (record top { task = t }) below k));
        shown_so = sim.shown_so;
        placed = sim.placed;
        ok = (inl k, sim.ok.1);
        shared = sim.shared;
        rooted = rooted_top top (record top { task = t }) below refl sim.rooted;
      };
    }

    -- the list, where the top task waits for nothing
    looks_plain : OkTask (Known w.ends []) top.task → (q : Path) → at (assoc live) q ≡ at ((top.path, (top.task, top.taken)) ∷ expand below) q
    looks_plain h q = sim.looks q ∙ ap (λ xs. at xs q) (plain (Known w.ends []) top below h)

    shown_more : (a : Action) (r : Answer) → shown_in (log ++ record { path = top.path; action = a; answer = r } ∷ []) ≡ tr ++ shows top.path a ∷ []
    shown_more a r = map-append (λ (e : Event). record { task = e.path; action = e.action }) log (record { path = top.path; action = a; answer = r } ∷ []) ∙ ap (λ xs. xs ++ shows top.path a ∷ []) sim.shown_so

    -- ---- the top task ends

    known_grows : (x : Outcome) (q : Path) → Known w.ends [] q → Known ((top.path, x) ∷ w.ends) [] q
    known_grows x q h = known_popped w.ends top.path x [] q (known_more w.ends top.path [] q h)

    shared_ended : (x : Outcome) → OkOutcome (Known w.ends []) x → OkWorld (ended w top.path x)
    shared_ended x h = record {
      outcomes = (outcome_mono _ _ (known_grows x) x h, each_mono (Known w.ends []) (Known ((top.path, x) ∷ w.ends) []) (known_grows x) (λ (e : Path × Outcome). OkOutcome (Known w.ends []) e.1) (λ (e : Path × Outcome). OkOutcome (Known ((top.path, x) ∷ w.ends) []) e.1) (λ e. outcome_mono _ _ (known_grows x) e.1) w.ends sim.shared.outcomes);
      groups = each_mono (Known w.ends []) (Known ((top.path, x) ∷ w.ends) []) (known_grows x) (λ (g : Gathering). Each (λ y. Known w.ends [] (maker y)) g.members) (λ (g : Gathering). Each (λ y. Known ((top.path, x) ∷ w.ends) [] (maker y)) g.members)
          (λ g. each_mono (Known w.ends []) (Known ((top.path, x) ∷ w.ends) []) (known_grows x) (λ y. Known w.ends [] (maker y)) (λ y. Known ((top.path, x) ∷ w.ends) [] (maker y)) (λ y. known_grows x (maker y)) g.members) w.groups sim.shared.groups;
    }

    end_same : (x : Outcome) → end_of p entry (ended w top.path x) x ≡ end_of p entry w x
    end_same (Gave vs) = refl
    end_same (FailedAt n) = refl

    gone_looks : OkTask (Known w.ends []) top.task → (q : Path) → at (assoc (without top.path live)) q ≡ at (expand below) q
    gone_looks h = gone live top.path (top.task, top.taken) (expand below) sim.placed.1 (looks_plain h)

    after_end : Outcome → Order
    after_end x = record { live = without top.path live; world = ended w top.path x; log = log ++ record { path = top.path; action = shown_end x; answer = None } ∷ [] }

    end_taken : (x : Outcome) → next p top.task ≡ Ends x → run p (top.path ∷ []) o ≡ Some (after_end x)
    unfolding after_end
    end_taken x e = one_step top.path o _ (top_step (Ends x) e)

    root_end : (x : Outcome) → top.path ≡ [] → end_in p entry (after_end x) ≡ Some (end_of p entry w x)
    unfolding after_end
    root_end x r =
        ap (λ b. option_map (end_of p entry (ended w top.path x)) (option_map (λ (e : Path × Outcome). e.1) (cond b (Some (top.path, x)) (find (λ e. same_path e.0 []) w.ends)))) (subst (λ q. same_path top.path q ≡ true) r (path_same top.path))
        ∙ ap Some (end_same x)

    ends_case : (x : Outcome) → next p top.task ≡ Ends x → OkTask (Known w.ends []) top.task → OkOutcome (Known w.ends []) x → Comes (finishes p entry s top below x) o
    unfolding Comes after_end
    ends_case x e h k = by_below below refl where
      by_below : (b : List Running) → below ≡ b → Comes (finishes p entry s top b x) o
      by_below [] i = λ is_end. record {
        order = top.path ∷ [];
        last = after_end x;
        comes = end_taken x e;
        finished = none_left (without top.path live) (λ q. gone_looks h q ∙ ap (λ b. at (expand b) q) i);
        shown_so = shown_more (shown_end x) None;
        ends = root_end x (subst (λ b. Rooted (top ∷ b)) i sim.rooted);
      }
      by_below (r ∷ b) i = record {
        order = top.path ∷ [];
        live = without top.path live;
        log = log ++ record { path = top.path; action = shown_end x; answer = None } ∷ [];
        comes = end_taken x e;
        sim = record {
          looks = λ q. gone_looks h q ∙ ap (λ b. at (expand b) q) i;
          shown_so = shown_more (shown_end x) None;
          placed = subst Placed i sim.placed.2;
          ok = subst (λ b. OkStack ((top.path, x) ∷ w.ends) [] b) i (stack_popped w.ends top.path x [] below sim.ok.1);
          shared = shared_ended x k;
          rooted = subst (λ b. Rooted (top ∷ b)) i sim.rooted;
        };
      }

    -- ---- the top task takes an action that makes no task

    app_nil : {X : Type 0} (xs : List X) → xs ++ [] ≡ xs
    app_nil [] = refl
    app_nil (x ∷ xs) = ap (λ ys. x ∷ ys) (app_nil xs)

    -- where the top task, behind the answer, is this one
    acted : (a : Ask) (t : Task) → made_by top.path (top.taken + 1) a ≡ [] → launched top.path (top.taken + 1) a ≡ [] → enabled w top.path top.taken a ≡ true →
        (step_is : steps_to p o l (next p top.task) ≡ Some (acts p o l a (answer w top.path top.taken a))) →
        told (next p top.task) top.task (answer w top.path top.taken a) ≡ t →
        (goes : Answer → Task) → goes (answer w top.path top.taken a) ≡ t →
        ((q : Path) → at (assoc live) q ≡ at ((top.path, (top.task, top.taken)) ∷ expand below) q) →
        OkTask (Known w.ends []) t → OkWorld (after w top.path top.taken a) → Comes (takes s top below a goes) o
    unfolding Comes
    acted a t m n c step_is told_is goes goes_is looked k sh =
        let r : Answer = answer w top.path top.taken a in
        let w' : World = after w top.path top.taken a in
        let top' : Running = record { path = top.path; taken = top.taken + 1; begun = 0; task = goes r } in
        let live' : List Live = replaced (moved p l r (top.taken + 1)) live in
        let log' : List Event = log ++ record { path = top.path; action = shown a; answer = r } ∷ [] in
        let ok' : OkTask (Known w.ends []) (goes r) = subst (OkTask (Known w.ends [])) (sym goes_is) k in
        let base : Sim (record { stack = top' ∷ below; world = w'; trace = tr ++ shows top.path (shown a) ∷ [] }) live' log' = record {
          looks = λ q. changed live (moved p l r (top.taken + 1)) top.path (top.task, top.taken) (goes r, top.taken + 1) (expand below) refl (ap (λ t. (t, top.taken + 1)) (told_is ∙ sym goes_is)) looked q
              ∙ ap (λ xs. at xs q) (sym (plain (Known w.ends []) top' below ok'));
          shown_so = shown_more (shown a) r;
          placed = sim.placed;
          ok = subst (λ es. OkStack es [] (top' ∷ below)) (sym (ends_after w top.path top.taken a)) (inl ok', sim.ok.1);
          shared = sh;
          rooted = rooted_top top top' below refl sim.rooted;
        } in
        record {
          order = top.path ∷ [];
          live = live' ++ made_by top.path (top.taken + 1) a;
          log = log';
          comes = one_step top.path o _ (top_step (next p top.task) refl ∙ step_is);
          sim = subst (λ ls. Sim (record { stack = ls ++ top' ∷ below; world = w'; trace = tr ++ shows top.path (shown a) ∷ [] }) (live' ++ made_by top.path (top.taken + 1) a) log') (sym n)
              (subst (λ ms. Sim (record { stack = top' ∷ below; world = w'; trace = tr ++ shows top.path (shown a) ∷ [] }) ms log') (sym (ap (λ ms. live' ++ ms) m ∙ app_nil live')) base);
        }

    -- ---- the top task launches a task

    or_none : (x : Option V) → or x None ≡ x
    or_none None = refl
    or_none (Some v) = refl

    in_front : (xs : List (Path × V)) (c : Path) (v : V) (q : Path) → at xs c ≡ None → or (at xs q) (at ((c, v) ∷ []) q) ≡ at ((c, v) ∷ xs) q
    in_front xs c v q n = split (same_path c q) refl where
      split : (b : Bool) → same_path c q ≡ b → or (at xs q) (at ((c, v) ∷ []) q) ≡ at ((c, v) ∷ xs) q
      split true e =
          let same : c ≡ q = path_yes c q e in
          ap (λ x. or x (at ((c, v) ∷ []) q)) (subst (λ q. at xs q ≡ None) same n) ∙ (cond_true (same_path c q) (Some v) None e ∙ sym (cond_true (same_path c q) (Some v) (at xs q) e))
      split false e =
          ap (λ x. or (at xs q) x) (cond_false (same_path c q) (Some v) None None e refl) ∙ (or_none (at xs q) ∙ sym (cond_false (same_path c q) (Some v) (at xs q) (at xs q) e refl))

    -- the lists of a task behind the top one are as low as it
    low_with : (n : ℕ) (v : V) → length top.path ≤ n → Low n ((top.path, v) ∷ expand below)
    unfolding Low
    low_with n v h q w' e = split (same_path top.path q) refl where
      split : (b : Bool) → same_path top.path q ≡ b → length q ≤ n
      split true i = let same : length top.path ≡ length q = ap length (path_yes top.path q i) in omega (arith, h, same)
      split false i = let l : length q ≤ length top.path = sim.placed.0 q w' (sym (cond_false (same_path top.path q) (Some v) (at (expand below) q) (at (expand below) q) i refl) ∙ e) in omega (arith, h, l)

    launch_case : (n : ℕ) (c : Task) (r : ℕ) (xs : List ValueNo) (t : Task) → next p top.task ≡ Asks n (Launches c r) xs t → OkTask (Known w.ends []) top.task → OkTask (Known w.ends []) c → OkTask (Known w.ends []) t →
        Comes (takes s top below (Launches c r) (resumed n xs t)) o
    unfolding Comes
    launch_case n c r xs t e h kc kt =
        let a : Ask = Launches c r in
        let answered : Answer = answer w top.path top.taken a in
        let child : Path = launched_by top.path (top.taken + 1) in
        let t' : Task = resumed n xs t answered in
        let top' : Running = record { path = top.path; taken = top.taken + 1; begun = 0; task = t' } in
        let moved_live : List Live = replaced (moved p l answered (top.taken + 1)) live in
        let log' : List Event = log ++ record { path = top.path; action = shown a; answer = answered } ∷ [] in
        let known : (q : Path) → Known w.ends [] q → Known w.ends (child ∷ []) q = λ q. known_more w.ends child [] q in
        let ok' : OkTask (Known w.ends (child ∷ [])) t' = resumed_ok (Known w.ends (child ∷ [])) n xs t answered (task_mono _ _ known t kt) (answer_ok w top.path top.taken a sim.shared) in
        let longer : length child ≡ length top.path + 1 = launched_length top.path (top.taken + 1) in
        let stack_is : expand (top' ∷ below) ≡ (top.path, (t', top.taken + 1)) ∷ expand below = plain (Known w.ends (child ∷ [])) top' below ok' in
        let low : Low (length child) ((top.path, (t', top.taken + 1)) ∷ expand below) = low_with (length child) (t', top.taken + 1) (omega (arith, longer)) in
        let new : at ((top.path, (t', top.taken + 1)) ∷ expand below) child ≡ None = low_none (length top.path) _ child (low_with (length top.path) (t', top.taken + 1) (omega arith)) (omega (arith, longer)) in
        record {
          order = top.path ∷ [];
          live = moved_live ++ newly child c ∷ [];
          log = log';
          comes = one_step top.path o _ (top_step (Asks n a xs t) e);
          sim = record {
            looks = λ q.
                ap (λ ys. at ys q) (map-append (λ (l : Live). (l.path, (l.task, l.taken))) moved_live (newly child c ∷ []))
                ∙ (at_append (assoc moved_live) ((child, (c, 0)) ∷ []) q
                ∙ (ap (λ x. or x (at ((child, (c, 0)) ∷ []) q)) (changed live (moved p l answered (top.taken + 1)) top.path (top.task, top.taken) (t', top.taken + 1) (expand below) refl (ap (λ m. (told m top.task answered, top.taken + 1)) e) (looks_plain h) q)
                ∙ (in_front ((top.path, (t', top.taken + 1)) ∷ expand below) child (c, 0) q new
                ∙ (ap (λ ys. at ((child, (c, 0)) ∷ ys) q) (sym stack_is)
                ∙ ap (λ ys. at ys q) (sym (plain (Known w.ends []) (born child c) (top' ∷ below) kc))))));
            shown_so = shown_more (shown a) answered;
            placed = (subst (Low (length child)) (sym stack_is) low, ap (λ ys. at ys child) stack_is ∙ new, sim.placed);
            ok = (inl kc, (inl ok', stack_more w.ends child (top.path ∷ []) below sim.ok.1));
            shared = sim.shared;
            rooted = rooted_top top top' below refl sim.rooted;
          };
        }

    -- ---- the top task enters a parallel loop

    or_swap : (x y : Option V) → ((v : V) → y ≡ Some v → x ≡ None) → or x y ≡ or y x
    or_swap None None h = refl
    or_swap None (Some v) h = refl
    or_swap (Some v) None h = refl
    or_swap (Some v) (Some w') h = absurd (none≢some v (sym (h w' refl)))

    enter_case : (n : ℕ) (loop : Loop) (xs : List ValueNo) (t : Task) → next p top.task ≡ Asks n (Enters loop) xs t → OkTask (Known w.ends []) top.task → OkJoining (Known w.ends []) loop t →
        Comes (takes s top below (Enters loop) (resumed n xs t)) o
    unfolding Comes
    enter_case n loop xs t e h kt =
        let a : Ask = Enters loop in
        let k : ℕ = top.taken + 1 in
        let t' : Task = bound xs [] t in
        let top' : Running = record { path = top.path; taken = k; begun = 0; task = t' } in
        let moved_live : List Live = replaced (moved p l (Some []) k) live in
        let log' : List Event = log ++ record { path = top.path; action = shown a; answer = Some [] } ∷ [] in
        let all : List (Path × V) = its top.path k loop 0 loop.total in
        let none_less : loop.total - 0 ≡ loop.total = omega arith in
        let stack_is : expand (top' ∷ below) ≡ (top.path, (t', k)) ∷ (all ++ expand below) =
        ap (λ ps. (top.path, (t', k)) ∷ (pend_of top.path k 0 ps ++ expand below)) kt.pending ∙ ap (λ m. (top.path, (t', k)) ∷ (its top.path k loop 0 m ++ expand below)) none_less in
        let apart : (q : Path) (v : V) → at all q ≡ Some v → at ((top.path, (t', k)) ∷ expand below) q ≡ None = λ q v i. (
        let far : length q ≡ length top.path + 2 = its_length top.path k loop 0 loop.total q v i in
        low_none (length top.path) _ q (low_with (length top.path) (t', k) (omega arith)) (omega (arith, far))) in
        record {
          order = top.path ∷ [];
          live = moved_live ++ map (λ i. newly (iteration_of top.path k i) (iteration loop i)) (numbers_from 0 loop.total);
          log = log';
          comes = one_step top.path o _ (top_step (Asks n a xs t) e);
          sim = record {
            looks = λ q.
                ap (λ ys. at ys q) (map-append (λ (l : Live). (l.path, (l.task, l.taken))) moved_live _)
                ∙ (at_append (assoc moved_live) _ q
                ∙ (ap (λ ys. or (at (assoc moved_live) q) (at ys q)) (made_its top.path k loop 0 loop.total)
                ∙ (ap (λ x. or x (at all q)) (changed live (moved p l (Some []) k) top.path (top.task, top.taken) (t', k) (expand below) refl (ap (λ m. (told m top.task (Some []), k)) e) (looks_plain h) q)
                ∙ (or_swap (at ((top.path, (t', k)) ∷ expand below) q) (at all q) (apart q)
                ∙ (sym (at_append all ((top.path, (t', k)) ∷ expand below) q)
                ∙ (pulled all (top.path) (t', k) (expand below) q (its_apart top.path k loop 0 loop.total) ∙ ap (λ ys. at ys q) (sym stack_is)))))));
            shown_so = shown_more (shown a) (Some []);
            placed = sim.placed;
            ok = (inr (record { loop = loop; joins = record { at = kt.at; pending = kt.pending; frames = kt.frames; env = ok_bind (Known w.ends []) xs [] t.scope.env kt.env tt; inside = kt.inside }; ended = λ i m. absurd (omega (arith, m)) }), sim.ok.1);
            shared = sim.shared;
            rooted = rooted_top top top' below refl sim.rooted;
          };
        }

    -- ---- any action

    stops_no_end : (a : Ask) (e : SourceEnd) → stops w a ≡ Some e → IsEnd e → ⊥
    stops_no_end (Reads b i) e h k = none≢some e h
    stops_no_end (Writes b i n) e h k = none≢some e h
    stops_no_end (Allocs dims) e h k = no_end_if (nat_le (w.used + product dims) most_cells) (Cells w.used) e (λ i. i) h k
    stops_no_end (Creates n) e h k = none≢some e h
    stops_no_end (Adds g x used) e h k = no_end_if (nat_lt (length (members w g)) (size w g)) (Overfull g (size w g)) e (λ i. i) h k
    stops_no_end (Launches t r) e h k = none≢some e h
    stops_no_end (Enters loop) e h k = none≢some e h
    stops_no_end (JoinsAll loop) e h k = none≢some e h
    stops_no_end (AwaitsOne x) e h k = none≢some e h
    stops_no_end (AwaitsAll g) e h k = no_end_unless (nat_lt (length (members w g)) (size w g)) (Short g (length (members w g)) (size w g)) e (λ i. i) h k

    plain_act : (n : ℕ) (a : Ask) (xs : List ValueNo) (t : Task) → made_by top.path (top.taken + 1) a ≡ [] → launched top.path (top.taken + 1) a ≡ [] → above_of top.path (top.taken + 1) a ≡ [] →
        next p top.task ≡ Asks n a xs t → OkTask (Known w.ends []) top.task → OkAsk (Known w.ends []) a → OkThen (Known w.ends []) a t → OkTask (Known w.ends []) t → stops w a ≡ None →
        Comes (takes s top below a (resumed n xs t)) o
    plain_act n a xs t m ls ab e h ka kt k st =
        let can : enabled w top.path top.taken a ≡ true = can_take w top.path top.taken a t ka kt sim.shared st in
        acted a (resumed n xs t (answer w top.path top.taken a)) m ls can
        (ap (steps_to p o l) e ∙ cond_true (enabled w top.path top.taken a) (Some (acts p o l a (answer w top.path top.taken a))) None can)
        (ap (λ m. told m top.task (answer w top.path top.taken a)) e) (resumed n xs t) refl (looks_plain h)
        (resumed_ok (Known w.ends []) n xs t (answer w top.path top.taken a) k (subst (λ as'. IfSome (answer w top.path top.taken a) (OkVals (Known w.ends as'))) ab (answer_ok w top.path top.taken a sim.shared)))
        (world_after w top.path top.taken a ka sim.shared)

    action_case : (n : ℕ) (a : Ask) (xs : List ValueNo) (t : Task) → next p top.task ≡ Asks n a xs t → OkTask (Known w.ends []) top.task → OkAsk (Known w.ends []) a → OkThen (Known w.ends []) a t → stops w a ≡ None →
        Comes (takes_or_begins s top below a (resumed n xs t) (begins_next top a)) o
    action_case n (Reads b i) xs t e h ka kt st = plain_act n (Reads b i) xs t refl refl refl e h ka kt kt st
    action_case n (Writes b i m) xs t e h ka kt st = plain_act n (Writes b i m) xs t refl refl refl e h ka kt kt st
    action_case n (Allocs dims) xs t e h ka kt st = plain_act n (Allocs dims) xs t refl refl refl e h ka kt kt st
    action_case n (Creates m) xs t e h ka kt st = plain_act n (Creates m) xs t refl refl refl e h ka kt kt st
    action_case n (Adds g x used) xs t e h ka kt st = plain_act n (Adds g x used) xs t refl refl refl e h ka kt kt st
    action_case n (Launches c r) xs t e h ka kt st = launch_case n c r xs t e h ka kt
    action_case n (Enters loop) xs t e h ka kt st = enter_case n loop xs t e h kt
    action_case n (JoinsAll loop) xs t e h ka kt st = absurd kt
    action_case n (AwaitsOne x) xs t e h ka kt st = plain_act n (AwaitsOne x) xs t refl refl refl e h ka kt kt st
    action_case n (AwaitsAll g) xs t e h ka kt st = plain_act n (AwaitsAll g) xs t refl refl refl e h ka kt kt st

    asks_case : (n : ℕ) (a : Ask) (xs : List ValueNo) (t : Task) → next p top.task ≡ Asks n a xs t → OkTask (Known w.ends []) top.task → OkAsk (Known w.ends []) a → OkThen (Known w.ends []) a t → (x : Option SourceEnd) → stops w a ≡ x →
        Comes (unless_stopped x tr (takes_or_begins s top below a (resumed n xs t) (begins_next top a))) o
    unfolding Comes
    asks_case n a xs t e h ka kt None st = action_case n a xs t e h ka kt st
    asks_case n a xs t e h ka kt (Some x) st = λ is_end. absurd (stops_no_end a x st is_end)

    next_case : (n : Next) → next p top.task ≡ n → OkTask (Known w.ends []) top.task → OkNext (Known w.ends []) n → Comes (moves_to p entry s top below n) o
    next_case (Goes t) e h k = goes_case t e h k
    next_case (Asks n a xs t) e h k = asks_case n a xs t e h k.0 k.1 (stops w a) refl
    next_case (Ends x) e h k = ends_case x e h k

    -- ---- the top task waits for the iterations of a loop

    low_cons : (n : ℕ) (c : Path) (v : V) (xs : List (Path × V)) → length c ≤ n → Low n xs → Low n ((c, v) ∷ xs)
    unfolding Low
    low_cons n c v xs h k q w' e = split (same_path c q) refl where
      split : (b : Bool) → same_path c q ≡ b → length q ≤ n
      split true i = let same : length c ≡ length q = ap length (path_yes c q i) in omega (arith, h, same)
      split false i = k q w' (sym (cond_false (same_path c q) (Some v) (at xs q) (at xs q) i refl) ∙ e)

    low_append : (n : ℕ) (xs ys : List (Path × V)) → Low n xs → Low n ys → Low n (xs ++ ys)
    unfolding Low
    low_append n xs ys h k q v e = split (at xs q) refl (sym (at_append xs ys q) ∙ e) where
      split : (x : Option V) → at xs q ≡ x → or (at xs q) (at ys q) ≡ Some v → length q ≤ n
      split None i j = k q v (sym (ap (λ x. or x (at ys q)) i) ∙ j)
      split (Some x) i j = h q x i

    low_more : (m n : ℕ) (xs : List (Path × V)) → m ≤ n → Low m xs → Low n xs
    unfolding Low
    low_more m n xs l h q v e = omega (arith, l, h q v e)

    numbers_ok : (P : Path → Type 0) (ns : List ℕ) → OkVals P (map Number ns)
    numbers_ok P [] = tt
    numbers_ok P (n ∷ ns) = (tt, numbers_ok P ns)

    all_true : (test : ℕ → Bool) (n : ℕ) → ((i : ℕ) → i < n → test i ≡ true) → all_below test n ≡ true
    all_true test zero h = refl
    all_true test (suc n) h = rw (h n (omega arith)) (all_true test n (λ i l. h i (omega (arith, l))))

    unless_two : (b : Bool) → (unless_failed b ≡ Some []) ⊎ (unless_failed b ≡ None)
    unless_two true = inl refl
    unless_two false = inr refl

    module _ (j : JoinsIn (Known w.ends []) top) where
      abbrev waits : Task
      waits = record top.task { pending = [] }

      join_next : next p top.task ≡ Asks j.joins.at (JoinsAll j.loop) [] waits
      join_next = ap (λ ps. next_pending p ps top.task) j.joins.pending

      join_taken : nat_lt top.begun j.loop.total ≡ false → Comes (takes s top below (JoinsAll j.loop) (resumed j.joins.at [] waits)) o
      unfolding its
      join_taken e =
          let a : Ask = JoinsAll j.loop in
          let done : j.loop.total ≤ top.begun = ltb-false top.begun j.loop.total e in
          let can : enabled w top.path top.taken a ≡ true = all_true (λ i. has_ended w (iteration_of top.path top.taken i)) j.loop.total (λ i m. known_ended w.ends (iteration_of top.path top.taken i) (j.ended i (omega (arith, m, done)))) in
          let none_left : j.loop.total - top.begun ≡ 0 = omega (arith, done) in
          let stack_is : expand (top ∷ below) ≡ (top.path, (top.task, top.taken)) ∷ expand below =
          ap (λ ps. (top.path, (top.task, top.taken)) ∷ (pend_of top.path top.taken top.begun ps ++ expand below)) j.joins.pending ∙ ap (λ m. (top.path, (top.task, top.taken)) ∷ (its top.path top.taken j.loop top.begun m ++ expand below)) none_left in
          acted a (resumed j.joins.at [] waits (answer w top.path top.taken a)) refl refl can
          (ap (steps_to p o l) join_next ∙ cond_true (enabled w top.path top.taken a) (Some (acts p o l a (answer w top.path top.taken a))) None can)
          (ap (λ m. told m top.task (answer w top.path top.taken a)) join_next) (resumed j.joins.at [] waits) refl (λ q. sim.looks q ∙ ap (λ xs. at xs q) stack_is)
          (ok_joined (Known w.ends []) j.joins.at j.loop top.task (answer w top.path top.taken a) j.joins (unless_two (all_below (λ i. is_good (outcome w (iteration_of top.path top.taken i))) j.loop.total)))
          sim.shared

      join_begins : nat_lt top.begun j.loop.total ≡ true → Comes (takes_or_begins s top below (JoinsAll j.loop) (resumed j.joins.at [] waits) (Some (iteration j.loop top.begun))) o
      unfolding Comes its
      join_begins e =
          let i : ℕ = top.begun in
          let it : Path = iteration_of top.path top.taken i in
          let v : V = (top.task, top.taken) in
          let x : V = (iteration j.loop i, 0) in
          let top' : Running = record top { begun = i + 1 } in
          let less : i < j.loop.total = ltb-true i j.loop.total e in
          let count : j.loop.total - i ≡ suc (j.loop.total - (i + 1)) = omega (arith, less) in
          let others : List (Path × V) = its top.path top.taken j.loop (i + 1) (j.loop.total - (i + 1)) ++ expand below in
          let was : expand (top ∷ below) ≡ (top.path, v) ∷ ((it, x) ∷ others) =
          ap (λ ps. (top.path, v) ∷ (pend_of top.path top.taken i ps ++ expand below)) j.joins.pending ∙ ap (λ m. (top.path, v) ∷ (its top.path top.taken j.loop i m ++ expand below)) count in
          let now_is : expand (top' ∷ below) ≡ (top.path, v) ∷ others = ap (λ ps. (top.path, v) ∷ (pend_of top.path top.taken (i + 1) ps ++ expand below)) j.joins.pending in
          let far : length it ≡ length top.path + 2 = iteration_length top.path top.taken i in
          let apart : at ((it, x) ∷ []) top.path ≡ None = cond_false (same_path it top.path) (Some x) None None (other_length it top.path (λ m. absurd (omega (arith, far, m)))) refl in
          let low : Low (length it) ((top.path, v) ∷ others) = low_cons (length it) top.path v others (omega (arith, far))
          (low_append (length it) (its top.path top.taken j.loop (i + 1) (j.loop.total - (i + 1))) (expand below) (low_more (length top.path + 2) (length it) _ (omega (arith, far)) (its_low top.path top.taken j.loop (i + 1) (j.loop.total - (i + 1))))
          (low_more (length top.path) (length it) _ (omega (arith, far)) sim.placed.0)) in
          let new : at ((top.path, v) ∷ others) it ≡ None =
          cond_false (same_path top.path it) (Some v) (at others it) None (other_length top.path it (λ m. absurd (omega (arith, far, m))))
          (at_append (its top.path top.taken j.loop (i + 1) (j.loop.total - (i + 1))) (expand below) it
          ∙ (ap (λ y. or y (at (expand below) it)) (its_other top.path top.taken j.loop (i + 1) (j.loop.total - (i + 1)) i (omega arith)) ∙ low_none (length top.path) (expand below) it sim.placed.0 (omega (arith, far)))) in
          record {
            order = [];
            live = live;
            log = log;
            comes = refl;
            sim = record {
              looks = λ q. sim.looks q ∙ (ap (λ xs. at xs q) was ∙ (sym (pulled ((it, x) ∷ []) top.path v others q apart) ∙ ap (λ xs. at ((it, x) ∷ xs) q) (sym now_is)));
              shown_so = sim.shown_so;
              placed = (subst (Low (length it)) (sym now_is) low, ap (λ xs. at xs it) now_is ∙ new, sim.placed);
              ok = (
                inl (record { pending = tt; frames = tt; env = ok_bind (Known w.ends []) j.loop.params (map Number (variables j.loop.spans i)) j.loop.scope.env j.joins.inside (numbers_ok (Known w.ends []) (variables j.loop.spans i)) }),
                (inr (record { loop = j.loop; joins = joining_mono _ _ (known_more w.ends it []) j.loop top.task j.joins; ended = λ h m. begun_or h m }), stack_more w.ends it (top.path ∷ []) below sim.ok.1),
              );
              shared = sim.shared;
              rooted = rooted_top top top' below refl sim.rooted;
            };
          }
        where
          begun_or : (h : ℕ) → h < top.begun + 1 → Known w.ends (iteration_of top.path top.taken top.begun ∷ []) (iteration_of top.path top.taken h)
          begun_or h m = split (ltb h top.begun) refl where
            split : (b : Bool) → ltb h top.begun ≡ b → Known w.ends (iteration_of top.path top.taken top.begun ∷ []) (iteration_of top.path top.taken h)
            split true e = known_more w.ends (iteration_of top.path top.taken top.begun) [] (iteration_of top.path top.taken h) (j.ended h (ltb-true h top.begun e))
            split false e = let same : top.begun ≡ h = omega (arith, m, ltb-false h top.begun e) in inr (inl (ap (iteration_of top.path top.taken) same))

      join_split : (b : Bool) → nat_lt top.begun j.loop.total ≡ b → Comes (takes_or_begins s top below (JoinsAll j.loop) (resumed j.joins.at [] waits) (cond b (Some (iteration j.loop top.begun)) None)) o
      join_split true e = join_begins e
      join_split false e = join_taken e

      join_case : Comes (moves_to p entry s top below (next p top.task)) o
      join_case = subst (λ n. Comes (moves_to p entry s top below n) o) (sym join_next) (join_split (nat_lt top.begun j.loop.total) refl)

    top_case : OkRun (Known w.ends []) top → Comes (moves_to p entry s top below (next p top.task)) o
    top_case (inl h) = next_case (next p top.task) refl h (ok_next (Known w.ends []) p top.task h)
    top_case (inr j) = join_case j

  move_case : (st : List Running) (w : World) (tr : List TraceEntry) (live : List Live) (log : List Event) → Sim (record { stack = st; world = w; trace = tr }) live log →
      Comes (move p entry (record { stack = st; world = w; trace = tr })) (record { live = live; world = w; log = log })
  unfolding Comes
  move_case [] w tr live log sim = record { order = []; live = live; log = log; comes = refl; sim = sim }
  move_case (top ∷ below) w tr live log sim = top_case w tr top below live log sim sim.ok.0

  -- ---- many steps

  run_more : (qs rs : List Path) (x y : Order) → run p qs x ≡ Some y → run p (qs ++ rs) x ≡ run p rs y
  run_more [] rs x y e = ap (run p rs) (some_inj x y e)
  run_more (q ∷ qs) rs x y e = split (step p q x) refl (λ z. run_more qs rs z y) where
    split : (z : Option Order) → step p q x ≡ z → ((z : Order) → run p qs z ≡ Some y → run p (qs ++ rs) z ≡ run p rs y) → run p (q ∷ (qs ++ rs)) x ≡ run p rs y
    split None f ih = absurd (none≢some y (sym (ap (and_then (run p qs)) f) ∙ e))
    split (Some z) f ih = ap (and_then (run p (qs ++ rs))) f ∙ ih z (sym (ap (and_then (run p qs)) f) ∙ e)

  then_comes : (m : Moved) (x : Order) (s : Sequence) (h : Went s x) → Comes m (record { live = h.live; world = s.world; log = h.log }) → Comes m x
  unfolding Comes
  then_comes (On s') x s h k = record { order = h.order ++ k.order; live = k.live; log = k.log; comes = run_more h.order k.order x _ h.comes ∙ k.comes; sim = k.sim }
  then_comes (Over e trace) x s h k = λ is_end.
      let c : Closes e trace (record { live = h.live; world = s.world; log = h.log }) = k is_end in
      record { order = h.order ++ c.order; last = c.last; comes = run_more h.order c.order x _ h.comes ∙ c.comes; finished = c.finished; shown_so = c.shown_so; ends = c.ends }

  and_comes : (m : Moved) (x : Order) → Comes m x → Comes (and_moves p entry m) x
  unfolding Comes
  and_comes (On s) x h = then_comes (move p entry s) x s h (move_case s.stack s.world s.trace h.live h.log h.sim)
  and_comes (Over e trace) x h = h

  moves_come : (n : ℕ) (s : Sequence) (live : List Live) (log : List Event) → Sim s live log → Comes (moves p entry n s) (record { live = live; world = s.world; log = log })
  unfolding Comes
  moves_come zero s live log sim = record { order = []; live = live; log = log; comes = refl; sim = sim }
  moves_come (suc n) s live log sim = and_comes (moves p entry n s) _ (moves_come n s live log sim)

  arguments_ok : (P : Path → Type 0) (j : ℕ) (args : List ArgValue) → OkVals P (arguments j args)
  arguments_ok P j [] = tt
  arguments_ok P j (arg.Number n ∷ args) = (tt, arguments_ok P (j + 1) args)
  arguments_ok P j (arg.Cells dims cells ∷ args) = (tt, arguments_ok P (j + 1) args)

  first_sim : (args : List ArgValue) → Sim (start p entry args) (first_order p entry args).live []
  unfolding Low
  first_sim args = record {
    looks = λ q. refl;
    shown_so = refl;
    placed = ((λ q v h. absurd (none≢some v h)), refl, tt);
    ok = (inl (record { pending = tt; frames = tt; env = ok_bind (Known [] []) _ (arguments 0 args) [] tt (arguments_ok (Known [] []) 0 args) }), tt);
    shared = record { outcomes = tt; groups = tt };
    rooted = refl;
  }

pub sequential_is_a_run : SequentialIsARun
unfolding Comes
sequential_is_a_run p entry args end trace ends =
    let c : Closes p entry end trace (first_order p entry args) =
    subst (λ m. Comes p entry m (first_order p entry args)) ends.comes (moves_come p entry ends.steps (start p entry args) (first_order p entry args).live [] (first_sim p entry args)) ends.is_end in
    record { last = c.last; reached = record { order = c.order; comes = c.comes }; finished = c.finished; shows = c.shown_so; ends = c.ends }

turn_of : (p : Program) (entry : ℕ) (args : List ArgValue) (s : Sequence) (top : Running) (below : List Running) → s.stack ≡ top ∷ below → Went p entry s (first_order p entry args) → IsTurn p entry args s top
turn_of p entry args s top below e went =
    let looks : at (assoc went.live) top.path ≡ Some (top.task, top.taken) =
    went.sim.looks top.path ∙ (ap (λ st. at (expand st) top.path) e ∙ cond_true (same_path top.path top.path) (Some (top.task, top.taken)) (at (pend_of top.path top.taken top.begun top.task.pending ++ expand below) top.path) (path_same top.path)) in
    let here : Found went.live top.path (top.task, top.taken) = found_at went.live top.path (top.task, top.taken) looks in
    record {
      at = record { live = went.live; world = s.world; log = went.log };
      reached = record { order = went.order; comes = went.comes };
      world = refl;
      shows = went.sim.shown_so;
      live = record { path = top.path; first = here.first; answers = here.answers; task = top.task; taken = top.taken };
      found = here.found;
      path = refl;
      task = refl;
      taken = refl;
    }

pub turns_are_reached : TurnsAreReached
unfolding Comes
turns_are_reached p entry args n s top below comes e =
    turn_of p entry args s top below e
    (subst (λ m. Comes p entry m (first_order p entry args)) comes (moves_come p entry n (start p entry args) (first_order p entry args).live [] (first_sim p entry args)))
