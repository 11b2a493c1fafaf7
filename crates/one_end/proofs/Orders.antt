-- A run whose trace is ordered, by recursion on the run.
use Rattle.std.specs.Prelude.{◌⊎◌, not, ◌&&◌, nat_le, take, slice_get, ltb}
use mathlib.Core.Logic.{inl, inr}
use Rattle.std.proofs.Common.{◌≡◌, ◌<◌, ◌≤◌, ℕ, zero, suc, ◌+◌, Bool, true, false, cond, List, [], ◌∷◌, ◌++◌, length, Option, Some, None, refl, sym, ap, ◌∙◌, arith}
use Rattle.std.proofs.lemmas.List.{length-append, append-nil}
use Rattle.std.proofs.lemmas.Bool.{true≢false, ltb-true, ltb-false, leb-true}
use Rattle.std.proofs.lemmas.Option.{slice_get_past}
use Rattle.ir_forms.specs.declared.names.TraceEntry.{TraceEntry}
use Rattle.ir_forms.specs.Names.{Path, same_path}
use Rattle.race_order.specs.Known.{Counts, Sight, after_entry, after_entries, knows_nothing}
use Rattle.race_order.specs.Known as trace
use Rattle.race_order.specs.Race.{in_conflict, entries_of, is_known, are_racing, races, IsOrdered}
use Rattle.one_end.specs.Runs.{Event, Log, taken, entry_of, trace_of}
use Rattle.one_end.proofs.Basics.{path_cases, here, there, Older, older_same_list, older_tail, append_assoc_lem}
use Rattle.one_end.proofs.Histories.{taken_own, taken_other}

-- ---- lists

take_front : {X : Type 0} (xs ys : List X) → take (length xs) (xs ++ ys) ≡ xs
take_front [] ys = refl
take_front (x ∷ xs) ys = ap (λ t. x ∷ t) (take_front xs ys)

get_at : {X : Type 0} (xs : List X) (y : X) (ys : List X) → slice_get (xs ++ y ∷ ys) (length xs) ≡ Some y
get_at [] y ys = refl
get_at (x ∷ xs) y ys = get_at xs y ys

get_front : {X : Type 0} (xs ys : List X) (i : ℕ) → i < length xs → slice_get (xs ++ ys) i ≡ slice_get xs i
get_front [] ys i l = absurd (omega (arith, l))
get_front (x ∷ xs) ys zero l = refl
get_front (x ∷ xs) ys (suc i) l = get_front xs ys i (omega (arith, l))

take_within : {X : Type 0} (xs ys : List X) (i : ℕ) → i ≤ length xs → take i (xs ++ ys) ≡ take i xs
take_within xs ys zero l = refl
take_within [] ys (suc i) l = absurd (omega (arith, l))
take_within (x ∷ xs) ys (suc i) l = ap (λ t. x ∷ t) (take_within xs ys i (omega (arith, l)))

-- ---- a trace and what it began as

after_snoc : (trace : List TraceEntry) (e : TraceEntry) (s : Sight) → after_entries (trace ++ e ∷ []) s ≡ after_entry e (after_entries trace s)
after_snoc [] e s = refl
after_snoc (x ∷ trace) e s = after_snoc trace e (after_entry x s)

entries_snoc : (p : Path) (trace : List TraceEntry) (e : TraceEntry) → entries_of p (trace ++ e ∷ []) ≡ cond (same_path e.task p) (suc (entries_of p trace)) (entries_of p trace)
entries_snoc p [] e = refl
entries_snoc p (x ∷ trace) e = split (same_path x.task p) (same_path e.task p) (entries_snoc p trace e) where
  split : (s t : Bool) → entries_of p (trace ++ e ∷ []) ≡ cond t (suc (entries_of p trace)) (entries_of p trace) → cond s (suc (entries_of p (trace ++ e ∷ []))) (entries_of p (trace ++ e ∷ [])) ≡ cond t (suc (cond s (suc (entries_of p trace)) (entries_of p trace))) (cond s (suc (entries_of p trace)) (entries_of p trace))
  split true true h = ap suc h
  split true false h = ap suc h
  split false true h = h
  split false false h = h

races_front : (front more : List TraceEntry) (i j : ℕ) → i < j → j < length front → races (front ++ more) i j ≡ races front i j
races_front front more i j l m =
    ap (λ o. are_racing (front ++ more) i o j (slice_get (front ++ more) j)) (get_front front more i (omega (arith, l, m)))
    ∙ (ap (λ o. are_racing (front ++ more) i (slice_get front i) j o) (get_front front more j m)
    ∙ same (slice_get front i) (slice_get front j)) where
      known_same : (d e : TraceEntry) → is_known (front ++ more) i d j e ≡ is_known front i d j e
      known_same d e = ap (λ t. nat_le (entries_of d.task t) (trace.known (take j (front ++ more)) e.task d.task)) (take_within front more (i + 1) (omega (arith, l, m))) ∙ ap (λ t. nat_le (entries_of d.task (take (i + 1) front)) (trace.known t e.task d.task)) (take_within front more j (omega (arith, m)))

      same : (x y : Option TraceEntry) → are_racing (front ++ more) i x j y ≡ are_racing front i x j y
      same (Some d) (Some e) = ap (λ t. in_conflict d e && not t) (known_same d e)
      same (Some d) None = refl
      same None (Some e) = refl
      same None None = refl

races_past : (trace : List TraceEntry) (i j : ℕ) → length trace ≤ j → races trace i j ≡ false
races_past trace i j l = ap (are_racing trace i (slice_get trace i) j) (slice_get_past trace j l) ∙ lost (slice_get trace i) where
  lost : (x : Option TraceEntry) → are_racing trace i x j None ≡ false
  lost None = refl
  lost (Some e) = refl

ordered_front : (front more : List TraceEntry) → IsOrdered (front ++ more) → IsOrdered front
ordered_front front more o i j l = split (ltb j (length front)) refl where
  split : (t : Bool) → ltb j (length front) ≡ t → races front i j ≡ false
  split true e = sym (races_front front more i j l (ltb-true j (length front) e)) ∙ o i j l
  split false e = races_past front i j (ltb-false j (length front) e)

module _ {D V : Type 0} where
  -- what is known after a run
  abbrev pub sight : Log D V → Sight
  sight [] = knows_nothing
  sight (e ∷ log) = after_entry (entry_of e) (sight log)

  -- what a task knows
  abbrev pub known : Log D V → Path → Counts
  known log p = (sight log).knows p

  -- by what it knows, a task knows each of these that is in conflict with the entry
  abbrev pub AreKnown : Counts → TraceEntry → Log D V → Type 0
  AreKnown knows e [] = Unit {0}
  AreKnown knows e (d ∷ log) = (in_conflict (entry_of d) e ≡ true → suc (taken log d.task) ≤ knows d.task) × AreKnown knows e log

  -- each entry's task knows, just before, the earlier ones in conflict with it
  abbrev pub InOrder : Log D V → Type 0
  InOrder [] = Unit {0}
  InOrder (e ∷ log) = AreKnown (known log e.task) (entry_of e) log × InOrder log

  sight_of : (log : Log D V) → after_entries (trace_of log) knows_nothing ≡ sight log
  sight_of [] = refl
  sight_of (e ∷ log) = after_snoc (trace_of log) (entry_of e) knows_nothing ∙ ap (after_entry (entry_of e)) (sight_of log)

  entries_taken : (p : Path) (log : Log D V) → entries_of p (trace_of log) ≡ taken log p
  entries_taken p [] = refl
  entries_taken p (e ∷ log) = entries_snoc p (trace_of log) (entry_of e) ∙ split (path_cases e.task p) (entries_taken p log) where
    split : (e.task ≡ p) ⊎ (e.task ≡ p → ⊥) → entries_of p (trace_of log) ≡ taken log p → cond (same_path e.task p) (suc (entries_of p (trace_of log))) (entries_of p (trace_of log)) ≡ taken (e ∷ log) p
    split (inl h) k = here e.task p (suc (entries_of p (trace_of log))) (entries_of p (trace_of log)) h ∙ (ap suc k ∙ sym (taken_own e log p h))
    split (inr n) k = there e.task p (suc (entries_of p (trace_of log))) (entries_of p (trace_of log)) n ∙ (k ∙ sym (taken_other e log p n))

  trace_front : (b f : Log D V) → (more : List TraceEntry) × (trace_of (b ++ f) ≡ trace_of f ++ more)
  trace_front [] f = ([], sym (append-nil (trace_of f)))
  trace_front (e ∷ b) f = let rest = trace_front b f in (rest.0 ++ entry_of e ∷ [], ap (λ t. t ++ entry_of e ∷ []) rest.1 ∙ append_assoc_lem (trace_of f) rest.0 (entry_of e ∷ []))

  front_of : (f log : Log D V) → Older f log → (more : List TraceEntry) × (trace_of log ≡ trace_of f ++ more)
  front_of f log o = let rest = trace_front o.0 f in (rest.0, ap trace_of o.1 ∙ rest.1)

  known_earlier : (e : Event D V) (log : Log D V) → IsOrdered (trace_of (e ∷ log)) → (d : Event D V) (g : Log D V) → Older (d ∷ g) log → in_conflict (entry_of d) (entry_of e) ≡ true → suc (taken g d.task) ≤ known log e.task d.task
  known_earlier e log ordered d g o conflict = leb-true (suc (taken g d.task)) (known log e.task d.task) (sym counts ∙ is_yes) where
    t : List TraceEntry
    t = trace_of (e ∷ log)

    i : ℕ
    i = length (trace_of g)

    j : ℕ
    j = length (trace_of log)

    rest : (more : List TraceEntry) × (trace_of log ≡ trace_of (d ∷ g) ++ more)
    rest = front_of (d ∷ g) log o

    whole : t ≡ trace_of (d ∷ g) ++ (rest.0 ++ entry_of e ∷ [])
    whole = ap (λ z. z ++ entry_of e ∷ []) rest.1 ∙ append_assoc_lem (trace_of (d ∷ g)) rest.0 (entry_of e ∷ [])

    at_i : slice_get t i ≡ Some (entry_of d)
    at_i = ap (λ z. slice_get z i) (whole ∙ append_assoc_lem (trace_of g) (entry_of d ∷ []) (rest.0 ++ entry_of e ∷ [])) ∙ get_at (trace_of g) (entry_of d) (rest.0 ++ entry_of e ∷ [])

    at_j : slice_get t j ≡ Some (entry_of e)
    at_j = get_at (trace_of log) (entry_of e) []

    before : i < j
    before = omega (arith, ap length rest.1, length-append (trace_of (d ∷ g)) rest.0, length-append (trace_of g) (entry_of d ∷ []))

    not_racing : in_conflict (entry_of d) (entry_of e) && not (is_known t i (entry_of d) j (entry_of e)) ≡ false
    not_racing = sym (ap (λ o. are_racing t i o j (slice_get t j)) at_i ∙ ap (are_racing t i (Some (entry_of d)) j) at_j) ∙ ordered i j before

    is_yes : is_known t i (entry_of d) j (entry_of e) ≡ true
    is_yes = split (is_known t i (entry_of d) j (entry_of e)) refl where
      split : (s : Bool) → is_known t i (entry_of d) j (entry_of e) ≡ s → s ≡ true
      split true q = refl
      split false q = absurd (true≢false (sym (ap (λ z. z && not (is_known t i (entry_of d) j (entry_of e))) conflict ∙ ap not q) ∙ not_racing))

    place : i + 1 ≡ length (trace_of (d ∷ g))
    place = omega (arith, length-append (trace_of g) (entry_of d ∷ []))

    taken_i : take (i + 1) t ≡ trace_of (d ∷ g)
    taken_i = ap (λ n. take n t) place ∙ (ap (take (length (trace_of (d ∷ g)))) whole ∙ take_front (trace_of (d ∷ g)) (rest.0 ++ entry_of e ∷ []))

    counts : is_known t i (entry_of d) j (entry_of e) ≡ nat_le (suc (taken g d.task)) (known log e.task d.task)
    counts = ap (λ z. nat_le (entries_of d.task z) (trace.known (take j t) e.task d.task)) taken_i ∙ (ap (λ n. nat_le n (trace.known (take j t) e.task d.task)) (entries_taken d.task (d ∷ g) ∙ taken_own d g d.task refl) ∙ (ap (λ z. nat_le (suc (taken g d.task)) (trace.known z e.task d.task)) (take_front (trace_of log) (entry_of e ∷ [])) ∙ ap (λ (s : Sight). nat_le (suc (taken g d.task)) (s.knows e.task d.task)) (sight_of log)))

  are_known : (e : Event D V) (log : Log D V) → IsOrdered (trace_of (e ∷ log)) → (g : Log D V) → Older g log → AreKnown (known log e.task) (entry_of e) g
  are_known e log ordered [] o = tt
  are_known e log ordered (d ∷ g) o = (known_earlier e log ordered d g o, are_known e log ordered g (older_tail d g log o))

  pub in_order : (log : Log D V) → IsOrdered (trace_of log) → InOrder log
  in_order [] o = tt
  in_order (e ∷ log) o = (are_known e log o log (older_same_list log), in_order log (ordered_front (trace_of log) (entry_of e ∷ []) o))
