-- Marks of the functions that tasks call.
use Rattle.std.proofs.Common.{◌≡◌, ◌⊎◌, inl, inr, ℕ, zero, suc, ◌+◌, ◌<◌, ◌||◌, if◌then◌else◌, Bool, true, false, List, [], ◌∷◌, ◌++◌, length, ◌≤◌, get_or, Option, Some, None, refl, sym, ap, ◌∙◌, arith, subst, length-append}
use Rattle.std.specs.Prelude.{slice_get, slice_set}
use Rattle.std.proofs.lemmas.Bool.Decides.{eqb_tells}
use Rattle.std.proofs.lemmas.Option.{slice_get_within, slice_get_read}
use Rattle.std.proofs.Math.ListN.{length-set}
use Rattle.ir_verify.specs.declared.calls.Call.{Call}
use Rattle.ir_verify.specs.Calls.{IsReached, from_task, through, is_unmarked, Marked, with_mark, with_callees, AreMarks}
use Rattle.ir_verify.proofs.ScopeLemmas.{get_front, get_set, get_set_other}

-- how many functions have no mark
abbrev pub unmarked : List Bool → ℕ
unmarked [] = 0
unmarked (true ∷ marks) = unmarked marks
unmarked (false ∷ marks) = suc (unmarked marks)

-- how many marks can still be given and followed
abbrev pub ahead : Marked → ℕ
ahead m = unmarked m.marks + length m.waiting

one_less : (marks : List Bool) (k : ℕ) → is_unmarked (slice_get marks k) ≡ true → unmarked (slice_set marks k true) + 1 ≡ unmarked marks
one_less [] k free = cc
one_less (true ∷ marks) zero free = cc
one_less (false ∷ marks) zero free = omega arith
one_less (true ∷ marks) (suc k) free = one_less marks k free
one_less (false ∷ marks) (suc k) free = omega (arith, one_less marks k free)

free_within : (marks : List Bool) (k : ℕ) → is_unmarked (slice_get marks k) ≡ true → k < length marks
free_within [] k free = cc
free_within (b ∷ marks) zero free = omega arith
free_within (b ∷ marks) (suc k) free = omega (arith, free_within marks k free)

marked_within : (marks : List Bool) (k : ℕ) → k < length marks → is_unmarked (slice_get marks k) ≡ false → slice_get marks k ≡ Some true
marked_within [] k inside closed = absurd (omega arith)
marked_within (true ∷ marks) zero inside closed = refl
marked_within (false ∷ marks) zero inside closed = cc
marked_within (b ∷ marks) (suc k) inside closed = marked_within marks k (omega arith) closed

not_free : (o : Option Bool) → o ≡ Some true → is_unmarked o ≡ false
not_free None is = cc
not_free (Some true) is = refl
not_free (Some false) is = cc

at_end : (xs : List ℕ) (x : ℕ) → slice_get (xs ++ x ∷ []) (length xs) ≡ Some x
at_end [] x = refl
at_end (y ∷ xs) x = at_end xs x

last_or : (xs : List ℕ) (x i j : ℕ) → slice_get (xs ++ x ∷ []) i ≡ Some j → (slice_get xs i ≡ Some j) ⊎ (x ≡ j)
last_or [] x zero j at = let same : x ≡ j = cc in inr same
last_or [] x (suc i) j at = cc
last_or (y ∷ xs) x zero j at = inl at
last_or (y ∷ xs) x (suc i) j at = last_or xs x i j at

-- ---- marks that grow

pub record Waits (m : Marked) (k : ℕ) : Type 0 where
  pub at : ℕ
  pub is : slice_get m.waiting at ≡ Some k

-- the second one has all marks of the first one, and what it has more waits
pub record Grows (m n : Marked) : Type 0 where
  pub each : length n.marks ≡ length m.marks
  pub kept : (j : ℕ) → slice_get m.marks j ≡ Some true → slice_get n.marks j ≡ Some true
  pub closed : (j : ℕ) → is_unmarked (slice_get m.marks j) ≡ false → is_unmarked (slice_get n.marks j) ≡ false
  pub waits : (i j : ℕ) → slice_get m.waiting i ≡ Some j → slice_get n.waiting i ≡ Some j
  pub origin : (j : ℕ) → slice_get n.marks j ≡ Some true → (slice_get m.marks j ≡ Some true) ⊎ Waits n j
  pub same : ahead n ≡ ahead m

grows_none : (m : Marked) → Grows m m
grows_none m = record { each = refl; kept = λ j is. is; closed = λ j is. is; waits = λ i j is. is; origin = λ j is. inl is; same = refl }

grows_twice : (m n o : Marked) → Grows m n → Grows n o → Grows m o
grows_twice m n o g h = record {
  each = h.each ∙ g.each;
  kept = λ j is. h.kept j (g.kept j is);
  closed = λ j is. h.closed j (g.closed j is);
  waits = λ i j is. h.waits i j (g.waits i j is);
  origin = λ j is. elim (h.origin j is) [
    | inl before ↦ elim (g.origin j before) [
      | inl first ↦ inl first
      | inr w ↦ inr (record { at = w.at; is = h.waits w.at j w.is })
    ]
    | inr w ↦ inr w
  ];
  same = h.same ∙ g.same;
}

module _ (m : Marked) (k : ℕ) where
  abbrev given : Marked
  given = record { marks = slice_set m.marks k true; waiting = m.waiting ++ k ∷ [] }

  new_waits : Waits given k
  new_waits = record { at = length m.waiting; is = at_end m.waiting k }

  grows_given : is_unmarked (slice_get m.marks k) ≡ true → Grows m given
  grows_given free =
      let inside : k < length m.marks = free_within m.marks k free in
      let here : slice_get (slice_set m.marks k true) k ≡ Some true = get_set m.marks k true inside in
      record {
        each = length-set m.marks k true;
        kept = λ j is. elim (eqb_tells k j) [
          | inl equal ↦ subst (λ n. slice_get (slice_set m.marks k true) n ≡ Some true) equal.1 here
          | inr other ↦ get_set_other m.marks k j true other.1 ∙ is
        ];
        closed = λ j is. elim (eqb_tells k j) [
          | inl equal ↦ subst (λ n. is_unmarked (slice_get (slice_set m.marks k true) n) ≡ false) equal.1 (not_free (slice_get (slice_set m.marks k true) k) here)
          | inr other ↦ ap is_unmarked (get_set_other m.marks k j true other.1) ∙ is
        ];
        waits = λ i j is. get_front m.waiting (k ∷ []) i j is;
        origin = λ j is. elim (eqb_tells k j) [
          | inl equal ↦ inr (subst (λ n. Waits given n) equal.1 new_waits)
          | inr other ↦ inl (sym (get_set_other m.marks k j true other.1) ∙ is)
        ];
        same = omega (arith, one_less m.marks k free, length-append m.waiting (k ∷ []));
      }

  grows_mark : Grows m (with_mark k m)
  grows_mark = step (is_unmarked (slice_get m.marks k)) refl
    where
      step : (b : Bool) → is_unmarked (slice_get m.marks k) ≡ b → Grows m (if b then given else m)
      step true free = grows_given free
      step false closed = grows_none m

  mark_closed : is_unmarked (slice_get (with_mark k m).marks k) ≡ false
  mark_closed = step (is_unmarked (slice_get m.marks k)) refl
    where
      step : (b : Bool) → is_unmarked (slice_get m.marks k) ≡ b → is_unmarked (slice_get (if b then given else m).marks k) ≡ false
      step true free = not_free (slice_get (slice_set m.marks k true) k) (get_set m.marks k true (free_within m.marks k free))
      step false closed = closed

pub grows_callees : (all : Bool) (calls : List Call) (m : Marked) → Grows m (with_callees all calls m)
grows_callees all [] m = grows_none m
grows_callees all (call ∷ calls) m = step (all || call.in_task) (λ n. grows_callees all calls n)
  where
    step : (b : Bool) → ((n : Marked) → Grows n (with_callees all calls n)) → Grows m (with_callees all calls (if b then with_mark call.callee m else m))
    step true again = grows_twice m (with_mark call.callee m) (with_callees all calls (with_mark call.callee m)) (grows_mark m call.callee) (again (with_mark call.callee m))
    step false again = again m

-- no call that counts leads to a function without a mark
abbrev pub Closed : List Bool → Bool → List Call → Type 0
Closed marks all calls = (i : ℕ) (call : Call) → slice_get calls i ≡ Some call → (all || call.in_task) ≡ true → is_unmarked (slice_get marks call.callee) ≡ false

pub closed_callees : (all : Bool) (calls : List Call) (m : Marked) → Closed (with_callees all calls m).marks all calls
closed_callees all [] m i call at counts = cc
closed_callees all (c ∷ calls) m zero call at counts =
    let same : c ≡ call = cc in
    let now : (all || c.in_task) ≡ true = subst (λ (d : Call). (all || d.in_task) ≡ true) (sym same) counts in
    subst (λ (d : Call). is_unmarked (slice_get (with_callees all (c ∷ calls) m).marks d.callee) ≡ false) same (step (all || c.in_task) now)
  where
    step : (b : Bool) → b ≡ true → is_unmarked (slice_get (with_callees all calls (if b then with_mark c.callee m else m)).marks c.callee) ≡ false
    step true now = let g : Grows (with_mark c.callee m) (with_callees all calls (with_mark c.callee m)) = grows_callees all calls (with_mark c.callee m) in g.closed c.callee (mark_closed m c.callee)
    step false now = cc
closed_callees all (c ∷ calls) m (suc i) call at counts = closed_callees all calls (if all || c.in_task then with_mark c.callee m else m) i call at counts

-- ---- marks of functions that tasks call

-- each mark is given rightly, and what waits is marked
pub record AreGiven (graph : List (List Call)) (m : Marked) : Type 0 where
  pub each : length m.marks ≡ length graph
  pub sound : (k : ℕ) → slice_get m.marks k ≡ Some true → IsReached graph k
  pub held : (i k : ℕ) → slice_get m.waiting i ≡ Some k → slice_get m.marks k ≡ Some true

module _ (graph : List (List Call)) where
  given_mark : (m : Marked) (k : ℕ) → IsReached graph k → AreGiven graph m → AreGiven graph (with_mark k m)
  given_mark m k reached is = step (is_unmarked (slice_get m.marks k)) refl
    where
      step : (b : Bool) → is_unmarked (slice_get m.marks k) ≡ b → AreGiven graph (if b then given m k else m)
      step false closed = is
      step true free =
          let g : Grows m (given m k) = grows_given m k free in
          let here : slice_get (slice_set m.marks k true) k ≡ Some true = get_set m.marks k true (free_within m.marks k free) in
          record {
            each = g.each ∙ is.each;
            sound = λ j at. elim (eqb_tells k j) [
              | inl equal ↦ subst (λ n. IsReached graph n) equal.1 reached
              | inr other ↦ is.sound j (sym (get_set_other m.marks k j true other.1) ∙ at)
            ];
            held = λ i j at. elim (last_or m.waiting k i j at) [
              | inl before ↦ g.kept j (is.held i j before)
              | inr equal ↦ subst (λ n. slice_get (slice_set m.marks k true) n ≡ Some true) equal here
            ];
          }

  given_callees : (all : Bool) (calls : List Call) (m : Marked) → ((i : ℕ) (call : Call) → slice_get calls i ≡ Some call → (all || call.in_task) ≡ true → IsReached graph call.callee) →
      AreGiven graph m → AreGiven graph (with_callees all calls m)
  given_callees all [] m reached is = is
  given_callees all (call ∷ calls) m reached is = step (all || call.in_task) refl (λ n given. given_callees all calls n (λ i c at counts. reached (suc i) c at counts) given)
    where
      step : (b : Bool) → (all || call.in_task) ≡ b → ((n : Marked) → AreGiven graph n → AreGiven graph (with_callees all calls n)) →
          AreGiven graph (with_callees all calls (if b then with_mark call.callee m else m))
      step true counts again = again (with_mark call.callee m) (given_mark m call.callee (reached 0 call refl counts) is)
      step false counts again = again m is

  -- ---- the functions before the n-th one are looked through for calls in tasks

  pub record AreSeeded (n : ℕ) (m : Marked) : Type 0 where
    pub given : AreGiven graph m
    pub tasks : (j : ℕ) (calls : List Call) → j < n → slice_get graph j ≡ Some calls → Closed m.marks false calls
    pub fresh : (k : ℕ) → slice_get m.marks k ≡ Some true → Waits m k

  -- ---- all are, and the calls of a marked function are followed or it waits

  pub record AreFollowed (m : Marked) : Type 0 where
    pub given : AreGiven graph m
    pub tasks : (j : ℕ) (calls : List Call) → slice_get graph j ≡ Some calls → Closed m.marks false calls
    pub followed : (k : ℕ) (calls : List Call) → slice_get graph k ≡ Some calls → slice_get m.marks k ≡ Some true → Waits m k ⊎ Closed m.marks true calls

  seeded_from : (m : Marked) → AreGiven graph m → m.waiting ≡ [] → ((k : ℕ) → slice_get m.marks k ≡ Some true → ⊥) → AreSeeded 0 m
  seeded_from m is empty none = record { given = is; tasks = λ j calls before. absurd (omega arith); fresh = λ k at. absurd (none k at) }

  pub seeded_next : (n : ℕ) (m : Marked) (calls : List Call) → n < length graph → calls ≡ get_or graph n calls → AreSeeded n m → AreSeeded (n + 1) (with_callees false calls m)
  seeded_next n m calls inside item is =
      let at : slice_get graph n ≡ Some calls = slice_get_read graph (length graph) n calls refl inside item in
      let g : Grows m (with_callees false calls m) = grows_callees false calls m in
      let reached : (i : ℕ) (call : Call) → slice_get calls i ≡ Some call → call.in_task ≡ true → IsReached graph call.callee =
      λ i call stands task. from_task n call (record { calls = calls; at = i; of_caller = at; stands = stands }) task in
      record {
        given = given_callees false calls m reached is.given;
        tasks = λ j others before there. elim (eqb_tells n j) [
          | inl equal ↦
              let same : calls ≡ others = cc in
              subst (λ (cs : List Call). Closed (with_callees false calls m).marks false cs) same (closed_callees false calls m)
          | inr other ↦ (λ i call stands counts. g.closed call.callee (is.tasks j others (omega (arith, other.1)) there i call stands counts))
        ];
        fresh = λ k there. elim (g.origin k there) [
          | inl before ↦ (let w : Waits m k = is.fresh k before in record { at = w.at; is = g.waits w.at k w.is })
          | inr w ↦ w
        ];
      }

  pub seeded_all : (n : ℕ) (m : Marked) → length graph ≤ n → AreSeeded n m → AreFollowed m
  seeded_all n m all is = record {
    given = is.given;
    tasks = λ j calls at. is.tasks j calls (let inside : j < length graph = slice_get_within graph j calls at in omega arith) at;
    followed = λ k calls at there. inl (is.fresh k there);
  }

  -- ---- the calls of one that waits are followed

  module _ (m r : Marked) (k : ℕ) (taken : m ≡ record { marks = r.marks; waiting = r.waiting ++ k ∷ [] }) (is : AreFollowed m) where
    same_marks : m.marks ≡ r.marks
    same_marks = ap (λ (n : Marked). n.marks) taken

    same_waiting : m.waiting ≡ r.waiting ++ k ∷ []
    same_waiting = ap (λ (n : Marked). n.waiting) taken

    pub taken_marked : slice_get m.marks k ≡ Some true
    taken_marked = is.given.held (length r.waiting) k (ap (λ (ws : List ℕ). slice_get ws (length r.waiting)) same_waiting ∙ at_end r.waiting k)

    pub taken_within : k < length graph
    taken_within = let inside : k < length m.marks = slice_get_within m.marks k true taken_marked in omega (arith, is.given.each)

    given_rest : AreGiven graph r
    given_rest = record {
      each = ap (λ (marks : List Bool). length marks) (sym same_marks) ∙ is.given.each;
      sound = λ j at. is.given.sound j (ap (λ (marks : List Bool). slice_get marks j) same_marks ∙ at);
      held = λ i j at. ap (λ (marks : List Bool). slice_get marks j) (sym same_marks) ∙ is.given.held i j (ap (λ (ws : List ℕ). slice_get ws i) same_waiting ∙ get_front r.waiting (k ∷ []) i j at);
    }

    waits_rest : (j : ℕ) → Waits m j → Waits r j ⊎ (k ≡ j)
    waits_rest j w = elim (last_or r.waiting k w.at j (ap (λ (ws : List ℕ). slice_get ws w.at) (sym same_waiting) ∙ w.is)) [
      | inl before ↦ inl (record { at = w.at; is = before })
      | inr equal ↦ inr equal
    ]

    closed_rest : (all : Bool) (calls : List Call) → Closed m.marks all calls → Closed r.marks all calls
    closed_rest all calls closed = subst (λ (marks : List Bool). Closed marks all calls) same_marks closed

    module _ (calls : List Call) (item : calls ≡ get_or graph k calls) where
      of_taken : slice_get graph k ≡ Some calls
      of_taken = slice_get_read graph (length graph) k calls refl taken_within item

      after : Marked
      after = with_callees true calls r

      grown : Grows r after
      unfolding after
      grown = grows_callees true calls r

      closed_more : (all : Bool) (others : List Call) → Closed r.marks all others → Closed after.marks all others
      closed_more all others closed = λ i call stands counts. grown.closed call.callee (closed i call stands counts)

      given_after : AreGiven graph after
      unfolding after
      given_after = given_callees true calls r (λ i call stands counts. through k call (record { calls = calls; at = i; of_caller = of_taken; stands = stands }) (is.given.sound k taken_marked)) given_rest

      taken_closed : (others : List Call) → slice_get graph k ≡ Some others → Closed after.marks true others
      unfolding after
      taken_closed others at =
          let same : calls ≡ others = let here : slice_get graph k ≡ Some calls = of_taken in cc in
          subst (λ (cs : List Call). Closed (with_callees true calls r).marks true cs) same (closed_callees true calls r)

      waits_more : (j : ℕ) → Waits r j → Waits after j
      waits_more j w = record { at = w.at; is = grown.waits w.at j w.is }

      after_marked : (j : ℕ) (others : List Call) → slice_get graph j ≡ Some others → slice_get after.marks j ≡ Some true → Waits after j ⊎ Closed after.marks true others
      after_marked j others at there = elim (grown.origin j there) [
        | inr w ↦ inl w
        | inl before ↦ elim (is.followed j others at (ap (λ (marks : List Bool). slice_get marks j) same_marks ∙ before)) [
          | inr closed ↦ inr (closed_more true others (closed_rest true others closed))
          | inl w ↦ elim (waits_rest j w) [
            | inl rest ↦ inl (waits_more j rest)
            | inr equal ↦ inr (taken_closed others (ap (λ n. slice_get graph n) equal ∙ at))
          ]
        ]
      ]

      pub followed_next : AreFollowed (with_callees true calls r)
      unfolding after
      followed_next = record { given = given_after; tasks = λ j others at. closed_more false others (closed_rest false others (is.tasks j others at)); followed = after_marked }

      pub followed_less : ahead (with_callees true calls r) < ahead m
      unfolding after
      followed_less = omega (arith, grown.same, ap unmarked same_marks, ap length same_waiting, length-append r.waiting (k ∷ []))

  -- ---- where none waits, each function that a task calls has its mark

  pub all_marked : (m : Marked) → AreFollowed m → m.waiting ≡ [] → (k : ℕ) → IsReached graph k → k < length graph → slice_get m.marks k ≡ Some true
  all_marked m is none k (from_task caller call has task) inside =
      marked_within m.marks call.callee (omega (arith, is.given.each)) (is.tasks caller has.calls has.of_caller has.at call has.stands task)
  all_marked m is none k (through caller call has reached) inside =
      let there : slice_get m.marks caller ≡ Some true = all_marked m is none caller reached (slice_get_within graph caller has.calls has.of_caller) in
      marked_within m.marks call.callee (omega (arith, is.given.each)) (elim (is.followed caller has.calls has.of_caller there) [
        | inl w ↦ (let e : slice_get [] w.at ≡ Some caller = subst (λ (ws : List ℕ). slice_get ws w.at ≡ Some caller) none w.is in cc)
        | inr closed ↦ closed has.at call has.stands refl
      ])

  pub marked_all : (m : Marked) (marks : List Bool) → AreFollowed m → m.waiting ≡ [] → marks ≡ m.marks → AreMarks graph marks
  marked_all m marks is none same = rw same (record { each = is.given.each; sound = is.given.sound; complete = all_marked m is none })
