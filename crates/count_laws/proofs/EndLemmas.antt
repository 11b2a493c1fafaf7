-- Before a terminator, the number of a counted register becomes what the terminator takes, and one more where it is live
-- over an edge.
use Rattle.std.proofs.Common.{◌≡◌, ◌⊎◌, inl, inr, ℕ, zero, suc, ◌+◌, ◌-◌, ◌<◌, ◌≤◌, ◌==◌, ◌||◌, ◌&&◌, not, if◌then◌else◌, Bool, true, false, List, [], ◌∷◌, ◌++◌, length, drop, Option, Some, None, refl, sym, ap, ◌∙◌, arith, subst}
use Rattle.std.specs.Prelude.{slice_get, nat_lt, nat_le}
use Rattle.std.proofs.lemmas.Bool.Decides.{eqb_tells, nat_tests}
use Rattle.bit_sets.specs.Members.{is_in}
use Rattle.low_flow.specs.Lists.{has, list_at}
use Rattle.low_forms.specs.declared.code.Reg.{Reg}
use Rattle.low_forms.specs.declared.code.Instr.{Instr}
use Rattle.low_forms.specs.declared.code.Target.{Target}
use Rattle.low_forms.specs.declared.code.Term.{Term}
use Rattle.low_forms.specs.declared.code.Block.{Block}
use Rattle.low_forms.specs.declared.code.LowFunc.{LowFunc}
use Rattle.low_forms.specs.Rows.{row_of}
use Rattle.low_forms.specs.Registers.{on_type}
use Rattle.low_forms.specs.Assigned.{numbers, args_of, used_at_end}
use Rattle.low_forms.specs.Edges.{edges, count_to}
use Rattle.low_forms.specs.Owns.{is_object, references, takes, takes_at_end, first_args, params_of}
use Rattle.liveness.specs.Live.{IsLive}
use Rattle.liveness.specs.Flow.{live_before, enters, set_at, over}
use Rattle.liveness.specs.State.{IsSolution, Enters}
use Rattle.liveness.proofs.ListLemmas.{set_within}
use Rattle.liveness.proofs.LiveLemmas.{get_within}
use Rattle.live_truths.specs.Truths.{live_sets, is_live_in, is_live}
use Rattle.live_truths.proofs.TruthLemmas.{live_sets_solve, exact}
use Rattle.own_tables.specs.Owns.{after, left}
use Rattle.ref_counting.specs.Objects.{is_counted, created, with_counted, taken, taken_at_end, is_return}
use Rattle.ref_counting.specs.Shape as shape
use Rattle.count_laws.specs.Laws.{along, allowed, one_if, IsPlainEnd}
use Rattle.count_laws.proofs.OrderLemmas.{Ascends, ascends_counted, has_counted, none_of, not_later, or_splits}
use Rattle.count_laws.proofs.NumberLemmas as number
use Rattle.count_laws.proofs.RowLemmas.{below, count_references, live_row, times_taken}

same_truth : (x y : Bool) → (x ≡ true → y ≡ true) → (y ≡ true → x ≡ true) → x ≡ y
same_truth true true there back = refl
same_truth true false there back = sym (there refl)
same_truth false true there back = back refl
same_truth false false there back = refl

not_true : (a : Bool) → not a ≡ true → a ≡ false
not_true true is = cc
not_true false is = refl

not_false : (a : Bool) → a ≡ false → not a ≡ true
not_false true is = cc
not_false false is = refl

and_both : (a b : Bool) → (a && b) ≡ true → (a ≡ true) × (b ≡ true)
and_both true b is = (refl, is)
and_both false b is = cc

-- ---- what is live over edges

no_block : (f : LowFunc) (d r : ℕ) → slice_get f.blocks d ≡ None → is_live f d 0 r ≡ false
unfolding is_live
no_block f d r none = ap (λ (o : Option Block). nat_lt r (length f.regs) && is_live_in f d 0 r o) none ∙ and_false (nat_lt r (length f.regs))
  where
    and_false : (a : Bool) → (a && false) ≡ false
    and_false true = refl
    and_false false = refl

-- the arguments that a terminator takes
abbrev args_taken : Term → List Reg
args_taken t = if (row_of t.instr.kind).takes then first_args t.targets else []

module _ (f : LowFunc) (r : ℕ) (known : r < length f.regs) where
  in_set : (d : ℕ) (o : Option Block) → slice_get f.blocks d ≡ o → is_in (set_at (live_sets f) d) r ≡ (not (has r (numbers (params_of o))) && is_live f d 0 r)
  in_set d None none = same_truth (is_in (set_at (live_sets f) d) r) (true && is_live f d 0 r)
      (λ is.
      (let s : IsSolution f (live_sets f) = live_sets_solve f in
      let b : (b : Block) × (slice_get f.blocks d ≡ Some b) = get_within f.blocks d (omega (arith, set_within (live_sets f) d r is, s.sets_are.long)) in
      let some : slice_get f.blocks d ≡ Some b.0 = b.1 in
      cc))
      (λ is. (let no : is_live f d 0 r ≡ false = no_block f d r none in cc))
  in_set d (Some b) at = same_truth (is_in (set_at (live_sets f) d) r) (not (has r (numbers b.params)) && is_live f d 0 r)
      (λ is.
      (let s : IsSolution f (live_sets f) = live_sets_solve f in
      let e : Enters f r d = s.sound d r is in
      let named : slice_get f.blocks d ≡ Some e.block = e.at in
      let same : e.block ≡ b = cc in
      number.and_all (not (has r (numbers b.params))) (is_live f d 0 r)
      (not_false (has r (numbers b.params)) (ap (λ (x : Block). has r (numbers x.params)) (sym same) ∙ e.free)) ((exact f d 0 r known).1 e.live)))
      (λ is.
      (let s : IsSolution f (live_sets f) = live_sets_solve f in
      let parts : (not (has r (numbers b.params)) ≡ true) × (is_live f d 0 r ≡ true) = and_both (not (has r (numbers b.params))) (is_live f d 0 r) is in
      s.closed d b r at known
      (number.and_all (not (has r (numbers b.params))) (live_before b.instrs b.term (over (live_sets f) r (list_at (edges f) d)) r) parts.0
      (sym (live_row f d 0 r b at known (omega arith)) ∙ parts.1))))

  pub over_is : (cs : List ℕ) → over (live_sets f) r cs ≡ shape.is_live_over f r cs
  over_is [] = refl
  over_is (d ∷ cs) = ap (λ x. x || over (live_sets f) r cs) (in_set d (slice_get f.blocks d) refl) ∙ ap (λ x. shape.is_live_into f r d || x) (over_is cs)

drop_all : (instrs : List Instr) → drop (length instrs) instrs ≡ []
drop_all [] = refl
drop_all (i ∷ instrs) = drop_all instrs

pub live_end : (f : LowFunc) (c r : ℕ) (b : Block) → slice_get f.blocks c ≡ Some b → r < length f.regs
    → is_live f c (length b.instrs) r ≡ (has r (used_at_end b.term) || shape.is_live_over f r (list_at (edges f) c))
live_end f c r b at known =
    live_row f c (length b.instrs) r b at known (omega arith)
    ∙ ap (λ (rows : List Instr). live_before rows b.term (over (live_sets f) r (list_at (edges f) c)) r) (drop_all b.instrs)
    ∙ ap (λ x. has r (used_at_end b.term) || x) (over_is f r known (list_at (edges f) c))

-- ---- what a terminator takes

has_append : (x : ℕ) (xs ys : List ℕ) → has x (xs ++ ys) ≡ (has x xs || has x ys)
has_append x [] ys = refl
has_append x (z ∷ xs) ys = ap (λ b. (x == z) || b) (has_append x xs ys) ∙ or_swap (x == z) (has x xs) (has x ys)
  where
    or_swap : (a b c : Bool) → (a || (b || c)) ≡ ((a || b) || c)
    or_swap true b c = refl
    or_swap false b c = refl

count_append : (x : ℕ) (xs ys : List ℕ) → count_to x (xs ++ ys) ≡ count_to x xs + count_to x ys
count_append x [] ys = omega arith
count_append x (z ∷ xs) ys = step (count_append x xs ys) (x == z)
  where
    step : count_to x (xs ++ ys) ≡ count_to x xs + count_to x ys → (b : Bool) → (if b then count_to x (xs ++ ys) + 1 else count_to x (xs ++ ys)) ≡ (if b then count_to x xs + 1 else count_to x xs) + count_to x ys
    step later true = omega (arith, later)
    step later false = later

numbers_append : (xs ys : List Reg) → numbers (xs ++ ys) ≡ numbers xs ++ numbers ys
numbers_append [] ys = refl
numbers_append (x ∷ xs) ys = ap (λ (zs : List ℕ). x.0 ∷ zs) (numbers_append xs ys)

count_some : (x : ℕ) (xs : List ℕ) → has x xs ≡ true → 1 ≤ count_to x xs
count_some x [] is = cc
count_some x (z ∷ xs) is = step (λ e. count_some x xs e) (x == z) is
  where
    step : (has x xs ≡ true → 1 ≤ count_to x xs) → (b : Bool) → (b || has x xs) ≡ true → 1 ≤ (if b then count_to x xs + 1 else count_to x xs)
    step later true there = omega arith
    step later false there = later there

times_at_end : (f : LowFunc) (r : ℕ) → on_type is_object (slice_get f.regs r) ≡ true → (t : Term) → shape.times r (taken_at_end t) ≡ count_to r (takes_at_end f t)
times_at_end f r object t =
    ap (λ (xs : List ℕ). count_to r xs) (numbers_append (taken t.instr) (args_taken t)) ∙ count_append r (numbers (taken t.instr)) (numbers (args_taken t))
    ∙ ap (λ n. n + count_to r (numbers (args_taken t))) (times_taken f r object t.instr) ∙ ap (λ n. count_to r (takes f t.instr) + n) (step (row_of t.instr.kind).takes)
    ∙ sym (count_append r (takes f t.instr) (if (row_of t.instr.kind).takes then references f (first_args t.targets) else []))
  where
    step : (b : Bool) → count_to r (numbers (if b then first_args t.targets else [])) ≡ count_to r (if b then references f (first_args t.targets) else [])
    step true = sym (count_references f r object (first_args t.targets))
    step false = refl

-- what a terminator takes it uses
taken_used : (t : Term) (r : ℕ) → has r (numbers (taken_at_end t)) ≡ true → has r (used_at_end t) ≡ true
taken_used t r is =
    has_append r (numbers t.instr.operands) (args_of t.targets)
    ∙ elim (or_splits (has r (numbers (taken t.instr))) (has r (numbers (args_taken t))) (sym (ap (λ (xs : List ℕ). has r xs) (numbers_append (taken t.instr) (args_taken t)) ∙ has_append r (numbers (taken t.instr)) (numbers (args_taken t))) ∙ is)) [
      | inl own ↦ number.or_left (has r (numbers t.instr.operands)) (has r (args_of t.targets)) (operand (row_of t.instr.kind).takes own)
      | inr arg ↦ number.or_right (has r (numbers t.instr.operands)) (has r (args_of t.targets)) (argument (row_of t.instr.kind).takes t.targets arg)
    ]
  where
    operand : (b : Bool) → has r (numbers (if b then t.instr.operands else [])) ≡ true → has r (numbers t.instr.operands) ≡ true
    operand true there = there
    operand false there = cc

    argument : (b : Bool) (targets : List Target) → has r (numbers (if b then first_args targets else [])) ≡ true → has r (args_of targets) ≡ true
    argument true [] there = cc
    argument true (u ∷ targets) there = has_append r (numbers u.args) (args_of targets) ∙ number.or_left (has r (numbers u.args)) (has r (args_of targets)) there
    argument false targets there = cc

-- ---- counts before a terminator

module _ (f : LowFunc) (r : ℕ) (targets : List ℕ) (returns : Bool) where
  counts_other : (q m n : ℕ) → (r == q) ≡ false → along f r (shape.counts_at_end f targets returns q m) n ≡ n
  counts_other q m n other = step returns
    where
      added : along f r (shape.add_ref q m ∷ []) n ≡ n
      added = number.after_add f r q m n ∙ ap (λ b. n + (if b then m else 0)) other ∙ number.plus_none n

      at_return : (b : Bool) → along f r (if b then shape.add_ref q (m - 1) ∷ [] else []) n ≡ n
      at_return true = number.after_add f r q (m - 1) n ∙ ap (λ b. n + (if b then (m - 1) else 0)) other ∙ number.plus_none n
      at_return false = refl

      at_move : (b : Bool) → along f r (shape.add_ref q m ∷ (if b then [] else shape.drop_ref q ∷ [])) n ≡ n
      at_move true = added
      at_move false = ap (λ k. after f (shape.drop_ref q) r k) added ∙ number.after_drop f r q n ∙ ap (λ b. n - (if b then 1 else 0)) other ∙ number.less_none n

      step : (b : Bool) → along f r (if b then shape.added_at_return q m else shape.moved f targets q m) n ≡ n
      step true = at_return (nat_lt 1 m)
      step false = at_move (shape.is_live_over f q targets)

  allowed_other : (q m n : ℕ) → (r == q) ≡ false → allowed f r (shape.counts_at_end f targets returns q m) n ≡ true
  allowed_other q m n other = step returns
    where
      never : (r == q) ≡ true → (k : ℕ) → 1 ≤ k
      never same k = cc

      at_return : (b : Bool) → allowed f r (if b then shape.add_ref q (m - 1) ∷ [] else []) n ≡ true
      at_return true = number.and_all _ true (number.allows_add f r q (m - 1) n (λ same. never same n)) refl
      at_return false = refl

      at_move : (b : Bool) → allowed f r (shape.add_ref q m ∷ (if b then [] else shape.drop_ref q ∷ [])) n ≡ true
      at_move true = number.and_all _ true (number.allows_add f r q m n (λ same. never same n)) refl
      at_move false = number.and_all _ _ (number.allows_add f r q m n (λ same. never same n))
          (number.and_all _ true (number.allows_drop f r q (after f (shape.add_ref q m) r n) (λ same. never same (after f (shape.add_ref q m) r n))) refl)

      step : (b : Bool) → allowed f r (if b then shape.added_at_return q m else shape.moved f targets q m) n ≡ true
      step true = at_return (nat_lt 1 m)
      step false = at_move (shape.is_live_over f q targets)

  module _ (list : List Reg) where
    abbrev own : ℕ → ℕ
    own n = along f r (shape.counts_at_end f targets returns r (shape.times r list)) n

    along_ends : (qs : List ℕ) (n : ℕ) → Ascends qs → along f r (shape.ends f targets returns list qs) n ≡ (if has r qs then own n else n)
    along_ends [] n up = refl
    along_ends (q ∷ qs) n up =
        number.along_append f r (shape.counts_at_end f targets returns q (shape.times q list)) (shape.ends f targets returns list qs) n
        ∙ along_ends qs (along f r (shape.counts_at_end f targets returns q (shape.times q list)) n) up.1 ∙ step (r == q) refl
      where
        step : (b : Bool) → (r == q) ≡ b
            → (if has r qs then own (along f r (shape.counts_at_end f targets returns q (shape.times q list)) n) else along f r (shape.counts_at_end f targets returns q (shape.times q list)) n)
            ≡ (if b || has r qs then own n else n)
        step true is =
            ap (λ b. if b then own (along f r (shape.counts_at_end f targets returns q (shape.times q list)) n) else along f r (shape.counts_at_end f targets returns q (shape.times q list)) n) (not_later r q qs up is)
            ∙ ap (λ x. along f r (shape.counts_at_end f targets returns x (shape.times x list)) n) (sym (number.same_number r q is))
        step false is = ap (λ k. if has r qs then own k else k) (counts_other q (shape.times q list) n is)

    allowed_ends : (qs : List ℕ) (n : ℕ) → Ascends qs → (has r qs ≡ true → allowed f r (shape.counts_at_end f targets returns r (shape.times r list)) n ≡ true)
        → allowed f r (shape.ends f targets returns list qs) n ≡ true
    allowed_ends [] n up enough = refl
    allowed_ends (q ∷ qs) n up enough =
        number.allowed_append f r (shape.counts_at_end f targets returns q (shape.times q list)) (shape.ends f targets returns list qs) n
        ∙ step (along f r (shape.counts_at_end f targets returns q (shape.times q list)) n) refl
        (λ more. allowed_ends qs (along f r (shape.counts_at_end f targets returns q (shape.times q list)) n) up.1 more) (r == q) refl
      where
        step : (after_q : ℕ) → after_q ≡ along f r (shape.counts_at_end f targets returns q (shape.times q list)) n
            → ((has r qs ≡ true → allowed f r (shape.counts_at_end f targets returns r (shape.times r list)) after_q ≡ true) → allowed f r (shape.ends f targets returns list qs) after_q ≡ true)
            → (b : Bool) → (r == q) ≡ b → (allowed f r (shape.counts_at_end f targets returns q (shape.times q list)) n && allowed f r (shape.ends f targets returns list qs) after_q) ≡ true
        step after_q after_is go true is = number.and_all _ _
            (ap (λ x. allowed f r (shape.counts_at_end f targets returns x (shape.times x list)) n) (sym (number.same_number r q is)) ∙ enough (number.or_left (r == q) (has r qs) is))
            (go (λ there. (let none : has r qs ≡ false = not_later r q qs up is in cc)))
        step after_q after_is go false is = number.and_all _ _ (allowed_other q (shape.times q list) n is)
            (go (λ there.
            ap (λ k. allowed f r (shape.counts_at_end f targets returns r (shape.times r list)) k) (after_is ∙ counts_other q (shape.times q list) n is) ∙ enough (number.or_right (r == q) (has r qs) there)))

  -- the register's own counts, where the frame owns one
  own_return : (m : ℕ) → 1 ≤ m → returns ≡ true → shape.is_live_over f r targets ≡ false
      → (along f r (shape.counts_at_end f targets returns r m) 1 ≡ m) × (allowed f r (shape.counts_at_end f targets returns r m) 1 ≡ true)
  own_return m some is dead = subst (λ b. (along f r (if b then shape.added_at_return r m else shape.moved f targets r m) 1 ≡ m) × (allowed f r (if b then shape.added_at_return r m else shape.moved f targets r m) 1 ≡ true))
      (sym is) (step (nat_lt 1 m) refl)
    where
      step : (b : Bool) → nat_lt 1 m ≡ b
          → (along f r (if b then shape.add_ref r (m - 1) ∷ [] else []) 1 ≡ m) × (allowed f r (if b then shape.add_ref r (m - 1) ∷ [] else []) 1 ≡ true)
      step true more = (
        number.after_add f r r (m - 1) 1 ∙ ap (λ b. 1 + (if b then (m - 1) else 0)) (self r) ∙ omega (arith, some),
        number.and_all _ true (number.allows_add f r r (m - 1) 1 (λ same. omega arith)) refl,
      )
        where
          self : (x : ℕ) → (x == x) ≡ true
          self x = grind (arith, nat_tests)
      step false less = (one_left, refl)
        where
          one_left : 1 ≡ m
          one_left = (let e : m ≤ 1 = grind (arith, nat_tests, less) in omega (arith, e, some))

  own_move : (m : ℕ) → returns ≡ false
      → (along f r (shape.counts_at_end f targets returns r m) 1 ≡ one_if (shape.is_live_over f r targets) + m) × (allowed f r (shape.counts_at_end f targets returns r m) 1 ≡ true)
  own_move m is = subst (λ b. (along f r (if b then shape.added_at_return r m else shape.moved f targets r m) 1 ≡ one_if (shape.is_live_over f r targets) + m)
      × (allowed f r (if b then shape.added_at_return r m else shape.moved f targets r m) 1 ≡ true)) (sym is) (step (shape.is_live_over f r targets))
    where
      self : (x : ℕ) → (x == x) ≡ true
      self x = grind (arith, nat_tests)

      added : after f (shape.add_ref r m) r 1 ≡ 1 + m
      added = number.after_add f r r m 1 ∙ ap (λ b. 1 + (if b then m else 0)) (self r)

      step : (b : Bool) → (along f r (shape.add_ref r m ∷ (if b then [] else shape.drop_ref r ∷ [])) 1 ≡ one_if b + m)
          × (allowed f r (shape.add_ref r m ∷ (if b then [] else shape.drop_ref r ∷ [])) 1 ≡ true)
      step true = (added, number.and_all _ true (number.allows_add f r r m 1 (λ same. omega arith)) refl)
      step false = (
        ap (λ k. after f (shape.drop_ref r) r k) added ∙ number.after_drop f r r (1 + m) ∙ ap (λ b. (1 + m) - (if b then 1 else 0)) (self r) ∙ omega arith,
        number.and_all _ _ (number.allows_add f r r m 1 (λ same. omega arith))
            (number.and_all _ true (number.allows_drop f r r (after f (shape.add_ref r m) r 1) (λ same. omega (arith, added))) refl),
      )

-- ---- all together

module _ (f : LowFunc) (c r : ℕ) (b : Block) (at : slice_get f.blocks c ≡ Some b) (counted : is_counted f r ≡ true) (plain : IsPlainEnd f c b.term r) where
  is_object_reg : on_type is_object (slice_get f.regs r) ≡ true
  is_object_reg = (and_both (on_type is_object (slice_get f.regs r)) (not (has r (created f))) counted).0

  abbrev t : Term
  t = b.term

  abbrev first : ℕ
  first = one_if (is_live f c (length b.instrs) r)

  abbrev so_many : ℕ
  so_many = shape.times r (taken_at_end t)

  abbrev lives : Bool
  lives = shape.is_live_over f r (list_at (edges f) c)

  abbrev qs : List ℕ
  qs = with_counted f (taken_at_end t) []

  live_is : is_live f c (length b.instrs) r ≡ (has r (used_at_end t) || lives)
  live_is = live_end f c r b at (below f.regs r is_object_reg)

  ascends : Ascends qs
  ascends = ascends_counted f (taken_at_end t) [] tt

  has_is : has r qs ≡ has r (numbers (taken_at_end t))
  has_is = has_counted f r counted (taken_at_end t) []

  first_one : has r (numbers (taken_at_end t)) ≡ true → first ≡ 1
  first_one is = ap one_if (live_is ∙ number.or_left (has r (used_at_end t)) lives (taken_used t r is))

  own_is : has r (numbers (taken_at_end t)) ≡ true
      → (along f r (shape.counts_at_end f (list_at (edges f) c) (is_return t.instr.kind) r so_many) 1 ≡ one_if lives + so_many)
      × (allowed f r (shape.counts_at_end f (list_at (edges f) c) (is_return t.instr.kind) r so_many) 1 ≡ true)
  own_is is = step (is_return t.instr.kind) refl
    where
      step : (x : Bool) → is_return t.instr.kind ≡ x
          → (along f r (shape.counts_at_end f (list_at (edges f) c) (is_return t.instr.kind) r so_many) 1 ≡ one_if lives + so_many)
          × (allowed f r (shape.counts_at_end f (list_at (edges f) c) (is_return t.instr.kind) r so_many) 1 ≡ true)
      step true returns =
          let dead : lives ≡ false = ap (λ (cs : List ℕ). shape.is_live_over f r cs) (plain.returns returns) in
          let both : (along f r (shape.counts_at_end f (list_at (edges f) c) (is_return t.instr.kind) r so_many) 1 ≡ so_many)
          × (allowed f r (shape.counts_at_end f (list_at (edges f) c) (is_return t.instr.kind) r so_many) 1 ≡ true) =
          own_return f r (list_at (edges f) c) (is_return t.instr.kind) so_many (count_some r (numbers (taken_at_end t)) is) returns dead in
          let none : one_if lives ≡ 0 = ap one_if dead in
          (both.0 ∙ omega (arith, none), both.1)
      step false moves = own_move f r (list_at (edges f) c) (is_return t.instr.kind) so_many moves

  -- what stands before the terminator
  pub before_is : along f r (shape.before_end f c t) first ≡ one_if lives + so_many
  before_is = along_ends f r (list_at (edges f) c) (is_return t.instr.kind) (taken_at_end t) qs first ascends ∙ step (has r (numbers (taken_at_end t))) refl
    where
      step : (x : Bool) → has r (numbers (taken_at_end t)) ≡ x
          → (if has r qs then along f r (shape.counts_at_end f (list_at (edges f) c) (is_return t.instr.kind) r so_many) first else first) ≡ one_if lives + so_many
      step true is =
          ap (λ x. if x then along f r (shape.counts_at_end f (list_at (edges f) c) (is_return t.instr.kind) r so_many) first else first) (has_is ∙ is)
          ∙ ap (λ k. along f r (shape.counts_at_end f (list_at (edges f) c) (is_return t.instr.kind) r so_many) k) (first_one is) ∙ (own_is is).0
      step false is =
          let unused : has r (used_at_end t) ≡ false = no_use (has r (used_at_end t)) refl is in
          let none : so_many ≡ 0 = none_of r (numbers (taken_at_end t)) is in
          let n : first ≡ one_if lives = ap one_if (live_is ∙ ap (λ x. x || lives) unused) in
          ap (λ x. if x then along f r (shape.counts_at_end f (list_at (edges f) c) (is_return t.instr.kind) r so_many) first else first) (has_is ∙ is) ∙ omega (arith, n, none)
        where
          no_use : (x : Bool) → has r (used_at_end t) ≡ x → has r (numbers (taken_at_end t)) ≡ false → x ≡ false
          no_use true there none = (let e : has r (numbers (taken_at_end t)) ≡ true = plain.operands there in cc)
          no_use false there none = refl

  pub allowed_before : allowed f r (shape.before_end f c t) first ≡ true
  allowed_before = allowed_ends f r (list_at (edges f) c) (is_return t.instr.kind) (taken_at_end t) qs first ascends
      (λ there.
      (let is : has r (numbers (taken_at_end t)) ≡ true = sym has_is ∙ there in
      ap (λ k. allowed f r (shape.counts_at_end f (list_at (edges f) c) (is_return t.instr.kind) r so_many) k) (first_one is) ∙ (own_is is).1))

  pub left_is : left f t r (along f r (shape.before_end f c t) first) ≡ one_if lives
  left_is = ap (λ n. n - count_to r (takes_at_end f t)) before_is ∙ ap (λ n. (one_if lives + so_many) - n) (sym (times_at_end f r is_object_reg t)) ∙ level (one_if lives) so_many
    where
      level : (n m : ℕ) → (n + m) - m ≡ n
      level n m = omega arith

pub ends_follow : (f : LowFunc) (block r : ℕ) (b : Block) → slice_get f.blocks block ≡ Some b → is_counted f r ≡ true → IsPlainEnd f block b.term r
    → (allowed f r (shape.before_end f block b.term) (one_if (is_live f block (length b.instrs) r)) ≡ true)
    × (count_to r (takes_at_end f b.term) ≤ along f r (shape.before_end f block b.term) (one_if (is_live f block (length b.instrs) r)))
    × (left f b.term r (along f r (shape.before_end f block b.term) (one_if (is_live f block (length b.instrs) r))) ≡ one_if (shape.is_live_over f r (list_at (edges f) block)))
ends_follow f block r b at counted plain = (
  allowed_before f block r b at counted plain,
  enough,
  left_is f block r b at counted plain,
)
  where
    enough : count_to r (takes_at_end f b.term) ≤ along f r (shape.before_end f block b.term) (one_if (is_live f block (length b.instrs) r))
    enough =
        let is : along f r (shape.before_end f block b.term) (one_if (is_live f block (length b.instrs) r)) ≡ one_if (shape.is_live_over f r (list_at (edges f) block)) + shape.times r (taken_at_end b.term) =
        before_is f block r b at counted plain in
        let many : shape.times r (taken_at_end b.term) ≡ count_to r (takes_at_end f b.term) = times_at_end f r (is_object_reg f block r b at counted plain) b.term in
        omega (arith, is, many)
