-- What a block needs by its marks is what it uses before it assigns it, and so the flow tells of all uses.
use Rattle.std.proofs.Common.{◌≡◌, inl, inr, ℕ, zero, suc, ◌<◌, ◌==◌, ◌||◌, ◌&&◌, not, if◌then◌else◌, Bool, true, false, List, [], ◌∷◌, ◌++◌, length, replicate, map, refl, sym, ap, ◌∙◌, arith, subst}
use Rattle.std.specs.Prelude.{slice_get, slice_set}
use Rattle.std.proofs.lemmas.List.{length-replicate}
use Rattle.std.proofs.lemmas.Bool.Decides.{eqb_tells}
use Rattle.std.proofs.Math.ListN.{length-set}
use Rattle.low_flow.specs.Lists.{has, list_at}
use Rattle.low_flow.specs.Paths.{last_of, assigned_on, AllAssigned}
use Rattle.low_flow.proofs.Membership.{or_splits, or_left, or_right, or_none, or_none_left, or_none_right, or_assoc, has_append}
use Rattle.low_forms.specs.declared.code.Reg.{Reg}
use Rattle.low_forms.specs.declared.code.Instr.{Instr}
use Rattle.low_forms.specs.declared.code.Target.{Target}
use Rattle.low_forms.specs.declared.code.Term.{Term}
use Rattle.low_forms.specs.declared.code.Block.{Block}
use Rattle.low_forms.specs.declared.code.LowFunc.{LowFunc}
use Rattle.low_forms.specs.Edges.{edges}
use Rattle.low_forms.specs.Assigned.{numbers, assigns, args_of, used_at, assigned_before, UsesAssigned}
use Rattle.low_forms.specs.Given.{is_free, with_one, with_given, free_of, free_args, with_results, free_by, given_at_start, block_frees}
use Rattle.low_forms.proofs.Words.{is_either, and_left, and_right, and_both, mapped_at, Stands, mapped_has}

-- the marks of n registers: those for which the test passes have one
record AreMarks (n : ℕ) (marks : List Bool) (given : ℕ → Bool) : Type 0 where
  each : length marks ≡ n
  free : (r : ℕ) → r < n → is_free (slice_get marks r) ≡ not (given r)

no_marks : (n : ℕ) → AreMarks n (replicate n false) (λ r. false)
no_marks n = record { each = length-replicate n false; free = λ r inside. go n r inside }
  where
    go : (n r : ℕ) → r < n → is_free (slice_get (replicate n false) r) ≡ true
    go zero r inside = absurd (omega arith)
    go (suc n) zero inside = refl
    go (suc n) (suc r) inside = go n r (omega arith)

set_here : (marks : List Bool) (k : ℕ) → is_free (slice_get (slice_set marks k true) k) ≡ false
set_here [] k = refl
set_here (b ∷ marks) zero = refl
set_here (b ∷ marks) (suc k) = set_here marks k

set_other : (marks : List Bool) (k j : ℕ) → (k ≡ j → ⊥) → slice_get (slice_set marks k true) j ≡ slice_get marks j
set_other [] k j other = refl
set_other (b ∷ marks) zero zero other = absurd (other refl)
set_other (b ∷ marks) zero (suc j) other = refl
set_other (b ∷ marks) (suc k) zero other = refl
set_other (b ∷ marks) (suc k) (suc j) other = set_other marks k j (λ same. other (ap suc same))

one_length : (k : ℕ) (marks : List Bool) → length (with_one k marks) ≡ length marks
one_length k marks = step (is_free (slice_get marks k))
  where
    step : (b : Bool) → length (if b then slice_set marks k true else marks) ≡ length marks
    step true = length-set marks k true
    step false = refl

one_here : (k : ℕ) (marks : List Bool) → is_free (slice_get (with_one k marks) k) ≡ false
one_here k marks = step (is_free (slice_get marks k)) refl
  where
    step : (b : Bool) → is_free (slice_get marks k) ≡ b → is_free (slice_get (if b then slice_set marks k true else marks) k) ≡ false
    step true is = set_here marks k
    step false is = is

one_other : (k j : ℕ) (marks : List Bool) → (k ≡ j → ⊥) → slice_get (with_one k marks) j ≡ slice_get marks j
one_other k j marks other = step (is_free (slice_get marks k))
  where
    step : (b : Bool) → slice_get (if b then slice_set marks k true else marks) j ≡ slice_get marks j
    step true = set_other marks k j other
    step false = refl

marks_one : (n k : ℕ) (marks : List Bool) (given : ℕ → Bool) → AreMarks n marks given → AreMarks n (with_one k marks) (λ r. given r || (r == k))
marks_one n k marks given is = record {
  each = one_length k marks ∙ is.each;
  free = λ r inside. elim (eqb_tells r k) [
    | inl same ↦
        let e : is_free (slice_get (with_one k marks) r) ≡ false = subst (λ j. is_free (slice_get (with_one k marks) j) ≡ false) (sym same.1) (one_here k marks) in
        e ∙ sym (ap not (or_right (given r) (r == k) same.0))
    | inr other ↦
        ap is_free (one_other k r marks (λ e. other.1 (sym e))) ∙ is.free r inside
        ∙ ap not (sym (ap (λ b. given r || b) other.0 ∙ or_false (given r)))
  ];
}
  where
    or_false : (b : Bool) → (b || false) ≡ b
    or_false true = refl
    or_false false = refl

marks_same : (n : ℕ) (marks : List Bool) (given given' : ℕ → Bool) → ((r : ℕ) → given r ≡ given' r) → AreMarks n marks given → AreMarks n marks given'
marks_same n marks given given' same is = record { each = is.each; free = λ r inside. is.free r inside ∙ ap not (same r) }

marks_given : (n : ℕ) (rs : List Reg) (marks : List Bool) (given : ℕ → Bool) → AreMarks n marks given → AreMarks n (with_given rs marks) (λ r. given r || has r (numbers rs))
marks_given n [] marks given is = marks_same n marks given (λ r. given r || false) (λ r. sym (or_false (given r))) is
  where
    or_false : (b : Bool) → (b || false) ≡ b
    or_false true = refl
    or_false false = refl
marks_given n (q ∷ rs) marks given is =
    marks_same n (with_given rs (with_one q.0 marks)) (λ r. (given r || (r == q.0)) || has r (numbers rs)) (λ r. given r || ((r == q.0) || has r (numbers rs)))
    (λ r. or_assoc (given r) (r == q.0) (has r (numbers rs)))
    (marks_given n rs (with_one q.0 marks) (λ r. given r || (r == q.0)) (marks_one n q.0 marks given is))

-- ---- what is free among registers

free_has : (marks : List Bool) (rs : List Reg) (r : ℕ) → has r (free_of marks rs) ≡ (is_free (slice_get marks r) && has r (numbers rs))
free_has marks [] r = sym (and_false (is_free (slice_get marks r)))
  where
    and_false : (b : Bool) → (b && false) ≡ false
    and_false true = refl
    and_false false = refl
free_has marks (q ∷ rs) r = step (is_free (slice_get marks q.0)) refl (free_has marks rs r)
  where
    absorbs : (b c : Bool) → b ≡ true → (b && (true || c)) ≡ true
    absorbs true c is = refl
    absorbs false c is = cc

    none : (b c : Bool) → b ≡ false → (b && c) ≡ (b && (true || c))
    none true c is = cc
    none false c is = refl

    step : (b : Bool) → is_free (slice_get marks q.0) ≡ b → has r (free_of marks rs) ≡ (is_free (slice_get marks r) && has r (numbers rs))
        → has r (if b then q.0 ∷ free_of marks rs else free_of marks rs) ≡ (is_free (slice_get marks r) && ((r == q.0) || has r (numbers rs)))
    step true is again = elim (eqb_tells r q.0) [
      | inl same ↦
          let here : is_free (slice_get marks r) ≡ true = ap (λ k. is_free (slice_get marks k)) same.1 ∙ is in
          or_left (r == q.0) (has r (free_of marks rs)) same.0
          ∙ sym (ap (λ b. is_free (slice_get marks r) && (b || has r (numbers rs))) same.0 ∙ absorbs (is_free (slice_get marks r)) (has r (numbers rs)) here)
      | inr other ↦
          ap (λ b. b || has r (free_of marks rs)) other.0 ∙ again
          ∙ sym (ap (λ b. is_free (slice_get marks r) && (b || has r (numbers rs))) other.0)
    ]
    step false is again = elim (eqb_tells r q.0) [
      | inl same ↦
          let here : is_free (slice_get marks r) ≡ false = ap (λ k. is_free (slice_get marks k)) same.1 ∙ is in
          again ∙ none (is_free (slice_get marks r)) (has r (numbers rs)) here
          ∙ sym (ap (λ b. is_free (slice_get marks r) && (b || has r (numbers rs))) same.0)
      | inr other ↦
          again ∙ sym (ap (λ b. is_free (slice_get marks r) && (b || has r (numbers rs))) other.0)
    ]

args_have : (marks : List Bool) (ts : List Target) (r : ℕ) → has r (free_args marks ts) ≡ (is_free (slice_get marks r) && has r (args_of ts))
args_have marks [] r = sym (and_false (is_free (slice_get marks r)))
  where
    and_false : (b : Bool) → (b && false) ≡ false
    and_false true = refl
    and_false false = refl
args_have marks (t ∷ ts) r =
    has_append r (free_of marks t.args) (free_args marks ts)
    ∙ ap (λ b. b || has r (free_args marks ts)) (free_has marks t.args r)
    ∙ ap (λ b. (is_free (slice_get marks r) && has r (numbers t.args)) || b) (args_have marks ts r)
    ∙ both (is_free (slice_get marks r)) (has r (numbers t.args)) (has r (args_of ts))
    ∙ ap (λ b. is_free (slice_get marks r) && b) (sym (has_append r (numbers t.args) (args_of ts)))
  where
    both : (a b c : Bool) → ((a && b) || (a && c)) ≡ (a && (b || c))
    both true b c = refl
    both false b c = refl

module _ (n r : ℕ) (inside : r < n) (t : Term) where
  -- a place of these instructions uses the register, which isn't assigned before
  record Uses (instrs : List Instr) : Type 0 where
    k : ℕ
    used : has r (used_at instrs t k) ≡ true
    fresh : has r (assigned_before instrs k) ≡ false

  -- the register is free and used by these instructions or the terminator
  abbrev Needs : List Bool → List Instr → Bool
  Needs marks instrs =
      has r (free_by marks instrs) || (has r (free_of (with_results instrs marks) t.instr.operands) || has r (free_args (with_results instrs marks) t.targets))

  not_false : (a b : Bool) → a ≡ not b → a ≡ true → b ≡ false
  not_false a true is yes' = cc
  not_false a false is yes' = refl

  is_true : (a b : Bool) → a ≡ not b → b ≡ false → a ≡ true
  is_true a true is none = cc
  is_true a false is none = is

  -- what is free among registers is used and not given
  found : (marks : List Bool) (given : ℕ → Bool) (rs : List Reg) → AreMarks n marks given → has r (free_of marks rs) ≡ true → (has r (numbers rs) ≡ true) × (given r ≡ false)
  found marks given rs is there =
      let both : (is_free (slice_get marks r) && has r (numbers rs)) ≡ true = sym (free_has marks rs r) ∙ there in (
        and_right (is_free (slice_get marks r)) (has r (numbers rs)) both,
        not_false (is_free (slice_get marks r)) (given r) (is.free r inside) (and_left (is_free (slice_get marks r)) (has r (numbers rs)) both),
      )

  found_arg : (marks : List Bool) (given : ℕ → Bool) (ts : List Target) → AreMarks n marks given → has r (free_args marks ts) ≡ true → (has r (args_of ts) ≡ true) × (given r ≡ false)
  found_arg marks given ts is there =
      let both : (is_free (slice_get marks r) && has r (args_of ts)) ≡ true = sym (args_have marks ts r) ∙ there in (
        and_right (is_free (slice_get marks r)) (has r (args_of ts)) both,
        not_false (is_free (slice_get marks r)) (given r) (is.free r inside) (and_left (is_free (slice_get marks r)) (has r (args_of ts)) both),
      )

  uses_where_needed : (instrs : List Instr) (marks : List Bool) (given : ℕ → Bool) → AreMarks n marks given → Needs marks instrs ≡ true → (given r ≡ false) × Uses instrs
  uses_where_needed [] marks given is there = elim (or_splits (has r (free_of marks t.instr.operands)) (has r (free_args marks t.targets)) there) [
    | inl operand ↦
        let f : (has r (numbers t.instr.operands) ≡ true) × (given r ≡ false) = found marks given t.instr.operands is operand in
        (f.1, record { k = 0; used = has_append r (numbers t.instr.operands) (args_of t.targets) ∙ or_left (has r (numbers t.instr.operands)) (has r (args_of t.targets)) f.0; fresh = refl })
    | inr arg ↦
        let f : (has r (args_of t.targets) ≡ true) × (given r ≡ false) = found_arg marks given t.targets is arg in
        (f.1, record { k = 0; used = has_append r (numbers t.instr.operands) (args_of t.targets) ∙ or_right (has r (numbers t.instr.operands)) (has r (args_of t.targets)) f.0; fresh = refl })
  ]
  uses_where_needed (i ∷ instrs) marks given is there =
      let marks' : List Bool = with_given i.results marks in
      let last : List Bool = with_results instrs marks' in
      let tail : Bool = has r (free_of last t.instr.operands) || has r (free_args last t.targets) in
      let split : ((has r (free_of marks i.operands) || has r (free_by marks' instrs)) || tail) ≡ true = sym (ap (λ b. b || tail) (has_append r (free_of marks i.operands) (free_by marks' instrs))) ∙ there in
      elim (or_splits (has r (free_of marks i.operands)) (has r (free_by marks' instrs) || tail) (sym (or_assoc (has r (free_of marks i.operands)) (has r (free_by marks' instrs)) tail) ∙ split)) [
        | inl operand ↦
            let f : (has r (numbers i.operands) ≡ true) × (given r ≡ false) = found marks given i.operands is operand in
            (f.1, record { k = 0; used = f.0; fresh = refl })
        | inr later ↦
            let again : ((given r || has r (numbers i.results)) ≡ false) × Uses instrs = uses_where_needed instrs marks' (λ q. given q || has q (numbers i.results)) (marks_given n i.results marks given is) later in
            let u : Uses instrs = again.1 in (
              or_none_left (given r) (has r (numbers i.results)) again.0,
              record {
                k = suc u.k;
                used = u.used;
                fresh = has_append r (numbers i.results) (assigned_before instrs u.k) ∙ or_none (has r (numbers i.results)) (has r (assigned_before instrs u.k)) (or_none_right (given r) (has r (numbers i.results)) again.0) u.fresh;
              },
            )
      ]

  free_where_used : (marks : List Bool) (given : ℕ → Bool) (rs : List Reg) → AreMarks n marks given → has r (numbers rs) ≡ true → given r ≡ false → has r (free_of marks rs) ≡ true
  free_where_used marks given rs is there none = free_has marks rs r ∙ and_both (is_free (slice_get marks r)) (has r (numbers rs)) (is_true (is_free (slice_get marks r)) (given r) (is.free r inside) none) there

  needed_where_used : (instrs : List Instr) (k : ℕ) (marks : List Bool) (given : ℕ → Bool) → AreMarks n marks given
      → has r (used_at instrs t k) ≡ true → given r ≡ false → has r (assigned_before instrs k) ≡ false → Needs marks instrs ≡ true
  needed_where_used [] (suc k) marks given is used none fresh = cc
  needed_where_used [] zero marks given is used none fresh = elim (or_splits (has r (numbers t.instr.operands)) (has r (args_of t.targets)) (sym (has_append r (numbers t.instr.operands) (args_of t.targets)) ∙ used)) [
    | inl operand ↦ or_left (has r (free_of marks t.instr.operands)) (has r (free_args marks t.targets)) (free_where_used marks given t.instr.operands is operand none)
    | inr arg ↦ or_right (has r (free_of marks t.instr.operands)) (has r (free_args marks t.targets))
        (args_have marks t.targets r ∙ and_both (is_free (slice_get marks r)) (has r (args_of t.targets)) (is_true (is_free (slice_get marks r)) (given r) (is.free r inside) none) arg)
  ]
  needed_where_used (i ∷ instrs) zero marks given is used none fresh =
      let marks' : List Bool = with_given i.results marks in
      let last : List Bool = with_results instrs marks' in
      or_left (has r (free_of marks i.operands ++ free_by marks' instrs)) (has r (free_of last t.instr.operands) || has r (free_args last t.targets))
      (has_append r (free_of marks i.operands) (free_by marks' instrs) ∙ or_left (has r (free_of marks i.operands)) (has r (free_by marks' instrs)) (free_where_used marks given i.operands is used none))
  needed_where_used (i ∷ instrs) (suc k) marks given is used none fresh =
      let marks' : List Bool = with_given i.results marks in
      let last : List Bool = with_results instrs marks' in
      let tail : Bool = has r (free_of last t.instr.operands) || has r (free_args last t.targets) in
      let split : (has r (numbers i.results) || has r (assigned_before instrs k)) ≡ false = sym (has_append r (numbers i.results) (assigned_before instrs k)) ∙ fresh in
      let none' : (given r || has r (numbers i.results)) ≡ false = or_none (given r) (has r (numbers i.results)) none (or_none_left (has r (numbers i.results)) (has r (assigned_before instrs k)) split) in
      let again : (has r (free_by marks' instrs) || tail) ≡ true = needed_where_used instrs k marks' (λ q. given q || has q (numbers i.results)) (marks_given n i.results marks given is) used none' (or_none_right (has r (numbers i.results)) (has r (assigned_before instrs k)) split) in
      ap (λ b. b || tail) (has_append r (free_of marks i.operands) (free_by marks' instrs))
      ∙ or_assoc (has r (free_of marks i.operands)) (has r (free_by marks' instrs)) tail
      ∙ or_right (has r (free_of marks i.operands)) (has r (free_by marks' instrs) || tail) again

-- ---- by function

abbrev needs_of : LowFunc → List (List ℕ)
needs_of f = map (block_frees f) f.blocks

start_marks : (f : LowFunc) (b : Block) → AreMarks (length f.regs) (given_at_start f b) (λ r. (false || has r (numbers f.params)) || has r (numbers b.params))
start_marks f b =
    marks_given (length f.regs) b.params (with_given f.params (replicate (length f.regs) false)) (λ r. false || has r (numbers f.params))
    (marks_given (length f.regs) f.params (replicate (length f.regs) false) (λ r. false) (no_marks (length f.regs)))

needs_is : (f : LowFunc) (b : Block) (r : ℕ) (inside : r < length f.regs) → has r (block_frees f b) ≡ Needs (length f.regs) r inside b.term (given_at_start f b) b.instrs
needs_is f b r inside =
    let marks : List Bool = given_at_start f b in
    let last : List Bool = with_results b.instrs marks in
    has_append r (free_by marks b.instrs ++ free_of last b.term.instr.operands) (free_args last b.term.targets)
    ∙ ap (λ x. x || has r (free_args last b.term.targets)) (has_append r (free_by marks b.instrs) (free_of last b.term.instr.operands))
    ∙ or_assoc (has r (free_by marks b.instrs)) (has r (free_of last b.term.instr.operands)) (has r (free_args last b.term.targets))

module _ (f : LowFunc) where
  abbrev Before : List ℕ → Block → ℕ → List ℕ
  Before path b k = numbers f.params ++ (assigned_on (assigns f) 0 path ++ (numbers b.params ++ assigned_before b.instrs k))

  before_is : (path : List ℕ) (b : Block) (k r : ℕ) → has r (Before path b k) ≡ (has r (numbers f.params) || (has r (assigned_on (assigns f) 0 path) || (has r (numbers b.params) || has r (assigned_before b.instrs k))))
  before_is path b k r =
      has_append r (numbers f.params) (assigned_on (assigns f) 0 path ++ (numbers b.params ++ assigned_before b.instrs k))
      ∙ ap (λ x. has r (numbers f.params) || x) (has_append r (assigned_on (assigns f) 0 path) (numbers b.params ++ assigned_before b.instrs k)
      ∙ ap (λ x. has r (assigned_on (assigns f) 0 path) || x) (has_append r (numbers b.params) (assigned_before b.instrs k)))

  pub uses_assigned : AllAssigned (edges f) (assigns f) (needs_of f) (length f.regs) → UsesAssigned f
  uses_assigned all = λ path b k r follows at inside used. elim (is_either (has r (Before path b k))) [
    | inl is ↦ is
    | inr none ↦
        let p : Bool = has r (numbers f.params) in
        let a : Bool = has r (assigned_on (assigns f) 0 path) in
        let q : Bool = has r (numbers b.params) in
        let e : Bool = has r (assigned_before b.instrs k) in
        let parts : (p || (a || (q || e))) ≡ false = sym (before_is path b k r) ∙ none in
        let rest : (a || (q || e)) ≡ false = or_none_right p (a || (q || e)) parts in
        let own : (q || e) ≡ false = or_none_right a (q || e) rest in
        let given : ((false || p) || q) ≡ false = or_none p q (or_none_left p (a || (q || e)) parts) (or_none_left q e own) in
        let needs : has r (block_frees f b) ≡ true = needs_is f b r inside
        ∙ needed_where_used (length f.regs) r inside b.term b.instrs k (given_at_start f b) (λ s. (false || has s (numbers f.params)) || has s (numbers b.params)) (start_marks f b) used given (or_none_right q e own) in
        let there : has r (list_at (needs_of f) (last_of 0 path)) ≡ true = ap (λ xs. has r xs) (mapped_at (block_frees f) f.blocks (last_of 0 path) b at) ∙ needs in
        let is : a ≡ true = all path r follows inside there in
        let no' : a ≡ false = or_none_left a (q || e) rest in
        cc
  ]

  pub all_assigned_where : UsesAssigned f → AllAssigned (edges f) (assigns f) (needs_of f) (length f.regs)
  all_assigned_where uses = λ path r follows inside needed.
      let s : Stands (block_frees f) f.blocks (last_of 0 path) r = mapped_has (block_frees f) f.blocks (last_of 0 path) r needed in
      let b : Block = s.here in
      let u : (((false || has r (numbers f.params)) || has r (numbers b.params)) ≡ false) × Uses (length f.regs) r inside b.term b.instrs =
      uses_where_needed (length f.regs) r inside b.term b.instrs (given_at_start f b) (λ q. (false || has q (numbers f.params)) || has q (numbers b.params)) (start_marks f b) (sym (needs_is f b r inside) ∙ s.holds) in
      let w : Uses (length f.regs) r inside b.term b.instrs = u.1 in
      let p : Bool = has r (numbers f.params) in
      let a : Bool = has r (assigned_on (assigns f) 0 path) in
      let q : Bool = has r (numbers b.params) in
      let e : Bool = has r (assigned_before b.instrs w.k) in
      let all : (p || (a || (q || e))) ≡ true = sym (before_is path b w.k r) ∙ uses path b w.k r follows s.at inside w.used in
      let not_p : p ≡ false = or_none_left p q u.0 in
      let not_own : (q || e) ≡ false = or_none q e (or_none_right p q u.0) w.fresh in
      elim (or_splits p (a || (q || e)) all) [
        | inl x ↦ cc
        | inr more ↦ elim (or_splits a (q || e) more) [ inl is ↦ is | inr x ↦ cc ]
      ]
