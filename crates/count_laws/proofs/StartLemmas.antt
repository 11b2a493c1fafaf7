-- Where a block begins, the number of a counted register becomes 1 or 0, as the register is live there or not.
use Rattle.std.proofs.Common.{◌≡◌, ◌⊎◌, inl, inr, ℕ, zero, suc, ◌+◌, ◌-◌, ◌<◌, ◌≤◌, ◌==◌, ◌||◌, ◌&&◌, not, if◌then◌else◌, Bool, true, false, List, [], ◌∷◌, ◌++◌, length, Option, Some, refl, sym, ap, ◌∙◌, arith, subst, add-one}
use Rattle.std.specs.Prelude.{slice_get}
use Rattle.std.proofs.lemmas.Bool.Decides.{eqb_tells, nat_tests}
use Rattle.ir_forms.specs.declared.types.Ty.{Ty}
use Rattle.low_flow.specs.Lists.{has, list_at}
use Rattle.low_forms.specs.declared.code.Reg.{Reg}
use Rattle.low_forms.specs.declared.code.Block.{Block}
use Rattle.low_forms.specs.declared.code.LowFunc.{LowFunc}
use Rattle.low_forms.specs.Registers.{on_type}
use Rattle.low_forms.specs.Assigned.{numbers}
use Rattle.low_forms.specs.Edges.{edges}
use Rattle.low_forms.specs.Owns.{is_object, params_of}
use Rattle.live_truths.specs.Truths.{is_live}
use Rattle.ref_counting.specs.Objects.{is_counted, created, counted_from, counted}
use Rattle.ref_counting.specs.Shape as shape
use Rattle.count_laws.specs.Laws.{along, allowed, one_if, arriving}
use Rattle.count_laws.proofs.OrderLemmas.{Ascends, not_later, or_splits}
use Rattle.count_laws.proofs.NumberLemmas as number
use Rattle.count_laws.proofs.RowLemmas.{below}

and_first : (a b : Bool) → (a && b) ≡ true → a ≡ true
and_first true b is = refl
and_first false b is = cc

-- ---- the counted registers, in order

counted_low : (f : LowFunc) (types : List Ty) (n x : ℕ) → has x (counted_from f n types) ≡ true → n ≤ x
counted_low f [] n x is = cc
counted_low f (t ∷ types) n x is = step (λ there. (let e : n + 1 ≤ x = counted_low f types (n + 1) x there in omega (arith, e))) (is_counted f n) is
  where
    step : (has x (counted_from f (n + 1) types) ≡ true → n ≤ x) → (b : Bool) → has x ((if b then n ∷ [] else []) ++ counted_from f (n + 1) types) ≡ true → n ≤ x
    step later false there = later there
    step later true there = elim (or_splits (x == n) (has x (counted_from f (n + 1) types)) there) [
      | inl now ↦ (let e : x ≡ n = number.same_number x n now in omega (arith, e))
      | inr then_on ↦ later then_on
    ]

pub counted_ascends : (f : LowFunc) (types : List Ty) (n : ℕ) → Ascends (counted_from f n types)
counted_ascends f [] n = tt
counted_ascends f (t ∷ types) n = step (counted_ascends f types (n + 1)) (is_counted f n)
  where
    step : Ascends (counted_from f (n + 1) types) → (b : Bool) → Ascends ((if b then n ∷ [] else []) ++ counted_from f (n + 1) types)
    step later false = later
    step later true = ((λ x there. (let e : n + 1 ≤ x = counted_low f types (n + 1) x there in omega (arith, e))), later)

pub counted_has : (f : LowFunc) (types : List Ty) (n r : ℕ) → n ≤ r → r < n + length types → is_counted f r ≡ true → has r (counted_from f n types) ≡ true
counted_has f [] n r low high is = absurd (omega (arith, low, high))
counted_has f (t ∷ types) n r low high is = elim (eqb_tells r n) [
  | inl same ↦
      let e : is_counted f n ≡ true = ap (λ x. is_counted f x) (sym same.1) ∙ is in
      ap (λ b. has r ((if b then n ∷ [] else []) ++ counted_from f (n + 1) types)) e ∙ number.or_left (r == n) (has r (counted_from f (n + 1) types)) same.0
  | inr other ↦
      let more : has r (counted_from f (n + 1) types) ≡ true = counted_has f types (n + 1) r (let e : r ≡ n → ⊥ = other.1 in omega (arith, low, e)) (omega (arith, high)) is in
      step (is_counted f n) more
]
  where
    step : (b : Bool) → has r (counted_from f (n + 1) types) ≡ true → has r ((if b then n ∷ [] else []) ++ counted_from f (n + 1) types) ≡ true
    step true more = number.or_right (r == n) (has r (counted_from f (n + 1) types)) more
    step false more = more

-- ---- drops where a block begins

module _ (f : LowFunc) (c : ℕ) (params : List Reg) (others : List ℕ) (r : ℕ) where
  abbrev ends : ℕ → Bool
  ends q = shape.ends_here f c params others q

  along_one : (q n : ℕ) → along f r (shape.dropped_one f c params others q) n ≡ n - (if (r == q) && ends q then 1 else 0)
  along_one q n = step (ends q)
    where
      and_false : (a : Bool) → (a && false) ≡ false
      and_false true = refl
      and_false false = refl

      and_true : (a : Bool) → (a && true) ≡ a
      and_true true = refl
      and_true false = refl

      step : (b : Bool) → along f r (if b then shape.drop_ref q ∷ [] else []) n ≡ n - (if (r == q) && b then 1 else 0)
      step true = number.after_drop f r q n ∙ ap (λ x. n - (if x then 1 else 0)) (sym (and_true (r == q)))
      step false = sym (ap (λ x. n - (if x then 1 else 0)) (and_false (r == q)) ∙ number.less_none n)

  allowed_one : (q n : ℕ) → ((r == q) ≡ true → ends q ≡ true → 1 ≤ n) → allowed f r (shape.dropped_one f c params others q) n ≡ true
  allowed_one q n enough = step (ends q) refl
    where
      step : (b : Bool) → ends q ≡ b → allowed f r (if b then shape.drop_ref q ∷ [] else []) n ≡ true
      step true is = number.and_all _ true (number.allows_drop f r q n (λ same. enough same is)) refl
      step false is = refl

  pub along_dropped : (qs : List ℕ) (n : ℕ) → Ascends qs → along f r (shape.dropped_here f c params others qs) n ≡ n - (if has r qs && ends r then 1 else 0)
  along_dropped [] n up = omega arith
  along_dropped (q ∷ qs) n up =
      number.along_append f r (shape.dropped_one f c params others q) (shape.dropped_here f c params others qs) n
      ∙ along_dropped qs (along f r (shape.dropped_one f c params others q) n) up.1 ∙ ap (λ m. m - (if has r qs && ends r then 1 else 0)) (along_one q n) ∙ step (r == q) refl
    where
      step : (b : Bool) → (r == q) ≡ b → (n - (if (r == q) && ends q then 1 else 0)) - (if has r qs && ends r then 1 else 0) ≡ n - (if (b || has r qs) && ends r then 1 else 0)
      step true is =
          ap (λ b. (n - (if b && ends q then 1 else 0)) - (if has r qs && ends r then 1 else 0)) is
          ∙ ap (λ b. (n - (if ends q then 1 else 0)) - (if b && ends r then 1 else 0)) (not_later r q qs up is) ∙ number.less_none (n - (if ends q then 1 else 0))
          ∙ ap (λ x. n - (if ends x then 1 else 0)) (sym (number.same_number r q is))
      step false is = ap (λ b. (n - (if b && ends q then 1 else 0)) - (if has r qs && ends r then 1 else 0)) is ∙ ap (λ m. m - (if has r qs && ends r then 1 else 0)) (number.less_none n)

  pub allowed_dropped : (qs : List ℕ) (n : ℕ) → Ascends qs → (has r qs ≡ true → ends r ≡ true → 1 ≤ n) → allowed f r (shape.dropped_here f c params others qs) n ≡ true
  allowed_dropped [] n up enough = refl
  allowed_dropped (q ∷ qs) n up enough =
      number.allowed_append f r (shape.dropped_one f c params others q) (shape.dropped_here f c params others qs) n
      ∙ number.and_all _ _
      (allowed_one q n (λ same dead. enough (number.or_left (r == q) (has r qs) same) (ap (λ x. ends x) (number.same_number r q same) ∙ dead)))
      (allowed_dropped qs (along f r (shape.dropped_one f c params others q) n) up.1 (λ there dead. later there dead (r == q) refl))
    where
      later : has r qs ≡ true → ends r ≡ true → (b : Bool) → (r == q) ≡ b → 1 ≤ along f r (shape.dropped_one f c params others q) n
      later there dead true same = (let none : has r qs ≡ false = not_later r q qs up same in cc)
      later there dead false same =
          let e : 1 ≤ n = enough (number.or_right (r == q) (has r qs) there) dead in
          let a : along f r (shape.dropped_one f c params others q) n ≡ n = along_one q n ∙ ap (λ b. n - (if b && ends q then 1 else 0)) same ∙ number.less_none n in
          omega (arith, e, a)

-- ---- all together

-- by truths: the register is a parameter, live where the block begins, live over an edge of the block before, and over an
-- edge to a block beside
start_with : (param live over beside : Bool) → (param ≡ true → beside ≡ false) → (param ≡ false → live ≡ true → over ≡ true)
    → (param ≡ false → (beside ≡ over) ⊎ ((beside ≡ false) × (over ≡ live)))
    → (((if param then 1 else one_if over) - (if true && ((param && not live) || (beside && not (not param && live))) then 1 else 0)) ≡ one_if live)
    × (((param && not live) || (beside && not (not param && live))) ≡ true → 1 ≤ (if param then 1 else one_if over))
start_with true true over true alone goes sides = (let e : true ≡ false = alone refl in cc)
start_with true true over false alone goes sides = (omega arith, λ is. omega arith)
start_with true false over true alone goes sides = (let e : true ≡ false = alone refl in cc)
start_with true false over false alone goes sides = (omega arith, λ is. omega arith)
start_with false true true true alone goes sides = (omega arith, λ is. omega arith)
start_with false true true false alone goes sides = (omega arith, λ is. omega arith)
start_with false true false beside alone goes sides = (let e : false ≡ true = goes refl refl in cc)
start_with false false true true alone goes sides = (omega arith, λ is. omega arith)
start_with false false true false alone goes sides = elim (sides refl) [
  | inl same ↦ (let e : false ≡ true = same in cc)
  | inr both ↦ (let e : true ≡ false = both.1 in cc)
]
start_with false false false true alone goes sides = elim (sides refl) [
  | inl same ↦ (let e : true ≡ false = same in cc)
  | inr both ↦ (let e : true ≡ false = both.0 in cc)
]
start_with false false false false alone goes sides = (omega arith, λ is. cc)

over_some : (f : LowFunc) (r c : ℕ) (cs : List ℕ) → has c cs ≡ true → shape.is_live_into f r c ≡ true → shape.is_live_over f r cs ≡ true
over_some f r c [] there is = cc
over_some f r c (d ∷ cs) there is = elim (or_splits (c == d) (has c cs) there) [
  | inl now ↦ number.or_left (shape.is_live_into f r d) (shape.is_live_over f r cs) (subst (λ x. shape.is_live_into f r x ≡ true) (number.same_number c d now) is)
  | inr later ↦ number.or_right (shape.is_live_into f r d) (shape.is_live_over f r cs) (over_some f r c cs later is)
]

module _ (f : LowFunc) (c p r : ℕ) (b : Block) (at : slice_get f.blocks c ≡ Some b) (is_it : is_counted f r ≡ true) (edge : has c (list_at (edges f) p) ≡ true)
    (sides : (shape.beside f c ≡ list_at (edges f) p) ⊎ ((shape.beside f c ≡ []) × (list_at (edges f) p ≡ c ∷ [])))
    (alone : has r (numbers b.params) ≡ true → shape.is_live_over f r (shape.beside f c) ≡ false) where
  abbrev param : Bool
  param = has r (numbers b.params)

  abbrev live : Bool
  live = is_live f c 0 r

  into_is : shape.is_live_into f r c ≡ (not param && live)
  into_is = ap (λ (o : Option Block). not (has r (numbers (params_of o))) && live) at

  all_is : has r (counted f) ≡ true
  all_is = counted_has f f.regs 0 r (omega arith) (let e : r < length f.regs = below f.regs r (and_first (on_type is_object (slice_get f.regs r)) (not (has r (created f))) is_it) in omega (arith, e)) is_it

  abbrev over : Bool
  over = shape.is_live_over f r (list_at (edges f) p)

  abbrev next : Bool
  next = shape.is_live_over f r (shape.beside f c)

  into_live : param ≡ false → shape.is_live_into f r c ≡ live
  into_live no_param = into_is ∙ ap (λ x. not x && live) no_param

  abbrev here : Bool
  here = (param && not live) || (next && not (not param && live))

  ends_is : shape.ends_here f c b.params (shape.beside f c) r ≡ here
  ends_is = ap (λ x. (param && not live) || (next && not x)) into_is

  by_truth : (arriving f r b.params (list_at (edges f) p) - (if true && here then 1 else 0) ≡ one_if live) × (here ≡ true → 1 ≤ arriving f r b.params (list_at (edges f) p))
  by_truth = start_with param live over next alone
      (λ no_param lives. over_some f r c (list_at (edges f) p) edge (into_live no_param ∙ lives))
      (λ no_param. elim sides [
        | inl same ↦ inl (ap (λ (cs : List ℕ). shape.is_live_over f r cs) same)
        | inr both ↦ inr (ap (λ (cs : List ℕ). shape.is_live_over f r cs) both.0, ap (λ (cs : List ℕ). shape.is_live_over f r cs) both.1 ∙ or_none (shape.is_live_into f r c) ∙ into_live no_param)
      ])
    where
      or_none : (a : Bool) → (a || false) ≡ a
      or_none true = refl
      or_none false = refl

  pub start_is : along f r (shape.dropped_here f c b.params (shape.beside f c) (counted f)) (arriving f r b.params (list_at (edges f) p)) ≡ one_if live
  start_is =
      along_dropped f c b.params (shape.beside f c) r (counted f) (arriving f r b.params (list_at (edges f) p)) (counted_ascends f f.regs 0)
      ∙ ap (λ x. arriving f r b.params (list_at (edges f) p) - (if x && shape.ends_here f c b.params (shape.beside f c) r then 1 else 0)) all_is
      ∙ ap (λ x. arriving f r b.params (list_at (edges f) p) - (if true && x then 1 else 0)) ends_is ∙ by_truth.0

  pub allowed_start : allowed f r (shape.dropped_here f c b.params (shape.beside f c) (counted f)) (arriving f r b.params (list_at (edges f) p)) ≡ true
  allowed_start = allowed_dropped f c b.params (shape.beside f c) r (counted f) (arriving f r b.params (list_at (edges f) p)) (counted_ascends f f.regs 0)
      (λ there ends. by_truth.1 (sym ends_is ∙ ends))

pub starts_follow : (f : LowFunc) (c p r : ℕ) (b : Block) → slice_get f.blocks c ≡ Some b → is_counted f r ≡ true → has c (list_at (edges f) p) ≡ true
    → (shape.beside f c ≡ list_at (edges f) p) ⊎ ((shape.beside f c ≡ []) × (list_at (edges f) p ≡ c ∷ []))
    → (has r (numbers b.params) ≡ true → shape.is_live_over f r (shape.beside f c) ≡ false)
    → (along f r (shape.dropped_here f c b.params (shape.beside f c) (counted f)) (arriving f r b.params (list_at (edges f) p)) ≡ one_if (is_live f c 0 r))
    × (allowed f r (shape.dropped_here f c b.params (shape.beside f c) (counted f)) (arriving f r b.params (list_at (edges f) p)) ≡ true)
starts_follow f c p r b at is_it edge sides alone = (start_is f c p r b at is_it edge sides alone, allowed_start f c p r b at is_it edge sides alone)
