-- Along a block with counts the number of a register follows its liveness.
use Rattle.std.proofs.Common.{◌≡◌, ◌⊎◌, inl, inr, ℕ, zero, suc, ◌+◌, ◌-◌, ◌≤◌, ◌<◌, ◌==◌, ◌&&◌, ◌||◌, not, if◌then◌else◌, Bool, true, false, List, [], ◌∷◌, ◌++◌, length, Option, Some, refl, sym, ap, ◌∙◌, arith, subst}
use Rattle.std.specs.Prelude.{slice_get, ⊤}
use Rattle.std.proofs.lemmas.Bool.Decides.{nat_tests}
use Rattle.low_flow.specs.Lists.{has, list_at}
use Rattle.low_forms.specs.declared.code.Reg.{Reg}
use Rattle.low_forms.specs.declared.code.Instr.{Instr}
use Rattle.low_forms.specs.declared.code.Block.{Block}
use Rattle.low_forms.specs.declared.code.LowFunc.{LowFunc}
use Rattle.low_forms.specs.Registers.{on_type, every}
use Rattle.low_forms.specs.Assigned.{numbers}
use Rattle.low_forms.specs.Edges.{edges, count_to}
use Rattle.low_forms.specs.Owns.{is_object, takes_at_end}
use Rattle.low_forms.specs.Saves.{is_save}
use Rattle.live_truths.specs.Truths.{is_live}
use Rattle.own_tables.specs.Owns.{left}
use Rattle.ref_counting.specs.Objects.{is_counted, counted, created, taken, taken_at_end, is_return, with_counted, touched}
use Rattle.ref_counting.specs.Shape as shape
use Rattle.count_laws.specs.Laws.{along, allowed, one_if, arriving}
use Rattle.count_laws.proofs.NumberLemmas as number
use Rattle.count_laws.proofs.RowLemmas.{below, rows_follow}
use Rattle.count_laws.proofs.EndLemmas.{ends_follow}
use Rattle.count_laws.proofs.StartLemmas.{starts_follow, along_dropped, allowed_dropped, counted_ascends, counted_has}
use Rattle.owned_laws.specs.Laws.{or_alone, coming, number_at_start, IsUncounted}
use Rattle.owned_laws.proofs.Along.{and_first, and_second}

-- ---- no saves

abbrev pub calm : List Instr → Bool
calm instrs = every (λ i. if is_save i.kind then false else true) instrs

pub calm_append : (xs ys : List Instr) → calm xs ≡ true → calm ys ≡ true → calm (xs ++ ys) ≡ true
calm_append [] ys one other = other
calm_append (x ∷ xs) ys one other = number.and_all (if is_save x.kind then false else true) (calm (xs ++ ys)) (and_first (if is_save x.kind then false else true) (calm xs) one)
    (calm_append xs ys (and_second (if is_save x.kind then false else true) (calm xs) one) other)

pub calm_at : (xs : List Instr) (k : ℕ) (i : Instr) → calm xs ≡ true → slice_get xs k ≡ Some i → is_save i.kind ≡ false
calm_at [] k i all is = cc
calm_at (x ∷ xs) zero i all is = (let e : x ≡ i = cc in subst (λ (y : Instr). is_save y.kind ≡ false) e (step (is_save x.kind) (and_first (if is_save x.kind then false else true) (calm xs) all)))
  where
    step : (b : Bool) → (if b then false else true) ≡ true → b ≡ false
    step true holds = cc
    step false holds = refl
calm_at (x ∷ xs) (suc k) i all is = calm_at xs k i (and_second (if is_save x.kind then false else true) (calm xs) all) is

module _ (f : LowFunc) where
  calm_dropped : (c : ℕ) (params : List Reg) (others qs : List ℕ) → calm (shape.dropped_here f c params others qs) ≡ true
  calm_dropped c params others [] = refl
  calm_dropped c params others (q ∷ qs) = calm_append (shape.dropped_one f c params others q) (shape.dropped_here f c params others qs) (step (shape.ends_here f c params others q)) (calm_dropped c params others qs)
    where
      step : (b : Bool) → calm (if b then shape.drop_ref q ∷ [] else []) ≡ true
      step true = refl
      step false = refl

  calm_starts : (c : ℕ) (b : Block) → calm (shape.starts f c b) ≡ true
  calm_starts c b = calm_append (shape.dropped_first f c) (shape.dropped_at f c b) (step (c == 0)) (then_on (shape.is_this c (shape.suspended f.blocks)))
    where
      step : (x : Bool) → calm (if x then shape.dropped_here f 0 f.params [] (counted f) else []) ≡ true
      step true = calm_dropped 0 f.params [] (counted f)
      step false = refl

      then_on : (x : Bool) → calm (if x then [] else shape.dropped_here f c b.params (shape.beside f c) (counted f)) ≡ true
      then_on true = refl
      then_on false = calm_dropped c b.params (shape.beside f c) (counted f)

  calm_adds : (all : List Reg) (rs : List ℕ) → calm (shape.adds all rs) ≡ true
  calm_adds all [] = refl
  calm_adds all (r ∷ rs) = calm_adds all rs

  calm_drops : (c row : ℕ) (rs : List ℕ) → calm (shape.drops f c row rs) ≡ true
  calm_drops c row [] = refl
  calm_drops c row (r ∷ rs) = calm_append (shape.dropped_dead f c row r) (shape.drops f c row rs) (step (is_live f c row r)) (calm_drops c row rs)
    where
      step : (b : Bool) → calm (if b then [] else shape.drop_ref r ∷ []) ≡ true
      step true = refl
      step false = refl

  calm_rows : (c row : ℕ) (instrs : List Instr) → calm instrs ≡ true → calm (shape.rows f c row instrs) ≡ true
  calm_rows c row [] all = refl
  calm_rows c row (i ∷ instrs) all = calm_append (shape.around f c row i) (shape.rows f c (row + 1) instrs)
      (calm_append (shape.adds (taken i) (with_counted f (taken i) [])) (i ∷ shape.drops f c (row + 1) (touched f i)) (calm_adds (taken i) (with_counted f (taken i) []))
      (number.and_all (if is_save i.kind then false else true) (calm (shape.drops f c (row + 1) (touched f i))) (and_first (if is_save i.kind then false else true) (calm instrs) all) (calm_drops c (row + 1) (touched f i))))
      (calm_rows c (row + 1) instrs (and_second (if is_save i.kind then false else true) (calm instrs) all))

  calm_ends : (targets : List ℕ) (returns : Bool) (all : List Reg) (rs : List ℕ) → calm (shape.ends f targets returns all rs) ≡ true
  calm_ends targets returns all [] = refl
  calm_ends targets returns all (r ∷ rs) = calm_append (shape.counts_at_end f targets returns r (shape.times r all)) (shape.ends f targets returns all rs) (step returns) (calm_ends targets returns all rs)
    where
      once : (b : Bool) → calm (if b then shape.add_ref r (shape.times r all - 1) ∷ [] else []) ≡ true
      once true = refl
      once false = refl

      behind : (b : Bool) → calm (shape.add_ref r (shape.times r all) ∷ (if b then [] else shape.drop_ref r ∷ [])) ≡ true
      behind true = refl
      behind false = refl

      step : (b : Bool) → calm (shape.counts_at_end f targets b r (shape.times r all)) ≡ true
      step true = once _
      step false = behind (shape.is_live_over f r targets)

  pub calm_block : (c : ℕ) (b : Block) → calm b.instrs ≡ true → calm (shape.counted_block f c b).instrs ≡ true
  calm_block c b all = calm_append (shape.starts f c b) (shape.rows f c 0 b.instrs ++ shape.before_end f c b.term) (calm_starts c b)
      (calm_append (shape.rows f c 0 b.instrs) (shape.before_end f c b.term) (calm_rows c 0 b.instrs all)
      (calm_ends (list_at (edges f) c) (is_return b.term.instr.kind) (taken_at_end b.term) (with_counted f (taken_at_end b.term) [])))

-- ---- where a block is entered

-- an edge leads to the block, unless it is the first one
abbrev pub IsEntered : LowFunc → ℕ → Type 0
IsEntered f zero = ⊤
IsEntered f (suc c) = (p : ℕ) × (has (suc c) (list_at (edges f) p) ≡ true)

pub or_alone_is : (c : ℕ) (others targets : List ℕ) → has c targets ≡ true → (others ≡ targets) ⊎ ((others ≡ []) × (targets ≡ c ∷ [])) → or_alone c others ≡ targets
or_alone_is c others targets there (inl same) = subst (λ xs. or_alone c xs ≡ targets) (sym same) (step targets there)
  where
    step : (xs : List ℕ) → has c xs ≡ true → or_alone c xs ≡ xs
    step [] is = cc
    step (x ∷ xs) is = refl
or_alone_is c others targets there (inr both) = subst (λ xs. or_alone c xs ≡ targets) (sym both.0) (sym both.1)

none_dropped : (f : LowFunc) (c : ℕ) (qs : List ℕ) → shape.dropped_here f c [] [] qs ≡ []
none_dropped f c [] = refl
none_dropped f c (q ∷ qs) = none_dropped f c qs

-- by truths: a parameter, and live
first_by_truth : (param live : Bool) → (live ≡ true → param ≡ true)
    → (one_if param - (if true && ((param && not live) || false) then 1 else 0) ≡ one_if live) × (((param && not live) || false) ≡ true → 1 ≤ one_if param)
first_by_truth true true given = (refl, λ is. cc)
first_by_truth true false given = (refl, λ is. omega arith)
first_by_truth false true given = (let e : false ≡ true = given refl in cc)
first_by_truth false false given = (refl, λ is. cc)

module _ (f : LowFunc) (u : IsUncounted f) (r : ℕ) (it : is_counted f r ≡ true) where
  there : has r (counted f) ≡ true
  there = counted_has f f.regs 0 r (omega arith)
      (let e : r < length f.regs = below f.regs r (and_first (on_type is_object (slice_get f.regs r)) (not (has r (created f))) it) in omega (arith, e)) it

  -- the drops at a function's start
  first_is : (along f r (shape.dropped_here f 0 f.params [] (counted f)) (one_if (has r (numbers f.params))) ≡ one_if (is_live f 0 0 r))
      × (allowed f r (shape.dropped_here f 0 f.params [] (counted f)) (one_if (has r (numbers f.params))) ≡ true)
  first_is = (
    along_dropped f 0 f.params [] r (counted f) (one_if (has r (numbers f.params))) (counted_ascends f f.regs 0)
        ∙ ap (λ x. one_if (has r (numbers f.params)) - (if x && shape.ends_here f 0 f.params [] r then 1 else 0)) there
        ∙ (first_by_truth (has r (numbers f.params)) (is_live f 0 0 r) (u.starts_with r it)).0,
    allowed_dropped f 0 f.params [] r (counted f) (one_if (has r (numbers f.params))) (counted_ascends f f.regs 0)
        (λ named ends. (first_by_truth (has r (numbers f.params)) (is_live f 0 0 r) (u.starts_with r it)).1 ends),
  )

  at_first : (b : Block) → slice_get f.blocks 0 ≡ Some b → shape.starts f 0 b ≡ shape.dropped_here f 0 f.params [] (counted f) ++ []
  at_first b is =
      ap (λ (o : Option ℕ). shape.dropped_here f 0 f.params [] (counted f) ++ (if shape.is_this 0 o then [] else shape.dropped_here f 0 b.params (shape.beside f 0) (counted f))) u.goes_on
      ∙ ap (λ params. shape.dropped_here f 0 f.params [] (counted f) ++ shape.dropped_here f 0 params (shape.beside f 0) (counted f)) (u.start b is)
      ∙ ap (λ others. shape.dropped_here f 0 f.params [] (counted f) ++ shape.dropped_here f 0 [] others (counted f)) u.none_to_start
      ∙ ap (λ rest. shape.dropped_here f 0 f.params [] (counted f) ++ rest) (none_dropped f 0 (counted f))

  at_later : (c : ℕ) (b : Block) → shape.starts f (suc c) b ≡ shape.dropped_here f (suc c) b.params (shape.beside f (suc c)) (counted f)
  at_later c b =
      ap (λ x. (if x then shape.dropped_here f 0 f.params [] (counted f) else []) ++ shape.dropped_at f (suc c) b) not_first
      ∙ ap (λ (o : Option ℕ). (if shape.is_this (suc c) o then [] else shape.dropped_here f (suc c) b.params (shape.beside f (suc c)) (counted f))) u.goes_on
    where
      not_first : (suc c == 0) ≡ false
      not_first = grind (arith, nat_tests)

  -- what comes to a block from the one before it
  pub coming_is : (c p : ℕ) (b : Block) → slice_get f.blocks (suc c) ≡ Some b → has (suc c) (list_at (edges f) p) ≡ true
      → number_at_start f (suc c) r ≡ arriving f r b.params (list_at (edges f) p)
  coming_is c p b is edge =
      ap (λ (o : Option Block). coming f (suc c) r o) is
      ∙ ap (λ targets. arriving f r b.params targets) (or_alone_is (suc c) (shape.beside f (suc c)) (list_at (edges f) p) edge (u.sides p (suc c) edge))

  starts_go : (c : ℕ) (b : Block) → slice_get f.blocks c ≡ Some b → IsEntered f c
      → (along f r (shape.starts f c b) (number_at_start f c r) ≡ one_if (is_live f c 0 r)) × (allowed f r (shape.starts f c b) (number_at_start f c r) ≡ true)
  starts_go zero b is entered = (
    ap (λ xs. along f r xs (one_if (has r (numbers f.params)))) (at_first b is)
        ∙ number.along_append f r (shape.dropped_here f 0 f.params [] (counted f)) [] (one_if (has r (numbers f.params))) ∙ first_is.0,
    ap (λ xs. allowed f r xs (one_if (has r (numbers f.params)))) (at_first b is)
        ∙ number.allowed_append f r (shape.dropped_here f 0 f.params [] (counted f)) [] (one_if (has r (numbers f.params)))
        ∙ number.and_all (allowed f r (shape.dropped_here f 0 f.params [] (counted f)) (one_if (has r (numbers f.params)))) true first_is.1 refl,
  )
  starts_go (suc c) b is entered = (
    ap (λ xs. along f r xs (number_at_start f (suc c) r)) (at_later c b)
        ∙ ap (λ n. along f r (shape.dropped_here f (suc c) b.params (shape.beside f (suc c)) (counted f)) n) (coming_is c entered.0 b is entered.1) ∙ law.0,
    ap (λ xs. allowed f r xs (number_at_start f (suc c) r)) (at_later c b)
        ∙ ap (λ n. allowed f r (shape.dropped_here f (suc c) b.params (shape.beside f (suc c)) (counted f)) n) (coming_is c entered.0 b is entered.1) ∙ law.1,
  )
    where
      law : (along f r (shape.dropped_here f (suc c) b.params (shape.beside f (suc c)) (counted f)) (arriving f r b.params (list_at (edges f) entered.0)) ≡ one_if (is_live f (suc c) 0 r))
          × (allowed f r (shape.dropped_here f (suc c) b.params (shape.beside f (suc c)) (counted f)) (arriving f r b.params (list_at (edges f) entered.0)) ≡ true)
      law = starts_follow f (suc c) entered.0 r b is it entered.1 (u.sides entered.0 (suc c) entered.1) (λ named. u.alone (suc c) r b is named)

  rows_go : (c : ℕ) (b : Block) → slice_get f.blocks c ≡ Some b → (instrs : List Instr) (row : ℕ)
      → ((j : ℕ) (i : Instr) → slice_get instrs j ≡ Some i → slice_get b.instrs (row + j) ≡ Some i)
      → (along f r (shape.rows f c row instrs) (one_if (is_live f c row r)) ≡ one_if (is_live f c (row + length instrs) r))
      × (allowed f r (shape.rows f c row instrs) (one_if (is_live f c row r)) ≡ true)
  rows_go c b is [] row named = ((let e : row ≡ row + 0 = omega arith in ap (λ n. one_if (is_live f c n r)) e), refl)
  rows_go c b is (i ∷ instrs) row named = step (rows_go c b is instrs (row + 1) (λ j d at. (let e : row + suc j ≡ row + 1 + j = omega arith in subst (λ n. slice_get b.instrs n ≡ Some d) e (named (suc j) d at))))
    where
      first : slice_get b.instrs row ≡ Some i
      first = (let e : row + 0 ≡ row = omega arith in subst (λ n. slice_get b.instrs n ≡ Some i) e (named 0 i refl))

      now : (along f r (shape.around f c row i) (one_if (is_live f c row r)) ≡ one_if (is_live f c (row + 1) r)) × (allowed f r (shape.around f c row i) (one_if (is_live f c row r)) ≡ true)
      now = rows_follow f c row r b i is first it (u.rows c row r b i is first it)

      step : (along f r (shape.rows f c (row + 1) instrs) (one_if (is_live f c (row + 1) r)) ≡ one_if (is_live f c (row + 1 + length instrs) r))
          × (allowed f r (shape.rows f c (row + 1) instrs) (one_if (is_live f c (row + 1) r)) ≡ true)
          → (along f r (shape.rows f c row (i ∷ instrs)) (one_if (is_live f c row r)) ≡ one_if (is_live f c (row + suc (length instrs)) r))
          × (allowed f r (shape.rows f c row (i ∷ instrs)) (one_if (is_live f c row r)) ≡ true)
      step later = (
        number.along_append f r (shape.around f c row i) (shape.rows f c (row + 1) instrs) (one_if (is_live f c row r))
            ∙ ap (λ n. along f r (shape.rows f c (row + 1) instrs) n) now.0 ∙ later.0 ∙ (let e : row + 1 + length instrs ≡ row + suc (length instrs) = omega arith in ap (λ n. one_if (is_live f c n r)) e),
        number.allowed_append f r (shape.around f c row i) (shape.rows f c (row + 1) instrs) (one_if (is_live f c row r))
            ∙ number.and_all (allowed f r (shape.around f c row i) (one_if (is_live f c row r))) (allowed f r (shape.rows f c (row + 1) instrs) (along f r (shape.around f c row i) (one_if (is_live f c row r)))) now.1
            (ap (λ n. allowed f r (shape.rows f c (row + 1) instrs) n) now.0 ∙ later.1),
      )

  -- along a whole block
  module _ (c : ℕ) (b : Block) (is : slice_get f.blocks c ≡ Some b) (entered : IsEntered f c) where
    abbrev at_end : ℕ
    at_end = one_if (is_live f c (length b.instrs) r)

    all_rows : (along f r (shape.rows f c 0 b.instrs) (one_if (is_live f c 0 r)) ≡ at_end) × (allowed f r (shape.rows f c 0 b.instrs) (one_if (is_live f c 0 r)) ≡ true)
    all_rows =
        let law : (along f r (shape.rows f c 0 b.instrs) (one_if (is_live f c 0 r)) ≡ one_if (is_live f c (0 + length b.instrs) r)) × (allowed f r (shape.rows f c 0 b.instrs) (one_if (is_live f c 0 r)) ≡ true) =
        rows_go c b is b.instrs 0 (λ j i named. (let e : j ≡ 0 + j = omega arith in subst (λ n. slice_get b.instrs n ≡ Some i) e named)) in
        let e : 0 + length b.instrs ≡ length b.instrs = omega arith in
        (law.0 ∙ ap (λ n. one_if (is_live f c n r)) e, law.1)

    starting : (along f r (shape.starts f c b) (number_at_start f c r) ≡ one_if (is_live f c 0 r)) × (allowed f r (shape.starts f c b) (number_at_start f c r) ≡ true)
    starting = starts_go c b is entered

    pub block_along : along f r (shape.counted_block f c b).instrs (number_at_start f c r) ≡ along f r (shape.before_end f c b.term) at_end
    block_along =
        number.along_append f r (shape.starts f c b) (shape.rows f c 0 b.instrs ++ shape.before_end f c b.term) (number_at_start f c r)
        ∙ ap (λ n. along f r (shape.rows f c 0 b.instrs ++ shape.before_end f c b.term) n) starting.0
        ∙ number.along_append f r (shape.rows f c 0 b.instrs) (shape.before_end f c b.term) (one_if (is_live f c 0 r))
        ∙ ap (λ n. along f r (shape.before_end f c b.term) n) all_rows.0

    pub block_allowed : allowed f r (shape.counted_block f c b).instrs (number_at_start f c r) ≡ true
    block_allowed =
        number.allowed_append f r (shape.starts f c b) (shape.rows f c 0 b.instrs ++ shape.before_end f c b.term) (number_at_start f c r)
        ∙ number.and_all (allowed f r (shape.starts f c b) (number_at_start f c r)) (allowed f r (shape.rows f c 0 b.instrs ++ shape.before_end f c b.term) (along f r (shape.starts f c b) (number_at_start f c r))) starting.1
        (ap (λ n. allowed f r (shape.rows f c 0 b.instrs ++ shape.before_end f c b.term) n) starting.0
        ∙ number.allowed_append f r (shape.rows f c 0 b.instrs) (shape.before_end f c b.term) (one_if (is_live f c 0 r))
        ∙ number.and_all (allowed f r (shape.rows f c 0 b.instrs) (one_if (is_live f c 0 r))) (allowed f r (shape.before_end f c b.term) (along f r (shape.rows f c 0 b.instrs) (one_if (is_live f c 0 r)))) all_rows.1
        (ap (λ n. allowed f r (shape.before_end f c b.term) n) all_rows.0 ∙ (ends_follow f c r b is it (u.ends c r b is it)).0))

    pub left_is : left f b.term r (along f r (shape.counted_block f c b).instrs (number_at_start f c r)) ≡ one_if (shape.is_live_over f r (list_at (edges f) c))
    left_is = ap (λ n. left f b.term r n) block_along ∙ (ends_follow f c r b is it (u.ends c r b is it)).2

    pub enough_at_end : count_to r (takes_at_end f b.term) ≤ along f r (shape.counted_block f c b).instrs (number_at_start f c r)
    enough_at_end = subst (λ n. count_to r (takes_at_end f b.term) ≤ n) (sym block_along) (ends_follow f c r b is it (u.ends c r b is it)).1
