-- The state of the search, from its start over each visit to its end.
use Rattle.std.proofs.Common.{◌≡◌, ◌≢◌, ◌⊎◌, inl, inr, ℕ, zero, suc, ◌+◌, ◌*◌, ◌<◌, ◌≤◌, ◌==◌, ◌||◌, Bool, true, false, List, [], ◌∷◌, ◌++◌, length, replicate, get_or, Some, ◌-◌, append_assoc, append-nil, refl, sym, ap, ◌∙◌, arith, subst, length-append}
use Rattle.std.specs.Prelude.{slice_get, slice_set}
use Rattle.std.specs.Bool.{MatchBool}
use Rattle.std.proofs.lemmas.Bool.Decides.{eqb_tells, nat_tests}
use Rattle.std.proofs.lemmas.List.{length-replicate}
use Rattle.std.proofs.Math.ListN.{length-set}
use Rattle.std.proofs.Math.Nat.{mul-le-mul_left, mul-suc}
use Rattle.bit_sets.specs.Members.{is_in, union}
use Rattle.low_flow.specs.Lists.{has, list_at}
use Rattle.low_forms.specs.declared.code.Block.{Block}
use Rattle.low_forms.specs.declared.code.LowFunc.{LowFunc}
use Rattle.low_forms.specs.Edges.{edges}
use Rattle.liveness.specs.Flow.{enters, set_at, over, countdown, joined, back_through}
use Rattle.liveness.specs.State.{Enters, AreSets, AreSound, IsClosed, IsSolution, IsState, Visits, AreBefore, absent, weight, to_do}
use Rattle.liveness.proofs.ListLemmas.{is_either, within, or_splits, or_left, or_right, has_append, has_here, set_here, set_other, in_within, set_within}
use Rattle.liveness.proofs.LiveLemmas.{enters_by_sets, get_within, get_below}
use Rattle.liveness.proofs.FlowLemmas.{in_union, length_union, in_through, length_through, in_over, length_joined}

over_same : (sets news : List (List Bool)) (r : ℕ) (cs : List ℕ) → ((c : ℕ) → has c cs ≡ true → set_at news c ≡ set_at sets c) → over news r cs ≡ over sets r cs
over_same sets news r [] same = refl
over_same sets news r (c ∷ cs) same =
    ap (λ (s : List Bool). is_in s r || over news r cs) (same c (has_here c cs))
    ∙ ap (λ b. is_in (set_at sets c) r || b) (over_same sets news r cs (λ d there. same d (or_right (d == c) (has d cs) there)))

same_number : (a b : ℕ) → (a == b) ≡ true → a ≡ b
same_number a b is = grind (arith, nat_tests)

-- ---- one visit

module _ (f : LowFunc) (sets news : List (List Bool)) (c : ℕ) (grows : Bool) (waiting : List ℕ) (v : Visits f sets news c grows) (s : IsState f sets (c ∷ waiting)) where
  inside : c < length f.blocks
  inside = s.within c (has_here c waiting)

  long : length news ≡ length sets
  long = ap (λ (ss : List (List Bool)). length ss) v.sets_are ∙ length-set sets c (set_at news c)

  others : (d : ℕ) → (c ≡ d → ⊥) → set_at news d ≡ set_at sets d
  others d other = ap (λ (ss : List (List Bool)). set_at ss d) v.sets_are ∙ set_other sets c d (set_at news c) other

  wide : length (set_at sets c) ≡ length f.regs
  wide = s.sets_are.each c (omega (arith, inside, s.sets_are.long))

  keeps_here : (r : ℕ) → is_in (set_at sets c) r ≡ true → is_in (set_at news c) r ≡ true
  keeps_here r is =
      let b : (b : Block) × (slice_get f.blocks c ≡ Some b) = get_within f.blocks c inside in
      v.adds b.0 r b.1 (omega (arith, in_within (set_at sets c) r is, wide)) ∙ or_left (is_in (set_at sets c) r) (enters b.0 (over sets r (list_at (edges f) c)) r) is

  keeps : (d r : ℕ) → is_in (set_at sets d) r ≡ true → is_in (set_at news d) r ≡ true
  keeps d r is = elim (eqb_tells c d) [
    | inl same ↦ subst (λ x. is_in (set_at news x) r ≡ true) same.1 (keeps_here r (subst (λ x. is_in (set_at sets x) r ≡ true) (sym same.1) is))
    | inr other ↦ ap (λ (t : List Bool). is_in t r) (others d other.1) ∙ is
  ]

  pub sets_after : AreSets f news
  sets_after = record {
    long = long ∙ s.sets_are.long;
    each = λ d below. elim (eqb_tells c d) [
      | inl same ↦ subst (λ x. length (set_at news x) ≡ length f.regs) same.1 (v.each ∙ wide)
      | inr other ↦ ap (λ (t : List Bool). length t) (others d other.1) ∙ s.sets_are.each d (omega (arith, below, long))
    ];
  }

  sound_here : (r : ℕ) → is_in (set_at news c) r ≡ true → Enters f r c
  sound_here r is =
      let b : (b : Block) × (slice_get f.blocks c ≡ Some b) = get_within f.blocks c inside in
      let known : r < length f.regs = omega (arith, in_within (set_at news c) r is, v.each, wide) in
      elim (or_splits (is_in (set_at sets c) r) (enters b.0 (over sets r (list_at (edges f) c)) r) (sym (v.adds b.0 r b.1 known) ∙ is)) [
        | inl before ↦ s.sound c r before
        | inr added ↦ enters_by_sets f r sets s.sets_are s.sound c b.0 b.1 added
      ]

  sound_after : AreSound f news
  sound_after d r is = elim (eqb_tells c d) [
    | inl same ↦ subst (λ x. Enters f r x) same.1 (sound_here r (subst (λ x. is_in (set_at news x) r ≡ true) (sym same.1) is))
    | inr other ↦ s.sound d r (sym (ap (λ (t : List Bool). is_in t r) (others d other.1)) ∙ is)
  ]

  -- where what is behind a block hasn't changed
  closed_on : (d : ℕ) → ((r : ℕ) → over news r (list_at (edges f) d) ≡ over sets r (list_at (edges f) d)) → IsClosed f sets d → IsClosed f news d
  closed_on d outs closed = λ b r at known is. keeps d r (closed b r at known (sym (ap (λ o. enters b o r) (outs r)) ∙ is))

  closed_here : ((r : ℕ) → over news r (list_at (edges f) c) ≡ over sets r (list_at (edges f) c)) → IsClosed f news c
  closed_here outs = λ b r at known is.
      v.adds b r at known ∙ or_right (is_in (set_at sets c) r) (enters b (over sets r (list_at (edges f) c)) r) (sym (ap (λ o. enters b o r) (outs r)) ∙ is)

  module _ (more : List ℕ) (more_within : (d : ℕ) → has d more ≡ true → d < length f.blocks)
      (told : (d : ℕ) → has c (list_at (edges f) d) ≡ true → (has d more ≡ true) ⊎ (set_at news c ≡ set_at sets c)) where
    outs_or_waits : (d : ℕ) → (has d more ≡ true) ⊎ ((r : ℕ) → over news r (list_at (edges f) d) ≡ over sets r (list_at (edges f) d))
    outs_or_waits d = elim (is_either (has c (list_at (edges f) d))) [
      | inl edge ↦ elim (told d edge) [
        | inl waits ↦ inl waits
        | inr same ↦ inr (λ r. over_same sets news r (list_at (edges f) d) (λ e there. elim (eqb_tells c e) [
          | inl is ↦ subst (λ x. set_at news x ≡ set_at sets x) is.1 same
          | inr other ↦ others e other.1
        ]))
      ]
      | inr no_edge ↦ inr (λ r. over_same sets news r (list_at (edges f) d) (λ e there. others e (λ is.
          (let here : has c (list_at (edges f) d) ≡ true = subst (λ x. has x (list_at (edges f) d) ≡ true) (sym is) there in cc))))
    ]

    closed_after : (d : ℕ) → (has d (waiting ++ more) ≡ true) ⊎ IsClosed f news d
    closed_after d = elim (outs_or_waits d) [
      | inl waits ↦ inl (has_append d waiting more ∙ or_right (has d waiting) (has d more) waits)
      | inr outs ↦ elim (s.closed d) [
        | inr closed ↦ inr (closed_on d outs closed)
        | inl waits ↦ elim (or_splits (d == c) (has d waiting) waits) [
          | inr later ↦ inl (has_append d waiting more ∙ or_left (has d waiting) (has d more) later)
          | inl now ↦
              let same : d ≡ c = same_number d c now in
              inr (subst (λ x. IsClosed f news x) (sym same) (closed_here (λ r. subst (λ x. over news r (list_at (edges f) x) ≡ over sets r (list_at (edges f) x)) same (outs r))))
        ]
      ]
    ]

    pub state_after : IsState f news (waiting ++ more)
    state_after = record {
      sets_are = sets_after;
      sound = sound_after;
      within = λ d there. elim (or_splits (has d waiting) (has d more) (sym (has_append d waiting more) ∙ there)) [
        | inl old ↦ s.within d (or_right (d == c) (has d waiting) old)
        | inr new ↦ more_within d new
      ];
      closed = closed_after;
    }

  -- ---- what is left to do

  pub absent_less : (old new : List Bool) → length new ≡ length old → ((r : ℕ) → is_in old r ≡ true → is_in new r ≡ true) → absent new ≤ absent old
  absent_less [] [] same keep = omega arith
  absent_less [] (b ∷ new) same keep = absurd (omega (arith, same))
  absent_less (a ∷ old) [] same keep = absurd (omega (arith, same))
  absent_less (true ∷ old) (true ∷ new) same keep = absent_less old new (omega (arith, same)) (λ r is. keep (suc r) is)
  absent_less (true ∷ old) (false ∷ new) same keep = (let e : false ≡ true = keep 0 refl in cc)
  absent_less (false ∷ old) (true ∷ new) same keep = (let e : absent new ≤ absent old = absent_less old new (omega (arith, same)) (λ r is. keep (suc r) is) in omega (arith, e))
  absent_less (false ∷ old) (false ∷ new) same keep = (let e : absent new ≤ absent old = absent_less old new (omega (arith, same)) (λ r is. keep (suc r) is) in omega (arith, e))

  absent_fewer : (old new : List Bool) → length new ≡ length old → ((r : ℕ) → is_in old r ≡ true → is_in new r ≡ true) → (new ≡ old → ⊥) → absent new + 1 ≤ absent old
  absent_fewer [] [] same keep other = absurd (other refl)
  absent_fewer [] (b ∷ new) same keep other = absurd (omega (arith, same))
  absent_fewer (a ∷ old) [] same keep other = absurd (omega (arith, same))
  absent_fewer (true ∷ old) (true ∷ new) same keep other = absent_fewer old new (omega (arith, same)) (λ r is. keep (suc r) is) (λ e. other (ap (λ (t : List Bool). true ∷ t) e))
  absent_fewer (true ∷ old) (false ∷ new) same keep other = (let e : false ≡ true = keep 0 refl in cc)
  absent_fewer (false ∷ old) (true ∷ new) same keep other = (let e : absent new ≤ absent old = absent_less old new (omega (arith, same)) (λ r is. keep (suc r) is) in omega (arith, e))
  absent_fewer (false ∷ old) (false ∷ new) same keep other =
      (let e : absent new + 1 ≤ absent old = absent_fewer old new (omega (arith, same)) (λ r is. keep (suc r) is) (λ e. other (ap (λ (t : List Bool). false ∷ t) e)) in omega (arith, e))

  weight_set : (before : List (List ℕ)) (ss : List (List Bool)) (d : ℕ) (t : List Bool) → d < length ss
      → weight before (slice_set ss d t) + length (list_at before d) * absent (set_at ss d) ≡ weight before ss + length (list_at before d) * absent t
  weight_set [] ss d t below = zeros (absent (set_at ss d)) (absent t)
    where
      zeros : (a b : ℕ) → 0 + 0 * a ≡ 0 + 0 * b
      zeros a b = omega arith
  weight_set (bs ∷ before) [] d t below = absurd (omega arith)
  weight_set (bs ∷ before) (u ∷ ss) zero t below = turned (length bs * absent t) (weight before ss) (length bs * absent u)
    where
      turned : (a w b : ℕ) → (a + w) + b ≡ (b + w) + a
      turned a w b = omega arith
  weight_set (bs ∷ before) (u ∷ ss) (suc d) t below =
      shifted (length bs * absent u) (weight before (slice_set ss d t)) (weight before ss) (length (list_at before d) * absent (set_at ss d)) (length (list_at before d) * absent t) (weight_set before ss d t (omega arith))
    where
      shifted : (x w v a b : ℕ) → w + a ≡ v + b → (x + w) + a ≡ (x + v) + b
      shifted x w v a b is = omega arith

  times_more : (l a b : ℕ) → b + 1 ≤ a → l * b + l ≤ l * a
  times_more l a b less = (let h : l * suc b ≤ l * a = mul-le-mul_left l (omega (arith, less)) in omega (arith, h, mul-suc l b))

  sums : (w v n a b l : ℕ) → w + a ≡ v + b → b + l ≤ a → w + (n + l) ≤ v + n
  sums w v n a b l is less = omega arith

  pub less_to_do : (before : List (List ℕ)) → (set_at news c ≡ set_at sets c → ⊥) → to_do before news (waiting ++ list_at before c) ≤ to_do before sets waiting
  less_to_do before changed =
      let fewer : absent (set_at news c) + 1 ≤ absent (set_at sets c) = absent_fewer (set_at sets c) (set_at news c) v.each keeps_here changed in
      let w : weight before news + length (list_at before c) * absent (set_at sets c) ≡ weight before sets + length (list_at before c) * absent (set_at news c) =
      ap (λ (ss : List (List Bool)). weight before ss + length (list_at before c) * absent (set_at sets c)) v.sets_are
      ∙ weight_set before sets c (set_at news c) (omega (arith, inside, s.sets_are.long)) in
      ap_le (sums (weight before news) (weight before sets) (length waiting) (length (list_at before c) * absent (set_at sets c)) (length (list_at before c) * absent (set_at news c)) (length (list_at before c))
      w (times_more (length (list_at before c)) (absent (set_at sets c)) (absent (set_at news c)) fewer))
    where
      ap_le : weight before news + (length waiting + length (list_at before c)) ≤ weight before sets + length waiting → to_do before news (waiting ++ list_at before c) ≤ to_do before sets waiting
      ap_le is = omega (arith, is, length-append waiting (list_at before c))

  pub same_to_do : (before : List (List ℕ)) → set_at news c ≡ set_at sets c → to_do before news waiting ≤ to_do before sets waiting
  same_to_do before kept =
      let w : weight before news + length (list_at before c) * absent (set_at sets c) ≡ weight before sets + length (list_at before c) * absent (set_at news c) =
      ap (λ (ss : List (List Bool)). weight before ss + length (list_at before c) * absent (set_at sets c)) v.sets_are
      ∙ weight_set before sets c (set_at news c) (omega (arith, inside, s.sets_are.long)) in
      let w' : weight before news + length (list_at before c) * absent (set_at sets c) ≡ weight before sets + length (list_at before c) * absent (set_at sets c) =
      w ∙ ap (λ (t : List Bool). weight before sets + length (list_at before c) * absent t) kept in
      cut (weight before news) (weight before sets) (length (list_at before c) * absent (set_at sets c)) (length waiting) w'
    where
      cut : (w v a n : ℕ) → w + a ≡ v + a → w + n ≤ v + n
      cut w v a n is = omega arith

-- ---- the end and the start

pub solved : (f : LowFunc) (sets : List (List Bool)) → IsState f sets [] → IsSolution f sets
solved f sets s = record { sets_are = s.sets_are; sound = s.sound; closed = λ c. elim (s.closed c) [ inl waits ↦ cc | inr closed ↦ closed ] }

set_replicate : (n c : ℕ) (t : List Bool) → c < n → set_at (replicate n t) c ≡ t
set_replicate zero c t below = absurd (omega arith)
set_replicate (suc n) zero t below = refl
set_replicate (suc n) (suc c) t below = set_replicate n c t (omega arith)

nothing_in : (limit r : ℕ) → is_in (replicate limit false) r ≡ false
nothing_in zero r = refl
nothing_in (suc limit) zero = refl
nothing_in (suc limit) (suc r) = nothing_in limit r

in_countdown : (n c : ℕ) → c < n → has c (countdown n) ≡ true
in_countdown zero c below = absurd (omega arith)
in_countdown (suc n) c below = elim (eqb_tells c n) [
  | inl same ↦ or_left (c == n) (has c (countdown n)) same.0
  | inr other ↦ or_right (c == n) (has c (countdown n)) (in_countdown n c (let e : c ≡ n → ⊥ = other.1 in omega (arith, below, e)))
]

countdown_within : (n c : ℕ) → has c (countdown n) ≡ true → c < n
countdown_within zero c is = cc
countdown_within (suc n) c is = elim (or_splits (c == n) (has c (countdown n)) is) [
  | inl same ↦ (let e : c ≡ n = same_number c n same in omega (arith, e))
  | inr later ↦ omega (arith, countdown_within n c later)
]

pub begins : (f : LowFunc) → IsState f (replicate (length f.blocks) (replicate (length f.regs) false)) (countdown (length f.blocks))
begins f = record {
  sets_are = record {
    long = length-replicate (length f.blocks) (replicate (length f.regs) false);
    each = λ c below. ap (λ (t : List Bool). length t) (set_replicate (length f.blocks) c (replicate (length f.regs) false) (omega (arith, below, length-replicate (length f.blocks) (replicate (length f.regs) false)))) ∙ length-replicate (length f.regs) false;
  };
  sound = λ c r is.
      (let below : c < length f.blocks = omega (arith, set_within (replicate (length f.blocks) (replicate (length f.regs) false)) c r is, length-replicate (length f.blocks) (replicate (length f.regs) false)) in
      let none : is_in (set_at (replicate (length f.blocks) (replicate (length f.regs) false)) c) r ≡ false =
      ap (λ (t : List Bool). is_in t r) (set_replicate (length f.blocks) c (replicate (length f.regs) false) below) ∙ nothing_in (length f.regs) r in
      cc);
  within = λ c there. countdown_within (length f.blocks) c there;
  closed = λ c. elim (within c (length f.blocks)) [
    | inl below ↦ inl (in_countdown (length f.blocks) c below)
    | inr beyond ↦ inr (λ b r at known is. absurd (omega (arith, get_below f.blocks c b at, beyond)))
  ];
}

-- ---- the calls

pub get_of : (blocks : List Block) (c : ℕ) (b : Block) → c < length blocks → b ≡ get_or blocks c b → slice_get blocks c ≡ Some b
get_of [] c b inside is = absurd (omega arith)
get_of (a ∷ blocks) zero b inside is = ap Some (sym is)
get_of (a ∷ blocks) (suc c) b inside is = get_of blocks c b (omega arith) is

pub visits_by : (f : LowFunc) (sets news : List (List Bool)) (c : ℕ) (grows : Bool) (block : Block) → AreSets f sets → c < length f.blocks → slice_get f.blocks c ≡ Some block
    → news ≡ slice_set sets c (union (set_at sets c) (back_through block (joined sets (list_at (edges f) c) (replicate (length f.regs) false))))
    → MatchBool grows (union (set_at sets c) (back_through block (joined sets (list_at (edges f) c) (replicate (length f.regs) false))) ≢ set_at sets c)
    (union (set_at sets c) (back_through block (joined sets (list_at (edges f) c) (replicate (length f.regs) false))) ≡ set_at sets c)
    → Visits f sets news c grows
visits_by f sets news c grows block are inside at is changes =
    let behind : List Bool = joined sets (list_at (edges f) c) (replicate (length f.regs) false) in
    let more : List Bool = back_through block behind in
    let there : c < length sets = omega (arith, inside, are.long) in
    let here : set_at news c ≡ union (set_at sets c) more = ap (λ (ss : List (List Bool)). set_at ss c) is ∙ set_here sets c (union (set_at sets c) more) there in
    let behind_long : length behind ≡ length f.regs = length_joined sets (list_at (edges f) c) (replicate (length f.regs) false) ∙ length-replicate (length f.regs) false in
    let more_long : length more ≡ length f.regs = length_through block behind ∙ behind_long in
    record {
      sets_are = is ∙ ap (λ (t : List Bool). slice_set sets c t) (sym here);
      each = ap (λ (t : List Bool). length t) here ∙ length_union (set_at sets c) more;
      adds = λ b r b_at known.
          let same : block ≡ b = cc in
          ap (λ (t : List Bool). is_in t r) here ∙ in_union (set_at sets c) more r (are.each c there ∙ sym more_long)
          ∙ ap (λ x. is_in (set_at sets c) r || x)
          (in_through r block behind (omega (arith, known, behind_long)) ∙ ap (λ o. enters block o r) (in_over sets (list_at (edges f) c) (length f.regs) r are.each)
          ∙ ap (λ (x : Block). enters x (over sets r (list_at (edges f) c)) r) same);
      changes = subst (λ (t : List Bool). MatchBool grows (t ≢ set_at sets c) (t ≡ set_at sets c)) (sym here) changes;
    }

pub visits_of : (f : LowFunc) (sets news : List (List Bool)) (c : ℕ) (grows : Bool) (block : Block) (more : List Bool) → AreSets f sets → c < length f.blocks → slice_get f.blocks c ≡ Some block
    → more ≡ back_through block (joined sets (list_at (edges f) c) (replicate (length f.regs) false))
    → news ≡ slice_set sets c (union (set_at sets c) more) → MatchBool grows (union (set_at sets c) more ≢ set_at sets c) (union (set_at sets c) more ≡ set_at sets c) → Visits f sets news c grows
visits_of f sets news c grows block more are inside at more_is is changes = visits_by f sets news c grows block are inside at
    (is ∙ ap (λ (t : List Bool). slice_set sets c (union (set_at sets c) t)) more_is)
    (subst (λ (t : List Bool). MatchBool grows (union (set_at sets c) t ≢ set_at sets c) (union (set_at sets c) t ≡ set_at sets c)) more_is changes)

kept_by : (f : LowFunc) (sets news : List (List Bool)) (c : ℕ) (grows : Bool) → Visits f sets news c grows → grows ≡ false → set_at news c ≡ set_at sets c
kept_by f sets news c grows v is = (subst (λ b. MatchBool b (set_at news c ≢ set_at sets c) (set_at news c ≡ set_at sets c)) is v.changes)

changed_by : (f : LowFunc) (sets news : List (List Bool)) (c : ℕ) (grows : Bool) → Visits f sets news c grows → grows ≡ true → set_at news c ≢ set_at sets c
changed_by f sets news c grows v is = (subst (λ b. MatchBool b (set_at news c ≢ set_at sets c) (set_at news c ≡ set_at sets c)) is v.changes)

pub state_kept : (f : LowFunc) (sets news : List (List Bool)) (c : ℕ) (grows : Bool) (waiting : List ℕ) → Visits f sets news c grows → IsState f sets (c ∷ waiting) → grows ≡ false → IsState f news waiting
state_kept f sets news c grows waiting v s is = subst (λ (ws : List ℕ). IsState f news ws) (append-nil waiting)
    (state_after f sets news c grows waiting v s [] (λ d there. cc) (λ d edge. inr (kept_by f sets news c grows v is)))

pub less_kept : (f : LowFunc) (before : List (List ℕ)) (sets news : List (List Bool)) (c : ℕ) (grows : Bool) (waiting : List ℕ) → Visits f sets news c grows → IsState f sets (c ∷ waiting) → grows ≡ false
    → to_do before news waiting ≤ to_do before sets waiting
less_kept f before sets news c grows waiting v s is = same_to_do f sets news c grows waiting v s before (kept_by f sets news c grows v is)

pub state_grown : (f : LowFunc) (before : List (List ℕ)) (sets news : List (List Bool)) (c : ℕ) (grows : Bool) (waiting now : List ℕ) → AreBefore f before → Visits f sets news c grows → IsState f sets (c ∷ waiting)
    → now ≡ waiting ++ list_at before c → IsState f news now
state_grown f before sets news c grows waiting now are v s is = subst (λ (ws : List ℕ). IsState f news ws) (sym is)
    (state_after f sets news c grows waiting v s (list_at before c) (λ d there. are.within c d there) (λ d edge. inl (are.all c d (s.within c (has_here c waiting)) edge)))

pub less_grown : (f : LowFunc) (before : List (List ℕ)) (sets news : List (List Bool)) (c : ℕ) (grows : Bool) (waiting now : List ℕ) → Visits f sets news c grows → IsState f sets (c ∷ waiting) → grows ≡ true
    → now ≡ waiting ++ list_at before c → to_do before news now ≤ to_do before sets waiting
less_grown f before sets news c grows waiting now v s grew is =
    subst (λ (ws : List ℕ). to_do before news ws ≤ to_do before sets waiting) (sym is) (less_to_do f sets news c grows waiting v s before (changed_by f sets news c grows v grew))

countdown_at : (m p : ℕ) → m ≡ suc p → countdown m ≡ p ∷ countdown p
countdown_at m p is = ap countdown is

pub down_on : (waiting news : List ℕ) (n k : ℕ) → k < n → news ≡ waiting ++ (n - 1 - k) ∷ [] → waiting ++ countdown (n - k) ≡ countdown n → news ++ countdown (n - (k + 1)) ≡ countdown n
down_on waiting news n k below is so_far =
    ap (λ (ws : List ℕ). ws ++ countdown (n - (k + 1))) is ∙ append_assoc waiting ((n - 1 - k) ∷ []) (countdown (n - (k + 1)))
    ∙ sym (ap (λ (ws : List ℕ). waiting ++ ws) (countdown_at (n - k) (n - 1 - k) (omega (arith, below)) ∙ ap (λ p. (n - 1 - k) ∷ countdown p) last)) ∙ so_far
  where
    last : n - 1 - k ≡ n - (k + 1)
    last = omega arith

pub countdown_long : (n : ℕ) → length (countdown n) ≡ n
countdown_long zero = refl
countdown_long (suc n) = ap suc (countdown_long n)
