-- The laws of levels.
use Rattle.std.proofs.Common.{◌≡◌, ◌⊎◌, inl, inr, ℕ, zero, suc, ◌+◌, ◌≤◌, Bool, true, false, IsTrue, List, [], ◌∷◌, ◌++◌, map, length, ◌||◌, zero-add, Some, ap, refl, sym, ◌∙◌, subst, arith}
use Rattle.std.specs.Prelude.{slice_get, nat_le, nat_lt, if◌then◌else◌}
use Rattle.op_table.specs.declared.kind.OpKind.{OpKind}
use Rattle.op_table.specs.declared.rows.Level.{Level}
use Rattle.op_table.specs.declared.rows.Level.TheVariants.{Source, Split}
use Rattle.op_table.specs.Rows.{row_of, place_of, stands_at, is_other}
use Rattle.ir_forms.specs.declared.ops.Op.{Op, roll-Op, out-roll-Op}
use Rattle.ir_forms.specs.declared.ops.Op.TheFolds.{ind-Region}
use Rattle.ir_forms.specs.declared.ops.Region.{Region, roll-Region, out-roll-Region}
use Rattle.ir_forms.specs.declared.ops.Func.{Func}
use Rattle.ir_forms.specs.Ops.{kind_of, results_of, regions_of, ops_of}
use Rattle.ir_verify.specs.Levels.{kinds_at, kinds_in, kinds_along, kinds_held, kinds_of, later, latest, level_of}
use Rattle.ir_verify.specs.Places.{Around, Seen, Spot, places_at, places_in, places_along, places_held, within, params_of, defined, types_of, is_none_left, in_body}
use Rattle.ir_verify.specs.declared.fault.VerifyKind.TheVariants.{TypeMismatch}
use Rattle.ir_verify.specs.Breaks.{breaks, number_of}
use Rattle.ir_verify.specs.Calls.{IsTaskCalled}
use Rattle.ir_verify.specs.Forms.{form, form_of}
use Rattle.ir_verify.specs.Verdict.{IsSound, Tells, body_places, at_operation}
use Rattle.std.proofs.lemmas.Bool.Decides.{nat_tests}
use Rattle.ir_verify.proofs.ScopeLemmas.{get_front}
use Rattle.ir_verify.specs.Laws.{HasKind, OperationsStand, LevelIsLeast, LevelIsStructured}
use Rattle.ir_verify.proofs.KindLemmas.{kinds_at-out, kinds_in-out}
use Rattle.ir_verify.proofs.PlaceLemmas.{places_at-out, places_in-out}

abbrev kind_at : Spot → OpKind
kind_at s = kind_of s.place.op

kinds_append : (xs ys : List Spot) → map kind_at (xs ++ ys) ≡ map kind_at xs ++ map kind_at ys
kinds_append [] ys = refl
kinds_append (x ∷ xs) ys = ap (λ ks. kind_at x ∷ ks) (kinds_append xs ys)

module _ (funcs : List Func) where
  abbrev OfOp : Op → Type 0
  OfOp op = (around : Around) (seen : Seen) (last : Bool) → map kind_at (places_at funcs op around seen last) ≡ kinds_at op

  abbrev OfRegion : Region → Type 0
  OfRegion region = (around : Around) (seen : Seen) → map kind_at (places_in funcs region around seen) ≡ kinds_in region

  held : (regions : List ((region : Region) × OfRegion region)) (around : Around) (op : Op) (r : ℕ) (seen : Seen) →
      map kind_at (places_held funcs (map (λ e. e.0) regions) around op r seen) ≡ kinds_held (map (λ e. e.0) regions)
  held [] around op r seen = refl
  held (e ∷ regions) around op r seen =
      kinds_append (places_in funcs e.0 (within around op r) seen) (places_held funcs (map (λ e. e.0) regions) around op (r + 1) seen)
      ∙ ap (λ ks. ks ++ map kind_at (places_held funcs (map (λ e. e.0) regions) around op (r + 1) seen)) (e.1 (within around op r) seen)
      ∙ ap (λ ks. kinds_in e.0 ++ ks) (held regions around op (r + 1) seen)

  along : (ops : List ((op : Op) × OfOp op)) (around : Around) (seen : Seen) →
      map kind_at (places_along funcs (map (λ e. e.0) ops) around seen) ≡ kinds_along (map (λ e. e.0) ops)
  along [] around seen = refl
  along (e ∷ ops) around seen =
      let now : Seen = seen ++ defined (results_of e.0) (types_of e.0) in
      let rest : List Op = map (λ e. e.0) ops in
      kinds_append (places_at funcs e.0 around seen (is_none_left rest)) (places_along funcs rest around now)
      ∙ ap (λ ks. ks ++ map kind_at (places_along funcs rest around now)) (e.1 around seen (is_none_left rest))
      ∙ ap (λ ks. kinds_at e.0 ++ ks) (along ops around now)

  of_op : (op : Op) (regions : List ((region : Region) × OfRegion region)) → regions_of op ≡ map (λ e. e.0) regions → OfOp op
  of_op op regions are = λ around seen last.
      ap (λ (spots : List Spot). map kind_at spots) (places_at-out funcs op around seen last)
      ∙ ap (λ (ks : List OpKind). kind_of op ∷ ks)
      (ap (λ (rs : List Region). map kind_at (places_held funcs rs around op 0 seen)) are ∙ held regions around op 0 seen ∙ ap (λ (rs : List Region). kinds_held rs) (sym are))
      ∙ sym (kinds_at-out op)

  of_region : (region : Region) (ops : List ((op : Op) × OfOp op)) → ops_of region ≡ map (λ e. e.0) ops → OfRegion region
  of_region region ops are = λ around seen.
      ap (λ (spots : List Spot). map kind_at spots) (places_in-out funcs region around seen)
      ∙ ap (λ (os : List Op). map kind_at (places_along funcs os around (seen ++ params_of region))) are
      ∙ along ops around (seen ++ params_of region)
      ∙ ap (λ (os : List Op). kinds_along os) (sym are)
      ∙ sym (kinds_in-out region)

  pub kinds_are : (region : Region) → OfRegion region
  kinds_are = ind-Region OfOp OfRegion
      (λ x y is. of_op (roll-Op x) y.regions (ap (λ layer. layer.regions) (out-roll-Op x) ∙ sym (ap (λ layer. layer.regions) is)))
      (λ x y is. of_region (roll-Region x) y.ops (ap (λ layer. layer.ops) (out-roll-Region x) ∙ sym (ap (λ layer. layer.ops) is)))

-- ---- what stands in a function stands in the module

mapped : (spots : List Spot) (i : ℕ) (s : Spot) → slice_get spots i ≡ Some s → slice_get (map kind_at spots) i ≡ Some (kind_at s)
mapped [] i s at = cc
mapped (x ∷ spots) zero s at = let same : x ≡ s = cc in ap (λ y. Some (kind_at y)) same
mapped (x ∷ spots) (suc i) s at = mapped spots i s at

-- a place of a list that gives this kind
record Found (spots : List Spot) (i : ℕ) (k : OpKind) : Type 0 where
  spot : Spot
  at : slice_get spots i ≡ Some spot
  is : kind_at spot ≡ k

unmapped : (spots : List Spot) (i : ℕ) (k : OpKind) → slice_get (map kind_at spots) i ≡ Some k → Found spots i k
unmapped [] i k at = cc
unmapped (x ∷ spots) zero k at = let same : kind_at x ≡ k = cc in record { spot = x; at = refl; is = same }
unmapped (x ∷ spots) (suc i) k at = let f : Found spots i k = unmapped spots i k at in record { spot = f.spot; at = f.at; is = f.is }

behind : (xs ys : List OpKind) (i : ℕ) → slice_get (xs ++ ys) (length xs + i) ≡ slice_get ys i
behind [] ys i = ap (λ n. slice_get ys n) (zero-add i)
behind (x ∷ xs) ys i = let place : length (x ∷ xs) + i ≡ suc (length xs + i) = omega arith in ap (λ n. slice_get (x ∷ xs ++ ys) n) place ∙ behind xs ys i

in_funcs : (funcs : List Func) (j : ℕ) (f : Func) (i : ℕ) (k : OpKind) → slice_get funcs j ≡ Some f → slice_get (kinds_in f.body) i ≡ Some k → HasKind funcs k
in_funcs [] j f i k at is = cc
in_funcs (g ∷ funcs) zero f i k at is =
    let same : f ≡ g = cc in
    let here : slice_get (kinds_in g.body) i ≡ Some k = subst (λ (h : Func). slice_get (kinds_in h.body) i ≡ Some k) same is in
    record { at = i; is = get_front (kinds_in g.body) (kinds_of funcs) i k here }
in_funcs (g ∷ funcs) (suc j) f i k at is =
    let later_on : HasKind funcs k = in_funcs funcs j f i k at is in
    record { at = length (kinds_in g.body) + later_on.at; is = behind (kinds_in g.body) (kinds_of funcs) later_on.at ∙ later_on.is }

-- a function in which this kind stands
record Holds (funcs : List Func) (k : OpKind) : Type 0 where
  place : ℕ
  func : Func
  here : slice_get funcs place ≡ Some func
  i : ℕ
  stands : slice_get (kinds_in func.body) i ≡ Some k

-- what stands in two lists, one after the other, stands in one of them
parted : (xs ys : List OpKind) (i : ℕ) (k : OpKind) → slice_get (xs ++ ys) i ≡ Some k → (slice_get xs i ≡ Some k) ⊎ ((j : ℕ) × (slice_get ys j ≡ Some k))
parted [] ys i k at = inr (i, at)
parted (x ∷ xs) ys zero k at = inl at
parted (x ∷ xs) ys (suc i) k at = parted xs ys i k at

held_by : (funcs : List Func) (i : ℕ) (k : OpKind) → slice_get (kinds_of funcs) i ≡ Some k → Holds funcs k
held_by [] i k at = cc
held_by (f ∷ funcs) i k at = step (parted (kinds_in f.body) (kinds_of funcs) i k at) (λ j is. held_by funcs j k is)
  where
    step : (slice_get (kinds_in f.body) i ≡ Some k) ⊎ ((j : ℕ) × (slice_get (kinds_of funcs) j ≡ Some k)) → ((j : ℕ) → slice_get (kinds_of funcs) j ≡ Some k → Holds funcs k) → Holds (f ∷ funcs) k
    step (inl here) again = record { place = 0; func = f; here = refl; i = i; stands = here }
    step (inr rest) again = let h : Holds funcs k = again rest.0 rest.1 in record { place = suc h.place; func = h.func; here = h.here; i = h.i; stands = h.stands }

-- ---- the latest level

later_left : (l m : Level) → place_of l ≤ place_of (later l m)
later_left l m = step (nat_lt (place_of l) (place_of m)) refl
  where
    step : (b : Bool) → nat_lt (place_of l) (place_of m) ≡ b → place_of l ≤ place_of (if b then m else l)
    step true is = grind (arith, nat_tests)
    step false is = omega arith

later_right : (l m : Level) → place_of m ≤ place_of (later l m)
later_right l m = step (nat_lt (place_of l) (place_of m)) refl
  where
    step : (b : Bool) → nat_lt (place_of l) (place_of m) ≡ b → place_of m ≤ place_of (if b then m else l)
    step true is = omega arith
    step false is = grind (arith, nat_tests)

later_within : (l m : Level) (n : ℕ) → place_of l ≤ n → place_of m ≤ n → place_of (later l m) ≤ n
later_within l m n left right = step (nat_lt (place_of l) (place_of m))
  where
    step : (b : Bool) → place_of (if b then m else l) ≤ n
    step true = right
    step false = left

latest_from : (l : Level) (ks : List OpKind) → place_of l ≤ place_of (latest l ks)
latest_from l [] = omega arith
latest_from l (k ∷ ks) = omega (arith, later_left l (row_of k).level, latest_from (later l (row_of k).level) ks)

latest_of : (l : Level) (ks : List OpKind) (i : ℕ) (k : OpKind) → slice_get ks i ≡ Some k → place_of (row_of k).level ≤ place_of (latest l ks)
latest_of l [] i k at = cc
latest_of l (x ∷ ks) zero k at =
    let same : x ≡ k = cc in
    subst (λ (y : OpKind). place_of (row_of y).level ≤ place_of (latest l (x ∷ ks))) same (omega (arith, later_right l (row_of x).level, latest_from (later l (row_of x).level) ks))
latest_of l (x ∷ ks) (suc i) k at = latest_of (later l (row_of x).level) ks i k at

latest_within : (l : Level) (ks : List OpKind) (n : ℕ) → place_of l ≤ n → ((i : ℕ) (k : OpKind) → slice_get ks i ≡ Some k → place_of (row_of k).level ≤ n) → place_of (latest l ks) ≤ n
latest_within l [] n low all = low
latest_within l (k ∷ ks) n low all = latest_within (later l (row_of k).level) ks n (later_within l (row_of k).level n low (all 0 k refl)) (λ i j at. all (suc i) j at)

le_true : (m n : ℕ) → m ≤ n → IsTrue (nat_le m n)
le_true m n h = grind (arith, nat_tests)

true_le : (m n : ℕ) → IsTrue (nat_le m n) → m ≤ n
true_le m n h = grind (arith, nat_tests)

stands : (funcs : List Func) (k : OpKind) → HasKind funcs k → IsTrue (stands_at k (level_of funcs))
stands funcs k has = le_true (place_of (row_of k).level) (place_of (level_of funcs)) (latest_of Source (kinds_of funcs) has.at k has.is)

least : (funcs : List Func) (l : Level) → ((k : OpKind) → HasKind funcs k → IsTrue (stands_at k l)) → place_of (level_of funcs) ≤ place_of l
least funcs l all = latest_within Source (kinds_of funcs) (place_of l) (omega arith) (λ i k at. true_le (place_of (row_of k).level) (place_of l) (all k (record { at = i; is = at })))

pub operations_stand : OperationsStand
operations_stand funcs s place =
    stands funcs (kind_at s) (in_funcs funcs place.k place.f place.i (kind_at s) place.at
    (ap (λ ks. slice_get ks place.i) (sym (kinds_are funcs place.f.body (in_body place.f place.is_called) place.f.params)) ∙ mapped (body_places funcs place.f place.is_called) place.i s place.stands))

pub level_is_least : LevelIsLeast
level_is_least funcs = (stands funcs, least funcs)

-- ---- a module that breaks no rule

or_left : (a b : Bool) → a ≡ true → (a || b) ≡ true
or_left true b h = refl
or_left false b h = cc

-- a kind stands at level Split, or its form has no place in a function's body
abbrev pub is_known : OpKind → Bool
is_known k = stands_at k Split || is_other (form_of k)

other_breaks : (a b : Bool) → IsTrue (a || b) → a ≡ false → b ≡ true
other_breaks true b h not_there = cc
other_breaks false true h not_there = refl
other_breaks false false h not_there = cc

module _ (funcs : List Func) (sound : IsSound funcs) (known : (k : OpKind) → IsTrue (is_known k)) where
  -- whatever tasks call
  no_other : (h : (k : OpKind) × Holds funcs k) → stands_at h.0 Split ≡ false → (b : Bool) → Tells funcs h.1.place b → ⊥
  no_other h not_there b tells =
      let found : Found (body_places funcs h.1.func b) h.1.i h.0 =
      unmapped (body_places funcs h.1.func b) h.1.i h.0 (ap (λ ks. slice_get ks h.1.i) (kinds_are funcs h.1.func.body (in_body h.1.func b) h.1.func.params) ∙ h.1.stands) in
      let other : is_other (form_of h.0) ≡ true = other_breaks (stands_at h.0 Split) (is_other (form_of h.0)) (known h.0) not_there in
      let broken : breaks TypeMismatch found.spot ≡ true = or_left (is_other (form found.spot.place.op)) _ (ap (λ k. is_other (form_of k)) found.is ∙ other) in
      sound (record { op = number_of found.spot.place.op; kind = TypeMismatch }) (at_operation h.1.place h.1.func b h.1.i found.spot TypeMismatch h.1.here tells found.at broken)

  none_other : (h : (k : OpKind) × Holds funcs k) → stands_at h.0 Split ≡ false → ⊥
  none_other h not_there =
      let not_called : IsTaskCalled funcs h.1.place → ⊥ = λ called. no_other h not_there true (record { sound = λ is. called; complete = λ called. refl }) in
      no_other h not_there false (record { sound = λ is. cc; complete = λ called. absurd (not_called called) })

  each_stands : (k : OpKind) → HasKind funcs k → IsTrue (stands_at k Split)
  each_stands k has = step (stands_at k Split) refl
    where
      step : (b : Bool) → stands_at k Split ≡ b → IsTrue b
      step true is = refl
      step false is = absurd (none_other (k, held_by funcs has.at k has.is) is)

pub level_is_structured : ((k : OpKind) → IsTrue (is_known k)) → LevelIsStructured
level_is_structured known funcs sound = least funcs Split (each_stands funcs sound known)
