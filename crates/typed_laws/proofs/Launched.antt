-- What a launched task awaits, and what its elements are.
use Rattle.std.specs.Prelude.{nat_lt, ltb}
use Rattle.std.proofs.Common.{◌≡◌, ◌==◌, ◌&&◌, ◌<◌, ◌≤◌, ℕ, zero, suc, ◌+◌, ◌-◌, Bool, true, false, if◌then◌else◌, List, [], ◌∷◌, ◌++◌, map, length, take, drop, Option, Some, None, slice_get, refl, sym, ap, ◌∙◌, subst, arith}
use Rattle.std.proofs.lemmas.Bool.{ltb-true}
use Rattle.std.proofs.lemmas.List.{length-map}
use Rattle.ir_forms.specs.declared.names.ElementName.TheVariants.{Token, Value}
use Rattle.ir_forms.specs.declared.ops.Func.{Func}
use Rattle.ir_forms.specs.declared.ops.Region.{Region}
use Rattle.ir_forms.specs.declared.ops.ValueNo.{ValueNo}
use Rattle.ir_forms.specs.declared.types.Ty.{Ty}
use Rattle.ir_forms.specs.declared.types.Ty.TheVariants as ty
use Rattle.ir_forms.specs.declared.types.ValTy.{ValTy}
use Rattle.ir_forms.specs.Names.{Path}
use Rattle.ir_verify.specs.Places.{Seen, params_of}
use Rattle.ir_verify.specs.Rules.{is_asked, is_held, are_groups, are_task_groups, first_params}
use Rattle.ir_verify.specs.Types.{is_value, is_token, is_index}
use Rattle.source_meaning.specs.declared.values.Val.{Val}
use Rattle.source_meaning.specs.declared.values.Val.TheVariants.{Number, Memory, Element, Group}
use Rattle.source_meaning.specs.Values.{Env, named, values_at}
use Rattle.source_meaning.specs.Parts.{names_of}
use Rattle.source_meaning.specs.Rows.{are_bounds, turns_between, spans_of, variables}
use Rattle.std.specs.Option.{option_map}
use Rattle.source_meaning.specs.Tasks.{Span, Pending}
use Rattle.source_meaning.specs.Steps.{awaits_each, awaits_for}
use Rattle.source_meaning.specs.World.{numbers_from, elements_of}
use Rattle.typed_laws.specs.Typed.{Typing, HasType, Fresh}
use Rattle.typed_laws.proofs.Types.{both_true, payload, holds_so, value_is, token_is, index_is}
use Rattle.typed_laws.proofs.Facts.{equal}
use Rattle.typed_laws.proofs.Envs.{Within, AreTyped, types_in, values_typed}
use Rattle.typed_laws.proofs.Framed.{Ready}

append_none : {X : Type 0} (xs : List X) → xs ++ [] ≡ xs
append_none [] = refl
append_none (x ∷ xs) = ap (λ l. x ∷ l) (append_none xs)

append_one : {X : Type 0} (xs : List X) (y : X) (ys : List X) → xs ++ y ∷ ys ≡ (xs ++ y ∷ []) ++ ys
append_one [] y ys = refl
append_one (x ∷ xs) y ys = ap (λ l. x ∷ l) (append_one xs y ys)

module _ (funcs : List Func) (typing : Typing) where
  -- ---- what is pending at its start

  pub ready_each : (now : Seen) (more : List Pending) (seen : Seen) (at : ℕ) (vs : List Val) → Ready funcs typing now more seen → Ready funcs typing now (awaits_each at vs ++ more) seen
  ready_each now more seen at [] h = h
  ready_each now more seen at (Number n ∷ vs) h = tt
  ready_each now more seen at (Memory b dims ∷ vs) h = tt
  ready_each now more seen at (Group g ∷ vs) h = tt
  ready_each now more seen at (Element (Token q) ∷ vs) h = ready_each now more seen at vs h
  ready_each now more seen at (Element (Value q j) ∷ vs) h = ready_each now more seen at vs h

  -- values that hold what the parameters take
  abbrev pub Pay : Seen → List Val → Type 0
  Pay [] [] = Unit {0}
  Pay (p ∷ ps) (v ∷ vs) = ((w : ValTy) × HasType typing (ty.Value w) v × (p.1 ≡ payload w)) × Pay ps vs
  Pay _ _ = ⊥

  pub pay_of : (ps : Seen) (ws : List Ty) (vs : List Val) → length ps ≡ length ws → ((i : ℕ) (x : ValueNo × Ty) → slice_get ps i ≡ Some x → is_held (slice_get ws i) x.1 ≡ true) → AreTyped typing ws vs → Pay ps vs
  pay_of [] [] [] n h v = tt
  pay_of [] [] (x ∷ vs) n h v = elim v [ ]
  pay_of [] (w ∷ ws) vs n h v = absurd (omega (arith, n))
  pay_of (p ∷ ps) [] vs n h v = absurd (omega (arith, n))
  pay_of (p ∷ ps) (w ∷ ws) [] n h v = elim v [ ]
  pay_of (p ∷ ps) (w ∷ ws) (x ∷ vs) n h v =
      let held = holds_so w p.1 (h zero p refl) in
      ((held.held, subst (λ t. HasType typing t x) held.outer v.0, held.inner), pay_of ps ws vs (omega (arith, n)) (λ i. h (suc i)) v.1)

  pub ready_for : (ps : Seen) (vs : List Val) (now : Seen) (at : ℕ) (seen : Seen) → Pay ps vs → Fresh now ps → Within seen (now ++ ps) → Ready funcs typing now (awaits_for at (names_of ps) vs) seen
  ready_for [] [] now at seen k new w = subst (Within seen) (append_none now) w
  ready_for [] (v ∷ vs) now at seen k new w = elim k [ ]
  ready_for (p ∷ ps) [] now at seen k new w = elim k [ ]
  ready_for (p ∷ ps) (Number n ∷ vs) now at seen k new w = tt
  ready_for (p ∷ ps) (Memory b dims ∷ vs) now at seen k new w = tt
  ready_for (p ∷ ps) (Group g ∷ vs) now at seen k new w = tt
  ready_for (p ∷ ps) (Element (Token q) ∷ vs) now at seen k new w = elim k.0.1 [ ]
  ready_for (p ∷ ps) (Element (Value q j) ∷ vs) now at seen k new w =
      let same : p ≡ (p.0, payload k.0.0) = ap (λ (t : Ty). (p.0, t)) k.0.2 in (
        k.0.0,
        k.0.1,
        new.0,
        subst (λ (x : ValueNo × Ty). Ready funcs typing (now ++ x ∷ []) (awaits_for at (names_of ps) vs) seen) same
            (ready_for ps vs (now ++ p ∷ []) at seen k.1 new.1 (subst (Within seen) (append_one now p ps) w)),
      )

-- ---- its elements

tail_typed : (typing : Typing) (q : Path) (types : List Ty) → typing q ≡ Some types → (j : ℕ) (ts : List Ty) → ((i : ℕ) (t : Ty) → slice_get ts i ≡ Some t → slice_get types (suc (j + i)) ≡ Some t) → ((i : ℕ) (t : Ty) → slice_get ts i ≡ Some t → is_value t ≡ true) →
    AreTyped typing ts (map (λ i. Element (Value q i)) (numbers_from j (length ts)))
tail_typed typing q types known j [] h v = tt
tail_typed typing q types known j (t ∷ ts) h v =
    let w = value_is t (v zero t refl) in
    let place : j + zero ≡ j = omega arith in
    let at : slice_get types (suc j) ≡ Some (ty.Value w.0) = subst (λ n. slice_get types (suc n) ≡ Some (ty.Value w.0)) place (h zero t refl ∙ ap Some w.1) in (
      subst (λ u. HasType typing u (Element (Value q j))) (sym w.1) (record { types = types; known = known; type = at }),
      tail_typed typing q types known (j + 1) ts (λ i u is. (let next : j + suc i ≡ (j + 1) + i = omega arith in subst (λ n. slice_get types (suc n) ≡ Some u) next (h (suc i) u is))) (λ i. v (suc i)),
    )

pub elements_typed : (typing : Typing) (q : Path) (types : List Ty) → typing q ≡ Some types → (r : ℕ) → length types ≡ suc r → ((t : Ty) → slice_get types 0 ≡ Some t → is_token t ≡ true) → ((i : ℕ) (t : Ty) → slice_get types (suc i) ≡ Some t → is_value t ≡ true) → AreTyped typing types (elements_of q r)
elements_typed typing q [] known r n first rest = absurd (omega (arith, n))
elements_typed typing q (t ∷ ts) known r n first rest =
    let count : length ts ≡ r = omega (arith, n) in (
      subst (λ u. HasType typing u (Element (Token q))) (sym (token_is t (first t refl))) tt,
      subst (λ m. AreTyped typing ts (map (λ i. Element (Value q i)) (numbers_from 0 m))) count
          (tail_typed typing q (t ∷ ts) known 0 ts (λ i u is. (let place : i ≡ 0 + i = omega arith in subst (λ m. slice_get (t ∷ ts) (suc m) ≡ Some u) place is)) (λ i u is. rest i u is)),
    )

-- ---- groups of operands

take_all : {X : Type 0} (n : ℕ) (xs : List X) → length xs ≡ n → take n xs ≡ xs
take_all zero [] e = refl
take_all zero (x ∷ xs) e = absurd (omega (arith, e))
take_all (suc n) [] e = absurd (omega (arith, e))
take_all (suc n) (x ∷ xs) e = ap (λ l. x ∷ l) (take_all n xs (omega (arith, e)))

-- the values behind the first so many
pub behind_typed : (typing : Typing) (env : Env) (a : ℕ) (xs : List ValueNo) (ts : List Ty) → length xs ≡ a + length ts → ((i j : ℕ) (x : ValueNo) (t : Ty) → j ≡ a + i → slice_get xs j ≡ Some x → slice_get ts i ≡ Some t → HasType typing t (named env x.0)) →
    AreTyped typing ts (take (length ts) (drop a (values_at env xs)))
behind_typed typing env zero xs ts n h =
    let count : length xs ≡ length ts = omega (arith, n) in
    subst (AreTyped typing ts) (sym (take_all (length ts) (values_at env xs) (length-map xs (λ x. named env x.0) ∙ count))) (values_typed typing ts xs env count (λ i x t at there. h i i x t (omega arith) at there))
behind_typed typing env (suc a) [] ts n h = absurd (omega (arith, n))
behind_typed typing env (suc a) (x ∷ xs) ts n h =
    behind_typed typing env a xs ts (omega (arith, n)) (λ i j y t e at there. h i (suc j) y t (omega (arith, e)) at there)

pub two_groups : (gs : List ℕ) (n : ℕ) → are_task_groups gs n ≡ true → (a : ℕ) × (gs ≡ a ∷ n ∷ [])
two_groups (a ∷ b ∷ []) n e = (a, ap (λ x. a ∷ x ∷ []) (equal b n e))
two_groups gs n e = cc

pub three_groups : (gs : List ℕ) (n : ℕ) → are_groups gs n ≡ true → gs ≡ n ∷ n ∷ n ∷ []
three_groups (a ∷ b ∷ c ∷ []) n e =
    let x = both_true (a == n) (b == n && c == n) e in
    let y = both_true (b == n) (c == n) x.1 in
    ap (λ i. i ∷ b ∷ c ∷ []) (equal a n x.0) ∙ (ap (λ i. n ∷ i ∷ c ∷ []) (equal b n y.0) ∙ ap (λ i. n ∷ n ∷ i ∷ []) (equal c n y.1))
three_groups gs n e = cc

pub task_asked : (a i j : ℕ) (ws : List Ty) (t : Ty) → j ≡ a + i → (if nat_lt j a then is_token t else is_asked (slice_get ws (j - a)) t) ≡ true → is_asked (slice_get ws i) t ≡ true
task_asked a i j ws t e h = split (ltb j a) refl h where
  split : (b : Bool) → ltb j a ≡ b → (if b then is_token t else is_asked (slice_get ws (j - a)) t) ≡ true → is_asked (slice_get ws i) t ≡ true
  split true is k = let less : j < a = ltb-true j a is in absurd (omega (arith, less, e))
  split false is k = let place : j - a ≡ i = omega (arith, e) in subst (λ m. is_asked (slice_get ws m) t ≡ true) place k

-- ---- parallel loops

take_length : {X : Type 0} (n : ℕ) (xs : List X) → n ≤ length xs → length (take n xs) ≡ n
take_length zero xs h = refl
take_length (suc n) [] h = absurd (omega (arith, h))
take_length (suc n) (x ∷ xs) h = let rest = take_length n xs (omega (arith, h)) in omega (arith, rest)

drop_length : {X : Type 0} (n m : ℕ) (xs : List X) → length xs ≡ n + m → length (drop n xs) ≡ m
drop_length zero m xs h = omega (arith, h)
drop_length (suc n) m [] h = absurd (omega (arith, h))
drop_length (suc n) m (x ∷ xs) h = drop_length n m xs (omega (arith, h))

pub record Thirds {X : Type 0} (n : ℕ) (xs : List X) : Type 0 where
  pub lower : length (take n xs) ≡ n
  pub upper : length (take n (drop n xs)) ≡ n
  pub step : length (take n (drop n (drop n xs))) ≡ n

pub thirds : {X : Type 0} (n : ℕ) (xs : List X) → length xs ≡ n + (n + n) → Thirds n xs
thirds n xs h =
    let one = drop_length n (n + n) xs h in
    let two = drop_length n n (drop n xs) one in
    record { lower = take_length n xs (omega (arith, h)); upper = take_length n (drop n xs) (omega (arith, one)); step = take_length n (drop n (drop n xs)) (omega (arith, two)) }

pub spans_length : (n : ℕ) (ls us ss : List ℕ) (spans : List Span) → length ls ≡ n → length us ≡ n → length ss ≡ n → spans_of ls us ss ≡ Some spans → length spans ≡ n
spans_length zero [] us ss spans a b c e = let none : [] ≡ spans = cc in ap length (sym none)
spans_length zero (l ∷ ls) us ss spans a b c e = absurd (omega (arith, a))
spans_length (suc n) [] us ss spans a b c e = absurd (omega (arith, a))
spans_length (suc n) (l ∷ ls) [] ss spans a b c e = absurd (omega (arith, b))
spans_length (suc n) (l ∷ ls) (u ∷ us) [] spans a b c e = absurd (omega (arith, c))
spans_length (suc n) (l ∷ ls) (u ∷ us) (s ∷ ss) spans a b c e = split (are_bounds l u s) (spans_of ls us ss) (λ more is. spans_length n ls us ss more (omega (arith, a)) (omega (arith, b)) (omega (arith, c)) is) e where
  split : (x : Bool) (o : Option (List Span)) → ((more : List Span) → o ≡ Some more → length more ≡ n) → (if x then option_map (λ more. record { lower = l; step = s; turns = turns_between l u s } ∷ more) o else None) ≡ Some spans → length spans ≡ suc n
  split true None is k = cc
  split true (Some more) is k =
      let same : record { lower = l; step = s; turns = turns_between l u s } ∷ more ≡ spans = cc in
      sym (ap length same) ∙ ap suc (is more refl)
  split false o is k = cc

pub variables_length : (spans : List Span) (i : ℕ) → length (variables spans i) ≡ length spans
variables_length [] i = refl
variables_length (s ∷ spans) i = ap suc (variables_length spans i)

pub indexes_typed : (typing : Typing) (ps : Seen) (ns : List ℕ) → length ps ≡ length ns → ((i : ℕ) (x : ValueNo × Ty) → slice_get ps i ≡ Some x → is_index x.1 ≡ true) → AreTyped typing (types_in ps) (map Number ns)
indexes_typed typing [] [] n h = tt
indexes_typed typing [] (m ∷ ns) n h = absurd (omega (arith, n))
indexes_typed typing (p ∷ ps) [] n h = absurd (omega (arith, n))
indexes_typed typing (p ∷ ps) (m ∷ ns) n h = (subst (λ t. HasType typing t (Number m)) (sym (index_is p.1 (h zero p refl))) tt, indexes_typed typing ps ns (omega (arith, n)) (λ i. h (suc i)))

pub first_is : (rs : List Region) (r : Region) → slice_get rs 0 ≡ Some r → first_params rs ≡ params_of r
first_is [] r e = cc
first_is (x ∷ rs) r e = let same : x ≡ r = cc in ap params_of same
