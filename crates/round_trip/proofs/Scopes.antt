-- The values that are visible: below the next one's number, and more of them as a text goes on.
use Rattle.std.proofs.Common.{◌≡◌, ◌<◌, ◌≤◌, ℕ, ◌+◌, ◌-◌, ◌^◌, List, [], ◌∷◌, ◌++◌, map, length, refl, sym, ap, subst, ◌∙◌, append_assoc, append-nil, arith}
use Rattle.std.proofs.lemmas.List.{map-append}
use Rattle.op_table.specs.declared.rows.Level.{Level}
use Rattle.ir_forms.specs.declared.types.Ty.{Ty}
use Rattle.ir_forms.specs.declared.ops.ValueNo.{ValueNo}
use Rattle.ir_forms.specs.Ops.{results_of}
use Rattle.module_grammar.specs.declared.state.Name.{Name}
use Rattle.module_grammar.specs.State.{value, param_names, param_value, values_of}
use Rattle.mlir_print.specs.Printable.{Scope, Part, Prints, NumberOn, numbers, defining, params_of}
use Rattle.round_trip.proofs.Values.{named, shown, param_of, AreSmall, AreBelow}

-- ---- numbers below another

abbrev pub AllUnder : ℕ → List ℕ → Type 0
AllUnder n [] = Unit {0}
AllUnder n (x ∷ xs) = (x < n) × AllUnder n xs

under-more : (n k : ℕ) (xs : List ℕ) → n ≤ k → AllUnder n xs → AllUnder k xs
under-more n k [] h a = tt
under-more n k (x ∷ xs) h a = (let b = a.0 in omega arith, under-more n k xs h a.1)

under-append : (n : ℕ) (xs ys : List ℕ) → AllUnder n xs → AllUnder n ys → AllUnder n (xs ++ ys)
under-append n [] ys a b = b
under-append n (x ∷ xs) ys a b = (a.0, under-append n xs ys a.1 b)

numbers-under : (n : ℕ) (vs : List ValueNo) → NumberOn n vs → AllUnder (n + length vs) (numbers vs)
numbers-under n [] h = tt
numbers-under n (v ∷ vs) h =
    let a = h.0 in
    let e : n + 1 + length vs ≡ n + length (v ∷ vs) = omega arith in
    (omega arith, subst (λ k. AllUnder k (numbers vs)) e (numbers-under (n + 1) vs h.2))

numbers-top : (n : ℕ) (vs : List ValueNo) → NumberOn n vs → n ≤ 2 ^ 32 - 1 → n + length vs ≤ 2 ^ 32 - 1
numbers-top n [] h top = omega arith
numbers-top n (v ∷ vs) h top = let a = h.1 in let b = numbers-top (n + 1) vs h.2 (omega arith) in omega arith

pub under-small : (n : ℕ) (xs : List ℕ) → n ≤ 2 ^ 32 - 1 → AllUnder n xs → AreSmall xs
under-small n [] h a = tt
under-small n (x ∷ xs) h a = (let b = a.0 in omega arith, under-small n xs h a.1)

pub under-below : (n : ℕ) (xs : List ℕ) → AllUnder n xs → AreBelow n (map shown xs)
under-below n [] a = tt
under-below n (x ∷ xs) a = ((value x, refl, a.0), under-below n xs a.1)

-- ---- scopes

pub record IsGood (s : Scope) : Type 0 where
  pub top : s.next ≤ 2 ^ 32 - 1
  pub under : AllUnder s.next s.seen

pub record Grown (s e : Scope) : Type 0 where
  pub next : s.next ≤ e.next
  pub more : List ℕ
  pub seen : e.seen ≡ s.seen ++ more
  pub good : IsGood e

pub good-defining : (s : Scope) (vs : List ValueNo) → IsGood s → NumberOn s.next vs → IsGood (defining s vs)
good-defining s vs good on = record {
  top = numbers-top s.next vs on good.top;
  under = under-append (s.next + length vs) s.seen (numbers vs) (under-more s.next (s.next + length vs) s.seen (omega arith) good.under) (numbers-under s.next vs on);
}

-- the numbers of an operation's results are taken, but aren't visible
pub good-taken : (s : Scope) (vs : List ValueNo) → IsGood s → NumberOn s.next vs → IsGood (record { next = s.next + length vs; seen = s.seen })
good-taken s vs good on = record {
  top = numbers-top s.next vs on good.top;
  under = under-more s.next (s.next + length vs) s.seen (omega arith) good.under;
}

-- what was visible outside is visible again
pub good-again : (s inner : Scope) → IsGood s → IsGood inner → s.next ≤ inner.next → IsGood (record { next = inner.next; seen = s.seen })
good-again s inner good further h = record { top = further.top; under = under-more s.next inner.next s.seen h good.under }

pub good-behind : (s inner : Scope) (vs : List ValueNo) → IsGood s → NumberOn s.next vs → IsGood inner → s.next + length vs ≤ inner.next
    → IsGood (record { next = inner.next; seen = s.seen ++ numbers vs })
good-behind s inner vs good on further h = record {
  top = further.top;
  under = under-more (s.next + length vs) inner.next (s.seen ++ numbers vs) h (good-defining s vs good on).under;
}

pub grown : (level : Level) (p : Part) (s e : Scope) → Prints level p s e → IsGood s → Grown s e
grown level _ _ _ (Prints.no_ops s) good = record { next = omega arith; more = []; seen = sym (append-nil s.seen); good = good }
grown level _ _ _ (Prints.operation o os s inner end at form small on are regions rest) good =
    let vs = results_of o in
    let a = grown level _ _ _ regions (good-taken s vs good on) in
    let an : s.next + length vs ≤ inner.next = a.next in
    let b = grown level _ _ _ rest (good-behind s inner vs good on a.good a.next) in
    let bn : inner.next ≤ end.next = b.next in
    record { next = omega arith; more = numbers vs ++ b.more; seen = b.seen ∙ append_assoc s.seen (numbers vs) b.more; good = b.good }
grown level _ _ _ (Prints.no_regions o i s) good = record { next = omega arith; more = []; seen = sym (append-nil s.seen); good = good }
grown level _ _ _ (Prints.region o i r rs s inner end on is_ended ops rest) good =
    let vs = map (λ p. p.0) (params_of r) in
    let a = grown level _ _ _ ops (good-defining s vs good on) in
    let an : s.next + length vs ≤ inner.next = a.next in
    let b = grown level _ _ _ rest (good-again s inner good a.good (omega arith)) in
    let bn : inner.next ≤ end.next = b.next in
    record { next = omega arith; more = b.more; seen = b.seen; good = b.good }

-- ---- names of values

pub shown-numbers : (vs : List ValueNo) → map named vs ≡ map shown (numbers vs)
shown-numbers [] = refl
shown-numbers (v ∷ vs) = ap (λ (l : List Name). named v ∷ l) (shown-numbers vs)

pub visible-more : (seen : List ℕ) (vs : List ValueNo) → map shown seen ++ map named vs ≡ map shown (seen ++ numbers vs)
visible-more seen vs = ap (λ (l : List Name). map shown seen ++ l) (shown-numbers vs) ∙ sym (map-append shown seen (numbers vs))

pub names-of-params : (ps : List (ValueNo × Ty)) → param_names (map param_of ps) ≡ map named (map (λ p. p.0) ps)
names-of-params [] = refl
names-of-params (p ∷ ps) = ap (λ (l : List Name). named p.0 ∷ l) (names-of-params ps)

pub values-of-params : (ps : List (ValueNo × Ty)) → map param_value (map param_of ps) ≡ ps
values-of-params [] = refl
values-of-params (p ∷ ps) = ap (λ l. p ∷ l) (values-of-params ps)

pub values-of-named : (vs : List ValueNo) → values_of (map named vs) ≡ vs
values-of-named [] = refl
values-of-named (v ∷ vs) = ap (λ l. v ∷ l) (values-of-named vs)
