-- Keys with some more, and without some.
use Rattle.std.proofs.Common.{◌≡◌, ◌<◌, ℕ, ◌+◌, List, [], ◌∷◌, ◌++◌, map, drop, length, get_or, refl, sym, ap, ◌∙◌}
use Rattle.std.proofs.lemmas.List.{drop_more}
use Rattle.ir_forms.specs.declared.ops.Op.{Op, out-Op}
use Rattle.ir_forms.specs.declared.ops.Op.TheFolds.{fold_out-Op, fold_out-Region}
use Rattle.ir_forms.specs.declared.ops.Region.{Region, out-Region}
use Rattle.ir_forms.specs.Numbers.{joined}
use Rattle.std.specs.BTreeMap.{is_at}
use Rattle.std.specs.BTreeSet.{insert_key}
use Rattle.std.specs.Ordering.{nat_cmp}
use Rattle.std.specs.Set.{remove_key}
use Rattle.ir_forms.specs.declared.ops.ValueNo.{ValueNo}
use Rattle.ir_forms.specs.declared.types.Ty.{Ty}
use Rattle.made_funcs.specs.Values.{Typed, op_values, region_values, typed, values_in, values_inside}
use Rattle.made_funcs.specs.Captures.{numbers, op_uses, region_uses, uses_in, uses_inside, with_all, without_all}

pub with_more : (ks ms ns : List ℕ) → with_all ks (ms ++ ns) ≡ with_all (with_all ks ms) ns
with_more ks [] ns = refl
with_more ks (m ∷ ms) ns = with_more (insert_key nat_cmp ks m) ms ns

abbrev number : ValueNo × Ty → ℕ
number p = p.0.0

pub without_more : (ks : List ℕ) (ps qs : Typed) → without_all ks (map number (ps ++ qs)) ≡ without_all (without_all ks (map number ps)) (map number qs)
without_more ks [] qs = refl
without_more ks (p ∷ ps) qs = without_more (remove_key (is_at (nat_cmp p.0.0)) ks) ps qs

pub numbers_typed : (vs : List ValueNo) (ts : List Ty) → map number (typed vs ts) ≡ numbers vs
numbers_typed [] ts = refl
numbers_typed (v ∷ vs) [] = ap (λ (ns : List ℕ). v.0 ∷ ns) (numbers_typed vs [])
numbers_typed (v ∷ vs) (t ∷ ts) = ap (λ (ns : List ℕ). v.0 ∷ ns) (numbers_typed vs ts)

pub without_results : (ks : List ℕ) (vs : List ValueNo) (ts : List Ty) (qs : Typed) → without_all ks (map number (typed vs ts ++ qs)) ≡ without_all (without_all ks (numbers vs)) (map number qs)
without_results ks vs ts qs = without_more ks (typed vs ts) qs ∙ ap (λ ns. without_all (without_all ks ns) (map number qs)) (numbers_typed vs ts)

-- one operand more
pub one_more : (ks more : List ℕ) (vs : List ValueNo) (i : ℕ) (d : ValueNo) → i < length vs → more ≡ insert_key nat_cmp ks (get_or vs i d).0 → with_all ks (numbers (drop i vs)) ≡ with_all more (numbers (drop (i + 1) vs))
one_more ks more vs i d less is =
    ap (λ (ws : List ValueNo). with_all ks (numbers ws)) (drop_more vs i d less)
    ∙ ap (λ (ms : List ℕ). with_all ms (numbers (drop (i + 1) vs))) (sym is)

-- one result less
pub one_less : (ks rest : List ℕ) (vs : List ValueNo) (i : ℕ) (d : ValueNo) → i < length vs → rest ≡ remove_key (is_at (nat_cmp (get_or vs i d).0)) ks → without_all ks (numbers (drop i vs)) ≡ without_all rest (numbers (drop (i + 1) vs))
one_less ks rest vs i d less is =
    ap (λ (ws : List ValueNo). without_all ks (numbers ws)) (drop_more vs i d less)
    ∙ ap (λ (ms : List ℕ). without_all ms (numbers (drop (i + 1) vs))) (sym is)

-- ---- what operations use, region by region

-- the operands of an operation come first
pub uses_begun : (op : Op) (os : List ValueNo) (rs : List Region) (ks more : List ℕ) → os ≡ (out-Op op).operands → rs ≡ (out-Op op).regions → more ≡ with_all ks (numbers os)
    → with_all more (joined (map uses_inside rs)) ≡ with_all ks (uses_in op)
uses_begun op os rs ks more is_os is_rs is =
    ap (λ (ms : List ℕ). with_all ms (joined (map uses_inside rs))) (is ∙ ap (λ (vs : List ValueNo). with_all ks (numbers vs)) is_os)
    ∙ sym (with_more ks (numbers (out-Op op).operands) (joined (map uses_inside rs)))
    ∙ ap (λ (regions : List Region). with_all ks (numbers (out-Op op).operands ++ joined (map uses_inside regions))) is_rs
    ∙ ap (with_all ks) (sym (fold_out-Op (List ℕ) (List ℕ) op_uses region_uses op))

-- one thing more
pub with_turn : {X : Type 0} (f : X → List ℕ) (xs : List X) (i : ℕ) (x : X) (ks more : List ℕ) → i < length xs → x ≡ get_or xs i x → more ≡ with_all ks (f x)
    → with_all more (joined (map f (drop (i + 1) xs))) ≡ with_all ks (joined (map f (drop i xs)))
with_turn {X} f xs i x ks more less is made =
    ap (λ (ms : List ℕ). with_all ms (joined (map f (drop (i + 1) xs)))) made
    ∙ sym (with_more ks (f x) (joined (map f (drop (i + 1) xs))))
    ∙ ap (λ (y : X). with_all ks (f y ++ joined (map f (drop (i + 1) xs)))) is
    ∙ ap (λ (ys : List X). with_all ks (joined (map f ys))) (sym (drop_more xs i x less))

-- ---- what they define

-- the results of an operation come first
pub values_begun : (op : Op) (vs : List ValueNo) (rs : List Region) (ks rest : List ℕ) → vs ≡ (out-Op op).results → rs ≡ (out-Op op).regions → rest ≡ without_all ks (numbers vs)
    → without_all rest (map number (joined (map values_inside rs))) ≡ without_all ks (map number (values_in op))
values_begun op vs rs ks rest is_vs is_rs is =
    ap (λ (ms : List ℕ). without_all ms (map number (joined (map values_inside rs)))) (is ∙ ap (λ (ws : List ValueNo). without_all ks (numbers ws)) is_vs)
    ∙ sym (without_results ks (out-Op op).results (out-Op op).types (joined (map values_inside rs)))
    ∙ ap (λ (regions : List Region). without_all ks (map number (typed (out-Op op).results (out-Op op).types ++ joined (map values_inside regions)))) is_rs
    ∙ ap (λ (ps : Typed). without_all ks (map number ps)) (sym (fold_out-Op Typed Typed op_values region_values op))

-- the parameters of a region come first
pub params_begun : (region : Region) (ps : Typed) (os : List Op) (ks rest : List ℕ) → ps ≡ (out-Region region).params → os ≡ (out-Region region).ops → rest ≡ without_all ks (map number ps)
    → without_all rest (map number (joined (map values_in os))) ≡ without_all ks (map number (values_inside region))
params_begun region ps os ks rest is_ps is_os is =
    ap (λ (ms : List ℕ). without_all ms (map number (joined (map values_in os)))) (is ∙ ap (λ (qs : Typed). without_all ks (map number qs)) is_ps)
    ∙ sym (without_more ks (out-Region region).params (joined (map values_in os)))
    ∙ ap (λ (ops : List Op). without_all ks (map number ((out-Region region).params ++ joined (map values_in ops)))) is_os
    ∙ ap (λ (qs : Typed). without_all ks (map number qs)) (sym (fold_out-Region Typed Typed op_values region_values region))

-- one thing less
pub without_turn : {X : Type 0} (f : X → Typed) (xs : List X) (i : ℕ) (x : X) (ks rest : List ℕ) → i < length xs → x ≡ get_or xs i x → rest ≡ without_all ks (map number (f x))
    → without_all rest (map number (joined (map f (drop (i + 1) xs)))) ≡ without_all ks (map number (joined (map f (drop i xs))))
without_turn {X} f xs i x ks rest less is made =
    ap (λ (ms : List ℕ). without_all ms (map number (joined (map f (drop (i + 1) xs))))) made
    ∙ sym (without_more ks (f x) (joined (map f (drop (i + 1) xs))))
    ∙ ap (λ (y : X). without_all ks (map number (f y ++ joined (map f (drop (i + 1) xs))))) is
    ∙ ap (λ (ys : List X). without_all ks (map number (joined (map f ys)))) (sym (drop_more xs i x less))
