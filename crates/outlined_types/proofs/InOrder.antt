-- The values of a printable function are numbered in the order of the text.
use Rattle.std.proofs.Common.{◌≡◌, inl, inr, ◌<◌, ◌≤◌, ℕ, suc, ◌+◌, cond, List, [], ◌∷◌, ◌++◌, length, map, refl, sym, ap, ◌∙◌, subst, arith, append_assoc}
use Rattle.std.proofs.lemmas.Bool.Decides.{eqb_tells}
use Rattle.op_table.specs.declared.rows.Level.{Level}
use Rattle.ir_forms.specs.declared.ops.Op.{Op}
use Rattle.ir_forms.specs.declared.ops.Op.TheFolds.{fold_out-Op, fold_out-Region}
use Rattle.ir_forms.specs.declared.ops.Region.{Region}
use Rattle.ir_forms.specs.declared.ops.ValueNo.{ValueNo}
use Rattle.ir_forms.specs.declared.types.Ty.{Ty}
use Rattle.ir_forms.specs.Numbers.{joined}
use Rattle.ir_forms.specs.Ops.{ops_of, regions_of, results_of}
use Rattle.made_funcs.specs.Values.{op_values, region_values}
use Rattle.mlir_print.specs.Printable.{NumberOn, Ops, Part, Prints, Regions, Scope, no_ops, no_regions, operation, params_of, region, types_of}
use Rattle.exec_outline.specs.Shape.{Typed, first_free, type_in, typed, values_in, values_inside, values_of}
use Rattle.outlined_types.specs.Ordered.{AreHeld, CountOn, TextCountsOn, ValuesAreHeld}

pub count_both : (a b c : ℕ) (xs ys : Typed) → CountOn a b xs → CountOn b c ys → CountOn a c (xs ++ ys)
count_both a b c [] ys f g = subst (λ n. CountOn n c ys) (sym f) g
count_both a b c (x ∷ xs) ys f g = (f.0, count_both (a + 1) b c xs ys f.1 g)

pub count_results : (a : ℕ) (vs : List ValueNo) (ts : List Ty) → NumberOn a vs → CountOn a (a + length vs) (typed vs ts)
count_results a [] ts is = (let e : a ≡ a + 0 = omega arith in e)
count_results a (v ∷ vs) [] is = (is.0, subst (λ b. CountOn (a + 1) b (typed vs [])) (let e : a + 1 + length vs ≡ a + suc (length vs) = omega arith in e) (count_results (a + 1) vs [] is.2))
count_results a (v ∷ vs) (t ∷ ts) is = (is.0, subst (λ b. CountOn (a + 1) b (typed vs ts)) (let e : a + 1 + length vs ≡ a + suc (length vs) = omega arith in e) (count_results (a + 1) vs ts is.2))

pub count_params : (a : ℕ) (ps : Typed) → NumberOn a (map (λ p. p.0) ps) → CountOn a (a + length (map (λ (p : ValueNo × Ty). p.0) ps)) ps
count_params a [] is = (let e : a ≡ a + 0 = omega arith in e)
count_params a (p ∷ ps) is =
    let n : ℕ = length (map (λ (q : ValueNo × Ty). q.0) ps) in
    (is.0, subst (λ b. CountOn (a + 1) b ps) (let e : a + 1 + n ≡ a + suc n = omega arith in e) (count_params (a + 1) ps is.2))

pub op_defines : (o : Op) → values_in o ≡ typed (results_of o) (types_of o) ++ joined (map values_inside (regions_of o))
op_defines o = fold_out-Op Typed Typed op_values region_values o

pub region_defines : (r : Region) → values_inside r ≡ params_of r ++ joined (map values_in (ops_of r))
region_defines r = fold_out-Region Typed Typed op_values region_values r

module _ (level : Level) where
  abbrev pub Counts : Part → Scope → Scope → Type 0
  Counts (Ops os) from to = CountOn from.next to.next (joined (map values_in os))
  Counts (Regions o i rs) from to = CountOn from.next to.next (joined (map values_inside rs))

  pub counts_on : {x : Part} {from to : Scope} → Prints level x from to → Counts x from to
  counts_on (no_ops s) = refl
  counts_on (operation o os s inner end stands form at new uses regions rest) =
      let ds : Typed = joined (map values_inside (regions_of o)) in
      count_both s.next inner.next end.next (values_in o) (joined (map values_in os))
      (subst (λ (ps : Typed). CountOn s.next inner.next ps) (sym (op_defines o))
      (count_both s.next (s.next + length (results_of o)) inner.next (typed (results_of o) (types_of o)) ds (count_results s.next (results_of o) (types_of o) new) (counts_on regions)))
      (counts_on rest)
  counts_on (no_regions o i s) = refl
  counts_on (region o i r rs s inner end new ended ops rest) =
      let ds : Typed = joined (map values_in (ops_of r)) in
      count_both s.next inner.next end.next (values_inside r) (joined (map values_inside rs))
      (subst (λ (ps : Typed). CountOn s.next inner.next ps) (sym (region_defines r))
      (count_both s.next (s.next + length (map (λ (p : ValueNo × Ty). p.0) (params_of r))) inner.next (params_of r) ds (count_params s.next (params_of r) new) (counts_on ops)))
      (counts_on rest)

pub text_counts_on : TextCountsOn
text_counts_on level os from to prints = counts_on level prints

-- ---- types by numbers

later : (n : ℕ) (x : ValueNo × Ty) (xs : Typed) → (x.0.0 ≡ n → ⊥) → type_in (x ∷ xs) n ≡ type_in xs n
later n x xs apart = elim (eqb_tells x.0.0 n) [
  | inl h ↦ absurd (apart h.1)
  | inr h ↦ ap (λ b. cond b x.1 (type_in xs n)) h.0
]

here : (n : ℕ) (x : ValueNo × Ty) (xs : Typed) → x.0.0 ≡ n → type_in (x ∷ xs) n ≡ x.1
here n x xs same = elim (eqb_tells x.0.0 n) [
  | inl h ↦ ap (λ b. cond b x.1 (type_in xs n)) h.0
  | inr h ↦ absurd (h.1 same)
]

-- the values from a on, behind some below
held_from : (front : Typed) (a b c : ℕ) (xs : Typed) → CountOn a b front → CountOn b c xs → AreHeld (front ++ xs) xs
held_from front a b c [] f g = tt
held_from front a b c (x ∷ xs) f g =
    (found front a f, free front, subst (λ (all : Typed). AreHeld all xs) (append_assoc front (x ∷ []) xs) (held_from (front ++ x ∷ []) a (b + 1) c xs (count_both a b (b + 1) front (x ∷ []) f (g.0, refl)) g.1))
  where
    found : (ys : Typed) (k : ℕ) → CountOn k b ys → type_in (ys ++ x ∷ xs) x.0.0 ≡ x.1
    found [] k f = here x.0.0 x xs refl
    found (y ∷ ys) k f =
        let le : k + 1 ≤ b = up ys (k + 1) f.1 in
        let e = f.0 in
        let own = g.0 in
        later x.0.0 y (ys ++ x ∷ xs) (λ same. absurd (omega (arith, le, e, own, same))) ∙ found ys (k + 1) f.1
      where
        up : (zs : Typed) (j : ℕ) → CountOn j b zs → j ≤ b
        up [] j is = omega (arith, is)
        up (z ∷ zs) j is = (let more = up zs (j + 1) is.1 in omega (arith, more))

    free : (ys : Typed) → x.0.0 < first_free (ys ++ x ∷ xs)
    free [] = omega arith
    free (y ∷ ys) = (let more = free ys in omega (arith, more))

pub values_are_held : ValuesAreHeld
values_are_held level f is =
    let n : ℕ = 0 + length (map (λ (p : ValueNo × Ty). p.0) f.params) in
    let end : Scope = is.6.0 in
    let body : CountOn n end.next (joined (map values_in (ops_of f.body))) = counts_on level is.6.1 in
    let inside : values_inside f.body ≡ joined (map values_in (ops_of f.body)) = region_defines f.body ∙ ap (λ (ps : Typed). ps ++ joined (map values_in (ops_of f.body))) is.3 in
    held_from [] 0 0 end.next (values_of f) refl
    (count_both 0 n end.next f.params (values_inside f.body) (count_params 0 f.params is.5) (subst (λ (ps : Typed). CountOn n end.next ps) (sym inside) body))
