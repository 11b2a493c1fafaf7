-- What renaming does to the values and the operands of a function, by induction over operations and regions.
use Rattle.std.proofs.Common.{◌≡◌, ℕ, suc, List, [], ◌∷◌, ◌++◌, map, refl, sym, ap, subst, ◌∙◌, arith}
use Rattle.std.proofs.lemmas.List.{map-append}
use Rattle.std.specs.List.{All}
use Rattle.ir_forms.specs.declared.ops.Func.{Func}
use Rattle.ir_forms.specs.declared.ops.Op.{Op, Op-F, roll-Op}
use Rattle.ir_forms.specs.declared.ops.Op.TheFolds.{fold-Op, fold-Region, fold-roll-Op, fold-roll-Region, ind-Region}
use Rattle.ir_forms.specs.declared.ops.Region.{Region, Region-F, roll-Region}
use Rattle.ir_forms.specs.declared.ops.ValueNo.{ValueNo}
use Rattle.ir_forms.specs.declared.types.Ty.{Ty}
use Rattle.source_meaning.specs.Parts.{names_of, joined, uses_at, uses_under, uses_of}
use Rattle.source_meaning.specs.Renaming.{renamed_value, renamed_values, renamed_params, op_renamed, region_renamed, renamed_op, renamed_region, renamed_func}
use Rattle.value_numbers.specs.Numbers.{op_values, region_values, values_in, values_inside, values_of, as_numbers, defined_in}

-- ---- what holds of each

abbrev pub Each : {A : Type 0} → (A → Type 0) → List A → Type 0
Each P [] = Unit {0}
Each P (x ∷ xs) = P x × Each P xs

each_of : {A : Type 0} (P : A → Type 0) (ys : List ((x : A) × P x)) → Each P (map (λ e. e.0) ys)
each_of P [] = tt
each_of P (y ∷ ys) = (y.1, each_of P ys)

-- by induction over what stands in an operation or a region
pub tree : (P : Op → Type 0) (Q : Region → Type 0) → ((x : Op-F Op Region) → Each Q x.regions → P (roll-Op x)) →
    ((x : Region-F Op Region) → Each P x.ops → Q (roll-Region x)) → (region : Region) → Q region
tree P Q op_step region_step = ind-Region P Q
    (λ x y is. op_step x (subst (λ (z : Op-F Op Region). Each Q z.regions) is (each_of Q y.regions)))
    (λ x y is. region_step x (subst (λ (z : Region-F Op Region). Each P z.ops) is (each_of P y.ops)))

pub each-all : {A : Type 0} (P : A → Type 0) (xs : List A) → All P xs → Each P xs
each-all P [] all = tt
each-all P (x ∷ xs) all = (all 0 x (omega arith), each-all P xs (λ k d less. all (suc k) d (omega (arith, less))))

each-front : {A : Type 0} (P : A → Type 0) (xs ys : List A) → Each P (xs ++ ys) → Each P xs
each-front P [] ys each = tt
each-front P (x ∷ xs) ys each = (each.0, each-front P xs ys each.1)

each-back : {A : Type 0} (P : A → Type 0) (xs ys : List A) → Each P (xs ++ ys) → Each P ys
each-back P [] ys each = each
each-back P (x ∷ xs) ys each = each-back P xs ys each.1

-- ---- lists that are renamed part by part

joined-mapped : {X A : Type 0} (f : X → List A) (k : X → X) (h : A → A) (xs : List X) → Each (λ x. f (k x) ≡ map h (f x)) xs → joined (map f (map k xs)) ≡ map h (joined (map f xs))
joined-mapped f k h [] each = refl
joined-mapped {X} {A} f k h (x ∷ xs) each =
    ap (λ (ys : List A). ys ++ joined (map f (map k xs))) each.0
    ∙ ap (λ (ys : List A). map h (f x) ++ ys) (joined-mapped f k h xs each.1)
    ∙ sym (map-append h (f x) (joined (map f xs)))

mapped-twice : {X : Type 0} (f g h : X → X) (xs : List X) → Each (λ x. f (g x) ≡ h x) xs → map f (map g xs) ≡ map h xs
mapped-twice f g h [] each = refl
mapped-twice {X} f g h (x ∷ xs) each = ap (λ (y : X). y ∷ map f (map g xs)) each.0 ∙ ap (λ (ys : List X). h x ∷ ys) (mapped-twice f g h xs each.1)

-- ---- one layer

pub values-made : (x : Op-F Op Region) → values_in (roll-Op x) ≡ x.results ++ joined (map values_inside x.regions)
values-made x = fold-roll-Op (List ValueNo) (List ValueNo) op_values region_values x

pub values-held : (x : Region-F Op Region) → values_inside (roll-Region x) ≡ names_of x.params ++ joined (map values_in x.ops)
values-held x = fold-roll-Region (List ValueNo) (List ValueNo) op_values region_values x

abbrev pub uses_in : Op → List ValueNo
uses_in = fold-Op (List ValueNo) (List ValueNo) uses_at uses_under

abbrev pub uses_inside : Region → List ValueNo
uses_inside = fold-Region (List ValueNo) (List ValueNo) uses_at uses_under

uses-made : (x : Op-F Op Region) → uses_in (roll-Op x) ≡ x.operands ++ joined (map uses_inside x.regions)
uses-made x = fold-roll-Op (List ValueNo) (List ValueNo) uses_at uses_under x

uses-held : (x : Region-F Op Region) → uses_inside (roll-Region x) ≡ joined (map uses_in x.ops)
uses-held x = fold-roll-Region (List ValueNo) (List ValueNo) uses_at uses_under x

-- a layer with other names, over these regions
abbrev pub made : (ℕ → ℕ) → Op-F Op Region → List Region → Op-F Op Region
made σ x rs = record x { operands = renamed_values σ x.operands; results = renamed_values σ x.results; regions = rs }

abbrev pub held : (ℕ → ℕ) → Region-F Op Region → List Op → Region-F Op Region
held σ x ops = record x { params = renamed_params σ x.params; ops = ops }

pub renamed-made : (σ : ℕ → ℕ) (x : Op-F Op Region) → renamed_op σ (roll-Op x) ≡ roll-Op (made σ x (map (renamed_region σ) x.regions))
unfolding renamed_op renamed_region
renamed-made σ x = fold-roll-Op Op Region (op_renamed σ) (region_renamed σ) x

pub renamed-held : (σ : ℕ → ℕ) (x : Region-F Op Region) → renamed_region σ (roll-Region x) ≡ roll-Region (held σ x (map (renamed_op σ) x.ops))
unfolding renamed_op renamed_region
renamed-held σ x = fold-roll-Region Op Region (op_renamed σ) (region_renamed σ) x

names-renamed : (σ : ℕ → ℕ) (params : List (ValueNo × Ty)) → names_of (renamed_params σ params) ≡ renamed_values σ (names_of params)
names-renamed σ [] = refl
names-renamed σ (p ∷ params) = ap (λ (xs : List ValueNo). renamed_value σ p.0 ∷ xs) (names-renamed σ params)

-- ---- the values and the operands of what is renamed

module _ (σ : ℕ → ℕ) where
  abbrev ValuesAre : Op → Type 0
  ValuesAre op = values_in (renamed_op σ op) ≡ renamed_values σ (values_in op)

  abbrev ValuesInsideAre : Region → Type 0
  ValuesInsideAre region = values_inside (renamed_region σ region) ≡ renamed_values σ (values_inside region)

  op-values : (x : Op-F Op Region) → Each ValuesInsideAre x.regions → ValuesAre (roll-Op x)
  op-values x each =
      ap values_in (renamed-made σ x) ∙ values-made (made σ x (map (renamed_region σ) x.regions))
      ∙ ap (λ (vs : List ValueNo). renamed_values σ x.results ++ vs) (joined-mapped values_inside (renamed_region σ) (renamed_value σ) x.regions each)
      ∙ sym (map-append (renamed_value σ) x.results (joined (map values_inside x.regions)))
      ∙ ap (renamed_values σ) (sym (values-made x))

  region-values : (x : Region-F Op Region) → Each ValuesAre x.ops → ValuesInsideAre (roll-Region x)
  region-values x each =
      ap values_inside (renamed-held σ x) ∙ values-held (held σ x (map (renamed_op σ) x.ops))
      ∙ ap (λ (vs : List ValueNo). vs ++ joined (map values_in (map (renamed_op σ) x.ops))) (names-renamed σ x.params)
      ∙ ap (λ (vs : List ValueNo). renamed_values σ (names_of x.params) ++ vs) (joined-mapped values_in (renamed_op σ) (renamed_value σ) x.ops each)
      ∙ sym (map-append (renamed_value σ) (names_of x.params) (joined (map values_in x.ops)))
      ∙ ap (renamed_values σ) (sym (values-held x))

  pub values-renamed : (f : Func) → values_of (renamed_func σ f) ≡ renamed_values σ (values_of f)
  values-renamed f =
      ap (λ (vs : List ValueNo). vs ++ values_inside (renamed_region σ f.body)) (names-renamed σ f.params)
      ∙ ap (λ (vs : List ValueNo). renamed_values σ (names_of f.params) ++ vs) (tree ValuesAre ValuesInsideAre op-values region-values f.body)
      ∙ sym (map-append (renamed_value σ) (names_of f.params) (values_inside f.body))

  numbers-renamed : (vs : List ValueNo) → as_numbers (renamed_values σ vs) ≡ map σ (as_numbers vs)
  numbers-renamed [] = refl
  numbers-renamed (v ∷ vs) = ap (λ ns. σ v.0 ∷ ns) (numbers-renamed vs)

  pub defined-renamed : (f : Func) → defined_in (renamed_func σ f) ≡ map σ (defined_in f)
  defined-renamed f = ap as_numbers (values-renamed f) ∙ numbers-renamed (values_of f)

  abbrev UsesAre : Op → Type 0
  UsesAre op = uses_in (renamed_op σ op) ≡ renamed_values σ (uses_in op)

  abbrev UsesInsideAre : Region → Type 0
  UsesInsideAre region = uses_inside (renamed_region σ region) ≡ renamed_values σ (uses_inside region)

  op-uses : (x : Op-F Op Region) → Each UsesInsideAre x.regions → UsesAre (roll-Op x)
  op-uses x each =
      ap uses_in (renamed-made σ x) ∙ uses-made (made σ x (map (renamed_region σ) x.regions))
      ∙ ap (λ (vs : List ValueNo). renamed_values σ x.operands ++ vs) (joined-mapped uses_inside (renamed_region σ) (renamed_value σ) x.regions each)
      ∙ sym (map-append (renamed_value σ) x.operands (joined (map uses_inside x.regions)))
      ∙ ap (renamed_values σ) (sym (uses-made x))

  region-uses : (x : Region-F Op Region) → Each UsesAre x.ops → UsesInsideAre (roll-Region x)
  region-uses x each =
      ap uses_inside (renamed-held σ x) ∙ uses-held (held σ x (map (renamed_op σ) x.ops))
      ∙ joined-mapped uses_in (renamed_op σ) (renamed_value σ) x.ops each
      ∙ ap (renamed_values σ) (sym (uses-held x))

  pub uses-renamed : (f : Func) → uses_of (renamed_func σ f) ≡ renamed_values σ (uses_of f)
  uses-renamed f = tree UsesAre UsesInsideAre op-uses region-uses f.body

-- ---- renaming twice

module _ (τ σ ρ : ℕ → ℕ) (both : (x : ℕ) → τ (σ x) ≡ ρ x) where
  values-twice : (vs : List ValueNo) → renamed_values τ (renamed_values σ vs) ≡ renamed_values ρ vs
  values-twice [] = refl
  values-twice (v ∷ vs) =
      ap (λ (k : ℕ). let w : ValueNo = record { 0 = k } in w ∷ renamed_values τ (renamed_values σ vs)) (both v.0)
      ∙ ap (λ (ws : List ValueNo). renamed_value ρ v ∷ ws) (values-twice vs)

  params-twice : (params : List (ValueNo × Ty)) → renamed_params τ (renamed_params σ params) ≡ renamed_params ρ params
  params-twice [] = refl
  params-twice (p ∷ params) =
      ap (λ (k : ℕ). let q : ValueNo × Ty = (record { 0 = k }, p.1) in q ∷ renamed_params τ (renamed_params σ params)) (both p.0.0)
      ∙ ap (λ (qs : List (ValueNo × Ty)). (renamed_value ρ p.0, p.1) ∷ qs) (params-twice params)

  abbrev Twice : Op → Type 0
  Twice op = renamed_op τ (renamed_op σ op) ≡ renamed_op ρ op

  abbrev TwiceInside : Region → Type 0
  TwiceInside region = renamed_region τ (renamed_region σ region) ≡ renamed_region ρ region

  op-twice : (x : Op-F Op Region) → Each TwiceInside x.regions → Twice (roll-Op x)
  op-twice x each =
      ap (renamed_op τ) (renamed-made σ x) ∙ renamed-made τ (made σ x (map (renamed_region σ) x.regions))
      ∙ ap (λ (vs : List ValueNo). roll-Op (record x { operands = vs; results = renamed_values τ (renamed_values σ x.results); regions = map (renamed_region τ) (map (renamed_region σ) x.regions) })) (values-twice x.operands)
      ∙ ap (λ (vs : List ValueNo). roll-Op (record x { operands = renamed_values ρ x.operands; results = vs; regions = map (renamed_region τ) (map (renamed_region σ) x.regions) })) (values-twice x.results)
      ∙ ap (λ (rs : List Region). roll-Op (made ρ x rs)) (mapped-twice (renamed_region τ) (renamed_region σ) (renamed_region ρ) x.regions each)
      ∙ sym (renamed-made ρ x)

  region-twice : (x : Region-F Op Region) → Each Twice x.ops → TwiceInside (roll-Region x)
  region-twice x each =
      ap (renamed_region τ) (renamed-held σ x) ∙ renamed-held τ (held σ x (map (renamed_op σ) x.ops))
      ∙ ap (λ (ps : List (ValueNo × Ty)). roll-Region (record x { params = ps; ops = map (renamed_op τ) (map (renamed_op σ) x.ops) })) (params-twice x.params)
      ∙ ap (λ (os : List Op). roll-Region (held ρ x os)) (mapped-twice (renamed_op τ) (renamed_op σ) (renamed_op ρ) x.ops each)
      ∙ sym (renamed-held ρ x)

  pub func-twice : (f : Func) → renamed_func τ (renamed_func σ f) ≡ renamed_func ρ f
  func-twice f =
      ap (λ (ps : List (ValueNo × Ty)). let g : Func = record f { params = ps; body = renamed_region τ (renamed_region σ f.body) } in g) (params-twice f.params)
      ∙ ap (λ (body : Region). let g : Func = record f { params = renamed_params ρ f.params; body = body } in g) (tree Twice TwiceInside op-twice region-twice f.body)

-- ---- names that are the same where they count

module _ (σ τ : ℕ → ℕ) where
  abbrev pub Same : ValueNo → Type 0
  Same v = σ v.0 ≡ τ v.0

  pub values-same : (vs : List ValueNo) → Each Same vs → renamed_values σ vs ≡ renamed_values τ vs
  values-same [] each = refl
  values-same (v ∷ vs) each =
      ap (λ (k : ℕ). let w : ValueNo = record { 0 = k } in w ∷ renamed_values σ vs) each.0 ∙ ap (λ (ws : List ValueNo). renamed_value τ v ∷ ws) (values-same vs each.1)

  params-same : (params : List (ValueNo × Ty)) → Each Same (names_of params) → renamed_params σ params ≡ renamed_params τ params
  params-same [] each = refl
  params-same (p ∷ params) each =
      ap (λ (k : ℕ). let q : ValueNo × Ty = (record { 0 = k }, p.1) in q ∷ renamed_params σ params) each.0
      ∙ ap (λ (qs : List (ValueNo × Ty)). (renamed_value τ p.0, p.1) ∷ qs) (params-same params each.1)

  all-same : {X : Type 0} (values uses : X → List ValueNo) (f g : X → X) (xs : List X) → Each (λ x. Each Same (values x) → Each Same (uses x) → f x ≡ g x) xs →
      Each Same (joined (map values xs)) → Each Same (joined (map uses xs)) → map f xs ≡ map g xs
  all-same values uses f g [] each vs us = refl
  all-same {X} values uses f g (x ∷ xs) each vs us =
      ap (λ (y : X). y ∷ map f xs) (each.0 (each-front Same (values x) (joined (map values xs)) vs) (each-front Same (uses x) (joined (map uses xs)) us))
      ∙ ap (λ (ys : List X). g x ∷ ys)
      (all-same values uses f g xs each.1 (each-back Same (values x) (joined (map values xs)) vs) (each-back Same (uses x) (joined (map uses xs)) us))

  abbrev OpSame : Op → Type 0
  OpSame op = Each Same (values_in op) → Each Same (uses_in op) → renamed_op σ op ≡ renamed_op τ op

  abbrev RegionSame : Region → Type 0
  RegionSame region = Each Same (values_inside region) → Each Same (uses_inside region) → renamed_region σ region ≡ renamed_region τ region

  op-same : (x : Op-F Op Region) → Each RegionSame x.regions → OpSame (roll-Op x)
  op-same x each vs us =
      let values = subst (Each Same) (values-made x) vs in
      let uses = subst (Each Same) (uses-made x) us in
      renamed-made σ x
      ∙ ap (λ (ws : List ValueNo). roll-Op (record x { operands = ws; results = renamed_values σ x.results; regions = map (renamed_region σ) x.regions }))
      (values-same x.operands (each-front Same x.operands (joined (map uses_inside x.regions)) uses))
      ∙ ap (λ (ws : List ValueNo). roll-Op (record x { operands = renamed_values τ x.operands; results = ws; regions = map (renamed_region σ) x.regions }))
      (values-same x.results (each-front Same x.results (joined (map values_inside x.regions)) values))
      ∙ ap (λ (rs : List Region). roll-Op (made τ x rs))
      (all-same values_inside uses_inside (renamed_region σ) (renamed_region τ) x.regions each
      (each-back Same x.results (joined (map values_inside x.regions)) values) (each-back Same x.operands (joined (map uses_inside x.regions)) uses))
      ∙ sym (renamed-made τ x)

  region-same : (x : Region-F Op Region) → Each OpSame x.ops → RegionSame (roll-Region x)
  region-same x each vs us =
      let values = subst (Each Same) (values-held x) vs in
      let uses = subst (Each Same) (uses-held x) us in
      renamed-held σ x
      ∙ ap (λ (ps : List (ValueNo × Ty)). roll-Region (record x { params = ps; ops = map (renamed_op σ) x.ops }))
      (params-same x.params (each-front Same (names_of x.params) (joined (map values_in x.ops)) values))
      ∙ ap (λ (os : List Op). roll-Region (held τ x os))
      (all-same values_in uses_in (renamed_op σ) (renamed_op τ) x.ops each (each-back Same (names_of x.params) (joined (map values_in x.ops)) values) uses)
      ∙ sym (renamed-held τ x)

  pub func-same : (f : Func) → Each Same (values_of f) → Each Same (uses_of f) → renamed_func σ f ≡ renamed_func τ f
  func-same f vs us =
      ap (λ (ps : List (ValueNo × Ty)). let g : Func = record f { params = ps; body = renamed_region σ f.body } in g)
      (params-same f.params (each-front Same (names_of f.params) (values_inside f.body) vs))
      ∙ ap (λ (body : Region). let g : Func = record f { params = renamed_params τ f.params; body = body } in g)
      (tree OpSame RegionSame op-same region-same f.body (each-back Same (names_of f.params) (values_inside f.body) vs) us)
