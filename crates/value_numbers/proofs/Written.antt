-- Operations and regions whose parts are written one after another.
use Rattle.std.proofs.Common.{◌≡◌, ℕ, List, [], ◌∷◌, map, refl, sym, ap, ◌∙◌}
use Rattle.lists.specs.Refill.{refilled}
use Rattle.ir_forms.specs.declared.ops.Op.{Op, Op-F, out-Op, roll-Op, out-roll-Op}
use Rattle.ir_forms.specs.declared.ops.Op.TheFolds.{fold_out-Op, fold_out-Region}
use Rattle.ir_forms.specs.declared.ops.Region.{Region, Region-F, out-Region, roll-Region, out-roll-Region}
use Rattle.ir_forms.specs.declared.ops.ValueNo.{ValueNo}
use Rattle.ir_forms.specs.declared.types.Ty.{Ty}
use Rattle.source_meaning.specs.Renaming.{renamed_values, renamed_params, renamed_ops, op_renamed, region_renamed, renamed_op, renamed_region}

refilled-map : {A : Type 0} (f : A → A) (xs : List A) → refilled xs (map f xs) ≡ map f xs
refilled-map f [] = refl
refilled-map {A} f (x ∷ xs) = ap (λ (ys : List A). f x ∷ ys) (refilled-map f xs)

-- what is written over these is each of them changed
mapped : {A : Type 0} (f : A → A) (xs ys new : List A) → new ≡ map f ys → ys ≡ xs → refilled xs new ≡ map f xs
mapped {A} f xs ys new is same = ap (refilled xs) (is ∙ ap (map f) same) ∙ refilled-map f xs

module _ (σ : ℕ → ℕ) where
  op-out : (op : Op) → renamed_op σ op ≡ roll-Op (record (out-Op op) { operands = renamed_values σ (out-Op op).operands; results = renamed_values σ (out-Op op).results; regions = map (renamed_region σ) (out-Op op).regions })
  unfolding renamed_op renamed_region
  op-out op = fold_out-Op Op Region (op_renamed σ) (region_renamed σ) op

  region-out : (r : Region) → renamed_region σ r ≡ roll-Region (record (out-Region r) { params = renamed_params σ (out-Region r).params; ops = renamed_ops σ (out-Region r).ops })
  unfolding renamed_op renamed_region
  region-out r = fold_out-Region Op Region (op_renamed σ) (region_renamed σ) r

  -- ---- a region: its parameters, then its operations

  abbrev with_params : Region-F Op Region → List (ValueNo × Ty) → Region-F Op Region
  with_params x ps = record x { params = refilled x.params ps }

  abbrev with_ops : Region-F Op Region → List Op → Region-F Op Region
  with_ops x os = record x { ops = refilled x.ops os }

  pub region-written : (r : Region) (ps ps' : List (ValueNo × Ty)) (os os' : List Op) →
      ps' ≡ renamed_params σ ps → ps ≡ (out-Region r).params →
      os' ≡ renamed_ops σ os → os ≡ (out-Region (roll-Region (with_params (out-Region r) ps'))).ops →
      roll-Region (with_ops (out-Region (roll-Region (with_params (out-Region r) ps'))) os') ≡ renamed_region σ r
  region-written r ps ps' os os' params params-are ops ops-are =
      let x : Region-F Op Region = out-Region r in
      let one : out-Region (roll-Region (with_params x ps')) ≡ with_params x ps' = out-roll-Region (with_params x ps') in
      ap (λ (z : Region-F Op Region). roll-Region (with_ops z os')) one
      ∙ ap (λ (qs : List (ValueNo × Ty)). roll-Region (with_ops (record x { params = qs }) os')) (mapped (λ (p : ValueNo × Ty). (record { 0 = σ p.0.0 }, p.1)) x.params ps ps' params params-are)
      ∙ ap (λ (qs : List Op). roll-Region (record x { params = renamed_params σ x.params; ops = qs }))
      (mapped (renamed_op σ) x.ops os os' ops (ops-are ∙ ap (λ (z : Region-F Op Region). z.ops) one))
      ∙ sym (region-out r)

  -- ---- an operation: its operands, its results, and its regions

  abbrev with_operands : Op-F Op Region → List ValueNo → Op-F Op Region
  with_operands x vs = record x { operands = refilled x.operands vs }

  abbrev with_results : Op-F Op Region → List ValueNo → Op-F Op Region
  with_results x vs = record x { results = refilled x.results vs }

  abbrev with_regions : Op-F Op Region → List Region → Op-F Op Region
  with_regions x rs = record x { regions = refilled x.regions rs }

  pub op-written : (op : Op) (ws ws' bs bs' : List ValueNo) (rs rs' : List Region) →
      ws' ≡ renamed_values σ ws → ws ≡ (out-Op op).operands →
      bs' ≡ renamed_values σ bs → bs ≡ (out-Op (roll-Op (with_operands (out-Op op) ws'))).results →
      rs' ≡ map (renamed_region σ) rs → rs ≡ (out-Op (roll-Op (with_results (out-Op (roll-Op (with_operands (out-Op op) ws'))) bs'))).regions →
      roll-Op (with_regions (out-Op (roll-Op (with_results (out-Op (roll-Op (with_operands (out-Op op) ws'))) bs'))) rs') ≡ renamed_op σ op
  op-written op ws ws' bs bs' rs rs' operands operands-are results results-are regions regions-are =
      let x : Op-F Op Region = out-Op op in
      let one : out-Op (roll-Op (with_operands x ws')) ≡ with_operands x ws' = out-roll-Op (with_operands x ws') in
      let two : out-Op (roll-Op (with_results (out-Op (roll-Op (with_operands x ws'))) bs')) ≡ with_results (with_operands x ws') bs' =
      out-roll-Op (with_results (out-Op (roll-Op (with_operands x ws'))) bs') ∙ ap (λ (z : Op-F Op Region). with_results z bs') one in
      ap (λ (z : Op-F Op Region). roll-Op (with_regions z rs')) two
      ∙ ap (λ (vs : List ValueNo). roll-Op (record x { operands = vs; results = refilled x.results bs'; regions = refilled x.regions rs' }))
      (mapped (λ (v : ValueNo). record { 0 = σ v.0 }) x.operands ws ws' operands operands-are)
      ∙ ap (λ (vs : List ValueNo). roll-Op (record x { operands = renamed_values σ x.operands; results = vs; regions = refilled x.regions rs' }))
      (mapped (λ (v : ValueNo). record { 0 = σ v.0 }) x.results bs bs' results (results-are ∙ ap (λ (z : Op-F Op Region). z.results) one))
      ∙ ap (λ (qs : List Region). roll-Op (record x { operands = renamed_values σ x.operands; results = renamed_values σ x.results; regions = qs }))
      (mapped (renamed_region σ) x.regions rs rs' regions (regions-are ∙ ap (λ (z : Op-F Op Region). z.regions) two))
      ∙ sym (op-out op)
