-- Values under other names leave the forms.
use Rattle.std.proofs.Common.{◌≡◌, ◌<◌, ℕ, zero, suc, ◌+◌, ◌^◌, IsTrue, List, [], ◌∷◌, ◌++◌, map, length, refl, sym, ap, ◌∙◌, subst, arith}
use Rattle.op_table.specs.declared.kind.OpKind.{OpKind}
use Rattle.op_table.specs.declared.rows.Level.TheVariants.{Checked}
use Rattle.op_table.specs.Rows.{stands_at}
use Rattle.ir_forms.specs.declared.ops.Op.{Op, out-Op, roll-Op, out-roll-Op}
use Rattle.ir_forms.specs.declared.ops.Op.TheFolds.{ind-Region}
use Rattle.ir_forms.specs.declared.ops.Region.{Region, Region-F, out-Region, roll-Region, out-roll-Region}
use Rattle.ir_forms.specs.declared.ops.ValueNo.{ValueNo}
use Rattle.ir_forms.specs.declared.types.Ty.{Ty}
use Rattle.ir_forms.specs.Ops.{kind_of, operands_of, regions_of, ops_of}
use Rattle.source_meaning.specs.Parts.{Node}
use Rattle.source_meaning.specs.Renaming.{renamed_op, renamed_ops, renamed_params, renamed_region, renamed_values, renamed_node}
use Rattle.checked_texts.proofs.Outs.{parts, region_parts}
use Rattle.mlir_print.specs.Printable.{HasForm, IsEnded, Ops, Part, Regions, ends_with, param_types, params_of, types_of}
use Rattle.checked_texts.proofs.Formed.{Formed, LikeText, form_like, formed, formed_both, formed_no_regions, formed_none, formed_region}
use Rattle.checked_texts.proofs.WalkForms.{RegionForm, OpParts, op_parts, RegionParts, parts_of_region, ended_like, ends_more}

pub renamed_types : (σ : ℕ → ℕ) (ps : List (ValueNo × Ty)) → map (λ p. p.1) (renamed_params σ ps) ≡ map (λ p. p.1) ps
renamed_types σ [] = refl
renamed_types σ (p ∷ ps) = ap (λ ts. p.1 ∷ ts) (renamed_types σ ps)

renamed_count : (σ : ℕ → ℕ) (vs : List ValueNo) → length (renamed_values σ vs) ≡ length vs
renamed_count σ [] = refl
renamed_count σ (v ∷ vs) = ap suc (renamed_count σ vs)

module _ (σ : ℕ → ℕ) where
  kind_renamed : (o : Op) → kind_of (renamed_op σ o) ≡ kind_of o
  kind_renamed o = ap (λ (n : Node). n.kind) (parts σ o)

  ends_renamed : (k : OpKind) (os : List Op) → ends_with k os → ends_with k (renamed_ops σ os)
  ends_renamed k [] h = h
  ends_renamed k (o ∷ []) h = kind_renamed o ∙ h
  ends_renamed k (o ∷ p ∷ os) h = ends_renamed k (p ∷ os) h

  types_renamed : (r : Region) → param_types (renamed_region σ r) ≡ param_types r
  types_renamed r = ap (λ l. map (λ p. p.1) l.params) (region_parts σ r) ∙ renamed_types σ (params_of r)

  pub ops_renamed : (r : Region) → ops_of (renamed_region σ r) ≡ renamed_ops σ (ops_of r)
  ops_renamed r = ap (λ l. l.ops) (region_parts σ r)

  abbrev OfOp : Op → Type 0
  OfOp o = Formed Checked (Ops (o ∷ [])) → Formed Checked (Ops (renamed_op σ o ∷ []))

  abbrev OfRegion : Region → Type 0
  OfRegion r = Formed Checked (Ops (ops_of r)) → Formed Checked (Ops (renamed_ops σ (ops_of r)))

  held : (regions : List ((r : Region) × OfRegion r)) (o p : Op) (i : ℕ) → kind_of p ≡ kind_of o → types_of p ≡ types_of o → Formed Checked (Regions o i (map (λ e. e.0) regions)) → Formed Checked (Regions p i (map (renamed_region σ) (map (λ e. e.0) regions)))
  held [] o p i kind types h = formed_no_regions p i
  held (e ∷ regions) o p i kind types h =
      let rs : List Region = map (λ e. e.0) regions in
      let h2 : RegionParts o i e.0 rs = parts_of_region o i e.0 rs h in
      let os : List Op = ops_of (renamed_region σ e.0) in
      let same : os ≡ renamed_ops σ (ops_of e.0) = ops_renamed e.0 in
      let ended : IsEnded (kind_of p) i (types_of p) os =
      subst (λ k. IsEnded k i (types_of p) os) (sym kind)
      (subst (λ (ts : List Ty). IsEnded (kind_of o) i ts os) (sym types)
      (ended_like (kind_of o) i (types_of o) (ops_of e.0) os (λ k end. subst (ends_with k) (sym same) (ends_renamed k (ops_of e.0) end)) (λ empty. same ∙ ap (renamed_ops σ) empty) h2.ended)) in
      formed_region p i (renamed_region σ e.0) (map (renamed_region σ) rs) ended (subst (λ (xs : List Op). Formed Checked (Ops xs)) (sym same) (e.1 h2.ops)) (held regions o p (i + 1) kind types h2.rest)

  along : (ops : List ((o : Op) × OfOp o)) → Formed Checked (Ops (map (λ e. e.0) ops)) → Formed Checked (Ops (renamed_ops σ (map (λ e. e.0) ops)))
  along [] h = formed_none
  along (e ∷ ops) h =
      let os : List Op = map (λ e. e.0) ops in
      let h2 : OpParts e.0 os = op_parts e.0 os h in
      formed_both Checked (renamed_op σ e.0 ∷ []) (renamed_ops σ os) (e.1 (formed e.0 [] h2.stands h2.form h2.at h2.regions formed_none)) (along ops h2.rest)

  map_types : (rs : List Region) → map param_types (map (renamed_region σ) rs) ≡ map param_types rs
  map_types [] = refl
  map_types (r ∷ rs) = ap (λ (ts : List Ty). ts ∷ map param_types (map (renamed_region σ) rs)) (types_renamed r) ∙ ap (λ (tss : List (List Ty)). param_types r ∷ tss) (map_types rs)

  of_op : (o : Op) (regions : List ((r : Region) × OfRegion r)) → regions_of o ≡ map (λ e. e.0) regions → OfOp o
  of_op o regions are = λ h.
      let h2 : OpParts o [] = op_parts o [] h in
      let p : Op = renamed_op σ o in
      let e : out-Op p ≡ renamed_node σ (out-Op o) = parts σ o in
      let like : LikeText o p = record {
        kind = ap (λ (n : Node). n.kind) e;
        count = ap (λ (n : Node). length n.operands) e ∙ renamed_count σ (operands_of o);
        attr = ap (λ (n : Node). n.attr) e;
        groups = ap (λ (n : Node). n.groups) e;
        written = ap (λ (n : Node). n.written) e;
        types = ap (λ (n : Node). n.types) e;
        params = ap (λ (n : Node). map param_types n.regions) e ∙ map_types (regions_of o);
      } in
      let inner : Formed Checked (Regions p 0 (map (renamed_region σ) (regions_of o))) =
      subst (λ (rs : List Region). Formed Checked (Regions p 0 (map (renamed_region σ) rs))) (sym are) (held regions o p 0 like.kind like.types (subst (λ (rs : List Region). Formed Checked (Regions o 0 rs)) are h2.regions)) in
      formed p [] (subst (λ k. IsTrue (stands_at k Checked)) (sym like.kind) h2.stands) (form_like o p like h2.form) (subst (λ n. n < 2 ^ 32) (sym (ap (λ (n : Node). n.at) e)) h2.at)
      (subst (λ (rs : List Region). Formed Checked (Regions p 0 rs)) (sym (ap (λ (n : Node). n.regions) e)) inner) formed_none

  of_region : (r : Region) (ops : List ((o : Op) × OfOp o)) → ops_of r ≡ map (λ e. e.0) ops → OfRegion r
  of_region r ops are = λ h. subst (λ (os : List Op). Formed Checked (Ops (renamed_ops σ os))) (sym are) (along ops (subst (λ (os : List Op). Formed Checked (Ops os)) are h))

  pub renamed_formed : (r : Region) → OfRegion r
  renamed_formed = ind-Region OfOp OfRegion
      (λ x y is. of_op (roll-Op x) y.regions (ap (λ layer. layer.regions) (out-roll-Op x) ∙ sym (ap (λ layer. layer.regions) is)))
      (λ x y is. of_region (roll-Region x) y.ops (ap (λ layer. layer.ops) (out-roll-Region x) ∙ sym (ap (λ layer. layer.ops) is)))
