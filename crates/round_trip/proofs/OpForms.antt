-- What each operation's form and regions are read as.
use Rattle.std.proofs.Common.{◌≡◌, ℕ, ◌+◌, Bool, true, false, ◌⊎◌, List, [], ◌∷◌, ◌++◌, map, refl, sym, ap, subst, ◌∙◌, codes}
use Rattle.op_table.specs.declared.kind.OpKind.{OpKind}
use Rattle.op_table.specs.declared.kind.OpKind.TheVariants as op
use Rattle.op_table.specs.declared.rows.Level.{Level}
use Rattle.ir_forms.specs.declared.types.Ty.{Ty}
use Rattle.ir_forms.specs.declared.ops.Module.{Module}
use Rattle.ir_forms.specs.declared.ops.Op.{Op}
use Rattle.ir_forms.specs.declared.ops.Region.{Region}
use Rattle.ir_forms.specs.Ops.{kind_of, operands_of, regions_of, ops_of}
use Rattle.module_grammar.specs.declared.state.Name.{Name}
use Rattle.module_grammar.specs.declared.state.OpenOp.{OpenOp}
use Rattle.module_grammar.specs.declared.symbols.Symbol.{Symbol}
use Rattle.mlir_print.specs.Printed.{printed_lines}
use mathlib.Core.Logic.{⊎_elim}
use Rattle.round_trip.proofs.Core.{Word}
use Rattle.module_grammar.specs.State.{as_number, values_of, with_else}
use Rattle.module_grammar.specs.Rules.{form, ends}
use Rattle.ir_forms.specs.Ops.{results_of}
use Rattle.mlir_print.specs.Docs.{Doc, Empty, Blank, Line, ◌<>◌, deeper, mark as mark_doc, keyword}
use Rattle.mlir_print.specs.Forms.{form as form_doc}
use Rattle.mlir_print.specs.Printed.{Printed, printed_regions, printed_lines, block_line, is_left_out}
use Rattle.mlir_print.specs.Printable.{Scope, HasForm, types_of, params_of, param_types, ends_with, defining, IsEnded}
use Rattle.round_trip.proofs.Machine.{Any}
use Rattle.round_trip.proofs.Docs.{onto}
use Rattle.round_trip.proofs.Values.{shown as shown_name, Finds}
use Rattle.round_trip.proofs.Shapes.{blank, whole, After, Serves, serves-whole}
use Rattle.round_trip.proofs.Scopes.{IsGood}
use Rattle.round_trip.proofs.Regions.{Around, during, value_params}
use Rattle.round_trip.proofs.RegionForms.{RegionGoes, Keeps, keeps-second, keeps-typed}
use Rattle.mlir_print.proofs.Foldings.{printed_region-out}
use Rattle.round_trip.proofs.FormsRead.{formed, has_regions}
use Rattle.round_trip.proofs.ForForm.{for-read}
use Rattle.round_trip.proofs.ParallelForm.{parallel-read}
use Rattle.round_trip.proofs.ExecuteForm.{execute-read}
use Rattle.round_trip.proofs.IfForm.{behind, if-left, if-both, none2, nothing-more}
use Rattle.round_trip.proofs.WhileForm.{while-read}

-- the regions of an operation, which number from i on, are read from one scope to the other
abbrev pub RegionsGo : Level → Module → Op → ℕ → List Region → Scope → Scope → Type 0
RegionsGo level m o i [] s e = s ≡ e
RegionsGo level m o i (r ∷ rs) s e = (inner : Scope) × RegionGoes level m (kind_of o) i (types_of o) r s inner × RegionsGo level m o (i + 1) rs (behind s inner) e

-- ---- what regions print as

abbrev braces : Bool → Region → List ℕ → ℕ → Doc
braces shows r indent last =
    mark_doc 123 <> block_line shows (deeper indent) (params_of r) <> (printed_lines (ops_of r) (deeper indent) last).doc <> Line indent <> mark_doc 125

abbrev last_in : Region → List ℕ → ℕ → ℕ
last_in r indent last = (printed_lines (ops_of r) (deeper indent) last).last

module _ (o : Op) (indent : List ℕ) (last : ℕ) where
  printed-for : (r : Region) → kind_of o ≡ op.ScfFor
      → printed_regions (r ∷ []) o 0 indent last ≡ record { doc = Blank <> braces false r indent last <> Empty; last = last_in r indent last }
  printed-for r e = rw e (rw printed_region-out refl)

  printed-parallel : (r : Region) → kind_of o ≡ op.ScfParallel
      → printed_regions (r ∷ []) o 0 indent last ≡ record { doc = Blank <> braces false r indent last <> Empty; last = last_in r indent last }
  printed-parallel r e = rw e (rw printed_region-out refl)

  printed-execute : (r : Region) → kind_of o ≡ op.AsyncExecute
      → printed_regions (r ∷ []) o 0 indent last ≡ record { doc = Blank <> braces false r indent last <> Empty; last = last_in r indent last }
  printed-execute r e = rw e (rw printed_region-out refl)

  printed-while : (r1 r2 : Region) → kind_of o ≡ op.ScfWhile
      → printed_regions (r1 ∷ r2 ∷ []) o 0 indent last
      ≡ record { doc = Blank <> braces false r1 indent last <> (keyword (codes "do") <> braces true r2 indent (last_in r1 indent last) <> Empty); last = last_in r2 indent (last_in r1 indent last) }
  printed-while r1 r2 e = rw e (rw (printed_region-out r1, printed_region-out r2) refl)

  printed-left : (r1 r2 : Region) → kind_of o ≡ op.ScfIf → types_of o ≡ [] → ops_of r2 ≡ []
      → printed_regions (r1 ∷ r2 ∷ []) o 0 indent last ≡ record { doc = Blank <> braces false r1 indent last <> Empty; last = last_in r1 indent last }
  printed-left r1 r2 e f g = rw (e, f, g) (rw (printed_region-out r1) refl)

  -- a conditional with both regions
  abbrev both_regions : Region → Region → Printed
  both_regions r1 r2 = record {
    doc = Blank <> braces false r1 indent last <> (keyword (codes "else") <> braces false r2 indent (last_in r1 indent last) <> Empty);
    last = last_in r2 indent (last_in r1 indent last);
  }

  printed-typed : (r1 r2 : Region) (t : Ty) (ts : List Ty) → kind_of o ≡ op.ScfIf → types_of o ≡ t ∷ ts
      → printed_regions (r1 ∷ r2 ∷ []) o 0 indent last ≡ both_regions r1 r2
  printed-typed r1 r2 t ts e f = rw (e, f) (rw (printed_region-out r1, printed_region-out r2) refl)

  printed-full : (r1 r2 : Region) (x : Op) (xs : List Op) → kind_of o ≡ op.ScfIf → types_of o ≡ [] → ops_of r2 ≡ x ∷ xs
      → printed_regions (r1 ∷ r2 ∷ []) o 0 indent last ≡ both_regions r1 r2
  printed-full r1 r2 x xs e f g =
      let written : is_left_out (kind_of o) 1 (types_of o) (ops_of r2) ≡ false = rw (e, f, g) refl in
      rw (written, e) (rw (printed_region-out r1, printed_region-out r2) refl)

-- ---- an operation's form and its regions

pub one-region : (rs : List Region) (x : List Ty) → map param_types rs ≡ x ∷ [] → (r : Region) × (rs ≡ r ∷ [])
one-region [] x e = absurd cc
one-region (r ∷ []) x e = (r, refl)
one-region (r ∷ q ∷ rs) x e = absurd cc

pub two-regions : (rs : List Region) (x y : List Ty) → map param_types rs ≡ x ∷ y ∷ [] → (r : Region) × (q : Region) × (rs ≡ r ∷ q ∷ [])
two-regions [] x y e = absurd cc
two-regions (r ∷ []) x y e = absurd cc
two-regions (r ∷ q ∷ []) x y e = (r, q, refl)
two-regions (r ∷ q ∷ p ∷ rs) x y e = absurd cc

-- What is printed of an operation's regions is read behind its form, where what comes then follows the whole operation.
abbrev pub FormGoes : Level → Module → List Symbol → Around → Scope → Scope → ℕ → ℕ → List Name → List Word → Op → OpKind → Printed → Type 0
FormGoes level m k a s e begun at rs ws o kd pr =
    ((after : ℕ) → pr.last ≡ as_number after → (x : OpenOp) → Serves o at rs x → After level m k (during a (behind s e) after x) ws)
    → Any level m (form kd ++ (ends ++ k)) (during a s begun (blank kd at rs)) (onto (form_doc kd o) (onto pr.doc ws))

else-none : (kd : OpKind) → with_else kd [] ≡ []
else-none op.ScfIf = refl
else-none _ = refl

module _ (level : Level) (m : Module) (k : List Symbol) (a : Around) (s e : Scope) (begun last : ℕ) (indent : List ℕ) (at : ℕ) (rs : List Name) (ws : List Word)
    (o : Op) (good : IsGood s) (counted : last ≡ as_number begun) (f : Finds (map shown_name s.seen) (operands_of o)) (results_are : values_of rs ≡ results_of o) where
  pub goes-flat : (kd : OpKind) → has_regions kd ≡ false → kind_of o ≡ kd → HasForm kd o → regions_of o ≡ [] → RegionsGo level m o 0 [] s e
      → FormGoes level m k a s e begun at rs ws o kd (printed_regions [] o 0 indent last)
  goes-flat kd flat is h none same runs p =
      let next : After level m k (during a s begun (whole o at rs)) ws =
      subst (λ (x : Scope). After level m k (during a (behind s x) begun (whole o at rs)) ws) (sym same)
      (runs begun counted (whole o at rs) (serves-whole o at rs results_are (rw none (else-none (kind_of o))))) in
      formed ws (record (during a s begun (blank kd at rs)) { passing = p }) kd at rs o flat is h f
      (record { ended = next.ended; held = next.held; stops = next.stops; no_else = next.no_else })

  -- what follows, for the operation as a whole
  then-whole : (inner : Scope) (n : ℕ) → with_else (kind_of o) (regions_of o) ≡ regions_of o
      → ((after : ℕ) → n ≡ as_number after → (x : OpenOp) → Serves o at rs x → After level m k (during a (behind s inner) after x) ws)
      → (after : ℕ) → n ≡ as_number after → After level m k (during a (behind s inner) after (whole o at rs)) ws
  then-whole inner n same runs after is_last = runs after is_last (whole o at rs) (serves-whole o at rs results_are same)

  of-kind : {i : ℕ} {r : Region} {inner t : Scope} (kd : OpKind) → kind_of o ≡ kd → RegionGoes level m (kind_of o) i (types_of o) r t inner → RegionGoes level m kd i (types_of o) r t inner
  of-kind {i} {r} {inner} {t} kd is g = subst (λ (x : OpKind). RegionGoes level m x i (types_of o) r t inner) is g

  pub goes-for : (r : Region) (inner : Scope) → kind_of o ≡ op.ScfFor → regions_of o ≡ r ∷ [] → HasForm op.ScfFor o → RegionGoes level m (kind_of o) 0 (types_of o) r s inner
      → FormGoes level m k a s (behind s inner) begun at rs ws o op.ScfFor (printed_regions (r ∷ []) o 0 indent last)
  goes-for r inner is one h g =
      subst (λ (pr : Printed). FormGoes level m k a s (behind s inner) begun at rs ws o op.ScfFor pr) (sym (printed-for o indent last r is))
      (λ runs. for-read a s inner begun last (deeper indent) at rs ws o r is one good counted (of-kind op.ScfFor is g) f (then-whole inner _ (rw is refl) runs) h)

  pub goes-parallel : (r : Region) (inner : Scope) → kind_of o ≡ op.ScfParallel → regions_of o ≡ r ∷ [] → HasForm op.ScfParallel o → RegionGoes level m (kind_of o) 0 (types_of o) r s inner
      → FormGoes level m k a s (behind s inner) begun at rs ws o op.ScfParallel (printed_regions (r ∷ []) o 0 indent last)
  goes-parallel r inner is one h g =
      subst (λ (pr : Printed). FormGoes level m k a s (behind s inner) begun at rs ws o op.ScfParallel pr) (sym (printed-parallel o indent last r is))
      (λ runs. parallel-read a s inner begun last (deeper indent) at rs ws o r is one good counted (of-kind op.ScfParallel is g) f (then-whole inner _ (rw is refl) runs) h)

  pub goes-execute : (r : Region) (inner : Scope) → kind_of o ≡ op.AsyncExecute → regions_of o ≡ r ∷ [] → HasForm op.AsyncExecute o → RegionGoes level m (kind_of o) 0 (types_of o) r s inner
      → FormGoes level m k a s (behind s inner) begun at rs ws o op.AsyncExecute (printed_regions (r ∷ []) o 0 indent last)
  goes-execute r inner is one h g =
      subst (λ (pr : Printed). FormGoes level m k a s (behind s inner) begun at rs ws o op.AsyncExecute pr) (sym (printed-execute o indent last r is))
      (λ runs. execute-read a s inner begun last (deeper indent) at rs ws o r is one good counted (of-kind op.AsyncExecute is g) f (then-whole inner _ (rw is refl) runs) h)

  pub goes-while : (r1 r2 : Region) (inner1 inner2 : Scope) → kind_of o ≡ op.ScfWhile → regions_of o ≡ r1 ∷ r2 ∷ [] → HasForm op.ScfWhile o
      → RegionGoes level m (kind_of o) 0 (types_of o) r1 s inner1 → RegionGoes level m (kind_of o) 1 (types_of o) r2 (behind s inner1) inner2
      → FormGoes level m k a s (behind s inner2) begun at rs ws o op.ScfWhile (printed_regions (r1 ∷ r2 ∷ []) o 0 indent last)
  goes-while r1 r2 inner1 inner2 is two h g1 g2 =
      subst (λ (pr : Printed). FormGoes level m k a s (behind s inner2) begun at rs ws o op.ScfWhile pr) (sym (printed-while o indent last r1 r2 is))
      (λ runs. while-read a s inner1 inner2 begun last (deeper indent) (deeper indent) at rs ws o r1 r2 is two good counted (of-kind op.ScfWhile is g1) (of-kind op.ScfWhile is g2) f
      (then-whole inner2 _ (rw is refl) runs) h)

  -- a conditional whose second region isn't written
  goes-left : (r1 r2 : Region) (inner1 inner2 : Scope) → kind_of o ≡ op.ScfIf → regions_of o ≡ r1 ∷ r2 ∷ [] → (h : HasForm op.ScfIf o)
      → RegionGoes level m (kind_of o) 0 (types_of o) r1 s inner1 → RegionGoes level m (kind_of o) 1 (types_of o) r2 (behind s inner1) inner2
      → h.0 ≡ [] → ops_of r2 ≡ []
      → FormGoes level m k a s (behind s inner2) begun at rs ws o op.ScfIf (printed_regions (r1 ∷ r2 ∷ []) o 0 indent last)
  goes-left r1 r2 inner1 inner2 is two h g1 g2 untyped empty =
      let idle : inner2 ≡ defining (behind s inner1) (value_params (params_of r2)) = g2.idle empty in
      let none : params_of r2 ≡ [] = none2 o r1 r2 two h in
      let same : behind s inner2 ≡ behind s inner1 = ap (λ (x : Scope). behind s x) idle ∙ ap (λ (i : ℕ). record { next = i; seen = s.seen }) (sym (nothing-more inner1.next _ (ap value_params none))) in
      subst (λ (pr : Printed). FormGoes level m k a s (behind s inner2) begun at rs ws o op.ScfIf pr) (sym (printed-left o indent last r1 r2 is (h.2.types_are ∙ untyped) empty))
      (λ runs. if-left a s inner1 begun last (deeper indent) at rs ws o r1 r2 is two results_are good counted (of-kind op.ScfIf is g1) f h empty untyped
      (λ after is_last x serve. subst (λ (y : Scope). After level m k (during a y after x) ws) same (runs after is_last x serve)))

  -- a conditional with both regions
  goes-both : (r1 r2 : Region) (inner1 inner2 : Scope) → kind_of o ≡ op.ScfIf → regions_of o ≡ r1 ∷ r2 ∷ [] → (h : HasForm op.ScfIf o)
      → RegionGoes level m (kind_of o) 0 (types_of o) r1 s inner1 → RegionGoes level m (kind_of o) 1 (types_of o) r2 (behind s inner1) inner2
      → Keeps op.ScfIf h.0 (ops_of r2) → printed_regions (r1 ∷ r2 ∷ []) o 0 indent last ≡ both_regions o indent last r1 r2
      → FormGoes level m k a s (behind s inner2) begun at rs ws o op.ScfIf (printed_regions (r1 ∷ r2 ∷ []) o 0 indent last)
  goes-both r1 r2 inner1 inner2 is two h g1 g2 keeps printed =
      subst (λ (pr : Printed). FormGoes level m k a s (behind s inner2) begun at rs ws o op.ScfIf pr) (sym printed)
      (λ runs. if-both a s inner1 inner2 begun last (deeper indent) at rs ws o r1 r2 is two results_are good counted (of-kind op.ScfIf is g1) (of-kind op.ScfIf is g2) f h runs keeps)

  pub goes-if : (r1 r2 : Region) (inner1 inner2 : Scope) → kind_of o ≡ op.ScfIf → regions_of o ≡ r1 ∷ r2 ∷ [] → (h : HasForm op.ScfIf o)
      → RegionGoes level m (kind_of o) 0 (types_of o) r1 s inner1 → RegionGoes level m (kind_of o) 1 (types_of o) r2 (behind s inner1) inner2
      → FormGoes level m k a s (behind s inner2) begun at rs ws o op.ScfIf (printed_regions (r1 ∷ r2 ∷ []) o 0 indent last)
  goes-if r1 r2 inner1 inner2 is two h g1 g2 = by_types h.0 refl
    where
      by_ops : (ops : List Op) → ops_of r2 ≡ ops → h.0 ≡ [] → FormGoes level m k a s (behind s inner2) begun at rs ws o op.ScfIf (printed_regions (r1 ∷ r2 ∷ []) o 0 indent last)
      by_ops [] e untyped = goes-left r1 r2 inner1 inner2 is two h g1 g2 untyped e
      by_ops (x ∷ xs) e untyped =
          let types : types_of o ≡ [] = h.2.types_are ∙ untyped in
          let ended : (ops_of r2 ≡ []) ⊎ ends_with op.ScfYield (ops_of r2) =
          subst (λ (l : List Ty). IsEnded op.ScfIf 1 l (ops_of r2)) types (of-kind op.ScfIf is g2).ended in
          let last_is : ends_with op.ScfYield (ops_of r2) = ⊎_elim (λ y. absurd (let z : [] ≡ x ∷ xs = sym y ∙ e in cc)) (λ y. y) ended in
          let keeps : Keeps op.ScfIf h.0 (ops_of r2) = subst (λ (l : List Ty). Keeps op.ScfIf l (ops_of r2)) (sym untyped) (keeps-second (ops_of r2) last_is) in
          goes-both r1 r2 inner1 inner2 is two h g1 g2 keeps (printed-full o indent last r1 r2 x xs is types e)

      by_types : (ts : List Ty) → h.0 ≡ ts → FormGoes level m k a s (behind s inner2) begun at rs ws o op.ScfIf (printed_regions (r1 ∷ r2 ∷ []) o 0 indent last)
      by_types [] e = by_ops (ops_of r2) refl e
      by_types (t ∷ ts) e =
          goes-both r1 r2 inner1 inner2 is two h g1 g2 (subst (λ (l : List Ty). Keeps op.ScfIf l (ops_of r2)) (sym e) (keeps-typed t ts (ops_of r2)))
          (printed-typed o indent last r1 r2 t ts is (h.2.types_are ∙ e))

  pub one-goes : (kd : OpKind) (r : Region) → ((inner : Scope) → RegionGoes level m (kind_of o) 0 (types_of o) r s inner
      → FormGoes level m k a s (behind s inner) begun at rs ws o kd (printed_regions (r ∷ []) o 0 indent last))
      → RegionsGo level m o 0 (r ∷ []) s e → FormGoes level m k a s e begun at rs ws o kd (printed_regions (r ∷ []) o 0 indent last)
  one-goes kd r goes g = subst (λ (x : Scope). FormGoes level m k a s x begun at rs ws o kd (printed_regions (r ∷ []) o 0 indent last)) g.2 (goes g.0 g.1)

  pub two-go : (kd : OpKind) (r1 r2 : Region) → ((inner1 inner2 : Scope) → RegionGoes level m (kind_of o) 0 (types_of o) r1 s inner1
      → RegionGoes level m (kind_of o) 1 (types_of o) r2 (behind s inner1) inner2
      → FormGoes level m k a s (behind s inner2) begun at rs ws o kd (printed_regions (r1 ∷ r2 ∷ []) o 0 indent last))
      → RegionsGo level m o 0 (r1 ∷ r2 ∷ []) s e → FormGoes level m k a s e begun at rs ws o kd (printed_regions (r1 ∷ r2 ∷ []) o 0 indent last)
  two-go kd r1 r2 goes g =
      subst (λ (x : Scope). FormGoes level m k a s x begun at rs ws o kd (printed_regions (r1 ∷ r2 ∷ []) o 0 indent last)) g.2.2 (goes g.0 g.2.0 g.1 g.2.1)
