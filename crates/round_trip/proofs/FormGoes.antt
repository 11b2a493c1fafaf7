-- The form of each operation is read with the regions that it has.
use Rattle.std.proofs.Common.{◌≡◌, ℕ, false, inl, inr, List, [], ◌∷◌, map, refl, sym, subst}
use Rattle.op_table.specs.declared.kind.OpKind.{OpKind}
use Rattle.op_table.specs.declared.kind.OpKind.TheVariants as op
use Rattle.op_table.specs.declared.form.Form.{Form}
use Rattle.op_table.specs.declared.form.Form.TheVariants as shape
use Rattle.op_table.specs.Rows.{row_of}
use Rattle.op_table.specs.declared.rows.Level.{Level}
use Rattle.ir_forms.specs.declared.ops.Module.{Module}
use Rattle.ir_forms.specs.declared.ops.Op.{Op}
use Rattle.ir_forms.specs.declared.ops.Region.{Region}
use Rattle.ir_forms.specs.Ops.{kind_of, operands_of, regions_of}
use Rattle.module_grammar.specs.declared.state.Name.{Name}
use Rattle.module_grammar.specs.declared.symbols.Symbol.{Symbol}
use Rattle.round_trip.proofs.Core.{Word}
use Rattle.module_grammar.specs.State.{as_number, values_of}
use Rattle.ir_forms.specs.Ops.{results_of}
use Rattle.mlir_print.specs.Printed.{printed_regions}
use Rattle.mlir_print.specs.Printable.{Scope, HasForm, HasParts}
use Rattle.round_trip.proofs.Values.{shown as shown_name, Finds}
use Rattle.round_trip.proofs.Shapes.{no-regions}
use Rattle.round_trip.proofs.Scopes.{IsGood}
use Rattle.round_trip.proofs.Regions.{Around}
use Rattle.round_trip.proofs.FormsRead.{writes_regions, has_regions}
use mathlib.Core.Logic.{inl, inr}
use Rattle.mlir_print.specs.Printable.{IsConstant}
use Rattle.round_trip.proofs.OpForms.{RegionsGo, FormGoes, one-region, two-regions, goes-flat, goes-for, goes-parallel, goes-execute, goes-while, goes-if, one-goes, two-go}

constant-regions : (o : Op) → IsConstant o → regions_of o ≡ []
constant-regions o (inl h) = no-regions (regions_of o) h.1.params_are
constant-regions o (inr (inl h)) = no-regions (regions_of o) h.4.params_are
constant-regions o (inr (inr h)) = no-regions (regions_of o) h.4.params_are

-- an operation whose form writes no region has none
flat-parts : (f : Form) (o : Op) → writes_regions f ≡ false → HasParts f o → regions_of o ≡ []
flat-parts shape.Binary o flat h = no-regions (regions_of o) h.2.params_are
flat-parts shape.Compare o flat h = no-regions (regions_of o) h.3.params_are
flat-parts shape.Select o flat h = no-regions (regions_of o) h.2.params_are
flat-parts shape.Extend o flat h = no-regions (regions_of o) h.4.params_are
flat-parts shape.Truncate o flat h = no-regions (regions_of o) h.4.params_are
flat-parts shape.IndexCast o flat h = no-regions (regions_of o) h.4.params_are
flat-parts shape.Constant o flat h = constant-regions o h
flat-parts shape.Assert o flat h = no-regions (regions_of o) h.2.params_are
flat-parts shape.Call o flat h = no-regions (regions_of o) h.7.params_are
flat-parts shape.TryCall o flat h = no-regions (regions_of o) h.7.params_are
flat-parts shape.Return o flat h = no-regions (regions_of o) h.4.params_are
flat-parts shape.For o flat h = absurd cc
flat-parts shape.If o flat h = absurd cc
flat-parts shape.While o flat h = absurd cc
flat-parts shape.Condition o flat h = no-regions (regions_of o) h.4.params_are
flat-parts shape.Parallel o flat h = absurd cc
flat-parts shape.Reduce o flat h = no-regions (regions_of o) h.params_are
flat-parts shape.Yield o flat h = no-regions (regions_of o) h.4.params_are
flat-parts shape.Alloc o flat h = no-regions (regions_of o) h.2.params_are
flat-parts shape.Dealloc o flat h = no-regions (regions_of o) h.2.params_are
flat-parts shape.Load o flat h = no-regions (regions_of o) h.3.params_are
flat-parts shape.Store o flat h = no-regions (regions_of o) h.3.params_are
flat-parts shape.Dim o flat h = no-regions (regions_of o) h.2.params_are
flat-parts shape.Execute o flat h = absurd cc
flat-parts shape.TaskYield o flat h = no-regions (regions_of o) h.4.params_are
flat-parts shape.Await o flat h = no-regions (regions_of o) h.2.params_are
flat-parts shape.AwaitAll o flat h = no-regions (regions_of o) h.params_are
flat-parts shape.CreateGroup o flat h = no-regions (regions_of o) h.params_are
flat-parts shape.AddToGroup o flat h = no-regions (regions_of o) h.2.params_are
flat-parts shape.Other o flat h = absurd h

flat-regions : (kd : OpKind) (o : Op) → has_regions kd ≡ false → HasForm kd o → regions_of o ≡ []
flat-regions kd o flat h = flat-parts (row_of kd).form o flat h

module _ (level : Level) (m : Module) (k : List Symbol) (a : Around) (s e : Scope) (begun last : ℕ) (indent : List ℕ) (at : ℕ) (rs : List Name) (ws : List Word)
    (o : Op) (good : IsGood s) (counted : last ≡ as_number begun) (f : Finds (map shown_name s.seen) (operands_of o)) (results_are : values_of rs ≡ results_of o) where
  -- what is to hold where the operation has these regions
  abbrev Read : OpKind → List Region → Type 0
  Read kd regions = RegionsGo level m o 0 regions s e → FormGoes level m k a s e begun at rs ws o kd (printed_regions regions o 0 indent last)

  flat-goes : (kd : OpKind) → has_regions kd ≡ false → kind_of o ≡ kd → HasForm kd o → Read kd (regions_of o)
  flat-goes kd flat is h =
      let none : regions_of o ≡ [] = flat-regions kd o flat h in
      subst (λ (regions : List Region). Read kd regions) (sym none) (λ g. goes-flat level m k a s e begun last indent at rs ws o good counted f results_are kd flat is h none g)

  single : (kd : OpKind) → (x : (r : Region) × (regions_of o ≡ r ∷ [])) → Read kd (x.0 ∷ []) → Read kd (regions_of o)
  single kd x goes = subst (λ (regions : List Region). Read kd regions) (sym x.1) goes

  double : (kd : OpKind) → (x : (r : Region) × (q : Region) × (regions_of o ≡ r ∷ q ∷ [])) → Read kd (x.0 ∷ x.1 ∷ []) → Read kd (regions_of o)
  double kd x goes = subst (λ (regions : List Region). Read kd regions) (sym x.2) goes

  pub form-goes : (kd : OpKind) → kind_of o ≡ kd → HasForm kd o → Read kd (regions_of o)
  form-goes op.ScfFor is h =
      let x = one-region (regions_of o) _ h.4.params_are in
      single op.ScfFor x (one-goes level m k a s e begun last indent at rs ws o good counted f results_are op.ScfFor x.0
      (λ inner g. goes-for level m k a s e begun last indent at rs ws o good counted f results_are x.0 inner is x.1 h g))
  form-goes op.ScfParallel is h =
      let x = one-region (regions_of o) _ h.7.params_are in
      single op.ScfParallel x (one-goes level m k a s e begun last indent at rs ws o good counted f results_are op.ScfParallel x.0
      (λ inner g. goes-parallel level m k a s e begun last indent at rs ws o good counted f results_are x.0 inner is x.1 h g))
  form-goes op.AsyncExecute is h =
      let x = one-region (regions_of o) _ h.7.params_are in
      single op.AsyncExecute x (one-goes level m k a s e begun last indent at rs ws o good counted f results_are op.AsyncExecute x.0
      (λ inner g. goes-execute level m k a s e begun last indent at rs ws o good counted f results_are x.0 inner is x.1 h g))
  form-goes op.ScfIf is h =
      let x = two-regions (regions_of o) _ _ h.2.params_are in
      double op.ScfIf x (two-go level m k a s e begun last indent at rs ws o good counted f results_are op.ScfIf x.0 x.1
      (λ inner1 inner2 g1 g2. goes-if level m k a s e begun last indent at rs ws o good counted f results_are x.0 x.1 inner1 inner2 is x.2 h g1 g2))
  form-goes op.ScfWhile is h =
      let x = two-regions (regions_of o) _ _ h.6.params_are in
      double op.ScfWhile x (two-go level m k a s e begun last indent at rs ws o good counted f results_are op.ScfWhile x.0 x.1
      (λ inner1 inner2 g1 g2. goes-while level m k a s e begun last indent at rs ws o good counted f results_are x.0 x.1 inner1 inner2 is x.2 h g1 g2))
  form-goes kd is h = flat-goes kd refl is h
