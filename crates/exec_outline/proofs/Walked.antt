-- What an operation becomes, by its parts.
use Rattle.std.proofs.Common.{◌≡◌, refl, ap, sym, ◌∙◌, ℕ, Bool, true, false, cond, List, [], ◌∷◌, Option, Some, None, map}
use Rattle.std.specs.Prelude.{slice_get, ◌+◌}
use Rattle.std.specs.Option.{option_map}
use Rattle.ir_forms.specs.declared.ops.Func.{Func}
use Rattle.ir_forms.specs.declared.ops.Op.{Op, Op-F, out-Op, roll-Op}
use Rattle.ir_forms.specs.declared.ops.Op.TheFolds.{fold_out-Op, fold_out-Region}
use Rattle.ir_forms.specs.declared.ops.Region.{Region, out-Region, roll-Region}
use Rattle.ir_forms.specs.declared.ops.ValueNo.{ValueNo}
use Rattle.ir_forms.specs.declared.types.Ty.{Ty}
use Rattle.exec_outline.specs.Shape.{Outlining, Typed, in_order, is_execute, kept, launched, op_outlined, outlined_as, outlined_op, outlined_region, region_outlined, task_region}

module _ (funcs : List Func) (values : Typed) where
  -- an operation with what its regions become in their place
  abbrev layer : Op-F Op Region → Op-F (Outlining Op) (Outlining Region)
  layer o = record { kind = o.kind; at = o.at; operands = o.operands; groups = o.groups; written = o.written; results = o.results; types = o.types; attr = o.attr; regions = map (outlined_region funcs values) o.regions }

  region_mapped : (b : Bool) (rs : List Region) → cond b (slice_get (map (outlined_region funcs values) rs) 0) None ≡ option_map (outlined_region funcs values) (cond b (slice_get rs 0) None)
  region_mapped true [] = refl
  region_mapped true (r ∷ rs) = refl
  region_mapped false rs = refl

  parts : (op : Op) (k : ℕ) → outlined_op funcs values op k ≡ outlined_as funcs values (layer (out-Op op)) (option_map (outlined_region funcs values) (task_region (out-Op op).kind (out-Op op).regions)) k
  parts op k =
      ap (λ (f : Outlining Op). f k) (fold_out-Op (Outlining Op) (Outlining Region) (op_outlined funcs values) (region_outlined funcs values) op)
      ∙ ap (λ (o : Option (ℕ → Region × List Func)). outlined_as funcs values (layer (out-Op op)) o k) (region_mapped (is_execute (out-Op op).kind) (out-Op op).regions)

  -- a launch, from what its region becomes
  pub launch_made : (op : Op) (k inside : ℕ) (region body : Region) (inner : List Func) → Some region ≡ task_region (out-Op op).kind (out-Op op).regions → inside ≡ k + 1
      → outlined_region funcs values region inside ≡ (body, inner) → outlined_op funcs values op k ≡ launched funcs values (out-Op op) k (body, inner)
  launch_made op k inside region body inner is next made =
      parts op k
      ∙ ap (λ (o : Option Region). outlined_as funcs values (layer (out-Op op)) (option_map (outlined_region funcs values) o) k) (sym is)
      ∙ ap (λ (n : ℕ). launched funcs values (out-Op op) k (outlined_region funcs values region n)) (sym next)
      ∙ ap (λ (m : Region × List Func). launched funcs values (out-Op op) k m) made

  -- another operation, from what its regions become
  pub kept_made : (op copy : Op) (k : ℕ) (given regions : List Region) (tasks : List Func) → None ≡ task_region (out-Op op).kind (out-Op op).regions → given ≡ (out-Op op).regions
      → in_order (map (outlined_region funcs values) given) k ≡ (regions, tasks) → copy ≡ roll-Op (record (out-Op op) { regions = regions })
      → outlined_op funcs values op k ≡ (copy, tasks)
  kept_made op copy k given regions tasks is same made copied =
      parts op k
      ∙ ap (λ (o : Option Region). outlined_as funcs values (layer (out-Op op)) (option_map (outlined_region funcs values) o) k) (sym is)
      ∙ ap (λ (rs : List Region). kept (layer (out-Op op)) (in_order (map (outlined_region funcs values) rs) k)) (sym same)
      ∙ ap (λ (m : List Region × List Func). kept (layer (out-Op op)) m) made
      ∙ ap (λ (o : Op). let both : Op × List Func = (o, tasks) in both) (sym copied)

  -- a region of these parameters and operations, beside tasks
  abbrev closes : List (ValueNo × Ty) → List Op × List Func → Region × List Func
  closes ps m = (roll-Region (record { params = ps; ops = m.0 }), m.1)

  -- a region, from what its operations become
  pub region_made : (region : Region) (k : ℕ) (shown params : List (ValueNo × Ty)) (given ops : List Op) (tasks : List Func) → shown ≡ (out-Region region).params → params ≡ shown → given ≡ (out-Region region).ops
      → in_order (map (outlined_op funcs values) given) k ≡ (ops, tasks)
      → outlined_region funcs values region k ≡ (roll-Region (record { params = params; ops = ops }), tasks)
  region_made region k shown params given ops tasks is_shown copied same made =
      ap (λ (f : Outlining Region). f k) (fold_out-Region (Outlining Op) (Outlining Region) (op_outlined funcs values) (region_outlined funcs values) region)
      ∙ ap (λ (os : List Op). closes (out-Region region).params (in_order (map (outlined_op funcs values) os) k)) (sym same)
      ∙ ap (λ (m : List Op × List Func). closes (out-Region region).params m) made
      ∙ ap (λ (ps : List (ValueNo × Ty)). closes ps (ops, tasks)) (sym (copied ∙ is_shown))
