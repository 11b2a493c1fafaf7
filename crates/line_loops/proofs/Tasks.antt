-- The kinds of a module's operations where each task is a function.
use Rattle.std.proofs.Common.{◌≡◌, ℕ, ◌+◌, Bool, true, false, cond, List, [], ◌∷◌, ◌++◌, map, length, Option, Some, None, refl, sym, ap, subst, ◌∙◌}
use Rattle.std.specs.Prelude.{slice_get}
use Rattle.op_table.specs.declared.kind.OpKind.{OpKind}
use Rattle.op_table.specs.declared.kind.OpKind.TheVariants as op
use Rattle.ir_forms.specs.declared.ops.Attr.TheVariants as attr
use Rattle.ir_forms.specs.declared.ops.Func.{Func}
use Rattle.ir_forms.specs.declared.ops.Module.{Module}
use Rattle.ir_forms.specs.declared.ops.Op.{Op, Op-F, roll-Op}
use Rattle.ir_forms.specs.declared.ops.Op.TheFolds.{fold-roll-Op, fold-roll-Region}
use Rattle.ir_forms.specs.declared.ops.Region.{Region, Region-F, out-Region, roll-Region}
use Rattle.ir_forms.specs.declared.ops.ValueNo.{ValueNo}
use Rattle.ir_forms.specs.declared.types.Ty.{Ty}
use Rattle.ir_verify.specs.Levels.{kinds_at, kinds_in, kinds_along, kinds_held, kinds_of}
use Rattle.exec_outline.specs.Shape as shape
use Rattle.exec_outline.specs.Shape.{Outlining, Typed, in_order, is_execute}
use Rattle.split_kinds.proofs.Passing.{Each, tree, Pass, pass_both, pass_front, pass_rest, ops_both, funcs_both, op_passes, op_passed, region_passes, region_passed, inner_passes}

module _ (ok : OpKind → Bool) (awaits : ok op.AsyncAwait ≡ true) where
  await_passes : (at : ℕ) (p : ValueNo × Ty) (results : Typed) → Pass ok (kinds_at (shape.await at p results))
  await_passes at p results =
      op_passes ok (record { kind = op.AsyncAwait; at = at; operands = p.0 ∷ []; groups = []; written = p.1 ∷ []; results = map (λ r. r.0) results; types = map (λ r. r.1) results; attr = attr.None; regions = [] }) awaits tt

  each_passes : (at : ℕ) (ps : Typed) → Pass ok (kinds_along (shape.awaits_each at ps))
  each_passes at [] = tt
  each_passes at (p ∷ ps) = pass_both ok (kinds_at (shape.await at p [])) (kinds_along (shape.awaits_each at ps)) (await_passes at p []) (each_passes at ps)

  for_passes : (at : ℕ) (ps qs : Typed) → Pass ok (kinds_along (shape.awaits_for at ps qs))
  for_passes at [] qs = tt
  for_passes at (p ∷ ps) [] = pass_both ok (kinds_at (shape.await at p [])) (kinds_along (shape.awaits_for at ps [])) (await_passes at p []) (for_passes at ps [])
  for_passes at (p ∷ ps) (q ∷ qs) = pass_both ok (kinds_at (shape.await at p (q ∷ []))) (kinds_along (shape.awaits_for at ps qs)) (await_passes at p (q ∷ [])) (for_passes at ps qs)

  module _ (funcs : List Func) (values : Typed) where
    abbrev outlined_op : Op → Outlining Op
    outlined_op = shape.outlined_op funcs values

    abbrev outlined_region : Region → Outlining Region
    outlined_region = shape.outlined_region funcs values

    abbrev OpOutlined : Op → Type 0
    OpOutlined o = (k : ℕ) → Pass ok (kinds_at o) → Pass ok (kinds_at (outlined_op o k).0) × Pass ok (kinds_of (outlined_op o k).1)

    abbrev RegionOutlined : Region → Type 0
    RegionOutlined r = (k : ℕ) → Pass ok (kinds_in r) → Pass ok (kinds_in (outlined_region r k).0) × Pass ok (kinds_of (outlined_region r k).1)

    regions_pass : (rs : List Region) → Each RegionOutlined rs → (k : ℕ) → Pass ok (kinds_held rs) → Pass ok (kinds_held (in_order (map outlined_region rs) k).0) × Pass ok (kinds_of (in_order (map outlined_region rs) k).1)
    regions_pass [] h k p = (tt, tt)
    regions_pass (r ∷ rs) h k p =
        let n : ℕ = k + length (outlined_region r k).1 in
        let one : Pass ok (kinds_in (outlined_region r k).0) × Pass ok (kinds_of (outlined_region r k).1) = h.0 k (pass_front ok (kinds_in r) (kinds_held rs) p) in
        let rest : Pass ok (kinds_held (in_order (map outlined_region rs) n).0) × Pass ok (kinds_of (in_order (map outlined_region rs) n).1) = regions_pass rs h.1 n (pass_rest ok (kinds_in r) (kinds_held rs) p) in (
          pass_both ok (kinds_in (outlined_region r k).0) (kinds_held (in_order (map outlined_region rs) n).0) one.0 rest.0,
          funcs_both ok (outlined_region r k).1 (in_order (map outlined_region rs) n).1 one.1 rest.1,
        )

    ops_pass : (os : List Op) → Each OpOutlined os → (k : ℕ) → Pass ok (kinds_along os) → Pass ok (kinds_along (in_order (map outlined_op os) k).0) × Pass ok (kinds_of (in_order (map outlined_op os) k).1)
    ops_pass [] h k p = (tt, tt)
    ops_pass (o ∷ os) h k p =
        let n : ℕ = k + length (outlined_op o k).1 in
        let one : Pass ok (kinds_at (outlined_op o k).0) × Pass ok (kinds_of (outlined_op o k).1) = h.0 k (pass_front ok (kinds_at o) (kinds_along os) p) in
        let rest : Pass ok (kinds_along (in_order (map outlined_op os) n).0) × Pass ok (kinds_of (in_order (map outlined_op os) n).1) = ops_pass os h.1 n (pass_rest ok (kinds_at o) (kinds_along os) p) in (
          pass_both ok (kinds_at (outlined_op o k).0) (kinds_along (in_order (map outlined_op os) n).0) one.0 rest.0,
          funcs_both ok (outlined_op o k).1 (in_order (map outlined_op os) n).1 one.1 rest.1,
        )

    -- what comes of the region of a task
    abbrev IsGood : Option (ℕ → Region × List Func) → Type 0
    IsGood None = Unit {0}
    IsGood (Some r) = (k : ℕ) → Pass ok (kinds_in (r k).0) × Pass ok (kinds_of (r k).1)

    task_good : (b : Bool) (rs : List Region) → Each RegionOutlined rs → Pass ok (kinds_held rs) → IsGood (cond b (slice_get (map outlined_region rs) 0) None)
    task_good true [] h p = tt
    task_good true (r ∷ rs) h p = λ k. h.0 k (pass_front ok (kinds_in r) (kinds_held rs) p)
    task_good false rs h p = tt

    task_passes : {X Y : Type 0} (o : Op-F X Y) (name : List ℕ) (captured : List ℕ) (body : Region) → Pass ok (kinds_in body) → Pass ok (kinds_in (shape.task values o name captured body).body)
    task_passes o name captured body h =
        let before : List Op = shape.awaits_each o.at (shape.dependencies values o) in
        let given : List Op = shape.awaits_for o.at (shape.value_operands values o) (out-Region body).params in
        region_passes ok (record { params = []; ops = (before ++ given) ++ (out-Region body).ops })
        (ops_both ok (before ++ given) (out-Region body).ops
        (ops_both ok before given (each_passes o.at (shape.dependencies values o)) (for_passes o.at (shape.value_operands values o) (out-Region body).params))
        (inner_passes ok body h))

    abbrev outlined_layer : Op-F Op Region → Op-F (Outlining Op) (Outlining Region)
    outlined_layer x = record { kind = x.kind; at = x.at; operands = x.operands; groups = x.groups; written = x.written; results = x.results; types = x.types; attr = x.attr; regions = map outlined_region x.regions }

    as_passes : (x : Op-F Op Region) (region : Option (ℕ → Region × List Func)) (k : ℕ) → ok x.kind ≡ true → IsGood region
        → Pass ok (kinds_held (in_order (outlined_layer x).regions k).0) × Pass ok (kinds_of (in_order (outlined_layer x).regions k).1)
        → Pass ok (kinds_at (shape.outlined_as funcs values (outlined_layer x) region k).0) × Pass ok (kinds_of (shape.outlined_as funcs values (outlined_layer x) region k).1)
    as_passes x (Some r) k e good kept =
        let inner : Region × List Func = r (k + 1) in
        let name : List ℕ = shape.task_name funcs k in
        let captured : List ℕ = shape.captures inner.0 in (
          op_passes ok (record { kind = x.kind; at = x.at; operands = x.operands ++ shape.as_values captured; groups = x.groups; written = x.written; results = x.results; types = x.types; attr = attr.Callee name; regions = [] }) e tt,
          pass_both ok (kinds_in (shape.task values (outlined_layer x) name captured inner.0).body) (kinds_of inner.1) (task_passes (outlined_layer x) name captured inner.0 (good (k + 1)).0) (good (k + 1)).1,
        )
    as_passes x None k e good kept = (
      op_passes ok (record { kind = x.kind; at = x.at; operands = x.operands; groups = x.groups; written = x.written; results = x.results; types = x.types; attr = x.attr; regions = (in_order (outlined_layer x).regions k).0 }) e kept.0,
      kept.1,
    )

    op_outlined : (x : Op-F Op Region) → Each RegionOutlined x.regions → OpOutlined (roll-Op x)
    op_outlined x h k p =
        let was : (ok x.kind ≡ true) × Pass ok (kinds_held x.regions) = op_passed ok x p in
        subst (λ (f : Outlining Op). Pass ok (kinds_at (f k).0) × Pass ok (kinds_of (f k).1)) (sym (fold-roll-Op (Outlining Op) (Outlining Region) (shape.op_outlined funcs values) (shape.region_outlined funcs values) x))
        (as_passes x (shape.task_region x.kind (outlined_layer x).regions) k was.0 (task_good (is_execute x.kind) x.regions h was.1) (regions_pass x.regions h k was.1))

    region_outlined : (x : Region-F Op Region) → Each OpOutlined x.ops → RegionOutlined (roll-Region x)
    region_outlined x h k p =
        let inner : Pass ok (kinds_along (in_order (map outlined_op x.ops) k).0) × Pass ok (kinds_of (in_order (map outlined_op x.ops) k).1) = ops_pass x.ops h k (region_passed ok x p) in
        subst (λ (f : Outlining Region). Pass ok (kinds_in (f k).0) × Pass ok (kinds_of (f k).1)) (sym (fold-roll-Region (Outlining Op) (Outlining Region) (shape.op_outlined funcs values) (shape.region_outlined funcs values) x))
        (region_passes ok (record { params = x.params; ops = (in_order (map outlined_op x.ops) k).0 }) inner.0, inner.1)

    pub region_is_outlined : (r : Region) → RegionOutlined r
    region_is_outlined = tree OpOutlined RegionOutlined op_outlined region_outlined

  funcs_pass : (whole funcs : List Func) (k : ℕ) → Pass ok (kinds_of funcs) → Pass ok (kinds_of (in_order (map (shape.outlined_func whole) funcs) k).0) × Pass ok (kinds_of (in_order (map (shape.outlined_func whole) funcs) k).1)
  funcs_pass whole [] k p = (tt, tt)
  funcs_pass whole (f ∷ funcs) k p =
      let made : Func × List Func = shape.outlined_func whole f k in
      let n : ℕ = k + length made.1 in
      let one : Pass ok (kinds_in made.0.body) × Pass ok (kinds_of made.1) = region_is_outlined whole (shape.values_of f) f.body k (pass_front ok (kinds_in f.body) (kinds_of funcs) p) in
      let rest : Pass ok (kinds_of (in_order (map (shape.outlined_func whole) funcs) n).0) × Pass ok (kinds_of (in_order (map (shape.outlined_func whole) funcs) n).1) = funcs_pass whole funcs n (pass_rest ok (kinds_in f.body) (kinds_of funcs) p) in (
        pass_both ok (kinds_in made.0.body) (kinds_of (in_order (map (shape.outlined_func whole) funcs) n).0) one.0 rest.0,
        funcs_both ok made.1 (in_order (map (shape.outlined_func whole) funcs) n).1 one.1 rest.1,
      )

  pub outlined_passes : (program : Module) → Pass ok (kinds_of program.funcs) → Pass ok (kinds_of (shape.outlined program).funcs)
  outlined_passes program p =
      let made : List Func × List Func = in_order (map (shape.outlined_func program.funcs) program.funcs) 0 in
      let both : Pass ok (kinds_of made.0) × Pass ok (kinds_of made.1) = funcs_pass program.funcs program.funcs 0 p in
      funcs_both ok made.0 made.1 both.0 both.1
