-- An operation that keeps its regions is typed before others.
use Rattle.std.proofs.Common.{◌≡◌, ◌<◌, ◌≤◌, ◌^◌, ℕ, zero, suc, ◌+◌, Bool, List, [], ◌∷◌, ◌++◌, length, map, Some, slice_get, refl, ap, ap₂, ◌∙◌, subst, arith}
use Rattle.op_table.specs.declared.rows.Level.{Level}
use Rattle.ir_forms.specs.declared.ops.Func.{Func}
use Rattle.ir_forms.specs.declared.ops.Module.{Module}
use Rattle.ir_forms.specs.declared.ops.Op.{Op, Op-F, out-Op, out-roll-Op, roll-Op}
use Rattle.ir_forms.specs.declared.ops.Region.{Region, out-roll-Region}
use Rattle.ir_forms.specs.declared.types.Ty.{Ty}
use Rattle.ir_forms.specs.Numbers.{joined}
use Rattle.ir_forms.specs.Ops.{kind_of, operands_of, ops_of, regions_of, results_of}
use Rattle.ir_verify.specs.Forms.{form}
use Rattle.ir_verify.specs.Places.{Around, Seen, Spot, params_of, place_of, places_held, types_of}
use Rattle.ir_verify.specs.Verdict.{IsSound}
use Rattle.low_forms.specs.declared.code.LowKind.TheVariants.{Launch}
use Rattle.made_funcs.specs.Captures.{numbers, uses_in, uses_inside}
use Rattle.made_laws.specs.Laws.{Among, defined_inside}
use Rattle.mlir_print.specs.Printable.{HasForm}
use Rattle.outline_laws.specs.Laws.{tasks_of}
use Rattle.scf_blocks.specs.declared.role.Role.TheVariants as role
use Rattle.scf_blocks.specs.Tree.{Ops, Var, role_of, tree, tree_before, typed}
use Rattle.sound_laws.specs.Extended.{AreFine, IsFine}
use Rattle.typed_rows.specs.Typed.{Env, TypedOps, with_typed}
use Rattle.exec_outline.specs.Shape.{Typed, outlined, outlined_region, values_inside}
use Rattle.outlined_types.specs.Forms.{end_types, end_types_in}
use Rattle.outlined_types.specs.Operations.{IsKept, Stands, is_end}
use Rattle.outlined_types.specs.Ordered.{AreHeld}
use Rattle.outlined_types.proofs.CalledFunctions.{called_are_found}
use Rattle.outlined_types.proofs.InScope.{EachInScope, made_uses, region_is, regions_out}
use Rattle.outlined_types.proofs.Operations.{operations_typed}
use Rattle.outlined_code.proofs.Regions.{AreClosed, are_closed}
use Rattle.outlined_code.proofs.Values.{AreTasks, Known, Shows, TasksIn, are_shown, shows_front, shows_rest}

-- what these regions define has numbers from here on
abbrev pub EachAbove : ℕ → List Region → Type 0
EachAbove next [] = Unit {0}
EachAbove next (r ∷ rs) = ((n : ℕ) → Among (defined_inside r) n → next ≤ n) × EachAbove next rs

module _ (level : Level) (program : Module) (sound : IsSound program.funcs) (values : Typed) where
  abbrev out : List Region → ℕ → List Region × List Func
  out rs k = regions_out level program.funcs values rs k

  pub params_kept : (r : Region) (k : ℕ) → params_of (outlined_region program.funcs values r k).0 ≡ params_of r
  params_kept r k = ap (λ (x : Region × List Func). params_of x.0) (region_is level program.funcs values r k) ∙ ap (λ x. x.params) (out-roll-Region _)

  params_out : (rs : List Region) (k : ℕ) → map params_of (out rs k).0 ≡ map params_of rs
  params_out [] k = refl
  params_out (r ∷ rs) k = ap₂ (λ (x : List Var) (xs : List (List Var)). x ∷ xs) (params_kept r k) (params_out rs (k + length (outlined_region program.funcs values r k).1))

  -- each region is typed, to give what the operation that holds it asks
  abbrev pub EachTyped : List Ty → Env → Op → ℕ → List Region → Type 0
  EachTyped given env h i [] = Unit {0}
  EachTyped given env h i (r ∷ rs) = TypedOps (outlined program) given (tree (ops_of r)) (with_typed (params_of r) env) (end_types_in (form h) h i) × EachTyped given env h (i + 1) rs

  each_at : (given : List Ty) (env : Env) (h : Op) (i : ℕ) (rs : List Region) → EachTyped given env h i rs → (j : ℕ) (r : Region) → slice_get rs j ≡ Some r → (n : ℕ) → n ≡ i + j
      → TypedOps (outlined program) given (tree (ops_of r)) (with_typed (params_of r) env) (end_types_in (form h) h n)
  each_at given env h i [] each j r at n e = cc
  each_at given env h i (q ∷ rs) each zero r at n e =
      let same : q ≡ r = cc in
      let here : i ≡ n = omega (arith, e) in
      subst (λ x. TypedOps (outlined program) given (tree (ops_of x)) (with_typed (params_of x) env) (end_types_in (form h) h n)) same
      (subst (λ m. TypedOps (outlined program) given (tree (ops_of q)) (with_typed (params_of q) env) (end_types_in (form h) h m)) here each.0)
  each_at given env h i (q ∷ rs) each (suc j) r at n e = each_at given env h (i + 1) rs each.1 j r at n (omega (arith, e))

  -- regions in their place, before which so many tasks stand
  pub record AtRegions (h : Op) (i : ℕ) (rs : List Region) (k : ℕ) (a : Around) (seen : Seen) (env : Env) (next : ℕ) : Type 0 where
    pub fine : AreFine (places_held program.funcs rs a h i seen)
    pub known : Known values seen next
    pub shows : Shows (joined (map uses_inside (out rs k).0)) seen env
    pub own : AreHeld values (joined (map values_inside rs))
    pub tasks : TasksIn (tasks_of program) k (out rs k).1
    pub closed : AreClosed a h i rs

  -- and what they become
  pub record OfRegions (h : Op) (i : ℕ) (rs : List Region) (k : ℕ) (given : List Ty) (env : Env) : Type 0 where
    pub typed : EachTyped given env h i (out rs k).0
    pub tasks : AreTasks (outlined program) (out rs k).1

  -- an operation in its place
  pub record AtOp (o : Op) (last : Bool) (a : Around) (seen : Seen) (next : ℕ) : Type 0 where
    pub fine : IsFine (record { seen = seen; place = place_of program.funcs a last o })
    pub inside : AreFine (places_held program.funcs (regions_of o) a o 0 seen)
    pub has : HasForm (kind_of o) o
    pub at : (out-Op o).at < 2 ^ 32
    pub known : Known values seen next
    pub own : AreHeld values (joined (map values_inside (regions_of o)))
    pub regions : (k : ℕ) (given : List Ty) (env : Env) → AtRegions o 0 (regions_of o) k a seen env next → OfRegions o 0 (regions_of o) k given env
    pub scope : (k : ℕ) → EachInScope level program.funcs values seen (out (regions_of o) k).0
    pub above : (k : ℕ) → EachAbove next (out (regions_of o) k).0

  module _ (o : Op) (last : Bool) (a : Around) (seen : Seen) (next : ℕ) (p : AtOp o last a seen next) (k : ℕ) (given : List Ty) (env : Env) where
    abbrev spot : Spot
    spot = record { seen = seen; place = place_of program.funcs a last o }

    abbrev layer_kept : Op-F Op Region
    layer_kept = record { kind = (out-Op o).kind; at = (out-Op o).at; operands = (out-Op o).operands; groups = (out-Op o).groups; written = (out-Op o).written; results = (out-Op o).results; types = (out-Op o).types; attr = (out-Op o).attr; regions = (out (regions_of o) k).0 }

    abbrev op_kept : Op
    op_kept = roll-Op layer_kept

    is_kept : IsKept o op_kept
    is_kept = record {
      at = ap (λ x. x.at) (out-roll-Op layer_kept);
      kind = ap (λ x. x.kind) (out-roll-Op layer_kept);
      operands = ap (λ x. x.operands) (out-roll-Op layer_kept);
      results = ap (λ x. x.results) (out-roll-Op layer_kept);
      types = ap (λ x. x.types) (out-roll-Op layer_kept);
      attr = ap (λ x. x.attr) (out-roll-Op layer_kept);
      params = ap (λ x. map params_of x.regions) (out-roll-Op layer_kept) ∙ params_out (regions_of o) k;
    }

    inner : Shows (uses_in op_kept) seen env → TasksIn (tasks_of program) k (out (regions_of o) k).1 → OfRegions o 0 (regions_of o) k given env
    inner shows tasks =
        let uses : uses_in op_kept ≡ numbers (operands_of o) ++ joined (map uses_inside (out (regions_of o) k).0) = made_uses level program.funcs values layer_kept in
        p.regions k given env (record {
          fine = p.inside;
          known = p.known;
          shows = shows_rest (numbers (operands_of o)) (joined (map uses_inside (out (regions_of o) k).0)) seen env (subst (λ (us : List ℕ). Shows us seen env) uses shows);
          own = p.own;
          tasks = tasks;
          closed = are_closed spot p.fine p.has;
        })

    pub kept_tasks : Shows (uses_in op_kept) seen env → TasksIn (tasks_of program) k (out (regions_of o) k).1 → AreTasks (outlined program) (out (regions_of o) k).1
    kept_tasks shows tasks = (inner shows tasks).tasks

    pub kept_typed : (rest : Ops) → (role_of (kind_of o) ≡ role.Plain Launch → ⊥) → Shows (uses_in op_kept) seen env → TasksIn (tasks_of program) k (out (regions_of o) k).1
        → ((is_end (role_of (kind_of o)) → ⊥) → TypedOps (outlined program) given rest (with_typed (typed (results_of o) (types_of o)) env) (end_types a))
        → TypedOps (outlined program) given (tree_before op_kept rest) env (end_types a)
    kept_typed rest other shows tasks behind =
        let uses : uses_in op_kept ≡ numbers (operands_of o) ++ joined (map uses_inside (out (regions_of o) k).0) = made_uses level program.funcs values layer_kept in
        let all : OfRegions o 0 (regions_of o) k given env = inner shows tasks in
        let few = p.at in
        let st : Stands (outlined program) given spot op_kept env rest (end_types a) = record {
          kept = is_kept;
          shown = are_shown seen env (operands_of o) (shows_front (numbers (operands_of o)) (joined (map uses_inside (out (regions_of o) k).0)) seen env (subst (λ (us : List ℕ). Shows us seen env) uses shows));
          code = omega (arith, few);
          found = λ f is. called_are_found program sound o f is;
          regions = λ i r at. each_at given env o 0 (out (regions_of o) k).0 all.typed i r (subst (λ (rs : List Region). slice_get rs i ≡ Some r) (ap (λ x. x.regions) (out-roll-Op layer_kept)) at) i (let e : i ≡ 0 + i = omega arith in e);
          ends = λ h. refl;
          behind = behind;
        } in
        operations_typed (outlined program) given spot op_kept env rest (end_types a) p.fine p.has other st
