-- The functions of tasks, and their launches.
use Rattle.std.specs.Prelude.{◌≡◌, ◌<◌, ℕ, true, List, [], ◌∷◌, map, drop}
use Rattle.ir_forms.specs.declared.ops.Attr.{Attr}
use Rattle.ir_forms.specs.declared.ops.Func.{Func}
use Rattle.ir_forms.specs.declared.ops.Module.{Module}
use Rattle.ir_forms.specs.declared.ops.Op.{Op, out-Op}
use Rattle.ir_forms.specs.declared.ops.Region.{Region}
use Rattle.ir_forms.specs.declared.types.Ty.{Ty}
use Rattle.ir_forms.specs.declared.types.Ty.TheVariants as ty
use Rattle.ir_forms.specs.Ops.{ops_of, written_of}
use Rattle.ir_verify.specs.Places.{types_of}
use Rattle.ir_verify.specs.Types.{is_value}
use Rattle.low_forms.specs.declared.code.LowKind.TheVariants.{Launch}
use Rattle.low_forms.specs.Registers.{every}
use Rattle.mlir_print.specs.Printable.{payload}
use Rattle.scf_blocks.specs.Code.{low_attr}
use Rattle.scf_blocks.specs.Lowered.{is_task, lowered}
use Rattle.scf_blocks.specs.Tree.{params_of, tree, types_in}
use Rattle.typed_rows.specs.Typed.{AreTypes, IsCode, IsTyped, Names, TypedOps, row_fits, with_typed}
use Rattle.exec_outline.specs.Shape.{Typed, first_free, held, task, typed_in}

-- a launch of a task with values of its parameters' types, which gives a token and a value for each of its results
abbrev pub LaunchRowsFit : Type 0
LaunchRowsFit =
    (program : Module) (given : List Ty) (a : Attr) (g : Func) (values : List Ty) → Names program.funcs a g → is_task (ops_of g.body) ≡ true → AreTypes (types_in g.params)
    → every is_value values ≡ true → map held values ≡ g.results
    → row_fits (lowered program) given Launch (low_attr program.funcs a) (types_in g.params) (ty.Token ∷ values) ≡ true

-- these have numbers below this one
abbrev pub Below : ℕ → Typed → Type 0
Below n [] = Unit {0}
Below n (p ∷ ps) = (p.0.0 < n) × Below n ps

-- what a task gives
abbrev pub results_of_task : Op → List Ty
results_of_task o = map held (drop 1 (types_of o))

-- A launch's region takes what its values hold, and its operations are typed with its parameters beside those of the task's
-- function.
pub record TypedRegion (program : Module) (values : Typed) (o : Op) (name captured : List ℕ) (body : Region) : Type 0 where
  pub are_values : every is_value (written_of o) ≡ true
  pub params : types_in (params_of body) ≡ map payload (written_of o)
  pub results : AreTypes (results_of_task o)
  pub code : IsCode (out-Op o).at
  pub captures : Below (first_free values) (typed_in values captured)
  pub own : Below (first_free values) (params_of body)
  pub ops : TypedOps program (results_of_task o) (tree (ops_of body)) (with_typed (params_of body) (with_typed (task values (out-Op o) name captured body).params [])) (results_of_task o)

-- then the function is typed, which awaits its dependencies and its values first
abbrev pub TasksTyped : Type 0
TasksTyped =
    (program : Module) (values : Typed) (o : Op) (name captured : List ℕ) (body : Region)
    → TypedRegion program values o name captured body → IsTyped program (task values (out-Op o) name captured body)
