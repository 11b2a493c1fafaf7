-- Parallel loops: the first one of a module, and none where there is none.
use Rattle.std.specs.Prelude.{◌≡◌, ℕ, cond, List, [], ◌∷◌, map, Option, Some, None}
use Rattle.ir_forms.specs.declared.ops.Func.{Func}
use Rattle.ir_forms.specs.declared.ops.Module.{Module}
use Rattle.ir_forms.specs.declared.ops.Op.{Op, Op-F}
use Rattle.ir_forms.specs.declared.ops.Op.TheFolds.{fold-Op, fold-Region}
use Rattle.ir_forms.specs.declared.ops.Region.{Region, Region-F}
use Rattle.parallel_for.specs.Shape.{is_parallel}
use Rattle.exec_outline.specs.Shape.{outlined}
use Rattle.pass_line.specs.Line.{prepared}

-- the first that is there
abbrev pub first_of : List (Option ℕ) → Option ℕ
first_of [] = None
first_of (Some n ∷ more) = Some n
first_of (None ∷ more) = first_of more

-- an operation comes before those in its regions
abbrev pub op_parallel : Op-F (Option ℕ) (Option ℕ) → Option ℕ
op_parallel o = cond (is_parallel o.kind) (Some o.at) (first_of o.regions)

abbrev pub region_parallel : Region-F (Option ℕ) (Option ℕ) → Option ℕ
region_parallel r = first_of r.ops

abbrev pub parallel_in : Op → Option ℕ
parallel_in = fold-Op (Option ℕ) (Option ℕ) op_parallel region_parallel

abbrev pub parallel_inside : Region → Option ℕ
parallel_inside = fold-Region (Option ℕ) (Option ℕ) op_parallel region_parallel

abbrev pub parallel_under : Func → Option ℕ
parallel_under f = parallel_inside f.body

-- the number of the first `scf.parallel` in the order of the text
abbrev pub first_parallel : Module → Option ℕ
first_parallel program = first_of (map parallel_under program.funcs)

-- a module without parallel loops has none once it has its checks, and a function for each task
abbrev pub NoneMade : Type 0
NoneMade = (program : Module) → first_parallel program ≡ None → first_parallel (outlined (prepared program)) ≡ None
