-- How a run begins, and what its end gives.
use Rattle.std.specs.Prelude.{ℕ, ◌+◌, List, [], ◌∷◌, ◌++◌, map, length, slice_get}
use Rattle.ir_forms.specs.declared.ops.ValueNo.{ValueNo}
use Rattle.ir_forms.specs.declared.runs.Buffer.{Buffer}
use Rattle.ir_forms.specs.declared.runs.Out.{Out}
use Rattle.ir_forms.specs.declared.types.CellTy.{CellTy}
use Rattle.ir_forms.specs.declared.types.CellTy.TheVariants as cell
use Rattle.ir_forms.specs.declared.types.OutTy.{OutTy}
use Rattle.ir_forms.specs.declared.types.OutTy.TheVariants as out
use Rattle.ir_forms.specs.declared.types.Ty.{Ty}
use Rattle.ir_forms.specs.declared.types.Ty.TheVariants as ty
use Rattle.source_meaning.specs.declared.ends.SourceEnd.{SourceEnd}
use Rattle.source_meaning.specs.declared.ends.SourceEnd.TheVariants.{Done, Failed}
use Rattle.ir_forms.specs.declared.names.MadeName.TheVariants.{Argument}
use Rattle.ir_forms.specs.declared.args.ArgValue.{ArgValue}
use Rattle.ir_forms.specs.declared.args.ArgValue.TheVariants as arg
use Rattle.source_meaning.specs.declared.values.Val.{Val}
use Rattle.source_meaning.specs.declared.values.Val.TheVariants.{Number, Memory}
use Rattle.source_meaning.specs.Values.{number_in}
use Rattle.source_meaning.specs.Parts.{func_ops, func_params, func_results}
use Rattle.source_meaning.specs.Tasks.{Program, Task, Outcome, Gave, FailedAt}
use Rattle.source_meaning.specs.Flow.{scope_of}
use Rattle.source_meaning.specs.World.{Store, World, cells_in}

-- ---- the start; parameters have the places from j on

-- the value of the parameter at this place
abbrev pub argument : ℕ → ArgValue → Val
argument j (arg.Number n) = Number n
argument j (arg.Cells dims cells) = Memory (Argument j) dims

-- the values of the parameters
abbrev pub arguments : ℕ → List ArgValue → List Val
arguments j [] = []
arguments j (a ∷ args) = argument j a ∷ arguments (j + 1) args

-- the buffer of a parameter, if it is one
abbrev pub stored : ℕ → ArgValue → List Store
stored j (arg.Number n) = []
stored j (arg.Cells dims cells) = record { name = Argument j; cells = cells } ∷ []

-- the buffers of the parameters
abbrev pub stores_of : ℕ → List ArgValue → List Store
stores_of j [] = []
stores_of j (a ∷ args) = stored j a ++ stores_of (j + 1) args

-- how many cells they have
abbrev pub cells_in_all : List Store → ℕ
cells_in_all [] = 0
cells_in_all (s ∷ stores) = length s.cells + cells_in_all stores

-- what is shared at the start
abbrev pub first_world : List ArgValue → World
first_world args = record { buffers = stores_of 0 args; used = cells_in_all (stores_of 0 args); groups = []; ends = [] }

-- the task of a function, by its place
abbrev pub root_task : Program → ℕ → List ArgValue → Task
root_task p k args =
    record { pending = []; rest = func_ops (slice_get p.funcs k); frames = []; scope = scope_of p k (arguments 0 args) }

-- ---- the end

-- the type of a result
abbrev pub out_type : Ty → OutTy
out_type (ty.Int w) = out.Int w
out_type _ = out.Index

-- the type of a cell
abbrev pub out_cell : CellTy → OutTy
out_cell (cell.Int w) = out.Int w
out_cell _ = out.Index

-- numbers with their types
abbrev pub outs : List Ty → List Val → List Out
outs [] vs = []
outs (t ∷ ts) [] = []
outs (t ∷ ts) (v ∷ vs) = record { ty = out_type t; bits = number_in v } ∷ outs ts vs

-- the cells of the parameter at this place, if it is a buffer
abbrev pub buffer_out : World → ℕ → Ty → List Buffer
buffer_out w j (ty.Memref m) =
    record { argument = j; cells = map (λ n. record { ty = out_cell m.elem; bits = n }) (cells_in w (Argument j)) } ∷ []
buffer_out w j _ = []

-- the cells of the parameters that are buffers
abbrev pub buffers_out : World → ℕ → List (ValueNo × Ty) → List Buffer
buffers_out w j [] = []
buffers_out w j (param ∷ params) = buffer_out w j param.1 ++ buffers_out w (j + 1) params

-- the end of a run whose root ended so
abbrev pub end_of : Program → ℕ → World → Outcome → SourceEnd
end_of p k w (Gave vs) = Done (outs (func_results (slice_get p.funcs k)) vs) (buffers_out w 0 (func_params (slice_get p.funcs k)))
end_of p k w (FailedAt at) = Failed at
