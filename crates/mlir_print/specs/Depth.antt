-- How deep the regions of a module stand in one another. A function's body is at depth 1.
use Rattle.std.specs.Prelude.{ℕ, ◌+◌, max, List, [], ◌∷◌}
use Rattle.ir_forms.specs.declared.ops.Op.{Op, Op-F}
use Rattle.ir_forms.specs.declared.ops.Op.TheFolds.{fold-Op, fold-Region}
use Rattle.ir_forms.specs.declared.ops.Region.{Region, Region-F}
use Rattle.ir_forms.specs.declared.ops.Func.{Func}
use Rattle.ir_forms.specs.declared.ops.Module.{Module}

abbrev pub deepest_of : List ℕ → ℕ
deepest_of [] = 0
deepest_of (n ∷ ns) = max n (deepest_of ns)

abbrev pub op_depth : Op-F ℕ ℕ → ℕ
op_depth layer = deepest_of layer.regions

abbrev pub region_depth : Region-F ℕ ℕ → ℕ
region_depth layer = 1 + deepest_of layer.ops

-- the depth of an operation's regions, 0 where it has none
abbrev pub depth_of_op : Op → ℕ
depth_of_op = fold-Op ℕ ℕ op_depth region_depth

-- the depth of a region: 1 and that of its operations' regions
abbrev pub depth_of_region : Region → ℕ
depth_of_region = fold-Region ℕ ℕ op_depth region_depth

abbrev pub depth_of_funcs : List Func → ℕ
depth_of_funcs [] = 0
depth_of_funcs (f ∷ fs) = max (depth_of_region f.body) (depth_of_funcs fs)

abbrev pub depth_of : Module → ℕ
depth_of m = depth_of_funcs m.funcs
