-- The level of a module: the least one whose texts may hold all its operations.
use Rattle.std.specs.Prelude.{nat_lt, List, [], ◌∷◌, ◌++◌, if◌then◌else◌}
use Rattle.op_table.specs.declared.kind.OpKind.{OpKind}
use Rattle.op_table.specs.declared.rows.Level.{Level}
use Rattle.op_table.specs.declared.rows.Level.TheVariants.{Source}
use Rattle.op_table.specs.Rows.{row_of, place_of}
use Rattle.ir_forms.specs.declared.ops.Op.{Op, Op-F}
use Rattle.ir_forms.specs.declared.ops.Op.TheFolds.{fold-Op, fold-Region}
use Rattle.ir_forms.specs.declared.ops.Region.{Region, Region-F}
use Rattle.ir_forms.specs.declared.ops.Func.{Func}

-- ---- the kinds of all operations, an operation before those of its regions

abbrev pub joined : List (List OpKind) → List OpKind
joined [] = []
joined (ks ∷ rest) = ks ++ joined rest

abbrev pub op_kinds : Op-F (List OpKind) (List OpKind) → List OpKind
op_kinds layer = layer.kind ∷ joined layer.regions

abbrev pub region_kinds : Region-F (List OpKind) (List OpKind) → List OpKind
region_kinds layer = joined layer.ops

unfoldable pub kinds_at : Op → List OpKind
kinds_at op = fold-Op (List OpKind) (List OpKind) op_kinds region_kinds op

unfoldable pub kinds_in : Region → List OpKind
kinds_in region = fold-Region (List OpKind) (List OpKind) op_kinds region_kinds region

abbrev pub kinds_along : List Op → List OpKind
kinds_along [] = []
kinds_along (op ∷ ops) = kinds_at op ++ kinds_along ops

abbrev pub kinds_held : List Region → List OpKind
kinds_held [] = []
kinds_held (region ∷ regions) = kinds_in region ++ kinds_held regions

-- those of the functions' bodies
abbrev pub kinds_of : List Func → List OpKind
kinds_of [] = []
kinds_of (f ∷ funcs) = kinds_in f.body ++ kinds_of funcs

-- ---- the level

abbrev pub later : Level → Level → Level
later l m = if nat_lt (place_of l) (place_of m) then m else l

-- the latest of this level and of those from which on the kinds stand
abbrev pub latest : Level → List OpKind → Level
latest l [] = l
latest l (k ∷ ks) = latest (later l (row_of k).level) ks

abbrev pub level_of : List Func → Level
level_of funcs = latest Source (kinds_of funcs)
