-- Whether each operand in a module is a value: a name that isn't visible where it is used stands for none.
use Rattle.std.specs.Prelude.{Bool, true, not, ◌&&◌, ◌==◌, List, [], ◌∷◌}
use Rattle.ir_forms.specs.declared.ops.ValueNo.{ValueNo}
use Rattle.ir_forms.specs.declared.ops.Op.{Op, Op-F}
use Rattle.ir_forms.specs.declared.ops.Op.TheFolds.{fold-Op, fold-Region}
use Rattle.ir_forms.specs.declared.ops.Region.{Region, Region-F}
use Rattle.ir_forms.specs.declared.ops.Func.{Func}
use Rattle.ir_forms.specs.declared.ops.Module.{Module}

-- the number is not the one that stands for no value
abbrev pub is_known : ValueNo → Bool
is_known v = not (v.0 == 4294967295)

abbrev pub all_known : List ValueNo → Bool
all_known [] = true
all_known (v ∷ vs) = is_known v && all_known vs

abbrev pub all_true : List Bool → Bool
all_true [] = true
all_true (b ∷ bs) = b && all_true bs

abbrev pub op_knows : Op-F Bool Bool → Bool
op_knows layer = all_known layer.operands && all_true layer.regions

abbrev pub region_knows : Region-F Bool Bool → Bool
region_knows layer = all_true layer.ops

-- each operand of the operation and of those in its regions is a value
abbrev pub knows_all : Op → Bool
knows_all = fold-Op Bool Bool op_knows region_knows

-- the same of the operations of a region
abbrev pub knows_all_in : Region → Bool
knows_all_in = fold-Region Bool Bool op_knows region_knows

abbrev pub all_know : List Func → Bool
all_know [] = true
all_know (f ∷ fs) = knows_all_in f.body && all_know fs

-- no operand of the module is unknown
abbrev pub has_no_unknown : Module → Bool
has_no_unknown m = all_know m.funcs
