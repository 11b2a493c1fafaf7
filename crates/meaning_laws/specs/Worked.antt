-- Worked modules, with how many operations they begin, and the ends and traces that they come to.
use Rattle.std.specs.Prelude.{◌≡◌, true, false, List, [], ◌∷◌}
use Rattle.ir_forms.specs.declared.ops.Op.{roll-Op}
use Rattle.ir_forms.specs.declared.ops.Region.{roll-Region}
use Rattle.ir_forms.specs.declared.ops.Func.{Func}
use Rattle.ir_forms.specs.declared.ops.Attr.TheVariants as att
use Rattle.ir_forms.specs.declared.types.Ty.TheVariants as ty
use Rattle.ir_forms.specs.declared.types.CellTy.TheVariants as cel
use Rattle.ir_forms.specs.declared.types.ValTy.TheVariants as val
use Rattle.ir_forms.specs.declared.types.OutTy.TheVariants as out
use Rattle.ir_forms.specs.declared.types.Dim.TheVariants as dim
use Rattle.int_ops.specs.declared.Width.TheVariants as wd
use Rattle.op_table.specs.declared.kind.OpKind.TheVariants as op
use Rattle.source_meaning.specs.declared.ends.SourceEnd.TheVariants.{Done, Failed, Short, Overfull, Cells, Spent}
use Rattle.ir_forms.specs.declared.names.TraceEntry.{TraceEntry}
use Rattle.ir_forms.specs.declared.names.Action.TheVariants as act
use Rattle.ir_forms.specs.declared.names.MadeName.TheVariants.{Argument, Made}
use Rattle.ir_forms.specs.declared.names.ElementName.TheVariants.{Token, Value}
use Rattle.ir_forms.specs.declared.args.ArgValue.TheVariants as arg
use Rattle.source_meaning.specs.Tasks.{Program}
use Rattle.source_meaning.specs.Sequential.{Over, start, metered}

-- ---- adds forty and two
abbrev pub adds_forty_and_two_f0 : Func
adds_forty_and_two_f0 = record { name = 109 ∷ 97 ∷ 105 ∷ 110 ∷ []; params = []; results = (ty.Int wd.W64) ∷ []; body = roll-Region (record { params = []; ops = (roll-Op (record { kind = op.ArithConstant; at = 2; operands = []; groups = []; written = []; results = record { 0 = 0 } ∷ []; types = (ty.Int wd.W64) ∷ []; attr = att.Literal false 40; regions = [] })) ∷ (roll-Op (record { kind = op.ArithConstant; at = 3; operands = []; groups = []; written = []; results = record { 0 = 1 } ∷ []; types = (ty.Int wd.W64) ∷ []; attr = att.Literal false 2; regions = [] })) ∷ (roll-Op (record { kind = op.ArithAddi; at = 4; operands = record { 0 = 0 } ∷ record { 0 = 1 } ∷ []; groups = []; written = (ty.Int wd.W64) ∷ (ty.Int wd.W64) ∷ []; results = record { 0 = 2 } ∷ []; types = (ty.Int wd.W64) ∷ []; attr = att.None; regions = [] })) ∷ (roll-Op (record { kind = op.FuncReturn; at = 5; operands = record { 0 = 2 } ∷ []; groups = []; written = (ty.Int wd.W64) ∷ []; results = []; types = []; attr = att.None; regions = [] })) ∷ [] }); at = 1 }

abbrev pub adds_forty_and_two_p : Program
adds_forty_and_two_p = record { funcs = adds_forty_and_two_f0 ∷ []; called = false ∷ []; uses = (record { 0 = 0 } ∷ record { 0 = 1 } ∷ record { 0 = 2 } ∷ []) ∷ [] }

abbrev pub adds_forty_and_two_trace : List TraceEntry
adds_forty_and_two_trace = record { task = []; action = act.End true } ∷ []

abbrev pub adds_forty_and_two_comes : Type 0
adds_forty_and_two_comes = metered adds_forty_and_two_p 0 1000 26 (start adds_forty_and_two_p 0 []) ≡ (4, Over (Done (record { ty = out.Int wd.W64; bits = 42 } ∷ []) []) adds_forty_and_two_trace)

-- ---- fuel of three is spent
abbrev pub fuel_of_three_is_spent_f0 : Func
fuel_of_three_is_spent_f0 = record { name = 109 ∷ 97 ∷ 105 ∷ 110 ∷ []; params = []; results = (ty.Int wd.W64) ∷ []; body = roll-Region (record { params = []; ops = (roll-Op (record { kind = op.ArithConstant; at = 2; operands = []; groups = []; written = []; results = record { 0 = 0 } ∷ []; types = (ty.Int wd.W64) ∷ []; attr = att.Literal false 40; regions = [] })) ∷ (roll-Op (record { kind = op.ArithConstant; at = 3; operands = []; groups = []; written = []; results = record { 0 = 1 } ∷ []; types = (ty.Int wd.W64) ∷ []; attr = att.Literal false 2; regions = [] })) ∷ (roll-Op (record { kind = op.ArithAddi; at = 4; operands = record { 0 = 0 } ∷ record { 0 = 1 } ∷ []; groups = []; written = (ty.Int wd.W64) ∷ (ty.Int wd.W64) ∷ []; results = record { 0 = 2 } ∷ []; types = (ty.Int wd.W64) ∷ []; attr = att.None; regions = [] })) ∷ (roll-Op (record { kind = op.FuncReturn; at = 5; operands = record { 0 = 2 } ∷ []; groups = []; written = (ty.Int wd.W64) ∷ []; results = []; types = []; attr = att.None; regions = [] })) ∷ [] }); at = 1 }

abbrev pub fuel_of_three_is_spent_p : Program
fuel_of_three_is_spent_p = record { funcs = fuel_of_three_is_spent_f0 ∷ []; called = false ∷ []; uses = (record { 0 = 0 } ∷ record { 0 = 1 } ∷ record { 0 = 2 } ∷ []) ∷ [] }

abbrev pub fuel_of_three_is_spent_trace : List TraceEntry
fuel_of_three_is_spent_trace = []

abbrev pub fuel_of_three_is_spent_comes : Type 0
fuel_of_three_is_spent_comes = metered fuel_of_three_is_spent_p 0 3 23 (start fuel_of_three_is_spent_p 0 []) ≡ (3, Over (Spent 3) fuel_of_three_is_spent_trace)

-- ---- fuel of four is enough
abbrev pub fuel_of_four_is_enough_f0 : Func
fuel_of_four_is_enough_f0 = record { name = 109 ∷ 97 ∷ 105 ∷ 110 ∷ []; params = []; results = (ty.Int wd.W64) ∷ []; body = roll-Region (record { params = []; ops = (roll-Op (record { kind = op.ArithConstant; at = 2; operands = []; groups = []; written = []; results = record { 0 = 0 } ∷ []; types = (ty.Int wd.W64) ∷ []; attr = att.Literal false 40; regions = [] })) ∷ (roll-Op (record { kind = op.ArithConstant; at = 3; operands = []; groups = []; written = []; results = record { 0 = 1 } ∷ []; types = (ty.Int wd.W64) ∷ []; attr = att.Literal false 2; regions = [] })) ∷ (roll-Op (record { kind = op.ArithAddi; at = 4; operands = record { 0 = 0 } ∷ record { 0 = 1 } ∷ []; groups = []; written = (ty.Int wd.W64) ∷ (ty.Int wd.W64) ∷ []; results = record { 0 = 2 } ∷ []; types = (ty.Int wd.W64) ∷ []; attr = att.None; regions = [] })) ∷ (roll-Op (record { kind = op.FuncReturn; at = 5; operands = record { 0 = 2 } ∷ []; groups = []; written = (ty.Int wd.W64) ∷ []; results = []; types = []; attr = att.None; regions = [] })) ∷ [] }); at = 1 }

abbrev pub fuel_of_four_is_enough_p : Program
fuel_of_four_is_enough_p = record { funcs = fuel_of_four_is_enough_f0 ∷ []; called = false ∷ []; uses = (record { 0 = 0 } ∷ record { 0 = 1 } ∷ record { 0 = 2 } ∷ []) ∷ [] }

abbrev pub fuel_of_four_is_enough_trace : List TraceEntry
fuel_of_four_is_enough_trace = record { task = []; action = act.End true } ∷ []

abbrev pub fuel_of_four_is_enough_comes : Type 0
fuel_of_four_is_enough_comes = metered fuel_of_four_is_enough_p 0 4 26 (start fuel_of_four_is_enough_p 0 []) ≡ (4, Over (Done (record { ty = out.Int wd.W64; bits = 42 } ∷ []) []) fuel_of_four_is_enough_trace)

-- ---- awaits a value
abbrev pub awaits_a_value_f0 : Func
awaits_a_value_f0 = record { name = 109 ∷ 97 ∷ 105 ∷ 110 ∷ []; params = []; results = (ty.Int wd.W64) ∷ []; body = roll-Region (record { params = []; ops = (roll-Op (record { kind = op.AsyncExecute; at = 2; operands = []; groups = 0 ∷ 0 ∷ []; written = []; results = record { 0 = 0 } ∷ record { 0 = 1 } ∷ []; types = ty.Token ∷ (ty.Value (val.Int wd.W64)) ∷ []; attr = att.None; regions = (roll-Region (record { params = []; ops = (roll-Op (record { kind = op.ArithConstant; at = 3; operands = []; groups = []; written = []; results = record { 0 = 2 } ∷ []; types = (ty.Int wd.W64) ∷ []; attr = att.Literal false 7; regions = [] })) ∷ (roll-Op (record { kind = op.AsyncYield; at = 4; operands = record { 0 = 2 } ∷ []; groups = []; written = (ty.Int wd.W64) ∷ []; results = []; types = []; attr = att.None; regions = [] })) ∷ [] })) ∷ [] })) ∷ (roll-Op (record { kind = op.AsyncAwait; at = 5; operands = record { 0 = 1 } ∷ []; groups = []; written = (ty.Value (val.Int wd.W64)) ∷ []; results = record { 0 = 3 } ∷ []; types = (ty.Int wd.W64) ∷ []; attr = att.None; regions = [] })) ∷ (roll-Op (record { kind = op.FuncReturn; at = 6; operands = record { 0 = 3 } ∷ []; groups = []; written = (ty.Int wd.W64) ∷ []; results = []; types = []; attr = att.None; regions = [] })) ∷ [] }); at = 1 }

abbrev pub awaits_a_value_p : Program
awaits_a_value_p = record { funcs = awaits_a_value_f0 ∷ []; called = false ∷ []; uses = (record { 0 = 2 } ∷ record { 0 = 1 } ∷ record { 0 = 3 } ∷ []) ∷ [] }

abbrev pub awaits_a_value_trace : List TraceEntry
awaits_a_value_trace = record { task = []; action = act.Launch 1 } ∷ record { task = 1 ∷ []; action = act.End true } ∷ record { task = []; action = act.Await (Value (1 ∷ []) 0) } ∷ record { task = []; action = act.End true } ∷ []

abbrev pub awaits_a_value_comes : Type 0
awaits_a_value_comes = metered awaits_a_value_p 0 1000 33 (start awaits_a_value_p 0 []) ≡ (5, Over (Done (record { ty = out.Int wd.W64; bits = 7 } ∷ []) []) awaits_a_value_trace)

-- ---- a failed dependency ends its task
abbrev pub a_failed_dependency_ends_its_task_f0 : Func
a_failed_dependency_ends_its_task_f0 = record { name = 109 ∷ 97 ∷ 105 ∷ 110 ∷ []; params = (record { 0 = 0 }, ty.Memref (record { elem = cel.Int wd.W64; dims = (dim.Fixed 1) ∷ [] })) ∷ []; results = []; body = roll-Region (record { params = (record { 0 = 0 }, ty.Memref (record { elem = cel.Int wd.W64; dims = (dim.Fixed 1) ∷ [] })) ∷ []; ops = (roll-Op (record { kind = op.ArithConstant; at = 2; operands = []; groups = []; written = []; results = record { 0 = 1 } ∷ []; types = ty.Index ∷ []; attr = att.Literal false 0; regions = [] })) ∷ (roll-Op (record { kind = op.ArithConstant; at = 3; operands = []; groups = []; written = []; results = record { 0 = 2 } ∷ []; types = (ty.Int wd.W64) ∷ []; attr = att.Literal false 5; regions = [] })) ∷ (roll-Op (record { kind = op.AsyncExecute; at = 4; operands = []; groups = 0 ∷ 0 ∷ []; written = []; results = record { 0 = 3 } ∷ []; types = ty.Token ∷ []; attr = att.None; regions = (roll-Region (record { params = []; ops = (roll-Op (record { kind = op.ArithConstant; at = 5; operands = []; groups = []; written = []; results = record { 0 = 4 } ∷ []; types = (ty.Int wd.W1) ∷ []; attr = att.Truth false; regions = [] })) ∷ (roll-Op (record { kind = op.CfAssert; at = 6; operands = record { 0 = 4 } ∷ []; groups = []; written = []; results = []; types = []; attr = att.Text []; regions = [] })) ∷ (roll-Op (record { kind = op.AsyncYield; at = 7; operands = []; groups = []; written = []; results = []; types = []; attr = att.None; regions = [] })) ∷ [] })) ∷ [] })) ∷ (roll-Op (record { kind = op.AsyncExecute; at = 8; operands = []; groups = 0 ∷ 0 ∷ []; written = []; results = record { 0 = 5 } ∷ []; types = ty.Token ∷ []; attr = att.None; regions = (roll-Region (record { params = []; ops = (roll-Op (record { kind = op.AsyncYield; at = 9; operands = []; groups = []; written = []; results = []; types = []; attr = att.None; regions = [] })) ∷ [] })) ∷ [] })) ∷ (roll-Op (record { kind = op.AsyncExecute; at = 10; operands = record { 0 = 3 } ∷ record { 0 = 5 } ∷ []; groups = 2 ∷ 0 ∷ []; written = []; results = record { 0 = 6 } ∷ []; types = ty.Token ∷ []; attr = att.None; regions = (roll-Region (record { params = []; ops = (roll-Op (record { kind = op.MemrefStore; at = 11; operands = record { 0 = 2 } ∷ record { 0 = 0 } ∷ record { 0 = 1 } ∷ []; groups = []; written = (ty.Memref (record { elem = cel.Int wd.W64; dims = (dim.Fixed 1) ∷ [] })) ∷ []; results = []; types = []; attr = att.None; regions = [] })) ∷ (roll-Op (record { kind = op.AsyncYield; at = 12; operands = []; groups = []; written = []; results = []; types = []; attr = att.None; regions = [] })) ∷ [] })) ∷ [] })) ∷ (roll-Op (record { kind = op.AsyncAwait; at = 13; operands = record { 0 = 5 } ∷ []; groups = []; written = ty.Token ∷ []; results = []; types = []; attr = att.None; regions = [] })) ∷ (roll-Op (record { kind = op.FuncReturn; at = 14; operands = []; groups = []; written = []; results = []; types = []; attr = att.None; regions = [] })) ∷ [] }); at = 1 }

abbrev pub a_failed_dependency_ends_its_task_p : Program
a_failed_dependency_ends_its_task_p = record { funcs = a_failed_dependency_ends_its_task_f0 ∷ []; called = false ∷ []; uses = (record { 0 = 4 } ∷ record { 0 = 3 } ∷ record { 0 = 5 } ∷ record { 0 = 2 } ∷ record { 0 = 0 } ∷ record { 0 = 1 } ∷ record { 0 = 5 } ∷ []) ∷ [] }

abbrev pub a_failed_dependency_ends_its_task_trace : List TraceEntry
a_failed_dependency_ends_its_task_trace = record { task = []; action = act.Launch 0 } ∷ record { task = 1 ∷ []; action = act.End false } ∷ record { task = []; action = act.Launch 0 } ∷ record { task = 2 ∷ []; action = act.End true } ∷ record { task = []; action = act.Launch 0 } ∷ record { task = 3 ∷ []; action = act.Await (Token (1 ∷ [])) } ∷ record { task = 3 ∷ []; action = act.End false } ∷ record { task = []; action = act.Await (Token (2 ∷ [])) } ∷ record { task = []; action = act.End true } ∷ []

abbrev pub a_failed_dependency_ends_its_task_comes : Type 0
a_failed_dependency_ends_its_task_comes = metered a_failed_dependency_ends_its_task_p 0 1000 48 (start a_failed_dependency_ends_its_task_p 0 ((arg.Cells (1 ∷ []) (9 ∷ [])) ∷ [])) ≡ (10, Over (Done [] ((record { argument = 0; cells = record { ty = out.Int wd.W64; bits = 9 } ∷ [] }) ∷ [])) a_failed_dependency_ends_its_task_trace)

-- ---- a group is short
abbrev pub a_group_is_short_f0 : Func
a_group_is_short_f0 = record { name = 109 ∷ 97 ∷ 105 ∷ 110 ∷ []; params = []; results = []; body = roll-Region (record { params = []; ops = (roll-Op (record { kind = op.ArithConstant; at = 2; operands = []; groups = []; written = []; results = record { 0 = 0 } ∷ []; types = ty.Index ∷ []; attr = att.Literal false 2; regions = [] })) ∷ (roll-Op (record { kind = op.AsyncCreateGroup; at = 3; operands = record { 0 = 0 } ∷ []; groups = []; written = []; results = record { 0 = 1 } ∷ []; types = ty.Group ∷ []; attr = att.None; regions = [] })) ∷ (roll-Op (record { kind = op.AsyncExecute; at = 4; operands = []; groups = 0 ∷ 0 ∷ []; written = []; results = record { 0 = 2 } ∷ []; types = ty.Token ∷ []; attr = att.None; regions = (roll-Region (record { params = []; ops = (roll-Op (record { kind = op.AsyncYield; at = 5; operands = []; groups = []; written = []; results = []; types = []; attr = att.None; regions = [] })) ∷ [] })) ∷ [] })) ∷ (roll-Op (record { kind = op.AsyncAddToGroup; at = 6; operands = record { 0 = 2 } ∷ record { 0 = 1 } ∷ []; groups = []; written = ty.Token ∷ []; results = record { 0 = 3 } ∷ []; types = ty.Index ∷ []; attr = att.None; regions = [] })) ∷ (roll-Op (record { kind = op.AsyncAwaitAll; at = 7; operands = record { 0 = 1 } ∷ []; groups = []; written = []; results = []; types = []; attr = att.None; regions = [] })) ∷ (roll-Op (record { kind = op.FuncReturn; at = 8; operands = []; groups = []; written = []; results = []; types = []; attr = att.None; regions = [] })) ∷ [] }); at = 1 }

abbrev pub a_group_is_short_p : Program
a_group_is_short_p = record { funcs = a_group_is_short_f0 ∷ []; called = false ∷ []; uses = (record { 0 = 0 } ∷ record { 0 = 2 } ∷ record { 0 = 1 } ∷ record { 0 = 1 } ∷ []) ∷ [] }

abbrev pub a_group_is_short_trace : List TraceEntry
a_group_is_short_trace = record { task = []; action = act.Create 2 } ∷ record { task = []; action = act.Launch 0 } ∷ record { task = 2 ∷ []; action = act.End true } ∷ record { task = []; action = act.Add (Made [] 1) (Token (2 ∷ [])) false } ∷ []

abbrev pub a_group_is_short_comes : Type 0
a_group_is_short_comes = metered a_group_is_short_p 0 1000 34 (start a_group_is_short_p 0 []) ≡ (6, Over (Short (Made [] 1) 1 2) a_group_is_short_trace)

-- ---- a group is overfull
abbrev pub a_group_is_overfull_f0 : Func
a_group_is_overfull_f0 = record { name = 109 ∷ 97 ∷ 105 ∷ 110 ∷ []; params = []; results = []; body = roll-Region (record { params = []; ops = (roll-Op (record { kind = op.ArithConstant; at = 2; operands = []; groups = []; written = []; results = record { 0 = 0 } ∷ []; types = ty.Index ∷ []; attr = att.Literal false 2; regions = [] })) ∷ (roll-Op (record { kind = op.AsyncCreateGroup; at = 3; operands = record { 0 = 0 } ∷ []; groups = []; written = []; results = record { 0 = 1 } ∷ []; types = ty.Group ∷ []; attr = att.None; regions = [] })) ∷ (roll-Op (record { kind = op.AsyncExecute; at = 4; operands = []; groups = 0 ∷ 0 ∷ []; written = []; results = record { 0 = 2 } ∷ []; types = ty.Token ∷ []; attr = att.None; regions = (roll-Region (record { params = []; ops = (roll-Op (record { kind = op.AsyncYield; at = 5; operands = []; groups = []; written = []; results = []; types = []; attr = att.None; regions = [] })) ∷ [] })) ∷ [] })) ∷ (roll-Op (record { kind = op.AsyncAddToGroup; at = 6; operands = record { 0 = 2 } ∷ record { 0 = 1 } ∷ []; groups = []; written = ty.Token ∷ []; results = record { 0 = 3 } ∷ []; types = ty.Index ∷ []; attr = att.None; regions = [] })) ∷ (roll-Op (record { kind = op.AsyncAddToGroup; at = 7; operands = record { 0 = 2 } ∷ record { 0 = 1 } ∷ []; groups = []; written = ty.Token ∷ []; results = record { 0 = 4 } ∷ []; types = ty.Index ∷ []; attr = att.None; regions = [] })) ∷ (roll-Op (record { kind = op.AsyncAddToGroup; at = 8; operands = record { 0 = 2 } ∷ record { 0 = 1 } ∷ []; groups = []; written = ty.Token ∷ []; results = record { 0 = 5 } ∷ []; types = ty.Index ∷ []; attr = att.None; regions = [] })) ∷ (roll-Op (record { kind = op.AsyncAwaitAll; at = 9; operands = record { 0 = 1 } ∷ []; groups = []; written = []; results = []; types = []; attr = att.None; regions = [] })) ∷ (roll-Op (record { kind = op.FuncReturn; at = 10; operands = []; groups = []; written = []; results = []; types = []; attr = att.None; regions = [] })) ∷ [] }); at = 1 }

abbrev pub a_group_is_overfull_p : Program
a_group_is_overfull_p = record { funcs = a_group_is_overfull_f0 ∷ []; called = false ∷ []; uses = (record { 0 = 0 } ∷ record { 0 = 2 } ∷ record { 0 = 1 } ∷ record { 0 = 2 } ∷ record { 0 = 1 } ∷ record { 0 = 2 } ∷ record { 0 = 1 } ∷ record { 0 = 1 } ∷ []) ∷ [] }

abbrev pub a_group_is_overfull_trace : List TraceEntry
a_group_is_overfull_trace = record { task = []; action = act.Create 2 } ∷ record { task = []; action = act.Launch 0 } ∷ record { task = 2 ∷ []; action = act.End true } ∷ record { task = []; action = act.Add (Made [] 1) (Token (2 ∷ [])) false } ∷ record { task = []; action = act.Add (Made [] 1) (Token (2 ∷ [])) false } ∷ []

abbrev pub a_group_is_overfull_comes : Type 0
a_group_is_overfull_comes = metered a_group_is_overfull_p 0 1000 37 (start a_group_is_overfull_p 0 []) ≡ (7, Over (Overfull (Made [] 1) 2) a_group_is_overfull_trace)

-- ---- a token is added twice
abbrev pub a_token_is_added_twice_f0 : Func
a_token_is_added_twice_f0 = record { name = 109 ∷ 97 ∷ 105 ∷ 110 ∷ []; params = []; results = []; body = roll-Region (record { params = []; ops = (roll-Op (record { kind = op.ArithConstant; at = 2; operands = []; groups = []; written = []; results = record { 0 = 0 } ∷ []; types = ty.Index ∷ []; attr = att.Literal false 2; regions = [] })) ∷ (roll-Op (record { kind = op.AsyncCreateGroup; at = 3; operands = record { 0 = 0 } ∷ []; groups = []; written = []; results = record { 0 = 1 } ∷ []; types = ty.Group ∷ []; attr = att.None; regions = [] })) ∷ (roll-Op (record { kind = op.AsyncExecute; at = 4; operands = []; groups = 0 ∷ 0 ∷ []; written = []; results = record { 0 = 2 } ∷ []; types = ty.Token ∷ []; attr = att.None; regions = (roll-Region (record { params = []; ops = (roll-Op (record { kind = op.AsyncYield; at = 5; operands = []; groups = []; written = []; results = []; types = []; attr = att.None; regions = [] })) ∷ [] })) ∷ [] })) ∷ (roll-Op (record { kind = op.AsyncAddToGroup; at = 6; operands = record { 0 = 2 } ∷ record { 0 = 1 } ∷ []; groups = []; written = ty.Token ∷ []; results = record { 0 = 3 } ∷ []; types = ty.Index ∷ []; attr = att.None; regions = [] })) ∷ (roll-Op (record { kind = op.AsyncAddToGroup; at = 7; operands = record { 0 = 2 } ∷ record { 0 = 1 } ∷ []; groups = []; written = ty.Token ∷ []; results = record { 0 = 4 } ∷ []; types = ty.Index ∷ []; attr = att.None; regions = [] })) ∷ (roll-Op (record { kind = op.AsyncAwaitAll; at = 8; operands = record { 0 = 1 } ∷ []; groups = []; written = []; results = []; types = []; attr = att.None; regions = [] })) ∷ (roll-Op (record { kind = op.FuncReturn; at = 9; operands = []; groups = []; written = []; results = []; types = []; attr = att.None; regions = [] })) ∷ [] }); at = 1 }

abbrev pub a_token_is_added_twice_p : Program
a_token_is_added_twice_p = record { funcs = a_token_is_added_twice_f0 ∷ []; called = false ∷ []; uses = (record { 0 = 0 } ∷ record { 0 = 2 } ∷ record { 0 = 1 } ∷ record { 0 = 2 } ∷ record { 0 = 1 } ∷ record { 0 = 1 } ∷ []) ∷ [] }

abbrev pub a_token_is_added_twice_trace : List TraceEntry
a_token_is_added_twice_trace = record { task = []; action = act.Create 2 } ∷ record { task = []; action = act.Launch 0 } ∷ record { task = 2 ∷ []; action = act.End true } ∷ record { task = []; action = act.Add (Made [] 1) (Token (2 ∷ [])) false } ∷ record { task = []; action = act.Add (Made [] 1) (Token (2 ∷ [])) false } ∷ record { task = []; action = act.AwaitAll (Made [] 1) } ∷ record { task = []; action = act.End true } ∷ []

abbrev pub a_token_is_added_twice_comes : Type 0
a_token_is_added_twice_comes = metered a_token_is_added_twice_p 0 1000 42 (start a_token_is_added_twice_p 0 []) ≡ (8, Over (Done [] []) a_token_is_added_twice_trace)

-- ---- unordered writes
abbrev pub unordered_writes_f0 : Func
unordered_writes_f0 = record { name = 109 ∷ 97 ∷ 105 ∷ 110 ∷ []; params = (record { 0 = 0 }, ty.Memref (record { elem = cel.Int wd.W64; dims = (dim.Fixed 1) ∷ [] })) ∷ []; results = []; body = roll-Region (record { params = (record { 0 = 0 }, ty.Memref (record { elem = cel.Int wd.W64; dims = (dim.Fixed 1) ∷ [] })) ∷ []; ops = (roll-Op (record { kind = op.ArithConstant; at = 2; operands = []; groups = []; written = []; results = record { 0 = 1 } ∷ []; types = ty.Index ∷ []; attr = att.Literal false 0; regions = [] })) ∷ (roll-Op (record { kind = op.ArithConstant; at = 3; operands = []; groups = []; written = []; results = record { 0 = 2 } ∷ []; types = (ty.Int wd.W64) ∷ []; attr = att.Literal false 1; regions = [] })) ∷ (roll-Op (record { kind = op.ArithConstant; at = 4; operands = []; groups = []; written = []; results = record { 0 = 3 } ∷ []; types = (ty.Int wd.W64) ∷ []; attr = att.Literal false 2; regions = [] })) ∷ (roll-Op (record { kind = op.AsyncExecute; at = 5; operands = []; groups = 0 ∷ 0 ∷ []; written = []; results = record { 0 = 4 } ∷ []; types = ty.Token ∷ []; attr = att.None; regions = (roll-Region (record { params = []; ops = (roll-Op (record { kind = op.MemrefStore; at = 6; operands = record { 0 = 2 } ∷ record { 0 = 0 } ∷ record { 0 = 1 } ∷ []; groups = []; written = (ty.Memref (record { elem = cel.Int wd.W64; dims = (dim.Fixed 1) ∷ [] })) ∷ []; results = []; types = []; attr = att.None; regions = [] })) ∷ (roll-Op (record { kind = op.AsyncYield; at = 7; operands = []; groups = []; written = []; results = []; types = []; attr = att.None; regions = [] })) ∷ [] })) ∷ [] })) ∷ (roll-Op (record { kind = op.AsyncExecute; at = 8; operands = []; groups = 0 ∷ 0 ∷ []; written = []; results = record { 0 = 5 } ∷ []; types = ty.Token ∷ []; attr = att.None; regions = (roll-Region (record { params = []; ops = (roll-Op (record { kind = op.MemrefStore; at = 9; operands = record { 0 = 3 } ∷ record { 0 = 0 } ∷ record { 0 = 1 } ∷ []; groups = []; written = (ty.Memref (record { elem = cel.Int wd.W64; dims = (dim.Fixed 1) ∷ [] })) ∷ []; results = []; types = []; attr = att.None; regions = [] })) ∷ (roll-Op (record { kind = op.AsyncYield; at = 10; operands = []; groups = []; written = []; results = []; types = []; attr = att.None; regions = [] })) ∷ [] })) ∷ [] })) ∷ (roll-Op (record { kind = op.AsyncAwait; at = 11; operands = record { 0 = 4 } ∷ []; groups = []; written = ty.Token ∷ []; results = []; types = []; attr = att.None; regions = [] })) ∷ (roll-Op (record { kind = op.AsyncAwait; at = 12; operands = record { 0 = 5 } ∷ []; groups = []; written = ty.Token ∷ []; results = []; types = []; attr = att.None; regions = [] })) ∷ (roll-Op (record { kind = op.FuncReturn; at = 13; operands = []; groups = []; written = []; results = []; types = []; attr = att.None; regions = [] })) ∷ [] }); at = 1 }

abbrev pub unordered_writes_p : Program
unordered_writes_p = record { funcs = unordered_writes_f0 ∷ []; called = false ∷ []; uses = (record { 0 = 2 } ∷ record { 0 = 0 } ∷ record { 0 = 1 } ∷ record { 0 = 3 } ∷ record { 0 = 0 } ∷ record { 0 = 1 } ∷ record { 0 = 4 } ∷ record { 0 = 5 } ∷ []) ∷ [] }

abbrev pub unordered_writes_trace : List TraceEntry
unordered_writes_trace = record { task = []; action = act.Launch 0 } ∷ record { task = 1 ∷ []; action = act.Write (Argument 0) 0 } ∷ record { task = 1 ∷ []; action = act.End true } ∷ record { task = []; action = act.Launch 0 } ∷ record { task = 2 ∷ []; action = act.Write (Argument 0) 0 } ∷ record { task = 2 ∷ []; action = act.End true } ∷ record { task = []; action = act.Await (Token (1 ∷ [])) } ∷ record { task = []; action = act.Await (Token (2 ∷ [])) } ∷ record { task = []; action = act.End true } ∷ []

abbrev pub unordered_writes_comes : Type 0
unordered_writes_comes = metered unordered_writes_p 0 1000 50 (start unordered_writes_p 0 ((arg.Cells (1 ∷ []) (0 ∷ [])) ∷ [])) ≡ (12, Over (Done [] ((record { argument = 0; cells = record { ty = out.Int wd.W64; bits = 2 } ∷ [] }) ∷ [])) unordered_writes_trace)

-- ---- ordered writes
abbrev pub ordered_writes_f0 : Func
ordered_writes_f0 = record { name = 109 ∷ 97 ∷ 105 ∷ 110 ∷ []; params = (record { 0 = 0 }, ty.Memref (record { elem = cel.Int wd.W64; dims = (dim.Fixed 1) ∷ [] })) ∷ []; results = []; body = roll-Region (record { params = (record { 0 = 0 }, ty.Memref (record { elem = cel.Int wd.W64; dims = (dim.Fixed 1) ∷ [] })) ∷ []; ops = (roll-Op (record { kind = op.ArithConstant; at = 2; operands = []; groups = []; written = []; results = record { 0 = 1 } ∷ []; types = ty.Index ∷ []; attr = att.Literal false 0; regions = [] })) ∷ (roll-Op (record { kind = op.ArithConstant; at = 3; operands = []; groups = []; written = []; results = record { 0 = 2 } ∷ []; types = (ty.Int wd.W64) ∷ []; attr = att.Literal false 1; regions = [] })) ∷ (roll-Op (record { kind = op.ArithConstant; at = 4; operands = []; groups = []; written = []; results = record { 0 = 3 } ∷ []; types = (ty.Int wd.W64) ∷ []; attr = att.Literal false 2; regions = [] })) ∷ (roll-Op (record { kind = op.AsyncExecute; at = 5; operands = []; groups = 0 ∷ 0 ∷ []; written = []; results = record { 0 = 4 } ∷ []; types = ty.Token ∷ []; attr = att.None; regions = (roll-Region (record { params = []; ops = (roll-Op (record { kind = op.MemrefStore; at = 6; operands = record { 0 = 2 } ∷ record { 0 = 0 } ∷ record { 0 = 1 } ∷ []; groups = []; written = (ty.Memref (record { elem = cel.Int wd.W64; dims = (dim.Fixed 1) ∷ [] })) ∷ []; results = []; types = []; attr = att.None; regions = [] })) ∷ (roll-Op (record { kind = op.AsyncYield; at = 7; operands = []; groups = []; written = []; results = []; types = []; attr = att.None; regions = [] })) ∷ [] })) ∷ [] })) ∷ (roll-Op (record { kind = op.AsyncExecute; at = 8; operands = record { 0 = 4 } ∷ []; groups = 1 ∷ 0 ∷ []; written = []; results = record { 0 = 5 } ∷ []; types = ty.Token ∷ []; attr = att.None; regions = (roll-Region (record { params = []; ops = (roll-Op (record { kind = op.MemrefStore; at = 9; operands = record { 0 = 3 } ∷ record { 0 = 0 } ∷ record { 0 = 1 } ∷ []; groups = []; written = (ty.Memref (record { elem = cel.Int wd.W64; dims = (dim.Fixed 1) ∷ [] })) ∷ []; results = []; types = []; attr = att.None; regions = [] })) ∷ (roll-Op (record { kind = op.AsyncYield; at = 10; operands = []; groups = []; written = []; results = []; types = []; attr = att.None; regions = [] })) ∷ [] })) ∷ [] })) ∷ (roll-Op (record { kind = op.AsyncAwait; at = 11; operands = record { 0 = 4 } ∷ []; groups = []; written = ty.Token ∷ []; results = []; types = []; attr = att.None; regions = [] })) ∷ (roll-Op (record { kind = op.AsyncAwait; at = 12; operands = record { 0 = 5 } ∷ []; groups = []; written = ty.Token ∷ []; results = []; types = []; attr = att.None; regions = [] })) ∷ (roll-Op (record { kind = op.FuncReturn; at = 13; operands = []; groups = []; written = []; results = []; types = []; attr = att.None; regions = [] })) ∷ [] }); at = 1 }

abbrev pub ordered_writes_p : Program
ordered_writes_p = record { funcs = ordered_writes_f0 ∷ []; called = false ∷ []; uses = (record { 0 = 2 } ∷ record { 0 = 0 } ∷ record { 0 = 1 } ∷ record { 0 = 4 } ∷ record { 0 = 3 } ∷ record { 0 = 0 } ∷ record { 0 = 1 } ∷ record { 0 = 4 } ∷ record { 0 = 5 } ∷ []) ∷ [] }

abbrev pub ordered_writes_trace : List TraceEntry
ordered_writes_trace = record { task = []; action = act.Launch 0 } ∷ record { task = 1 ∷ []; action = act.Write (Argument 0) 0 } ∷ record { task = 1 ∷ []; action = act.End true } ∷ record { task = []; action = act.Launch 0 } ∷ record { task = 2 ∷ []; action = act.Await (Token (1 ∷ [])) } ∷ record { task = 2 ∷ []; action = act.Write (Argument 0) 0 } ∷ record { task = 2 ∷ []; action = act.End true } ∷ record { task = []; action = act.Await (Token (1 ∷ [])) } ∷ record { task = []; action = act.Await (Token (2 ∷ [])) } ∷ record { task = []; action = act.End true } ∷ []

abbrev pub ordered_writes_comes : Type 0
ordered_writes_comes = metered ordered_writes_p 0 1000 52 (start ordered_writes_p 0 ((arg.Cells (1 ∷ []) (0 ∷ [])) ∷ [])) ≡ (12, Over (Done [] ((record { argument = 0; cells = record { ty = out.Int wd.W64; bits = 2 } ∷ [] }) ∷ [])) ordered_writes_trace)

-- ---- a parallel loop fills three cells
abbrev pub a_parallel_loop_fills_three_cells_f0 : Func
a_parallel_loop_fills_three_cells_f0 = record { name = 109 ∷ 97 ∷ 105 ∷ 110 ∷ []; params = (record { 0 = 0 }, ty.Memref (record { elem = cel.Index; dims = (dim.Fixed 3) ∷ [] })) ∷ []; results = []; body = roll-Region (record { params = (record { 0 = 0 }, ty.Memref (record { elem = cel.Index; dims = (dim.Fixed 3) ∷ [] })) ∷ []; ops = (roll-Op (record { kind = op.ArithConstant; at = 2; operands = []; groups = []; written = []; results = record { 0 = 1 } ∷ []; types = ty.Index ∷ []; attr = att.Literal false 0; regions = [] })) ∷ (roll-Op (record { kind = op.ArithConstant; at = 3; operands = []; groups = []; written = []; results = record { 0 = 2 } ∷ []; types = ty.Index ∷ []; attr = att.Literal false 1; regions = [] })) ∷ (roll-Op (record { kind = op.ArithConstant; at = 4; operands = []; groups = []; written = []; results = record { 0 = 3 } ∷ []; types = ty.Index ∷ []; attr = att.Literal false 3; regions = [] })) ∷ (roll-Op (record { kind = op.ScfParallel; at = 5; operands = record { 0 = 1 } ∷ record { 0 = 3 } ∷ record { 0 = 2 } ∷ []; groups = 1 ∷ 1 ∷ 1 ∷ []; written = []; results = []; types = []; attr = att.None; regions = (roll-Region (record { params = (record { 0 = 4 }, ty.Index) ∷ []; ops = (roll-Op (record { kind = op.MemrefStore; at = 6; operands = record { 0 = 4 } ∷ record { 0 = 0 } ∷ record { 0 = 4 } ∷ []; groups = []; written = (ty.Memref (record { elem = cel.Index; dims = (dim.Fixed 3) ∷ [] })) ∷ []; results = []; types = []; attr = att.None; regions = [] })) ∷ (roll-Op (record { kind = op.ScfReduce; at = 7; operands = []; groups = []; written = []; results = []; types = []; attr = att.None; regions = [] })) ∷ [] })) ∷ [] })) ∷ (roll-Op (record { kind = op.FuncReturn; at = 8; operands = []; groups = []; written = []; results = []; types = []; attr = att.None; regions = [] })) ∷ [] }); at = 1 }

abbrev pub a_parallel_loop_fills_three_cells_p : Program
a_parallel_loop_fills_three_cells_p = record { funcs = a_parallel_loop_fills_three_cells_f0 ∷ []; called = false ∷ []; uses = (record { 0 = 1 } ∷ record { 0 = 3 } ∷ record { 0 = 2 } ∷ record { 0 = 4 } ∷ record { 0 = 0 } ∷ record { 0 = 4 } ∷ []) ∷ [] }

abbrev pub a_parallel_loop_fills_three_cells_trace : List TraceEntry
a_parallel_loop_fills_three_cells_trace = record { task = []; action = act.Enter 3 true } ∷ record { task = 1 ∷ 0 ∷ []; action = act.Write (Argument 0) 0 } ∷ record { task = 1 ∷ 0 ∷ []; action = act.End true } ∷ record { task = 1 ∷ 1 ∷ []; action = act.Write (Argument 0) 1 } ∷ record { task = 1 ∷ 1 ∷ []; action = act.End true } ∷ record { task = 1 ∷ 2 ∷ []; action = act.Write (Argument 0) 2 } ∷ record { task = 1 ∷ 2 ∷ []; action = act.End true } ∷ record { task = []; action = act.JoinAll } ∷ record { task = []; action = act.End true } ∷ []

abbrev pub a_parallel_loop_fills_three_cells_comes : Type 0
a_parallel_loop_fills_three_cells_comes = metered a_parallel_loop_fills_three_cells_p 0 1000 49 (start a_parallel_loop_fills_three_cells_p 0 ((arg.Cells (3 ∷ []) (0 ∷ 0 ∷ 0 ∷ [])) ∷ [])) ≡ (11, Over (Done [] ((record { argument = 0; cells = record { ty = out.Index; bits = 0 } ∷ record { ty = out.Index; bits = 1 } ∷ record { ty = out.Index; bits = 2 } ∷ [] }) ∷ [])) a_parallel_loop_fills_three_cells_trace)

-- ---- a parallel loop of no turns
abbrev pub a_parallel_loop_of_no_turns_f0 : Func
a_parallel_loop_of_no_turns_f0 = record { name = 109 ∷ 97 ∷ 105 ∷ 110 ∷ []; params = []; results = []; body = roll-Region (record { params = []; ops = (roll-Op (record { kind = op.ArithConstant; at = 2; operands = []; groups = []; written = []; results = record { 0 = 0 } ∷ []; types = ty.Index ∷ []; attr = att.Literal false 0; regions = [] })) ∷ (roll-Op (record { kind = op.ArithConstant; at = 3; operands = []; groups = []; written = []; results = record { 0 = 1 } ∷ []; types = ty.Index ∷ []; attr = att.Literal false 1; regions = [] })) ∷ (roll-Op (record { kind = op.ScfParallel; at = 4; operands = record { 0 = 0 } ∷ record { 0 = 0 } ∷ record { 0 = 1 } ∷ []; groups = 1 ∷ 1 ∷ 1 ∷ []; written = []; results = []; types = []; attr = att.None; regions = (roll-Region (record { params = (record { 0 = 2 }, ty.Index) ∷ []; ops = (roll-Op (record { kind = op.ScfReduce; at = 5; operands = []; groups = []; written = []; results = []; types = []; attr = att.None; regions = [] })) ∷ [] })) ∷ [] })) ∷ (roll-Op (record { kind = op.FuncReturn; at = 6; operands = []; groups = []; written = []; results = []; types = []; attr = att.None; regions = [] })) ∷ [] }); at = 1 }

abbrev pub a_parallel_loop_of_no_turns_p : Program
a_parallel_loop_of_no_turns_p = record { funcs = a_parallel_loop_of_no_turns_f0 ∷ []; called = false ∷ []; uses = (record { 0 = 0 } ∷ record { 0 = 0 } ∷ record { 0 = 1 } ∷ []) ∷ [] }

abbrev pub a_parallel_loop_of_no_turns_trace : List TraceEntry
a_parallel_loop_of_no_turns_trace = record { task = []; action = act.Enter 0 true } ∷ record { task = []; action = act.JoinAll } ∷ record { task = []; action = act.End true } ∷ []

abbrev pub a_parallel_loop_of_no_turns_comes : Type 0
a_parallel_loop_of_no_turns_comes = metered a_parallel_loop_of_no_turns_p 0 1000 30 (start a_parallel_loop_of_no_turns_p 0 []) ≡ (4, Over (Done [] []) a_parallel_loop_of_no_turns_trace)

-- ---- a step of zero fails
abbrev pub a_step_of_zero_fails_f0 : Func
a_step_of_zero_fails_f0 = record { name = 109 ∷ 97 ∷ 105 ∷ 110 ∷ []; params = []; results = []; body = roll-Region (record { params = []; ops = (roll-Op (record { kind = op.ArithConstant; at = 2; operands = []; groups = []; written = []; results = record { 0 = 0 } ∷ []; types = ty.Index ∷ []; attr = att.Literal false 0; regions = [] })) ∷ (roll-Op (record { kind = op.ArithConstant; at = 3; operands = []; groups = []; written = []; results = record { 0 = 1 } ∷ []; types = ty.Index ∷ []; attr = att.Literal false 0; regions = [] })) ∷ (roll-Op (record { kind = op.ScfParallel; at = 4; operands = record { 0 = 0 } ∷ record { 0 = 0 } ∷ record { 0 = 1 } ∷ []; groups = 1 ∷ 1 ∷ 1 ∷ []; written = []; results = []; types = []; attr = att.None; regions = (roll-Region (record { params = (record { 0 = 2 }, ty.Index) ∷ []; ops = (roll-Op (record { kind = op.ScfReduce; at = 5; operands = []; groups = []; written = []; results = []; types = []; attr = att.None; regions = [] })) ∷ [] })) ∷ [] })) ∷ (roll-Op (record { kind = op.FuncReturn; at = 6; operands = []; groups = []; written = []; results = []; types = []; attr = att.None; regions = [] })) ∷ [] }); at = 1 }

abbrev pub a_step_of_zero_fails_p : Program
a_step_of_zero_fails_p = record { funcs = a_step_of_zero_fails_f0 ∷ []; called = false ∷ []; uses = (record { 0 = 0 } ∷ record { 0 = 0 } ∷ record { 0 = 1 } ∷ []) ∷ [] }

abbrev pub a_step_of_zero_fails_trace : List TraceEntry
a_step_of_zero_fails_trace = record { task = []; action = act.End false } ∷ []

abbrev pub a_step_of_zero_fails_comes : Type 0
a_step_of_zero_fails_comes = metered a_step_of_zero_fails_p 0 1000 25 (start a_step_of_zero_fails_p 0 []) ≡ (3, Over (Failed 4) a_step_of_zero_fails_trace)

-- ---- a failure fails its caller
abbrev pub a_failure_fails_its_caller_f0 : Func
a_failure_fails_its_caller_f0 = record { name = 113 ∷ []; params = (record { 0 = 0 }, ty.Int wd.W64) ∷ (record { 0 = 1 }, ty.Int wd.W64) ∷ []; results = (ty.Int wd.W64) ∷ []; body = roll-Region (record { params = (record { 0 = 0 }, ty.Int wd.W64) ∷ (record { 0 = 1 }, ty.Int wd.W64) ∷ []; ops = (roll-Op (record { kind = op.ArithDivsi; at = 2; operands = record { 0 = 0 } ∷ record { 0 = 1 } ∷ []; groups = []; written = (ty.Int wd.W64) ∷ (ty.Int wd.W64) ∷ []; results = record { 0 = 2 } ∷ []; types = (ty.Int wd.W64) ∷ []; attr = att.None; regions = [] })) ∷ (roll-Op (record { kind = op.FuncReturn; at = 3; operands = record { 0 = 2 } ∷ []; groups = []; written = (ty.Int wd.W64) ∷ []; results = []; types = []; attr = att.None; regions = [] })) ∷ [] }); at = 1 }

abbrev pub a_failure_fails_its_caller_f1 : Func
a_failure_fails_its_caller_f1 = record { name = 109 ∷ 97 ∷ 105 ∷ 110 ∷ []; params = (record { 0 = 0 }, ty.Int wd.W64) ∷ (record { 0 = 1 }, ty.Int wd.W64) ∷ []; results = []; body = roll-Region (record { params = (record { 0 = 0 }, ty.Int wd.W64) ∷ (record { 0 = 1 }, ty.Int wd.W64) ∷ []; ops = (roll-Op (record { kind = op.AsyncExecute; at = 5; operands = []; groups = 0 ∷ 0 ∷ []; written = []; results = record { 0 = 2 } ∷ []; types = ty.Token ∷ []; attr = att.None; regions = (roll-Region (record { params = []; ops = (roll-Op (record { kind = op.FuncCall; at = 6; operands = record { 0 = 0 } ∷ record { 0 = 1 } ∷ []; groups = []; written = (ty.Int wd.W64) ∷ (ty.Int wd.W64) ∷ []; results = record { 0 = 3 } ∷ []; types = (ty.Int wd.W64) ∷ []; attr = att.Callee (113 ∷ []); regions = [] })) ∷ (roll-Op (record { kind = op.AsyncYield; at = 7; operands = []; groups = []; written = []; results = []; types = []; attr = att.None; regions = [] })) ∷ [] })) ∷ [] })) ∷ (roll-Op (record { kind = op.AsyncAwait; at = 8; operands = record { 0 = 2 } ∷ []; groups = []; written = ty.Token ∷ []; results = []; types = []; attr = att.None; regions = [] })) ∷ (roll-Op (record { kind = op.FuncReturn; at = 9; operands = []; groups = []; written = []; results = []; types = []; attr = att.None; regions = [] })) ∷ [] }); at = 4 }

abbrev pub a_failure_fails_its_caller_p : Program
a_failure_fails_its_caller_p = record { funcs = a_failure_fails_its_caller_f0 ∷ a_failure_fails_its_caller_f1 ∷ []; called = true ∷ false ∷ []; uses = (record { 0 = 0 } ∷ record { 0 = 1 } ∷ record { 0 = 2 } ∷ []) ∷ (record { 0 = 0 } ∷ record { 0 = 1 } ∷ record { 0 = 2 } ∷ []) ∷ [] }

abbrev pub a_failure_fails_its_caller_trace : List TraceEntry
a_failure_fails_its_caller_trace = record { task = []; action = act.Launch 0 } ∷ record { task = 1 ∷ []; action = act.End false } ∷ record { task = []; action = act.Await (Token (1 ∷ [])) } ∷ record { task = []; action = act.End false } ∷ []

abbrev pub a_failure_fails_its_caller_comes : Type 0
a_failure_fails_its_caller_comes = metered a_failure_fails_its_caller_p 1 1000 32 (start a_failure_fails_its_caller_p 1 ((arg.Number 9223372036854775808) ∷ (arg.Number 18446744073709551615) ∷ [])) ≡ (4, Over (Failed 8) a_failure_fails_its_caller_trace)

-- ---- least by minus one fails
abbrev pub least_by_minus_one_fails_f0 : Func
least_by_minus_one_fails_f0 = record { name = 113 ∷ []; params = (record { 0 = 0 }, ty.Int wd.W64) ∷ (record { 0 = 1 }, ty.Int wd.W64) ∷ []; results = (ty.Int wd.W64) ∷ []; body = roll-Region (record { params = (record { 0 = 0 }, ty.Int wd.W64) ∷ (record { 0 = 1 }, ty.Int wd.W64) ∷ []; ops = (roll-Op (record { kind = op.ArithDivsi; at = 2; operands = record { 0 = 0 } ∷ record { 0 = 1 } ∷ []; groups = []; written = (ty.Int wd.W64) ∷ (ty.Int wd.W64) ∷ []; results = record { 0 = 2 } ∷ []; types = (ty.Int wd.W64) ∷ []; attr = att.None; regions = [] })) ∷ (roll-Op (record { kind = op.FuncReturn; at = 3; operands = record { 0 = 2 } ∷ []; groups = []; written = (ty.Int wd.W64) ∷ []; results = []; types = []; attr = att.None; regions = [] })) ∷ [] }); at = 1 }

abbrev pub least_by_minus_one_fails_f1 : Func
least_by_minus_one_fails_f1 = record { name = 109 ∷ 97 ∷ 105 ∷ 110 ∷ []; params = (record { 0 = 0 }, ty.Int wd.W64) ∷ (record { 0 = 1 }, ty.Int wd.W64) ∷ []; results = []; body = roll-Region (record { params = (record { 0 = 0 }, ty.Int wd.W64) ∷ (record { 0 = 1 }, ty.Int wd.W64) ∷ []; ops = (roll-Op (record { kind = op.AsyncExecute; at = 5; operands = []; groups = 0 ∷ 0 ∷ []; written = []; results = record { 0 = 2 } ∷ []; types = ty.Token ∷ []; attr = att.None; regions = (roll-Region (record { params = []; ops = (roll-Op (record { kind = op.FuncCall; at = 6; operands = record { 0 = 0 } ∷ record { 0 = 1 } ∷ []; groups = []; written = (ty.Int wd.W64) ∷ (ty.Int wd.W64) ∷ []; results = record { 0 = 3 } ∷ []; types = (ty.Int wd.W64) ∷ []; attr = att.Callee (113 ∷ []); regions = [] })) ∷ (roll-Op (record { kind = op.AsyncYield; at = 7; operands = []; groups = []; written = []; results = []; types = []; attr = att.None; regions = [] })) ∷ [] })) ∷ [] })) ∷ (roll-Op (record { kind = op.AsyncAwait; at = 8; operands = record { 0 = 2 } ∷ []; groups = []; written = ty.Token ∷ []; results = []; types = []; attr = att.None; regions = [] })) ∷ (roll-Op (record { kind = op.FuncReturn; at = 9; operands = []; groups = []; written = []; results = []; types = []; attr = att.None; regions = [] })) ∷ [] }); at = 4 }

abbrev pub least_by_minus_one_fails_p : Program
least_by_minus_one_fails_p = record { funcs = least_by_minus_one_fails_f0 ∷ least_by_minus_one_fails_f1 ∷ []; called = true ∷ false ∷ []; uses = (record { 0 = 0 } ∷ record { 0 = 1 } ∷ record { 0 = 2 } ∷ []) ∷ (record { 0 = 0 } ∷ record { 0 = 1 } ∷ record { 0 = 2 } ∷ []) ∷ [] }

abbrev pub least_by_minus_one_fails_trace : List TraceEntry
least_by_minus_one_fails_trace = record { task = []; action = act.End false } ∷ []

abbrev pub least_by_minus_one_fails_comes : Type 0
least_by_minus_one_fails_comes = metered least_by_minus_one_fails_p 0 1000 23 (start least_by_minus_one_fails_p 0 ((arg.Number 9223372036854775808) ∷ (arg.Number 18446744073709551615) ∷ [])) ≡ (1, Over (Failed 2) least_by_minus_one_fails_trace)

-- ---- division rounds toward zero
abbrev pub division_rounds_toward_zero_f0 : Func
division_rounds_toward_zero_f0 = record { name = 113 ∷ []; params = (record { 0 = 0 }, ty.Int wd.W64) ∷ (record { 0 = 1 }, ty.Int wd.W64) ∷ []; results = (ty.Int wd.W64) ∷ []; body = roll-Region (record { params = (record { 0 = 0 }, ty.Int wd.W64) ∷ (record { 0 = 1 }, ty.Int wd.W64) ∷ []; ops = (roll-Op (record { kind = op.ArithDivsi; at = 2; operands = record { 0 = 0 } ∷ record { 0 = 1 } ∷ []; groups = []; written = (ty.Int wd.W64) ∷ (ty.Int wd.W64) ∷ []; results = record { 0 = 2 } ∷ []; types = (ty.Int wd.W64) ∷ []; attr = att.None; regions = [] })) ∷ (roll-Op (record { kind = op.FuncReturn; at = 3; operands = record { 0 = 2 } ∷ []; groups = []; written = (ty.Int wd.W64) ∷ []; results = []; types = []; attr = att.None; regions = [] })) ∷ [] }); at = 1 }

abbrev pub division_rounds_toward_zero_f1 : Func
division_rounds_toward_zero_f1 = record { name = 109 ∷ 97 ∷ 105 ∷ 110 ∷ []; params = (record { 0 = 0 }, ty.Int wd.W64) ∷ (record { 0 = 1 }, ty.Int wd.W64) ∷ []; results = []; body = roll-Region (record { params = (record { 0 = 0 }, ty.Int wd.W64) ∷ (record { 0 = 1 }, ty.Int wd.W64) ∷ []; ops = (roll-Op (record { kind = op.AsyncExecute; at = 5; operands = []; groups = 0 ∷ 0 ∷ []; written = []; results = record { 0 = 2 } ∷ []; types = ty.Token ∷ []; attr = att.None; regions = (roll-Region (record { params = []; ops = (roll-Op (record { kind = op.FuncCall; at = 6; operands = record { 0 = 0 } ∷ record { 0 = 1 } ∷ []; groups = []; written = (ty.Int wd.W64) ∷ (ty.Int wd.W64) ∷ []; results = record { 0 = 3 } ∷ []; types = (ty.Int wd.W64) ∷ []; attr = att.Callee (113 ∷ []); regions = [] })) ∷ (roll-Op (record { kind = op.AsyncYield; at = 7; operands = []; groups = []; written = []; results = []; types = []; attr = att.None; regions = [] })) ∷ [] })) ∷ [] })) ∷ (roll-Op (record { kind = op.AsyncAwait; at = 8; operands = record { 0 = 2 } ∷ []; groups = []; written = ty.Token ∷ []; results = []; types = []; attr = att.None; regions = [] })) ∷ (roll-Op (record { kind = op.FuncReturn; at = 9; operands = []; groups = []; written = []; results = []; types = []; attr = att.None; regions = [] })) ∷ [] }); at = 4 }

abbrev pub division_rounds_toward_zero_p : Program
division_rounds_toward_zero_p = record { funcs = division_rounds_toward_zero_f0 ∷ division_rounds_toward_zero_f1 ∷ []; called = true ∷ false ∷ []; uses = (record { 0 = 0 } ∷ record { 0 = 1 } ∷ record { 0 = 2 } ∷ []) ∷ (record { 0 = 0 } ∷ record { 0 = 1 } ∷ record { 0 = 2 } ∷ []) ∷ [] }

abbrev pub division_rounds_toward_zero_trace : List TraceEntry
division_rounds_toward_zero_trace = record { task = []; action = act.End true } ∷ []

abbrev pub division_rounds_toward_zero_comes : Type 0
division_rounds_toward_zero_comes = metered division_rounds_toward_zero_p 0 1000 24 (start division_rounds_toward_zero_p 0 ((arg.Number 7) ∷ (arg.Number 18446744073709551614) ∷ [])) ≡ (2, Over (Done (record { ty = out.Int wd.W64; bits = 18446744073709551613 } ∷ []) []) division_rounds_toward_zero_trace)

-- ---- a function awaits tokens
abbrev pub a_function_awaits_tokens_f0 : Func
a_function_awaits_tokens_f0 = record { name = 102 ∷ []; params = (record { 0 = 0 }, ty.Token) ∷ (record { 0 = 1 }, ty.Token) ∷ []; results = []; body = roll-Region (record { params = (record { 0 = 0 }, ty.Token) ∷ (record { 0 = 1 }, ty.Token) ∷ []; ops = (roll-Op (record { kind = op.AsyncAwait; at = 2; operands = record { 0 = 0 } ∷ []; groups = []; written = ty.Token ∷ []; results = []; types = []; attr = att.None; regions = [] })) ∷ (roll-Op (record { kind = op.FuncReturn; at = 3; operands = []; groups = []; written = []; results = []; types = []; attr = att.None; regions = [] })) ∷ [] }); at = 1 }

abbrev pub a_function_awaits_tokens_f1 : Func
a_function_awaits_tokens_f1 = record { name = 109 ∷ 97 ∷ 105 ∷ 110 ∷ []; params = []; results = []; body = roll-Region (record { params = []; ops = (roll-Op (record { kind = op.ArithConstant; at = 5; operands = []; groups = []; written = []; results = record { 0 = 0 } ∷ []; types = ty.Index ∷ []; attr = att.Literal false 0; regions = [] })) ∷ (roll-Op (record { kind = op.ArithConstant; at = 6; operands = []; groups = []; written = []; results = record { 0 = 1 } ∷ []; types = ty.Index ∷ []; attr = att.Literal false 1; regions = [] })) ∷ (roll-Op (record { kind = op.ArithConstant; at = 7; operands = []; groups = []; written = []; results = record { 0 = 2 } ∷ []; types = ty.Index ∷ []; attr = att.Literal false 3; regions = [] })) ∷ (roll-Op (record { kind = op.AsyncExecute; at = 8; operands = []; groups = 0 ∷ 0 ∷ []; written = []; results = record { 0 = 3 } ∷ []; types = ty.Token ∷ []; attr = att.None; regions = (roll-Region (record { params = []; ops = (roll-Op (record { kind = op.AsyncYield; at = 9; operands = []; groups = []; written = []; results = []; types = []; attr = att.None; regions = [] })) ∷ [] })) ∷ [] })) ∷ (roll-Op (record { kind = op.FuncCall; at = 10; operands = record { 0 = 3 } ∷ record { 0 = 3 } ∷ []; groups = []; written = ty.Token ∷ ty.Token ∷ []; results = []; types = []; attr = att.Callee (102 ∷ []); regions = [] })) ∷ (roll-Op (record { kind = op.ScfFor; at = 11; operands = record { 0 = 0 } ∷ record { 0 = 2 } ∷ record { 0 = 1 } ∷ record { 0 = 3 } ∷ []; groups = []; written = []; results = record { 0 = 4 } ∷ []; types = ty.Token ∷ []; attr = att.None; regions = (roll-Region (record { params = (record { 0 = 5 }, ty.Index) ∷ (record { 0 = 6 }, ty.Token) ∷ []; ops = (roll-Op (record { kind = op.ScfYield; at = 12; operands = record { 0 = 6 } ∷ []; groups = []; written = ty.Token ∷ []; results = []; types = []; attr = att.None; regions = [] })) ∷ [] })) ∷ [] })) ∷ (roll-Op (record { kind = op.AsyncAwait; at = 13; operands = record { 0 = 4 } ∷ []; groups = []; written = ty.Token ∷ []; results = []; types = []; attr = att.None; regions = [] })) ∷ (roll-Op (record { kind = op.FuncReturn; at = 14; operands = []; groups = []; written = []; results = []; types = []; attr = att.None; regions = [] })) ∷ [] }); at = 4 }

abbrev pub a_function_awaits_tokens_p : Program
a_function_awaits_tokens_p = record { funcs = a_function_awaits_tokens_f0 ∷ a_function_awaits_tokens_f1 ∷ []; called = false ∷ false ∷ []; uses = (record { 0 = 0 } ∷ []) ∷ (record { 0 = 3 } ∷ record { 0 = 3 } ∷ record { 0 = 0 } ∷ record { 0 = 2 } ∷ record { 0 = 1 } ∷ record { 0 = 3 } ∷ record { 0 = 6 } ∷ record { 0 = 4 } ∷ []) ∷ [] }

abbrev pub a_function_awaits_tokens_trace : List TraceEntry
a_function_awaits_tokens_trace = record { task = []; action = act.Launch 0 } ∷ record { task = 1 ∷ []; action = act.End true } ∷ record { task = []; action = act.Await (Token (1 ∷ [])) } ∷ record { task = []; action = act.Await (Token (1 ∷ [])) } ∷ record { task = []; action = act.End true } ∷ []

abbrev pub a_function_awaits_tokens_comes : Type 0
a_function_awaits_tokens_comes = metered a_function_awaits_tokens_p 1 1000 44 (start a_function_awaits_tokens_p 1 []) ≡ (14, Over (Done [] []) a_function_awaits_tokens_trace)

-- ---- a product of matrices
abbrev pub a_product_of_matrices_f0 : Func
a_product_of_matrices_f0 = record { name = 109 ∷ 97 ∷ 105 ∷ 110 ∷ []; params = (record { 0 = 0 }, ty.Memref (record { elem = cel.Int wd.W64; dims = (dim.Fixed 2) ∷ (dim.Fixed 2) ∷ [] })) ∷ (record { 0 = 1 }, ty.Memref (record { elem = cel.Int wd.W64; dims = (dim.Fixed 2) ∷ (dim.Fixed 2) ∷ [] })) ∷ (record { 0 = 2 }, ty.Memref (record { elem = cel.Int wd.W64; dims = (dim.Fixed 2) ∷ (dim.Fixed 2) ∷ [] })) ∷ []; results = []; body = roll-Region (record { params = (record { 0 = 0 }, ty.Memref (record { elem = cel.Int wd.W64; dims = (dim.Fixed 2) ∷ (dim.Fixed 2) ∷ [] })) ∷ (record { 0 = 1 }, ty.Memref (record { elem = cel.Int wd.W64; dims = (dim.Fixed 2) ∷ (dim.Fixed 2) ∷ [] })) ∷ (record { 0 = 2 }, ty.Memref (record { elem = cel.Int wd.W64; dims = (dim.Fixed 2) ∷ (dim.Fixed 2) ∷ [] })) ∷ []; ops = (roll-Op (record { kind = op.ArithConstant; at = 2; operands = []; groups = []; written = []; results = record { 0 = 3 } ∷ []; types = ty.Index ∷ []; attr = att.Literal false 0; regions = [] })) ∷ (roll-Op (record { kind = op.ArithConstant; at = 3; operands = []; groups = []; written = []; results = record { 0 = 4 } ∷ []; types = ty.Index ∷ []; attr = att.Literal false 1; regions = [] })) ∷ (roll-Op (record { kind = op.MemrefDim; at = 4; operands = record { 0 = 0 } ∷ record { 0 = 3 } ∷ []; groups = []; written = (ty.Memref (record { elem = cel.Int wd.W64; dims = (dim.Fixed 2) ∷ (dim.Fixed 2) ∷ [] })) ∷ []; results = record { 0 = 5 } ∷ []; types = ty.Index ∷ []; attr = att.None; regions = [] })) ∷ (roll-Op (record { kind = op.ScfParallel; at = 5; operands = record { 0 = 3 } ∷ record { 0 = 3 } ∷ record { 0 = 5 } ∷ record { 0 = 5 } ∷ record { 0 = 4 } ∷ record { 0 = 4 } ∷ []; groups = 2 ∷ 2 ∷ 2 ∷ []; written = []; results = []; types = []; attr = att.None; regions = (roll-Region (record { params = (record { 0 = 6 }, ty.Index) ∷ (record { 0 = 7 }, ty.Index) ∷ []; ops = (roll-Op (record { kind = op.ArithConstant; at = 6; operands = []; groups = []; written = []; results = record { 0 = 8 } ∷ []; types = (ty.Int wd.W64) ∷ []; attr = att.Literal false 0; regions = [] })) ∷ (roll-Op (record { kind = op.ScfFor; at = 7; operands = record { 0 = 3 } ∷ record { 0 = 5 } ∷ record { 0 = 4 } ∷ record { 0 = 8 } ∷ []; groups = []; written = []; results = record { 0 = 9 } ∷ []; types = (ty.Int wd.W64) ∷ []; attr = att.None; regions = (roll-Region (record { params = (record { 0 = 10 }, ty.Index) ∷ (record { 0 = 11 }, ty.Int wd.W64) ∷ []; ops = (roll-Op (record { kind = op.MemrefLoad; at = 8; operands = record { 0 = 0 } ∷ record { 0 = 6 } ∷ record { 0 = 10 } ∷ []; groups = []; written = (ty.Memref (record { elem = cel.Int wd.W64; dims = (dim.Fixed 2) ∷ (dim.Fixed 2) ∷ [] })) ∷ []; results = record { 0 = 12 } ∷ []; types = (ty.Int wd.W64) ∷ []; attr = att.None; regions = [] })) ∷ (roll-Op (record { kind = op.MemrefLoad; at = 9; operands = record { 0 = 1 } ∷ record { 0 = 10 } ∷ record { 0 = 7 } ∷ []; groups = []; written = (ty.Memref (record { elem = cel.Int wd.W64; dims = (dim.Fixed 2) ∷ (dim.Fixed 2) ∷ [] })) ∷ []; results = record { 0 = 13 } ∷ []; types = (ty.Int wd.W64) ∷ []; attr = att.None; regions = [] })) ∷ (roll-Op (record { kind = op.ArithMuli; at = 10; operands = record { 0 = 12 } ∷ record { 0 = 13 } ∷ []; groups = []; written = (ty.Int wd.W64) ∷ (ty.Int wd.W64) ∷ []; results = record { 0 = 14 } ∷ []; types = (ty.Int wd.W64) ∷ []; attr = att.None; regions = [] })) ∷ (roll-Op (record { kind = op.ArithAddi; at = 11; operands = record { 0 = 11 } ∷ record { 0 = 14 } ∷ []; groups = []; written = (ty.Int wd.W64) ∷ (ty.Int wd.W64) ∷ []; results = record { 0 = 15 } ∷ []; types = (ty.Int wd.W64) ∷ []; attr = att.None; regions = [] })) ∷ (roll-Op (record { kind = op.ScfYield; at = 12; operands = record { 0 = 15 } ∷ []; groups = []; written = (ty.Int wd.W64) ∷ []; results = []; types = []; attr = att.None; regions = [] })) ∷ [] })) ∷ [] })) ∷ (roll-Op (record { kind = op.MemrefStore; at = 13; operands = record { 0 = 9 } ∷ record { 0 = 2 } ∷ record { 0 = 6 } ∷ record { 0 = 7 } ∷ []; groups = []; written = (ty.Memref (record { elem = cel.Int wd.W64; dims = (dim.Fixed 2) ∷ (dim.Fixed 2) ∷ [] })) ∷ []; results = []; types = []; attr = att.None; regions = [] })) ∷ (roll-Op (record { kind = op.ScfReduce; at = 14; operands = []; groups = []; written = []; results = []; types = []; attr = att.None; regions = [] })) ∷ [] })) ∷ [] })) ∷ (roll-Op (record { kind = op.FuncReturn; at = 15; operands = []; groups = []; written = []; results = []; types = []; attr = att.None; regions = [] })) ∷ [] }); at = 1 }

abbrev pub a_product_of_matrices_p : Program
a_product_of_matrices_p = record { funcs = a_product_of_matrices_f0 ∷ []; called = false ∷ []; uses = (record { 0 = 0 } ∷ record { 0 = 3 } ∷ record { 0 = 3 } ∷ record { 0 = 3 } ∷ record { 0 = 5 } ∷ record { 0 = 5 } ∷ record { 0 = 4 } ∷ record { 0 = 4 } ∷ record { 0 = 3 } ∷ record { 0 = 5 } ∷ record { 0 = 4 } ∷ record { 0 = 8 } ∷ record { 0 = 0 } ∷ record { 0 = 6 } ∷ record { 0 = 10 } ∷ record { 0 = 1 } ∷ record { 0 = 10 } ∷ record { 0 = 7 } ∷ record { 0 = 12 } ∷ record { 0 = 13 } ∷ record { 0 = 11 } ∷ record { 0 = 14 } ∷ record { 0 = 15 } ∷ record { 0 = 9 } ∷ record { 0 = 2 } ∷ record { 0 = 6 } ∷ record { 0 = 7 } ∷ []) ∷ [] }

abbrev pub a_product_of_matrices_trace : List TraceEntry
a_product_of_matrices_trace = record { task = []; action = act.Enter 4 true } ∷ record { task = 1 ∷ 0 ∷ []; action = act.Read (Argument 0) 0 } ∷ record { task = 1 ∷ 0 ∷ []; action = act.Read (Argument 1) 0 } ∷ record { task = 1 ∷ 0 ∷ []; action = act.Read (Argument 0) 1 } ∷ record { task = 1 ∷ 0 ∷ []; action = act.Read (Argument 1) 2 } ∷ record { task = 1 ∷ 0 ∷ []; action = act.Write (Argument 2) 0 } ∷ record { task = 1 ∷ 0 ∷ []; action = act.End true } ∷ record { task = 1 ∷ 1 ∷ []; action = act.Read (Argument 0) 0 } ∷ record { task = 1 ∷ 1 ∷ []; action = act.Read (Argument 1) 1 } ∷ record { task = 1 ∷ 1 ∷ []; action = act.Read (Argument 0) 1 } ∷ record { task = 1 ∷ 1 ∷ []; action = act.Read (Argument 1) 3 } ∷ record { task = 1 ∷ 1 ∷ []; action = act.Write (Argument 2) 1 } ∷ record { task = 1 ∷ 1 ∷ []; action = act.End true } ∷ record { task = 1 ∷ 2 ∷ []; action = act.Read (Argument 0) 2 } ∷ record { task = 1 ∷ 2 ∷ []; action = act.Read (Argument 1) 0 } ∷ record { task = 1 ∷ 2 ∷ []; action = act.Read (Argument 0) 3 } ∷ record { task = 1 ∷ 2 ∷ []; action = act.Read (Argument 1) 2 } ∷ record { task = 1 ∷ 2 ∷ []; action = act.Write (Argument 2) 2 } ∷ record { task = 1 ∷ 2 ∷ []; action = act.End true } ∷ record { task = 1 ∷ 3 ∷ []; action = act.Read (Argument 0) 2 } ∷ record { task = 1 ∷ 3 ∷ []; action = act.Read (Argument 1) 1 } ∷ record { task = 1 ∷ 3 ∷ []; action = act.Read (Argument 0) 3 } ∷ record { task = 1 ∷ 3 ∷ []; action = act.Read (Argument 1) 3 } ∷ record { task = 1 ∷ 3 ∷ []; action = act.Write (Argument 2) 3 } ∷ record { task = 1 ∷ 3 ∷ []; action = act.End true } ∷ record { task = []; action = act.JoinAll } ∷ record { task = []; action = act.End true } ∷ []

abbrev pub a_product_of_matrices_comes : Type 0
a_product_of_matrices_comes = metered a_product_of_matrices_p 0 1000 135 (start a_product_of_matrices_p 0 ((arg.Cells (2 ∷ 2 ∷ []) (1 ∷ 2 ∷ 3 ∷ 4 ∷ [])) ∷ (arg.Cells (2 ∷ 2 ∷ []) (5 ∷ 6 ∷ 7 ∷ 8 ∷ [])) ∷ (arg.Cells (2 ∷ 2 ∷ []) (0 ∷ 0 ∷ 0 ∷ 0 ∷ [])) ∷ [])) ≡ (61, Over (Done [] ((record { argument = 0; cells = record { ty = out.Int wd.W64; bits = 1 } ∷ record { ty = out.Int wd.W64; bits = 2 } ∷ record { ty = out.Int wd.W64; bits = 3 } ∷ record { ty = out.Int wd.W64; bits = 4 } ∷ [] }) ∷ (record { argument = 1; cells = record { ty = out.Int wd.W64; bits = 5 } ∷ record { ty = out.Int wd.W64; bits = 6 } ∷ record { ty = out.Int wd.W64; bits = 7 } ∷ record { ty = out.Int wd.W64; bits = 8 } ∷ [] }) ∷ (record { argument = 2; cells = record { ty = out.Int wd.W64; bits = 19 } ∷ record { ty = out.Int wd.W64; bits = 22 } ∷ record { ty = out.Int wd.W64; bits = 43 } ∷ record { ty = out.Int wd.W64; bits = 50 } ∷ [] }) ∷ [])) a_product_of_matrices_trace)

-- ---- cells run out
abbrev pub cells_run_out_f0 : Func
cells_run_out_f0 = record { name = 109 ∷ 97 ∷ 105 ∷ 110 ∷ []; params = []; results = []; body = roll-Region (record { params = []; ops = (roll-Op (record { kind = op.ArithConstant; at = 2; operands = []; groups = []; written = []; results = record { 0 = 0 } ∷ []; types = ty.Index ∷ []; attr = att.Literal false 16777216; regions = [] })) ∷ (roll-Op (record { kind = op.MemrefAlloc; at = 3; operands = record { 0 = 0 } ∷ []; groups = []; written = []; results = record { 0 = 1 } ∷ []; types = (ty.Memref (record { elem = cel.Int wd.W64; dims = dim.Dynamic ∷ [] })) ∷ []; attr = att.None; regions = [] })) ∷ (roll-Op (record { kind = op.MemrefAlloc; at = 4; operands = record { 0 = 0 } ∷ []; groups = []; written = []; results = record { 0 = 2 } ∷ []; types = (ty.Memref (record { elem = cel.Int wd.W64; dims = dim.Dynamic ∷ [] })) ∷ []; attr = att.None; regions = [] })) ∷ (roll-Op (record { kind = op.FuncReturn; at = 5; operands = []; groups = []; written = []; results = []; types = []; attr = att.None; regions = [] })) ∷ [] }); at = 1 }

abbrev pub cells_run_out_p : Program
cells_run_out_p = record { funcs = cells_run_out_f0 ∷ []; called = false ∷ []; uses = (record { 0 = 0 } ∷ record { 0 = 0 } ∷ []) ∷ [] }

abbrev pub cells_run_out_trace : List TraceEntry
cells_run_out_trace = record { task = []; action = act.Alloc 16777216 } ∷ []

abbrev pub cells_run_out_comes : Type 0
cells_run_out_comes = metered cells_run_out_p 0 1000 25 (start cells_run_out_p 0 []) ≡ (3, Over (Cells 16777216) cells_run_out_trace)

-- ---- too great a size fails
abbrev pub too_great_a_size_fails_f0 : Func
too_great_a_size_fails_f0 = record { name = 109 ∷ 97 ∷ 105 ∷ 110 ∷ []; params = []; results = []; body = roll-Region (record { params = []; ops = (roll-Op (record { kind = op.ArithConstant; at = 2; operands = []; groups = []; written = []; results = record { 0 = 0 } ∷ []; types = ty.Index ∷ []; attr = att.Literal false 16777217; regions = [] })) ∷ (roll-Op (record { kind = op.MemrefAlloc; at = 3; operands = record { 0 = 0 } ∷ []; groups = []; written = []; results = record { 0 = 1 } ∷ []; types = (ty.Memref (record { elem = cel.Int wd.W64; dims = dim.Dynamic ∷ [] })) ∷ []; attr = att.None; regions = [] })) ∷ (roll-Op (record { kind = op.MemrefAlloc; at = 4; operands = record { 0 = 0 } ∷ []; groups = []; written = []; results = record { 0 = 2 } ∷ []; types = (ty.Memref (record { elem = cel.Int wd.W64; dims = dim.Dynamic ∷ [] })) ∷ []; attr = att.None; regions = [] })) ∷ (roll-Op (record { kind = op.FuncReturn; at = 5; operands = []; groups = []; written = []; results = []; types = []; attr = att.None; regions = [] })) ∷ [] }); at = 1 }

abbrev pub too_great_a_size_fails_p : Program
too_great_a_size_fails_p = record { funcs = too_great_a_size_fails_f0 ∷ []; called = false ∷ []; uses = (record { 0 = 0 } ∷ record { 0 = 0 } ∷ []) ∷ [] }

abbrev pub too_great_a_size_fails_trace : List TraceEntry
too_great_a_size_fails_trace = record { task = []; action = act.End false } ∷ []

abbrev pub too_great_a_size_fails_comes : Type 0
too_great_a_size_fails_comes = metered too_great_a_size_fails_p 0 1000 24 (start too_great_a_size_fails_p 0 []) ≡ (2, Over (Failed 3) too_great_a_size_fails_trace)

-- ---- calls without end
abbrev pub calls_without_end_f0 : Func
calls_without_end_f0 = record { name = 109 ∷ 97 ∷ 105 ∷ 110 ∷ []; params = []; results = []; body = roll-Region (record { params = []; ops = (roll-Op (record { kind = op.FuncCall; at = 2; operands = []; groups = []; written = []; results = []; types = []; attr = att.Callee (109 ∷ 97 ∷ 105 ∷ 110 ∷ []); regions = [] })) ∷ (roll-Op (record { kind = op.FuncReturn; at = 3; operands = []; groups = []; written = []; results = []; types = []; attr = att.None; regions = [] })) ∷ [] }); at = 1 }

abbrev pub calls_without_end_p : Program
calls_without_end_p = record { funcs = calls_without_end_f0 ∷ []; called = false ∷ []; uses = ([]) ∷ [] }

abbrev pub calls_without_end_trace : List TraceEntry
calls_without_end_trace = []

abbrev pub calls_without_end_comes : Type 0
calls_without_end_comes = metered calls_without_end_p 0 50 70 (start calls_without_end_p 0 []) ≡ (50, Over (Spent 50) calls_without_end_trace)

-- ---- cells are not given back
abbrev pub cells_are_not_given_back_f0 : Func
cells_are_not_given_back_f0 = record { name = 109 ∷ 97 ∷ 105 ∷ 110 ∷ []; params = []; results = []; body = roll-Region (record { params = []; ops = (roll-Op (record { kind = op.ArithConstant; at = 2; operands = []; groups = []; written = []; results = record { 0 = 0 } ∷ []; types = ty.Index ∷ []; attr = att.Literal false 0; regions = [] })) ∷ (roll-Op (record { kind = op.MemrefAlloc; at = 3; operands = []; groups = []; written = []; results = record { 0 = 1 } ∷ []; types = (ty.Memref (record { elem = cel.Int wd.W64; dims = (dim.Fixed 1) ∷ [] })) ∷ []; attr = att.None; regions = [] })) ∷ (roll-Op (record { kind = op.AsyncExecute; at = 4; operands = []; groups = 0 ∷ 0 ∷ []; written = []; results = record { 0 = 2 } ∷ []; types = ty.Token ∷ []; attr = att.None; regions = (roll-Region (record { params = []; ops = (roll-Op (record { kind = op.MemrefLoad; at = 5; operands = record { 0 = 1 } ∷ record { 0 = 0 } ∷ []; groups = []; written = (ty.Memref (record { elem = cel.Int wd.W64; dims = (dim.Fixed 1) ∷ [] })) ∷ []; results = record { 0 = 3 } ∷ []; types = (ty.Int wd.W64) ∷ []; attr = att.None; regions = [] })) ∷ (roll-Op (record { kind = op.AsyncYield; at = 6; operands = []; groups = []; written = []; results = []; types = []; attr = att.None; regions = [] })) ∷ [] })) ∷ [] })) ∷ (roll-Op (record { kind = op.MemrefDealloc; at = 7; operands = record { 0 = 1 } ∷ []; groups = []; written = (ty.Memref (record { elem = cel.Int wd.W64; dims = (dim.Fixed 1) ∷ [] })) ∷ []; results = []; types = []; attr = att.None; regions = [] })) ∷ (roll-Op (record { kind = op.AsyncAwait; at = 8; operands = record { 0 = 2 } ∷ []; groups = []; written = ty.Token ∷ []; results = []; types = []; attr = att.None; regions = [] })) ∷ (roll-Op (record { kind = op.FuncReturn; at = 9; operands = []; groups = []; written = []; results = []; types = []; attr = att.None; regions = [] })) ∷ [] }); at = 1 }

abbrev pub cells_are_not_given_back_p : Program
cells_are_not_given_back_p = record { funcs = cells_are_not_given_back_f0 ∷ []; called = false ∷ []; uses = (record { 0 = 1 } ∷ record { 0 = 0 } ∷ record { 0 = 1 } ∷ record { 0 = 2 } ∷ []) ∷ [] }

abbrev pub cells_are_not_given_back_trace : List TraceEntry
cells_are_not_given_back_trace = record { task = []; action = act.Alloc 1 } ∷ record { task = []; action = act.Launch 0 } ∷ record { task = 2 ∷ []; action = act.Read (Made [] 1) 0 } ∷ record { task = 2 ∷ []; action = act.End true } ∷ record { task = []; action = act.Await (Token (2 ∷ [])) } ∷ record { task = []; action = act.End true } ∷ []

abbrev pub cells_are_not_given_back_comes : Type 0
cells_are_not_given_back_comes = metered cells_are_not_given_back_p 0 1000 40 (start cells_are_not_given_back_p 0 []) ≡ (8, Over (Done [] []) cells_are_not_given_back_trace)

-- ---- all

-- Each of these modules comes to what is said of it.
pub record WorkedModules : Type 0 where
  pub adds_forty_and_two : adds_forty_and_two_comes
  pub fuel_of_three_is_spent : fuel_of_three_is_spent_comes
  pub fuel_of_four_is_enough : fuel_of_four_is_enough_comes
  pub awaits_a_value : awaits_a_value_comes
  pub a_failed_dependency_ends_its_task : a_failed_dependency_ends_its_task_comes
  pub a_group_is_short : a_group_is_short_comes
  pub a_group_is_overfull : a_group_is_overfull_comes
  pub a_token_is_added_twice : a_token_is_added_twice_comes
  pub unordered_writes : unordered_writes_comes
  pub ordered_writes : ordered_writes_comes
  pub a_parallel_loop_fills_three_cells : a_parallel_loop_fills_three_cells_comes
  pub a_parallel_loop_of_no_turns : a_parallel_loop_of_no_turns_comes
  pub a_step_of_zero_fails : a_step_of_zero_fails_comes
  pub a_failure_fails_its_caller : a_failure_fails_its_caller_comes
  pub least_by_minus_one_fails : least_by_minus_one_fails_comes
  pub division_rounds_toward_zero : division_rounds_toward_zero_comes
  pub a_function_awaits_tokens : a_function_awaits_tokens_comes
  pub a_product_of_matrices : a_product_of_matrices_comes
  pub cells_run_out : cells_run_out_comes
  pub too_great_a_size_fails : too_great_a_size_fails_comes
  pub calls_without_end : calls_without_end_comes
  pub cells_are_not_given_back : cells_are_not_given_back_comes
