-- The steps of which the code makes an act.
use Rattle.std.specs.Prelude.{List, [], ◌∷◌, ◌++◌, take, Option, Some, None}
use Rattle.op_table.specs.declared.kind.OpKind.{OpKind}
use Rattle.ir_forms.specs.declared.types.Ty.{Ty}
use Rattle.ir_forms.specs.declared.ops.ValueNo.{ValueNo}
use Rattle.ir_forms.specs.declared.ops.Op.{Op, roll-Op}
use Rattle.ir_forms.specs.declared.ops.Region.{roll-Region}
use Rattle.ir_forms.specs.declared.ops.Func.{Func}
use Rattle.module_grammar.specs.declared.state.OpenOp.{OpenOp}
use Rattle.module_grammar.specs.declared.state.OpenBody.{OpenBody}
use Rattle.module_grammar.specs.declared.state.Outer.{Outer}
use Rattle.module_grammar.specs.declared.state.OpenFunc.{OpenFunc}
use Rattle.module_grammar.specs.declared.state.State.{State}
use Rattle.module_grammar.specs.State.{no_op, body_ops, left_out, with_made, begun_with, region_of}

-- the operation with these results
abbrev pub closed_op : OpenOp → List ValueNo → Op
closed_op o results = roll-Op (record {
  kind = o.kind;
  at = o.at;
  operands = o.operands;
  groups = o.groups;
  written = o.written;
  results = results;
  types = o.types;
  attr = o.attr;
  regions = o.regions;
})

-- the names of the open operation's results are visible
abbrev pub results_shown : State → State
results_shown s = record s { op = record (s.op) { results = [] }; visible = s.visible ++ s.op.results }

-- the open operation, with these results, has joined its body
abbrev pub op_joined : List ValueNo → State → State
op_joined values s = record s {
  body = record (s.body) { ops = s.body.ops ++ closed_op s.op values ∷ [] };
  op = no_op 0;
}

abbrev pub func_of : OpenFunc → List (ValueNo × Ty) → List Op → Func
func_of f params ops = record {
  name = f.name;
  params = params;
  results = f.results;
  body = roll-Region (record { params = []; ops = ops });
  at = f.at;
}

-- back in the operation in which the region stands
abbrev pub gone_out : Outer → State → State
gone_out o s = record s { body = o.body; op = o.op; visible = take s.body.outside s.visible }

-- the terminator that these operations leave out, in a region of the open operation
abbrev pub missing : State → List Op → Option OpKind
missing s ops = left_out s.op.kind s.op.types (body_ops s.op.kind ops)

abbrev pub ops_ended : State → List Op → List Op
ops_ended s ops = with_made (body_ops s.op.kind ops) (missing s ops) s.begun

abbrev pub terminator_counted : List Op → State → State
terminator_counted ops s = record s { begun = begun_with (missing s ops) s.begun }

-- the body has joined the open operation
abbrev pub region_joined : OpenBody → State → State
region_joined b s = record s {
  op = record (s.op) { regions = s.op.regions ++ region_of b (ops_ended s b.ops) ∷ [] };
  begun = begun_with (missing s b.ops) s.begun;
}

abbrev pub option_list : {A : Type 0} → Option A → List A
option_list None = []
option_list (Some x) = x ∷ []
