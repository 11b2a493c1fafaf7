-- The runs of a module with checks, where a task is stuck before an operation that has no result or lacks a token. Code that is
-- made of such a module may do anything there.
use Rattle.std.specs.Prelude.{ℕ, cond, Bool, true, false, List, [], ◌∷◌}
use Rattle.std.specs.Option.{is_some}
use Rattle.op_table.specs.declared.form.Form.{Form}
use Rattle.op_table.specs.declared.form.Form.TheVariants.{Execute, Await, AddToGroup}
use Rattle.ir_forms.specs.declared.args.ArgValue.{ArgValue}
use Rattle.ir_forms.specs.declared.names.TraceEntry.{TraceEntry}
use Rattle.ir_forms.specs.declared.ops.Op.{Op, out-Op}
use Rattle.ir_verify.specs.Forms.{form}
use Rattle.machines.specs.Machine.{Machine}
use Rattle.machines.specs.Strict.{Strictly}
use Rattle.source_machine.specs.Source.{source}
use Rattle.source_meaning.specs.declared.ends.SourceEnd.{SourceEnd}
use Rattle.source_meaning.specs.declared.values.Val.{Val}
use Rattle.source_meaning.specs.Values.{Env, maybe, element_in, values_at}
use Rattle.source_meaning.specs.Parts.{Node}
use Rattle.source_meaning.specs.Steps.{value, group}
use Rattle.source_meaning.specs.Tasks.{Program, Pending, Task}
use Rattle.source_meaning.specs.TaskOrder.{task_at}
use Rattle.source_meaning.specs.World.{all_of}
use Rattle.check_laws.specs.Fits.{has_result}

-- a token or a value of a task
abbrev pub is_element : Val → Bool
is_element v = is_some (element_in v)

-- what an operation awaits, adds to a group or launches a task with are such values
abbrev pub has_elements : Form → Node → List Val → Bool
has_elements Execute o vs = cond (all_of is_element (group o vs 0)) (all_of is_element (group o vs 1)) false
has_elements Await o vs = is_element (value vs 0)
has_elements AddToGroup o vs = is_element (value vs 0)
has_elements _ o vs = true

-- the operation that a task begins has a result and its tokens, where it begins one
abbrev pub can_begin : List Pending → List Op → Env → Bool
can_begin [] (o ∷ rest) env =
    cond (has_result (out-Op o).kind (out-Op o) (values_at env (out-Op o).operands)) (has_elements (form o) (out-Op o) (values_at env (out-Op o).operands)) false
can_begin _ _ env = true

abbrev pub can_step : Task → Bool
can_step t = can_begin t.pending t.rest t.scope.env

-- The function at this place with these arguments, stuck there.
abbrev pub strict_source : Program → ℕ → List ArgValue → Machine TraceEntry SourceEnd
strict_source p entry args = Strictly (source p entry args) (λ s q. maybe true (λ l. can_step l.task) (task_at s q))
