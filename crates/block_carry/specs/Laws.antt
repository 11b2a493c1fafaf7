-- The laws.
use Rattle.std.specs.Prelude.{◌≡◌, ◌≤◌, ℕ, List, map, length, [], Some, slice_get}
use Rattle.ir_forms.specs.declared.args.ArgValue.{ArgValue}
use Rattle.ir_forms.specs.declared.args.ArgValue.TheVariants as arg
use Rattle.ir_forms.specs.declared.ops.Func.{Func}
use Rattle.ir_forms.specs.Shapes.{product}
use Rattle.low_forms.specs.declared.code.LowFunc.{LowFunc}
use Rattle.low_forms.specs.declared.code.LowModule.{LowModule}
use Rattle.source_meaning.specs.Start.{root_task}
use Rattle.source_meaning.specs.Steps.{next}
use Rattle.source_meaning.specs.TaskOrder.{Each}
use Rattle.source_meaning.specs.Tasks.{Program, Task}
use Rattle.task_stack.specs.Frames.{Stack, root_stack}
use Rattle.step_core.specs.State.{argument_vals, argument_cells}
use Rattle.code_machines.specs.Paths.{paths}
use Rattle.block_carry.specs.Same.{Known, Later}
use Rattle.block_carry.specs.Laid.{AreLaid}
use Rattle.block_carry.specs.Stands.{Stands}
use Rattle.block_carry.specs.Follows.{IsReady, Comes}

-- From where a stack stands its steps lead to where it does what the task does next.
abbrev pub CodeFollows : Type 0
CodeFollows = (p : Program) (code : LowModule) → AreLaid p code → (k : Known) (t : Task) (s : Stack) → Stands p code k t s → IsReady t → Comes p code k s (next p t)

-- where a stack stands it still does when more is known
abbrev pub StandsLater : Type 0
StandsLater = (p : Program) (code : LowModule) (k after : Known) (t : Task) (s : Stack) → Later k after → Stands p code k t s → Stands p code after t s

-- what is known at the start
abbrev pub first_known : List ArgValue → Known
first_known args = record { names = (paths args).first; refs = []; cells = map length (argument_cells args) }

-- a buffer has the cells that its dimensions say, of which there are at most four
abbrev pub IsWhole : ArgValue → Type 0
IsWhole (arg.Number n) = Unit {0}
IsWhole (arg.Cells dims cells) = (length cells ≡ product dims) × (length dims ≤ 4)

-- at the start the root's stack stands where the root does
abbrev pub RootStands : Type 0
RootStands = (p : Program) (code : LowModule) → AreLaid p code → (entry : ℕ) (func : Func) (f : LowFunc) (args : List ArgValue) →
    slice_get p.funcs entry ≡ Some func → slice_get code.funcs entry ≡ Some f → length func.params ≡ length args → Each IsWhole args →
    Stands p code (first_known args) (root_task p entry args) (root_stack (record { 0 = entry }) f (argument_vals 0 args))
