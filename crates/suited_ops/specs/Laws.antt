-- Operations of verified modules are suited to be laid out.
use Rattle.std.specs.Prelude.{◌≡◌, ◌<◌, ◌^◌, ℕ, false, List, [], length, Some, slice_get}
use Rattle.op_table.specs.declared.form.Form.{Form}
use Rattle.op_table.specs.declared.form.Form.TheVariants.{Execute, AddToGroup, Parallel, Reduce, TaskYield}
use Rattle.ir_forms.specs.declared.ops.Func.{Func}
use Rattle.ir_forms.specs.declared.ops.Module.{Module}
use Rattle.ir_forms.specs.Ops.{kind_of, ops_of}
use Rattle.ir_verify.specs.Breaks.{number_of}
use Rattle.ir_verify.specs.Forms.{form}
use Rattle.ir_verify.specs.Names.{first_named}
use Rattle.ir_verify.specs.Places.{Spot}
use Rattle.ir_verify.specs.Verdict.{IsSound, body_places}
use Rattle.mlir_print.specs.Printable.{HasForm}
use Rattle.source_meaning.specs.TaskOrder.{Each}
use Rattle.source_meaning.specs.Tasks.{Program}
use Rattle.scf_blocks.specs.Lowered.{lowered}
use Rattle.block_carry.specs.Laid.{AreLaid}
use Rattle.checked_values.specs.Laws.{DefinesOnce}
use Rattle.check_laws.specs.Laws.{HasNoBodyParams}
use Rattle.laid_ops.specs.Suited.{with_known, IsSuited}

-- no launch, add to a group or parallel loop, and no end of their regions
abbrev pub IsCovered : Form → Type 0
IsCovered Execute = ⊥
IsCovered TaskYield = ⊥
IsCovered AddToGroup = ⊥
IsCovered Parallel = ⊥
IsCovered Reduce = ⊥
IsCovered _ = Unit {0}

-- an operation that is covered, as the reader gives it: it has the form of its kind, and a number of 32 bits
pub record IsRead (s : Spot) : Type 0 where
  pub parts : HasForm (kind_of s.place.op) s.place.op
  pub small : number_of s.place.op < 2 ^ 32
  pub covered : IsCovered (form s.place.op)

-- functions that have names keep their places
abbrev pub KeepPlaces : List Func → List Func → Type 0
KeepPlaces from to = (name : List ℕ) (g : ℕ) → first_named from name ≡ Some g → first_named to name ≡ Some g

abbrev pub SoundIsSuited : Type 0
SoundIsSuited = (from to : List Func) (k : ℕ) (f : Func) → IsSound from → slice_get from k ≡ Some f → DefinesOnce f → HasNoBodyParams f → Each IsRead (body_places from f false) → KeepPlaces from to →
    IsSuited from to false (length f.results) (with_known f.params []) (ops_of f.body)

-- The operations of each function are covered, as the reader gives them.
abbrev pub AreRead : List Func → Type 0
AreRead funcs = (k : ℕ) (f : Func) → slice_get funcs k ≡ Some f → Each IsRead (body_places funcs f false)

-- such a module is laid out in its code of blocks
abbrev pub SoundIsLaid : Type 0
SoundIsLaid = (p : Program) (program : Module) → p.funcs ≡ program.funcs → IsSound program.funcs → Each DefinesOnce program.funcs → Each HasNoBodyParams program.funcs → AreRead program.funcs → AreLaid p (lowered program)
