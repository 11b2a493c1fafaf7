-- The laws of the count equation.
use Rattle.std.specs.Prelude.{◌≡◌, ◌≤◌, ◌⊎◌, ℕ, true, List, [], ◌∷◌, Option, Some, slice_get}
use Rattle.ir_forms.specs.declared.args.ArgValue.{ArgValue}
use Rattle.ir_forms.specs.declared.runs.FuncNo.{FuncNo}
use Rattle.ir_forms.specs.declared.runs.ObjNo.{ObjNo}
use Rattle.low_forms.specs.declared.code.LowFunc.{LowFunc}
use Rattle.low_forms.specs.declared.code.LowModule.{LowModule}
use Rattle.async_objects.specs.Objects.{object_at}
use Rattle.async_objects.specs.Counts.{count_at}
use Rattle.task_stack.specs.declared.frames.Saved.TheVariants.{Nothing}
use Rattle.task_stack.specs.Registers.{held}
use Rattle.task_stack.specs.Frames.{Stack}
use Rattle.own_tables.specs.declared.table.OwnTable.{OwnTable}
use Rattle.own_tables.specs.Owns.{Fits}
use Rattle.step_core.specs.declared.tasks.Task.{Task}
use Rattle.step_core.specs.State.{ready}
use Rattle.step_core.specs.Plain.{object_in}
use Rattle.step_core.specs.Core.{Core, all_there, own_count, start}
use Rattle.step_core.specs.Runs.{step, run, IsFinished}
use Rattle.count_equation.specs.Equation.{CountEquation, Holds, at_place, task_owns}
use Rattle.count_equation.specs.Covers.{Covers, Branches, ParamsOnce}

-- at the start no object is there
abbrev pub StartsEqual : Type 0
StartsEqual =
    (code : LowModule) (table : OwnTable) (n : FuncNo) (f : LowFunc) (args : List ArgValue) → slice_get code.funcs n.0 ≡ Some f → Holds code table (start n f args)

-- a step at a covered row
abbrev pub CoveredKeeps : Type 0
CoveredKeeps =
    (code : LowModule) (table : OwnTable) → Fits code table → (c next : Core) (t : ℕ) → Holds code table c → Covers code c t → step code t c ≡ Some next → Holds code table next

-- a branch, where no block has two parameters in one register
abbrev pub BranchesKeep : Type 0
BranchesKeep =
    (code : LowModule) (table : OwnTable) → Fits code table → ParamsOnce code → (c next : Core) (t : ℕ) → Holds code table c → Branches code c t → step code t c ≡ Some next → Holds code table next

-- each step of the run is at a covered row, or is a branch
abbrev pub AllCovered : LowModule → List ℕ → Core → Type 0
AllCovered code [] c = Unit {0}
AllCovered code (t ∷ ts) c = (Covers code c t ⊎ Branches code c t) × ((next : Core) → step code t c ≡ Some next → AllCovered code ts next)

abbrev pub CoveredRunsKeep : Type 0
CoveredRunsKeep =
    (code : LowModule) (table : OwnTable) → Fits code table → ParamsOnce code → (ts : List ℕ) (c last : Core) → Holds code table c → AllCovered code ts c → run code ts c ≡ Some last → Holds code table last

-- ---- what follows, in any state in which the equation holds

-- an object of which a working frame owns a reference is there
abbrev pub OwnedIsThere : Type 0
OwnedIsThere =
    (code : LowModule) (table : OwnTable) (c : Core) → CountEquation code table c → (t : ℕ) (stack : Stack) → slice_get c.plain.tasks t ≡ Some (Some (ready stack)) → stack.top.saved ≡ Nothing
    → (r : ℕ) → 1 ≤ at_place code table stack.top.current.place r → all_there (object_in (held stack.top.current.regs r)) c.counts ≡ true

-- of an object that isn't there no task owns a reference, and it keeps none
abbrev pub GoneIsUnowned : Type 0
GoneIsUnowned =
    (code : LowModule) (table : OwnTable) (c : Core) → CountEquation code table c → (o : ObjNo) → count_at c.counts o.0 ≡ 0
    → ((t : ℕ) (task : Option Task) → slice_get c.plain.tasks t ≡ Some task → task_owns code table o.0 task ≡ 0) × (own_count (object_at c.plain.objects o) ≡ 0)

-- where a run is finished, no object is there but such as keep themselves: what isn't set, and groups that wait for elements
abbrev pub NoneIsLeft : Type 0
NoneIsLeft =
    (code : LowModule) (table : OwnTable) (c : Core) → CountEquation code table c → IsFinished c → (o : ObjNo) → own_count (object_at c.plain.objects o) ≡ 0 → count_at c.counts o.0 ≡ 0
