-- What the checks before operations change in a module's runs: nothing.
use Rattle.std.specs.Prelude.{◌≡◌, ◌<◌, ℕ, List, [], ◌∷◌, ◌++◌, Some, slice_get, ⊤}
use Rattle.ir_forms.specs.declared.args.ArgValue.{ArgValue}
use Rattle.ir_forms.specs.declared.ops.Func.{Func}
use Rattle.ir_forms.specs.declared.ops.Op.{Op, out-Op, roll-Op}
use Rattle.ir_forms.specs.declared.ops.Region.{Region}
use Rattle.ir_forms.specs.declared.ops.Module.{Module}
use Rattle.ir_verify.specs.Calls.{graph_of}
use Rattle.ir_verify.specs.Forms.{form}
use Rattle.ir_verify.specs.Places.{params_of}
use Rattle.ir_verify.specs.Verdict.{IsSound}
use Rattle.source_meaning.specs.Values.{Env, values_at}
use Rattle.source_meaning.specs.Parts.{Node, uses_of}
use Rattle.source_meaning.specs.Tasks.{Program, Pending, Task}
use Rattle.source_meaning.specs.Sequential.{IsProgram}
use Rattle.source_meaning.specs.Steps.{operands}
use Rattle.source_meaning.specs.TaskOrder.{Each}
use Rattle.carry_laws.specs.Agreement.{IsTaskOf}
use Rattle.carry_laws.specs.Instances.{HaveSameRuns}
use Rattle.typed_laws.specs.Ranges.{ArgInRange}
use Rattle.typed_laws.specs.Typed.{ArgsFit, AreElements}
use Rattle.check_insert.specs.Shape.{checked, first_free, guard_of, insertion}
use Rattle.checked_values.specs.Laws.{DefinesOnce}
use Rattle.value_numbers.specs.Numbers.{value_numbered}
use Rattle.check_laws.specs.Fits.{Fits, HasRank, HasSmallTypes, ValuesFit, RanksFit}
use Rattle.check_laws.specs.Silent.{IsSafe}

-- no operand of a function is the number of a value that is made in it
abbrev pub ReadsBelow : Func → Type 0
ReadsBelow f = Each (λ v. v.0 < first_free f) (uses_of f)

-- so it is in a sound module
abbrev pub SoundReadsBelow : Type 0
SoundReadsBelow = (funcs : List Func) → IsSound funcs → Each ReadsBelow funcs

-- the checks are no calls
abbrev pub ChecksCallNothing : Type 0
ChecksCallNothing = (program : Module) → Each ReadsBelow program.funcs → Each HasSmallTypes program.funcs → graph_of (checked program).funcs ≡ graph_of program.funcs

-- Where the values fit, the sequential runs and the runs in any order of tasks are the same with the checks.
abbrev pub ChecksChangeNoRun : Type 0
ChecksChangeNoRun = (program : Module) (p q : Program) (entry : ℕ) (args : List ArgValue) → Each ReadsBelow program.funcs → Each HasSmallTypes program.funcs → IsProgram program p → IsProgram (checked program) q →
    ValuesFit p entry args → HaveSameRuns program (checked program) p q entry args

-- A sound module, and what the pass makes of it: the same with checks, its values numbered by their places. With arguments of
-- 64 bits the runs are the same, where the buffers of accesses have the ranks of their types.
abbrev pub PassChangesNoRun : Type 0
PassChangesNoRun = (program : Module) (p q : Program) (entry : ℕ) (args : List ArgValue) → IsSound program.funcs → Each HasSmallTypes program.funcs → IsProgram program p → IsProgram (value_numbered (checked program)) q →
    Each ArgInRange args → RanksFit p entry args → HaveSameRuns program (value_numbered (checked program)) p q entry args

-- a function's body has no parameters: they are the function's
abbrev pub HasNoBodyParams : Func → Type 0
HasNoBodyParams f = params_of f.body ≡ []

-- A sound module of the form that is read: no function defines a value twice or has parameters in its body. Its types are small.
pub record IsWellFormed (funcs : List Func) : Type 0 where
  pub sound : IsSound funcs
  pub once : Each DefinesOnce funcs
  pub bodies : Each HasNoBodyParams funcs
  pub types : Each HasSmallTypes funcs

-- arguments for the function at this place, whose numbers have 64 bits
pub record AreArguments (funcs : List Func) (entry : ℕ) (args : List ArgValue) : Type 0 where
  pub func : Func
  pub found : slice_get funcs entry ≡ Some func
  pub fit : ArgsFit func.params args
  pub range : Each ArgInRange args

-- In such a module the buffers of accesses have the ranks of their types.
abbrev pub TypesMakeRanks : Type 0
TypesMakeRanks = (program : Module) (p : Program) (entry : ℕ) (args : List ArgValue) → IsWellFormed program.funcs → IsProgram program p → AreArguments program.funcs entry args → RanksFit p entry args

-- So what the pass makes of it has its runs, with all such arguments.
abbrev pub PassKeepsRuns : Type 0
PassKeepsRuns = (program : Module) (p q : Program) (entry : ℕ) (args : List ArgValue) → IsWellFormed program.funcs → IsProgram program p → IsProgram (value_numbered (checked program)) q →
    AreArguments program.funcs entry args → HaveSameRuns program (value_numbered (checked program)) p q entry args

-- where the operations left are an insertion and the operation that it is for, the values fit that operation
abbrev pub FitsAhead : Program → ℕ → List ArgValue → Type 0
FitsAhead q entry args = (u : Task) → IsTaskOf q entry args u → (o : Node) (free : ℕ) (rs : List Region) (rest : List Op) → u.pending ≡ [] →
    u.rest ≡ (insertion o free).ops ++ roll-Op (record o { regions = rs }) ∷ rest → Fits (guard_of o.kind) o (operands u o)

-- where they are so, the buffer of that operation has as many dimensions as its written type
abbrev pub RanksAhead : Program → ℕ → List ArgValue → Type 0
RanksAhead q entry args = (u : Task) → IsTaskOf q entry args u → (o : Node) (free : ℕ) (rs : List Region) (rest : List Op) → u.pending ≡ [] →
    u.rest ≡ (insertion o free).ops ++ roll-Op (record o { regions = rs }) ∷ rest → HasRank (guard_of o.kind) o (operands u o)

-- In a module with checks each operation that a task of a run begins has a result, with arguments of 64 bits and buffers of
-- such ranks: what fails by itself is an assertion, an await, or what isn't a token.
abbrev pub OperationsHaveResults : Type 0
OperationsHaveResults = (program : Module) (q : Program) (entry : ℕ) (args : List ArgValue) → IsSound program.funcs → Each HasSmallTypes program.funcs → IsProgram (checked program) q →
    Each ArgInRange args → RanksAhead q entry args → (u : Task) → IsTaskOf q entry args u → IsSafe u

-- In the runs of such a module with its checks each operation that a task begins has a result, with all such arguments: what
-- fails by itself is an assertion, an await, or what isn't a token.
abbrev pub CheckedHasResults : Type 0
CheckedHasResults = (program : Module) (q : Program) (entry : ℕ) (args : List ArgValue) → IsWellFormed program.funcs → IsProgram (checked program) q → AreArguments program.funcs entry args →
    (u : Task) → IsTaskOf q entry args u → IsSafe u

-- And so it is in the runs of what the pass makes of it.
abbrev pub PassHasResults : Type 0
PassHasResults = (program : Module) (q : Program) (entry : ℕ) (args : List ArgValue) → IsWellFormed program.funcs → IsProgram (value_numbered (checked program)) q → AreArguments program.funcs entry args →
    (u : Task) → IsTaskOf q entry args u → IsSafe u

-- what the operation that a task begins awaits, adds to a group or launches a task with are tokens and values of tasks
abbrev pub ElementsAt : List Pending → List Op → Env → Type 0
ElementsAt [] (o ∷ rest) env = AreElements (form o) (out-Op o) (values_at env (out-Op o).operands)
ElementsAt _ _ env = ⊤

abbrev pub HasElements : Task → Type 0
HasElements t = ElementsAt t.pending t.rest t.scope.env

-- There each operation that a task begins has such operands too: none fails for want of a token.
abbrev pub PassHasElements : Type 0
PassHasElements = (program : Module) (q : Program) (entry : ℕ) (args : List ArgValue) → IsWellFormed program.funcs → IsProgram (value_numbered (checked program)) q → AreArguments program.funcs entry args →
    (u : Task) → IsTaskOf q entry args u → HasElements u
