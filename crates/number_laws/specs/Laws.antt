-- What numbering the values of a module does.
use Rattle.std.specs.Prelude.{◌≡◌, ◌+◌, ℕ, zero, suc, List, [], ◌∷◌, Some, length, slice_get, unwrap_or}
use Rattle.std.specs.List.{All, Contains}
use Rattle.ir_forms.specs.declared.ops.Func.{Func}
use Rattle.ir_forms.specs.declared.ops.Module.{Module}
use Rattle.ir_verify.specs.Calls.{graph_of}
use Rattle.source_meaning.specs.Values.{maybe}
use Rattle.source_meaning.specs.Parts.{uses_of}
use Rattle.source_meaning.specs.Tasks.{Program}
use Rattle.source_meaning.specs.Sequential.{IsProgram}
use Rattle.source_meaning.specs.Renaming.{IsInjective, IsRenamed}
use Rattle.value_numbers.specs.Numbers.{values_of, defined_in, first_place, numbered_values, value_numbered, IsCountable}

-- ---- numbering is a renaming

-- a number's place, or one behind all places
abbrev pub total_place : List ℕ → ℕ → ℕ
total_place xs x = unwrap_or (first_place xs x) (length xs + x)

-- the numbers of the values that the function at this place defines
abbrev pub defined_at : List Func → ℕ → List ℕ
defined_at funcs k = maybe [] defined_in (slice_get funcs k)

-- the other names of each function's values
abbrev pub places_of : Module → ℕ → ℕ → ℕ
places_of program k = total_place (defined_at program.funcs k)

-- each operand is a value that the function defines
abbrev pub UsesOwn : Func → Type 0
UsesOwn f = All (λ v. Contains (defined_in f) v.0) (uses_of f)

-- the module with its values numbered is the module with its values renamed
pub record IsRenaming (program : Module) : Type 0 where
  pub injective : IsInjective (places_of program)
  pub graph : graph_of (value_numbered program).funcs ≡ graph_of program.funcs
  pub renamed : (p q : Program) → IsProgram program p → IsProgram (value_numbered program) q → IsRenamed (places_of program) p q

abbrev pub NumberingIsARenaming : Type 0
NumberingIsARenaming = (program : Module) → All UsesOwn program.funcs → IsRenaming program

-- ---- the numbers

-- no number stands at two places
abbrev pub IsDistinct : List ℕ → Type 0
IsDistinct xs = (i j x : ℕ) → slice_get xs i ≡ Some x → slice_get xs j ≡ Some x → i ≡ j

-- as many numbers, from this one on
abbrev pub numbers_from : ℕ → ℕ → List ℕ
numbers_from n zero = []
numbers_from n (suc k) = n ∷ numbers_from (n + 1) k

-- where no value is defined twice, the values are numbered from 0 on in the order of the text
abbrev pub ValuesInOrder : Type 0
ValuesInOrder = (f : Func) → IsDistinct (defined_in f) → defined_in (numbered_values f) ≡ numbers_from 0 (length (values_of f))

-- numbering twice is numbering once
abbrev pub NumberedOnce : Type 0
NumberedOnce = (program : Module) → IsCountable program → value_numbered (value_numbered program) ≡ value_numbered program
