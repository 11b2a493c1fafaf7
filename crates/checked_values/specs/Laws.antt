-- What the pass of checks keeps of a module's values.
use Rattle.std.specs.Prelude.{◌≡◌, length}
use Rattle.std.specs.List.{All}
use Rattle.ir_forms.specs.declared.ops.Func.{Func}
use Rattle.ir_forms.specs.declared.ops.Module.{Module}
use Rattle.ir_verify.specs.Verdict.{IsSound}
use Rattle.number_laws.specs.Laws.{IsDistinct, numbers_from}
use Rattle.value_numbers.specs.Numbers.{defined_in, value_numbered, values_of}
use Rattle.check_insert.specs.Shape.{checked}

-- no value is defined twice
abbrev pub DefinesOnce : Func → Type 0
DefinesOnce f = IsDistinct (defined_in f)

-- the values are numbered from 0 on in the order of the text
abbrev pub IsInOrder : Func → Type 0
IsInOrder f = defined_in f ≡ numbers_from 0 (length (values_of f))

-- where a sound module defines no value twice, with its checks it defines none twice, and its values are numbered by their places
abbrev pub CheckedInOrder : Type 0
CheckedInOrder = (program : Module) → IsSound program.funcs → All DefinesOnce program.funcs → All DefinesOnce (checked program).funcs × All IsInOrder (value_numbered (checked program)).funcs
