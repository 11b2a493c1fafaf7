-- The names that a function sees, and the code of which each name has a number.
use Rattle.std.specs.Prelude.{◌≡◌, ◌≤◌, ◌^◌, ℕ, nat_le, Bool, true, false, ◌&&◌, List, length, map, Option, Some, None}
use Rattle.low_forms.specs.declared.code.LowFunc.{LowFunc}
use Rattle.low_forms.specs.declared.code.LowModule.{LowModule}
use Rattle.low_forms.specs.Registers.{every}
use Rattle.low_grammar.specs.declared.named.NamedFunc.{NamedFunc}
use Rattle.low_names.specs.Numbers.{Scope, register_names, labels, func_of, code_of}
use Rattle.low_parse.specs.declared.numbers.Seen.{Seen}

abbrev pub scope : Seen → Scope
scope s = record { funcs = s.funcs.now; blocks = s.blocks.now; registers = s.registers.now }

-- each name has a number of its own
pub record IsFew (s : Seen) : Type 0 where
  pub funcs : length s.funcs.now ≤ 2 ^ 32
  pub blocks : length s.blocks.now ≤ 2 ^ 32
  pub registers : length s.registers.now ≤ 2 ^ 32

-- there are numbers for the blocks and the registers of the function
abbrev pub has_numbers : NamedFunc → Bool
has_numbers f = nat_le (length (labels f.blocks)) 4294967296 && nat_le (length (register_names f)) 4294967296

-- there are numbers for all functions, blocks and registers
abbrev pub have_numbers : List NamedFunc → Bool
have_numbers fs = nat_le (length fs) 4294967296 && every has_numbers fs

abbrev pub IsFuncOf : List (List ℕ) → NamedFunc → Option LowFunc → Type 0
IsFuncOf names f (Some made) = (has_numbers f ≡ true) × (made ≡ func_of names f)
IsFuncOf names f None = has_numbers f ≡ false

abbrev pub AreFuncsOf : List (List ℕ) → List NamedFunc → Option (List LowFunc) → Type 0
AreFuncsOf names fs (Some made) = (every has_numbers fs ≡ true) × (made ≡ map (func_of names) fs)
AreFuncsOf names fs None = every has_numbers fs ≡ false

-- the code that the functions stand for, where there are numbers for all
abbrev pub IsCode : List NamedFunc → Option LowModule → Type 0
IsCode fs (Some code) = (have_numbers fs ≡ true) × (code ≡ code_of fs)
IsCode fs None = have_numbers fs ≡ false
