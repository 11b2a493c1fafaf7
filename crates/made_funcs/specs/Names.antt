-- The names of functions that a pass makes.
use Rattle.std.specs.Prelude.{ℕ, zero, suc, cond, Bool, List, ◌++◌, length, codes, decimal}
use Rattle.std.specs.Option.{is_some}
use Rattle.ir_forms.specs.declared.ops.Func.{Func}
use Rattle.ir_verify.specs.Names.{first_named}

abbrev pub is_taken : List Func → List ℕ → Bool
is_taken funcs name = is_some (first_named funcs name)

-- a name behind which `_` stands as often as it takes to be free; as many functions take no more names than so many
abbrev pub free_name : List Func → ℕ → List ℕ → List ℕ
free_name funcs zero name = name
free_name funcs (suc n) name = cond (is_taken funcs name) (free_name funcs n (name ++ codes "_")) name

-- the name of a made function: what it begins with, and its number
abbrev pub made_name : List Func → List ℕ → ℕ → List ℕ
made_name funcs front k = free_name funcs (length funcs) (front ++ decimal k)
