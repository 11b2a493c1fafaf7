-- The registers that the pass makes, numbered behind a function's own, and their types.
use Rattle.std.specs.Prelude.{ℕ, ◌+◌, ◌*◌, cond, List, [], ◌∷◌, ◌++◌, map, length}
use Rattle.int_ops.specs.declared.Width.TheVariants.{W1}
use Rattle.ir_forms.specs.declared.types.Ty.{Ty}
use Rattle.ir_forms.specs.declared.types.Ty.TheVariants as ty
use Rattle.ir_forms.specs.declared.types.ValTy.TheVariants as held
use Rattle.low_forms.specs.declared.code.Reg.{Reg}
use Rattle.low_forms.specs.declared.code.LowFunc.{LowFunc}

abbrev pub reg : ℕ → Reg
reg n = record { 0 = n }

-- whether what the block awaits is in error
abbrev pub flag : LowFunc → ℕ → Reg
flag f k = reg (length f.regs + k)

-- the state that the block saves
abbrev pub saved : LowFunc → ℕ → Reg
saved f k = reg (length f.regs + length f.blocks + k)

-- the token of a coroutine is made first, and its values from 1 on
abbrev pub made : LowFunc → ℕ → Reg
made f j = reg (length f.regs + 2 * length f.blocks + j)

abbrev pub token : LowFunc → Reg
token f = made f 0

abbrev pub identity : LowFunc → Reg
identity f = made f (length f.results + 1)

abbrev pub handle : LowFunc → Reg
handle f = made f (length f.results + 2)

-- the state that the entry saves
abbrev pub first_saved : LowFunc → Reg
first_saved f = made f (length f.results + 3)

abbrev pub made_from : LowFunc → ℕ → List Ty → List Reg
made_from f j [] = []
made_from f j (t ∷ types) = made f j ∷ made_from f (j + 1) types

abbrev pub values : LowFunc → List Reg
values f = made_from f 1 f.results

-- ---- types

-- a value that holds this; some types can't be held
abbrev pub value_type : Ty → Ty
value_type (ty.Int w) = ty.Value (held.Int w)
value_type ty.Index = ty.Value held.Index
value_type (ty.Memref m) = ty.Value (held.Memref m)
value_type _ = ty.Untyped

-- what a coroutine gives: its token, and a value for each type
abbrev pub object_types : List Ty → List Ty
object_types types = ty.Token ∷ map value_type types

abbrev pub coroutine_types : LowFunc → List Ty
coroutine_types f = map (λ b. ty.CoroState) f.blocks ++ object_types f.results ++ (ty.CoroId ∷ ty.CoroHandle ∷ ty.CoroState ∷ [])

abbrev pub reg_types : LowFunc → List Ty
reg_types f = f.regs ++ map (λ b. ty.Int W1) f.blocks ++ cond f.coroutine (coroutine_types f) []
