-- Registers, their types, and the functions and blocks that code names.
use Rattle.std.specs.Prelude.{ℕ, ◌&&◌, Bool, true, false, List, [], ◌∷◌, Option, Some, None, slice_get}
use Rattle.ir_forms.specs.declared.types.Ty.{Ty}
use Rattle.ir_verify.specs.Types.{same_type, holds}
use Rattle.low_forms.specs.declared.code.Reg.{Reg}
use Rattle.low_forms.specs.declared.code.BlockNo.{BlockNo}
use Rattle.low_forms.specs.declared.code.LowAttr.{LowAttr}
use Rattle.low_forms.specs.declared.code.LowAttr.TheVariants.{Callee}
use Rattle.low_forms.specs.declared.code.Block.{Block}
use Rattle.low_forms.specs.declared.code.LowFunc.{LowFunc}
use Rattle.low_forms.specs.declared.code.LowModule.{LowModule}

-- the test passes for each element
abbrev pub every : {A : Type 0} → (A → Bool) → List A → Bool
every p [] = true
every p (x ∷ xs) = p x && every p xs

-- the type of a register, if it is there
abbrev pub reg_type : LowFunc → Reg → Option Ty
reg_type f r = slice_get f.regs r.0

-- the type of the k-th of these registers
abbrev pub type_of : LowFunc → Option Reg → Option Ty
type_of f None = None
type_of f (Some r) = reg_type f r

abbrev pub type_at : LowFunc → List Reg → ℕ → Option Ty
type_at f rs k = type_of f (slice_get rs k)

-- there is a type, and it passes the test
abbrev pub on_type : (Ty → Bool) → Option Ty → Bool
on_type p None = false
on_type p (Some t) = p t

abbrev pub on_types : (Ty → Ty → Bool) → Option Ty → Option Ty → Bool
on_types p None u = false
on_types p (Some t) u = on_type (p t) u

-- the registers of a function have the types of those of another, one by one
abbrev pub like_types : LowFunc → List Reg → LowFunc → List Reg → Bool
like_types f [] g [] = true
like_types f [] g (s ∷ ss) = false
like_types f (r ∷ rs) g [] = false
like_types f (r ∷ rs) g (s ∷ ss) = on_types same_type (reg_type g s) (reg_type f r) && like_types f rs g ss

-- the registers have these types
abbrev pub have_types : LowFunc → List Reg → List Ty → Bool
have_types f [] [] = true
have_types f [] (t ∷ ts) = false
have_types f (r ∷ rs) [] = false
have_types f (r ∷ rs) (t ∷ ts) = on_type (same_type t) (reg_type f r) && have_types f rs ts

-- the registers are values that hold these types
abbrev pub hold_types : LowFunc → List Reg → List Ty → Bool
hold_types f [] [] = true
hold_types f [] (t ∷ ts) = false
hold_types f (r ∷ rs) [] = false
hold_types f (r ∷ rs) (t ∷ ts) = on_types holds (reg_type f r) (Some t) && hold_types f rs ts

-- the function that an instruction names
abbrev pub callee : LowModule → LowAttr → Option LowFunc
callee code (Callee f) = slice_get code.funcs f.0
callee code _ = None

abbrev pub block_at : LowFunc → BlockNo → Option Block
block_at f b = slice_get f.blocks b.0
