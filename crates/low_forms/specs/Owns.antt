-- What instructions do to the references that a frame owns.
use Rattle.std.specs.Prelude.{ℕ, zero, suc, Option, Some, None, ◌||◌, if◌then◌else◌, Bool, List, [], ◌∷◌, ◌++◌, take}
use Rattle.ir_forms.specs.declared.types.Ty.{Ty}
use Rattle.ir_verify.specs.Types.{is_awaitable, is_group}
use Rattle.low_forms.specs.declared.code.Reg.{Reg}
use Rattle.low_forms.specs.declared.code.LowAttr.{LowAttr}
use Rattle.low_forms.specs.declared.code.LowAttr.TheVariants.{Count}
use Rattle.low_forms.specs.declared.code.Instr.{Instr}
use Rattle.low_forms.specs.declared.code.Target.{Target}
use Rattle.low_forms.specs.declared.code.Term.{Term}
use Rattle.low_forms.specs.declared.code.Block.{Block}
use Rattle.low_forms.specs.declared.code.LowFunc.{LowFunc}
use Rattle.low_forms.specs.declared.row.Change.{Change}
use Rattle.low_forms.specs.declared.row.Change.TheVariants as change
use Rattle.low_forms.specs.Rows.{row_of}
use Rattle.low_forms.specs.Registers.{reg_type, on_type, block_at}
use Rattle.low_forms.specs.Assigned.{numbers}

abbrev pub is_object : Ty → Bool
is_object t = is_awaitable t || is_group t

-- those of the registers that hold references, each as often as it stands there
abbrev pub references : LowFunc → List Reg → List ℕ
references f [] = []
references f (r ∷ rs) = if on_type is_object (reg_type f r) then r.0 ∷ references f rs else references f rs

-- the frame owns a reference of each of these
abbrev pub uses : Instr → List ℕ
uses i = take (row_of i.kind).uses (numbers i.operands)

-- a reference of each of these goes from the frame, once for each time that it is named
abbrev pub takes : LowFunc → Instr → List ℕ
takes f i = if (row_of i.kind).takes then references f i.operands else []

-- both lists of a conditional branch are equal, and are taken once
abbrev pub first_args : List Target → List Reg
first_args [] = []
first_args (t ∷ targets) = t.args

abbrev pub takes_at_end : LowFunc → Term → List ℕ
takes_at_end f t = takes f t.instr ++ (if (row_of t.instr.kind).takes then references f (first_args t.targets) else [])

-- a reference of each of these comes to the frame
abbrev pub gives : LowFunc → Instr → List ℕ
gives f i = if (row_of i.kind).gives then references f i.results else []

-- the parameters of the block that a target leads to
abbrev pub params_of : Option Block → List Reg
params_of None = []
params_of (Some b) = b.params

abbrev pub first_params : LowFunc → List Target → List Reg
first_params f [] = []
first_params f (t ∷ targets) = params_of (block_at f t.block)

-- A reference of each of these comes to the frame with the k-th target. The results of a call are the parameters of the
-- block where it goes on, which is the first.
abbrev pub gives_at_end : LowFunc → Term → ℕ → List ℕ
gives_at_end f t zero = if (row_of t.instr.kind).gives then references f (first_params f t.targets) else []
gives_at_end f t (suc k) = []

abbrev pub count_of : LowAttr → ℕ
count_of (Count n) = n
count_of _ = 0

-- how many references of its first operand an instruction adds, and how many it drops
abbrev pub added : Change → ℕ → ℕ
added change.Adds n = n
added _ n = 0

abbrev pub dropped : Change → ℕ → ℕ
dropped change.Drops n = n
dropped _ n = 0

abbrev pub adds : Instr → ℕ
adds i = added (row_of i.kind).change (count_of i.attr)

abbrev pub drops : Instr → ℕ
drops i = dropped (row_of i.kind).change (count_of i.attr)
