-- The registers whose references are counted, and those that instructions use, take and define.
use Rattle.std.specs.Prelude.{ℕ, ◌+◌, ◌&&◌, not, if◌then◌else◌, Bool, true, false, List, [], ◌∷◌, ◌++◌, take, slice_get}
use Rattle.op_table.specs.declared.kind.OpKind.TheVariants.{AsyncRuntimeCreate, FuncReturn}
use Rattle.ir_forms.specs.declared.types.Ty.{Ty}
use Rattle.low_flow.specs.Lists.{has}
use Rattle.low_forms.specs.declared.code.Reg.{Reg}
use Rattle.low_forms.specs.declared.code.LowKind.{LowKind}
use Rattle.low_forms.specs.declared.code.LowKind.TheVariants.{Row}
use Rattle.low_forms.specs.declared.code.Instr.{Instr}
use Rattle.low_forms.specs.declared.code.Term.{Term}
use Rattle.low_forms.specs.declared.code.Block.{Block}
use Rattle.low_forms.specs.declared.code.LowFunc.{LowFunc}
use Rattle.low_forms.specs.Rows.{row_of}
use Rattle.low_forms.specs.Registers.{on_type}
use Rattle.low_forms.specs.Assigned.{numbers}
use Rattle.low_forms.specs.Owns.{is_object, first_args}
use Rattle.ref_counting.specs.Order.{with_number}

-- ---- what a coroutine creates

abbrev pub is_create : LowKind → Bool
is_create (Row AsyncRuntimeCreate) = true
is_create _ = false

abbrev pub created_by : List Instr → List ℕ
created_by [] = []
created_by (i ∷ instrs) = (if is_create i.kind then numbers i.results else []) ++ created_by instrs

abbrev pub created_in : List Block → List ℕ
created_in [] = []
created_in (b ∷ blocks) = created_by b.instrs ++ created_in blocks

abbrev pub created : LowFunc → List ℕ
created f = if f.coroutine then created_in f.blocks else []

-- ---- an object's register is counted, unless its coroutine created the object

abbrev pub is_counted : LowFunc → ℕ → Bool
is_counted f r = on_type is_object (slice_get f.regs r) && not (has r (created f))

-- the counted registers among these types, the first of which is that of register n
abbrev pub counted_from : LowFunc → ℕ → List Ty → List ℕ
counted_from f n [] = []
counted_from f n (t ∷ types) = (if is_counted f n then n ∷ [] else []) ++ counted_from f (n + 1) types

abbrev pub counted : LowFunc → List ℕ
counted f = counted_from f 0 f.regs

-- ---- the counted ones among registers, by number

abbrev pub with_counted : LowFunc → List Reg → List ℕ → List ℕ
with_counted f [] list = list
with_counted f (r ∷ rs) list = with_counted f rs (if is_counted f r.0 then with_number r.0 list else list)

-- ---- what instructions and terminators use and take

abbrev pub used : Instr → List Reg
used i = take (row_of i.kind).uses i.operands

abbrev pub taken : Instr → List Reg
taken i = if (row_of i.kind).takes then i.operands else []

-- both lists of a conditional branch are equal, and are taken once
abbrev pub taken_at_end : Term → List Reg
taken_at_end t = taken t.instr ++ (if (row_of t.instr.kind).takes then first_args t.targets else [])

-- what an instruction uses, takes or defines
abbrev pub touched : LowFunc → Instr → List ℕ
touched f i = with_counted f i.results (with_counted f (taken i) (with_counted f (used i) []))

abbrev pub is_return : LowKind → Bool
is_return (Row FuncReturn) = true
is_return _ = false
