-- Operations that become one instruction.
use Rattle.std.specs.Prelude.{◌≡◌, ◌≤◌, ◌<◌, ℕ, List, [], ◌∷◌, length, ◌+◌, Option, Some, None, IsSome, slice_get}
use Rattle.std.specs.Option.{option_map}
use Rattle.int_ops.specs.declared.BinOp.TheVariants as bin
use Rattle.op_table.specs.declared.kind.OpKind.{OpKind}
use Rattle.op_table.specs.declared.kind.OpKind.TheVariants as op
use Rattle.ir_forms.specs.declared.ops.ValueNo.{ValueNo}
use Rattle.low_forms.specs.declared.code.Reg.{Reg}
use Rattle.low_forms.specs.declared.code.LowKind.{LowKind}
use Rattle.low_forms.specs.declared.code.Instr.{Instr}
use Rattle.low_forms.specs.declared.code.LowFunc.{LowFunc}
use Rattle.low_forms.specs.Registers.{type_at}
use Rattle.source_meaning.specs.declared.values.Val.{Val}
use Rattle.source_meaning.specs.declared.values.Val.TheVariants.{Number}
use Rattle.source_meaning.specs.Values.{dims_in}
use Rattle.source_meaning.specs.Parts.{Node, dims_of}
use Rattle.source_meaning.specs.Rows.{literal_bits, at_width, result_at, compared_at, sign_cast}
use Rattle.source_meaning.specs.Steps.{value, number, chosen, is_used}
use Rattle.source_meaning.specs.Steps as source
use Rattle.source_meaning.specs.Tasks.{Program}
use Rattle.task_stack.specs.declared.effects.Number as one
use Rattle.task_stack.specs.declared.effects.Number.TheVariants as number
use Rattle.task_stack.specs.Numbers as low
use Rattle.task_stack.specs.Numbers.{carried}
use Rattle.scf_blocks.specs.Code.{Scope, reg_no, regs, regs_from, known}
use Rattle.code_machines.specs.Uses as code

-- ---- values and registers

-- each of these is visible
abbrev pub AreVisible : Scope → List ValueNo → Type 0
AreVisible scope [] = Unit {0}
AreVisible scope (x ∷ xs) = IsSome (known scope x.0) × AreVisible scope xs

-- each of these is defined for the first time, where they get the registers from n on
abbrev pub AreNew : Scope → ℕ → List ValueNo → Type 0
AreNew scope n [] = Unit {0}
AreNew scope n (x ∷ xs) = (known scope x.0 ≡ None) × AreNew ((x, reg_no n) ∷ scope) (n + 1) xs

-- the registers of the values that are visible come before the register n
abbrev pub AreBefore : Scope → ℕ → Type 0
AreBefore scope n = (x : ℕ) (r : Reg) → known scope x ≡ Some r → r.0 < n

-- ---- instructions

-- An instruction takes the registers of an operation's operands and gives its results those from n on.
pub record IsRow (kind : LowKind) (scope : Scope) (n : ℕ) (o : Node) (i : Instr) : Type 0 where
  pub kind_is : i.kind ≡ kind
  pub operands : i.operands ≡ regs scope o.operands
  pub results : i.results ≡ regs_from n o.results
  pub visible : AreVisible scope o.operands
  pub new : AreNew scope n o.results

-- ---- numbers

-- which operations compute, and how
pub data Computes : OpKind → one.Number → Type 0 where
  addi : Computes op.ArithAddi (number.Binary bin.Add)
  subi : Computes op.ArithSubi (number.Binary bin.Sub)
  muli : Computes op.ArithMuli (number.Binary bin.Mul)
  divsi : Computes op.ArithDivsi (number.Binary bin.DivS)
  divui : Computes op.ArithDivui (number.Binary bin.DivU)
  remsi : Computes op.ArithRemsi (number.Binary bin.RemS)
  remui : Computes op.ArithRemui (number.Binary bin.RemU)
  andi : Computes op.ArithAndi (number.Binary bin.And)
  ori : Computes op.ArithOri (number.Binary bin.Or)
  xori : Computes op.ArithXori (number.Binary bin.Xor)
  shli : Computes op.ArithShli (number.Binary bin.Shl)
  shrsi : Computes op.ArithShrsi (number.Binary bin.ShrS)
  shrui : Computes op.ArithShrui (number.Binary bin.ShrU)
  maxsi : Computes op.ArithMaxsi (number.Binary bin.MaxS)
  minsi : Computes op.ArithMinsi (number.Binary bin.MinS)
  maxui : Computes op.ArithMaxui (number.Binary bin.MaxU)
  minui : Computes op.ArithMinui (number.Binary bin.MinU)
  constant : Computes op.ArithConstant number.Constant
  cmpi : Computes op.ArithCmpi number.Compare
  select : Computes op.ArithSelect number.Select
  extsi : Computes op.ArithExtsi number.ExtendSign
  index_cast : Computes op.ArithIndexCast number.ExtendSign
  extui : Computes op.ArithExtui number.FitWidth
  trunci : Computes op.ArithTrunci number.FitWidth
  index_castui : Computes op.ArithIndexCastui number.FitWidth
  dim : Computes op.MemrefDim number.Dimension

-- what such an operation comes to, if it has a result
abbrev pub computed : one.Number → Node → List Val → Option Val
computed number.Constant o vs = Some (Number (at_width (source.result_width o) (literal_bits o.attr)))
computed (number.Binary b) o vs = option_map Number (result_at (source.result_width o) b (number vs 0) (number vs 1))
computed number.Compare o vs = Some (Number (compared_at (source.written_width o) o.attr (number vs 0) (number vs 1)))
computed number.Select o vs = Some (chosen (number vs 0) (value vs 1) (value vs 2))
computed number.ExtendSign o vs = Some (Number (sign_cast (source.written_width o) (source.result_width o) (number vs 0)))
computed number.FitWidth o vs = Some (Number (at_width (source.result_width o) (number vs 0)))
computed number.Dimension o vs = option_map Number (slice_get (dims_in (value vs 0)) (number vs 1))
computed number.Zero o vs = Some (Number 0)

-- which read their operand at the width of its type
abbrev pub ReadsWidth : one.Number → Type 0
ReadsWidth number.Compare = Unit {0}
ReadsWidth number.ExtendSign = Unit {0}
ReadsWidth _ = ⊥

-- an instruction that computes as an operation does: its attribute and its registers' types say the same
pub record IsComputing (f : LowFunc) (o : Node) (i : Instr) : Type 0 where
  pub m : one.Number
  pub computes : Computes o.kind m
  pub few : length o.results ≤ 1
  pub literal : literal_bits (carried i.attr) ≡ literal_bits o.attr
  pub compare : (w x y : ℕ) → compared_at w (carried i.attr) x y ≡ compared_at w o.attr x y
  pub result : low.result_width f i ≡ source.result_width o
  pub operand : ReadsWidth m → low.operand_width f i ≡ source.written_width o

-- ---- shared state

-- which operations ask the shared state by one instruction, and by which
pub data Asks : OpKind → OpKind → Type 0 where
  alloc : Asks op.MemrefAlloc op.MemrefAlloc
  dealloc : Asks op.MemrefDealloc op.MemrefDealloc
  load : Asks op.MemrefLoad op.MemrefLoad
  store : Asks op.MemrefStore op.MemrefStore
  create_group : Asks op.AsyncCreateGroup op.AsyncRuntimeCreateGroup
  add_to_group : Asks op.AsyncAddToGroup op.AsyncRuntimeAddToGroup

-- What such an instruction has of the operation besides: an allocation the same sizes, and an add the same use of its
-- result; what gives nothing has no result.
abbrev pub IsLike : {k l : OpKind} → Asks k l → Program → ℕ → LowFunc → Node → Instr → Type 0
IsLike alloc p k f o i = (dims_of (type_at f i.results 0) ≡ dims_of (slice_get o.types 0)) × (length (dims_of (slice_get o.types 0)) ≤ 4) × (length o.results ≤ 1)
IsLike dealloc p k f o i = o.results ≡ []
IsLike load p k f o i = length o.results ≤ 1
IsLike store p k f o i = o.results ≡ []
IsLike create_group p k f o i = length o.results ≤ 1
IsLike add_to_group p k f o i = (is_used p k (slice_get o.results 0) ≡ code.is_used f i) × (length o.results ≤ 1)
