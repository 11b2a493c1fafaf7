-- Kinds by their forms.
use Rattle.std.proofs.Common.{◌≡◌, ◌+◌, ℕ, refl}
use Rattle.int_ops.specs.declared.BinOp.TheVariants as bin
use Rattle.op_table.specs.declared.form.Form.TheVariants as shape
use Rattle.op_table.specs.declared.kind.OpKind.{OpKind}
use Rattle.op_table.specs.declared.kind.OpKind.TheVariants as op
use Rattle.op_table.specs.Rows.{row_of}
use Rattle.ir_verify.specs.Forms.{form_of}
use Rattle.ir_verify.specs.Rules.{counted}
use Rattle.task_stack.specs.declared.effects.Number as one
use Rattle.task_stack.specs.declared.effects.Number.TheVariants as number
use Rattle.block_carry.specs.Rows.{Computes, addi, subi, muli, divsi, divui, remsi, remui, andi, ori, xori, shli, shrsi, shrui, maxsi, minsi, maxui, minui, constant, cmpi, select, extsi, index_cast, extui, trunci, index_castui, dim, ReadsWidth}

-- a kind that computes, and has one result
pub record Computing (kind : OpKind) : Type 0 where
  pub m : one.Number
  pub computes : Computes kind m
  pub single : (n : ℕ) → counted (row_of kind).results n ≡ 1

pub record Quiet (kind : OpKind) : Type 0 where
  pub computing : Computing kind
  pub quiet : ReadsWidth computing.m → ⊥

-- one that reads its first operand at the width of its type, with so many operands
pub record Wide (kind : OpKind) : Type 0 where
  pub computing : Computing kind
  pub more : ℕ
  pub many : (n : ℕ) → counted (row_of kind).operands n ≡ 1 + more

quiet_one : (kind : OpKind) (m : one.Number) → Computes kind m → ((n : ℕ) → counted (row_of kind).results n ≡ 1) → (ReadsWidth m → ⊥) → Quiet kind
quiet_one kind m c r q = record { computing = record { m = m; computes = c; single = r }; quiet = q }

pub binary_kind : (kind : OpKind) → form_of kind ≡ shape.Binary → Quiet kind
binary_kind op.ArithAddi e = quiet_one op.ArithAddi (number.Binary bin.Add) addi (λ n. refl) (λ w. w)
binary_kind op.ArithSubi e = quiet_one op.ArithSubi (number.Binary bin.Sub) subi (λ n. refl) (λ w. w)
binary_kind op.ArithMuli e = quiet_one op.ArithMuli (number.Binary bin.Mul) muli (λ n. refl) (λ w. w)
binary_kind op.ArithDivsi e = quiet_one op.ArithDivsi (number.Binary bin.DivS) divsi (λ n. refl) (λ w. w)
binary_kind op.ArithDivui e = quiet_one op.ArithDivui (number.Binary bin.DivU) divui (λ n. refl) (λ w. w)
binary_kind op.ArithRemsi e = quiet_one op.ArithRemsi (number.Binary bin.RemS) remsi (λ n. refl) (λ w. w)
binary_kind op.ArithRemui e = quiet_one op.ArithRemui (number.Binary bin.RemU) remui (λ n. refl) (λ w. w)
binary_kind op.ArithAndi e = quiet_one op.ArithAndi (number.Binary bin.And) andi (λ n. refl) (λ w. w)
binary_kind op.ArithOri e = quiet_one op.ArithOri (number.Binary bin.Or) ori (λ n. refl) (λ w. w)
binary_kind op.ArithXori e = quiet_one op.ArithXori (number.Binary bin.Xor) xori (λ n. refl) (λ w. w)
binary_kind op.ArithShli e = quiet_one op.ArithShli (number.Binary bin.Shl) shli (λ n. refl) (λ w. w)
binary_kind op.ArithShrsi e = quiet_one op.ArithShrsi (number.Binary bin.ShrS) shrsi (λ n. refl) (λ w. w)
binary_kind op.ArithShrui e = quiet_one op.ArithShrui (number.Binary bin.ShrU) shrui (λ n. refl) (λ w. w)
binary_kind op.ArithMaxsi e = quiet_one op.ArithMaxsi (number.Binary bin.MaxS) maxsi (λ n. refl) (λ w. w)
binary_kind op.ArithMinsi e = quiet_one op.ArithMinsi (number.Binary bin.MinS) minsi (λ n. refl) (λ w. w)
binary_kind op.ArithMaxui e = quiet_one op.ArithMaxui (number.Binary bin.MaxU) maxui (λ n. refl) (λ w. w)
binary_kind op.ArithMinui e = quiet_one op.ArithMinui (number.Binary bin.MinU) minui (λ n. refl) (λ w. w)
binary_kind _ e = cc

pub constant_kind : (kind : OpKind) → form_of kind ≡ shape.Constant → Quiet kind
constant_kind op.ArithConstant e = quiet_one op.ArithConstant number.Constant constant (λ n. refl) (λ w. w)
constant_kind _ e = cc

pub select_kind : (kind : OpKind) → form_of kind ≡ shape.Select → Quiet kind
select_kind op.ArithSelect e = quiet_one op.ArithSelect number.Select select (λ n. refl) (λ w. w)
select_kind _ e = cc

pub truncate_kind : (kind : OpKind) → form_of kind ≡ shape.Truncate → Quiet kind
truncate_kind op.ArithTrunci e = quiet_one op.ArithTrunci number.FitWidth trunci (λ n. refl) (λ w. w)
truncate_kind _ e = cc

pub dim_kind : (kind : OpKind) → form_of kind ≡ shape.Dim → Quiet kind
dim_kind op.MemrefDim e = quiet_one op.MemrefDim number.Dimension dim (λ n. refl) (λ w. w)
dim_kind _ e = cc

pub compare_kind : (kind : OpKind) → form_of kind ≡ shape.Compare → Wide kind
compare_kind op.ArithCmpi e = record { computing = record { m = number.Compare; computes = cmpi; single = λ n. refl }; more = 1; many = λ n. refl }
compare_kind _ e = cc

pub extend_kind : (kind : OpKind) → form_of kind ≡ shape.Extend → Wide kind
extend_kind op.ArithExtsi e = record { computing = record { m = number.ExtendSign; computes = extsi; single = λ n. refl }; more = 0; many = λ n. refl }
extend_kind op.ArithExtui e = record { computing = record { m = number.FitWidth; computes = extui; single = λ n. refl }; more = 0; many = λ n. refl }
extend_kind _ e = cc

pub index_kind : (kind : OpKind) → form_of kind ≡ shape.IndexCast → Wide kind
index_kind op.ArithIndexCast e = record { computing = record { m = number.ExtendSign; computes = index_cast; single = λ n. refl }; more = 0; many = λ n. refl }
index_kind op.ArithIndexCastui e = record { computing = record { m = number.FitWidth; computes = index_castui; single = λ n. refl }; more = 0; many = λ n. refl }
index_kind _ e = cc

-- ---- forms of one kind

pub assert_kind : (kind : OpKind) → form_of kind ≡ shape.Assert → kind ≡ op.CfAssert
assert_kind op.CfAssert e = refl
assert_kind _ e = cc

pub if_kind : (kind : OpKind) → form_of kind ≡ shape.If → kind ≡ op.ScfIf
if_kind op.ScfIf e = refl
if_kind _ e = cc

pub for_kind : (kind : OpKind) → form_of kind ≡ shape.For → kind ≡ op.ScfFor
for_kind op.ScfFor e = refl
for_kind _ e = cc

pub while_kind : (kind : OpKind) → form_of kind ≡ shape.While → kind ≡ op.ScfWhile
while_kind op.ScfWhile e = refl
while_kind _ e = cc

pub call_kind : (kind : OpKind) → form_of kind ≡ shape.Call → kind ≡ op.FuncCall
call_kind op.FuncCall e = refl
call_kind _ e = cc

pub try_kind : (kind : OpKind) → form_of kind ≡ shape.TryCall → kind ≡ op.AioTryCall
try_kind op.AioTryCall e = refl
try_kind _ e = cc

pub await_kind : (kind : OpKind) → form_of kind ≡ shape.Await → kind ≡ op.AsyncAwait
await_kind op.AsyncAwait e = refl
await_kind _ e = cc

pub await_all_kind : (kind : OpKind) → form_of kind ≡ shape.AwaitAll → kind ≡ op.AsyncAwaitAll
await_all_kind op.AsyncAwaitAll e = refl
await_all_kind _ e = cc

pub alloc_kind : (kind : OpKind) → form_of kind ≡ shape.Alloc → kind ≡ op.MemrefAlloc
alloc_kind op.MemrefAlloc e = refl
alloc_kind _ e = cc

pub dealloc_kind : (kind : OpKind) → form_of kind ≡ shape.Dealloc → kind ≡ op.MemrefDealloc
dealloc_kind op.MemrefDealloc e = refl
dealloc_kind _ e = cc

pub load_kind : (kind : OpKind) → form_of kind ≡ shape.Load → kind ≡ op.MemrefLoad
load_kind op.MemrefLoad e = refl
load_kind _ e = cc

pub store_kind : (kind : OpKind) → form_of kind ≡ shape.Store → kind ≡ op.MemrefStore
store_kind op.MemrefStore e = refl
store_kind _ e = cc

pub create_kind : (kind : OpKind) → form_of kind ≡ shape.CreateGroup → kind ≡ op.AsyncCreateGroup
create_kind op.AsyncCreateGroup e = refl
create_kind _ e = cc

pub return_kind : (kind : OpKind) → form_of kind ≡ shape.Return → kind ≡ op.FuncReturn
return_kind op.FuncReturn e = refl
return_kind _ e = cc

pub yield_kind : (kind : OpKind) → form_of kind ≡ shape.Yield → kind ≡ op.ScfYield
yield_kind op.ScfYield e = refl
yield_kind _ e = cc

pub condition_kind : (kind : OpKind) → form_of kind ≡ shape.Condition → kind ≡ op.ScfCondition
condition_kind op.ScfCondition e = refl
condition_kind _ e = cc
