-- The forms of lowered instructions: what stands behind an instruction's name.
use Rattle.std.specs.Prelude.{ℕ, ◌+◌, Bool, true, false, List, [], ◌∷◌, ◌++◌, take, drop, Option, Some, None, codes, decimal}
use Rattle.mlir_lex.specs.declared.kinds.TokenKind.TheVariants as kind
use Rattle.op_table.specs.declared.kind.OpKind.{OpKind}
use Rattle.op_table.specs.declared.kind.OpKind.TheVariants as op
use Rattle.ir_forms.specs.declared.ops.Attr.TheVariants as attr
use Rattle.low_forms.specs.declared.code.Reg.{Reg}
use Rattle.low_forms.specs.declared.code.BlockNo.{BlockNo}
use Rattle.low_forms.specs.declared.code.LowKind.{LowKind}
use Rattle.low_forms.specs.declared.code.LowKind.TheVariants as low
use Rattle.low_forms.specs.declared.code.LowAttr.{LowAttr}
use Rattle.low_forms.specs.declared.code.LowAttr.TheVariants as carries
use Rattle.low_forms.specs.declared.code.Instr.{Instr}
use Rattle.low_forms.specs.declared.code.Target.{Target}
use Rattle.low_forms.specs.declared.code.LowFunc.{LowFunc}
use Rattle.low_forms.specs.declared.code.LowModule.{LowModule}
use Rattle.low_forms.specs.Registers.{reg_type, type_at, callee}
use Rattle.mlir_print.specs.Docs.{Doc, Empty, Token, Blank, ◌<>◌, word, mark, number, comma, colon, equals, arrow, keyword, parens, brackets, commas, shown}
use Rattle.mlir_print.specs.Types.{type_doc, result_types}
use Rattle.mlir_print.specs.Tokens.{symbol, attr_doc}
use Rattle.low_print.specs.declared.form.Typed.{Typed}
use Rattle.low_print.specs.declared.form.Typed.TheVariants as by
use Rattle.low_print.specs.declared.form.LowForm.{LowForm}
use Rattle.low_print.specs.declared.form.LowForm.TheVariants as form

-- ---- the form of each kind

abbrev pub form_of_kind : OpKind → LowForm
form_of_kind op.ArithConstant = form.Constant
form_of_kind op.ArithCmpi = form.Compare
form_of_kind op.ArithExtsi = form.Cast
form_of_kind op.ArithExtui = form.Cast
form_of_kind op.ArithTrunci = form.Cast
form_of_kind op.ArithIndexCast = form.Cast
form_of_kind op.ArithIndexCastui = form.Cast
form_of_kind op.MemrefAlloc = form.Alloc
form_of_kind op.MemrefLoad = form.Cell 0
form_of_kind op.MemrefStore = form.Cell 1
form_of_kind op.FuncCall = form.Launch
form_of_kind op.AioCall = form.Call
form_of_kind op.FuncReturn = form.Return
form_of_kind op.MemrefDealloc = form.Uses (by.Operand 0)
form_of_kind op.MemrefDim = form.Uses (by.Operand 0)
form_of_kind op.AsyncRuntimeAddToGroup = form.Uses (by.Operand 0)
form_of_kind op.AsyncRuntimeAwait = form.Uses (by.Operand 0)
form_of_kind op.AsyncRuntimeAwaitAndResume = form.Uses (by.Operand 0)
form_of_kind op.AsyncRuntimeIsError = form.Uses (by.Operand 0)
form_of_kind op.AsyncRuntimeStore = form.Uses (by.Operand 1)
form_of_kind op.AsyncRuntimeLoad = form.Uses (by.Operand 0)
form_of_kind op.AsyncRuntimeSetAvailable = form.Uses (by.Operand 0)
form_of_kind op.AsyncRuntimeSetError = form.Uses (by.Operand 0)
form_of_kind op.AsyncRuntimeAddRef = form.Uses (by.Operand 0)
form_of_kind op.AsyncRuntimeDropRef = form.Uses (by.Operand 0)
form_of_kind op.CfBr = form.Uses by.Nothing
form_of_kind op.CfCondBr = form.Uses by.Nothing
form_of_kind op.AioFail = form.Uses by.Nothing
form_of_kind op.AioFinish = form.Uses by.Nothing
form_of_kind op.AsyncCoroId = form.Uses by.Nothing
form_of_kind op.AsyncCoroBegin = form.Uses by.Nothing
form_of_kind op.AsyncCoroSave = form.Uses by.Nothing
form_of_kind op.AsyncCoroSuspend = form.Uses by.Nothing
form_of_kind op.AsyncCoroFree = form.Uses by.Nothing
form_of_kind op.AsyncCoroEnd = form.Uses by.Nothing
form_of_kind op.AsyncRuntimeResume = form.Uses by.Nothing
form_of_kind _ = form.Uses by.Result

-- the two high rows have no text: they print without a name
abbrev pub form_of : LowKind → LowForm
form_of (low.Row k) = form_of_kind k
form_of low.Launch = form.Uses by.Nothing
form_of low.Await = form.Uses by.Nothing

-- ---- registers and their types

-- `%` and the register's number
abbrev pub reg_doc : Reg → Doc
reg_doc r = Token kind.ValueName (37 ∷ decimal r.0)

abbrev pub regs_doc : List Reg → Doc
regs_doc rs = commas reg_doc rs

-- the type of a register; where it isn't there it prints as nothing
abbrev pub reg_ty : LowFunc → Reg → Doc
reg_ty f r = shown type_doc (reg_type f r)

abbrev pub reg_types : LowFunc → List Reg → Doc
reg_types f rs = commas (reg_ty f) rs

-- the type of the register at a place
abbrev pub ty_at : LowFunc → List Reg → ℕ → Doc
ty_at f rs k = shown type_doc (type_at f rs k)

-- types of results: one stands alone, none or several in parentheses
abbrev pub reg_result_types : LowFunc → List Reg → Doc
reg_result_types f (r ∷ []) = reg_ty f r
reg_result_types f rs = parens (reg_types f rs)

-- ---- pieces of forms

-- the registers behind a blank, where there are any
abbrev pub uses : List Reg → Doc
uses [] = Empty
uses (r ∷ rs) = Blank <> regs_doc (r ∷ rs)

-- ` : ` and the type that is written
abbrev pub typed : LowFunc → Typed → Instr → Doc
typed f by.Nothing i = Empty
typed f (by.Operand k) i = colon <> ty_at f i.operands k
typed f by.Result i = colon <> ty_at f i.results 0

-- a literal as it is written, a truth or a predicate
abbrev pub carried : LowAttr → Doc
carried (carries.Literal negative magnitude) = attr_doc (attr.Literal negative magnitude)
carried (carries.Truth truth) = attr_doc (attr.Truth truth)
carried (carries.Pred pred) = attr_doc (attr.Pred pred)
carried _ = Empty

-- a truth has no type
abbrev pub constant_type : LowAttr → LowFunc → List Reg → Doc
constant_type (carries.Truth truth) f rs = Empty
constant_type _ f rs = colon <> ty_at f rs 0

-- how many references are added or dropped: ` {count = N : i64}`
abbrev pub count_dict : ℕ → Doc
count_dict n = Blank <> mark 123 <> word (codes "count") <> equals <> number n <> colon <> word (codes "i64") <> mark 125

abbrev pub count : LowAttr → Doc
count (carries.Count n) = count_dict n
count _ = Empty

-- the name of the function that is called, and the types of its results; where it isn't there they print as nothing
abbrev pub func_name : LowFunc → Doc
func_name f = symbol f.name

abbrev pub func_results : LowFunc → Doc
func_results f = result_types f.results

-- the function that is called, the arguments and their types
abbrev pub call : LowModule → LowFunc → Instr → Doc
call code f i = Blank <> shown func_name (callee code i.attr) <> parens (regs_doc i.operands) <> colon <> parens (reg_types f i.operands) <> arrow

-- registers and their types, where there are any
abbrev pub typed_uses : LowFunc → List Reg → Doc
typed_uses f [] = Empty
typed_uses f (r ∷ rs) = Blank <> regs_doc (r ∷ rs) <> colon <> reg_types f (r ∷ rs)

-- the operands up to the memref at a place, and the indices behind it
abbrev pub cell : LowFunc → ℕ → Instr → Doc
cell f k i = Blank <> regs_doc (take (k + 1) i.operands) <> brackets (regs_doc (drop (k + 1) i.operands)) <> typed f (by.Operand k) i

-- ---- the forms

abbrev pub constant : LowFunc → Instr → Doc
constant f i = Blank <> carried i.attr <> constant_type i.attr f i.results

abbrev pub compare : LowFunc → Instr → Doc
compare f i = Blank <> carried i.attr <> comma <> regs_doc i.operands <> typed f (by.Operand 0) i

abbrev pub cast : LowFunc → Instr → Doc
cast f i = uses i.operands <> typed f (by.Operand 0) i <> keyword (codes "to") <> ty_at f i.results 0

abbrev pub sizes : LowFunc → Instr → Doc
sizes f i = parens (regs_doc i.operands) <> typed f by.Result i

abbrev pub form_doc : LowModule → LowFunc → LowForm → Instr → Doc
form_doc code f form.Constant i = constant f i
form_doc code f form.Compare i = compare f i
form_doc code f form.Cast i = cast f i
form_doc code f form.Alloc i = sizes f i
form_doc code f (form.Cell k) i = cell f k i
form_doc code f form.Launch i = call code f i <> reg_result_types f i.results
form_doc code f form.Call i = call code f i <> shown func_results (callee code i.attr)
form_doc code f form.Return i = typed_uses f i.operands
form_doc code f (form.Uses t) i = uses i.operands <> count i.attr <> typed f t i

-- ---- targets

-- `^bb` and the block's number
abbrev pub block_name : ℕ → Doc
block_name n = Token kind.BlockName (codes "^bb" ++ decimal n)

abbrev pub target_args : LowFunc → List Reg → Doc
target_args f [] = Empty
target_args f (r ∷ rs) = parens (regs_doc (r ∷ rs) <> colon <> reg_types f (r ∷ rs))

abbrev pub target_doc : LowFunc → Target → Doc
target_doc f t = block_name t.block.0 <> target_args f t.args

-- nothing stands between the name of a plain branch and its target
abbrev pub before_targets : LowKind → Doc
before_targets (low.Row op.CfBr) = Blank
before_targets _ = comma

abbrev pub targets_doc : LowKind → LowFunc → List Target → Doc
targets_doc k f [] = Empty
targets_doc k f (t ∷ ts) = before_targets k <> commas (target_doc f) (t ∷ ts)
