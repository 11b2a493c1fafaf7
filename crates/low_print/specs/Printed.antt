-- The printed text of lowered code.
use Rattle.std.specs.Prelude.{ℕ, ◌+◌, Bool, true, false, if◌then◌else◌, List, [], ◌∷◌, nat_eq, codes}
use Rattle.std.specs.List.{starts_with}
use Rattle.op_table.specs.Rows.{name_of}
use Rattle.low_forms.specs.declared.code.Reg.{Reg}
use Rattle.low_forms.specs.declared.code.LowKind.{LowKind}
use Rattle.low_forms.specs.declared.code.LowKind.TheVariants as low
use Rattle.low_forms.specs.declared.code.Instr.{Instr}
use Rattle.low_forms.specs.declared.code.Term.{Term}
use Rattle.low_forms.specs.declared.code.Block.{Block}
use Rattle.low_forms.specs.declared.code.LowFunc.{LowFunc}
use Rattle.low_forms.specs.declared.code.LowModule.{LowModule}
use Rattle.mlir_print.specs.Docs.{Doc, Empty, Blank, Line, ◌<>◌, bytes_of, word, mark, equals, keyword, parens, commas}
use Rattle.mlir_print.specs.Types.{results_if_any}
use Rattle.mlir_print.specs.Tokens.{symbol}
use Rattle.low_print.specs.Forms.{form_of, reg_doc, regs_doc, reg_ty, form_doc, block_name, targets_doc}

-- ---- instructions

-- the results and ` = `, where there are any
abbrev pub results_doc : List Reg → Doc
results_doc [] = Empty
results_doc (r ∷ rs) = regs_doc (r ∷ rs) <> equals

abbrev pub kind_doc : LowKind → Doc
kind_doc (low.Row k) = word (name_of k)
kind_doc low.Launch = Empty
kind_doc low.Await = Empty

abbrev pub instr_doc : LowModule → LowFunc → Instr → Doc
instr_doc code f i = results_doc i.results <> kind_doc i.kind <> form_doc code f (form_of i.kind) i

abbrev pub term_doc : LowModule → LowFunc → Term → Doc
term_doc code f t = instr_doc code f t.instr <> targets_doc t.instr.kind f t.targets

-- ---- blocks

-- a function's parameters are written `%0 : T`, a block's `%0: T`
abbrev pub gap : Bool → Doc
gap true = Blank
gap false = Empty

abbrev pub param_doc : Bool → LowFunc → Reg → Doc
param_doc spaced f r = reg_doc r <> gap spaced <> mark 58 <> Blank <> reg_ty f r

abbrev pub params_doc : Bool → LowFunc → List Reg → Doc
params_doc spaced f rs = parens (commas (param_doc spaced f) rs)

abbrev pub block_params : LowFunc → List Reg → Doc
block_params f [] = Empty
block_params f (r ∷ rs) = params_doc false f (r ∷ rs)

-- a line within a block
abbrev pub inner : Doc
inner = Line (codes "  ")

abbrev pub instr_lines : LowModule → LowFunc → List Instr → Doc
instr_lines code f [] = Empty
instr_lines code f (i ∷ is) = inner <> instr_doc code f i <> instr_lines code f is

-- the block with this number, on lines of its own
abbrev pub block_doc : LowModule → LowFunc → ℕ → Block → Doc
block_doc code f n b =
    Line [] <> block_name n <> block_params f b.params <> mark 58 <> instr_lines code f b.instrs <> inner <> term_doc code f b.term

-- the blocks from this number on
abbrev pub block_docs : LowModule → LowFunc → ℕ → List Block → Doc
block_docs code f n [] = Empty
block_docs code f n (b ∷ bs) = block_doc code f n b <> block_docs code f (n + 1) bs

-- ---- functions and modules

-- the names of functions that passes made begin so
abbrev pub is_private : List ℕ → Bool
is_private name = starts_with nat_eq name (codes "aio.")

abbrev pub privacy : List ℕ → Doc
privacy name = if is_private name then keyword (codes "private") else Blank

abbrev pub coroutine_dict : Bool → Doc
coroutine_dict true = keyword (codes "attributes") <> mark 123 <> word (codes "aio.coroutine") <> mark 125
coroutine_dict false = Empty

abbrev pub func_head : LowFunc → Doc
func_head f =
    word (codes "func.func") <> privacy f.name <> symbol f.name <> params_doc true f f.params <> results_if_any f.results
    <> coroutine_dict f.coroutine <> Blank

abbrev pub func_doc : LowModule → LowFunc → Doc
func_doc code f = func_head f <> mark 123 <> block_docs code f 0 f.blocks <> Line [] <> mark 125

-- each function, and the end of its line
abbrev pub func_docs : LowModule → List LowFunc → Doc
func_docs code [] = Empty
func_docs code (f ∷ fs) = func_doc code f <> Line [] <> func_docs code fs

abbrev pub code_doc : LowModule → Doc
code_doc code = func_docs code code.funcs

-- the printed text of lowered code
abbrev pub printed_code : LowModule → List ℕ
printed_code code = bytes_of (code_doc code)
