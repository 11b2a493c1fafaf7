-- Worked code, whose printed tokens are read back.
use Rattle.std.specs.Prelude.{◌≡◌, ℕ, Bool, true, false, List, [], ◌∷◌, ◌++◌, map, Ok, codes}
use Rattle.mlir_lex.specs.declared.kinds.TokenKind.{TokenKind}
use Rattle.mlir_lex.specs.declared.kinds.TokenKind.TheVariants as token
use Rattle.op_table.specs.declared.kind.OpKind.{OpKind}
use Rattle.op_table.specs.declared.kind.OpKind.TheVariants as op
use Rattle.int_ops.specs.declared.Width.TheVariants.{W64, W1}
use Rattle.int_ops.specs.declared.Pred.TheVariants as pred
use Rattle.ir_forms.specs.declared.types.Ty.{Ty}
use Rattle.ir_forms.specs.declared.types.Ty.TheVariants as ty
use Rattle.ir_forms.specs.declared.types.ValTy.TheVariants as val
use Rattle.low_forms.specs.declared.code.Reg.{Reg}
use Rattle.low_forms.specs.declared.code.LowKind.TheVariants as low
use Rattle.low_forms.specs.declared.code.LowAttr.{LowAttr}
use Rattle.low_forms.specs.declared.code.LowAttr.TheVariants as attr
use Rattle.low_forms.specs.declared.code.Instr.{Instr}
use Rattle.low_forms.specs.declared.code.Target.{Target}
use Rattle.low_forms.specs.declared.code.Term.{Term}
use Rattle.low_forms.specs.declared.code.Block.{Block}
use Rattle.low_forms.specs.declared.code.LowFunc.{LowFunc}
use Rattle.low_forms.specs.declared.code.LowModule.{LowModule}
use Rattle.mlir_print.specs.Spelled.{words_of}
use Rattle.low_print.specs.Printed.{code_doc}
use Rattle.module_grammar.specs.declared.state.TextToken.{TextToken}
use Rattle.low_grammar.specs.Texts.{reading}
use Rattle.low_grammar.specs.Named.{named_code}
use Rattle.low_names.specs.Numbers.{code_of}

-- ---- the tokens of printed code

abbrev pub text_token : TokenKind × List ℕ → TextToken
text_token w = record { kind = w.0; text = w.1; at = 0; joined = false }

abbrev pub tokens_of : LowModule → List TextToken
tokens_of code = map text_token (words_of (code_doc code)) ++ text_token (token.End, []) ∷ []

-- the printed tokens are read as the code with its names, which stand for the code
pub record ComesBack (code : LowModule) : Type 0 where
  pub reads : reading (tokens_of code) ≡ Ok (named_code code)
  pub means : code_of (named_code code) ≡ code

-- ---- pieces of code

abbrev regs : List ℕ → List Reg
regs rs = map (λ r. record { 0 = r }) rs

abbrev row : OpKind → List ℕ → List ℕ → LowAttr → Instr
row k operands results a = record { kind = low.Row k; operands = regs operands; results = regs results; attr = a }

abbrev to : ℕ → List ℕ → Target
to block args = record { block = record { 0 = block }; args = regs args }

abbrev end : Instr → List Target → Term
end i targets = record { instr = i; targets = targets }

abbrev block : List ℕ → List Instr → Term → Block
block params instrs term = record { params = regs params; instrs = instrs; term = term }

-- ---- a function that adds -3 to its parameter, and gives the sum where it is greater

abbrev sum_func : LowFunc
sum_func = record {
  name = codes "sum";
  coroutine = false;
  params = regs (0 ∷ []);
  results = ty.Int W64 ∷ [];
  regs = ty.Int W64 ∷ ty.Int W64 ∷ ty.Int W64 ∷ ty.Int W1 ∷ ty.Int W64 ∷ [];
  blocks =
      block [] (
      row op.ArithConstant [] (1 ∷ []) (attr.Literal true 3)
      ∷ row op.ArithAddi (0 ∷ 1 ∷ []) (2 ∷ []) attr.None
      ∷ row op.ArithCmpi (2 ∷ 0 ∷ []) (3 ∷ []) (attr.Pred pred.Sgt) ∷ []) (end (row op.CfCondBr (3 ∷ []) [] attr.None) (to 1 (2 ∷ []) ∷ to 1 (0 ∷ []) ∷ []))
      ∷ block (4 ∷ []) [] (end (row op.FuncReturn (4 ∷ []) [] attr.None) []) ∷ [];
}

abbrev pub sum_code : LowModule
sum_code = record { funcs = sum_func ∷ [] }

-- ---- a launch of a task that gives 7, which drops its token

abbrev main_func : LowFunc
main_func = record {
  name = codes "main";
  coroutine = false;
  params = [];
  results = [];
  regs = ty.Token ∷ ty.Value (val.Int W64) ∷ [];
  blocks =
      block [] (
      row op.FuncCall [] (0 ∷ 1 ∷ []) (attr.Callee (record { 0 = 1 }))
      ∷ row op.AsyncRuntimeDropRef (0 ∷ []) [] (attr.Count 1) ∷ []) (end (row op.FuncReturn [] [] attr.None) []) ∷ [];
}

abbrev task_func : LowFunc
task_func = record {
  name = codes "aio.task.0";
  coroutine = true;
  params = [];
  results = ty.Token ∷ ty.Value (val.Int W64) ∷ [];
  regs = ty.Token ∷ ty.Value (val.Int W64) ∷ ty.CoroId ∷ ty.CoroHandle ∷ ty.CoroState ∷ ty.Int W64 ∷ [];
  blocks =
      block [] (
      row op.AsyncRuntimeCreate [] (0 ∷ []) attr.None
      ∷ row op.AsyncRuntimeCreate [] (1 ∷ []) attr.None
      ∷ row op.AsyncCoroId [] (2 ∷ []) attr.None
      ∷ row op.AsyncCoroBegin (2 ∷ []) (3 ∷ []) attr.None
      ∷ row op.AsyncCoroSave (3 ∷ []) (4 ∷ []) attr.None ∷ [])
      (end (row op.AsyncCoroSuspend (4 ∷ []) [] attr.None) (to 2 [] ∷ to 1 [] ∷ to 2 [] ∷ []))
      ∷ block [] (
      row op.ArithConstant [] (5 ∷ []) (attr.Literal false 7)
      ∷ row op.AsyncRuntimeStore (5 ∷ 1 ∷ []) [] attr.None ∷ []) (end (row op.CfBr [] [] attr.None) (to 2 [] ∷ []))
      ∷ block [] [] (end (row op.FuncReturn (0 ∷ 1 ∷ []) [] attr.None) []) ∷ [];
}

abbrev pub task_code : LowModule
task_code = record { funcs = main_func ∷ task_func ∷ [] }

abbrev pub WorkedCodeComesBack : Type 0
WorkedCodeComesBack = ComesBack sum_code × ComesBack task_code
