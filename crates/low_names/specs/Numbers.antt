-- The code that named code stands for: registers, blocks and functions by the places of their names.
use Rattle.std.specs.Prelude.{ℕ, List, [], ◌∷◌, ◌++◌, map, Option, unwrap_or}
use Rattle.name_lists.specs.Names.{first_named}
use Rattle.op_table.specs.declared.kind.OpKind.TheVariants as op
use Rattle.ir_forms.specs.declared.types.Ty.{Ty}
use Rattle.ir_forms.specs.Numbers.{joined}
use Rattle.low_forms.specs.declared.code.Reg.{Reg}
use Rattle.low_forms.specs.declared.code.LowKind.TheVariants as low
use Rattle.low_forms.specs.declared.code.LowAttr.{LowAttr}
use Rattle.low_forms.specs.declared.code.LowAttr.TheVariants as attr
use Rattle.low_forms.specs.declared.code.Instr.{Instr}
use Rattle.low_forms.specs.declared.code.Target.{Target}
use Rattle.low_forms.specs.declared.code.Term.{Term}
use Rattle.low_forms.specs.declared.code.Block.{Block}
use Rattle.low_forms.specs.declared.code.LowFunc.{LowFunc}
use Rattle.low_forms.specs.declared.code.LowModule.{LowModule}
use Rattle.low_grammar.specs.declared.named.NamedAttr.{NamedAttr}
use Rattle.low_grammar.specs.declared.named.NamedAttr.TheVariants as carries
use Rattle.low_grammar.specs.declared.named.NamedParam.{NamedParam}
use Rattle.low_grammar.specs.declared.named.NamedTarget.{NamedTarget}
use Rattle.low_grammar.specs.declared.named.NamedInstr.{NamedInstr}
use Rattle.low_grammar.specs.declared.named.NamedBlock.{NamedBlock}
use Rattle.low_grammar.specs.declared.named.NamedFunc.{NamedFunc}

-- ---- places

-- where a name stands first
abbrev pub name_place : List (List ℕ) → List ℕ → Option ℕ
name_place names name = first_named (λ n. n) names name

-- the number of a name; one that isn't there has the last number
abbrev pub number_of : List (List ℕ) → List ℕ → ℕ
number_of names name = unwrap_or (name_place names name) 4294967295

-- ---- what a function defines, in the order of its text

abbrev pub param_names : List NamedParam → List (List ℕ)
param_names ps = map (λ p. p.name) ps

abbrev pub param_types : List NamedParam → List Ty
param_types ps = map (λ p. p.ty) ps

abbrev pub results_of : List NamedInstr → List (List ℕ)
results_of [] = []
results_of (i ∷ is) = i.results ++ results_of is

abbrev pub types_of : List NamedInstr → List Ty
types_of [] = []
types_of (i ∷ is) = i.types ++ types_of is

abbrev pub block_names : NamedBlock → List (List ℕ)
block_names b = param_names b.params ++ results_of b.instrs

abbrev pub block_types : NamedBlock → List Ty
block_types b = param_types b.params ++ types_of b.instrs

abbrev pub register_names : NamedFunc → List (List ℕ)
register_names f = param_names f.params ++ joined (map block_names f.blocks)

abbrev pub register_types : NamedFunc → List Ty
register_types f = param_types f.params ++ joined (map block_types f.blocks)

abbrev pub labels : List NamedBlock → List (List ℕ)
labels bs = map (λ b. b.name) bs

abbrev pub func_names : List NamedFunc → List (List ℕ)
func_names fs = map (λ f. f.name) fs

-- ---- code

-- the names of functions, of a function's blocks and of its registers, each at its number
pub record Scope : Type 0 where
  pub funcs : List (List ℕ)
  pub blocks : List (List ℕ)
  pub registers : List (List ℕ)

abbrev pub reg_of : Scope → List ℕ → Reg
reg_of s name = record { 0 = number_of s.registers name }

abbrev pub regs_of : Scope → List (List ℕ) → List Reg
regs_of s names = map (reg_of s) names

abbrev pub params_of : Scope → List NamedParam → List Reg
params_of s ps = map (λ p. reg_of s p.name) ps

abbrev pub attr_of : Scope → NamedAttr → LowAttr
attr_of s carries.None = attr.None
attr_of s (carries.Literal negative magnitude) = attr.Literal negative magnitude
attr_of s (carries.Truth truth) = attr.Truth truth
attr_of s (carries.Pred p) = attr.Pred p
attr_of s (carries.Count n) = attr.Count n
attr_of s (carries.Callee name) = attr.Callee (record { 0 = number_of s.funcs name })

abbrev pub instr_of : Scope → NamedInstr → Instr
instr_of s i = record { kind = low.Row i.kind; operands = regs_of s i.operands; results = regs_of s i.results; attr = attr_of s i.attr }

abbrev pub target_of : Scope → NamedTarget → Target
target_of s t = record { block = record { 0 = number_of s.blocks t.block }; args = regs_of s t.args }

abbrev pub term_of : Scope → NamedInstr → Term
term_of s i = record { instr = instr_of s i; targets = map (target_of s) i.targets }

-- the end of a block without instructions
abbrev pub no_term : Term
no_term = record { instr = record { kind = low.Row op.AioFinish; operands = []; results = []; attr = attr.None }; targets = [] }

-- the last instruction is the terminator, and the others stand before it
abbrev pub instrs_of : Scope → List NamedInstr → List Instr
instrs_of s [] = []
instrs_of s (i ∷ []) = []
instrs_of s (i ∷ j ∷ is) = instr_of s i ∷ instrs_of s (j ∷ is)

abbrev pub last_of : Scope → List NamedInstr → Term
last_of s [] = no_term
last_of s (i ∷ []) = term_of s i
last_of s (i ∷ j ∷ is) = last_of s (j ∷ is)

abbrev pub block_of : Scope → NamedBlock → Block
block_of s b = record { params = params_of s b.params; instrs = instrs_of s b.instrs; term = last_of s b.instrs }

-- the names that a function sees, beside those of functions
abbrev pub scope_of : List (List ℕ) → NamedFunc → Scope
scope_of funcs f = record { funcs = funcs; blocks = labels f.blocks; registers = register_names f }

abbrev pub func_in : Scope → NamedFunc → LowFunc
func_in s f = record {
  name = f.name;
  coroutine = f.coroutine;
  params = params_of s f.params;
  results = f.results;
  regs = register_types f;
  blocks = map (block_of s) f.blocks;
}

abbrev pub func_of : List (List ℕ) → NamedFunc → LowFunc
func_of funcs f = func_in (scope_of funcs f) f

-- the code that these functions stand for
abbrev pub code_of : List NamedFunc → LowModule
code_of fs = record { funcs = map (func_of (func_names fs)) fs }
