-- Code with the names that it prints with.
use Rattle.std.specs.Prelude.{ℕ, ◌+◌, List, [], ◌∷◌, ◌++◌, map, Option, Some, None, codes, decimal, unwrap_or}
use Rattle.op_table.specs.declared.kind.OpKind.{OpKind}
use Rattle.op_table.specs.declared.kind.OpKind.TheVariants as op
use Rattle.ir_forms.specs.declared.types.Ty.{Ty}
use Rattle.ir_forms.specs.declared.types.Ty.TheVariants as ty
use Rattle.low_forms.specs.declared.code.Reg.{Reg}
use Rattle.low_forms.specs.declared.code.LowKind.{LowKind}
use Rattle.low_forms.specs.declared.code.LowKind.TheVariants as low
use Rattle.low_forms.specs.declared.code.LowAttr.{LowAttr}
use Rattle.low_forms.specs.declared.code.LowAttr.TheVariants as attr
use Rattle.low_forms.specs.declared.code.Instr.{Instr}
use Rattle.low_forms.specs.declared.code.Target.{Target}
use Rattle.low_forms.specs.declared.code.Term.{Term}
use Rattle.low_forms.specs.declared.code.Block.{Block}
use Rattle.low_forms.specs.declared.code.LowFunc.{LowFunc}
use Rattle.low_forms.specs.declared.code.LowModule.{LowModule}
use Rattle.low_forms.specs.Registers.{reg_type, callee}
use Rattle.low_grammar.specs.declared.named.NamedAttr.{NamedAttr}
use Rattle.low_grammar.specs.declared.named.NamedAttr.TheVariants as carries
use Rattle.low_grammar.specs.declared.named.NamedParam.{NamedParam}
use Rattle.low_grammar.specs.declared.named.NamedTarget.{NamedTarget}
use Rattle.low_grammar.specs.declared.named.NamedInstr.{NamedInstr}
use Rattle.low_grammar.specs.declared.named.NamedBlock.{NamedBlock}
use Rattle.low_grammar.specs.declared.named.NamedFunc.{NamedFunc}

-- `%` and the register's number, `^bb` and the block's
abbrev pub reg_name : Reg → List ℕ
reg_name r = 37 ∷ decimal r.0

abbrev pub block_name : ℕ → List ℕ
block_name n = codes "^bb" ++ decimal n

abbrev pub kind_of : LowKind → OpKind
kind_of (low.Row k) = k
kind_of low.Launch = op.FuncCall
kind_of low.Await = op.AsyncRuntimeAwait

abbrev pub callee_name : Option LowFunc → List ℕ
callee_name (Some f) = f.name
callee_name None = []

abbrev pub named_attr : LowModule → LowAttr → NamedAttr
named_attr code attr.None = carries.None
named_attr code (attr.Literal negative magnitude) = carries.Literal negative magnitude
named_attr code (attr.Truth truth) = carries.Truth truth
named_attr code (attr.Pred p) = carries.Pred p
named_attr code (attr.Count n) = carries.Count n
named_attr code (attr.Callee f) = carries.Callee (callee_name (callee code (attr.Callee f)))

abbrev pub type_of : LowFunc → Reg → Ty
type_of f r = unwrap_or (reg_type f r) ty.Untyped

abbrev pub named_param : LowFunc → Reg → NamedParam
named_param f r = record { name = reg_name r; ty = type_of f r }

abbrev pub named_target : Target → NamedTarget
named_target t = record { block = block_name t.block.0; args = map reg_name t.args }

abbrev pub named_instr : LowModule → LowFunc → Instr → List Target → NamedInstr
named_instr code f i targets = record {
  kind = kind_of i.kind;
  operands = map reg_name i.operands;
  results = map reg_name i.results;
  types = map (type_of f) i.results;
  attr = named_attr code i.attr;
  targets = map named_target targets;
}

abbrev pub named_instrs : LowModule → LowFunc → List Instr → Term → List NamedInstr
named_instrs code f [] t = named_instr code f t.instr t.targets ∷ []
named_instrs code f (i ∷ is) t = named_instr code f i [] ∷ named_instrs code f is t

abbrev pub named_blocks : LowModule → LowFunc → ℕ → List Block → List NamedBlock
named_blocks code f n [] = []
named_blocks code f n (b ∷ bs) =
    record { name = block_name n; params = map (named_param f) b.params; instrs = named_instrs code f b.instrs b.term }
    ∷ named_blocks code f (n + 1) bs

abbrev pub named_func : LowModule → LowFunc → NamedFunc
named_func code f = record {
  name = f.name;
  coroutine = f.coroutine;
  params = map (named_param f) f.params;
  results = f.results;
  blocks = named_blocks code f 0 f.blocks;
}

abbrev pub named_code : LowModule → List NamedFunc
named_code code = map (named_func code) code.funcs
