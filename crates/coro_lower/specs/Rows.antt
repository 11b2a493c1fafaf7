-- Instructions and terminators of the runtime.
use Rattle.std.specs.Prelude.{ℕ, List, [], map}
use Rattle.op_table.specs.declared.kind.OpKind.{OpKind}
use Rattle.op_table.specs.declared.kind.OpKind.TheVariants.{FuncCall, AioFinish}
use Rattle.low_forms.specs.declared.code.LowAttr.TheVariants.{None}
use Rattle.low_forms.specs.declared.code.LowKind.{LowKind}
use Rattle.low_forms.specs.declared.code.LowKind.TheVariants.{Row, Launch}
use Rattle.low_forms.specs.declared.code.Reg.{Reg}
use Rattle.low_forms.specs.declared.code.Instr.{Instr}
use Rattle.low_forms.specs.declared.code.Target.{Target}
use Rattle.low_forms.specs.declared.code.Term.{Term}
use Rattle.low_forms.specs.declared.code.Block.{Block}

abbrev pub row : OpKind → List Reg → List Reg → Instr
row kind operands results = record { kind = Row kind; operands = operands; results = results; attr = None }

-- a target without arguments
abbrev pub to : ℕ → Target
to n = record { block = record { 0 = n }; args = [] }

abbrev pub ends : OpKind → List Reg → List ℕ → Term
ends kind operands blocks = record { instr = row kind operands []; targets = map to blocks }

abbrev pub block : List Instr → Term → Block
block instrs term = record { params = []; instrs = instrs; term = term }

-- a block that does nothing
abbrev pub idle : Block
idle = block [] (ends AioFinish [] [])

-- a launch is a call of the coroutine
abbrev pub call_kind : LowKind → LowKind
call_kind Launch = Row FuncCall
call_kind kind = kind

abbrev pub called : Instr → Instr
called i = record i { kind = call_kind i.kind }
