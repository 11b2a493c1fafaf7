-- What computing instructions come to. Arithmetic, casts and comparisons are those of source modules.
use Rattle.std.specs.Prelude.{ℕ, cond, nat_eq, List, Option, Some, slice_get}
use Rattle.std.specs.Option.{option_map}
use Rattle.ir_forms.specs.declared.ops.Attr.{Attr}
use Rattle.ir_forms.specs.declared.ops.Attr.TheVariants as attr
use Rattle.low_forms.specs.declared.code.LowAttr.{LowAttr}
use Rattle.low_forms.specs.declared.code.LowAttr.TheVariants as low
use Rattle.low_forms.specs.declared.code.LowFunc.{LowFunc}
use Rattle.low_forms.specs.declared.code.Instr.{Instr}
use Rattle.low_forms.specs.Registers.{type_at}
use Rattle.source_meaning.specs.Parts.{width_of}
use Rattle.source_meaning.specs.Rows.{literal_bits, at_width, result_at, compared_at, sign_cast}
use Rattle.task_stack.specs.declared.effects.Number as one
use Rattle.task_stack.specs.declared.effects.Number.TheVariants as number
use Rattle.async_objects.specs.declared.kinds.Val.{Val}
use Rattle.async_objects.specs.declared.kinds.Val.TheVariants.{Number}
use Rattle.task_stack.specs.Registers as regs
use Rattle.task_stack.specs.Registers.{value, dims_in}

-- the width of its first result
abbrev pub result_width : LowFunc → Instr → ℕ
result_width f i = width_of (type_at f i.results 0)

-- the width of its first operand
abbrev pub operand_width : LowFunc → Instr → ℕ
operand_width f i = width_of (type_at f i.operands 0)

-- what an instruction carries, as operations carry it
abbrev pub carried : LowAttr → Attr
carried (low.Literal negative magnitude) = attr.Literal negative magnitude
carried (low.Truth bit) = attr.Truth bit
carried (low.Pred p) = attr.Pred p
carried _ = attr.None

-- the first value where the condition is true
abbrev pub chosen : ℕ → Val → Val → Val
chosen n v w = cond (nat_eq n 0) w v

-- what an instruction computes from these values of its operands, if there is a result
abbrev pub computed : one.Number → LowFunc → Instr → List Val → Option Val
computed number.Constant f i vs = Some (Number (at_width (result_width f i) (literal_bits (carried i.attr))))
computed (number.Binary b) f i vs = option_map Number (result_at (result_width f i) b (regs.number vs 0) (regs.number vs 1))
computed number.Compare f i vs = Some (Number (compared_at (operand_width f i) (carried i.attr) (regs.number vs 0) (regs.number vs 1)))
computed number.Select f i vs = Some (chosen (regs.number vs 0) (value vs 1) (value vs 2))
computed number.ExtendSign f i vs = Some (Number (sign_cast (operand_width f i) (result_width f i) (regs.number vs 0)))
computed number.FitWidth f i vs = Some (Number (at_width (result_width f i) (regs.number vs 0)))
computed number.Dimension f i vs = option_map Number (slice_get (dims_in (value vs 0)) (regs.number vs 1))
computed number.Zero f i vs = Some (Number 0)
