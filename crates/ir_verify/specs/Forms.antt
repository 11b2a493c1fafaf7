-- The forms of operations, and what ends their regions.
use Rattle.std.specs.Prelude.{ℕ, zero, suc, Bool, true, false}
use Rattle.op_table.specs.declared.kind.OpKind.{OpKind}
use Rattle.op_table.specs.Rows.{Row, row_of}
use Rattle.ir_forms.specs.declared.ops.Op.{Op}
use Rattle.ir_forms.specs.Ops.{kind_of}
use Rattle.op_table.specs.declared.form.Form.{Form}
use Rattle.op_table.specs.declared.form.Form.TheVariants.{Return, For, If, While, Condition, Parallel, Reduce, Yield, Execute, TaskYield, Other}

abbrev pub form_of : OpKind → Form
form_of k = (row_of k).form

abbrev pub end_of_while : ℕ → Form
end_of_while zero = Condition
end_of_while (suc r) = Yield

-- what ends a region of an operation; the operations without regions have none that ends
abbrev pub end_asked : Form → ℕ → Form
end_asked For r = Yield
end_asked If r = Yield
end_asked While r = end_of_while r
end_asked Parallel r = Reduce
end_asked Execute r = TaskYield
end_asked _ r = Other

-- the second form is the first one, and it ends a region
abbrev pub ends : Form → Form → Bool
ends Return Return = true
ends Yield Yield = true
ends Condition Condition = true
ends Reduce Reduce = true
ends TaskYield TaskYield = true
ends _ _ = false

abbrev pub is_ending : Form → Bool
is_ending Return = true
is_ending Yield = true
is_ending Condition = true
is_ending Reduce = true
is_ending TaskYield = true
is_ending _ = false

abbrev pub row_at : Op → Row
row_at op = row_of (kind_of op)

abbrev pub form : Op → Form
form op = (row_at op).form
