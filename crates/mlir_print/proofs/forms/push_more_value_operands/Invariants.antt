use Rattle.std.proofs.Common.{◌≡◌, ◌++◌, drop}
use Rattle.mlir_print.specs.Docs.{bytes_of}
use Rattle.mlir_print.specs.Forms.{more_value_operands}
use Rattle.mlir_print.proofs.forms.push_more_value_operands.Given as goal

-- the text so far, and what is left, are all
abbrev pub invariant-loop-place : goal.invariant-loop-place
invariant-loop-place l =
    l.text.items ++ bytes_of (more_value_operands (drop l.place l.list) (drop l.place l.params) (drop l.place l.types))
    ≡ l.initial.text.items ++ bytes_of (more_value_operands l.list l.params l.types)
