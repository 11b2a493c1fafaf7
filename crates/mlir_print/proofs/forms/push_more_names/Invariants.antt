use Rattle.std.proofs.Common.{◌≡◌, ◌++◌, drop}
use Rattle.mlir_print.specs.Docs.{bytes_of, more}
use Rattle.mlir_print.specs.Forms.{name_of_param}
use Rattle.mlir_print.proofs.forms.push_more_names.Given as goal

-- the text so far, and what is left, are all
abbrev pub invariant-loop-param : goal.invariant-loop-param
invariant-loop-param l =
    l.text.items ++ bytes_of (more name_of_param (drop l.param-index l.params)) ≡ l.initial.text.items ++ bytes_of (more name_of_param l.params)
