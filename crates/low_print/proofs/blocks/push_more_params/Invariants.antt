use Rattle.std.proofs.Common.{◌≡◌, ◌++◌, drop}
use Rattle.mlir_print.specs.Docs.{bytes_of, more}
use Rattle.low_print.specs.Printed.{param_doc}
use Rattle.low_print.proofs.blocks.push_more_params.Given as goal

-- the text so far, and what is left, are all
abbrev pub invariant-loop-param : goal.invariant-loop-param
invariant-loop-param l =
    l.text.items ++ bytes_of (more (param_doc l.spaced l.func) (drop l.param-index l.params)) ≡ l.initial.text.items ++ bytes_of (more (param_doc l.spaced l.func) l.params)
