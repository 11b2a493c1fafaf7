use Rattle.std.proofs.Common.{◌≡◌, ◌++◌, drop}
use Rattle.mlir_print.specs.Docs.{bytes_of}
use Rattle.low_print.specs.Printed.{func_docs}
use Rattle.low_print.proofs.funcs.push_funcs.Given as goal

-- the text so far, and what is left, are all
abbrev pub invariant-loop-func : goal.invariant-loop-func
invariant-loop-func l =
    l.text.items ++ bytes_of (func_docs l.code (drop l.func-index l.func-items)) ≡ l.initial.text.items ++ bytes_of (func_docs l.code l.func-items)
