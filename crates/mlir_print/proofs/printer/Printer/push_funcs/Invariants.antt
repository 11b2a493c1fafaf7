use Rattle.std.proofs.Common.{◌≡◌, ◌++◌, drop}
use Rattle.mlir_print.specs.Docs.{bytes_of}
use Rattle.mlir_print.specs.Printed.{printed_funcs}
use Rattle.mlir_print.proofs.printer.Printer.push_funcs.Given as goal

-- the text so far, and what is left, are all
abbrev pub invariant-loop-func : goal.invariant-loop-func
invariant-loop-func l =
    l.self.text.items ++ bytes_of (printed_funcs (drop l.func-index l.funcs) l.self.last) ≡ l.initial.self.text.items ++ bytes_of (printed_funcs l.funcs l.initial.self.last)
