use Rattle.std.proofs.Common.{◌≡◌, ◌++◌, drop}
use Rattle.mlir_print.specs.Docs.{bytes_of, more}
use Rattle.low_print.specs.Forms.{reg_doc}
use Rattle.low_print.proofs.regs.push_more_regs.Given as goal

-- the text so far, and what is left, are all
abbrev pub invariant-loop-reg : goal.invariant-loop-reg
invariant-loop-reg l =
    l.text.items ++ bytes_of (more reg_doc (drop l.reg-index l.regs)) ≡ l.initial.text.items ++ bytes_of (more reg_doc l.regs)
