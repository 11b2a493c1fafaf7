use Rattle.std.proofs.Common.{◌≡◌, ◌++◌, drop}
use Rattle.mlir_print.specs.Docs.{bytes_of, more}
use Rattle.low_print.specs.Forms.{target_doc}
use Rattle.low_print.proofs.instrs.push_more_targets.Given as goal

-- the text so far, and what is left, are all
abbrev pub invariant-loop-target : goal.invariant-loop-target
invariant-loop-target l =
    l.text.items ++ bytes_of (more (target_doc l.func) (drop l.target-index l.targets)) ≡ l.initial.text.items ++ bytes_of (more (target_doc l.func) l.targets)
