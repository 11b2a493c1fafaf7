use Rattle.std.proofs.Common.{◌≡◌, ◌++◌, drop}
use Rattle.mlir_print.specs.Docs.{bytes_of, more}
use Rattle.mlir_print.proofs.commas.push_more.Given as goal

-- the text so far, and what is left, are all
abbrev pub invariant-loop-item : goal.invariant-loop-item
invariant-loop-item g l =
    l.text.items ++ bytes_of (more g.T.Print.doc (drop l.item-index l.items)) ≡ l.initial.text.items ++ bytes_of (more g.T.Print.doc l.items)
