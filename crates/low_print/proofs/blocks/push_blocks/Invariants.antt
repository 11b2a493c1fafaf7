use Rattle.std.proofs.Common.{◌≡◌, ◌++◌, drop}
use Rattle.mlir_print.specs.Docs.{bytes_of}
use Rattle.low_print.specs.Printed.{block_docs}
use Rattle.low_print.proofs.blocks.push_blocks.Given as goal

-- the text so far, and what is left, are all
abbrev pub invariant-loop-number : goal.invariant-loop-number
invariant-loop-number l =
    l.text.items ++ bytes_of (block_docs l.code l.func l.number (drop l.number l.blocks)) ≡ l.initial.text.items ++ bytes_of (block_docs l.code l.func 0 l.blocks)
