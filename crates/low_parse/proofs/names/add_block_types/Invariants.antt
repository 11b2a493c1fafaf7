use Rattle.std.proofs.Common.{◌≡◌, ◌++◌, drop, map}
use Rattle.ir_forms.specs.Numbers.{joined}
use Rattle.low_names.specs.Numbers.{block_types}
use Rattle.low_parse.proofs.names.add_block_types.Given as goal

abbrev pub invariant-loop-block : goal.invariant-loop-block
invariant-loop-block l = l.list ++ joined (map block_types (drop l.block-index l.blocks)) ≡ l.initial.list ++ joined (map block_types l.blocks)
