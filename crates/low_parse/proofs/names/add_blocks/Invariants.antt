use Rattle.std.proofs.Common.{◌≡◌, ◌++◌, drop, map}
use Rattle.ir_forms.specs.Numbers.{joined}
use Rattle.low_names.specs.Numbers.{block_names}
use Rattle.low_parse.proofs.names.add_blocks.Given as goal

abbrev pub invariant-loop-block : goal.invariant-loop-block
invariant-loop-block l = l.names ++ joined (map block_names (drop l.block-index l.blocks)) ≡ l.initial.names ++ joined (map block_names l.blocks)
