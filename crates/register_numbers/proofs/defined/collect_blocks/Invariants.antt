use Rattle.std.proofs.Common.{◌≡◌, ◌++◌, map, drop}
use Rattle.ir_forms.specs.Numbers.{joined}
use Rattle.low_forms.specs.Assigned.{block_assigns}
use Rattle.register_numbers.proofs.defined.collect_blocks.Given as goal

abbrev pub invariant-loop-block : goal.invariant-loop-block
invariant-loop-block l = l.defined.items ++ joined (map block_assigns (drop l.block-index l.blocks)) ≡ l.initial.defined.items ++ joined (map block_assigns l.blocks)
