use Rattle.std.proofs.Common.{◌≡◌, ◌++◌, drop, map}
use Rattle.low_names.specs.Numbers.{block_of}
use Rattle.low_parse.specs.Scopes.{scope}
use Rattle.low_parse.proofs.code.blocks_of.Given as goal

abbrev pub invariant-loop-block : goal.invariant-loop-block
invariant-loop-block l = l.made ++ map (block_of (scope l.seen)) (drop l.block-index l.blocks) ≡ map (block_of (scope l.seen)) l.blocks
