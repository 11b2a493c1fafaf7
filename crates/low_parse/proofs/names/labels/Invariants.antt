use Rattle.std.proofs.Common.{◌≡◌, ◌++◌, drop}
use Rattle.low_names.specs.Numbers.{labels}
use Rattle.low_parse.proofs.names.labels.Given as goal

abbrev pub invariant-loop-block : goal.invariant-loop-block
invariant-loop-block l = l.names ++ labels (drop l.block-index l.blocks) ≡ labels l.blocks
