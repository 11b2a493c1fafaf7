use Rattle.std.proofs.Common.{◌≡◌, drop, true}
use Rattle.low_forms.specs.Saves.{all_followed}
use Rattle.low_forms.proofs.saves.all_followed.Given as goal

abbrev pub invariant-loop-block : goal.invariant-loop-block
invariant-loop-block l = all_followed l.is_first (drop l.block-index l.blocks) ≡ all_followed true l.blocks
