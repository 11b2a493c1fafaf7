use Rattle.std.proofs.Common.{◌≡◌, drop}
use Rattle.low_forms.specs.Registers.{every}
use Rattle.low_forms.specs.Saves.{has_no_save}
use Rattle.low_forms.proofs.saves.none_has_saves.Given as goal

abbrev pub invariant-loop-block : goal.invariant-loop-block
invariant-loop-block l = every has_no_save (drop l.block-index l.blocks) ≡ every has_no_save l.blocks
