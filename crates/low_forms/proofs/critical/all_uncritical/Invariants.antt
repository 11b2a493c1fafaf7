use Rattle.std.proofs.Common.{◌≡◌, drop}
use Rattle.low_forms.specs.Registers.{every}
use Rattle.low_forms.specs.Counting.{is_uncritical_by}
use Rattle.low_forms.proofs.critical.all_uncritical.Given as goal

abbrev pub invariant-loop-blocks : goal.invariant-loop-blocks
invariant-loop-blocks l = every (is_uncritical_by l.counts) (drop l.blocks-index l.edges) ≡ every (is_uncritical_by l.counts) l.edges
