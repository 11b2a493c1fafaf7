use Rattle.std.proofs.Common.{◌≡◌, drop}
use Rattle.low_forms.specs.Counting.{with_all, counted}
use Rattle.low_forms.proofs.critical.count_edges.Given as goal

abbrev pub invariant-loop-blocks : goal.invariant-loop-blocks
invariant-loop-blocks l = with_all (drop l.blocks-index l.edges) l.counts.items ≡ counted l.edges
