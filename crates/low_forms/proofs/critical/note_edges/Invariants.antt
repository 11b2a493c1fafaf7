use Rattle.std.proofs.Common.{◌≡◌, drop}
use Rattle.low_forms.specs.Counting.{with_edges}
use Rattle.low_forms.proofs.critical.note_edges.Given as goal

abbrev pub invariant-loop-block : goal.invariant-loop-block
invariant-loop-block l = with_edges (drop l.block-index l.blocks) l.counts.items ≡ with_edges l.blocks l.initial.counts.items
