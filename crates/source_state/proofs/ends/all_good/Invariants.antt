use Rattle.std.proofs.Common.{◌≡◌, length}
use Rattle.ir_forms.specs.Names.{maker}
use Rattle.source_meaning.specs.World.{all_of, is_good}
use Rattle.source_state.specs.Seen.{ends_of, end_of}
use Rattle.source_state.proofs.ends.all_good.Given as goal

abbrev pub invariant-loop-member : goal.invariant-loop-member
invariant-loop-member l =
    all_of (λ x. is_good (end_of (ends_of l.ends.entries) (maker x))) l.left ≡ all_of (λ x. is_good (end_of (ends_of l.ends.entries) (maker x))) l.members

abbrev pub decreases-loop-member : goal.decreases-loop-member
decreases-loop-member l = length l.left
