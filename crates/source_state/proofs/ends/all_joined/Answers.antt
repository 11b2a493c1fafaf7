use Rattle.std.proofs.Common.{rules, arith}
use Rattle.source_meaning.specs.World.{is_good}
use Rattle.source_state.specs.Seen.{ends_of, end_of}
use Rattle.source_state.proofs.Loops.{stopped}
use Rattle.source_state.proofs.ends.all_joined.Goals as goal

pub returns-then-not-branch : goal.returns-then-not-branch
returns-then-not-branch c =
    stopped (λ q. is_good (end_of (ends_of c.args.ends.now.entries) q)) c.args.task.now c.args.action c.loop-i.i c.args.total c.loop-i.path.items c.in_ok-is_next_good.field-0 c.loop-i.invariant.0 c.in_ok-is_next_good.ensures.good (search rules) (search (rules, arith))
