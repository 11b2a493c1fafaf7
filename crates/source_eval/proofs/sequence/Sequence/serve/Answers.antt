use Rattle.std.proofs.Common.{map, reverse, ap, subst, ◌∙◌}
use Rattle.source_meaning.specs.Tasks.{resumed}
use Rattle.source_meaning.specs.Sequential.{Over, takes, unless_stopped}
use Rattle.source_eval.specs.Answered.{IsAnswered}
use Rattle.source_eval.specs.Following.{running_of}
use Rattle.source_eval.proofs.Moves.{taken_moves}
use Rattle.source_eval.proofs.sequence.Sequence.serve.Goals as goal

pub returns-in-Stops : goal.returns-in-Stops
returns-in-Stops c w top t a h like trace path taken =
    let old = c.args.self.now in
    let goes = resumed c.args.at c.args.names old.top.task in
    let stopped = subst (λ r. IsAnswered r c.answer.new.shared w.world c.as_slice.result.now old.top.taken a) c.in-Stops.is (c.in_ok-end.ensures w.world t a h like) in
    ap (λ o. unless_stopped o w.trace (takes w top (map running_of (reverse old.below.items)) a goes)) stopped ∙ ap (Over c.in-Stops.end) trace

pub returns-in_ok-take-in-Goes : goal.returns-in_ok-take-in-Goes
returns-in_ok-take-in-Goes c w top t a h like trace path taken =
    let old = c.args.self.now in
    let goes = resumed c.args.at c.args.names old.top.task in
    let answered = subst (λ q. IsAnswered c.in_ok-end.field-0 c.answer.new.shared w.world q old.top.taken a) c.as_slice.ensures (c.in_ok-end.ensures w.world t a h like) in
    let gone = subst (λ r. IsAnswered r c.answer.new.shared w.world old.top.path old.top.taken a) c.in-Goes.is answered in
    let done = c.in_ok-take-in-Goes.ensures in
    taken_moves w top (map running_of (reverse old.below.items)) goes a c.take.new.self c.answer.new.shared old.top.path old.top.taken old.entries
    c.in-Goes.action c.in-Goes.answer c.in-Goes.launched path taken trace gone done.stack done.shared done.entries
