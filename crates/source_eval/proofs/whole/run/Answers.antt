use Rattle.std.proofs.Common.{Some, None, sym, subst}
use Rattle.source_meaning.specs.Sequential as run
use Rattle.source_meaning.specs.Sequential.{move}
use Rattle.source_eval.specs.Following.{IsLike, IsMoved, HasCome}
use Rattle.source_eval.proofs.WholeSteps.{begins_more, goes_more, no_fuel}
use Rattle.source_eval.proofs.whole.run.Goals as goal
use Rattle.source_eval.proofs.whole.run.Goals.{then-begins+else-begun-fuel, else-begins}

pub returns-then-begun-fuel : goal.returns-then-begun-fuel
returns-then-begun-fuel c = λ k args entry like. (
  c.loop-turn.begun,
  no_fuel c.args.facts.now k c.args.fuel args c.loop-turn.begun c.loop-turn.sequence (c.loop-turn.invariant k args entry like) (sym c.if-begins.ensures) c.if-begun-fuel.true,
)

pub returns-in-Some : goal.returns-in-Some
returns-in-Some c = λ k args entry like.
    let come = c.loop-turn.invariant k args entry like in
    let moves = subst (λ end. (w : run.Sequence) → IsLike c.loop-turn.sequence w → IsMoved end c.advance.new.self (move c.args.facts.now k w)) c.in-Some.is (λ w same. c.in_ok-end.ensures k w entry same) in (
      c.if-begins.begun,
      elim c.if-begins.branch [
        | then-begins+else-begun-fuel w ↦ begins_more c.args.facts.now k c.args.fuel args c.loop-turn.begun c.loop-turn.sequence c.advance.new.self (Some c.in-Some.end) come (sym w.if-begins.ensures) w.if-begun-fuel.false moves
        | else-begins w ↦ goes_more c.args.facts.now k c.args.fuel args c.loop-turn.begun c.loop-turn.sequence c.advance.new.self (Some c.in-Some.end) come (sym w.if-begins.ensures) moves
      ],
    )

pub loop-turn-preserved : goal.loop-turn-preserved
loop-turn-preserved c = λ k args entry like.
    let come = c.loop-turn.invariant k args entry like in
    let moves = subst (λ end. (w : run.Sequence) → IsLike c.loop-turn.sequence w → IsMoved end c.advance.new.self (move c.args.facts.now k w)) c.in_default.is (λ w same. c.in_ok-end.ensures k w entry same) in
    elim c.if-begins.branch [
      | then-begins+else-begun-fuel w ↦ subst (λ n. HasCome c.args.facts.now k c.args.fuel args None n c.advance.new.self) (sym w.begun-is)
          (begins_more c.args.facts.now k c.args.fuel args c.loop-turn.begun c.loop-turn.sequence c.advance.new.self None come (sym w.if-begins.ensures) w.if-begun-fuel.false moves)
      | else-begins w ↦ subst (λ n. HasCome c.args.facts.now k c.args.fuel args None n c.advance.new.self) (sym w.begun-is)
          (goes_more c.args.facts.now k c.args.fuel args c.loop-turn.begun c.loop-turn.sequence c.advance.new.self None come (sym w.if-begins.ensures) moves)
    ]
