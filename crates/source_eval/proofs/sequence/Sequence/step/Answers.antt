use Rattle.std.proofs.Common.{◌∷◌, map, reverse, refl, sym, subst}
use Rattle.std.proofs.lemmas.Result.{IfOk-weaker}
use Rattle.source_meaning.specs.Tasks.{Goes}
use Rattle.source_meaning.specs.Steps.{next}
use Rattle.source_tasks.specs.Asking.{IsStep}
use Rattle.source_eval.specs.Following.{IsMoved, running_of}
use Rattle.source_eval.proofs.Moves.{step_moves, ask_moves}
use Rattle.source_eval.proofs.sequence.Sequence.step.Goals as goal

pub returns-in-Went : goal.returns-in-Went
returns-in-Went c k w entry like =
    let old = c.args.self.now in
    let p = c.args.facts.now in
    let top = running_of old.top in
    let below = map running_of (reverse old.below.items) in
    let went = subst (λ s. IsStep s old.top.task c.step.new.self (next p old.top.task)) c.in-Went.is c.in_ok-step.ensures in (
      record w { stack = record top { task = c.step.new.self } ∷ below },
      step_moves p k w top below (Goes c.step.new.self) like.stack went,
      record { stack = refl; world = like.world; trace = like.trace },
    )

pub returns-in-Asks : goal.returns-in-Asks
returns-in-Asks c =
    let old = c.args.self.now in
    let p = c.args.facts.now in
    let top = running_of old.top in
    let below = map running_of (reverse old.below.items) in
    let asks = subst (λ s. IsStep s old.top.task c.step.new.self (next p old.top.task)) c.in-Asks.is c.in_ok-step.ensures in
    IfOk-weaker c.serve.result _ _ (λ end served k w entry like.
    subst (IsMoved end c.serve.new.self) (sym (ask_moves p k w top below c.in-Asks.at c.in-Asks.asked asks.0 c.in-Asks.names c.step.new.self like.stack asks.2 asks.1 c.requires.none))
    (served w top old.top.task asks.0 asks.1 like.world like.trace refl refl)) c.serve.ensures
