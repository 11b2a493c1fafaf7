use Rattle.std.proofs.Common.{sym, ap, subst, List, drop, ◌+◌}
use Rattle.std.proofs.lemmas.List.{take_rest}
use Rattle.module_grammar.specs.declared.state.TextToken.{TextToken}
use Rattle.module_grammar.specs.Faults.{module_or}
use Rattle.module_grammar.specs.Machines.{IsTaken, place_of}
use Rattle.module_grammar.proofs.Passes.{walk_stops}
use Rattle.module_grammar.proofs.machine.reader.read_from.Goals as goal

pub returns-in-Some : goal.returns-in-Some
returns-in-Some c =
    let taken : IsTaken c.args.limits.now c.args.level (place_of c.loop-at.machine) (place_of c.take.new.machine) c.index-tokens-at.result (drop (c.loop-at.at + 1) c.args.tokens.now) c.in_ok-fault.field-0 =
    subst (λ (ts : List TextToken). IsTaken c.args.limits.now c.args.level (place_of c.loop-at.machine) (place_of c.take.new.machine) c.index-tokens-at.result ts c.in_ok-fault.field-0)
    (take_rest c.args.tokens.now (c.loop-at.at + 1)) c.in_ok-fault.ensures in
    sym (ap module_or
    (walk_stops c.args.limits.now c.args.level c.args.tokens.now c.loop-at.at c.index-tokens-at.result (place_of c.loop-at.machine)
    (place_of c.take.new.machine) c.in_ok-fault.field-0 c.in-Some.fault _ c.loop-at-test.true c.index-tokens-at.is c.in-Some.is
    taken c.loop-at.invariant.rest))
