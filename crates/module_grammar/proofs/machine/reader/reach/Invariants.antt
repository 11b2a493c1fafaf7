use Rattle.std.proofs.Common.{◌≡◌, drop, reverse}
use Rattle.module_grammar.specs.State.{at_start}
use Rattle.module_grammar.specs.Texts.{whole}
use Rattle.module_grammar.specs.Faults.{reached}
use Rattle.module_grammar.proofs.machine.reader.reach.Given as goal

abbrev pub invariant-loop-token : goal.invariant-loop-token
invariant-loop-token l =
    reached l.level (reverse l.machine.stack) l.machine.state (drop l.token-index l.tokens) ≡ reached l.level whole at_start l.tokens
