-- What is asked of the machine behind tokens.
use Rattle.std.specs.Prelude.{Option, Some}
use Rattle.op_table.specs.declared.rows.Level.{Level}
use Rattle.module_grammar.specs.declared.machine.reader.Asked.{Asked}
use Rattle.module_grammar.specs.declared.machine.reader.Asked.TheVariants as asked
use Rattle.module_grammar.specs.declared.faults.TextLimits.{TextLimits}
use Rattle.module_grammar.specs.declared.faults.GrammarFault.{GrammarFault}
use Rattle.module_grammar.specs.declared.state.State.{State}
use Rattle.module_grammar.specs.Engine.{Place}
use Rattle.module_grammar.specs.Faults.{refusal, limit_passed}

abbrev pub told : TextLimits → Level → Asked → Place State → Option GrammarFault
told limits level (asked.Refusal t rest) place = Some (refusal limits level place.left place.state t.now rest.now)
told limits level (asked.Limit now t) place = limit_passed limits place.state now.now t.now
told limits level (asked.LastLimit now) place = limit_passed limits place.state now.now place.state.last
