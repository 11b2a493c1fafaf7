-- What the rules of the grammar make of a text.
use Rattle.std.proofs.Common.{◌<◌, List, refl}
use Rattle.op_table.specs.declared.rows.Level.{Level}
use Rattle.module_grammar.specs.declared.state.State.{State}
use Rattle.module_grammar.specs.declared.state.TextToken.{TextToken}
use Rattle.module_grammar.specs.Engine.{Leads}
use Rattle.module_grammar.specs.Rules.{grammar}
use Rattle.module_grammar.specs.State.{at_start}
use Rattle.module_grammar.specs.Texts.{whole}
use Rattle.read_forms.specs.Reads.{HaveBytes}
use Rattle.read_forms.proofs.Outcomes.{FuncsShow, triples}
use Rattle.read_forms.proofs.Sound.{are-sound}
use Rattle.read_forms.proofs.Triples.{met}

pub tokens_show : (level : Level) (ts : List TextToken) (s : State) → Leads (grammar level) whole at_start ts s → HaveBytes ts → s.counted < 4294967295 → FuncsShow level s.funcs
tokens_show level ts s leads bytes few =
    met (triples level) level (are-sound level) (λ z. FuncsShow level z.funcs) whole at_start ts s leads bytes few
    (record { read = refl; held = refl; funcs = tt }, λ x n. λ u v w. x.funcs)
