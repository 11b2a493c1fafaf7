-- What the machine makes of a lowered text is what the text stands for.
use Rattle.std.proofs.Common.{◌≡◌, List, Result, Ok, Err, refl, sym, ap, ◌∙◌, subst}
use Rattle.module_grammar.specs.declared.state.TextToken.{TextToken}
use Rattle.rule_machine.specs.Machine.{run}
use Rattle.rule_machine.proofs.Runs.{leads-run, run-leads}
use Rattle.low_grammar.specs.declared.named.NamedFunc.{NamedFunc}
use Rattle.low_grammar.specs.declared.state.State.{State}
use Rattle.low_grammar.specs.State.{at_start}
use Rattle.low_grammar.specs.Rules.{grammar}
use Rattle.low_grammar.specs.Texts.{whole, IsLowText, finished, reading, HasOneCode}

pub reads : (ts : List TextToken) (funcs : List NamedFunc) → IsLowText ts funcs → reading ts ≡ Ok funcs
reads ts funcs (s, leads, are) =
    ap finished (leads-run grammar whole at_start ts s leads) ∙ ap (λ (fs : List NamedFunc). Ok fs) (sym are)

ended : (ts : List TextToken) (funcs : List NamedFunc) (o : Result State (List TextToken)) → run grammar whole at_start ts ≡ o → finished o ≡ Ok funcs → IsLowText ts funcs
ended ts funcs (Ok s) e f = let are : s.funcs ≡ funcs = cc in (s, run-leads grammar ts whole at_start s e, sym are)
ended ts funcs (Err rest) e f = absurd cc

pub alone : (ts : List TextToken) (funcs : List NamedFunc) → reading ts ≡ Ok funcs → IsLowText ts funcs
alone ts funcs e = ended ts funcs (run grammar whole at_start ts) refl e

pub one : HasOneCode
one ts a b text other = let same : Ok a ≡ Ok b = sym (reads ts a text) ∙ reads ts b other in cc
