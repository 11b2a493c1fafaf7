use Rattle.std.proofs.Common.{[], ◌∷◌, List, Option, sym, subst}
use Rattle.module_grammar.specs.declared.symbols.Act.TheVariants as act
use Rattle.module_grammar.specs.declared.symbols.Rule.{Rule}
use Rattle.module_grammar.specs.declared.symbols.Symbol.{Symbol}
use Rattle.module_grammar.specs.declared.symbols.Symbol.TheVariants as symbol
use Rattle.module_grammar.specs.Choices.{IsChosen, form_lines}
use Rattle.module_grammar.specs.Engine.{Line, first_line}
use Rattle.module_grammar.specs.Rules.{grammar, ends, form_chosen}
use Rattle.module_grammar.proofs.NamedForms.{form_lines as named_forms}
use Rattle.module_grammar.proofs.state.State.form_at.Goals as goal

pub returns-in-Body : goal.returns-in-Body
returns-in-Body c =
    subst (λ (r : Rule). IsChosen (first_line (grammar c.args.level) (form_lines c.args.level r) c.args.self.now c.args.token.now) c.form_choice.result)
    (sym c.in-Body.is)
    (subst (λ (x : Option Line). IsChosen x c.form_choice.result)
    (sym (named_forms c.args.level (symbol.Do act.BeginOp ∷ []) ends c.args.self.now c.args.token.now))
    (subst (λ (x : List Symbol). IsChosen (form_chosen c.args.level (symbol.Do act.BeginOp ∷ []) x c.args.token.now) c.form_choice.result)
    c.ends.ensures c.form_choice.ensures))

pub returns-in-Form : goal.returns-in-Form
returns-in-Form c =
    subst (λ (r : Rule). IsChosen (first_line (grammar c.args.level) (form_lines c.args.level r) c.args.self.now c.args.token.now) c.form_choice-in-Form.result)
    (sym c.in-Form.is)
    (subst (λ (x : Option Line). IsChosen x c.form_choice-in-Form.result)
    (sym (named_forms c.args.level [] [] c.args.self.now c.args.token.now)) c.form_choice-in-Form.ensures)
