use Rattle.std.proofs.Common.{slice_get, sym, ap, ◌∙◌}
use Rattle.module_grammar.proofs.Named.{found_at, found_none}
use Rattle.module_grammar.proofs.names.found.Goals as goal

pub returns-in-Some : goal.returns-in-Some
returns-in-Some c =
    c.name_at.ensures ∙ ap (λ ns. slice_get ns c.in-Some.place) c.as_slice.ensures
    ∙ sym (found_at c.args.names.now c.args.text.now c.in-Some.place (sym c.first.ensures ∙ c.in-Some.is))

pub returns-in-None : goal.returns-in-None
returns-in-None c = sym (found_none c.args.names.now c.args.text.now (sym c.first.ensures ∙ c.in-None.is))
