use Rattle.std.proofs.Common.{[], ap, ◌∙◌}
use Rattle.source_meaning.specs.Values.{maybe}
use Rattle.source_state.proofs.Looks.{cells_looked}
use Rattle.source_state.proofs.stores.cells_at.Goals as goal

pub returns-in-Some : goal.returns-in-Some
returns-in-Some c = c.as_slice.ensures ∙ (ap (maybe [] (λ cells. cells)) c.in-Some.ensures.value ∙ cells_looked c.args.buffers.now.entries c.args.name.now)

pub returns-in-None : goal.returns-in-None
returns-in-None c = ap (maybe [] (λ cells. cells)) c.in-None.ensures.value ∙ cells_looked c.args.buffers.now.entries c.args.name.now
