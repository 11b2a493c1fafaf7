use Rattle.std.proofs.Common.{List, ℕ, ap, ◌∙◌}
use Rattle.bit_sets.specs.Words.{bit_of}
use Rattle.bit_sets.proofs.SetLemmas.{in_view}
use Rattle.bit_sets.proofs.bit_set.BitSet.contains.Goals as goal

pub returns : goal.returns
returns c =
    c.bit_of.ensures ∙ ap (λ (ws : List ℕ). bit_of ws c.args.number) c.deref.ensures.value
    ∙ in_view c.self.inside.limit c.self.inside.words.items c.args.self.now c.args.number c.self.view_is c.self.invariant.1
