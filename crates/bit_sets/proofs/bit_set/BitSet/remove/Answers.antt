use Rattle.std.proofs.Common.{false, ◌∙◌}
use Rattle.bit_sets.proofs.SetLemmas.{set_view, kept_view, still_none, one_more_within}
use Rattle.bit_sets.proofs.bit_set.BitSet.remove.Goals as goal

pub clear_bit-requires : goal.clear_bit-requires
clear_bit-requires c = one_more_within _ _ _ c.self.invariant.0 c.if-number-self.true

pub invariant_of-self : goal.invariant_of-self
invariant_of-self c = (
  c.clear_bit.ensures.len ∙ c.self.invariant.0,
  still_none c.self.inside.limit c.args.number c.self.inside.words.items c.clear_bit.new.words.items c.if-number-self.true c.clear_bit.ensures.others c.self.invariant.1,
)

pub returns-then-number-self : goal.returns-then-number-self
returns-then-number-self c = set_view c.self.inside.limit c.self.inside.words.items c.clear_bit.new.words.items c.args.self.now c.args.number false
    c.self.view_is c.if-number-self.true c.clear_bit.ensures.clear c.clear_bit.ensures.others

pub returns-else-number-self : goal.returns-else-number-self
returns-else-number-self c = kept_view c.self.inside.limit c.self.inside.words.items c.args.self.now c.args.number false c.self.view_is c.if-number-self.false
