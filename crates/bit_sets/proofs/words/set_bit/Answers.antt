use Rattle.std.proofs.Common.{◌≡◌, ◌/◌, ap, ◌∙◌}
use Rattle.std.specs.Int.{bit_at}
use Rattle.bit_sets.specs.Words.{word_at}
use Rattle.bit_sets.proofs.WordLemmas.{set_word, other_bits, word_read, in_words}
use Rattle.bit_sets.proofs.words.set_bit.Goals as goal

pub returns-clause-set : goal.returns-clause-set
returns-clause-set c = set_word c.args.words.now.items c.args.number c.with_bit.result c.requires c.with_bit.ensures.set

pub returns-clause-others : goal.returns-clause-others
returns-clause-others c =
    let read : c.index.result.now ≡ word_at c.args.words.now.items (c.args.number / 64) =
    c.index.ensures ∙ word_read c.args.words.now.items (c.args.number / 64) c.index.result.now (in_words c.args.words.now.items c.args.number c.requires) in
    λ m other. other_bits c.args.words.now.items c.args.number c.with_bit.result m c.requires
    (λ i below apart. c.with_bit.ensures.others i apart ∙ ap (λ w. bit_at w i) read) other
