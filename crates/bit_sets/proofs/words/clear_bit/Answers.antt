use Rattle.std.proofs.Common.{◌≡◌, ◌/◌, ap, ◌∙◌}
use Rattle.std.specs.Int.{bit_at}
use Rattle.bit_sets.specs.Words.{word_at}
use Rattle.bit_sets.proofs.WordLemmas.{cleared_word, other_bits, word_read, in_words}
use Rattle.bit_sets.proofs.words.clear_bit.Goals as goal

pub returns-clause-clear : goal.returns-clause-clear
returns-clause-clear c = cleared_word c.args.words.now.items c.args.number c.without_bit.result c.requires c.without_bit.ensures.clear

pub returns-clause-others : goal.returns-clause-others
returns-clause-others c =
    let read : c.index.result.now ≡ word_at c.args.words.now.items (c.args.number / 64) =
    c.index.ensures ∙ word_read c.args.words.now.items (c.args.number / 64) c.index.result.now (in_words c.args.words.now.items c.args.number c.requires) in
    λ m other. other_bits c.args.words.now.items c.args.number c.without_bit.result m c.requires
    (λ i below apart. c.without_bit.ensures.others i below apart ∙ ap (λ w. bit_at w i) read) other
