use Rattle.std.proofs.Common.{◌≡◌, ◌+◌, ◌/◌, ℕ, List, length, replicate, ap, ◌∙◌, rules}
use Rattle.std.proofs.lemmas.List.{length-replicate}
use Rattle.bit_sets.specs.Words.{bit_of}
use Rattle.bit_sets.proofs.SetLemmas.{truths_empty, no_bits}
use Rattle.bit_sets.proofs.bit_set.BitSet.new.Goals as goal

pub invariant_of-result : goal.invariant_of-result
invariant_of-result c =
    let is : c.in_ok-words.words.items ≡ replicate (c.args.limit / 64 + 1) 0 = search rules in (
      ap length is ∙ length-replicate (c.args.limit / 64 + 1) 0,
      λ n beyond. ap (λ (ws : List ℕ). bit_of ws n) is ∙ no_bits (c.args.limit / 64 + 1) n,
    )

pub returns : goal.returns
returns c =
    let is : c.in_ok-words.words.items ≡ replicate (c.args.limit / 64 + 1) 0 = search rules in
    truths_empty c.args.limit c.in_ok-words.words.items (λ n. ap (λ (ws : List ℕ). bit_of ws n) is ∙ no_bits (c.args.limit / 64 + 1) n)
