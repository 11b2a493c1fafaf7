-- The words are joined one by one.
use Rattle.std.proofs.Common.{◌≡◌, ◌<◌, ◌||◌, ◌+◌, drop, ℕ, List, length, ap, ◌∙◌, rules}
use Rattle.std.specs.Prelude.{slice_index_or}
use Rattle.bit_sets.specs.Words.{word_at, united, grows}
use Rattle.bit_sets.proofs.WordLemmas.{long_on, unites_on, grows_on, truth_after, same_after, word_read, united_at_end, grown}
use Rattle.bit_sets.proofs.words.unite.Goals.{then-join_word, else-join_word}
use Rattle.bit_sets.proofs.words.unite.Goals as goal

pub loop-place-preserved : goal.loop-place-preserved
loop-place-preserved c =
    let k : ℕ = c.loop-place.place in
    let others : List ℕ = c.args.others.now in
    let words : List ℕ = c.loop-place.words.items in
    let more : ℕ = slice_index_or others k 0 in
    let inside : k < length others = c.loop-place-test.true in
    let is : more ≡ word_at others k = word_read others k 0 inside in
    let new_is : c.if-join_word.grows ≡ (c.loop-place.grows || c.join_word.result) = elim c.if-join_word.branch [
      | then-join_word w ↦ w.grows-is ∙ truth_after c.loop-place.grows c.join_word.result (search rules)
      | else-join_word w ↦ w.grows-is ∙ same_after c.loop-place.grows c.join_word.result (search rules)
    ] in
    record {
      long = ap length c.join_word.ensures.words ∙ long_on words others k more c.loop-place.invariant.long;
      words = ap (λ (ws : List ℕ). united (k + 1) (drop (k + 1) others) ws) c.join_word.ensures.words
          ∙ unites_on words others c.args.words.now.items k more inside is c.loop-place.invariant.words;
      grows = ap (λ (ws : List ℕ). c.if-join_word.grows || grows (k + 1) (drop (k + 1) others) ws) c.join_word.ensures.words
          ∙ grows_on words others c.args.words.now.items k more c.loop-place.grows c.join_word.result c.if-join_word.grows inside is c.join_word.ensures.changed new_is c.loop-place.invariant.grows;
    }

pub returns : goal.returns
returns c =
    let all : c.loop-place.words.items ≡ united 0 c.args.others.now c.args.words.now.items = united_at_end c.loop-place.words.items c.args.others.now c.args.words.now.items c.loop-place.place c.loop-place-test.false c.loop-place.invariant.words in
    record {
      words = all;
      grows = grown c.loop-place.words.items c.args.others.now c.args.words.now.items c.loop-place.place c.loop-place.grows c.loop-place-test.false c.requires all c.loop-place.invariant.grows c.type_inv.words;
    }
