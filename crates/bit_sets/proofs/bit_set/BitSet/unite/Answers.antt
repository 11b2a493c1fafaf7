use Rattle.std.proofs.Common.{◌≡◌, ◌||◌, ◌≤◌, ◌+◌, ◌/◌, List, Bool, ℕ, false, length, ap, ◌∙◌, sym, arith}
use Rattle.bit_sets.specs.Words.{bit_of, united}
use Rattle.bit_sets.proofs.SetLemmas.{united_bits, united_none, united_view, view_grows, view_long}
use Rattle.bit_sets.proofs.WordLemmas.{length_united}
use Rattle.bit_sets.proofs.bit_set.BitSet.unite.Goals as goal

same_limits : (limit more : ℕ) (view other : List Bool) → limit ≡ length view → more ≡ length other → length view ≡ length other → limit ≡ more
same_limits limit more view other is other_is same = is ∙ same ∙ sym other_is

same_lengths : (limit more : ℕ) (words others read : List ℕ) → length words ≡ limit / 64 + 1 → length others ≡ more / 64 + 1 → read ≡ others → limit ≡ more → length words ≡ length read
same_lengths limit more words others read is other_is read_is same = is ∙ ap (λ l. l / 64 + 1) same ∙ sym (ap length read_is ∙ other_is)

pub unite-requires : goal.unite-requires
unite-requires c = same_lengths c.self.inside.limit c.other.inside.limit c.self.inside.words.items c.other.inside.words.items c.deref.result.now
    c.self.invariant.0 c.other.invariant.0 c.deref.ensures.value
    (same_limits c.self.inside.limit c.other.inside.limit c.args.self.now c.args.other.now
    (view_long c.self.inside.limit c.self.inside.words.items c.args.self.now c.self.view_is) (view_long c.other.inside.limit c.other.inside.words.items c.args.other.now c.other.view_is) c.requires)

bits : (words read others news : List ℕ) → length words ≡ length read → read ≡ others → news ≡ united 0 read words → (n : ℕ) → bit_of news n ≡ (bit_of words n || bit_of others n)
bits words read others news long read_is is n = united_bits words read news (omega (arith, long)) is n ∙ ap (λ (ws : List ℕ). bit_of words n || bit_of ws n) read_is

none_on : (limit more : ℕ) (others : List ℕ) → limit ≡ more → ((n : ℕ) → more ≤ n → bit_of others n ≡ false) → (n : ℕ) → limit ≤ n → bit_of others n ≡ false
none_on limit more others same none n beyond = none n (omega (arith, same, beyond))

pub invariant_of-self : goal.invariant_of-self
invariant_of-self c =
    let same : c.self.inside.limit ≡ c.other.inside.limit = same_limits c.self.inside.limit c.other.inside.limit c.args.self.now c.args.other.now
    (view_long c.self.inside.limit c.self.inside.words.items c.args.self.now c.self.view_is) (view_long c.other.inside.limit c.other.inside.words.items c.args.other.now c.other.view_is) c.requires in
    let long : length c.self.inside.words.items ≡ length c.deref.result.now = same_lengths c.self.inside.limit c.other.inside.limit c.self.inside.words.items c.other.inside.words.items c.deref.result.now
    c.self.invariant.0 c.other.invariant.0 c.deref.ensures.value same in (
      ap length c.unite.ensures.words ∙ length_united 0 c.deref.result.now c.self.inside.words.items ∙ c.self.invariant.0,
      united_none c.self.inside.limit c.self.inside.words.items c.other.inside.words.items c.unite.new.words.items
          (bits c.self.inside.words.items c.deref.result.now c.other.inside.words.items c.unite.new.words.items long c.deref.ensures.value c.unite.ensures.words)
          c.self.invariant.1 (none_on c.self.inside.limit c.other.inside.limit c.other.inside.words.items same c.other.invariant.1),
    )

pub returns : goal.returns
returns c =
    let same : c.self.inside.limit ≡ c.other.inside.limit = same_limits c.self.inside.limit c.other.inside.limit c.args.self.now c.args.other.now
    (view_long c.self.inside.limit c.self.inside.words.items c.args.self.now c.self.view_is) (view_long c.other.inside.limit c.other.inside.words.items c.args.other.now c.other.view_is) c.requires in
    let long : length c.self.inside.words.items ≡ length c.deref.result.now = same_lengths c.self.inside.limit c.other.inside.limit c.self.inside.words.items c.other.inside.words.items c.deref.result.now
    c.self.invariant.0 c.other.invariant.0 c.deref.ensures.value same in
    let all : (n : ℕ) → bit_of c.unite.new.words.items n ≡ (bit_of c.self.inside.words.items n || bit_of c.other.inside.words.items n) =
    bits c.self.inside.words.items c.deref.result.now c.other.inside.words.items c.unite.new.words.items long c.deref.ensures.value c.unite.ensures.words in
    record {
      union = united_view c.self.inside.limit c.other.inside.limit c.self.inside.words.items c.other.inside.words.items c.unite.new.words.items c.args.self.now c.args.other.now
          c.self.view_is c.other.view_is same all;
      new = view_grows c.self.inside.limit c.self.inside.words.items c.unite.new.words.items c.args.self.now c.unite.result c.self.view_is c.self.invariant.1
          (united_none c.self.inside.limit c.self.inside.words.items c.other.inside.words.items c.unite.new.words.items all c.self.invariant.1
          (none_on c.self.inside.limit c.other.inside.limit c.other.inside.words.items same c.other.invariant.1))
          c.unite.ensures.grows;
    }
