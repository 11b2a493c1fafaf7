use Rattle.std.proofs.Common.{◌≡◌, ◌||◌, length, drop}
use Rattle.bit_sets.specs.Words.{united, grows}
use Rattle.bit_sets.proofs.words.unite.Given as goal

abbrev pub invariant-loop-place : goal.invariant-loop-place
invariant-loop-place l = record {
  long : length l.words.items ≡ length l.others;
  words : united l.place (drop l.place l.others) l.words.items ≡ united 0 l.others l.initial.words.items;
  grows : (l.grows || grows l.place (drop l.place l.others) l.words.items) ≡ grows 0 l.others l.initial.words.items;
}
