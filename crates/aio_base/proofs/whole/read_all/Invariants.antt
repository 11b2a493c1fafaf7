use Rattle.std.proofs.Common.{◌≤◌, vec_len}
use Rattle.std.specs.Io.KnownBytes.{Consumes}
use Rattle.aio_base.proofs.whole.read_all.Given as goal

abbrev pub invariant-loop-turn : goal.invariant-loop-turn
invariant-loop-turn g l = record {
  each_turn : l._turn ≤ vec_len l.all;
  within : vec_len l.all ≤ l.limit;
  read : Consumes (g.S.Source.left l.initial.source) (g.S.Source.left l.source) l.all.items;
  counted : g.S.Source.faults l.initial.source ≤ g.S.Source.faults l.source;
}
