-- The small traces, by computing.
use Rattle.std.proofs.Common.{refl}
use Rattle.race_order.specs.Worked.{WorkedRaces}

pub worked_races : WorkedRaces
worked_races = record {
  two_reads = refl;
  two_writes = refl;
  write_and_read = refl;
  read_and_write = refl;
  other_cells = refl;
  behind_await = refl;
  behind_last_access = refl;
  grouped = refl;
  loop_cells = refl;
  loop_race = refl;
  unused_ranks = refl;
  first_used = refl;
  second_used = refl;
}
