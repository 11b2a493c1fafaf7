-- The definitions compute what worked runs show.
use Rattle.std.proofs.Common.{refl}
use Rattle.machines.specs.Machine.{run}
use Rattle.code_machines.specs.Worked.{SevenShows, ErrorShows, HighSevenShows, HighErrorShows, WorkedShows}

seven_shows : SevenShows
unfolding run
seven_shows = refl

error_shows : ErrorShows
unfolding run
error_shows = refl

high_seven_shows : HighSevenShows
unfolding run
high_seven_shows = refl

high_error_shows : HighErrorShows
unfolding run
high_error_shows = refl

pub worked_shows : WorkedShows
worked_shows = (seven_shows, error_shows, high_seven_shows, high_error_shows)
