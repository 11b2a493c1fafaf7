-- The last place is read.
use Rattle.std.proofs.Common.{◌≡◌, ◌-◌, length, Some, rules}
use Rattle.std.specs.Prelude.{slice_get}
use Rattle.low_flow.proofs.InverseLemmas.{last_some}
use Rattle.low_flow.proofs.places.is_last.Goals as goal

pub returns-in-Some : goal.returns-in-Some
returns-in-Some c =
    let there : slice_get c.args.places.now (length c.args.places.now - 1) ≡ Some c.in-Some.last = search rules in
    last_some c.args.places.now c.in-Some.last c.args.place there
