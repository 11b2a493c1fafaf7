-- The lists are all looked through.
use Rattle.std.proofs.Common.{◌≤◌, length, rules}
use Rattle.low_flow.proofs.InverseLemmas.{lists_end}
use Rattle.low_flow.proofs.places.inverse.Goals as goal

pub returns : goal.returns
returns c =
    let past : length c.args.lists.now ≤ c.loop-place.place = search rules in
    lists_end c.args.lists.now c.loop-place.place c.args.len c.loop-place.inverse.items past c.loop-place.invariant
