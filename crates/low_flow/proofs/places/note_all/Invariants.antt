use Rattle.std.proofs.Common.{◌≡◌, drop}
use Rattle.low_flow.specs.Lists.{with_places}
use Rattle.low_flow.proofs.places.note_all.Given as goal

abbrev pub invariant-loop-number : goal.invariant-loop-number
invariant-loop-number l = with_places l.place (drop l.number-index l.numbers) l.lists.items ≡ with_places l.place l.numbers l.initial.lists.items
