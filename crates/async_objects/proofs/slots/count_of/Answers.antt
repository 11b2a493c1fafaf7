use Rattle.std.proofs.Common.{refl}
use Rattle.std.proofs.lemmas.Option.{slice_get_read}
use Rattle.async_objects.proofs.SlotLemmas.{search_count, search_none}
use Rattle.async_objects.proofs.slots.count_of.Goals as goal

pub returns-then-slot-number : goal.returns-then-slot-number
returns-then-slot-number c = search_count c.args.slots.now c.search.result c.args.number c.index-slots-search.result c.search.ensures.within (slice_get_read c.args.slots.now _ _ _ refl c.search.ensures.within c.index-slots-search.is) c.search.ensures.place c.if-slot-number.true

pub returns-else-slot-number : goal.returns-else-slot-number
returns-else-slot-number c = search_none c.args.slots.now c.search.result c.args.number c.index-slots-search.result c.search.ensures.within (slice_get_read c.args.slots.now _ _ _ refl c.search.ensures.within c.index-slots-search.is) c.search.ensures.place c.if-slot-number.false
