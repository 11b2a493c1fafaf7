use Rattle.race_order.specs.Sights.{sight}
use Rattle.race_order.proofs.search.race_with.Given as goal

abbrev pub ghost-earliest : goal.ghost-earliest
ghost-earliest a = sight a.trace.now.entries a.place
