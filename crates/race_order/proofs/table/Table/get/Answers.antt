use Rattle.std.proofs.Common.{◌∙◌, ap}
use Rattle.std.specs.Option.{unwrap_or}
use Rattle.race_order.proofs.Entries.{looks_up}
use Rattle.race_order.proofs.table.Table.get.Goals as goal

pub returns : goal.returns
returns c = c.unwrap_or.ensures ∙ (ap (λ o. unwrap_or o 0) (c.copied.ensures ∙ c.get.ensures.value) ∙ looks_up c.args.self.now.entries.entries c.args.key.now)
