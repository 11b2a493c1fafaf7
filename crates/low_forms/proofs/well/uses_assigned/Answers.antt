use Rattle.std.proofs.Common.{rules}
use Rattle.low_forms.proofs.WellLemmas.{uses_by}
use Rattle.low_forms.proofs.well.uses_assigned.Goals as goal

pub returns : goal.returns
returns c = uses_by c.args.func.now c.args.targets.now (search rules) c.in_ok-assigns.assigns.items c.in_ok-needs.needs.items c.len.result c.in_ok-is.is'
    (search rules) (search rules) (search rules) (search rules)
