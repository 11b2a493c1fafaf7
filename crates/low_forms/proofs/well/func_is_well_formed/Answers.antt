use Rattle.std.proofs.Common.{rules}
use Rattle.low_forms.proofs.WellLemmas.{alone_flows}
use Rattle.low_forms.proofs.well.func_is_well_formed.Goals as goal

pub returns : goal.returns
returns c = alone_flows c.args.code.now c.args.func.now c.in_ok-is.is' (search rules) c.in_ok-is.ensures
