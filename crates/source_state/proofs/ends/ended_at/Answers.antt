use Rattle.std.proofs.Common.{ap, ◌∙◌}
use Rattle.std.specs.Option.{option_map}
use Rattle.source_state.specs.Seen.{outcome_of}
use Rattle.source_state.proofs.Looks.{end_looked}
use Rattle.source_state.proofs.ends.ended_at.Goals as goal

pub returns : goal.returns
returns c = ap (option_map outcome_of) c.get.ensures.value ∙ end_looked c.args.ends.now.entries c.args.task.now
