use Rattle.parsed_laws.proofs.Levels.{accepts_at_level}
use Rattle.parsed_laws.proofs.laws.accepts_at_level.Goals as goal

pub returns : goal.returns
returns c = accepts_at_level c.numbers_alone.ensures c.level_is_least.ensures
