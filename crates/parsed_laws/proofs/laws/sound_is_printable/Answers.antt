use Rattle.parsed_laws.proofs.Known.{sound_is_printable}
use Rattle.parsed_laws.proofs.laws.sound_is_printable.Goals as goal

pub returns : goal.returns
returns c = sound_is_printable c.reads_printable.ensures c.sound_uses_own.ensures
