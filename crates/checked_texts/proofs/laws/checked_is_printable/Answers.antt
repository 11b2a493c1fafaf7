use Rattle.checked_texts.proofs.TextLaw.{checked_is_printable as law}
use Rattle.checked_texts.proofs.laws.checked_is_printable.Goals as goal

pub returns : goal.returns
returns c = law c.checked_is_sound.ensures c.values_in_order.ensures
