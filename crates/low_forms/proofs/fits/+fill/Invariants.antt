use Rattle.std.proofs.Common.{length}
use Rattle.low_forms.proofs.fits.+fill.Given as goal

abbrev pub decreases-fill : goal.decreases-fill
decreases-fill l = length l.slots.now
