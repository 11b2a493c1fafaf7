-- The worked run computes.
use Rattle.std.proofs.Common.{refl}
use Rattle.count_equation.specs.Worked.{SevenIsEqual, equal_along}

pub seven_is_equal : SevenIsEqual
unfolding equal_along
seven_is_equal = refl
