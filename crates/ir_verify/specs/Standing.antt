-- The verifier's places, read as those of the definitions.
use Rattle.std.specs.Option.{option_copied}
use Rattle.ir_verify.specs.declared.standing.Around as around_in_code
use Rattle.ir_verify.specs.declared.standing.Place as place_in_code
use Rattle.ir_verify.specs.Places.{Around, Place}

abbrev pub around_of : around_in_code.Around → Around
around_of s = record { func = s.func.now; is_called = s.is_called; holder = option_copied s.holder; region = s.region; nest = s.nest }

abbrev pub place_at : place_in_code.Place → Place
place_at s = record { around = around_of s.around; is_last = s.is_last; callee = option_copied s.callee; op = s.op.now }
