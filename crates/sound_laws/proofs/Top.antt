-- All laws.
use Rattle.sound_laws.specs.Laws.{ExtendedHasLevel, NumberedIsSound, NumberedHasLevel}
use Rattle.value_numbers.specs.Numbers.{value_numbered}
use Rattle.sound_laws.proofs.Numbered.{names_at, numbered_extends, numbered_is_sound as is_sound}
use Rattle.sound_laws.proofs.Levels.{extended_has_level as has_level}

pub extended_has_level : ExtendedHasLevel
extended_has_level = has_level

pub numbered_is_sound : NumberedIsSound
numbered_is_sound = is_sound

pub numbered_has_level : NumberedHasLevel
numbered_has_level level program le = has_level level (names_at program.funcs) program.funcs (value_numbered program).funcs (numbered_extends level program) le
