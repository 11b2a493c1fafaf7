-- The pass of checks keeps a module sound, and at its level.
use Rattle.op_table.specs.declared.rows.Level.TheVariants.{Checked}
use Rattle.sound_laws.specs.Laws.{ExtendedIsSound, ExtendedHasLevel, NumberedIsSound, NumberedHasLevel}
use Rattle.check_insert.specs.Laws.{CheckedIsSound, CheckedHasLevel}
use Rattle.check_insert.specs.Shape.{checked}
use Rattle.check_insert.proofs.Extended.{checked_extends, checked_names}

pub checked_is_sound : ExtendedIsSound → NumberedIsSound → CheckedIsSound
checked_is_sound extended numbered program sound = numbered (checked program) (extended Checked (checked_names program.funcs) program.funcs (checked program).funcs (checked_extends program sound) sound)

pub checked_has_level : ExtendedHasLevel → NumberedHasLevel → CheckedHasLevel
checked_has_level extended numbered program sound low = numbered Checked (checked program) (extended Checked (checked_names program.funcs) program.funcs (checked program).funcs (checked_extends program sound) low)
