use Rattle.sound_loops.proofs.Serial.{serial_loop_is_fine}
use Rattle.sound_loops.proofs.laws.serial_loop_is_fine.Goals as goal

pub returns : goal.returns
returns c = serial_loop_is_fine
