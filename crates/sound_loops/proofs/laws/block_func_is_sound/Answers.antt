use Rattle.sound_loops.proofs.Blocks.{block_func_is_sound}
use Rattle.sound_loops.proofs.laws.block_func_is_sound.Goals as goal

pub returns : goal.returns
returns c = block_func_is_sound
