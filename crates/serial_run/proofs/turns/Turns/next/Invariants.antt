use Rattle.std.proofs.Common.{length}
use Rattle.serial_run.proofs.turns.Turns.next.Given as goal

abbrev pub decreases-loop-next : goal.decreases-loop-next
decreases-loop-next l = length l.self.waiting.items
