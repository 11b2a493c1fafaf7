use Rattle.std.proofs.Common.{◌≡◌, map, take}
use Rattle.step_core.specs.Cells.{buffer_of}
use Rattle.step_core.proofs.results.buffers_out.Given as goal

abbrev pub invariant-loop-argument : goal.invariant-loop-argument
invariant-loop-argument l = l.buffers ≡ map (λ a. buffer_of l.cells.buffers a) (take l.argument-index l.arguments)
