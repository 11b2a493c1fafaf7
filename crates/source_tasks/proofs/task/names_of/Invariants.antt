use Rattle.std.proofs.Common.{◌≡◌, take}
use Rattle.source_meaning.specs.Parts.{names_of}
use Rattle.source_tasks.proofs.task.names_of.Given as goal

abbrev pub invariant-loop-param : goal.invariant-loop-param
invariant-loop-param l = l.names ≡ names_of (take l.param-index l.params)
