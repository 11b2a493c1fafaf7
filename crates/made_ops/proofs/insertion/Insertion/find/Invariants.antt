use Rattle.std.proofs.Common.{◌≡◌, drop}
use Rattle.made_ops.specs.Made.{found}
use Rattle.made_ops.proofs.insertion.Insertion.find.Given as goal

abbrev pub invariant-loop-known : goal.invariant-loop-known
invariant-loop-known l = found l.ty l.bits l.self.known ≡ found l.ty l.bits (drop l.known-index l.known-items)
