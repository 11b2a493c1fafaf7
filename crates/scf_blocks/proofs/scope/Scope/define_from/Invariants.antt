use Rattle.std.proofs.Common.{◌≡◌, drop}
use Rattle.scf_blocks.specs.Code.{with_values}
use Rattle.scf_blocks.proofs.scope.Scope.define_from.Given as goal

abbrev pub invariant-loop-value : goal.invariant-loop-value
invariant-loop-value l = with_values (drop l.value-index l.values) l.next l.self ≡ with_values l.values l.first l.initial.self
