use Rattle.std.proofs.Common.{◌≡◌, map, take}
use Rattle.ir_verify.specs.Calls.{calls_of}
use Rattle.ir_verify.proofs.graph.graph_of.Given as goal

abbrev pub invariant-loop-func : goal.invariant-loop-func
invariant-loop-func l = l.graph.items ≡ map (calls_of l.funcs) (take l.func-index l.funcs)
