use Rattle.std.proofs.Common.{◌≡◌, ◌++◌, map, drop}
use Rattle.ir_forms.specs.Numbers.{joined}
use Rattle.made_funcs.specs.Values.{values_in, values_inside}
use Rattle.made_funcs.proofs.defined.+defines.Given as goal

abbrev pub invariant-push_defined-loop-region : goal.invariant-push_defined-loop-region
invariant-push_defined-loop-region l = l.values ++ joined (map values_inside (drop l.region-index l.region-items)) ≡ l.fn.values ++ values_in l.fn.op

abbrev pub invariant-push_inside-loop-op : goal.invariant-push_inside-loop-op
invariant-push_inside-loop-op l = l.values ++ joined (map values_in (drop l.op-index l.op-items)) ≡ l.fn.values ++ values_inside l.fn.region
