use Rattle.std.proofs.Common.{◌≡◌, map, drop}
use Rattle.ir_forms.specs.Numbers.{joined}
use Rattle.made_funcs.specs.Values.{values_in, values_inside}
use Rattle.made_funcs.specs.Captures.{without_all}
use Rattle.made_funcs.proofs.captures.+removes.Given as goal

abbrev pub invariant-remove_defined-loop-region : goal.invariant-remove_defined-loop-region
invariant-remove_defined-loop-region l = without_all l.used.keys (map (λ p. p.0.0) (joined (map values_inside (drop l.region-index l.region-items)))) ≡ without_all l.fn.used.keys (map (λ p. p.0.0) (values_in l.fn.op))

abbrev pub invariant-remove_defined_inside-loop-op : goal.invariant-remove_defined_inside-loop-op
invariant-remove_defined_inside-loop-op l = without_all l.used.keys (map (λ p. p.0.0) (joined (map values_in (drop l.op-index l.op-items)))) ≡ without_all l.fn.used.keys (map (λ p. p.0.0) (values_inside l.fn.region))
