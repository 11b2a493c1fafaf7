use Rattle.std.proofs.Common.{◌≡◌, map, drop}
use Rattle.ir_forms.specs.Numbers.{joined}
use Rattle.made_funcs.specs.Captures.{uses_in, uses_inside, with_all}
use Rattle.made_funcs.proofs.captures.+uses.Given as goal

abbrev pub invariant-add_used-loop-region : goal.invariant-add_used-loop-region
invariant-add_used-loop-region l = with_all l.used.keys (joined (map uses_inside (drop l.region-index l.region-items))) ≡ with_all l.fn.used.keys (uses_in l.fn.op)

abbrev pub invariant-add_used_inside-loop-op : goal.invariant-add_used_inside-loop-op
invariant-add_used_inside-loop-op l = with_all l.used.keys (joined (map uses_in (drop l.op-index l.op-items))) ≡ with_all l.fn.used.keys (uses_inside l.fn.region)
