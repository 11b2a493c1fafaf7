use Rattle.std.proofs.Common.{◌≡◌, ◌+◌, ◌≤◌, drop}
use Rattle.ref_counting.specs.Shape.{times}
use Rattle.ref_counting.proofs.objects.times.Given as goal

abbrev pub invariant-loop-reg : goal.invariant-loop-reg
invariant-loop-reg l = record {
  within : l.count ≤ l.reg-index;
  counts : l.count + times l.number (drop l.reg-index l.regs) ≡ times l.number l.regs;
}
