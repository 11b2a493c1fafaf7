use Rattle.std.proofs.Common.{◌≡◌, length}
use Rattle.object_tests.proofs.many.as_many_objects_as_may_be.Given as goal

abbrev pub invariant-loop-number : goal.invariant-loop-number
invariant-loop-number g l = length l.objects.objects ≡ l.number
