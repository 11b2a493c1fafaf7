use Rattle.std.proofs.Common.{◌≡◌, ℕ, ◌+◌, ◌-◌, Some, slice_get, vec_len}
use Rattle.ir_verify.proofs.scope.make_room.Given as goal

abbrev pub decreases-loop-slots : goal.decreases-loop-slots
decreases-loop-slots l = l.place + 1 - vec_len l.slots

abbrev pub invariant-loop-slots : goal.invariant-loop-slots
invariant-loop-slots l = (k p : ℕ) → slice_get l.initial.slots.items k ≡ Some p → slice_get l.slots.items k ≡ Some p
