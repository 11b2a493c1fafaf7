-- Steps that count references, by the objects alone.
use Rattle.std.specs.Prelude.{◌≡◌, ◌<◌, ◌+◌, ◌^◌, nat_le, cond, Bool, true, false}
use Rattle.async_objects.specs.Objects.{object_at}
use Rattle.async_objects.specs.Counts.{count_at, is_there}
use Rattle.async_objects.specs.Tables.{Table}
use Rattle.task_stack.specs.declared.steps.CountStep.{CountStep}
use Rattle.step_core.specs.Core.{own_count}

-- the object is there, and a drop leaves those that it keeps itself
abbrev pub may_count : CountStep → Table → Bool
may_count s t = cond (is_there t.counts s.object) (cond s.adds true (nat_le (s.n + own_count (object_at t.objects s.object)) (count_at t.counts s.object.0))) false

-- a count of 64 bits stays one
abbrev pub Fits64 : CountStep → Table → Type 0
Fits64 s t = s.adds ≡ true → count_at t.counts s.object.0 + s.n < 2 ^ 64
