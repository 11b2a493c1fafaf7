-- Frames that wait in a call, the nearest first.
use Rattle.std.specs.Prelude.{◌≡◌, ◌<◌, ◌+◌, ◌^◌, List, [], ◌∷◌}
use Rattle.task_stack.specs.declared.frames.Frame.{Frame}
use Rattle.task_stack.specs.Frames.{Way, went}
use Rattle.async_objects.specs.declared.kinds.Val.{Val}

-- there is one, and its place isn't the greatest number
abbrev pub HasNext : List Frame → Type 0
HasNext [] = ⊥
HasNext (frame ∷ frames) = frame.current.place.at + 1 < 2 ^ 64

-- the first of them goes on this way, and the others are left
abbrev pub GoesOn : List Frame → Way → List Val → Frame → List Frame → Type 0
GoesOn [] way vs frame left = ⊥
GoesOn (first ∷ frames) way vs frame left = (frame ≡ went way vs first) × (left ≡ frames)
