-- What the next instruction of a stack is.
use Rattle.std.specs.Prelude.{◌≡◌, Bool, true, false, List, [], ◌∷◌, Option, Some, None}
use Rattle.low_forms.specs.declared.code.Instr.{Instr}
use Rattle.low_forms.specs.Owns.{count_of}
use Rattle.task_stack.specs.declared.effects.Effect.{Effect}
use Rattle.task_stack.specs.declared.effects.Effect.TheVariants as effect
use Rattle.task_stack.specs.declared.frames.Frame.{Frame}
use Rattle.task_stack.specs.declared.steps.Ahead.{Ahead}
use Rattle.task_stack.specs.declared.steps.Ahead.TheVariants as ahead
use Rattle.task_stack.specs.declared.steps.CountStep.{CountStep}
use Rattle.task_stack.specs.Registers.{value}
use Rattle.task_stack.specs.Frames.{Stack}
use Rattle.task_stack.specs.Local.{Local, Done, Shared, Stuck, operands, count_step}

-- no step of the task alone
abbrev pub is_shared : Local → Bool
is_shared Shared = true
is_shared _ = false

-- what a step counts
abbrev pub counted : Local → Option CountStep
counted (Done after counts) = counts
counted _ = None

-- its needs don't hold
abbrev pub is_stuck : Local → Bool
is_stuck Stuck = true
is_stuck _ = false

-- the next step is of this kind: it counts so, or counts nothing and is shared, or neither
abbrev pub IsAhead : Ahead → Option CountStep → Bool → Type 0
IsAhead (ahead.Counts c) counts shared = counts ≡ Some c
IsAhead ahead.Shared counts shared = (counts ≡ None) × (shared ≡ true)
IsAhead ahead.Alone counts shared = (counts ≡ None) × (shared ≡ false)

-- ---- by what instructions do

abbrev pub inner_shared : Effect → Bool
inner_shared effect.Shared = true
inner_shared _ = false

-- the end of the root's last frame
abbrev pub root_ends : List Frame → Bool → Bool
root_ends [] is_root = is_root
root_ends (frame ∷ frames) is_root = false

abbrev pub end_shared : Effect → Stack → Bool
end_shared effect.Shared s = true
end_shared effect.Returns s = root_ends s.below s.is_root
end_shared effect.Fails s = root_ends s.below s.is_root
end_shared _ s = false

abbrev pub inner_counts : Effect → Instr → Stack → Option CountStep
inner_counts effect.AddsReferences i s = count_step true (count_of i.attr) (value (operands s i) 0)
inner_counts effect.DropsReferences i s = count_step false (count_of i.attr) (value (operands s i) 0)
inner_counts _ i s = None
