-- What a stack takes as shared is what the table of instructions says.
use Rattle.std.specs.Prelude.{◌≡◌, Bool, true, false}
use Rattle.low_forms.specs.declared.code.LowKind.{LowKind}
use Rattle.low_forms.specs.declared.row.StepKind.{StepKind}
use Rattle.low_forms.specs.declared.row.StepKind.TheVariants as step
use Rattle.low_forms.specs.Rows.{row_of}
use Rattle.task_stack.specs.declared.effects.Effect.{Effect}
use Rattle.task_stack.specs.declared.effects.Effect.TheVariants as effect
use Rattle.task_stack.specs.Effects.{effect_of}

-- how the table says that an effect is stepped
abbrev pub step_of : Effect → StepKind
step_of effect.Shared = step.Shared
step_of effect.Returns = step.Ends
step_of effect.Fails = step.Ends
step_of effect.AddsReferences = step.Counts
step_of effect.DropsReferences = step.Counts
step_of _ = step.Local

-- code may hold the kinds that have an effect, and no others
abbrev pub stands : Effect → Bool
stands effect.Absent = false
stands _ = true

abbrev pub EffectsFitTheTable : Type 0
EffectsFitTheTable = (kind : LowKind) → ((row_of kind).step ≡ step_of (effect_of kind)) × ((row_of kind).stands ≡ stands (effect_of kind))
