use Rattle.std.proofs.Common.{◌≡◌, ◌<◌, ◌++◌, map, drop}
use Rattle.ir_forms.specs.Shapes.{product}
use Rattle.source_meaning.specs.declared.values.Val.TheVariants.{Number}
use Rattle.source_meaning.specs.Rows.{turns_of, variables}
use Rattle.source_tasks.proofs.loops.variables.Given as goal

-- how many iterations the dimensions that are left have, and the variables so far
abbrev pub invariant-loop-span : goal.invariant-loop-span
invariant-loop-span l =
    (0 < l.later) × (l.later ≡ product (turns_of (drop l.span-index l.spans)))
    × (l.vals ++ map Number (variables (drop l.span-index l.spans) l.i) ≡ map Number (variables l.spans l.i))
