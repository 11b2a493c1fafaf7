-- What kinds of operations the pass of parallel loops leaves.
use Rattle.std.specs.Prelude.{◌≡◌, ◌≤◌, Bool, true, false, List, [], ◌∷◌, ⊤}
use Rattle.op_table.specs.declared.kind.OpKind.{OpKind}
use Rattle.op_table.specs.declared.kind.OpKind.TheVariants as op
use Rattle.op_table.specs.declared.rows.Level.TheVariants.{Split}
use Rattle.op_table.specs.Rows.{place_of}
use Rattle.ir_forms.specs.declared.ops.Func.{Func}
use Rattle.ir_forms.specs.declared.ops.Module.{Module}
use Rattle.ir_verify.specs.Levels.{kinds_of, level_of}
use Rattle.ir_verify.specs.Verdict.{IsSound}
use Rattle.loop_blocks.specs.declared.options.Options.{Options}
use Rattle.parallel_for.specs.Shape.{IsSplit}

-- a parallel loop, or the end of its region
abbrev pub is_loop : OpKind → Bool
is_loop op.ScfParallel = true
is_loop op.ScfReduce = true
is_loop _ = false

abbrev pub AreNoLoops : List OpKind → Type 0
AreNoLoops [] = ⊤
AreNoLoops (k ∷ ks) = (is_loop k ≡ false) × AreNoLoops ks

-- no operation of these functions, nor of a region in them, is a parallel loop or such an end
abbrev pub HaveNoLoop : List Func → Type 0
HaveNoLoop funcs = AreNoLoops (kinds_of funcs)

-- of a module that breaks no rule no loop is left
abbrev pub NoLoopIsLeft : Type 0
NoLoopIsLeft = (options : Options) (program made : Module) → IsSound program.funcs → IsSplit options program made → HaveNoLoop made.funcs

-- a module that stands at the level of split loops, or below it, stands there without its loops
abbrev pub SplitHasLevel : Type 0
SplitHasLevel = (options : Options) (program made : Module) → place_of (level_of program.funcs) ≤ place_of Split → IsSplit options program made → place_of (level_of made.funcs) ≤ place_of Split
