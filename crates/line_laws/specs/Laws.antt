-- The functions of a module in its code, and that there is one code.
use Rattle.std.specs.Prelude.{◌≡◌, ℕ, false, map, Some, slice_get}
use Rattle.ir_forms.specs.declared.ops.Func.{Func}
use Rattle.ir_forms.specs.declared.ops.Module.{Module}
use Rattle.ir_verify.specs.Verdict.{IsSound}
use Rattle.loop_blocks.specs.declared.options.Options.{Options}
use Rattle.low_forms.specs.declared.code.LowFunc.{LowFunc}
use Rattle.low_forms.specs.declared.code.LowModule.{LowModule}
use Rattle.low_forms.specs.Registers.{reg_type}
use Rattle.scf_blocks.specs.Code.{regs_from}
use Rattle.pass_line.specs.declared.line.Compiled.{Compiled}
use Rattle.pass_line.specs.Line.{IsCompiled, IsLowered}
use Rattle.pass_line.specs.Texts.{all_texts}

-- The code of a function, blocks aside: it is no coroutine, its parameters are its first registers, in their order, and
-- name, types of parameters and results are those of the function.
pub record IsCodeOf (f : Func) (g : LowFunc) : Type 0 where
  pub name : g.name ≡ f.name
  pub plain : g.coroutine ≡ false
  pub params : g.params ≡ regs_from 0 f.params
  pub types : map (reg_type g) g.params ≡ map (λ p. Some p.1) f.params
  pub results : g.results ≡ f.results

-- each function of a sound module stands in its code at its own number
abbrev pub FunctionsStand : Type 0
FunctionsStand = (options : Options) (program : Module) (code : LowModule) (n : ℕ) (f : Func) → IsSound program.funcs → IsLowered options program code
    → slice_get program.funcs n ≡ Some f → (g : LowFunc) × ((slice_get code.funcs n ≡ Some g) × IsCodeOf f g)

-- a module has one code
abbrev pub OneCode : Type 0
OneCode = (options : Options) (program : Module) (a b : LowModule) → IsLowered options program a → IsLowered options program b → a ≡ b

-- with its texts it has the same code
abbrev pub TextsWithCode : Type 0
TextsWithCode = (options : Options) (program : Module) (made : Compiled) → IsCompiled options program made → IsLowered options program made.code

-- and its texts are the same
abbrev pub SameTexts : Type 0
SameTexts = (options : Options) (program : Module) (a b : Compiled) → IsCompiled options program a → IsCompiled options program b
    → all_texts a.texts ≡ all_texts b.texts
