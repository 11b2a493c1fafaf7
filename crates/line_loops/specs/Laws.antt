-- The code of a module is that of one without parallel loops.
use Rattle.std.specs.Prelude.{◌≡◌, Option, None}
use Rattle.ir_forms.specs.declared.ops.Module.{Module}
use Rattle.ir_verify.specs.Verdict.{IsSound}
use Rattle.loop_blocks.specs.declared.options.Options.{Options}
use Rattle.low_forms.specs.declared.code.LowModule.{LowModule}
use Rattle.exec_outline.specs.Shape.{outlined}
use Rattle.pass_line.specs.Line.{IsLowered, code_of}
use Rattle.line_laws.specs.Parallels.{first_parallel}
use Rattle.split_kinds.specs.Laws.{HaveNoLoop}

-- the functions of tasks bring no loop
abbrev pub TasksBringNone : Type 0
TasksBringNone = (program : Module) → HaveNoLoop program.funcs → HaveNoLoop (outlined program).funcs

-- where there is none, none is found
abbrev pub NoneIsFound : Type 0
NoneIsFound = (program : Module) → HaveNoLoop program.funcs → first_parallel program ≡ None

-- a module whose code this is, and which has no loop where each task is a function
pub record IsOfNoLoop (code : LowModule) : Type 0 where
  pub halved : Module
  pub is : code ≡ code_of halved
  pub none : HaveNoLoop (outlined halved).funcs

-- the code that all passes make of a module that breaks no rule is that of a module without loops
abbrev pub LoweredHasNoLoop : Type 0
LoweredHasNoLoop = (options : Options) (program : Module) (code : LowModule) → IsSound program.funcs → IsLowered options program code → IsOfNoLoop code
