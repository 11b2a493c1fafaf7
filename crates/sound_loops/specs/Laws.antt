-- What is made of a parallel loop breaks no rule.
use Rattle.std.specs.Prelude.{◌≡◌, ◌<◌, ℕ, Bool, false, List, [], ◌++◌, length, Some}
use Rattle.ir_forms.specs.declared.ops.Func.{Func}
use Rattle.ir_forms.specs.declared.types.Ty.{Ty}
use Rattle.ir_verify.specs.declared.fault.VerifyKind.{VerifyKind}
use Rattle.ir_verify.specs.declared.fault.VerifyKind.TheVariants.{Undefined}
use Rattle.ir_verify.specs.Places.{Seen, named}
use Rattle.ir_verify.specs.Scopes.{lookup}
use Rattle.ir_verify.specs.Verdict.{body_places, func_breaks}
use Rattle.loop_blocks.specs.declared.told.Plan.{Plan}
use Rattle.loop_blocks.specs.Blocks.{block_func}
use Rattle.loop_blocks.specs.Loops.{serial_loop}
use Rattle.loop_blocks.specs.Made.{indexes, types_in}
use Rattle.made_ops.specs.Made.{begun}
use Rattle.sound_laws.specs.Extended.{AreFine}
use Rattle.sound_loops.specs.Seen.{AllIndex, AreSeen, AreSound, Front}

-- The function of the plan's iterations is there: it takes the loop's variables and what is captured, and gives nothing.
pub record HasBody (funcs : List Func) (p : Plan) : Type 0 where
  pub body : Func
  pub there : named funcs p.body ≡ Some body
  pub takes : types_in body.params ≡ types_in (indexes p.lowers ++ p.captured)
  pub gives : body.results ≡ []

-- A function among these breaks no rule, whether a task calls it or not, but that another one may have its name.
pub record BreaksNothing (funcs : List Func) (f : Func) : Type 0 where
  pub body : (is_called : Bool) → AreFine (body_places funcs f is_called)
  pub head : (kind : VerifyKind) (k : ℕ) → (kind ≡ Undefined → ⊥) → func_breaks kind funcs k f ≡ false

-- the function of a block, where that of its iterations is there
abbrev pub BlockFuncIsSound : Type 0
BlockFuncIsSound = (funcs : List Func) (p : Plan) → HasBody funcs p → AreSound p.captured → BreaksNothing funcs (block_func p)

-- Where a loop stands, its bounds and steps are visible as indexes, as many of each, and what it captures with its types; no value that
-- is visible has a number from this one on.
pub record HasOperands (seen : Seen) (free : ℕ) (p : Plan) : Type 0 where
  pub lowers : AllIndex seen p.lowers
  pub uppers : AllIndex seen p.uppers
  pub steps : AllIndex seen p.steps
  pub uppers_count : length p.uppers ≡ length p.lowers
  pub steps_count : length p.steps ≡ length p.lowers
  pub captured : AreSeen seen p.captured
  pub below : (v : ℕ) (t : Ty) → lookup seen v ≡ Some t → v < free

-- the serial loops that stand in a parallel loop's place, whose values are numbered from this number on
abbrev pub SerialLoopIsFine : Type 0
SerialLoopIsFine = (funcs : List Func) (seen : Seen) (free : ℕ) (p : Plan) → HasBody funcs p → AreSound p.captured → HasOperands seen free p → Front funcs seen (serial_loop p (begun p.at free)).ops
