-- Where the operations of a module's functions stand in their blocks.
use Rattle.std.specs.Prelude.{◌≡◌, ℕ, ◌+◌, List, [], length, Some, slice_get}
use Rattle.ir_forms.specs.declared.ops.Func.{Func}
use Rattle.ir_forms.specs.declared.ops.Module.{Module}
use Rattle.low_forms.specs.declared.code.LowFunc.{LowFunc}
use Rattle.scf_blocks.specs.declared.body.Close.TheVariants.{Returns}
use Rattle.scf_blocks.specs.Tree.{types_in}
use Rattle.scf_blocks.specs.Code.{blocks_of, regs_of, regs_from, with_vars}
use Rattle.scf_blocks.specs.Lowered.{func_tree, lowered_func, lowered}
use Rattle.laid_blocks.specs.Placed.{Takes, HaveTypes, IsPlaced}

-- The operations of g stand in f from its first block on: its parameters have the first registers, and the blocks of
-- failures stand behind all others, with the last registers.
pub record IsPlacedFunc (funcs : List Func) (g : Func) (f : LowFunc) : Type 0 where
  pub params : f.params ≡ regs_from 0 g.params
  pub types : HaveTypes f 0 (types_in g.params)
  pub takes : Takes f 0 []
  pub placed : IsPlaced f funcs (func_tree g) 0 0 (length g.params) (blocks_of (func_tree g) + 1) (length g.params + regs_of (func_tree g)) (with_vars g.params 0 []) Returns

abbrev pub BlocksArePlaced : Type 0
BlocksArePlaced = (funcs : List Func) (g : Func) → IsPlacedFunc funcs g (lowered_func funcs g)

-- so it is for each function of a module, under its place
abbrev pub ModuleIsPlaced : Type 0
ModuleIsPlaced = (program : Module) (k : ℕ) (g : Func) → slice_get program.funcs k ≡ Some g → (f : LowFunc) × (slice_get (lowered program).funcs k ≡ Some f) × IsPlacedFunc program.funcs g f
