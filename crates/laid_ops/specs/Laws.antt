-- Where operations that are suited stand in a function of blocks, they are laid out there.
use Rattle.std.specs.Prelude.{◌≡◌, ℕ, Bool, true, false, List, [], ◌∷◌, length, Some, slice_get}
use Rattle.ir_forms.specs.declared.ops.Func.{Func}
use Rattle.ir_forms.specs.declared.ops.Module.{Module}
use Rattle.ir_forms.specs.declared.ops.Op.{Op}
use Rattle.ir_forms.specs.Ops.{ops_of}
use Rattle.low_forms.specs.declared.code.LowFunc.{LowFunc}
use Rattle.low_forms.specs.declared.code.LowModule.{LowModule}
use Rattle.source_meaning.specs.Tasks.{Program}
use Rattle.scf_blocks.specs.declared.body.Close.{Close}
use Rattle.scf_blocks.specs.declared.body.Close.TheVariants.{Decides}
use Rattle.scf_blocks.specs.Tree.{Var, tree}
use Rattle.scf_blocks.specs.Code.{Scope}
use Rattle.block_carry.specs.Rows.{AreBefore}
use Rattle.scf_blocks.specs.Lowered.{lowered}
use Rattle.block_carry.specs.Laid.{IsLaid, AreLaid}
use Rattle.laid_blocks.specs.Placed.{IsPlaced}
use Rattle.laid_ops.specs.Suited.{with_known, AreFresh, IsSuited}

-- the visible values have registers of their types
abbrev pub AreTyped : LowFunc → Scope → List Var → Type 0
AreTyped f [] [] = Unit {0}
AreTyped f (y ∷ scope) (v ∷ vars) = (y.0 ≡ v.0) × (slice_get f.regs y.1.0 ≡ Some v.1) × AreTyped f scope vars
AreTyped f _ _ = ⊥

-- a region that ends so decides between two blocks
abbrev pub is_decision : Close → Bool
is_decision (Decides after exit) = true
is_decision _ = false

abbrev pub SuitedIsLaid : Type 0
SuitedIsLaid = (p : Program) (code : LowModule) (place : ℕ) (funcs : List Func) (f : LowFunc) (end : Close) (a b i n j m : ℕ) (scope : Scope) (vars : List Var) (ops : List Op) →
    IsSuited p.funcs funcs (is_decision end) a vars ops → AreTyped f scope vars → AreBefore scope n → IsPlaced f funcs (tree ops) b i n j m scope end → IsLaid p code place f end a b i n scope ops

-- a function whose operations are suited where its parameters are visible, which are new
pub record IsSuitedFunc (from to : List Func) (g : Func) : Type 0 where
  pub params : AreFresh [] g.params
  pub suited : IsSuited from to false (length g.results) (with_known g.params []) (ops_of g.body)

-- where each function of a module is, the module is laid out in its code of blocks
abbrev pub ModuleIsLaid : Type 0
ModuleIsLaid = (p : Program) (program : Module) → p.funcs ≡ program.funcs → ((k : ℕ) (g : Func) → slice_get p.funcs k ≡ Some g → IsSuitedFunc p.funcs program.funcs g) → AreLaid p (lowered program)
