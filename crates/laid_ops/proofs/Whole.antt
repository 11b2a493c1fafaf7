-- The functions of a module are laid out in its code of blocks.
use Rattle.std.proofs.Common.{◌≡◌, ◌≤◌, ℕ, ◌+◌, List, [], length, Some, slice_get, sym, ap, subst, ◌∙◌, arith}
use Rattle.ir_forms.specs.declared.ops.Func.{Func}
use Rattle.ir_forms.specs.declared.ops.ValueNo.{ValueNo}
use Rattle.ir_forms.specs.Ops.{ops_of}
use Rattle.low_forms.specs.declared.code.LowFunc.{LowFunc}
use Rattle.low_forms.specs.declared.code.LowModule.{LowModule}
use Rattle.source_meaning.specs.Parts.{names_of}
use Rattle.source_meaning.specs.Tasks.{Program}
use Rattle.scf_blocks.specs.declared.body.Close.TheVariants.{Returns}
use Rattle.scf_blocks.specs.Tree.{values_of}
use Rattle.scf_blocks.specs.Code.{blocks_of, regs_of, regs_from, with_values, with_vars}
use Rattle.scf_blocks.specs.Lowered.{func_tree, lowered}
use Rattle.block_carry.specs.Rows.{AreNew, AreBefore}
use Rattle.block_carry.specs.Laid.{IsLaid, IsLaidFunc}
use Rattle.block_carry.proofs.Values.{before_none, before_more, before_values}
use Rattle.laid_blocks.specs.Laws.{IsPlacedFunc}
use Rattle.laid_blocks.proofs.Placing.{module_is_placed}
use Rattle.laid_ops.specs.Suited.{with_known}
use Rattle.laid_ops.specs.Laws.{IsSuitedFunc, ModuleIsLaid}
use Rattle.laid_ops.proofs.Scopes.{new, typed_more, from_values, length_values}
use Rattle.laid_ops.proofs.Leaves.{values_named}
use Rattle.laid_ops.proofs.Laying.{suited_is_laid}

func_laid : (p : Program) (code : LowModule) (k : ℕ) (funcs : List Func) (g : Func) (f : LowFunc) → slice_get code.funcs k ≡ Some f → IsPlacedFunc funcs g f → IsSuitedFunc p.funcs funcs g → IsLaidFunc p code k g
func_laid p code k funcs g f is placed suited =
    let xs : List ValueNo = values_of g.params in
    let names : xs ≡ names_of g.params = sym (values_named g.params) in
    let len : length xs ≡ length g.params = length_values g.params in
    let le : 0 + length xs ≤ length g.params = omega (arith, len) in
    let before : AreBefore (with_vars g.params 0 []) (length g.params) = before_more (with_vars g.params 0 []) (0 + length xs) (length g.params) le (before_values [] xs 0 (before_none 0)) in
    let h : IsLaid p code k f Returns (length g.results) 0 0 (length g.params) (with_values xs 0 []) (ops_of g.body) =
    suited_is_laid p code k funcs f Returns (length g.results) 0 0 (length g.params) (blocks_of (func_tree g) + 1) (length g.params + regs_of (func_tree g)) (with_vars g.params 0 []) (with_known g.params []) (ops_of g.body)
    suited.suited (typed_more f [] [] g.params 0 tt placed.types) before placed.placed in
    record {
      f = f;
      is = is;
      params = placed.params ∙ from_values g.params 0 ∙ ap (λ (ys : List ValueNo). regs_from 0 ys) names;
      new = subst (λ (ys : List ValueNo). AreNew [] 0 ys) names (new f [] [] g.params 0 tt placed.types suited.params);
      laid = subst (λ (ys : List ValueNo). IsLaid p code k f Returns (length g.results) 0 0 (length ys) (with_values ys 0 []) (ops_of g.body)) names
          (subst (λ n. IsLaid p code k f Returns (length g.results) 0 0 n (with_values xs 0 []) (ops_of g.body)) (sym len) h);
    }

pub module_is_laid : ModuleIsLaid
module_is_laid p program same suited k g at =
    let placed = module_is_placed program k g (subst (λ (fs : List Func). slice_get fs k ≡ Some g) same at) in
    func_laid p (lowered program) k program.funcs g placed.0 placed.1 placed.2 (suited k g at)
