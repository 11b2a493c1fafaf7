-- All that is asked of code but the types.
use Rattle.std.proofs.Common.{◌≡◌, ℕ, zero, suc, true, List, [], ◌∷◌, map, Some, refl, sym, subst}
use Rattle.std.specs.Prelude.{slice_get}
use Rattle.ir_forms.specs.declared.ops.Func.{Func}
use Rattle.ir_forms.specs.declared.ops.Module.{Module}
use Rattle.low_forms.specs.declared.code.LowFunc.{LowFunc}
use Rattle.low_forms.specs.Registers.{every}
use Rattle.low_forms.specs.Fits.{block_fits}
use Rattle.low_forms.specs.WellFormed.{IsWellFormed}
use Rattle.scf_blocks.specs.Lowered.{lowered_func, lowered}
use Rattle.block_laws.specs.Closed.{IsClosed}
use Rattle.block_laws.specs.Laws.{WellFormedIfFits}
use Rattle.block_laws.proofs.Calm.{none_saved}
use Rattle.block_laws.proofs.Within.{numbers_within}
use Rattle.block_laws.proofs.Splits.{edges_split}
use Rattle.block_laws.proofs.Flow.{all_assigned}

-- a function of mapped ones is made of one
pub record Made (g : Func → LowFunc) (fs : List Func) (k : ℕ) (low : LowFunc) : Type 0 where
  pub func : Func
  pub at : slice_get fs k ≡ Some func
  pub same : g func ≡ low

pub made_of : (g : Func → LowFunc) (fs : List Func) (k : ℕ) (low : LowFunc) → slice_get (map g fs) k ≡ Some low → Made g fs k low
made_of g [] k low at = cc
made_of g (f ∷ fs) zero low at = record { func = f; at = refl; same = cc }
made_of g (f ∷ fs) (suc k) low at =
    let m : Made g fs k low = made_of g fs k low at in
    record { func = m.func; at = m.at; same = m.same }

func_well_formed : (program : Module) (f : Func) → IsClosed f → every (block_fits (lowered program) (lowered_func program.funcs f)) (lowered_func program.funcs f).blocks ≡ true → IsWellFormed (lowered program) (lowered_func program.funcs f)
func_well_formed program f closed fits =
    let within = numbers_within program f closed in
    let split = edges_split program.funcs f in
    let calm = none_saved program.funcs f in
    record {
      params_within = within.0;
      within = within.1;
      start = calm.0;
      fits = fits;
      assigned = all_assigned program.funcs f closed;
      uncritical = split.0;
      counts = calm.1;
      not_to_start = split.1;
      saves = calm.2;
      alone = calm.3;
      first_save = calm.4;
    }

pub well_formed_if_fits : WellFormedIfFits
well_formed_if_fits program closed fits k low at =
    let m : Made (lowered_func program.funcs) program.funcs k low = made_of (lowered_func program.funcs) program.funcs k low at in
    subst (λ (l : LowFunc). IsWellFormed (lowered program) l) m.same
    (func_well_formed program m.func (closed k m.func m.at)
    (subst (λ (l : LowFunc). every (block_fits (lowered program) l) l.blocks ≡ true) (sym m.same) (fits k low at)))
