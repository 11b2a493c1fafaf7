-- Few edges leave a block that fits, so few visits are made.
use Rattle.std.proofs.Common.{◌≡◌, ℕ, zero, suc, ◌+◌, ◌*◌, ◌≤◌, ◌&&◌, Bool, true, false, List, [], ◌∷◌, length, Some, refl, sym, ap, ◌∙◌, arith}
use Rattle.std.specs.Prelude.{slice_get}
use Rattle.std.proofs.Math.Nat.{mul-le-mul_right, mul-add, mul_comm, mul_assoc}
use Rattle.low_forms.specs.declared.code.Instr.{Instr}
use Rattle.low_forms.specs.declared.code.Target.{Target}
use Rattle.low_forms.specs.declared.code.Block.{Block}
use Rattle.low_forms.specs.declared.code.LowFunc.{LowFunc}
use Rattle.low_forms.specs.declared.code.LowModule.{LowModule}
use Rattle.low_forms.specs.declared.row.Targets.{Targets}
use Rattle.low_forms.specs.declared.row.Targets.TheVariants as to
use Rattle.low_forms.specs.Rows.{row_of}
use Rattle.low_forms.specs.Registers.{every}
use Rattle.low_forms.specs.Edges.{blocks_of, edges_of, edges_from, edges_in, edges}
use Rattle.low_forms.specs.Fits.{targets_fit, instr_fits, inner_fits, term_fits, block_fits}
use Rattle.low_forms.specs.WellFormed.{IsWellFormed, WellFormed}
use Rattle.liveness.specs.Visits.{total, most_of, most_in}
use Rattle.live_laws.specs.Laws.{few_of, few_in, VisitsAreFew}

and_both : (a b : Bool) → (a && b) ≡ true → (a ≡ true) × (b ≡ true)
and_both true b is = (refl, is)
and_both false b is = cc

few : (asked : Targets) (first : Bool) (code : LowModule) (f : LowFunc) (i : Instr) (targets : List Target) → targets_fit asked code f i targets ≡ true → length (edges_of asked first (blocks_of targets)) ≤ 2
few to.Suspend first code f i [] ok = omega arith
few to.Suspend first code f i (t ∷ []) ok = omega arith
few to.Suspend true code f i (t ∷ u ∷ []) ok = omega arith
few to.Suspend false code f i (t ∷ u ∷ []) ok = omega arith
few to.Suspend true code f i (t ∷ u ∷ v ∷ []) ok = omega arith
few to.Suspend false code f i (t ∷ u ∷ v ∷ []) ok = omega arith
few to.Suspend first code f i (t ∷ u ∷ v ∷ w ∷ ts) ok = cc
few _ first code f i [] ok = omega arith
few _ first code f i (t ∷ []) ok = omega arith
few _ first code f i (t ∷ u ∷ []) ok = omega arith
few _ first code f i (t ∷ u ∷ v ∷ []) ok = cc
few _ first code f i (t ∷ u ∷ v ∷ w ∷ ts) ok = cc

few_from : (code : LowModule) (f : LowFunc) (first : Bool) (b : Block) → block_fits code f b ≡ true → length (edges_from first b.term) ≤ 2
few_from code f first b ok =
    let whole : (every (inner_fits code f) b.instrs ≡ true) × (term_fits code f b.term ≡ true) = and_both (every (inner_fits code f) b.instrs) (term_fits code f b.term) ok in
    let parts : (instr_fits code f b.term.instr ≡ true) × (targets_fit (row_of b.term.instr.kind).targets code f b.term.instr b.term.targets ≡ true) =
    and_both (instr_fits code f b.term.instr) (targets_fit (row_of b.term.instr.kind).targets code f b.term.instr b.term.targets) whole.1 in
    few (row_of b.term.instr.kind).targets first code f b.term.instr b.term.targets parts.1

few_edges : (code : LowModule) (f : LowFunc) (first : Bool) (blocks : List Block) → every (block_fits code f) blocks ≡ true → total (edges_in first blocks) ≤ 2 * length blocks
few_edges code f first [] ok = omega arith
few_edges code f first (b ∷ blocks) ok =
    let parts : (block_fits code f b ≡ true) × (every (block_fits code f) blocks ≡ true) = and_both (block_fits code f b) (every (block_fits code f) blocks) ok in
    omega (arith, few_from code f first b parts.0, few_edges code f false blocks parts.1)

turned : (b r : ℕ) → (2 * b) * r ≡ b * (2 * r)
turned b r = ap (λ n. n * r) (mul_comm 2 b) ∙ mul_assoc b 2 r

few_visits : (code : LowModule) (f : LowFunc) → IsWellFormed code f → most_of f ≤ few_of f
few_visits code f well =
    let b : ℕ = length f.blocks in
    let r : ℕ = length f.regs in
    let most : total (edges f) * r ≤ (2 * b) * r = mul-le-mul_right r (few_edges code f true f.blocks well.fits) in
    sums b (total (edges f) * r) ((2 * b) * r) (b * (2 * r)) (b * (2 * r + 1)) (b * 1) most (turned b r) (mul-add b (2 * r) 1) (mul-one b)
  where
    sums : (b t u v w one : ℕ) → t ≤ u → u ≡ v → w ≡ v + one → one ≡ b → b + t ≤ w
    sums b t u v w one less same whole unit = omega arith

    mul-one : (b : ℕ) → b * 1 ≡ b
    mul-one b = omega arith

few_funcs : (code : LowModule) (funcs : List LowFunc) → ((k : ℕ) (f : LowFunc) → slice_get funcs k ≡ Some f → IsWellFormed code f) → most_in funcs ≤ few_in funcs
few_funcs code [] well = omega arith
few_funcs code (f ∷ funcs) well = omega (arith, few_visits code f (well 0 f refl), few_funcs code funcs (λ k g at. well (suc k) g at))

pub visits_are_few : VisitsAreFew
visits_are_few code well = few_funcs code code.funcs well
