-- All laws.
use Rattle.std.proofs.Common.{◌≡◌, ◌≤◌, ℕ, zero, suc, not, Bool, true, false, IsTrue, List, [], ◌∷◌, Some, refl, sym, ap, subst, arith}
use Rattle.std.specs.Prelude.{slice_get}
use Rattle.std.proofs.lemmas.Bool.Decides.{nat_tests}
use Rattle.op_table.specs.declared.kind.OpKind.{OpKind}
use Rattle.op_table.specs.declared.kind.OpKind.TheVariants as op
use Rattle.op_table.specs.declared.rows.Level.{Level}
use Rattle.op_table.specs.declared.rows.Level.TheVariants.{Split}
use Rattle.op_table.specs.Rows.{place_of, stands_at}
use Rattle.ir_forms.specs.declared.ops.Module.{Module}
use Rattle.ir_verify.specs.Levels.{kinds_of, level_of}
use Rattle.ir_verify.proofs.LevelLemmas.{level_is_least}
use Rattle.parallel_for.specs.Shape.{module_of, split_funcs}
use Rattle.split_kinds.specs.Laws as laws
use Rattle.split_kinds.specs.Laws.{is_loop, AreNoLoops, HaveNoLoop}
use Rattle.split_kinds.proofs.Passing.{Pass}
use Rattle.split_kinds.proofs.Made.{is_made}
use Rattle.split_kinds.proofs.Walk.{made_pass}
use Rattle.split_kinds.proofs.Fits.{no_loop, passing_fit, sound_fit, numbered_same}

-- ---- no loop

not_true : (b : Bool) → not b ≡ true → b ≡ false
not_true true h = cc
not_true false h = refl

pub no_loops : (ks : List OpKind) → Pass no_loop ks → AreNoLoops ks
no_loops [] h = tt
no_loops (k ∷ ks) h = (not_true (is_loop k) h.0, no_loops ks h.1)

pub passing : (ks : List OpKind) → AreNoLoops ks → Pass no_loop ks
passing [] h = tt
passing (k ∷ ks) h = (ap (λ b. not b) h.0, passing ks h.1)

none_made : (k : OpKind) → is_made k ≡ true → no_loop k ≡ true
none_made op.ScfParallel e = cc
none_made op.ScfReduce e = cc
none_made _ e = refl

pub no_loop_is_left : laws.NoLoopIsLeft
no_loop_is_left options program made sound is =
    let both : Module = module_of (split_funcs options program.funcs is.called 0 program.funcs 0) in
    subst (λ (m : Module). HaveNoLoop m.funcs) (sym is.is)
    (no_loops _ (subst (Pass no_loop) (sym (numbered_same both.funcs)) (made_pass no_loop none_made options program.funcs is.called (sound_fit program.funcs sound))))

-- ---- the level

abbrev stands : OpKind → Bool
stands k = stands_at k Split

made_stands : (k : OpKind) → is_made k ≡ true → stands k ≡ true
made_stands op.AioTryCall e = refl
made_stands op.ArithAddi e = refl
made_stands op.ArithAndi e = refl
made_stands op.ArithCmpi e = refl
made_stands op.ArithConstant e = refl
made_stands op.ArithDivui e = refl
made_stands op.ArithMaxui e = refl
made_stands op.ArithMinui e = refl
made_stands op.ArithMuli e = refl
made_stands op.ArithRemui e = refl
made_stands op.ArithSubi e = refl
made_stands op.AsyncAddToGroup e = refl
made_stands op.AsyncAwaitAll e = refl
made_stands op.AsyncCreateGroup e = refl
made_stands op.AsyncExecute e = refl
made_stands op.AsyncYield e = refl
made_stands op.CfAssert e = refl
made_stands op.FuncCall e = refl
made_stands op.FuncReturn e = refl
made_stands op.ScfCondition e = refl
made_stands op.ScfFor e = refl
made_stands op.ScfIf e = refl
made_stands op.ScfWhile e = refl
made_stands op.ScfYield e = refl
made_stands _ e = cc

all_stand : (ks : List OpKind) → ((i : ℕ) (k : OpKind) → slice_get ks i ≡ Some k → IsTrue (stands_at k Split)) → Pass stands ks
all_stand [] h = tt
all_stand (k ∷ ks) h = (h 0 k refl, all_stand ks (λ i j at. h (suc i) j at))

each_stands : (ks : List OpKind) (i : ℕ) (k : OpKind) → Pass stands ks → slice_get ks i ≡ Some k → IsTrue (stands_at k Split)
each_stands [] i k h at = cc
each_stands (x ∷ ks) zero k h at = let same : x ≡ k = cc in subst (λ y. IsTrue (stands_at y Split)) same h.0
each_stands (x ∷ ks) (suc i) k h at = each_stands ks i k h.1 at

later_stands : (k : OpKind) (l : Level) → IsTrue (stands_at k l) → place_of l ≤ place_of Split → IsTrue (stands_at k Split)
later_stands k l h le = grind (arith, nat_tests)

pub split_has_level : laws.SplitHasLevel
split_has_level options program made le is =
    let was : Pass stands (kinds_of program.funcs) =
    all_stand (kinds_of program.funcs) (λ i k at. later_stands k (level_of program.funcs) ((level_is_least program.funcs).0 k (record { at = i; is = at })) le) in
    let both : Module = module_of (split_funcs options program.funcs is.called 0 program.funcs 0) in
    let now : Pass stands (kinds_of made.funcs) =
    subst (λ (m : Module). Pass stands (kinds_of m.funcs)) (sym is.is)
    (subst (Pass stands) (sym (numbered_same both.funcs)) (made_pass stands made_stands options program.funcs is.called (passing_fit stands program.funcs was))) in
    (level_is_least made.funcs).1 Split (λ k has. each_stands (kinds_of made.funcs) has.at k now has.is)
