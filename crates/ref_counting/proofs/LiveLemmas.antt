-- What the map of live registers tells is the truth.
use Rattle.std.proofs.Common.{◌≡◌, ◌↔◌, IsTrue, ℕ, ◌<◌, ◌≤◌, ◌&&◌, Bool, true, false, length, Option, Some, refl, sym, ap, ◌∙◌, arith, subst}
use Rattle.std.specs.Prelude.{slice_get, nat_lt}
use Rattle.std.proofs.lemmas.Bool.Decides.{nat_tests}
use Rattle.low_forms.specs.declared.code.LowFunc.{LowFunc}
use Rattle.low_forms.specs.declared.code.LowModule.{LowModule}
use Rattle.liveness.specs.Live.{IsLive, IsLiveIn, is_reg_of, IsRegIn}
use Rattle.live_truths.specs.Truths.{is_live_in, is_live}
use Rattle.live_truths.proofs.TruthLemmas.{exact}

pub reg_in : (code : LowModule) (k : ℕ) (f : LowFunc) (r : ℕ) → slice_get code.funcs k ≡ Some f → r < length f.regs → IsRegIn code k r
reg_in code k f r at known = subst (λ (o : Option LowFunc). is_reg_of o r) (sym at) known

module _ (code : LowModule) (k : ℕ) (f : LowFunc) (block row r : ℕ) (at : slice_get code.funcs k ≡ Some f) (known : r < length f.regs) where
  here : IsLiveIn code k block row r → IsLive f r (record { block = block; row = row })
  here l =
      let named : slice_get code.funcs k ≡ Some l.of = l.named in
      let same : l.of ≡ f = cc in
      subst (λ (g : LowFunc). IsLive g r (record { block = block; row = row })) same l.live

  pub told : (answer : Bool) → (IsTrue answer ↔ IsLiveIn code k block row r) → answer ≡ is_live f block row r
  told answer both = by_truth answer (is_live f block row r) both (exact f block row r known)
    where
      by_truth : (a b : Bool) → (IsTrue a ↔ IsLiveIn code k block row r) → (IsTrue b ↔ IsLive f r (record { block = block; row = row })) → a ≡ b
      by_truth true true x y = refl
      by_truth true false x y = sym (y.1 (here (x.0 refl)))
      by_truth false true x y = x.1 (record { of = f; named = at; live = y.0 refl })
      by_truth false false x y = refl

-- no other register is live anywhere
pub not_known : (f : LowFunc) (block row r : ℕ) → length f.regs ≤ r → false ≡ is_live f block row r
unfolding is_live
not_known f block row r past = ap (λ x. x && is_live_in f block row r (slice_get f.blocks block)) (sym outside)
  where
    outside : nat_lt r (length f.regs) ≡ false
    outside = grind (arith, nat_tests, past)
