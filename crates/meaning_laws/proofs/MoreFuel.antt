-- More fuel changes nothing where the fuel wasn't spent.
use Rattle.std.proofs.Common.{◌≡◌, ℕ, zero, suc, ◌+◌, ◌<◌, ◌≤◌, Bool, true, false, cond, List, refl, ap, sym, subst, arith}
use Rattle.std.specs.Prelude.{◌⊎◌, ltb}
use mathlib.Core.Logic.{inl, inr}
use Rattle.std.proofs.lemmas.Bool.{lt-ltb, ltb-true}
use Rattle.ir_forms.specs.declared.names.TraceEntry.{TraceEntry}
use Rattle.source_meaning.specs.declared.ends.SourceEnd.{SourceEnd}
use Rattle.source_meaning.specs.declared.ends.SourceEnd.TheVariants.{Spent}
use Rattle.source_meaning.specs.Runs.{IsUnspent, MoreFuelIsTheSame}
use Rattle.source_meaning.specs.Tasks.{Program}
use Rattle.source_meaning.specs.Sequential.{Sequence, Moved, On, Over, move, Metered, burns, metered_on, metered, start, top_begins}

module _ (p : Program) (entry fuel more : ℕ) where
  -- the same with more fuel, or the fuel was spent
  pub Tells : Metered → Metered → Type 0
  Tells m n = (n ≡ m) ⊎ ((t : List TraceEntry) × (m.1 ≡ Over (Spent fuel) t))

  lit : (begun : ℕ) (s : Sequence) (c : Bool) → fuel ≤ more → ltb begun fuel ≡ c →
      Tells (cond c (begun + 1, move p entry s) (begun, Over (Spent fuel) s.trace)) (burns p entry more begun true s)
  unfolding Tells
  lit begun s true h e =
      let b : begun < fuel = ltb-true begun fuel e in
      let d : ltb begun more ≡ true = lt-ltb begun more (omega arith) in inl (rw d refl)
  lit begun s false h e = inr (s.trace, refl)

  burns_tell : (begun : ℕ) (b : Bool) (s : Sequence) → fuel ≤ more → Tells (burns p entry fuel begun b s) (burns p entry more begun b s)
  unfolding Tells
  burns_tell begun false s h = inl refl
  burns_tell begun true s h = lit begun s (ltb begun fuel) h refl

  one_tells : (begun : ℕ) (m : Moved) → fuel ≤ more → Tells (metered_on p entry fuel begun m) (metered_on p entry more begun m)
  unfolding Tells
  one_tells begun (On s) h = burns_tell begun (top_begins s.stack) s h
  one_tells begun (Over e t) h = inl refl

  on_tells : (m n : Metered) → fuel ≤ more → Tells m n → Tells (metered_on p entry fuel m.0 m.1) (metered_on p entry more n.0 n.1)
  unfolding Tells
  on_tells m n h (inl e) = subst (λ (k : Metered). Tells (metered_on p entry fuel m.0 m.1) (metered_on p entry more k.0 k.1)) (sym e) (one_tells m.0 m.1 h)
  on_tells m n h (inr e) = inr (e.0, ap (λ (k : Moved). (metered_on p entry fuel m.0 k).1) e.1)

  pub tells : (n : ℕ) (s : Sequence) → fuel ≤ more → Tells (metered p entry fuel n s) (metered p entry more n s)
  unfolding Tells
  tells zero s h = inl refl
  tells (suc n) s h = on_tells (metered p entry fuel n s) (metered p entry more n s) h (tells n s h)

  -- a run that wasn't spent is no run that was
  end_of : Moved → SourceEnd → SourceEnd
  end_of (On s) e = e
  end_of (Over e t) d = e

  settled : (m n : Metered) (begun : ℕ) (end : SourceEnd) (trace : List TraceEntry) → m ≡ (begun, Over end trace) → IsUnspent end → Tells m n → n ≡ (begun, Over end trace)
  unfolding Tells end_of
  settled m n begun end trace e u (inl same) = subst (λ (k : Metered). n ≡ k) e same
  settled m n begun end trace e u (inr t) =
      let d : Over end trace ≡ Over (Spent fuel) t.0 = subst (λ (k : Metered). k.1 ≡ Over (Spent fuel) t.0) e t.1 in
      let s : end ≡ Spent fuel = ap (λ (k : Moved). end_of k end) d in elim (subst IsUnspent s u) [ ]

pub more_fuel_is_the_same : MoreFuelIsTheSame
more_fuel_is_the_same p entry fuel more n begun args end trace e u h =
    settled p entry fuel more (metered p entry fuel n (start p entry args)) (metered p entry more n (start p entry args)) begun end trace e u
    (tells p entry fuel more n (start p entry args) h)
