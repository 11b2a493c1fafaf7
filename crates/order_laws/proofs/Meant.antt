-- A meaning with fuel that wasn't spent is that of the sequential run.
use Rattle.std.specs.Prelude.{◌⊎◌, nat_lt, cond}
use mathlib.Core.Logic.{inl, inr}
use Rattle.std.proofs.Common.{◌≡◌, ℕ, zero, suc, ◌+◌, Bool, true, false, List, refl, sym, ap, subst, ◌∙◌}
use Rattle.ir_forms.specs.declared.args.ArgValue.{ArgValue}
use Rattle.ir_forms.specs.declared.names.TraceEntry.{TraceEntry}
use Rattle.source_meaning.specs.declared.ends.SourceEnd.{SourceEnd}
use Rattle.source_meaning.specs.declared.ends.SourceEnd.TheVariants.{Spent}
use Rattle.source_meaning.specs.Tasks.{Program}
use Rattle.source_meaning.specs.Sequential.{Sequence, Moved, On, Over, move, and_moves, moves, top_begins, Metered, burns, metered_on, metered, start}
use Rattle.source_meaning.specs.Runs.{IsEnd, Ends}
use Rattle.order_laws.specs.SameEnd.{MeaningIsOneEnd}
use Rattle.order_laws.proofs.Same.{one_end_in_any_order}

module _ (p : Program) (entry fuel : ℕ) where
  -- the same without fuel, or the fuel was spent
  Tied : Moved → Moved → Type 0
  Tied m k = (m ≡ k) ⊎ ((trace : List TraceEntry) × (m ≡ Over (Spent fuel) trace))

  burnt : (begun : ℕ) (b : Bool) (s : Sequence) → Tied (burns p entry fuel begun b s).1 (move p entry s)
  unfolding Tied
  burnt begun false s = inl refl
  burnt begun true s = split (nat_lt begun fuel) where
    split : (t : Bool) → Tied (cond {A = Metered} t (begun + 1, move p entry s) (begun, Over (Spent fuel) s.trace)).1 (move p entry s)
    split true = inl refl
    split false = inr (s.trace, refl)

  one_more : (begun : ℕ) (m k : Moved) → Tied m k → Tied (metered_on p entry fuel begun m).1 (and_moves p entry k)
  unfolding Tied
  one_more begun m k (inr spent) = inr (spent.0, subst (λ m. (metered_on p entry fuel begun m).1 ≡ Over (Spent fuel) spent.0) (sym spent.1) refl)
  one_more begun (On s) k (inl e) = subst (λ k. Tied (burns p entry fuel begun (top_begins s.stack) s).1 (and_moves p entry k)) e (burnt begun (top_begins s.stack) s)
  one_more begun (Over end trace) k (inl e) = inl (subst (λ k. Over end trace ≡ and_moves p entry k) e refl)

  tied : (n : ℕ) (s : Sequence) → Tied (metered p entry fuel n s).1 (moves p entry n s)
  unfolding Tied
  tied zero s = inl refl
  tied (suc n) s = one_more (metered p entry fuel n s).0 (metered p entry fuel n s).1 (moves p entry n s) (tied n s)

end_of_over : (a b : SourceEnd) (t u : List TraceEntry) → Over a t ≡ Over b u → a ≡ b
end_of_over a b t u h = cc

-- where a meaning with some fuel ends by the root, so does the sequential run
pub meant_ends : (p : Program) (entry fuel n begun : ℕ) (args : List ArgValue) (end : SourceEnd) (trace : List TraceEntry) → metered p entry fuel n (start p entry args) ≡ (begun, Over end trace) → IsEnd end → Ends p entry args end trace
unfolding Tied
meant_ends p entry fuel n begun args end trace m is_end = record { steps = n; comes = comes (tied p entry fuel n (start p entry args)); is_end = is_end } where
  over : (metered p entry fuel n (start p entry args)).1 ≡ Over end trace
  over = ap (λ (x : Metered). x.1) m

  comes : Tied p entry fuel (metered p entry fuel n (start p entry args)).1 (moves p entry n (start p entry args)) → moves p entry n (start p entry args) ≡ Over end trace
  comes (inl e) = sym e ∙ over
  comes (inr spent) = absurd (subst IsEnd (sym (end_of_over (Spent fuel) end spent.0 trace (sym spent.1 ∙ over))) is_end)

pub meaning_is_one_end : MeaningIsOneEnd
meaning_is_one_end program entry fuel args end trace m is_end ordered =
    (m.p, m.exact, one_end_in_any_order program m.p entry args end trace m.exact (meant_ends m.p entry fuel m.steps m.begun args end trace m.comes is_end) ordered)
