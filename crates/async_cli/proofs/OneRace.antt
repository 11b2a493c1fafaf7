-- A trace has one answer of the race check.
use Rattle.std.proofs.Common.{◌≡◌, ◌<◌, ◌⊎◌, ℕ, Bool, true, false, List, Option, Some, None, refl, sym, ap, subst, ◌∙◌, inl, inr, arith}
use Rattle.std.proofs.lemmas.Bool.{cases_order}
use Rattle.ir_forms.specs.declared.names.TraceEntry.{TraceEntry}
use Rattle.race_order.specs.Race.{races, IsOrdered, IsFirstRace, IsAnswer}

not_both : (b : Bool) → b ≡ true → b ≡ false → ⊥
not_both b holds fails = let both : true ≡ false = sym holds ∙ fails in cc both

one_later : (trace : List TraceEntry) (i j k l : ℕ) → IsFirstRace trace i j → IsFirstRace trace k l → j ≡ l
one_later trace i j k l a b =
    elim (cases_order j l) [
      | inl same ↦ same
      | inr differs ↦ elim differs [
        | inl less ↦ absurd (not_both _ a.race (b.least_later i j a.before less))
        | inr less ↦ absurd (not_both _ b.race (a.least_later k l b.before less))
      ]
    ]

one_earlier : (trace : List TraceEntry) (i k j : ℕ) → IsFirstRace trace i j → IsFirstRace trace k j → i ≡ k
one_earlier trace i k j a b =
    elim (cases_order i k) [
      | inl same ↦ same
      | inr differs ↦ elim differs [
        | inl less ↦ absurd (not_both _ a.race (b.least_earlier i less))
        | inr less ↦ absurd (not_both _ b.race (a.least_earlier k less))
      ]
    ]

pub one_race : (trace : List TraceEntry) (r q : Option (ℕ × ℕ)) → IsAnswer trace r → IsAnswer trace q → r ≡ q
one_race trace None None a b = refl
one_race trace None (Some q) a b = absurd (not_both _ b.race (a q.0 q.1 b.before))
one_race trace (Some r) None a b = absurd (not_both _ a.race (b r.0 r.1 a.before))
one_race trace (Some r) (Some q) a b =
    let later : r.1 ≡ q.1 = one_later trace r.0 r.1 q.0 q.1 a b in
    let here : IsFirstRace trace r.0 q.1 = subst (λ j. IsFirstRace trace r.0 j) later a in
    let earlier : r.0 ≡ q.0 = one_earlier trace r.0 q.0 q.1 here b in
    ap (λ i. Some (i, r.1)) earlier ∙ ap (λ j. Some (q.0, j)) later
