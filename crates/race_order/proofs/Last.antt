-- The last entries of a task tell whether an entry races with any.
use Rattle.std.specs.Prelude.{not, ◌&&◌, nat_le, take, slice_get}
use Rattle.std.proofs.Common.{◌≡◌, ◌≤◌, ℕ, zero, suc, ◌+◌, Bool, true, false, cond, List, [], ◌∷◌, Some, refl, sym, ap, subst, ◌∙◌, arith}
use Rattle.std.proofs.lemmas.Bool.{true≢false, leb-true, le-leb}
use Rattle.ir_forms.specs.declared.names.TraceEntry.{TraceEntry}
use Rattle.ir_forms.specs.Names.{Path, same_path}
use Rattle.race_order.specs.Known.{known}
use Rattle.race_order.specs.Race.{in_conflict, entries_of, is_known, are_racing, races, LastTellsAll}

-- a longer part of a trace has no fewer entries of a task
pub more_entries : (p : Path) (trace : List TraceEntry) (m n : ℕ) → m ≤ n → entries_of p (take m trace) ≤ entries_of p (take n trace)
more_entries p [] zero zero l = omega arith
more_entries p [] zero (suc n) l = omega arith
more_entries p [] (suc m) zero l = omega arith
more_entries p [] (suc m) (suc n) l = omega arith
more_entries p (e ∷ trace) zero n l = omega arith
more_entries p (e ∷ trace) (suc m) zero l = absurd (omega (arith, l))
more_entries p (e ∷ trace) (suc m) (suc n) l = split (same_path e.task p) (more_entries p trace m n (omega (arith, l))) where
  split : (t : Bool) → entries_of p (take m trace) ≤ entries_of p (take n trace) → cond t (suc (entries_of p (take m trace))) (entries_of p (take m trace)) ≤ cond t (suc (entries_of p (take n trace))) (entries_of p (take n trace))
  split true h = omega (arith, h)
  split false h = h

-- what knows a later entry of a task knows the earlier ones
known_before : (trace : List TraceEntry) (h i j : ℕ) (c d e : TraceEntry) → h ≤ i → c.task ≡ d.task → is_known trace i d j e ≡ true → is_known trace h c j e ≡ true
known_before trace h i j c d e l same k = subst (λ p. nat_le (entries_of p (take (h + 1) trace)) (known (take j trace) e.task p) ≡ true) (sym same) (le-leb (entries_of d.task (take (h + 1) trace)) (known (take j trace) e.task d.task) (omega (arith, more_entries d.task trace (h + 1) (i + 1) (omega (arith, l)), leb-true (entries_of d.task (take (i + 1) trace)) (known (take j trace) e.task d.task) k)))

second : (a b : Bool) → a && b ≡ true → b ≡ true
second true b e = e
second false b e = absurd (true≢false (sym e))

pub last_tells_all : LastTellsAll
last_tells_all trace h i j c d e l m at_h at_i at_j same conflict race = whole ∙ (ap (λ t. t && not (is_known trace i d j e)) conflict ∙ unknown (is_known trace i d j e) refl) where
  whole : races trace i j ≡ (in_conflict d e && not (is_known trace i d j e))
  whole = ap (λ o. are_racing trace i o j (slice_get trace j)) at_i ∙ ap (are_racing trace i (Some d) j) at_j

  earlier : in_conflict c e && not (is_known trace h c j e) ≡ true
  earlier = sym (ap (λ o. are_racing trace h o j (slice_get trace j)) at_h ∙ ap (are_racing trace h (Some c) j) at_j) ∙ race

  unknown : (t : Bool) → is_known trace i d j e ≡ t → not t ≡ true
  unknown false k = refl
  unknown true k = absurd (true≢false (sym (sym (ap not (known_before trace h i j c d e l same k)) ∙ second (in_conflict c e) (not (is_known trace h c j e)) earlier)))
