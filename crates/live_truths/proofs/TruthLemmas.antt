-- The sets that are settled are a solution, and so their truths are exact.
use Rattle.std.proofs.Common.{◌≡◌, ◌≢◌, ◌↔◌, IsTrue, inl, inr, ℕ, zero, suc, ◌+◌, ◌<◌, ◌≤◌, ◌&&◌, not, Bool, true, false, List, [], ◌∷◌, ◌++◌, length, drop, replicate, if◌then◌else◌, Option, Some, None, refl, sym, ap, ◌∙◌, arith, subst}
use Rattle.std.specs.Prelude.{slice_get, slice_set, nat_lt, nat_le}
use Rattle.std.specs.Bool.{MatchBool}
use Rattle.std.proofs.lemmas.Bool.Decides.{nat_tests}
use Rattle.bit_sets.specs.Members.{union}
use Rattle.low_flow.specs.Lists.{list_at}
use Rattle.low_forms.specs.declared.code.Block.{Block}
use Rattle.low_forms.specs.declared.code.LowFunc.{LowFunc}
use Rattle.low_forms.specs.Edges.{edges}
use Rattle.liveness.specs.Live.{IsLive}
use Rattle.liveness.specs.Flow.{live_before, set_at, over, joined, back_through, before, countdown}
use Rattle.liveness.specs.State.{IsState, IsSolution, Visits, weight, to_do}
use Rattle.liveness.specs.Visits.{most_of}
use Rattle.liveness.proofs.ListLemmas.{is_either, within, has_here}
use Rattle.liveness.proofs.LiveLemmas as live
use Rattle.liveness.proofs.StateLemmas.{solved, begins, visits_by, state_kept, state_grown, less_kept, less_grown}
use Rattle.liveness.proofs.BeforeLemmas.{are_before, most_to_do}
use Rattle.live_truths.specs.Truths.{is_same_set, visited_as, visited, waiting_after, settled, live_sets, is_live_in, is_live}

same_set : (xs ys : List Bool) → MatchBool (not (is_same_set xs ys)) (xs ≢ ys) (xs ≡ ys)
same_set [] [] = refl
same_set [] (b ∷ ys) = λ is. cc
same_set (a ∷ xs) [] = λ is. cc
same_set (true ∷ xs) (true ∷ ys) = tail true xs ys (is_same_set xs ys) (same_set xs ys)
  where
    tail : (a : Bool) (xs ys : List Bool) (b : Bool) → MatchBool (not b) (xs ≢ ys) (xs ≡ ys) → MatchBool (not b) ((a ∷ xs) ≢ (a ∷ ys)) ((a ∷ xs) ≡ (a ∷ ys))
    tail a xs ys true is = ap (λ (zs : List Bool). a ∷ zs) is
    tail a xs ys false other = λ is. other cc
same_set (true ∷ xs) (false ∷ ys) = λ is. cc
same_set (false ∷ xs) (true ∷ ys) = λ is. cc
same_set (false ∷ xs) (false ∷ ys) = tail false xs ys (is_same_set xs ys) (same_set xs ys)
  where
    tail : (a : Bool) (xs ys : List Bool) (b : Bool) → MatchBool (not b) (xs ≢ ys) (xs ≡ ys) → MatchBool (not b) ((a ∷ xs) ≢ (a ∷ ys)) ((a ∷ xs) ≡ (a ∷ ys))
    tail a xs ys true is = ap (λ (zs : List Bool). a ∷ zs) is
    tail a xs ys false other = λ is. other cc

module _ (f : LowFunc) where
  -- a visit of a block that waits
  visits : (sets : List (List Bool)) (c : ℕ) (waiting : List ℕ) → IsState f sets (c ∷ waiting)
      → Visits f sets (visited f sets c) c (not (is_same_set (set_at (visited f sets c) c) (set_at sets c)))
  visits sets c waiting s =
      let b : (b : Block) × (slice_get f.blocks c ≡ Some b) = live.get_within f.blocks c (s.within c (has_here c waiting)) in
      let more : List Bool = back_through b.0 (joined sets (list_at (edges f) c) (replicate (length f.regs) false)) in
      let is : visited f sets c ≡ slice_set sets c (union (set_at sets c) more) = ap (λ (o : Option Block). visited_as f sets c o) b.1 in
      let here : set_at (visited f sets c) c ≡ union (set_at sets c) more = set_is sets c more (visited f sets c) is (omega (arith, s.within c (has_here c waiting), s.sets_are.long)) in
      visits_by f sets (visited f sets c) c (not (is_same_set (set_at (visited f sets c) c) (set_at sets c))) b.0 s.sets_are (s.within c (has_here c waiting)) b.1 is
      (subst (λ (t : List Bool). MatchBool (not (is_same_set (set_at (visited f sets c) c) (set_at sets c))) (t ≢ set_at sets c) (t ≡ set_at sets c)) here
      (same_set (set_at (visited f sets c) c) (set_at sets c)))
    where
      set_is : (sets : List (List Bool)) (c : ℕ) (more : List Bool) (news : List (List Bool)) → news ≡ slice_set sets c (union (set_at sets c) more) → c < length sets → set_at news c ≡ union (set_at sets c) more
      set_is sets c more news is below = ap (λ (ss : List (List Bool)). set_at ss c) is ∙ set_there sets c (union (set_at sets c) more) below
        where
          set_there : (sets : List (List Bool)) (k : ℕ) (s : List Bool) → k < length sets → set_at (slice_set sets k s) k ≡ s
          set_there [] k s inside = absurd (omega arith)
          set_there (t ∷ sets) zero s inside = refl
          set_there (t ∷ sets) (suc k) s inside = set_there sets k s (omega arith)

  pub settles : (n : ℕ) (sets : List (List Bool)) (waiting : List ℕ) → IsState f sets waiting → to_do (before (edges f)) sets waiting ≤ n → IsSolution f (settled n f sets waiting)
  settles zero sets [] s enough = solved f sets s
  settles zero sets (c ∷ waiting) s enough = absurd (omega (arith, enough))
  settles (suc n) sets [] s enough = solved f sets s
  settles (suc n) sets (c ∷ waiting) s enough = step (visited f sets c) (visits sets c waiting s) (λ ws more less. settles n (visited f sets c) ws more less)
      (is_same_set (set_at (visited f sets c) c) (set_at sets c)) refl
    where
      one_less : to_do (before (edges f)) sets (c ∷ waiting) ≡ to_do (before (edges f)) sets waiting + 1
      one_less = omega arith

      step : (news : List (List Bool)) → Visits f sets news c (not (is_same_set (set_at news c) (set_at sets c)))
          → ((ws : List ℕ) → IsState f news ws → to_do (before (edges f)) news ws ≤ n → IsSolution f (settled n f news ws))
          → (b : Bool) → is_same_set (set_at news c) (set_at sets c) ≡ b → IsSolution f (settled n f news (if b then waiting else waiting ++ list_at (before (edges f)) c))
      step news visit go true is =
          let less : to_do (before (edges f)) news waiting ≤ to_do (before (edges f)) sets waiting = less_kept f (before (edges f)) sets news c _ waiting visit s (ap not is) in
          go waiting (state_kept f sets news c _ waiting visit s (ap not is)) (omega (arith, less, one_less, enough))
      step news visit go false is =
          let less : to_do (before (edges f)) news (waiting ++ list_at (before (edges f)) c) ≤ to_do (before (edges f)) sets waiting =
          less_grown f (before (edges f)) sets news c _ waiting (waiting ++ list_at (before (edges f)) c) visit s (ap not is) refl in
          go (waiting ++ list_at (before (edges f)) c)
          (state_grown f (before (edges f)) sets news c _ waiting (waiting ++ list_at (before (edges f)) c) (are_before f) visit s refl) (omega (arith, less, one_less, enough))

  pub live_sets_solve : IsSolution f (live_sets f)
  live_sets_solve = settles (most_of f) (replicate (length f.blocks) (replicate (length f.regs) false)) (countdown (length f.blocks)) (begins f)
      (most_to_do f (before (edges f)) (before (edges f)) (edges f) (replicate (length f.blocks) (replicate (length f.regs) false)) (countdown (length f.blocks)) refl refl refl refl refl)

  module _ (block row r : ℕ) (known : r < length f.regs) where
    by_block : (o : Option Block) → slice_get f.blocks block ≡ o → IsTrue (is_live_in f block row r o) ↔ IsLive f r (record { block = block; row = row })
    by_block None none = live.not_missing f r block row none
    by_block (Some b) at = elim (within (length b.instrs) row) [
      | inl past ↦ subst (λ x. IsTrue (x && live_before (drop row b.instrs) b.term (over (live_sets f) r (list_at (edges f) block)) r) ↔ IsLive f r (record { block = block; row = row }))
          (sym (no_row past)) (live.not_past f r block row b at past)
      | inr fits ↦ live.exact f r (live_sets f) live_sets_solve known block row b (is_live_in f block row r (Some b)) at fits (ap (λ x. x && live_before (drop row b.instrs) b.term (over (live_sets f) r (list_at (edges f) block)) r) (a_row fits))
    ]
      where
        no_row : length b.instrs < row → nat_le row (length b.instrs) ≡ false
        no_row past = grind (arith, nat_tests, past)

        a_row : row ≤ length b.instrs → nat_le row (length b.instrs) ≡ true
        a_row fits = grind (arith, nat_tests, fits)

    inside : nat_lt r (length f.regs) ≡ true
    inside = grind (arith, nat_tests, known)

pub exact : (f : LowFunc) (block row r : ℕ) → r < length f.regs → IsTrue (is_live f block row r) ↔ IsLive f r (record { block = block; row = row })
unfolding is_live
exact f block row r known =
    subst (λ x. IsTrue (x && is_live_in f block row r (slice_get f.blocks block)) ↔ IsLive f r (record { block = block; row = row })) (sym (inside f block row r known))
    (by_block f block row r known (slice_get f.blocks block) refl)
