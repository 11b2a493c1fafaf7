-- The table of marks tells which values are used.
use Rattle.std.proofs.Common.{◌≡◌, ℕ, zero, suc, ◌<◌, ◌≤◌, Bool, true, false, cond, nat_eq, List, [], ◌∷◌, ◌++◌, length, map, set, slice_get, refl, ap, subst, ◌∙◌, arith}
use Rattle.std.proofs.lemmas.Bool.{eqb-true, eqb-false}
use Rattle.ir_forms.specs.declared.ops.Func.{Func}
use Rattle.ir_forms.specs.declared.ops.ValueNo.{ValueNo}
use Rattle.source_meaning.specs.Values.{or_else}
use Rattle.source_meaning.specs.Parts.{uses_of}
use Rattle.source_meaning.specs.Steps.{is_among}
use Rattle.source_tasks.specs.Uses.{mark_of, marked, marked_all, table_of}

pub marked_within : (marks : List Bool) (k : ℕ) → k < length marks → marked marks k ≡ set marks k true
marked_within [] k h = absurd (omega arith)
marked_within (b ∷ marks) zero h = refl
marked_within (b ∷ marks) (suc k) h = ap (λ bs. b ∷ bs) (marked_within marks k (omega arith))

-- what isn't there has no mark anyway
pub marked_past : (marks : List Bool) (k : ℕ) → length marks ≤ k → marked (marks ++ false ∷ []) k ≡ marked marks k
marked_past [] zero h = refl
marked_past [] (suc k) h = refl
marked_past (b ∷ marks) zero h = absurd (omega arith)
marked_past (b ∷ marks) (suc k) h = ap (λ bs. b ∷ bs) (marked_past marks k (omega arith))

pub marked_grown : (first marks last : List Bool) (k : ℕ) → marked marks k ≡ marked first k → length marks ≤ k → last ≡ marks ++ false ∷ [] → marked last k ≡ marked first k
marked_grown first marks last k same at is = rw is (rw (marked_past marks k at) same)

mark_same : (marks : List Bool) (k : ℕ) → mark_of (marked marks k) k ≡ true
mark_same [] zero = refl
mark_same [] (suc k) = mark_same [] k
mark_same (b ∷ marks) zero = refl
mark_same (b ∷ marks) (suc k) = mark_same marks k

mark_other : (marks : List Bool) (k v : ℕ) → (k ≡ v → ⊥) → mark_of (marked marks k) v ≡ mark_of marks v
mark_other [] zero zero h = absurd (h refl)
mark_other [] zero (suc v) h = refl
mark_other [] (suc k) zero h = refl
mark_other [] (suc k) (suc v) h = mark_other [] k v (λ e. h (ap suc e))
mark_other (b ∷ marks) zero zero h = absurd (h refl)
mark_other (b ∷ marks) zero (suc v) h = refl
mark_other (b ∷ marks) (suc k) zero h = refl
mark_other (b ∷ marks) (suc k) (suc v) h = mark_other marks k v (λ e. h (ap suc e))

mark_marked : (marks : List Bool) (k v : ℕ) → mark_of (marked marks k) v ≡ cond (nat_eq k v) true (mark_of marks v)
mark_marked marks k v = go (nat_eq k v) refl where
  go : (b : Bool) → nat_eq k v ≡ b → mark_of (marked marks k) v ≡ cond b true (mark_of marks v)
  go true e = subst (λ (j : ℕ). mark_of (marked marks k) j ≡ true) (eqb-true k v e) (mark_same marks k)
  go false e = mark_other marks k v (eqb-false k v e)

among_or : (a b c : Bool) → cond b true (cond a true c) ≡ cond (cond a true b) true c
among_or true true c = refl
among_or true false c = refl
among_or false b c = refl

mark_all : (xs : List ValueNo) (marks : List Bool) (v : ℕ) → mark_of (marked_all marks xs) v ≡ cond (is_among v xs) true (mark_of marks v)
mark_all [] marks v = refl
mark_all (x ∷ xs) marks v =
    mark_all xs (marked marks x.0) v ∙ ap (λ b. cond (is_among v xs) true b) (mark_marked marks x.0 v)
    ∙ among_or (nat_eq x.0 v) (is_among v xs) (mark_of marks v)

or_false : (b : Bool) → cond b true false ≡ b
or_false true = refl
or_false false = refl

-- the mark of a value in the table of a function
pub table_tells : (funcs : List Func) (k v : ℕ) →
    mark_of (or_else [] (slice_get (map (λ f. table_of (uses_of f)) funcs) k)) v ≡ is_among v (or_else [] (slice_get (map uses_of funcs) k))
table_tells [] k v = refl
table_tells (f ∷ funcs) zero v = mark_all (uses_of f) [] v ∙ or_false (is_among v (uses_of f))
table_tells (f ∷ funcs) (suc k) v = table_tells funcs k v
