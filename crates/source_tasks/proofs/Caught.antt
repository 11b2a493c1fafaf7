-- Where a failure is caught.
use Rattle.std.proofs.Common.{◌≡◌, ℕ, List, [], ◌∷◌, None, refl, sym, ap, subst, ◌∙◌}
use Rattle.ir_forms.specs.declared.ops.Op.{Op}
use Rattle.source_meaning.specs.Tasks.{After, Task, Next}
use Rattle.source_meaning.specs.Flow.{tried, caught_at, caught}

-- the frames that a task has don't matter to where its failure is caught
pub caught_same : (at : ℕ) (fs gs : List (After × List Op)) (t : Task) → caught at fs (record t { frames = gs }) ≡ caught at fs t
caught_same at [] gs t = refl
caught_same at (f ∷ fs) gs t = ap (caught_at (tried f.0) (record t { rest = f.1; frames = fs })) (caught_same at fs gs t)

through : (at : ℕ) (u : Task) (f : After × List Op) → tried f.0 ≡ None → caught at (f ∷ u.frames) (record u { frames = f ∷ u.frames }) ≡ caught at u.frames u
through at u f e =
    ap (λ o. caught_at o (record u { rest = f.1 }) (caught at u.frames (record u { frames = f ∷ u.frames }))) e ∙ caught_same at u.frames (f ∷ u.frames) u

-- a frame that isn't of a tried call lets the failure through
pub caught_popped : (at : ℕ) (t u : Task) (f : After × List Op) (total : Next) → t ≡ record u { frames = f ∷ u.frames } → tried f.0 ≡ None → caught at t.frames t ≡ total → caught at u.frames u ≡ total
caught_popped at t u f total s e k = sym (through at u f e) ∙ subst (λ (v : Task). caught at v.frames v ≡ total) s k
