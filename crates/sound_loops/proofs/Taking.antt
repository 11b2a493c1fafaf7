-- Values that are taken one after another are visible where they are parameters.
use Rattle.std.proofs.Common.{◌≡◌, ◌≤◌, ◌<◌, ℕ, suc, ◌+◌, ◌==◌, cond, Bool, true, false, List, [], ◌∷◌, ◌++◌, length, Some, refl, sym, ap, ◌∙◌, subst, arith}
use Rattle.ir_forms.specs.declared.ops.ValueNo.{ValueNo}
use Rattle.ir_forms.specs.declared.types.Ty.{Ty}
use Rattle.ir_forms.specs.declared.types.Ty.TheVariants as ty
use Rattle.ir_verify.specs.Places.{Seen}
use Rattle.ir_verify.specs.Scopes.{lookup}
use Rattle.made_ops.specs.declared.insertion.Insertion.{Insertion}
use Rattle.loop_blocks.specs.declared.told.Plan.{Plan}
use Rattle.loop_blocks.specs.declared.told.Told.{Told}
use Rattle.loop_blocks.specs.Made.{Typed, each_taken, indexes, renewed, taken, types_in, values_in}
use Rattle.loop_blocks.specs.Blocks.{shared, told}
use Rattle.sound_laws.specs.Made.{Runs}
use Rattle.sound_laws.proofs.Sight.{equal, is_equal, not_equal}
use Rattle.sound_laws.proofs.Making.{runs_on}
use Rattle.sound_loops.specs.Seen.{AllIndex, AreSeen, AreSound}

-- ---- numbers that run on

abbrev AreAbove : ℕ → Typed → Type 0
AreAbove n [] = Unit {0}
AreAbove n (p ∷ ps) = (n ≤ p.0.0) × AreAbove n ps

above : (n a b : ℕ) (ps : Typed) → n ≤ a → Runs a b (values_in ps) → AreAbove n ps
above n a b [] le run = tt
above n a b (p ∷ ps) le run = (omega (arith, le, run.0), above n (a + 1) b ps (omega (arith, le)) run.1)

-- behind a value of a lesser number
still : (p : ValueNo × Ty) (qs ps : Typed) → AreAbove (p.0.0 + 1) ps → AreSeen qs ps → AreSeen (p ∷ qs) ps
still p qs [] le h = tt
still p qs (q ∷ ps) le h = (ap (λ b. cond b (Some p.1) (lookup qs q.0.0)) (not_equal p.0.0 q.0.0 (λ e. absurd (omega (arith, le.0, e)))) ∙ h.0, still p qs ps le.1 h.1)

pub all_seen : (a b : ℕ) (ps : Typed) → Runs a b (values_in ps) → AreSeen ps ps
all_seen a b [] run = tt
all_seen a b (p ∷ ps) run = (
  ap (λ z. cond z (Some p.1) (lookup ps p.0.0)) (is_equal p.0.0 p.0.0 refl),
  still p ps ps (above (p.0.0 + 1) (a + 1) b ps (omega (arith, run.0)) run.1) (all_seen (a + 1) b ps run.1),
)

ends_above : (a b : ℕ) (ps : Typed) → Runs a b (values_in ps) → a ≤ b
ends_above a b [] run = omega (arith, run)
ends_above a b (p ∷ ps) run = let later : a + 1 ≤ b = ends_above (a + 1) b ps run.1 in omega (arith, later)

pub all_below : (a b : ℕ) (ps : Typed) → Runs a b (values_in ps) → (v : ℕ) (t : Ty) → lookup ps v ≡ Some t → v < b
all_below a b [] run v t is = cc
all_below a b (p ∷ ps) run v t is = step (p.0.0 == v) refl is (all_below (a + 1) b ps run.1 v t)
  where
    later : a + 1 ≤ b
    later = ends_above (a + 1) b ps run.1

    step : (z : Bool) → (p.0.0 == v) ≡ z → cond z (Some p.1) (lookup ps v) ≡ Some t → (lookup ps v ≡ Some t → v < b) → v < b
    step true e found again = let same : p.0.0 ≡ v = equal p.0.0 v e in omega (arith, same, run.0, later)
    step false e found again = again found

-- ---- lists of indexes

pub index_later : (s u : Seen) (vs : List ValueNo) → ((n : ℕ) (t : Ty) → lookup s n ≡ Some t → lookup u n ≡ Some t) → AllIndex s vs → AllIndex u vs
index_later s u [] keeps h = tt
index_later s u (v ∷ vs) keeps h = (keeps v.0 ty.Index h.0, index_later s u vs keeps h.1)

pub seen_later : (s u : Seen) (ps : Typed) → ((n : ℕ) (t : Ty) → lookup s n ≡ Some t → lookup u n ≡ Some t) → AreSeen s ps → AreSeen u ps
seen_later s u [] keeps h = tt
seen_later s u (p ∷ ps) keeps h = (keeps p.0.0 p.1 h.0, seen_later s u ps keeps h.1)

pub indexes_seen : (s : Seen) (vs : List ValueNo) (ps : Typed) → AllIndex s vs → AreSeen s ps → AreSeen s (indexes vs ++ ps)
indexes_seen s [] ps f g = g
indexes_seen s (v ∷ vs) ps f g = (f.0, indexes_seen s vs ps f.1 g)

pub indexes_sound : (vs : List ValueNo) (ps : Typed) → AreSound ps → AreSound (indexes vs ++ ps)
indexes_sound [] ps h = h
indexes_sound (v ∷ vs) ps h = (record { same = refl; cells = refl }, indexes_sound vs ps h)

seen_front : (s : Seen) (vs : List ValueNo) (ps : Typed) → AreSeen s (indexes vs ++ ps) → AllIndex s vs × AreSeen s ps
seen_front s [] ps h = (tt, h)
seen_front s (v ∷ vs) ps h = let rest : AllIndex s vs × AreSeen s ps = seen_front s vs ps h.1 in ((h.0, rest.0), rest.1)

pub types_alike : (vs ws : List ValueNo) (ps qs : Typed) → length vs ≡ length ws → types_in ps ≡ types_in qs → types_in (indexes vs ++ ps) ≡ types_in (indexes ws ++ qs)
types_alike [] [] ps qs count e = e
types_alike [] (w ∷ ws) ps qs count e = absurd (omega (arith, count))
types_alike (v ∷ vs) [] ps qs count e = absurd (omega (arith, count))
types_alike (v ∷ vs) (w ∷ ws) ps qs count e = ap (λ (ts : List Ty). ty.Index ∷ ts) (types_alike vs ws ps qs (omega (arith, count)) e)

-- ---- what is taken

pub record IsTaken (i j : Insertion) (vs : List ValueNo) : Type 0 where
  pub ops : j.ops ≡ i.ops
  pub known : j.known ≡ i.known
  pub runs : Runs i.free j.free vs

pub each_is_taken : (vs : List ValueNo) (i : Insertion) → IsTaken i (each_taken vs i).1 (each_taken vs i).0 × (length (each_taken vs i).0 ≡ length vs)
each_is_taken [] i = (record { ops = refl; known = refl; runs = refl }, refl)
each_is_taken (v ∷ vs) i =
    let rest : IsTaken (taken i).1 (each_taken vs (taken i).1).1 (each_taken vs (taken i).1).0 × (length (each_taken vs (taken i).1).0 ≡ length vs) = each_is_taken vs (taken i).1 in
    (record { ops = rest.0.ops; known = rest.0.known; runs = (refl, rest.0.runs) }, ap suc rest.1)

sound_renewed : (ps : Typed) (i : Insertion) → AreSound ps → AreSound (renewed ps i).0
sound_renewed [] i h = tt
sound_renewed (p ∷ ps) i h = (h.0, sound_renewed ps (taken i).1 h.1)

renewed_is_taken : (ps : Typed) (i : Insertion) → IsTaken i (renewed ps i).1 (values_in (renewed ps i).0) × (types_in (renewed ps i).0 ≡ types_in ps)
renewed_is_taken [] i = (record { ops = refl; known = refl; runs = refl }, refl)
renewed_is_taken (p ∷ ps) i =
    let rest : IsTaken (taken i).1 (renewed ps (taken i).1).1 (values_in (renewed ps (taken i).1).0) × (types_in (renewed ps (taken i).1).0 ≡ types_in ps) = renewed_is_taken ps (taken i).1 in
    (record { ops = rest.0.ops; known = rest.0.known; runs = (refl, rest.0.runs) }, ap (λ (ts : List Ty). p.1 ∷ ts) rest.1)

pub values_front : (vs : List ValueNo) (ps : Typed) → values_in (indexes vs ++ ps) ≡ vs ++ values_in ps
values_front [] ps = refl
values_front (v ∷ vs) ps = ap (λ (ws : List ValueNo). v ∷ ws) (values_front vs ps)

-- ---- what a block is told

-- a plan's block is told this, which is visible
pub record IsTold (now : Seen) (p : Plan) (t : Told) : Type 0 where
  pub size : lookup now t.size.0 ≡ Some ty.Index
  pub trip : lookup now t.trip.0 ≡ Some ty.Index
  pub lowers : AllIndex now t.lowers
  pub steps : AllIndex now t.steps
  pub turns : AllIndex now t.turns
  pub captured : AreSeen now t.captured
  pub lowers_count : length t.lowers ≡ length p.lowers
  pub steps_count : length t.steps ≡ length p.lowers
  pub turns_count : length t.turns ≡ length p.lowers
  pub types : types_in t.captured ≡ types_in p.captured
  pub sound : AreSound t.captured

pub told_later : (s u : Seen) (p : Plan) (t : Told) → ((n : ℕ) (ty : Ty) → lookup s n ≡ Some ty → lookup u n ≡ Some ty) → IsTold s p t → IsTold u p t
told_later s u p t keeps h = record {
  size = keeps t.size.0 ty.Index h.size;
  trip = keeps t.trip.0 ty.Index h.trip;
  lowers = index_later s u t.lowers keeps h.lowers;
  steps = index_later s u t.steps keeps h.steps;
  turns = index_later s u t.turns keeps h.turns;
  captured = seen_later s u t.captured keeps h.captured;
  lowers_count = h.lowers_count;
  steps_count = h.steps_count;
  turns_count = h.turns_count;
  types = h.types;
  sound = h.sound;
}

-- the parameters for it run on
pub told_runs : (p : Plan) (i : Insertion) → IsTaken i (told p i).1 (values_in (shared (told p i).0))
told_runs p i =
    let i2 : Insertion = (taken (taken i).1).1 in
    let a : List ValueNo × Insertion = each_taken p.lowers i2 in
    let b : List ValueNo × Insertion = each_taken p.lowers a.1 in
    let c : List ValueNo × Insertion = each_taken p.lowers b.1 in
    let d : Typed × Insertion = renewed p.captured c.1 in
    let ta : IsTaken i2 a.1 a.0 = (each_is_taken p.lowers i2).0 in
    let tb : IsTaken a.1 b.1 b.0 = (each_is_taken p.lowers a.1).0 in
    let tc : IsTaken b.1 c.1 c.0 = (each_is_taken p.lowers b.1).0 in
    let td : IsTaken c.1 d.1 (values_in d.0) = (renewed_is_taken p.captured c.1).0 in
    let values : values_in (indexes a.0 ++ (indexes b.0 ++ (indexes c.0 ++ d.0))) ≡ a.0 ++ (b.0 ++ (c.0 ++ values_in d.0)) =
    values_front a.0 (indexes b.0 ++ (indexes c.0 ++ d.0))
    ∙ ap (λ (vs : List ValueNo). a.0 ++ vs) (values_front b.0 (indexes c.0 ++ d.0) ∙ ap (λ (vs : List ValueNo). b.0 ++ vs) (values_front c.0 d.0)) in
    let runs : Runs i2.free d.1.free (a.0 ++ (b.0 ++ (c.0 ++ values_in d.0))) =
    runs_on i2.free a.1.free d.1.free a.0 (b.0 ++ (c.0 ++ values_in d.0)) ta.runs
    (runs_on a.1.free b.1.free d.1.free b.0 (c.0 ++ values_in d.0) tb.runs (runs_on b.1.free c.1.free d.1.free c.0 (values_in d.0) tc.runs td.runs)) in
    record {
      ops = td.ops ∙ tc.ops ∙ tb.ops ∙ ta.ops;
      known = td.known ∙ tc.known ∙ tb.known ∙ ta.known;
      runs = (refl, (refl, subst (Runs i2.free d.1.free) (sym values) runs));
    }

-- where they are visible, so is what the block is told
pub is_told : (now : Seen) (p : Plan) (i : Insertion) → AreSound p.captured → AreSeen now (shared (told p i).0) → IsTold now p (told p i).0
is_told now p i sound seen =
    let i2 : Insertion = (taken (taken i).1).1 in
    let a : List ValueNo × Insertion = each_taken p.lowers i2 in
    let b : List ValueNo × Insertion = each_taken p.lowers a.1 in
    let c : List ValueNo × Insertion = each_taken p.lowers b.1 in
    let d : Typed × Insertion = renewed p.captured c.1 in
    let sa : AllIndex now a.0 × AreSeen now (indexes b.0 ++ (indexes c.0 ++ d.0)) = seen_front now a.0 (indexes b.0 ++ (indexes c.0 ++ d.0)) seen.1.1 in
    let sb : AllIndex now b.0 × AreSeen now (indexes c.0 ++ d.0) = seen_front now b.0 (indexes c.0 ++ d.0) sa.1 in
    let sc : AllIndex now c.0 × AreSeen now d.0 = seen_front now c.0 d.0 sb.1 in
    record {
      size = seen.0;
      trip = seen.1.0;
      lowers = sa.0;
      steps = sb.0;
      turns = sc.0;
      captured = sc.1;
      lowers_count = (each_is_taken p.lowers i2).1;
      steps_count = (each_is_taken p.lowers a.1).1;
      turns_count = (each_is_taken p.lowers b.1).1;
      types = (renewed_is_taken p.captured c.1).1;
      sound = sound_renewed p.captured c.1 sound;
    }
