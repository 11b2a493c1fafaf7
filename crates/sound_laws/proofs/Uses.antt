-- In a sound module each operand is a value that its function defines.
use Rattle.std.proofs.Common.{◌≡◌, ◌<◌, ℕ, zero, suc, ◌+◌, true, false, List, [], ◌∷◌, ◌++◌, map, length, Option, Some, None, slice_get, refl, sym, ◌∙◌, subst, arith}
use Rattle.std.specs.List.{All, Contains, slice_index_or}
use Rattle.std.specs.Option.{is_some}
use Rattle.op_table.specs.declared.rows.Level.{Level}
use Rattle.op_table.specs.declared.rows.Level.TheVariants.{Low}
use Rattle.ir_forms.specs.declared.ops.Op.{Op}
use Rattle.ir_forms.specs.declared.ops.Op.TheFolds.{fold-Op, fold-Region, fold_out-Op, fold_out-Region}
use Rattle.ir_forms.specs.declared.ops.Region.{Region}
use Rattle.ir_forms.specs.declared.ops.Func.{Func}
use Rattle.ir_forms.specs.declared.ops.ValueNo.{ValueNo}
use Rattle.ir_forms.specs.declared.types.Ty.{Ty}
use Rattle.ir_forms.specs.Ops.{operands_of, results_of, regions_of, ops_of}
use Rattle.ir_verify.specs.Places.{Around, Seen, Spot, params_of, types_of, defined, is_none_left, within, in_body, place_of, places_at, places_in, places_along, places_held}
use Rattle.ir_verify.specs.Scopes.{lookup}
use Rattle.ir_verify.specs.Verdict.{body_places}
use Rattle.ir_verify.proofs.PlaceLemmas.{places_at-out, places_in-out}
use Rattle.source_meaning.specs.Parts.{joined, uses_at, uses_under, uses_of}
use Rattle.value_numbers.specs.Numbers.{defined_in, first_place, numbered_values}
use Rattle.sound_laws.specs.Extended.{IsFine, AreFine, Names, IsDistinct, AreOwn, AreOwnParams, Part, Ops, Regions, Extends, no_ops, inserts, keeps, no_regions, region, IsExtended}
use Rattle.sound_laws.specs.Laws.{SoundUsesOwn}
use Rattle.sound_laws.proofs.Sight.{lookup_append, or_else, own_found, own_defined}
use Rattle.sound_laws.proofs.Sound.{fine_front, fine_rest}
use Rattle.sound_laws.proofs.Facts.{Reads, reads}
use Rattle.sound_laws.proofs.Numbered.{placed_names, placed_distinct, place_holds, numbered_func}
use Rattle.sound_laws.proofs.Whole.{sound_fine}

-- the operands in an operation, and in a region
abbrev uses_in : Op → List ValueNo
uses_in = fold-Op (List ValueNo) (List ValueNo) uses_at uses_under

abbrev uses_inside : Region → List ValueNo
uses_inside = fold-Region (List ValueNo) (List ValueNo) uses_at uses_under

uses_out : (o : Op) → uses_in o ≡ operands_of o ++ joined (map uses_inside (regions_of o))
uses_out o = fold_out-Op (List ValueNo) (List ValueNo) uses_at uses_under o

uses_within : (r : Region) → uses_inside r ≡ joined (map uses_in (ops_of r))
uses_within r = fold_out-Region (List ValueNo) (List ValueNo) uses_at uses_under r

module _ (names : Names) (distinct : IsDistinct names) where
  own_both : (xs ys : List ValueNo) → AreOwn names xs → AreOwn names ys → AreOwn names (xs ++ ys)
  own_both [] ys f g = g
  own_both (x ∷ xs) ys f g = (f.0, own_both xs ys f.1 g)

  -- all that is visible is own
  abbrev Own : Seen → Type 0
  Own seen = (v : ℕ) (t : Ty) → lookup seen v ≡ Some t → names.is_own v ≡ true

  own_more : (seen d : Seen) → Own seen → AreOwnParams names d → Own (seen ++ d)
  own_more seen d own more v t is = step (lookup seen v) refl (sym (lookup_append seen d v) ∙ is)
    where
      step : (o : Option Ty) → lookup seen v ≡ o → or_else o (lookup d v) ≡ Some t → names.is_own v ≡ true
      step (Some u) there e = own v u there
      step None there e = own_found names distinct d v t more e

  operands_own : (s : Spot) (fine : IsFine s) (vs : List ValueNo) → Own s.seen → ((i : ℕ) (v : ValueNo) → slice_get vs i ≡ Some v → (j : ℕ) × (slice_get (operands_of s.place.op) j ≡ Some v)) → AreOwn names vs
  operands_own s fine [] own h = tt
  operands_own s fine (v ∷ vs) own h =
      let at : (j : ℕ) × (slice_get (operands_of s.place.op) j ≡ Some v) = h 0 v refl in
      let r : Reads s fine at.0 v = reads s fine at.0 v at.1 in
      (own v.0 r.type r.visible, operands_own s fine vs own (λ i w at. h (suc i) w at))

  module _ (funcs more : List Func) (level : Level) where
    abbrev Uses : Part → Type 0
    Uses (Ops os) = (a : Around) (seen : Seen) → Own seen → AreFine (places_along funcs os a seen) → AreOwn names (joined (map uses_in os))
    Uses (Regions rs) = (a : Around) (o : Op) (k : ℕ) (seen : Seen) → Own seen → AreFine (places_held funcs rs a o k seen) → AreOwn names (joined (map uses_inside rs))

    uses_own : {x y : Part} {now : Seen} → Extends more level names x y now → Uses x
    uses_own (no_ops now) = λ a seen own fine. tt
    uses_own (inserts made o os ps now is new rest) = uses_own rest
    uses_own (keeps o p os ps now kept results regions rest) = λ a seen own fine.
        let after : Seen = seen ++ defined (results_of o) (types_of o) in
        let here : AreFine (record { seen = seen; place = place_of funcs a (is_none_left os) o } ∷ places_held funcs (regions_of o) a o 0 seen) =
        subst AreFine (places_at-out funcs o a seen (is_none_left os)) (fine_front (places_at funcs o a seen (is_none_left os)) (places_along funcs os a after) fine) in
        own_both (uses_in o) (joined (map uses_in os))
        (subst (AreOwn names) (sym (uses_out o))
        (own_both (operands_of o) (joined (map uses_inside (regions_of o)))
        (operands_own (record { seen = seen; place = place_of funcs a (is_none_left os) o }) here.0 (operands_of o) own (λ i v at. (i, at)))
        (uses_own regions a o 0 seen own here.1)))
        (uses_own rest a after (own_more seen (defined (results_of o) (types_of o)) own (own_defined names (results_of o) (types_of o) results)) (fine_rest (places_at funcs o a seen (is_none_left os)) (places_along funcs os a after) fine))
    uses_own (no_regions now) = λ a o k seen own fine. tt
    uses_own (region r s rs ss now params own_params ops rest) = λ a o k seen own fine.
        let here : AreFine (places_along funcs (ops_of r) (within a o k) (seen ++ params_of r)) =
        subst AreFine (places_in-out funcs r (within a o k) seen) (fine_front (places_in funcs r (within a o k) seen) (places_held funcs rs a o (k + 1) seen) fine) in
        own_both (uses_inside r) (joined (map uses_inside rs))
        (subst (AreOwn names) (sym (uses_within r)) (uses_own ops (within a o k) (seen ++ params_of r) (own_more seen (params_of r) own own_params) here))
        (uses_own rest a o (k + 1) seen own (fine_rest (places_in funcs r (within a o k) seen) (places_held funcs rs a o (k + 1) seen) fine))

    func_uses : (f g : Func) → IsExtended more level names f g → AreFine (body_places funcs f false) → AreOwn names (uses_of f)
    func_uses f g e fine =
        let here : AreFine (places_along funcs (ops_of f.body) (in_body f false) (f.params ++ params_of f.body)) = subst AreFine (places_in-out funcs f.body (in_body f false) f.params) fine in
        let heads : Own f.params = own_more [] f.params (λ v t is. cc) e.own in
        subst (AreOwn names) (sym (uses_within f.body)) (uses_own e.body (in_body f false) (f.params ++ params_of f.body) (own_more f.params (params_of f.body) heads e.body_own) here)

-- ---- by places

contained : (xs : List ℕ) (p v : ℕ) → slice_get xs p ≡ Some v → (p < length xs) × (slice_index_or xs p v ≡ v)
contained [] p v at = cc
contained (x ∷ xs) zero v at = let same : x ≡ v = cc in (omega arith, same)
contained (x ∷ xs) (suc p) v at = let again : (p < length xs) × (slice_index_or xs p v ≡ v) = contained xs p v at in (omega (arith, again.0), again.1)

own_contained : (xs : List ℕ) (v : ℕ) → is_some (first_place xs v) ≡ true → Contains xs v
own_contained xs v h = step (first_place xs v) refl h
  where
    step : (o : Option ℕ) → first_place xs v ≡ o → is_some o ≡ true → Contains xs v
    step None is h = cc
    step (Some p) is h = let c : (p < length xs) × (slice_index_or xs p v ≡ v) = contained xs p v (place_holds xs v p is) in (p, c.0, c.1)

all_contained : (xs : List ℕ) (vs : List ValueNo) → AreOwn (placed_names xs) vs → All (λ v. Contains xs v.0) vs
all_contained xs [] own k d under = absurd (omega arith)
all_contained xs (v ∷ vs) own zero d under = own_contained xs v.0 own.0
all_contained xs (v ∷ vs) own (suc k) d under = all_contained xs vs own.1 k d (omega arith)

all_funcs : (P : Func → Type 0) (fs : List Func) → ((k : ℕ) (f : Func) → slice_get fs k ≡ Some f → P f) → All P fs
all_funcs P [] h k d under = absurd (omega arith)
all_funcs P (f ∷ fs) h zero d under = h 0 f refl
all_funcs P (f ∷ fs) h (suc k) d under = all_funcs P fs (λ j g at. h (suc j) g at) k d (omega arith)

pub sound_uses_own : SoundUsesOwn
sound_uses_own program sound =
    all_funcs (λ f. All (λ v. Contains (defined_in f) v.0) (uses_of f)) program.funcs
    (λ k f at. all_contained (defined_in f) (uses_of f)
    (func_uses (placed_names (defined_in f)) (placed_distinct (defined_in f)) program.funcs program.funcs Low f (numbered_values f) (numbered_func program.funcs Low f) (sound_fine program.funcs sound k f at)))
