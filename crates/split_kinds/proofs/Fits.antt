-- Which modules keep what passes without their loops, and values under other numbers.
use Rattle.std.proofs.Common.{◌≡◌, ℕ, suc, ◌+◌, ◌||◌, ◌&&◌, not, Bool, true, false, List, [], ◌∷◌, ◌++◌, map, length, Some, refl, sym, ap, ap₂, subst, ◌∙◌, arith}
use Rattle.std.specs.Prelude.{slice_get}
use Rattle.std.specs.Option.{is_some}
use Rattle.op_table.specs.declared.kind.OpKind.{OpKind}
use Rattle.op_table.specs.declared.kind.OpKind.TheVariants as op
use Rattle.op_table.specs.Rows.{row_of}
use Rattle.ir_forms.specs.declared.ops.Func.{Func}
use Rattle.ir_forms.specs.declared.ops.Op.{Op, Op-F, roll-Op, out-roll-Op}
use Rattle.ir_forms.specs.declared.ops.Op.TheFolds.{fold-Op, fold-Region, fold-roll-Op, fold-roll-Region}
use Rattle.ir_forms.specs.declared.ops.Region.{Region, Region-F, roll-Region, out-roll-Region}
use Rattle.ir_forms.specs.Ops.{regions_of, ops_of, results_of}
use Rattle.ir_verify.specs.Levels.{kinds_at, kinds_in, kinds_along, kinds_held, kinds_of}
use Rattle.ir_verify.specs.Places.{Around, Seen, Spot, defined, in_body, is_none_left, params_of, place_of, places_along, places_at, places_held, places_in, types_of, within}
use Rattle.ir_verify.specs.Verdict.{IsSound}
use Rattle.ir_verify.proofs.KindLemmas.{kinds_at-out, kinds_in-out}
use Rattle.ir_verify.proofs.PlaceLemmas.{places_at-out, places_in-out}
use Rattle.source_meaning.specs.Renaming.{op_renamed, region_renamed, renamed_region}
use Rattle.value_numbers.specs.Numbers.{defined_in, numbered_values, place_in}
use Rattle.parallel_for.specs.Shape.{is_reduce, loop_region}
use Rattle.sound_laws.specs.Extended.{AreFine}
use Rattle.sound_laws.proofs.Sound.{fine_front, fine_rest}
use Rattle.sound_laws.proofs.Facts.{counts}
use Rattle.sound_laws.proofs.Whole.{sound_fine}
use Rattle.split_kinds.specs.Laws.{is_loop}
use Rattle.split_kinds.proofs.Passing.{Each, tree, Pass, pass_front, pass_rest, op_passed, region_passed}
use Rattle.split_kinds.proofs.Walk.{all_true, op_fits, region_fits, fits_in, fits_inside}

both : (a b : Bool) → a ≡ true → b ≡ true → (a && b) ≡ true
both a b e f = ap (λ x. x && b) e ∙ f

or_last : (a b c : Bool) → c ≡ true → (a || (b || c)) ≡ true
or_last true b c e = refl
or_last false true c e = refl
or_last false false c e = e

-- ---- all kinds pass

module _ (ok : OpKind → Bool) where
  abbrev OpFits : Op → Type 0
  OpFits o = Pass ok (kinds_at o) → fits_in ok o ≡ true

  abbrev RegionFits : Region → Type 0
  RegionFits r = Pass ok (kinds_in r) → fits_inside ok r ≡ true

  regions_fit : (rs : List Region) → Each RegionFits rs → Pass ok (kinds_held rs) → all_true (map (fits_inside ok) rs) ≡ true
  regions_fit [] h p = refl
  regions_fit (r ∷ rs) h p = both (fits_inside ok r) (all_true (map (fits_inside ok) rs)) (h.0 (pass_front ok (kinds_in r) (kinds_held rs) p)) (regions_fit rs h.1 (pass_rest ok (kinds_in r) (kinds_held rs) p))

  ops_fit : (os : List Op) → Each OpFits os → Pass ok (kinds_along os) → all_true (map (fits_in ok) os) ≡ true
  ops_fit [] h p = refl
  ops_fit (o ∷ os) h p = both (fits_in ok o) (all_true (map (fits_in ok) os)) (h.0 (pass_front ok (kinds_at o) (kinds_along os) p)) (ops_fit os h.1 (pass_rest ok (kinds_at o) (kinds_along os) p))

  op_step : (x : Op-F Op Region) → Each RegionFits x.regions → OpFits (roll-Op x)
  op_step x h p =
      let was : (ok x.kind ≡ true) × Pass ok (kinds_held x.regions) = op_passed ok x p in
      fold-roll-Op Bool Bool (op_fits ok) (region_fits ok) x
      ∙ both (is_some (loop_region x.kind (map (fits_inside ok) x.regions)) || (is_reduce x.kind || ok x.kind)) (all_true (map (fits_inside ok) x.regions))
      (or_last (is_some (loop_region x.kind (map (fits_inside ok) x.regions))) (is_reduce x.kind) (ok x.kind) was.0) (regions_fit x.regions h was.1)

  region_step : (x : Region-F Op Region) → Each OpFits x.ops → RegionFits (roll-Region x)
  region_step x h p = fold-roll-Region Bool Bool (op_fits ok) (region_fits ok) x ∙ ops_fit x.ops h (region_passed ok x p)

  passing_fits : (r : Region) → RegionFits r
  passing_fits = tree OpFits RegionFits op_step region_step

  pub passing_fit : (fs : List Func) → Pass ok (kinds_of fs) → all_true (map (λ (f : Func). fits_inside ok f.body) fs) ≡ true
  passing_fit [] p = refl
  passing_fit (f ∷ fs) p = both (fits_inside ok f.body) (all_true (map (λ (g : Func). fits_inside ok g.body) fs)) (passing_fits f.body (pass_front ok (kinds_in f.body) (kinds_of fs) p)) (passing_fit fs (pass_rest ok (kinds_in f.body) (kinds_of fs) p))

-- ---- no rule is broken

abbrev pub no_loop : OpKind → Bool
no_loop k = not (is_loop k)

-- a loop has its region
loop_fits : (k : OpKind) (rs : List Region) → length rs ≡ (row_of k).regions → (is_some (loop_region k (map (fits_inside no_loop) rs)) || (is_reduce k || no_loop k)) ≡ true
loop_fits op.ScfParallel [] e = absurd (omega (arith, e))
loop_fits op.ScfParallel (r ∷ rs) e = refl
loop_fits op.ScfReduce rs e = refl
loop_fits _ rs e = refl

module _ (funcs : List Func) where
  abbrev OpSound : Op → Type 0
  OpSound o = (around : Around) (seen : Seen) (last : Bool) → AreFine (places_at funcs o around seen last) → fits_in no_loop o ≡ true

  abbrev RegionSound : Region → Type 0
  RegionSound r = (around : Around) (seen : Seen) → AreFine (places_in funcs r around seen) → fits_inside no_loop r ≡ true

  regions_sound : (rs : List Region) → Each RegionSound rs → (around : Around) (o : Op) (k : ℕ) (seen : Seen) → AreFine (places_held funcs rs around o k seen) → all_true (map (fits_inside no_loop) rs) ≡ true
  regions_sound [] h around o k seen fine = refl
  regions_sound (r ∷ rs) h around o k seen fine =
      both (fits_inside no_loop r) (all_true (map (fits_inside no_loop) rs))
      (h.0 (within around o k) seen (fine_front (places_in funcs r (within around o k) seen) (places_held funcs rs around o (k + 1) seen) fine))
      (regions_sound rs h.1 around o (k + 1) seen (fine_rest (places_in funcs r (within around o k) seen) (places_held funcs rs around o (k + 1) seen) fine))

  ops_sound : (os : List Op) → Each OpSound os → (around : Around) (seen : Seen) → AreFine (places_along funcs os around seen) → all_true (map (fits_in no_loop) os) ≡ true
  ops_sound [] h around seen fine = refl
  ops_sound (o ∷ os) h around seen fine =
      let now : Seen = seen ++ defined (results_of o) (types_of o) in
      both (fits_in no_loop o) (all_true (map (fits_in no_loop) os))
      (h.0 around seen (is_none_left os) (fine_front (places_at funcs o around seen (is_none_left os)) (places_along funcs os around now) fine))
      (ops_sound os h.1 around now (fine_rest (places_at funcs o around seen (is_none_left os)) (places_along funcs os around now) fine))

  op_sound : (x : Op-F Op Region) → Each RegionSound x.regions → OpSound (roll-Op x)
  op_sound x h around seen last fine =
      let o : Op = roll-Op x in
      let s : Spot = record { seen = seen; place = place_of funcs around last o } in
      let opened : AreFine (s ∷ places_held funcs (regions_of o) around o 0 seen) = subst AreFine (places_at-out funcs o around seen last) fine in
      let count : length x.regions ≡ (row_of x.kind).regions = subst (λ (y : Op-F Op Region). length y.regions ≡ (row_of y.kind).regions) (out-roll-Op x) (counts s opened.0).regions in
      let inner : AreFine (places_held funcs x.regions around o 0 seen) = subst (λ (y : Op-F Op Region). AreFine (places_held funcs y.regions around o 0 seen)) (out-roll-Op x) opened.1 in
      fold-roll-Op Bool Bool (op_fits no_loop) (region_fits no_loop) x
      ∙ both (is_some (loop_region x.kind (map (fits_inside no_loop) x.regions)) || (is_reduce x.kind || no_loop x.kind)) (all_true (map (fits_inside no_loop) x.regions))
      (loop_fits x.kind x.regions count) (regions_sound x.regions h around o 0 seen inner)

  region_sound : (x : Region-F Op Region) → Each OpSound x.ops → RegionSound (roll-Region x)
  region_sound x h around seen fine =
      let opened : AreFine (places_along funcs (ops_of (roll-Region x)) around (seen ++ params_of (roll-Region x))) = subst AreFine (places_in-out funcs (roll-Region x) around seen) fine in
      let inner : AreFine (places_along funcs x.ops around (seen ++ x.params)) = subst (λ (y : Region-F Op Region). AreFine (places_along funcs y.ops around (seen ++ y.params))) (out-roll-Region x) opened in
      fold-roll-Region Bool Bool (op_fits no_loop) (region_fits no_loop) x ∙ ops_sound x.ops h around (seen ++ x.params) inner

  sound_fits : (r : Region) → RegionSound r
  sound_fits = tree OpSound RegionSound op_sound region_sound

  each_fits : (fs : List Func) → ((k : ℕ) (f : Func) → slice_get fs k ≡ Some f → fits_inside no_loop f.body ≡ true) → all_true (map (λ (f : Func). fits_inside no_loop f.body) fs) ≡ true
  each_fits [] h = refl
  each_fits (f ∷ fs) h = both (fits_inside no_loop f.body) (all_true (map (λ (g : Func). fits_inside no_loop g.body) fs)) (h 0 f refl) (each_fits fs (λ k g at. h (suc k) g at))

pub sound_fit : (funcs : List Func) → IsSound funcs → all_true (map (λ (f : Func). fits_inside no_loop f.body) funcs) ≡ true
sound_fit funcs sound = each_fits funcs funcs (λ k f at. sound_fits funcs f.body (in_body f false) f.params (sound_fine funcs sound k f at))

-- ---- under other numbers of values

module _ (σ : ℕ → ℕ) where
  abbrev other_op : Op → Op
  other_op = fold-Op Op Region (op_renamed σ) (region_renamed σ)

  abbrev other_region : Region → Region
  other_region = fold-Region Op Region (op_renamed σ) (region_renamed σ)

  abbrev OpSame : Op → Type 0
  OpSame o = kinds_at (other_op o) ≡ kinds_at o

  abbrev RegionSame : Region → Type 0
  RegionSame r = kinds_in (other_region r) ≡ kinds_in r

  regions_same : (rs : List Region) → Each RegionSame rs → kinds_held (map other_region rs) ≡ kinds_held rs
  regions_same [] h = refl
  regions_same (r ∷ rs) h = ap₂ (λ (xs ys : List OpKind). xs ++ ys) h.0 (regions_same rs h.1)

  ops_same : (os : List Op) → Each OpSame os → kinds_along (map other_op os) ≡ kinds_along os
  ops_same [] h = refl
  ops_same (o ∷ os) h = ap₂ (λ (xs ys : List OpKind). xs ++ ys) h.0 (ops_same os h.1)

  kinds_rolled : (x : Op-F Op Region) → kinds_at (roll-Op x) ≡ x.kind ∷ kinds_held x.regions
  kinds_rolled x = kinds_at-out (roll-Op x) ∙ ap (λ (y : Op-F Op Region). y.kind ∷ kinds_held y.regions) (out-roll-Op x)

  region_rolled : (x : Region-F Op Region) → kinds_in (roll-Region x) ≡ kinds_along x.ops
  region_rolled x = kinds_in-out (roll-Region x) ∙ ap (λ (y : Region-F Op Region). kinds_along y.ops) (out-roll-Region x)

  abbrev op_layer : Op-F Op Region → Op-F Op Region
  op_layer x = record x { operands = map (λ v. record { 0 = σ v.0 }) x.operands; results = map (λ v. record { 0 = σ v.0 }) x.results; regions = map other_region x.regions }

  op_same : (x : Op-F Op Region) → Each RegionSame x.regions → OpSame (roll-Op x)
  op_same x h =
      ap kinds_at (fold-roll-Op Op Region (op_renamed σ) (region_renamed σ) x)
      ∙ kinds_rolled (op_layer x)
      ∙ ap (λ (ks : List OpKind). x.kind ∷ ks) (regions_same x.regions h)
      ∙ sym (kinds_rolled x)

  region_same : (x : Region-F Op Region) → Each OpSame x.ops → RegionSame (roll-Region x)
  region_same x h =
      ap kinds_in (fold-roll-Region Op Region (op_renamed σ) (region_renamed σ) x)
      ∙ region_rolled (record { params = map (λ p. (record { 0 = σ p.0.0 }, p.1)) x.params; ops = map other_op x.ops })
      ∙ ops_same x.ops h
      ∙ sym (region_rolled x)

  renamed_same : (r : Region) → kinds_in (renamed_region σ r) ≡ kinds_in r
  unfolding renamed_region
  renamed_same r = tree OpSame RegionSame op_same region_same r

pub numbered_same : (funcs : List Func) → kinds_of (map numbered_values funcs) ≡ kinds_of funcs
numbered_same [] = refl
numbered_same (f ∷ funcs) = ap₂ (λ (xs ys : List OpKind). xs ++ ys) (renamed_same (place_in (defined_in f)) f.body) (numbered_same funcs)
