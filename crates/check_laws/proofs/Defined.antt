-- Where a function defines no value twice, each of its values is new where it is defined.
use Rattle.std.proofs.Common.{◌≡◌, ℕ, zero, suc, ◌+◌, cond, Bool, false, List, [], ◌∷◌, ◌++◌, map, Some, None, slice_get, refl, sym, ap, ap₂, ◌∙◌, subst}
use Rattle.ir_forms.specs.declared.ops.Func.{Func}
use Rattle.ir_forms.specs.declared.ops.Op.{Op, Op-F, roll-Op, out-roll-Op}
use Rattle.ir_forms.specs.declared.ops.Region.{Region, Region-F, roll-Region, out-roll-Region}
use Rattle.ir_forms.specs.declared.ops.ValueNo.{ValueNo}
use Rattle.ir_forms.specs.declared.types.Ty.{Ty}
use Rattle.ir_forms.specs.Ops.{results_of, regions_of, ops_of}
use Rattle.ir_verify.specs.declared.fault.VerifyKind.TheVariants.{Terminator}
use Rattle.op_table.specs.declared.form.Form.TheVariants.{Return}
use Rattle.ir_verify.specs.Breaks.{lacks_end}
use Rattle.ir_verify.specs.Places.{Around, Seen, Spot, params_of, types_of, defined, is_none_left, within, in_body, place_of, places_at, places_in, places_along, places_held}
use Rattle.ir_verify.specs.Scopes.{lookup}
use Rattle.ir_verify.specs.Verdict.{IsSound, at_function}
use Rattle.ir_verify.proofs.PlaceLemmas.{places_at-out, places_in-out}
use Rattle.source_meaning.specs.Parts.{joined, names_of}
use Rattle.source_meaning.specs.TaskOrder.{Each}
use Rattle.value_numbers.specs.Numbers.{values_in, values_inside, values_of}
use Rattle.sound_laws.specs.Extended.{AreFine}
use Rattle.sound_laws.proofs.Merges.{In, Once, once_of}
use Rattle.sound_laws.proofs.Numbered.{values_at, values_under}
use Rattle.sound_laws.proofs.Sight.{or_else, lookup_append, not_equal}
use Rattle.sound_laws.proofs.Sound.{fine_front, fine_rest, is_false}
use Rattle.sound_laws.proofs.Whole.{sound_fine}
use Rattle.checked_values.specs.Laws.{DefinesOnce}
use Rattle.typed_laws.specs.Typed.{Fresh, AreFresh, IsGood, IsGoodFunc, AreGood}
use Rattle.check_laws.specs.Laws.{HasNoBodyParams, IsWellFormed}
use Rattle.check_laws.proofs.Syntax.{tree}

pub each_append : {X : Type 0} (Q : X → Type 0) (xs ys : List X) → Each Q xs → Each Q ys → Each Q (xs ++ ys)
each_append Q [] ys h g = g
each_append Q (x ∷ xs) ys h g = (h.0, each_append Q xs ys h.1 g)

each_front : {X : Type 0} (Q : X → Type 0) (xs ys : List X) → Each Q (xs ++ ys) → Each Q xs
each_front Q [] ys h = tt
each_front Q (x ∷ xs) ys h = (h.0, each_front Q xs ys h.1)

pub each_at : {X : Type 0} (Q : X → Type 0) (xs : List X) (k : ℕ) (x : X) → Each Q xs → slice_get xs k ≡ Some x → Q x
each_at Q [] k x h at = cc
each_at Q (y ∷ xs) zero x h at = let same : y ≡ x = cc in subst Q same h.0
each_at Q (y ∷ xs) (suc k) x h at = each_at Q xs k x h.1 at

-- ---- no value twice

abbrev NotIn : ℕ → List ValueNo → Type 0
NotIn x [] = Unit {0}
NotIn x (v ∷ vs) = (x ≡ v.0 → ⊥) × NotIn x vs

abbrev Sole : List ValueNo → Type 0
Sole [] = Unit {0}
Sole (v ∷ vs) = NotIn v.0 vs × Sole vs

not_in : (x : ℕ) (vs : List ValueNo) → (In x vs → ⊥) → NotIn x vs
not_in x [] h = tt
not_in x (v ∷ vs) h = (λ e. h (0, ap Some (sym e)), not_in x vs (λ i. h (suc i.0, i.1)))

sole_of : (vs : List ValueNo) → Once vs → Sole vs
sole_of [] h = tt
sole_of (v ∷ vs) h = (not_in v.0 vs h.0, sole_of vs h.1)

not_front : (x : ℕ) (us vs : List ValueNo) → NotIn x (us ++ vs) → NotIn x us
not_front x [] vs h = tt
not_front x (u ∷ us) vs h = (h.0, not_front x us vs h.1)

not_rest : (x : ℕ) (us vs : List ValueNo) → NotIn x (us ++ vs) → NotIn x vs
not_rest x [] vs h = h
not_rest x (u ∷ us) vs h = not_rest x us vs h.1

sole_front : (us vs : List ValueNo) → Sole (us ++ vs) → Sole us
sole_front [] vs h = tt
sole_front (u ∷ us) vs h = (not_front u.0 us vs h.0, sole_front us vs h.1)

sole_rest : (us vs : List ValueNo) → Sole (us ++ vs) → Sole vs
sole_rest [] vs h = h
sole_rest (u ∷ us) vs h = sole_rest us vs h.1

-- none of these is among the others
abbrev Apart : List ValueNo → List ValueNo → Type 0
Apart us vs = Each (λ (u : ValueNo). NotIn u.0 vs) us

sole_apart : (us vs : List ValueNo) → Sole (us ++ vs) → Apart us vs
sole_apart [] vs h = tt
sole_apart (u ∷ us) vs h = (not_rest u.0 us vs h.0, sole_apart us vs h.1)

-- ---- none visible

abbrev Clear : Seen → List ValueNo → Type 0
Clear seen [] = Unit {0}
Clear seen (v ∷ vs) = (lookup seen v.0 ≡ None) × Clear seen vs

clear_front : (seen : Seen) (us vs : List ValueNo) → Clear seen (us ++ vs) → Clear seen us
clear_front seen [] vs h = tt
clear_front seen (u ∷ us) vs h = (h.0, clear_front seen us vs h.1)

clear_rest : (seen : Seen) (us vs : List ValueNo) → Clear seen (us ++ vs) → Clear seen vs
clear_rest seen [] vs h = h
clear_rest seen (u ∷ us) vs h = clear_rest seen us vs h.1

clear_both : (seen more : Seen) (vs : List ValueNo) → Clear seen vs → Clear more vs → Clear (seen ++ more) vs
clear_both seen more [] h g = tt
clear_both seen more (v ∷ vs) h g = (lookup_append seen more v.0 ∙ ap₂ or_else h.0 g.0, clear_both seen more vs h.1 g.1)

clear_none : (vs : List ValueNo) → Clear [] vs
clear_none [] = tt
clear_none (v ∷ vs) = (refl, clear_none vs)

clear_one : (x : ValueNo × Ty) (vs : List ValueNo) → NotIn x.0.0 vs → Clear (x ∷ []) vs
clear_one x [] h = tt
clear_one x (v ∷ vs) h = (ap (λ b. cond b (Some x.1) None) (not_equal x.0.0 v.0 h.0), clear_one x vs h.1)

clear_of : (d : Seen) (vs : List ValueNo) → Apart (names_of d) vs → Clear d vs
clear_of [] vs h = clear_none vs
clear_of (x ∷ d) vs h = clear_both (x ∷ []) d vs (clear_one x vs h.0) (clear_of d vs h.1)

fresh_of : (seen d : Seen) → Clear seen (names_of d) → Sole (names_of d) → Fresh seen d
fresh_of seen [] h s = tt
fresh_of seen (x ∷ d) h s = (h.0, fresh_of (seen ++ x ∷ []) d (clear_both seen (x ∷ []) (names_of d) h.1 (clear_one x (names_of d) s.0)) s.1)

names_defined : (vs : List ValueNo) (ts : List Ty) → names_of (defined vs ts) ≡ vs
names_defined [] ts = refl
names_defined (v ∷ vs) [] = ap (λ rest. v ∷ rest) (names_defined vs [])
names_defined (v ∷ vs) (t ∷ ts) = ap (λ rest. v ∷ rest) (names_defined vs ts)

params_fresh : (seen : Seen) (rs : List Region) → Clear seen (joined (map values_inside rs)) → Sole (joined (map values_inside rs)) → AreFresh seen rs
params_fresh seen [] h s = tt
params_fresh seen (r ∷ rs) h s =
    let rest : List ValueNo = joined (map values_inside rs) in
    let ops : List ValueNo = joined (map values_in (ops_of r)) in (
      fresh_of seen (params_of r)
          (clear_front seen (names_of (params_of r)) ops (subst (Clear seen) (values_under r) (clear_front seen (values_inside r) rest h)))
          (sole_front (names_of (params_of r)) ops (subst Sole (values_under r) (sole_front (values_inside r) rest s))),
      params_fresh seen rs (clear_rest seen (values_inside r) rest h) (sole_rest (values_inside r) rest s),
    )

-- ---- code

module _ (funcs : List Func) where
  abbrev OfOp : Op → Type 0
  OfOp o = (a : Around) (seen : Seen) (last : Bool) → Clear seen (values_in o) → Sole (values_in o) → AreFine (places_at funcs o a seen last) → Each IsGood (places_at funcs o a seen last)

  abbrev OfRegion : Region → Type 0
  OfRegion r = (a : Around) (seen : Seen) → Clear seen (values_inside r) → Sole (values_inside r) → AreFine (places_in funcs r a seen) → Each IsGood (places_in funcs r a seen)

  held : (rs : List Region) → Each OfRegion rs → (a : Around) (o : Op) (k : ℕ) (seen : Seen) → Clear seen (joined (map values_inside rs)) → Sole (joined (map values_inside rs)) →
      AreFine (places_held funcs rs a o k seen) → Each IsGood (places_held funcs rs a o k seen)
  held [] h a o k seen c s fine = tt
  held (r ∷ rs) h a o k seen c s fine =
      let rest : List ValueNo = joined (map values_inside rs) in
      let here : List Spot = places_in funcs r (within a o k) seen in
      let others : List Spot = places_held funcs rs a o (k + 1) seen in
      each_append IsGood here others (h.0 (within a o k) seen (clear_front seen (values_inside r) rest c) (sole_front (values_inside r) rest s) (fine_front here others fine))
      (held rs h.1 a o (k + 1) seen (clear_rest seen (values_inside r) rest c) (sole_rest (values_inside r) rest s) (fine_rest here others fine))

  along : (os : List Op) → Each OfOp os → (a : Around) (seen : Seen) → Clear seen (joined (map values_in os)) → Sole (joined (map values_in os)) →
      AreFine (places_along funcs os a seen) → Each IsGood (places_along funcs os a seen)
  along [] h a seen c s fine = tt
  along (o ∷ os) h a seen c s fine =
      let rest : List ValueNo = joined (map values_in os) in
      let more : Seen = defined (results_of o) (types_of o) in
      let under : List ValueNo = joined (map values_inside (regions_of o)) in
      let here : List Spot = places_at funcs o a seen (is_none_left os) in
      let others : List Spot = places_along funcs os a (seen ++ more) in
      let apart : Apart (results_of o ++ under) rest = subst (λ vs. Apart vs rest) (values_at o) (sole_apart (values_in o) rest s) in
      let new : Apart (names_of more) rest = subst (λ vs. Apart vs rest) (sym (names_defined (results_of o) (types_of o))) (each_front (λ (u : ValueNo). NotIn u.0 rest) (results_of o) under apart) in
      each_append IsGood here others (h.0 a seen (is_none_left os) (clear_front seen (values_in o) rest c) (sole_front (values_in o) rest s) (fine_front here others fine))
      (along os h.1 a (seen ++ more) (clear_both seen more rest (clear_rest seen (values_in o) rest c) (clear_of more rest new)) (sole_rest (values_in o) rest s) (fine_rest here others fine))

  of_op : (o : Op) → Each OfRegion (regions_of o) → OfOp o
  of_op o h a seen last c s fine =
      let under : List ValueNo = joined (map values_inside (regions_of o)) in
      let clear : Clear seen (results_of o ++ under) = subst (Clear seen) (values_at o) c in
      let sole : Sole (results_of o ++ under) = subst Sole (values_at o) s in
      let are : names_of (defined (results_of o) (types_of o)) ≡ results_of o = names_defined (results_of o) (types_of o) in
      let all : AreFine (record { seen = seen; place = place_of funcs a last o } ∷ places_held funcs (regions_of o) a o 0 seen) = subst AreFine (places_at-out funcs o a seen last) fine in
      let below : Clear seen under = clear_rest seen (results_of o) under clear in
      let once : Sole under = sole_rest (results_of o) under sole in
      let spot : IsGood (record { seen = seen; place = place_of funcs a last o }) = record {
        fine = all.0;
        results = fresh_of seen (defined (results_of o) (types_of o)) (subst (Clear seen) (sym are) (clear_front seen (results_of o) under clear)) (subst Sole (sym are) (sole_front (results_of o) under sole));
        params = params_fresh seen (regions_of o) below once;
      } in
      subst (Each IsGood) (sym (places_at-out funcs o a seen last)) (spot, held (regions_of o) h a o 0 seen below once all.1)

  of_region : (r : Region) → Each OfOp (ops_of r) → OfRegion r
  of_region r h a seen c s fine =
      let ops : List ValueNo = joined (map values_in (ops_of r)) in
      let clear : Clear seen (names_of (params_of r) ++ ops) = subst (Clear seen) (values_under r) c in
      let sole : Sole (names_of (params_of r) ++ ops) = subst Sole (values_under r) s in
      subst (Each IsGood) (sym (places_in-out funcs r a seen))
      (along (ops_of r) h a (seen ++ params_of r)
      (clear_both seen (params_of r) ops (clear_rest seen (names_of (params_of r)) ops clear) (clear_of (params_of r) ops (sole_apart (names_of (params_of r)) ops sole)))
      (sole_rest (names_of (params_of r)) ops sole) (subst AreFine (places_in-out funcs r a seen) fine))

  region_good : (r : Region) → OfRegion r
  region_good = tree OfOp OfRegion
      (λ x h. of_op (roll-Op x) (subst (λ (y : Op-F Op Region). Each OfRegion y.regions) (sym (out-roll-Op x)) h))
      (λ x h. of_region (roll-Region x) (subst (λ (y : Region-F Op Region). Each OfOp y.ops) (sym (out-roll-Region x)) h))

-- ---- functions

append_none : (xs : Seen) → xs ++ [] ≡ xs
append_none [] = refl
append_none (x ∷ xs) = ap (λ rest. x ∷ rest) (append_none xs)

pub func_good : (funcs : List Func) → IsSound funcs → (k : ℕ) (f : Func) → slice_get funcs k ≡ Some f → DefinesOnce f → HasNoBodyParams f → IsGoodFunc funcs f
func_good funcs sound k f at once bare =
    let sole : Sole (names_of f.params ++ values_inside f.body) = sole_of (values_of f) (once_of (values_of f) once) in
    record {
      places = region_good funcs f.body (in_body f false) f.params (clear_of f.params (values_inside f.body) (sole_apart (names_of f.params) (values_inside f.body) sole))
          (sole_rest (names_of f.params) (values_inside f.body) sole) (sound_fine funcs sound k f at);
      params = fresh_of [] f.params (clear_none (names_of f.params)) (sole_front (names_of f.params) (values_inside f.body) sole);
      again = λ v. ap (λ d. lookup (f.params ++ d) v) bare ∙ ap (λ d. lookup d v) (append_none f.params);
      ends = is_false (lacks_end Return (ops_of f.body)) (λ e. sound (record { op = f.at; kind = Terminator }) (at_function k f Terminator at e));
    }

pub funcs_good : (funcs : List Func) → IsWellFormed funcs → AreGood funcs
funcs_good funcs h k f at = func_good funcs h.sound k f at (each_at DefinesOnce funcs k f h.once at) (each_at HasNoBodyParams funcs k f h.bodies at)
