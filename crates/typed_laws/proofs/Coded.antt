-- Code that is good, and what ends it.
use Rattle.std.proofs.Common.{◌≡◌, ℕ, zero, suc, ◌+◌, ◌&&◌, not, Bool, true, false, List, [], ◌∷◌, ◌++◌, Some, slice_get, refl, subst, arith, ◌⊎◌, inl, inr}
use Rattle.op_table.specs.declared.form.Form.{Form}
use Rattle.op_table.specs.declared.form.Form.TheVariants.{Return, If, Condition, Reduce, Yield, TaskYield, Other}
use Rattle.ir_forms.specs.declared.ops.Op.{Op}
use Rattle.ir_forms.specs.declared.ops.Func.{Func}
use Rattle.ir_forms.specs.declared.ops.Region.{Region}
use Rattle.ir_forms.specs.declared.types.Ty.{Ty}
use Rattle.ir_forms.specs.Ops.{results_of, regions_of, ops_of}
use Rattle.ir_verify.specs.Breaks.{may_be_empty, last_form}
use Rattle.ir_verify.specs.Forms.{form, end_asked, ends, is_ending}
use Rattle.ir_verify.specs.Places.{Around, Seen, types_of, params_of, defined, within, place_of, places_at, places_in, places_along, places_held, is_none_left}
use Rattle.ir_verify.specs.Rules.{end_around}
use Rattle.ir_verify.proofs.PlaceLemmas.{places_at-out, places_in-out}
use Rattle.source_meaning.specs.TaskOrder.{Each}
use Rattle.typed_laws.specs.Typed.{Fresh, AreFresh, IsGood}
use Rattle.typed_laws.proofs.Facts.{ended}

each_front : {X : Type 0} (P : X → Type 0) (xs ys : List X) → Each P (xs ++ ys) → Each P xs
each_front P [] ys h = tt
each_front P (x ∷ xs) ys h = (h.0, each_front P xs ys h.1)

each_rest : {X : Type 0} (P : X → Type 0) (xs ys : List X) → Each P (xs ++ ys) → Each P ys
each_rest P [] ys h = h
each_rest P (x ∷ xs) ys h = each_rest P xs ys h.1

-- ---- ends

-- an operation of a form that ends nothing isn't what is asked
pub ends_ending : (a b : Form) → ends a b ≡ true → is_ending b ≡ true
ends_ending Return Return e = refl
ends_ending Yield Yield e = refl
ends_ending Condition Condition e = refl
ends_ending Reduce Reduce e = refl
ends_ending TaskYield TaskYield e = refl
ends_ending a b e = cc

-- a branch that gives nothing may be empty
pub NoneGiven : Around → List Op → Type 0
NoneGiven a ops = (ops ≡ []) × ((o : Op) × (a.holder ≡ Some o) × (form o ≡ If) × (types_of o ≡ []))

-- the operations end as the region asks
abbrev pub EndsOk : Around → List Op → Type 0
EndsOk a ops = (ends (end_around a.holder a.region) (last_form ops) ≡ true) ⊎ NoneGiven a ops

-- behind an operation that ends nothing
pub ends_on : (a : Around) (o : Op) (ops : List Op) → is_ending (form o) ≡ false → EndsOk a (o ∷ ops) → EndsOk a ops
unfolding NoneGiven
ends_on a o [] e (inl h) = let is : is_ending (form o) ≡ true = ends_ending (end_around a.holder a.region) (form o) h in absurd (cc is)
ends_on a o (p ∷ ops) e (inl h) = inl h
ends_on a o ops e (inr h) = absurd (cc h.0)

pub none_given : (a : Around) → EndsOk a [] → (o : Op) × (a.holder ≡ Some o) × (form o ≡ If) × (types_of o ≡ [])
unfolding NoneGiven
none_given a (inl h) = absurd (no (end_around a.holder a.region) h) where
  no : (f : Form) → ends f Other ≡ true → ⊥
  no f e = let is : is_ending Other ≡ true = ends_ending f Other e in cc
none_given a (inr h) = h.1

empty_is : (f : Form) (r : ℕ) (ts : List Ty) (ops : List Op) → may_be_empty f r ts ops ≡ true → (f ≡ If) × (ts ≡ []) × (ops ≡ [])
empty_is If (suc r) [] [] e = (refl, refl, refl)
empty_is f r ts ops e = cc

-- ---- places

module _ (funcs : List Func) where
  abbrev pub Code : Around → Seen → List Op → Type 0
  Code a seen ops = Each IsGood (places_along funcs ops a seen)

  -- an operation at its place, with all in its regions
  pub record OpGood (a : Around) (seen : Seen) (o : Op) (last : Bool) : Type 0 where
    pub spot : IsGood (record { seen = seen; place = place_of funcs a last o })
    pub held : Each IsGood (places_held funcs (regions_of o) a o 0 seen)

  pub code_head : (a : Around) (seen : Seen) (o : Op) (ops : List Op) → Code a seen (o ∷ ops) → OpGood a seen o (is_none_left ops) × Code a (seen ++ defined (results_of o) (types_of o)) ops
  code_head a seen o ops h =
      let here = subst (Each IsGood) (places_at-out funcs o a seen (is_none_left ops)) (each_front IsGood (places_at funcs o a seen (is_none_left ops)) (places_along funcs ops a (seen ++ defined (results_of o) (types_of o))) h) in
      (record { spot = here.0; held = here.1 }, each_rest IsGood (places_at funcs o a seen (is_none_left ops)) (places_along funcs ops a (seen ++ defined (results_of o) (types_of o))) h)

  held_at : (regions : List Region) (a : Around) (o : Op) (r : ℕ) (seen : Seen) → Each IsGood (places_held funcs regions a o r seen) → (i : ℕ) (region : Region) → slice_get regions i ≡ Some region →
      Code (within a o (r + i)) (seen ++ params_of region) (ops_of region)
  held_at [] a o r seen h i region e = cc
  held_at (x ∷ regions) a o r seen h zero region e =
      let same : x ≡ region = cc in
      let place : r ≡ r + zero = omega arith in
      subst (λ n. Code (within a o n) (seen ++ params_of region) (ops_of region)) place
      (subst (λ y. Code (within a o r) (seen ++ params_of y) (ops_of y)) same
      (subst (Each IsGood) (places_in-out funcs x (within a o r) seen) (each_front IsGood (places_in funcs x (within a o r) seen) (places_held funcs regions a o (r + 1) seen) h)))
  held_at (x ∷ regions) a o r seen h (suc i) region e =
      let place : (r + 1) + i ≡ r + suc i = omega arith in
      subst (λ n. Code (within a o n) (seen ++ params_of region) (ops_of region)) place
      (held_at regions a o (r + 1) seen (each_rest IsGood (places_in funcs x (within a o r) seen) (places_held funcs regions a o (r + 1) seen) h) i region e)

  pub region_code : (a : Around) (seen : Seen) (o : Op) (last : Bool) → OpGood a seen o last → (r : ℕ) (region : Region) → slice_get (regions_of o) r ≡ Some region → Code (within a o r) (seen ++ params_of region) (ops_of region)
  region_code a seen o last h r region e =
      let place : 0 + r ≡ r = omega arith in
      subst (λ n. Code (within a o n) (seen ++ params_of region) (ops_of region)) place (held_at (regions_of o) a o 0 seen h.held r region e)

  fresh_at : (seen : Seen) (regions : List Region) (r : ℕ) (region : Region) → AreFresh seen regions → slice_get regions r ≡ Some region → Fresh seen (params_of region)
  fresh_at seen [] r region h e = cc
  fresh_at seen (x ∷ regions) zero region h e = let same : x ≡ region = cc in subst (λ y. Fresh seen (params_of y)) same h.0
  fresh_at seen (x ∷ regions) (suc r) region h e = fresh_at seen regions r region h.1 e

  pub region_fresh : (a : Around) (seen : Seen) (o : Op) (last : Bool) → OpGood a seen o last → (r : ℕ) (region : Region) → slice_get (regions_of o) r ≡ Some region → Fresh seen (params_of region)
  region_fresh a seen o last h r region e = fresh_at seen (regions_of o) r region h.spot.params e

  pub region_ends : (a : Around) (seen : Seen) (o : Op) (last : Bool) → OpGood a seen o last → (r : ℕ) (region : Region) → slice_get (regions_of o) r ≡ Some region → is_ending (end_asked (form o) r) ≡ true → EndsOk (within a o r) (ops_of region)
  unfolding NoneGiven
  region_ends a seen o last h r region e asked =
      split (may_be_empty (form o) r (types_of o) (ops_of region)) refl (is_ending (end_asked (form o) r)) (ends (end_asked (form o) r) (last_form (ops_of region))) asked refl (ended (record { seen = seen; place = place_of funcs a last o }) h.spot.fine r region e) where
        split : (m : Bool) → may_be_empty (form o) r (types_of o) (ops_of region) ≡ m → (i n : Bool) → i ≡ true → ends (end_asked (form o) r) (last_form (ops_of region)) ≡ n → (not m && (i && not n)) ≡ false → EndsOk (within a o r) (ops_of region)
        split true is i n u v w = let empty = empty_is (form o) r (types_of o) (ops_of region) is in inr (empty.2, (o, refl, empty.0, empty.1))
        split false is true true u v w = inl v
        split false is true false u v w = cc
        split false is false n u v w = cc
