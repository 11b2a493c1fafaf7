-- Functions behind a module's own.
use Rattle.std.proofs.Common.{◌≡◌, ◌<◌, ℕ, zero, suc, ◌+◌, ◌==◌, ◌&&◌, not, cond, Bool, true, false, List, [], ◌∷◌, ◌++◌, map, length, Option, Some, None, slice_get, refl, sym, ap, ◌∙◌, subst, arith}
use Rattle.std.specs.Option.{is_some, option_map}
use Rattle.std.specs.Str.{bytes_eq}
use Rattle.ir_forms.specs.declared.ops.Attr.{Attr}
use Rattle.ir_forms.specs.declared.ops.Attr.TheVariants as attr
use Rattle.ir_forms.specs.declared.ops.Op.{Op, Op-F, roll-Op, out-roll-Op}
use Rattle.ir_forms.specs.declared.ops.Op.TheFolds.{ind-Region}
use Rattle.ir_forms.specs.declared.ops.Region.{Region, Region-F, roll-Region, out-roll-Region}
use Rattle.ir_forms.specs.declared.ops.Func.{Func}
use Rattle.ir_forms.specs.Ops.{attr_of, ops_of, regions_of, results_of}
use Rattle.ir_verify.specs.declared.fault.Broken.{Broken}
use Rattle.ir_verify.specs.declared.fault.VerifyKind.{VerifyKind}
use Rattle.ir_verify.specs.declared.fault.VerifyKind.TheVariants.{Undefined, UnknownFunc}
use Rattle.ir_verify.specs.Breaks.{breaks, is_call}
use Rattle.ir_verify.specs.Forms.{form}
use Rattle.ir_verify.specs.Names.{first_named}
use Rattle.ir_verify.specs.Places.{Around, Seen, called, defined, in_body, is_none_left, named, params_of, place_of, places_along, places_at, places_held, places_in, types_of, within}
use Rattle.ir_verify.specs.Verdict.{Breaks, IsSound, Tells, at_function, at_operation, body_places, func_breaks, is_place}
use Rattle.ir_verify.proofs.PlaceLemmas.{places_at-out, places_in-out}
use Rattle.sound_laws.specs.Extended.{AreFine, IsFine}
use Rattle.sound_laws.proofs.Sound.{each_fine, fine_both, fine_front, fine_rest, parted, sound_bodies}
use Rattle.sound_laws.proofs.Sight.{equal, is_equal, not_equal, unequal}
use Rattle.sound_laws.proofs.Whole.{sound_fine}
use Rattle.appended_laws.specs.Laws.{AppendedIsSound, AppendedStaysFine, CallsNoMore, Stands}
use Rattle.appended_laws.proofs.Callee.{fine_whatever}

abbrev Each : {A : Type 0} → (A → Type 0) → List A → Type 0
Each P [] = Unit {0}
Each P (x ∷ xs) = P x × Each P xs

each_of : {A : Type 0} (P : A → Type 0) (ys : List ((x : A) × P x)) → Each P (map (λ e. e.0) ys)
each_of P [] = tt
each_of P (y ∷ ys) = (y.1, each_of P ys)

tree : (P : Op → Type 0) (Q : Region → Type 0) → ((x : Op-F Op Region) → Each Q x.regions → P (roll-Op x)) →
    ((x : Region-F Op Region) → Each P x.ops → Q (roll-Region x)) → (region : Region) → Q region
tree P Q op_step region_step = ind-Region P Q
    (λ x y is. op_step x (subst (λ (z : Op-F Op Region). Each Q z.regions) is (each_of Q y.regions)))
    (λ x y is. region_step x (subst (λ (z : Region-F Op Region). Each P z.ops) is (each_of P y.ops)))

-- ---- names

named_still : (fs more : List Func) (name : List ℕ) (g : Func) → named fs name ≡ Some g → named (fs ++ more) name ≡ Some g
named_still [] more name g is = cc
named_still (f ∷ fs) more name g is = step (bytes_eq f.name name) is (named_still fs more name g)
  where
    step : (b : Bool) → cond b (Some f) (named fs name) ≡ Some g → (named fs name ≡ Some g → named (fs ++ more) name ≡ Some g) → cond b (Some f) (named (fs ++ more) name) ≡ Some g
    step true e again = e
    step false e again = again e

called_still : (fs more : List Func) (a : Attr) (g : Func) → called fs a ≡ Some g → called (fs ++ more) a ≡ Some g
called_still fs more (attr.Callee name) g is = named_still fs more name g is
called_still fs more a g is = cc

suc_same : (n k : ℕ) → (suc n == suc k) ≡ (n == k)
suc_same n k = step (n == k) refl
  where
    step : (b : Bool) → (n == k) ≡ b → (suc n == suc k) ≡ b
    step true e = is_equal (suc n) (suc k) (ap suc (equal n k e))
    step false e = not_equal (suc n) (suc k) (λ same. let less : n ≡ k = omega (arith, same) in unequal n k e less)

first_still : (fs more : List Func) (name : List ℕ) (k : ℕ) → is_place (first_named fs name) k ≡ true → is_place (first_named (fs ++ more) name) k ≡ true
first_still [] more name k is = cc
first_still (f ∷ fs) more name zero is = step (bytes_eq f.name name) is
  where
    no_place : (o : Option ℕ) → is_place (option_map suc o) zero ≡ true → ⊥
    no_place None e = cc
    no_place (Some n) e = let same : suc n ≡ 0 = equal (suc n) 0 e in absurd (omega (arith, same))

    step : (b : Bool) → is_place (cond b (Some 0) (option_map suc (first_named fs name))) zero ≡ true → is_place (cond b (Some 0) (option_map suc (first_named (fs ++ more) name))) zero ≡ true
    step true e = e
    step false e = absurd (no_place (first_named fs name) e)
first_still (f ∷ fs) more name (suc k) is = step (bytes_eq f.name name) is (first_still fs more name k)
  where
    less : (o : Option ℕ) → is_place (option_map suc o) (suc k) ≡ is_place o k
    less None = refl
    less (Some n) = suc_same n k

    step : (b : Bool) → is_place (cond b (Some 0) (option_map suc (first_named fs name))) (suc k) ≡ true → (is_place (first_named fs name) k ≡ true → is_place (first_named (fs ++ more) name) k ≡ true)
        → is_place (cond b (Some 0) (option_map suc (first_named (fs ++ more) name))) (suc k) ≡ true
    step true e again = let same : 0 ≡ suc k = equal 0 (suc k) e in absurd (omega (arith, same))
    step false e again = less (first_named (fs ++ more) name) ∙ again (sym (less (first_named fs name)) ∙ e)

-- ---- bodies

not_call : (b : Bool) → (b && true) ≡ false → b ≡ false
not_call true e = cc
not_call false e = refl

module _ (funcs more : List Func) where
  spot_stays : (seen : Seen) (around : Around) (last : Bool) (o : Op) → IsFine (record { seen = seen; place = place_of funcs around last o }) → IsFine (record { seen = seen; place = place_of (funcs ++ more) around last o })
  spot_stays seen around last o fine = step (called funcs (attr_of o)) refl
    where
      step : (c : Option Func) → called funcs (attr_of o) ≡ c → IsFine (record { seen = seen; place = place_of (funcs ++ more) around last o })
      step (Some g) is =
          subst (λ (c : Option Func). IsFine (record { seen = seen; place = record { around = around; is_last = last; callee = c; op = o } }))
          (is ∙ sym (called_still funcs more (attr_of o) g is)) fine
      step None is =
          let unknown : (is_call (form o) && not (is_some (called funcs (attr_of o)))) ≡ false = (parted (record { seen = seen; place = place_of funcs around last o }) UnknownFunc (fine UnknownFunc)).own in
          let plain : is_call (form o) ≡ false = not_call (is_call (form o)) (subst (λ (c : Option Func). (is_call (form o) && not (is_some c)) ≡ false) is unknown) in
          fine_whatever around last o (called funcs (attr_of o)) (called (funcs ++ more) (attr_of o)) plain seen fine

  abbrev OpStays : Op → Type 0
  OpStays o = (around : Around) (seen : Seen) (last : Bool) → AreFine (places_at funcs o around seen last) → AreFine (places_at (funcs ++ more) o around seen last)

  abbrev RegionStays : Region → Type 0
  RegionStays r = (around : Around) (seen : Seen) → AreFine (places_in funcs r around seen) → AreFine (places_in (funcs ++ more) r around seen)

  regions_stay : (rs : List Region) → Each RegionStays rs → (around : Around) (o : Op) (k : ℕ) (seen : Seen) → AreFine (places_held funcs rs around o k seen) → AreFine (places_held (funcs ++ more) rs around o k seen)
  regions_stay [] h around o k seen fine = tt
  regions_stay (r ∷ rs) h around o k seen fine =
      fine_both (places_in (funcs ++ more) r (within around o k) seen) (places_held (funcs ++ more) rs around o (k + 1) seen)
      (h.0 (within around o k) seen (fine_front (places_in funcs r (within around o k) seen) (places_held funcs rs around o (k + 1) seen) fine))
      (regions_stay rs h.1 around o (k + 1) seen (fine_rest (places_in funcs r (within around o k) seen) (places_held funcs rs around o (k + 1) seen) fine))

  ops_stay : (os : List Op) → Each OpStays os → (around : Around) (seen : Seen) → AreFine (places_along funcs os around seen) → AreFine (places_along (funcs ++ more) os around seen)
  ops_stay [] h around seen fine = tt
  ops_stay (o ∷ os) h around seen fine =
      let now : Seen = seen ++ defined (results_of o) (types_of o) in
      fine_both (places_at (funcs ++ more) o around seen (is_none_left os)) (places_along (funcs ++ more) os around now)
      (h.0 around seen (is_none_left os) (fine_front (places_at funcs o around seen (is_none_left os)) (places_along funcs os around now) fine))
      (ops_stay os h.1 around now (fine_rest (places_at funcs o around seen (is_none_left os)) (places_along funcs os around now) fine))

  op_stays : (x : Op-F Op Region) → Each RegionStays x.regions → OpStays (roll-Op x)
  op_stays x h around seen last fine =
      let o : Op = roll-Op x in
      let held : Each RegionStays (regions_of o) = subst (λ (y : Op-F Op Region). Each RegionStays y.regions) (sym (out-roll-Op x)) h in
      let was : AreFine (record { seen = seen; place = place_of funcs around last o } ∷ places_held funcs (regions_of o) around o 0 seen) = subst AreFine (places_at-out funcs o around seen last) fine in
      subst AreFine (sym (places_at-out (funcs ++ more) o around seen last)) (spot_stays seen around last o was.0, regions_stay (regions_of o) held around o 0 seen was.1)

  region_stays : (x : Region-F Op Region) → Each OpStays x.ops → RegionStays (roll-Region x)
  region_stays x h around seen fine =
      let r : Region = roll-Region x in
      let along : Each OpStays (ops_of r) = subst (λ (y : Region-F Op Region). Each OpStays y.ops) (sym (out-roll-Region x)) h in
      subst AreFine (sym (places_in-out (funcs ++ more) r around seen)) (ops_stay (ops_of r) along around (seen ++ params_of r) (subst AreFine (places_in-out funcs r around seen) fine))

  stays : (r : Region) → RegionStays r
  stays = tree OpStays RegionStays op_stays region_stays

pub appended_stays_fine : AppendedStaysFine
appended_stays_fine funcs more f is_called fine = stays funcs more f.body (in_body f is_called) f.params fine

-- ---- the module

-- one of the first functions, or one of those behind
data Where (funcs more : List Func) (k : ℕ) (f : Func) : Type 0 where
  among : k < length funcs → slice_get funcs k ≡ Some f → Where funcs more k f
  beyond : (j : ℕ) → k ≡ length funcs + j → slice_get more j ≡ Some f → Where funcs more k f

where_is : (funcs more : List Func) (k : ℕ) (f : Func) → slice_get (funcs ++ more) k ≡ Some f → Where funcs more k f
where_is [] more k f at = beyond k (omega arith) at
where_is (g ∷ funcs) more zero f at = among (omega arith) at
where_is (g ∷ funcs) more (suc k) f at = next (where_is funcs more k f at)
  where
    next : Where funcs more k f → Where (g ∷ funcs) more (suc k) f
    next (among under is) = among (omega (arith, under)) is
    next (beyond j e is) = beyond j (omega (arith, e)) is

true_stays : (b c : Bool) → (b ≡ true → c ≡ true) → not b ≡ false → not c ≡ false
true_stays true c h e = ap (λ z. not z) (h refl)
true_stays false c h e = cc

is_false : (b : Bool) → (b ≡ true → ⊥) → b ≡ false
is_false true h = absurd (h refl)
is_false false h = refl

not_both : (b : Bool) → b ≡ true → b ≡ false → ⊥
not_both b h e = cc

module _ (funcs more : List Func) (sound : IsSound funcs) (calls : CallsNoMore funcs more) where
  head_stays : (k : ℕ) (f : Func) (kind : VerifyKind) → slice_get funcs k ≡ Some f → func_breaks kind (funcs ++ more) k f ≡ false
  head_stays k f kind at = step kind (is_false (func_breaks kind funcs k f) (λ is. sound (record { op = f.at; kind = kind }) (at_function k f kind at is)))
    where
      step : (kind : VerifyKind) → func_breaks kind funcs k f ≡ false → func_breaks kind (funcs ++ more) k f ≡ false
      step Undefined e = true_stays (is_place (first_named funcs f.name) k) (is_place (first_named (funcs ++ more) f.name) k) (first_still funcs more f.name k) e
      step _ e = e

  body_stays : (k : ℕ) (f : Func) (is_called : Bool) → slice_get funcs k ≡ Some f → k < length funcs → Tells (funcs ++ more) k is_called → AreFine (body_places (funcs ++ more) f is_called)
  body_stays k f true at under tells =
      appended_stays_fine funcs more f true (sound_bodies funcs sound k f true at (record { sound = λ is. calls k under (tells.sound refl); complete = λ reached. refl }))
  body_stays k f false at under tells = appended_stays_fine funcs more f false (sound_fine funcs sound k f at)

  module _ (behind : (j : ℕ) (g : Func) → slice_get more j ≡ Some g → Stands (funcs ++ more) (length funcs + j) g) where
    head_fine : (k : ℕ) (f : Func) (kind : VerifyKind) → Where funcs more k f → func_breaks kind (funcs ++ more) k f ≡ false
    head_fine k f kind (among under at) = head_stays k f kind at
    head_fine k f kind (beyond j e at) = subst (λ n. func_breaks kind (funcs ++ more) n f ≡ false) (sym e) ((behind j f at).head kind)

    body_fine : (k : ℕ) (f : Func) (is_called : Bool) → Where funcs more k f → Tells (funcs ++ more) k is_called → AreFine (body_places (funcs ++ more) f is_called)
    body_fine k f is_called (among under at) tells = body_stays k f is_called at under tells
    body_fine k f is_called (beyond j e at) tells = (behind j f at).body is_called (subst (λ n. Tells (funcs ++ more) n is_called) e tells)

    is_sound : (b : Broken) → Breaks (funcs ++ more) b → ⊥
    is_sound b (at_function k f kind at is) = not_both (func_breaks kind (funcs ++ more) k f) is (head_fine k f kind (where_is funcs more k f at))
    is_sound b (at_operation k f is_called i s kind at tells stands is) =
        not_both (breaks kind s) is (each_fine (body_places (funcs ++ more) f is_called) i s kind (body_fine k f is_called (where_is funcs more k f at) tells) stands)

pub appended_is_sound : AppendedIsSound
appended_is_sound funcs more sound calls behind = is_sound funcs more sound calls behind
