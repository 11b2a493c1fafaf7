-- In a sound module no place of a function breaks a rule where the function is taken for one that no task calls.
use Rattle.std.proofs.Common.{◌≡◌, ℕ, Bool, true, false, List, [], ◌∷◌, ◌++◌, map, Some, slice_get, refl, sym, ap, ◌∙◌, subst}
use Rattle.op_table.specs.declared.rows.Level.TheVariants.{Source}
use Rattle.ir_forms.specs.declared.ops.Attr.{Attr}
use Rattle.ir_forms.specs.declared.ops.Op.{Op, out-roll-Op}
use Rattle.ir_forms.specs.declared.ops.Op.TheFolds.{ind-Region}
use Rattle.ir_forms.specs.declared.ops.Region.{Region, out-roll-Region}
use Rattle.ir_forms.specs.declared.ops.Func.{Func}
use Rattle.ir_forms.specs.declared.ops.ValueNo.{ValueNo}
use Rattle.ir_forms.specs.Ops.{operands_of, results_of, regions_of, ops_of}
use Rattle.ir_verify.specs.Breaks.{breaks}
use Rattle.ir_verify.specs.Calls.{IsTaskCalled}
use Rattle.ir_verify.specs.Places.{Seen, Spot, params_of, types_of, defined, in_body, called, places_along}
use Rattle.ir_verify.specs.Verdict.{IsSound, body_places}
use Rattle.ir_verify.proofs.PlaceLemmas.{places_in-out}
use Rattle.source_meaning.specs.Renaming.{renamed_values, renamed_params}
use Rattle.sound_laws.specs.Extended.{AreFine, Names, AreOwn, AreOwnParams, Ops, Regions, Extends, no_ops, keeps, no_regions, region}
use Rattle.sound_laws.proofs.Alike.{LikeCallee, LikeAround}
use Rattle.sound_laws.proofs.Sight.{Sees}
use Rattle.sound_laws.proofs.Sound.{carries, sound_bodies}

-- the names that stay
abbrev same : Names
same = record { is_own = λ v. true; renamed = λ v. v }

pub same_values : (vs : List ValueNo) → vs ≡ renamed_values (λ v. v) vs
same_values [] = refl
same_values (v ∷ vs) = ap (λ rest. v ∷ rest) (same_values vs)

pub same_params : (params : Seen) → params ≡ renamed_params (λ v. v) params
same_params [] = refl
same_params (p ∷ params) = ap (λ rest. p ∷ rest) (same_params params)

own_values : (vs : List ValueNo) → AreOwn same vs
own_values [] = tt
own_values (v ∷ vs) = (refl, own_values vs)

own_params : (params : Seen) → AreOwnParams same params
own_params [] = tt
own_params (p ∷ params) = (refl, own_params params)

module _ (funcs : List Func) where
  abbrev OfOp : Op → Type 0
  OfOp o = (seen : Seen) → Extends funcs Source same (Regions (regions_of o)) (Regions (regions_of o)) seen

  abbrev OfRegion : Region → Type 0
  OfRegion r = (seen : Seen) → Extends funcs Source same (Ops (ops_of r)) (Ops (ops_of r)) seen

  held : (regions : List ((r : Region) × OfRegion r)) (seen : Seen) → Extends funcs Source same (Regions (map (λ e. e.0) regions)) (Regions (map (λ e. e.0) regions)) seen
  held [] seen = no_regions seen
  held (e ∷ regions) seen = region e.0 e.0 (map (λ e. e.0) regions) (map (λ e. e.0) regions) seen (same_params (params_of e.0)) (own_params (params_of e.0)) (e.1 (seen ++ params_of e.0)) (held regions seen)

  along : (ops : List ((o : Op) × OfOp o)) (seen : Seen) → Extends funcs Source same (Ops (map (λ e. e.0) ops)) (Ops (map (λ e. e.0) ops)) seen
  along [] seen = no_ops seen
  along (e ∷ ops) seen =
      keeps e.0 e.0 (map (λ e. e.0) ops) (map (λ e. e.0) ops) seen
      (record { kind = refl; operands = same_values (operands_of e.0); groups = refl; written = refl; results = same_values (results_of e.0); types = refl; attr = refl })
      (own_values (results_of e.0)) (e.1 seen) (along ops (seen ++ defined (results_of e.0) (types_of e.0)))

  pub itself : (r : Region) → OfRegion r
  itself = ind-Region OfOp OfRegion
      (λ x y is. λ seen. subst (λ (rs : List Region). Extends funcs Source same (Regions rs) (Regions rs) seen) (ap (λ layer. layer.regions) is ∙ sym (ap (λ layer. layer.regions) (out-roll-Op x))) (held y.regions seen))
      (λ x y is. λ seen. subst (λ (os : List Op). Extends funcs Source same (Ops os) (Ops os) seen) (ap (λ layer. layer.ops) is ∙ sym (ap (λ layer. layer.ops) (out-roll-Region x))) (along y.ops seen))

  like_itself : (a : Attr) → LikeCallee (called funcs a) (called funcs a)
  like_itself a = record { is_there = refl; params = λ i. refl; results = λ i. refl; param_count = λ n. refl; result_count = λ n. refl; has = refl }

  -- a function that no task calls may do what one does that a task calls
  calm_fine : (f : Func) → AreFine (body_places funcs f true) → AreFine (body_places funcs f false)
  calm_fine f fine =
      let was : AreFine (places_along funcs (ops_of f.body) (in_body f true) (f.params ++ params_of f.body)) = subst AreFine (places_in-out funcs f.body (in_body f true) f.params) fine in
      let round : LikeAround (in_body f true) (in_body f false) = record { calm = λ c. refl; nest = refl; asked = refl; types = λ i. refl; count = refl } in
      let sees : Sees same (f.params ++ params_of f.body) (f.params ++ params_of f.body) = record { same = λ v own. refl; own = λ v t is. refl } in
      subst AreFine (sym (places_in-out funcs f.body (in_body f false) f.params))
      (carries funcs funcs Source same (λ v w a b e. e) like_itself (itself f.body (f.params ++ params_of f.body)) (in_body f true) (in_body f false) (f.params ++ params_of f.body) round sees was)

-- ---- what is not refuted holds

false_stays : (b : Bool) → ((b ≡ false → ⊥) → ⊥) → b ≡ false
false_stays true h = absurd (h (λ e. cc))
false_stays false h = refl

fine_stays : (spots : List Spot) → ((AreFine spots → ⊥) → ⊥) → AreFine spots
fine_stays [] h = tt
fine_stays (s ∷ spots) h = (λ kind. false_stays (breaks kind s) (λ no_kind. h (λ fine. no_kind (fine.0 kind))), fine_stays spots (λ none. h (λ fine. none fine.1)))

pub sound_fine : (funcs : List Func) → IsSound funcs → (k : ℕ) (f : Func) → slice_get funcs k ≡ Some f → AreFine (body_places funcs f false)
sound_fine funcs sound k f at =
    fine_stays (body_places funcs f false)
    (λ none.
    let not_called : IsTaskCalled funcs k → ⊥ = λ reached. none (calm_fine funcs f (sound_bodies funcs sound k f true at (record { sound = λ is. reached; complete = λ reached. refl }))) in
    none (sound_bodies funcs sound k f false at (record { sound = λ is. cc; complete = λ reached. absurd (not_called reached) })))
