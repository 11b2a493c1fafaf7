-- Inserted operations of a level keep a module at that level.
use Rattle.std.proofs.Common.{◌≡◌, ◌≤◌, ℕ, zero, suc, IsTrue, List, [], ◌∷◌, ◌++◌, length, Some, slice_get, refl, sym, subst, arith}
use Rattle.std.proofs.lemmas.Bool.Decides.{nat_tests}
use Rattle.op_table.specs.declared.kind.OpKind.{OpKind}
use Rattle.op_table.specs.declared.rows.Level.{Level}
use Rattle.op_table.specs.Rows.{place_of, stands_at}
use Rattle.ir_forms.specs.declared.ops.Func.{Func}
use Rattle.ir_forms.specs.Ops.{kind_of, regions_of, ops_of}
use Rattle.ir_verify.specs.Levels.{kinds_at, kinds_in, kinds_along, kinds_held, kinds_of, level_of}
use Rattle.ir_verify.specs.Places.{Seen}
use Rattle.ir_verify.proofs.KindLemmas.{kinds_at-out, kinds_in-out}
use Rattle.ir_verify.proofs.LevelLemmas.{level_is_least}
use Rattle.sound_laws.specs.Extended.{StandAt, Names, Part, Ops, Regions, Extends, no_ops, inserts, keeps, no_regions, region, IsExtended}
use Rattle.sound_laws.specs.Laws.{ExtendedHasLevel}
use Rattle.sound_laws.proofs.Sound.{Each}

module _ (level : Level) where
  pub stand_both : (xs ys : List OpKind) → StandAt level xs → StandAt level ys → StandAt level (xs ++ ys)
  stand_both [] ys h g = g
  stand_both (x ∷ xs) ys h g = (h.0, stand_both xs ys h.1 g)

  pub stand_front : (xs ys : List OpKind) → StandAt level (xs ++ ys) → StandAt level xs
  stand_front [] ys h = tt
  stand_front (x ∷ xs) ys h = (h.0, stand_front xs ys h.1)

  pub stand_rest : (xs ys : List OpKind) → StandAt level (xs ++ ys) → StandAt level ys
  stand_rest [] ys h = h
  stand_rest (x ∷ xs) ys h = stand_rest xs ys h.1

  stand_each : (ks : List OpKind) → ((i : ℕ) (k : OpKind) → slice_get ks i ≡ Some k → IsTrue (stands_at k level)) → StandAt level ks
  stand_each [] h = tt
  stand_each (k ∷ ks) h = (h 0 k refl, stand_each ks (λ i j at. h (suc i) j at))

  each_stands : (ks : List OpKind) (i : ℕ) (k : OpKind) → StandAt level ks → slice_get ks i ≡ Some k → IsTrue (stands_at k level)
  each_stands [] i k h at = cc
  each_stands (x ∷ ks) zero k h at = let same : x ≡ k = cc in subst (λ y. IsTrue (stands_at y level)) same h.0
  each_stands (x ∷ ks) (suc i) k h at = each_stands ks i k h.1 at

  module _ (more : List Func) (names : Names) where
    abbrev Stay : Part → Part → Type 0
    Stay (Ops os) (Ops ps) = StandAt level (kinds_along os) → StandAt level (kinds_along ps)
    Stay (Regions rs) (Regions ss) = StandAt level (kinds_held rs) → StandAt level (kinds_held ss)
    Stay _ _ = Unit {0}

    stay : {a b : Part} {now : Seen} → Extends more level names a b now → Stay a b
    stay (no_ops now) = λ h. tt
    stay (inserts made o os ps now is new rest) = λ h. stand_both (kinds_at made) (kinds_along ps) is.stands (stay rest h)
    stay (keeps o p os ps now kept own regions rest) = λ h.
        let was : StandAt level (kind_of o ∷ kinds_held (regions_of o)) = subst (StandAt level) (kinds_at-out o) (stand_front (kinds_at o) (kinds_along os) h) in
        let own_kind : IsTrue (stands_at (kind_of p) level) = subst (λ k. IsTrue (stands_at k level)) (sym kept.kind) was.0 in
        stand_both (kinds_at p) (kinds_along ps) (subst (StandAt level) (sym (kinds_at-out p)) (own_kind, stay regions was.1)) (stay rest (stand_rest (kinds_at o) (kinds_along os) h))
    stay (no_regions now) = λ h. tt
    stay (region r s rs ss now params own ops rest) = λ h.
        let was : StandAt level (kinds_along (ops_of r)) = subst (StandAt level) (kinds_in-out r) (stand_front (kinds_in r) (kinds_held rs) h) in
        stand_both (kinds_in s) (kinds_held ss) (subst (StandAt level) (sym (kinds_in-out s)) (stay ops was)) (stay rest (stand_rest (kinds_in r) (kinds_held rs) h))

    func_stays : (f g : Func) → IsExtended more level names f g → StandAt level (kinds_in f.body) → StandAt level (kinds_in g.body)
    func_stays f g e h = subst (StandAt level) (sym (kinds_in-out g.body)) (stay e.body (subst (StandAt level) (kinds_in-out f.body) h))

  funcs_stay : (fs gs : List Func) → length gs ≡ length fs → Each (λ f g. StandAt level (kinds_in f.body) → StandAt level (kinds_in g.body)) fs gs → StandAt level (kinds_of fs) → StandAt level (kinds_of gs)
  funcs_stay [] [] count h stands = tt
  funcs_stay [] (g ∷ gs) count h stands = absurd (omega arith)
  funcs_stay (f ∷ fs) [] count h stands = tt
  funcs_stay (f ∷ fs) (g ∷ gs) count h stands =
      stand_both (kinds_in g.body) (kinds_of gs) (h 0 f g refl refl (stand_front (kinds_in f.body) (kinds_of fs) stands))
      (funcs_stay fs gs (omega arith) (λ k a b p q. h (suc k) a b p q) (stand_rest (kinds_in f.body) (kinds_of fs) stands))

  later_stands : (k : OpKind) (l : Level) → IsTrue (stands_at k l) → place_of l ≤ place_of level → IsTrue (stands_at k level)
  later_stands k l h le = grind (arith, nat_tests)

pub extended_has_level : ExtendedHasLevel
extended_has_level level names funcs more e le =
    let was : StandAt level (kinds_of funcs) = stand_each level (kinds_of funcs) (λ i k at. later_stands level k (level_of funcs) ((level_is_least funcs).0 k (record { at = i; is = at })) le) in
    let is : StandAt level (kinds_of more) = funcs_stay level funcs more e.count (λ k f g p q. func_stays level more (names k) f g (e.each k f g p q)) was in
    (level_is_least more).1 level (λ k has. each_stands level (kinds_of more) has.at k is has.is)
