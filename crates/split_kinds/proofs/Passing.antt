-- Kinds that pass a test: those of operations, of regions and of functions.
use Rattle.std.proofs.Common.{◌≡◌, Bool, true, List, [], ◌∷◌, ◌++◌, map, sym, subst}
use Rattle.op_table.specs.declared.kind.OpKind.{OpKind}
use Rattle.ir_forms.specs.declared.ops.Func.{Func}
use Rattle.ir_forms.specs.declared.ops.Op.{Op, Op-F, roll-Op, out-roll-Op}
use Rattle.ir_forms.specs.declared.ops.Op.TheFolds.{ind-Region}
use Rattle.ir_forms.specs.declared.ops.Region.{Region, Region-F, out-Region, roll-Region, out-roll-Region}
use Rattle.ir_verify.specs.Levels.{kinds_at, kinds_in, kinds_along, kinds_held, kinds_of}
use Rattle.ir_verify.proofs.KindLemmas.{kinds_at-out, kinds_in-out}

-- ---- lists, and trees of operations

abbrev pub Each : {A : Type 0} → (A → Type 0) → List A → Type 0
Each P [] = Unit {0}
Each P (x ∷ xs) = P x × Each P xs

each_of : {A : Type 0} (P : A → Type 0) (ys : List ((x : A) × P x)) → Each P (map (λ e. e.0) ys)
each_of P [] = tt
each_of P (y ∷ ys) = (y.1, each_of P ys)

pub tree : (P : Op → Type 0) (Q : Region → Type 0) → ((x : Op-F Op Region) → Each Q x.regions → P (roll-Op x)) →
    ((x : Region-F Op Region) → Each P x.ops → Q (roll-Region x)) → (region : Region) → Q region
tree P Q op_step region_step = ind-Region P Q
    (λ x y is. op_step x (subst (λ (z : Op-F Op Region). Each Q z.regions) is (each_of Q y.regions)))
    (λ x y is. region_step x (subst (λ (z : Region-F Op Region). Each P z.ops) is (each_of P y.ops)))

-- ---- kinds

module _ (ok : OpKind → Bool) where
  abbrev pub Pass : List OpKind → Type 0
  Pass [] = Unit {0}
  Pass (k ∷ ks) = (ok k ≡ true) × Pass ks

  pub pass_both : (xs ys : List OpKind) → Pass xs → Pass ys → Pass (xs ++ ys)
  pass_both [] ys f g = g
  pass_both (x ∷ xs) ys f g = (f.0, pass_both xs ys f.1 g)

  pub pass_front : (xs ys : List OpKind) → Pass (xs ++ ys) → Pass xs
  pass_front [] ys h = tt
  pass_front (x ∷ xs) ys h = (h.0, pass_front xs ys h.1)

  pub pass_rest : (xs ys : List OpKind) → Pass (xs ++ ys) → Pass ys
  pass_rest [] ys h = h
  pass_rest (x ∷ xs) ys h = pass_rest xs ys h.1

  pub ops_both : (os ps : List Op) → Pass (kinds_along os) → Pass (kinds_along ps) → Pass (kinds_along (os ++ ps))
  ops_both [] ps f g = g
  ops_both (o ∷ os) ps f g = pass_both (kinds_at o) (kinds_along (os ++ ps)) (pass_front (kinds_at o) (kinds_along os) f) (ops_both os ps (pass_rest (kinds_at o) (kinds_along os) f) g)

  pub funcs_both : (fs gs : List Func) → Pass (kinds_of fs) → Pass (kinds_of gs) → Pass (kinds_of (fs ++ gs))
  funcs_both [] gs f g = g
  funcs_both (x ∷ fs) gs f g = pass_both (kinds_in x.body) (kinds_of (fs ++ gs)) (pass_front (kinds_in x.body) (kinds_of fs) f) (funcs_both fs gs (pass_rest (kinds_in x.body) (kinds_of fs) f) g)

  pub op_passes : (x : Op-F Op Region) → ok x.kind ≡ true → Pass (kinds_held x.regions) → Pass (kinds_at (roll-Op x))
  op_passes x e h = subst Pass (sym (kinds_at-out (roll-Op x))) (subst (λ (y : Op-F Op Region). Pass (y.kind ∷ kinds_held y.regions)) (sym (out-roll-Op x)) (e, h))

  pub op_passed : (x : Op-F Op Region) → Pass (kinds_at (roll-Op x)) → (ok x.kind ≡ true) × Pass (kinds_held x.regions)
  op_passed x h = subst (λ (y : Op-F Op Region). Pass (y.kind ∷ kinds_held y.regions)) (out-roll-Op x) (subst Pass (kinds_at-out (roll-Op x)) h)

  pub region_passes : (x : Region-F Op Region) → Pass (kinds_along x.ops) → Pass (kinds_in (roll-Region x))
  region_passes x h = subst Pass (sym (kinds_in-out (roll-Region x))) (subst (λ (y : Region-F Op Region). Pass (kinds_along y.ops)) (sym (out-roll-Region x)) h)

  pub region_passed : (x : Region-F Op Region) → Pass (kinds_in (roll-Region x)) → Pass (kinds_along x.ops)
  region_passed x h = subst (λ (y : Region-F Op Region). Pass (kinds_along y.ops)) (out-roll-Region x) (subst Pass (kinds_in-out (roll-Region x)) h)

  pub inner_passes : (r : Region) → Pass (kinds_in r) → Pass (kinds_along (out-Region r).ops)
  inner_passes r h = subst Pass (kinds_in-out r) h
