-- Options, paths, and which task a list has under a path.
use Rattle.std.specs.Prelude.{cond}
use Rattle.std.specs.List.{find}
use Rattle.std.specs.Option.{option_map}
use Rattle.std.proofs.Common.{◌≡◌, Bool, true, false, List, [], ◌∷◌, ◌++◌, Option, Some, None, refl, sym, subst, ◌∙◌}
use Rattle.std.proofs.lemmas.Bool.{true≢false}
use Rattle.std.proofs.lemmas.Slice.Eq.{bytes_eq-Decides}
use Rattle.ir_forms.specs.Names.{Path, same_path}
use Rattle.source_meaning.specs.TaskOrder.{Live, replaced, without}

pub none≢some : {X : Type 0} (x : X) → None ≡ Some x → ⊥
none≢some {X} x e = subst IsNothing e tt where
  IsNothing : Option X → Type 0
  IsNothing None = Unit {0}
  IsNothing (Some y) = ⊥

pub some_inj : {X : Type 0} (x y : X) → Some x ≡ Some y → x ≡ y
some_inj x y e = cc

pub path_same : (a : Path) → same_path a a ≡ true
path_same a = (bytes_eq-Decides a a).1 refl

pub path_yes : (a b : Path) → same_path a b ≡ true → a ≡ b
path_yes a b e = (bytes_eq-Decides a b).0 e

-- ---- the task under a path

abbrev pub found : Path → List Live → Option Live
found q live = find (λ l. same_path l.path q) live

pub found_path : (q : Path) (live : List Live) (l : Live) → found q live ≡ Some l → l.path ≡ q
found_path q [] l e = absurd (none≢some l e)
found_path q (m ∷ live) l e = split (same_path m.path q) refl e (found_path q live l) where
  split : (t : Bool) → same_path m.path q ≡ t → cond t (Some m) (found q live) ≡ Some l → (found q live ≡ Some l → l.path ≡ q) → l.path ≡ q
  split true h k r = subst (λ (x : Live). x.path ≡ q) (some_inj m l k) (path_yes m.path q h)
  split false h k r = r k

pub found_replaced : (l : Live) (live : List Live) (q : Path) → found q (replaced l live) ≡ cond (same_path l.path q) (option_map (λ x. l) (found q live)) (found q live)
found_replaced l [] q = split (same_path l.path q) where
  split : (t : Bool) → None ≡ cond t (option_map (λ (x : Live). l) None) None
  split true = refl
  split false = refl
found_replaced l (x ∷ live) q = split (same_path x.path l.path) refl (found_replaced l live q) where
  split : (t : Bool) → same_path x.path l.path ≡ t → found q (replaced l live) ≡ cond (same_path l.path q) (option_map (λ x. l) (found q live)) (found q live) →
      cond (same_path (cond t l x).path q) (Some (cond t l x)) (found q (replaced l live)) ≡ cond (same_path l.path q) (option_map (λ x. l) (cond (same_path x.path q) (Some x) (found q live))) (cond (same_path x.path q) (Some x) (found q live))
  split true e h = subst (λ r. cond (same_path l.path q) (Some l) (found q (replaced l live)) ≡ cond (same_path l.path q) (option_map (λ x. l) (cond (same_path r q) (Some x) (found q live))) (cond (same_path r q) (Some x) (found q live))) (sym (path_yes x.path l.path e)) (same (same_path l.path q) h) where
    same : (u : Bool) → found q (replaced l live) ≡ cond u (option_map (λ x. l) (found q live)) (found q live) → cond u (Some l) (found q (replaced l live)) ≡ cond u (option_map (λ x. l) (cond u (Some x) (found q live))) (cond u (Some x) (found q live))
    same true k = refl
    same false k = k
  split false e h = other (same_path x.path q) refl (same_path l.path q) refl h where
    other : (v : Bool) → same_path x.path q ≡ v → (u : Bool) → same_path l.path q ≡ u → found q (replaced l live) ≡ cond u (option_map (λ x. l) (found q live)) (found q live) →
        cond v (Some x) (found q (replaced l live)) ≡ cond u (option_map (λ x. l) (cond v (Some x) (found q live))) (cond v (Some x) (found q live))
    other false a u b k = k
    other true a false b k = refl
    other true a true b k = absurd (true≢false (sym (subst (λ r. same_path x.path r ≡ true) (sym (path_yes l.path q b)) a) ∙ e))

pub found_without : (p : Path) (live : List Live) (q : Path) → found q (without p live) ≡ cond (same_path p q) None (found q live)
found_without p [] q = split (same_path p q) where
  split : (t : Bool) → None ≡ cond {A = Option Live} t None None
  split true = refl
  split false = refl
found_without p (x ∷ live) q = split (same_path x.path p) refl (found_without p live q) where
  split : (t : Bool) → same_path x.path p ≡ t → found q (without p live) ≡ cond (same_path p q) None (found q live) → found q (cond t (without p live) (x ∷ without p live)) ≡ cond (same_path p q) None (cond (same_path x.path q) (Some x) (found q live))
  split true e h = h ∙ subst (λ r. cond (same_path p q) None (found q live) ≡ cond (same_path p q) None (cond (same_path r q) (Some x) (found q live))) (sym (path_yes x.path p e)) (same (same_path p q)) where
    same : (u : Bool) → cond u None (found q live) ≡ cond u None (cond u (Some x) (found q live))
    same true = refl
    same false = refl
  split false e h = other (same_path x.path q) refl (same_path p q) refl h where
    other : (v : Bool) → same_path x.path q ≡ v → (u : Bool) → same_path p q ≡ u → found q (without p live) ≡ cond u None (found q live) → cond v (Some x) (found q (without p live)) ≡ cond u None (cond v (Some x) (found q live))
    other false a u b k = k
    other true a false b k = refl
    other true a true b k = absurd (true≢false (sym (subst (λ r. same_path x.path r ≡ true) (sym (path_yes p q b)) a) ∙ e))

-- the first task that one of two lists has
abbrev pub either : Option Live → Option Live → Option Live
either None y = y
either (Some x) y = Some x

pub found_append : (q : Path) (xs ys : List Live) → found q (xs ++ ys) ≡ either (found q xs) (found q ys)
found_append q [] ys = refl
found_append q (x ∷ xs) ys = split (same_path x.path q) (found_append q xs ys) where
  split : (t : Bool) → found q (xs ++ ys) ≡ either (found q xs) (found q ys) → cond t (Some x) (found q (xs ++ ys)) ≡ either (cond t (Some x) (found q xs)) (found q ys)
  split true h = refl
  split false h = h

-- replaced by itself
pub found_itself : (l : Live) (live : List Live) → found l.path live ≡ Some l → (q : Path) → found q (replaced l live) ≡ found q live
found_itself l live e q = found_replaced l live q ∙ split (same_path l.path q) refl where
  split : (t : Bool) → same_path l.path q ≡ t → cond t (option_map (λ (x : Live). l) (found q live)) (found q live) ≡ found q live
  split false h = refl
  split true h =
      let at : found q live ≡ Some l = subst (λ r. found r live ≡ Some l) (path_yes l.path q h) e in
      subst (λ o. option_map (λ (x : Live). l) o ≡ o) (sym at) refl
