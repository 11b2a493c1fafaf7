-- Tokens of which none has the text of another: each is the first of its text.
use Rattle.std.proofs.Common.{◌≡◌, ◌<◌, ℕ, zero, suc, ◌+◌, Bool, true, false, not, cond, ◌&&◌, ◌||◌, List, [], ◌∷◌, ◌++◌, length, take, get_or, Option, Some, None, refl, sym, ap, subst, ◌∙◌, arith, add-one}
use Rattle.std.specs.Prelude.{slice_get}
use Rattle.std.specs.Option.{option_map, option_eq}
use Rattle.std.specs.Str.{bytes_eq}
use Rattle.std.proofs.Math.Logic.{⊎_elim}
use Rattle.std.proofs.Math.Dec.{eqb}
use Rattle.std.proofs.lemmas.Bool.Decides.{eqb_tells}
use Rattle.std.proofs.lemmas.Slice.Eq.{bytes_eq-Decides}
use Rattle.name_lists.specs.Names.{first_named}
use Rattle.module_grammar.specs.declared.state.TextToken.{TextToken}
use Rattle.module_grammar.specs.Rules.{holds_text, are_distinct}

abbrev pub first : List TextToken → List ℕ → Option ℕ
first ts text = first_named (λ (t : TextToken). t.text) ts text

equals_itself : (text : List ℕ) → bytes_eq text text ≡ true
equals_itself text = (bytes_eq-Decides text text).1 refl

swapped : (a b : List ℕ) → bytes_eq a b ≡ true → bytes_eq b a ≡ true
swapped a b is = (bytes_eq-Decides b a).1 (sym ((bytes_eq-Decides a b).0 is))

differ : (a b : List ℕ) → bytes_eq a b ≡ false → bytes_eq b a ≡ false
differ a b is = by (bytes_eq b a) refl
  where
    by : (r : Bool) → bytes_eq b a ≡ r → r ≡ false
    by true e = let back : bytes_eq a b ≡ true = swapped b a e in cc
    by false e = refl

-- ---- the text of a token among those before it

held_again : (xs ys : List TextToken) (t : TextToken) (text : List ℕ) → bytes_eq t.text text ≡ true → holds_text (xs ++ t ∷ ys) text ≡ true
held_again [] ys t text is = rw is refl
held_again (x ∷ xs) ys t text is = by (bytes_eq x.text text) (held_again xs ys t text is)
  where
    by : (r : Bool) → holds_text (xs ++ t ∷ ys) text ≡ true → r || holds_text (xs ++ t ∷ ys) text ≡ true
    by true e = refl
    by false e = e

-- a token whose text stands before it makes the texts not distinct
pub twice : (xs ys : List TextToken) (t : TextToken) → holds_text xs t.text ≡ true → are_distinct (xs ++ t ∷ ys) ≡ false
twice [] ys t is = cc
twice (x ∷ xs) ys t is = by (bytes_eq x.text t.text) refl is (twice xs ys t)
  where
    and_false : (b : Bool) → b && false ≡ false
    and_false true = refl
    and_false false = refl

    by : (r : Bool) → bytes_eq x.text t.text ≡ r → r || holds_text xs t.text ≡ true → (holds_text xs t.text ≡ true → are_distinct (xs ++ t ∷ ys) ≡ false)
        → not (holds_text (xs ++ t ∷ ys) x.text) && are_distinct (xs ++ t ∷ ys) ≡ false
    by true e is again = rw (held_again xs ys t x.text (swapped x.text t.text e)) refl
    by false e is again = rw (again is) (and_false (not (holds_text (xs ++ t ∷ ys) x.text)))

held_last : (xs : List TextToken) (t : TextToken) (text : List ℕ) → bytes_eq t.text text ≡ false → holds_text (xs ++ t ∷ []) text ≡ holds_text xs text
held_last [] t text is = rw is refl
held_last (x ∷ xs) t text is = ap (λ r. bytes_eq x.text text || r) (held_last xs t text is)

-- one more token of another text
pub one_more : (xs : List TextToken) (t : TextToken) → are_distinct xs ≡ true → holds_text xs t.text ≡ false → are_distinct (xs ++ t ∷ []) ≡ true
one_more [] t are new = refl
one_more (x ∷ xs) t are new = by (bytes_eq x.text t.text) refl new (holds_text xs x.text) refl are (one_more xs t)
  where
    by : (r : Bool) → bytes_eq x.text t.text ≡ r → r || holds_text xs t.text ≡ false → (h : Bool) → holds_text xs x.text ≡ h → not h && are_distinct xs ≡ true
        → (are_distinct xs ≡ true → holds_text xs t.text ≡ false → are_distinct (xs ++ t ∷ []) ≡ true)
        → not (holds_text (xs ++ t ∷ []) x.text) && are_distinct (xs ++ t ∷ []) ≡ true
    by true e new h held are again = cc
    by false e new true held are again = cc
    by false e new false held are again = rw (held_last xs t x.text (differ x.text t.text e), held, again are new) refl

-- ---- the first token of a text

-- where the token itself is the first of its text, the text doesn't stand before it
pub new_where_first : (xs ys : List TextToken) (t : TextToken) → first (xs ++ t ∷ ys) t.text ≡ Some (length xs) → holds_text xs t.text ≡ false
new_where_first [] ys t is = refl
new_where_first (x ∷ xs) ys t is = by (bytes_eq x.text t.text) (first (xs ++ t ∷ ys) t.text) refl is (new_where_first xs ys t)
  where
    by : (r : Bool) (o : Option ℕ) → first (xs ++ t ∷ ys) t.text ≡ o → cond r (Some 0) (option_map suc o) ≡ Some (suc (length xs))
        → (first (xs ++ t ∷ ys) t.text ≡ Some (length xs) → holds_text xs t.text ≡ false) → r || holds_text xs t.text ≡ false
    by true o found is again = cc
    by false None found is again = cc
    by false (Some p) found is again = let same : p ≡ length xs = cc in again (found ∙ ap (λ j. Some j) same)

-- where it doesn't, the token itself is the first
pub found_itself : (xs ys : List TextToken) (t : TextToken) → holds_text xs t.text ≡ false → first (xs ++ t ∷ ys) t.text ≡ Some (length xs)
found_itself [] ys t new = rw (equals_itself t.text) refl
found_itself (x ∷ xs) ys t new = by (bytes_eq x.text t.text) new (found_itself xs ys t)
  where
    by : (r : Bool) → r || holds_text xs t.text ≡ false → (holds_text xs t.text ≡ false → first (xs ++ t ∷ ys) t.text ≡ Some (length xs))
        → cond r (Some 0) (option_map suc (first (xs ++ t ∷ ys) t.text)) ≡ Some (suc (length xs))
    by true new again = cc
    by false new again = rw (again new) refl

-- ---- a place that is found, against another

is_place : (o : Option ℕ) (i : ℕ) → not (option_eq eqb o (Some i)) ≡ false → o ≡ Some i
is_place None i is = cc
is_place (Some p) i is = ⊎_elim (λ t. ap (λ j. Some j) t.1) (λ f. let no : eqb p i ≡ false = f.0 in cc) (eqb_tells p i)

isnt_place : (o : Option ℕ) (i : ℕ) → not (option_eq eqb o (Some i)) ≡ true → o ≡ Some i → ⊥
isnt_place None i is same = cc
isnt_place (Some p) i is same = ⊎_elim (λ t. let yes : eqb p i ≡ true = t.0 in cc) (λ f. f.1 (let equal : p ≡ i = cc in equal)) (eqb_tells p i)

-- ---- the tokens up to a place

pub there : (ts : List TextToken) (i : ℕ) (t : TextToken) → i < length ts → t ≡ get_or ts i t → slice_get ts i ≡ Some t
there [] i t below is = absurd (omega (arith, below))
there (x ∷ ts) zero t below is = ap (λ (y : TextToken). Some y) (sym is)
there (x ∷ ts) (suc i) t below is = there ts i t (omega (arith, below)) is

-- the tokens before a place, the one there, and those behind it
record Parted (ts : List TextToken) (i : ℕ) (t : TextToken) : Type 0 where
  before : List TextToken
  behind : List TextToken
  parts : ts ≡ before ++ t ∷ behind
  size : length before ≡ i
  front : take i ts ≡ before
  more : take (suc i) ts ≡ before ++ t ∷ []

parted : (ts : List TextToken) (i : ℕ) (t : TextToken) → slice_get ts i ≡ Some t → Parted ts i t
parted [] i t is = cc
parted (x ∷ ts) zero t is =
    let same : x ≡ t = cc in
    record { before = []; behind = ts; parts = ap (λ (y : TextToken). y ∷ ts) same; size = refl; front = refl; more = ap (λ (y : TextToken). y ∷ []) same }
parted (x ∷ ts) (suc i) t is =
    let p : Parted ts i t = parted ts i t is in
    record {
      before = x ∷ p.before;
      behind = p.behind;
      parts = ap (λ (l : List TextToken). x ∷ l) p.parts;
      size = ap suc p.size;
      front = ap (λ (l : List TextToken). x ∷ l) p.front;
      more = ap (λ (l : List TextToken). x ∷ l) p.more;
    }

-- a token that isn't the first of its text makes the texts not distinct
pub not_first : (ts : List TextToken) (i : ℕ) (t : TextToken) → i < length ts → t ≡ get_or ts i t → not (option_eq eqb (first ts t.text) (Some i)) ≡ true → are_distinct ts ≡ false
not_first ts i t below is other = by p (holds_text p.before t.text) refl
  where
    p : Parted ts i t
    p = parted ts i t (there ts i t below is)

    by : (p : Parted ts i t) (h : Bool) → holds_text p.before t.text ≡ h → are_distinct ts ≡ false
    by p true held = rw p.parts (twice p.before p.behind t held)
    by p false new = absurd (isnt_place (first ts t.text) i other (ap (λ (l : List TextToken). first l t.text) p.parts ∙ found_itself p.before p.behind t new ∙ ap (λ j. Some j) p.size))

-- a token that is the first of its text keeps the texts before it and its own distinct
pub still_distinct : (ts : List TextToken) (i : ℕ) (t : TextToken) → i < length ts → t ≡ get_or ts i t → not (option_eq eqb (first ts t.text) (Some i)) ≡ false
    → are_distinct (take i ts) ≡ true → are_distinct (take (i + 1) ts) ≡ true
still_distinct ts i t below is found are = rw (add-one, p.more) (one_more p.before t (subst (λ (l : List TextToken). are_distinct l ≡ true) p.front are) (new_where_first p.before p.behind t placed))
  where
    p : Parted ts i t
    p = parted ts i t (there ts i t below is)

    placed : first (p.before ++ t ∷ p.behind) t.text ≡ Some (length p.before)
    placed = sym (ap (λ (l : List TextToken). first l t.text) p.parts) ∙ is_place (first ts t.text) i found ∙ ap (λ j. Some j) (sym p.size)
