-- What is found by name, over the whole table.
use Rattle.std.proofs.Common.{◌≡◌, ◌≢◌, ℕ, List, [], ◌∷◌, Bool, true, false, Option, Some, None, MatchOption, ap, subst, refl, sym, ◌∙◌, not, ◌&&◌, ◌||◌, filter}
use Rattle.std.specs.Prelude.{cond}
use Rattle.std.specs.Cmp.{first_so, second_so}
use Rattle.std.specs.List.{find, list_all}
use Rattle.std.specs.Str.{bytes_eq}
use Rattle.std.proofs.lemmas.Slice.Eq.{bytes_eq-Decides}
use Rattle.op_table.specs.Rows.{all_kinds, found, found_among, name_of, stands_in_body, body_kinds, kept}
use Rattle.op_table.specs.Laws.{FindsEachName, FindsExactly, FindsInBodies, HasDistinctNames, ListsBodyKinds, ListsEachKind}
use Rattle.op_table.specs.declared.kind.OpKind.{OpKind}
use Rattle.op_table.specs.declared.kind.OpKind.TheVariants.{AioCall}

pub each_name : FindsEachName
unfolding found
each_name AioCall = refl
each_name _ = refl

-- what is found passes the test that it was found by
found_passes : {X : Type 0} (test : X → Bool) (xs : List X) (x : X) → find test xs ≡ Some x → test x ≡ true
found_passes test [] x is = cc
found_passes test (y ∷ ys) x is =
    elim (test y) as (λ b. test y ≡ b → cond b (Some y) (find test ys) ≡ Some x → test x ≡ true) [
      | true ↦ λ passes here. let same : y ≡ x = cc in subst (λ z. test z ≡ true) same passes
      | false ↦ λ fails later. found_passes test ys x later
    ] refl is

-- and any test that all elements pass
found_passes_too : {X : Type 0} (test each : X → Bool) (xs : List X) (x : X) → find test xs ≡ Some x → list_all each xs ≡ true → each x ≡ true
found_passes_too test each [] x is all = cc
found_passes_too test each (y ∷ ys) x is all =
    elim (test y) as (λ b. cond b (Some y) (find test ys) ≡ Some x → each x ≡ true) [
      | true ↦ λ here. let same : y ≡ x = cc in subst (λ z. each z ≡ true) same (first_so (each y) (list_all each ys) all)
      | false ↦ λ later. found_passes_too test each ys x later (second_so (each y) (list_all each ys) all)
    ] is

pub distinct : HasDistinctNames
distinct j k same = let found_j = each_name j in let found_k = each_name k in
    let both : found (name_of j) ≡ found (name_of k) = ap found same in
    cc

same_if_equal : (a b : List ℕ) → bytes_eq a b ≡ true → a ≡ b
same_if_equal a b equal = (bytes_eq-Decides a b).0 equal

has_name : (text : List ℕ) (k : OpKind) → found text ≡ Some k → name_of k ≡ text
unfolding found
has_name text k is = same_if_equal (name_of k) text (found_passes (λ j. bytes_eq (name_of j) text) all_kinds k is)

by_answer : (text : List ℕ) (answer : Option OpKind) → found text ≡ answer → MatchOption answer ((k : OpKind) → name_of k ≢ text) (λ k. name_of k ≡ text)
by_answer text None none = λ k named. let found_k = each_name k in let both : found (name_of k) ≡ found text = ap found named in cc
by_answer text (Some k) is = has_name text k is

pub exact : FindsExactly
exact text = by_answer text (found text) refl

pub each_kind : ListsEachKind
unfolding found
each_kind test all k = found_passes_too (λ j. bytes_eq (name_of j) (name_of k)) test all_kinds k (each_name k) all

-- ---- the kinds of function bodies

module _ {X : Type 0} (keep : X → Bool) where
  -- what is found among the elements that are kept is kept
  found_kept : (test : X → Bool) (xs : List X) (x : X) → find test (filter keep xs) ≡ Some x → keep x ≡ true
  found_kept test [] x is = cc
  found_kept test (y ∷ ys) x is =
      elim (keep y) as (λ b. keep y ≡ b → find test (cond b (y ∷ filter keep ys) (filter keep ys)) ≡ Some x → keep x ≡ true) [
        | true ↦ λ is_in. elim (test y) as (λ b. cond b (Some y) (find test (filter keep ys)) ≡ Some x → keep x ≡ true) [
          | true ↦ λ here. let same : y ≡ x = cc in subst (λ z. keep z ≡ true) same is_in
          | false ↦ λ later. found_kept test ys x later
        ]
        | false ↦ λ left later. found_kept test ys x later
      ] refl is

  -- where one element at most passes, it is found among those that are kept exactly where it is one of them
  found_where_kept : (test : X → Bool) → ((x y : X) → test x ≡ true → test y ≡ true → x ≡ y) → (xs : List X) → find test (filter keep xs) ≡ kept keep (find test xs)
  found_where_kept test one [] = refl
  found_where_kept test one (y ∷ ys) = by_case (found_where_kept test one ys) (keep y) refl (test y) refl
    where
      none : keep y ≡ false → test y ≡ true → (found : Option X) → find test (filter keep ys) ≡ found → found ≡ None
      none left passes None is = refl
      none left passes (Some x) is =
          let same : y ≡ x = one y x passes (found_passes test (filter keep ys) x is) in
          let is_in : keep y ≡ true = subst (λ z. keep z ≡ true) (sym same) (found_kept test ys x is) in
          cc

      by_case : find test (filter keep ys) ≡ kept keep (find test ys) → (b : Bool) → keep y ≡ b → (c : Bool) → test y ≡ c
          → find test (cond b (y ∷ filter keep ys) (filter keep ys)) ≡ kept keep (cond c (Some y) (find test ys))
      by_case later true is_in true passes = rw (passes, is_in) refl
      by_case later true is_in false fails = rw fails later
      by_case later false left true passes = rw left (none left passes (find test (filter keep ys)) refl)
      by_case later false left false fails = later

  -- a test that passes at all elements that are kept
  kept_pass : (test : X → Bool) (xs : List X) → list_all test (filter keep xs) ≡ true → list_all (λ x. not (keep x) || test x) xs ≡ true
  kept_pass test [] all = refl
  kept_pass test (y ∷ ys) all = by_case (kept_pass test ys) (keep y) refl all
    where
      by_case : (list_all test (filter keep ys) ≡ true → list_all (λ x. not (keep x) || test x) ys ≡ true) → (b : Bool) → keep y ≡ b → list_all test (cond b (y ∷ filter keep ys) (filter keep ys)) ≡ true
          → ((not b || test y) && list_all (λ x. not (keep x) || test x) ys) ≡ true
      by_case later true is_in all = rw (first_so (test y) (list_all test (filter keep ys)) all) (later (second_so (test y) (list_all test (filter keep ys)) all))
      by_case later false left all = later all

one_name : (text : List ℕ) (j k : OpKind) → bytes_eq (name_of j) text ≡ true → bytes_eq (name_of k) text ≡ true → j ≡ k
one_name text j k first second = distinct j k (same_if_equal (name_of j) text first ∙ sym (same_if_equal (name_of k) text second))

pub in_bodies : FindsInBodies
unfolding found
in_bodies l text = found_where_kept (λ k. stands_in_body k l) (λ k. bytes_eq (name_of k) text) (one_name text) all_kinds

then_so : (a b : Bool) → (not a || b) ≡ true → a ≡ true → b ≡ true
then_so true true h is = refl
then_so true false h is = cc
then_so false b h is = cc

pub body_kind : ListsBodyKinds
body_kind test l all k stands =
    then_so (stands_in_body k l) (test k) (each_kind (λ j. not (stands_in_body j l) || test j) (kept_pass (λ j. stands_in_body j l) test all_kinds all) k) stands
