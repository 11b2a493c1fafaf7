-- Functions that are numbered one after another.
use Rattle.std.proofs.Common.{◌≡◌, ℕ, ◌+◌, ◌<◌, ◌≤◌, List, [], ◌∷◌, ◌++◌, map, append_assoc, drop, take, set, length, get_or, sym, ap, subst, ◌∙◌, arith}
use Rattle.std.proofs.lemmas.List.{drop-drop, drop-set-lt, drop_more, get_or-drop, take_all, take_more_set}
use Rattle.std.proofs.lemmas.List.Elements.{All-more}
use Rattle.std.specs.List.{All}

module _ {X : Type 0} where
  -- one more is changed
  pub whole-more : (f : X → X) (xs init : List X) (i : ℕ) (d y : X) → i < length xs → y ≡ f (get_or xs i d) →
      take i xs ++ map f (drop i xs) ≡ map f init → take (i + 1) (set xs i y) ++ map f (drop (i + 1) (set xs i y)) ≡ map f init
  whole-more f xs init i d y less changed whole =
      let after : i < i + 1 = omega arith in
      let rest = drop (i + 1) xs in
      ap (λ (zs : List X). zs ++ map f (drop (i + 1) (set xs i y))) (take_more_set xs i y less)
      ∙ ap (λ (zs : List X). (take i xs ++ y ∷ []) ++ map f zs) (drop-set-lt (i + 1) xs i y after)
      ∙ append_assoc (take i xs) (y ∷ []) (map f rest)
      ∙ ap (λ (z : X). take i xs ++ z ∷ map f rest) changed
      ∙ ap (λ (zs : List X). take i xs ++ map f zs) (sym (drop_more xs i d less))
      ∙ whole

  -- what is left is as it was
  pub rest-more : (xs init : List X) (i : ℕ) (y : X) → drop i xs ≡ drop i init → drop (i + 1) (set xs i y) ≡ drop (i + 1) init
  rest-more xs init i y rest =
      let less : i < i + 1 = omega arith in
      drop-set-lt (i + 1) xs i y less ∙ sym (drop-drop 1 i xs) ∙ ap (drop 1) rest ∙ drop-drop 1 i init

  at-rest : (xs : List X) (i : ℕ) (d : X) → get_or (drop i xs) 0 d ≡ get_or xs i d
  at-rest xs i d = let e : i + 0 ≡ i = omega arith in get_or-drop i xs 0 d ∙ ap (λ k. get_or xs k d) e

  pub within-more : (P : X → Type 0) (xs init : List X) (i : ℕ) (d : X) → drop i xs ≡ drop i init → i < length init → P (get_or xs i d) → All P (take i init) → All P (take (i + 1) init)
  within-more P xs init i d rest less holds all =
      let same : get_or xs i d ≡ get_or init i d = sym (at-rest xs i d) ∙ ap (λ ys. get_or ys 0 d) rest ∙ at-rest init i d in
      All-more P init i d less all (subst P same holds)

  pub within-all : (P : X → Type 0) (init : List X) (i : ℕ) → length init ≤ i → All P (take i init) → All P init
  within-all P init i long all = subst (All P) (take_all i init long) all
