-- A search by halves in a list whose keys ascend in byte order.
use Rattle.std.proofs.Common.{◌≡◌, ℕ, zero, suc, ◌+◌, ◌<◌, ◌≤◌, List, [], ◌∷◌, length, map, get_or, Bool, true, false, Some, None, sym, ◌∙◌, ap, refl, arith, inl, inr}
use Rattle.std.specs.declared.cmp.Ordering.{Ordering}
use Rattle.std.specs.declared.cmp.Ordering.TheVariants.{Less, Equal, Greater}
use Rattle.std.specs.Cmp.{first_so, second_so}
use Rattle.std.specs.Cmp.Lexicographic.{slice_cmp}
use Rattle.std.specs.List.{find}
use Rattle.std.specs.Ordering.{is_lt, is_eq, nat_cmp, ordering_reverse}
use Rattle.std.specs.Str.{bytes_eq}
use Rattle.std.proofs.lemmas.Bool.{cases_lt}
use Rattle.std.proofs.lemmas.Cmp.{nat_list_cmp_total, alike_right}
use Rattle.std.proofs.lemmas.Map.Text.{is_eq-slice_cmp}
use Rattle.op_table.specs.Rows.{ascends}

abbrev pub compared : List ℕ → List ℕ → Ordering
compared = slice_cmp nat_cmp

is_less : (o : Ordering) → is_lt o ≡ true → o ≡ Less
is_less Less h = refl
is_less Equal h = cc
is_less Greater h = cc

-- texts of which one comes before the other are not equal
pub unequal_if_less : (a b : List ℕ) → compared a b ≡ Less → bytes_eq a b ≡ false
unequal_if_less a b less = sym (is_eq-slice_cmp a b) ∙ ap is_eq less

pub unequal_if_greater : (a b : List ℕ) → compared a b ≡ Greater → bytes_eq a b ≡ false
unequal_if_greater a b greater = sym (is_eq-slice_cmp a b) ∙ ap is_eq greater

pub equal_if_tied : (a b : List ℕ) → compared a b ≡ Equal → bytes_eq a b ≡ true
equal_if_tied a b tied = sym (is_eq-slice_cmp a b) ∙ ap is_eq tied

module _ {X : Type 0} (test : X → Bool) (d : X) where
  -- where no element passes, nothing is found
  pub find_none : (xs : List X) → ((k : ℕ) → k < length xs → test (get_or xs k d) ≡ false) → find test xs ≡ None
  find_none [] fails = refl
  find_none (x ∷ xs) fails = rw (fails 0 (omega arith)) (find_none xs (λ k lt. fails (suc k) (omega arith)))

  -- the first element that passes is found
  pub find_first : (xs : List X) (m : ℕ) → m < length xs → test (get_or xs m d) ≡ true → ((k : ℕ) → k < m → test (get_or xs k d) ≡ false) → find test xs ≡ Some (get_or xs m d)
  find_first [] m lt passes fails = absurd (omega arith)
  find_first (x ∷ xs) zero lt passes fails = rw passes
  find_first (x ∷ xs) (suc m) lt passes fails = rw (fails 0 (omega arith)) (find_first xs m (omega arith) passes (λ k le. fails (suc k) (omega arith)))

module _ {X : Type 0} (key : X → List ℕ) (d : X) where
  -- the first key comes before every later one
  head_below : (x : X) (xs : List X) → ascends (map key (x ∷ xs)) ≡ true → (j : ℕ) → j < length xs → compared (key x) (key (get_or xs j d)) ≡ Less
  head_below x [] up j lt = absurd (omega arith)
  head_below x (y ∷ rest) up zero lt = is_less _ (first_so _ (ascends (map key (y ∷ rest))) up)
  head_below x (y ∷ rest) up (suc j) lt =
      let next : compared (key x) (key y) ≡ Less = is_less _ (first_so _ (ascends (map key (y ∷ rest))) up) in
      let later = head_below y rest (second_so (is_lt (compared (key x) (key y))) _ up) j (omega arith) in
      nat_list_cmp_total.trans (key x) (key y) (key (get_or rest j d)) next later

  tail_up : (x : X) (xs : List X) → ascends (map key (x ∷ xs)) ≡ true → ascends (map key xs) ≡ true
  tail_up x [] up = refl
  tail_up x (y ∷ rest) up = second_so (is_lt (compared (key x) (key y))) _ up

  -- so does each key
  before : (xs : List X) → ascends (map key xs) ≡ true → (i j : ℕ) → i < j → j < length xs → compared (key (get_or xs i d)) (key (get_or xs j d)) ≡ Less
  before [] up i j lt in_range = absurd (omega arith)
  before (x ∷ xs) up i zero lt in_range = absurd (omega arith)
  before (x ∷ xs) up zero (suc j) lt in_range = head_below x xs up j (omega arith)
  before (x ∷ xs) up (suc i) (suc j) lt in_range = before xs (tail_up x xs up) i j (omega arith) (omega arith)

  module _ (xs : List X) where
    abbrev key_at : ℕ → List ℕ
    key_at k = key (get_or xs k d)

    -- the keys before low come before the text, and those from high on come after it
    pub record IsHalved (text : List ℕ) (low high : ℕ) : Type 0 where
      pub in_range : high ≤ length xs
      pub below : (k : ℕ) → k < low → compared (key (get_or xs k d)) text ≡ Less
      pub above : (k : ℕ) → high ≤ k → k < length xs → compared (key (get_or xs k d)) text ≡ Greater

    pub halved_at_start : (text : List ℕ) (n : ℕ) → length xs ≡ n → IsHalved text 0 n
    halved_at_start text n is = record { in_range = omega arith; below = λ k lt. absurd (omega arith); above = λ k le lt. absurd (omega arith) }

    -- nothing is left between low and high
    pub found_nowhere : (text : List ℕ) (low high : ℕ) → IsHalved text low high → high ≤ low → find (λ x. bytes_eq (key x) text) xs ≡ None
    found_nowhere text low high halved met = find_none (λ x. bytes_eq (key x) text) d xs differs
      where
        differs : (k : ℕ) → k < length xs → bytes_eq (key_at k) text ≡ false
        differs k lt = elim (cases_lt k low) [
          | inl earlier ↦ unequal_if_less (key_at k) text (halved.below k earlier)
          | inr later ↦ unequal_if_greater (key_at k) text (halved.above k (omega arith) lt)
        ]

    module _ (up : ascends (map key xs) ≡ true) (text : List ℕ) (low high m : ℕ) (halved : IsHalved text low high) (lt : m < high) where
      rises : (i j : ℕ) → i < j → j < length xs → compared (key_at i) (key_at j) ≡ Less
      rises = before xs up

      -- the key at place m comes before the text
      pub halved_above : compared (key (get_or xs m d)) text ≡ Less → IsHalved text (m + 1) high
      halved_above less = record { in_range = halved.in_range; below = below; above = halved.above }
        where
          below : (k : ℕ) → k < m + 1 → compared (key_at k) text ≡ Less
          below k le = elim (cases_lt k m) [
            | inl earlier ↦ nat_list_cmp_total.trans (key_at k) (key_at m) text (rises k m earlier (omega (arith, halved.in_range))) less
            | inr later ↦ let same : k ≡ m = omega arith in rw same less
          ]

      -- the key at place m comes after the text
      pub halved_below : compared (key (get_or xs m d)) text ≡ Greater → IsHalved text low m
      halved_below greater = record { in_range = omega (arith, halved.in_range); below = halved.below; above = above }
        where
          flipped : (a b : List ℕ) (o : Ordering) → compared b a ≡ o → compared a b ≡ ordering_reverse o
          flipped a b o h = nat_list_cmp_total.antisymm a b ∙ ap ordering_reverse h

          above : (k : ℕ) → m ≤ k → k < length xs → compared (key_at k) text ≡ Greater
          above k le in_range = elim (cases_lt m k) [
            | inl later ↦ flipped (key_at k) text Less (nat_list_cmp_total.trans text (key_at m) (key_at k) (flipped text (key_at m) Greater greater) (rises m k later in_range))
            | inr here ↦ let same : k ≡ m = omega arith in rw same greater
          ]

      -- the key at place m is the text
      pub found_here : compared (key (get_or xs m d)) text ≡ Equal → find (λ x. bytes_eq (key x) text) xs ≡ Some (get_or xs m d)
      found_here tied = find_first (λ x. bytes_eq (key x) text) d xs m (omega (arith, halved.in_range)) (equal_if_tied (key_at m) text tied) differs
        where
          differs : (k : ℕ) → k < m → bytes_eq (key_at k) text ≡ false
          differs k less = unequal_if_less (key_at k) text (sym (alike_right nat_list_cmp_total (key_at m) text (key_at k) tied) ∙ rises k m less (omega (arith, halved.in_range)))
