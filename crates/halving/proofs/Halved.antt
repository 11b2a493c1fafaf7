-- Trees of ranges, by induction on how often they are halved.
use Rattle.std.proofs.Common.{◌≡◌, ℕ, zero, suc, ◌+◌, ◌-◌, ◌<◌, ◌≤◌, Bool, true, false, List, [], ◌∷◌, ◌++◌, refl, sym, ap, ◌∙◌, arith}
use Rattle.std.specs.Prelude.{nat_lt, if◌then◌else◌}
use Rattle.std.proofs.lemmas.Bool.{ltb-true, ltb-false, le-ltb}
use Rattle.halving.specs.Tree.{Tree, Block, Launches, blocks_of, handed_on, handed_within, launches_of, launching, middle, numbers_from, tree, tree_within}

-- the middle lies inside
above : (s e : ℕ) → 1 < e - s → s < middle s e
above s e many = omega (arith, many)

below : (s e : ℕ) → 1 < e - s → middle s e < e
below s e many = omega (arith, many)

-- the halves, or the block
abbrev halved : Bool → Tree → Tree → ℕ → Tree
halved b upper lower s = if b then Launches upper lower else Block s

abbrev pick : ℕ → ℕ → ℕ → Bool → Tree
pick n s e b = halved b (tree_within n (middle s e) e) (tree_within n s (middle s e)) s

both : (u v l m : Tree) → u ≡ v → l ≡ m → Launches u l ≡ Launches v m
both u v l m p q = ap (λ (x : Tree). Launches x l) p ∙ ap (λ (x : Tree). Launches v x) q

-- halving more often than a range has blocks changes nothing
enough : (n m s e : ℕ) → e - s ≤ n → e - s ≤ m → tree_within n s e ≡ tree_within m s e
enough zero zero s e h k = refl
enough zero (suc m) s e h k = sym (ap (pick m s e) (le-ltb 1 (e - s) (omega (arith, h))))
enough (suc n) zero s e h k = ap (pick n s e) (le-ltb 1 (e - s) (omega (arith, k)))
enough (suc n) (suc m) s e h k = go (nat_lt 1 (e - s)) refl (enough n m)
  where
    go : (b : Bool) → nat_lt 1 (e - s) ≡ b → ((a c : ℕ) → c - a ≤ n → c - a ≤ m → tree_within n a c ≡ tree_within m a c) → pick n s e b ≡ pick m s e b
    go false is again = refl
    go true is again =
        let many : 1 < e - s = ltb-true 1 (e - s) is in
        let up : s < middle s e = above s e many in
        let down : middle s e < e = below s e many in
        both (tree_within n (middle s e) e) (tree_within m (middle s e) e) (tree_within n s (middle s e)) (tree_within m s (middle s e))
        (again (middle s e) e (omega (arith, up, h)) (omega (arith, up, k))) (again s (middle s e) (omega (arith, down, h)) (omega (arith, down, k)))

pub tree_is : (s e : ℕ) → tree s e ≡ (if nat_lt 1 (e - s) then Launches (tree (middle s e) e) (tree s (middle s e)) else Block s)
tree_is s e = enough (e - s) (suc (e - s)) s e (omega arith) (omega arith) ∙ go (nat_lt 1 (e - s)) refl
  where
    go : (b : Bool) → nat_lt 1 (e - s) ≡ b → pick (e - s) s e b ≡ halved b (tree (middle s e) e) (tree s (middle s e)) s
    go false is = refl
    go true is =
        let many : 1 < e - s = ltb-true 1 (e - s) is in
        let up : s < middle s e = above s e many in
        let down : middle s e < e = below s e many in
        both (tree_within (e - s) (middle s e) e) (tree (middle s e) e) (tree_within (e - s) s (middle s e)) (tree s (middle s e))
        (enough (e - s) (e - middle s e) (middle s e) e (omega (arith, up)) (omega arith)) (enough (e - s) (middle s e - s) s (middle s e) (omega (arith, down)) (omega arith))

-- ---- what a tree has

joins : (k j s : ℕ) → numbers_from s k ++ numbers_from (s + k) j ≡ numbers_from s (k + j)
joins zero j s =
    let a : s + 0 ≡ s = omega arith in
    let b : j ≡ 0 + j = omega arith in
    ap (λ (n : ℕ). numbers_from n j) a ∙ ap (numbers_from s) b
joins (suc k) j s =
    let a : s + suc k ≡ (s + 1) + k = omega arith in
    let b : suc (k + j) ≡ suc k + j = omega arith in
    ap (λ (n : ℕ). s ∷ (numbers_from (s + 1) k ++ numbers_from n j)) a
    ∙ ap (λ (ns : List ℕ). s ∷ ns) (joins k j (s + 1))
    ∙ ap (numbers_from s) b

covered : (n s e : ℕ) → e - s ≤ n → s < e → blocks_of (tree_within n s e) ≡ numbers_from s (e - s)
covered zero s e h less = absurd (omega (arith, h, less))
covered (suc n) s e h less = go (nat_lt 1 (e - s)) refl (covered n)
  where
    go : (b : Bool) → nat_lt 1 (e - s) ≡ b → ((a c : ℕ) → c - a ≤ n → a < c → blocks_of (tree_within n a c) ≡ numbers_from a (c - a)) → blocks_of (pick n s e b) ≡ numbers_from s (e - s)
    go false is again =
        let few : e - s ≤ 1 = ltb-false 1 (e - s) is in
        let one : 1 ≡ e - s = omega (arith, few, less) in
        ap (numbers_from s) one
    go true is again =
        let many : 1 < e - s = ltb-true 1 (e - s) is in
        let up : s < middle s e = above s e many in
        let down : middle s e < e = below s e many in
        let mid : middle s e ≡ s + (middle s e - s) = omega (arith, up) in
        let all : (middle s e - s) + (e - middle s e) ≡ e - s = omega (arith, up, down) in
        ap (λ (bs : List ℕ). bs ++ blocks_of (tree_within n (middle s e) e)) (again s (middle s e) (omega (arith, down, h)) up)
        ∙ ap (λ (bs : List ℕ). numbers_from s (middle s e - s) ++ bs) (again (middle s e) e (omega (arith, up, h)) down)
        ∙ ap (λ (m : ℕ). numbers_from s (middle s e - s) ++ numbers_from m (e - middle s e)) mid
        ∙ joins (middle s e - s) (e - middle s e) s
        ∙ ap (numbers_from s) all

pub tree_covered : (s e : ℕ) → s < e → blocks_of (tree s e) ≡ numbers_from s (e - s)
tree_covered s e less = covered (e - s) s e (omega arith) less

launched : (n s e : ℕ) → e - s ≤ n → s < e → launches_of (tree_within n s e) + 1 ≡ e - s
launched zero s e h less = absurd (omega (arith, h, less))
launched (suc n) s e h less = go (nat_lt 1 (e - s)) refl (launched n)
  where
    go : (b : Bool) → nat_lt 1 (e - s) ≡ b → ((a c : ℕ) → c - a ≤ n → a < c → launches_of (tree_within n a c) + 1 ≡ c - a) → launches_of (pick n s e b) + 1 ≡ e - s
    go false is again = let few : e - s ≤ 1 = ltb-false 1 (e - s) is in omega (arith, few, less)
    go true is again =
        let many : 1 < e - s = ltb-true 1 (e - s) is in
        let up : s < middle s e = above s e many in
        let down : middle s e < e = below s e many in
        let high : launches_of (tree_within n (middle s e) e) + 1 ≡ e - middle s e = again (middle s e) e (omega (arith, up, h)) down in
        let low : launches_of (tree_within n s (middle s e)) + 1 ≡ middle s e - s = again s (middle s e) (omega (arith, down, h)) up in
        omega (arith, up, down, high, low)

pub tree_launched : (s e : ℕ) → s < e → launches_of (tree s e) + 1 ≡ e - s
tree_launched s e less = launched (e - s) s e (omega arith) less

-- ---- the loop

pub loop_is : (s e : ℕ) → launching (handed_on s e) s ≡ tree s e
loop_is s e = loops (e - s) s e (omega arith)
  where
    -- by whether the range has more than one block
    tree_by : (s e : ℕ) (b : Bool) → nat_lt 1 (e - s) ≡ b → halved b (tree (middle s e) e) (tree s (middle s e)) s ≡ tree s e
    tree_by s e b is = sym (tree_is s e ∙ ap (λ (c : Bool). halved c (tree (middle s e) e) (tree s (middle s e)) s) is)

    loops : (n s e : ℕ) → e - s ≤ n → launching (handed_within n s e) s ≡ tree s e
    loops zero s e h = tree_by s e false (le-ltb 1 (e - s) (omega (arith, h)))
    loops (suc n) s e h = go (nat_lt 1 (e - s)) refl (loops n)
      where
        turns : Bool → List (ℕ × ℕ)
        turns b = if b then (middle s e, e) ∷ handed_within n s (middle s e) else []

        go : (b : Bool) → nat_lt 1 (e - s) ≡ b → ((a c : ℕ) → c - a ≤ n → launching (handed_within n a c) a ≡ tree a c) → launching (turns b) s ≡ tree s e
        go false is again = tree_by s e false is
        go true is again =
            let many : 1 < e - s = ltb-true 1 (e - s) is in
            let down : middle s e < e = below s e many in
            ap (λ (t : Tree). Launches (tree (middle s e) e) t) (again s (middle s e) (omega (arith, down, h))) ∙ tree_by s e true is
