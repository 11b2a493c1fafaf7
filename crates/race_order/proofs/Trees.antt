-- What a clock's tree tells, and that it stays where nodes are added.
use Rattle.std.proofs.Common.{◌≡◌, ℕ, zero, suc, ◌+◌, ◌-◌, ◌<◌, ◌≤◌, ◌^◌, ◌==◌, Bool, true, false, cond, List, [], ◌∷◌, ◌++◌, length, get_or, refl, sym, ap, subst, ◌∙◌, arith, append_assoc, append-nil, length-append}
use Rattle.std.specs.Prelude.{nat_lt, max}
use Rattle.std.proofs.Common.{Result, Ok, Err, IfOk}
use Rattle.std.proofs.lemmas.Bool.{ltb-true, ltb-false}
use Rattle.std.proofs.lemmas.Grind.{common_steps}
use Rattle.std.proofs.lemmas.Bool.Decides.{nat_tests}
use Rattle.race_order.specs.Clocks.{count, IsTree, HasEmpty, Grows, IsPlaced}

pub eqb-no : (a b : ℕ) → (a ≡ b → ⊥) → (a == b) ≡ false
eqb-no a b h = grind (arith, nat_tests)

less_one : (d : ℕ) → suc d - 1 ≡ d
less_one d = omega arith

pub count_node : (nodes : List (ℕ × ℕ)) (d root key : ℕ) → 0 < d → count nodes d root key ≡ cond (nat_lt key (2 ^ (d - 1))) (count nodes (d - 1) (get_or nodes root (0, 0)).0 key) (count nodes (d - 1) (get_or nodes root (0, 0)).1 (key - 2 ^ (d - 1)))
count_node nodes zero root key l = absurd (omega (arith, l))
count_node nodes (suc d) root key l = subst (λ e. count nodes (suc d) root key ≡ cond (nat_lt key (2 ^ e)) (count nodes e (get_or nodes root (0, 0)).0 key) (count nodes e (get_or nodes root (0, 0)).1 (key - 2 ^ e))) (sym (less_one d)) refl

pub tree_node : (nodes : List (ℕ × ℕ)) (d root : ℕ) → 0 < d → IsTree nodes d root → (root < length nodes) × IsTree nodes (d - 1) (get_or nodes root (0, 0)).0 × IsTree nodes (d - 1) (get_or nodes root (0, 0)).1
tree_node nodes zero root l h = absurd (omega (arith, l))
tree_node nodes (suc d) root l h = subst (λ e. (root < length nodes) × IsTree nodes e (get_or nodes root (0, 0)).0 × IsTree nodes e (get_or nodes root (0, 0)).1) (sym (less_one d)) h

pub node_tree : (nodes : List (ℕ × ℕ)) (d root : ℕ) → 0 < d → root < length nodes → IsTree nodes (d - 1) (get_or nodes root (0, 0)).0 → IsTree nodes (d - 1) (get_or nodes root (0, 0)).1 → IsTree nodes d root
node_tree nodes zero root l m h k = absurd (omega (arith, l))
node_tree nodes (suc d) root l m h k = (m, subst (λ e. IsTree nodes e (get_or nodes root (0, 0)).0) (less_one d) h, subst (λ e. IsTree nodes e (get_or nodes root (0, 0)).1) (less_one d) k)

-- a place of a list is there in a longer one
same_node : (nodes more : List (ℕ × ℕ)) (root : ℕ) → root < length nodes → get_or (nodes ++ more) root (0, 0) ≡ get_or nodes root (0, 0)
same_node [] more root l = absurd (omega (arith, l))
same_node (x ∷ nodes) more zero l = refl
same_node (x ∷ nodes) more (suc root) l = same_node nodes more root (omega (arith, l))

last_node : (nodes : List (ℕ × ℕ)) (x : ℕ × ℕ) → get_or (nodes ++ x ∷ []) (length nodes) (0, 0) ≡ x
last_node [] x = refl
last_node (y ∷ nodes) x = last_node nodes x

pub grown_tree : (nodes more : List (ℕ × ℕ)) (d root : ℕ) → IsTree nodes d root → IsTree (nodes ++ more) d root
grown_tree nodes more zero root h = h
grown_tree nodes more (suc d) root h = (
  omega (arith, h.0, length-append nodes more),
  subst (λ n. IsTree (nodes ++ more) d n.0) (sym (same_node nodes more root h.0)) (grown_tree nodes more d (get_or nodes root (0, 0)).0 h.1),
  subst (λ n. IsTree (nodes ++ more) d n.1) (sym (same_node nodes more root h.0)) (grown_tree nodes more d (get_or nodes root (0, 0)).1 h.2),
)

pub grown_count : (nodes more : List (ℕ × ℕ)) (d root key : ℕ) → IsTree nodes d root → count (nodes ++ more) d root key ≡ count nodes d root key
grown_count nodes more zero root key h = refl
grown_count nodes more (suc d) root key h =
    ap (λ n. cond (nat_lt key (2 ^ d)) (count (nodes ++ more) d n.0 key) (count (nodes ++ more) d n.1 (key - 2 ^ d))) (same_node nodes more root h.0)
    ∙ (ap (λ c. cond (nat_lt key (2 ^ d)) c (count (nodes ++ more) d (get_or nodes root (0, 0)).1 (key - 2 ^ d))) (grown_count nodes more d (get_or nodes root (0, 0)).0 key h.1)
    ∙ ap (λ c. cond (nat_lt key (2 ^ d)) (count nodes d (get_or nodes root (0, 0)).0 key) c) (grown_count nodes more d (get_or nodes root (0, 0)).1 (key - 2 ^ d) h.2))

pub tree_grows : (before after : List (ℕ × ℕ)) (d root : ℕ) → Grows before after → IsTree before d root → IsTree after d root
tree_grows before after d root g h = subst (λ n. IsTree n d root) (sym g.1) (grown_tree before g.0 d root h)

pub count_grows : (before after : List (ℕ × ℕ)) (d root key : ℕ) → Grows before after → IsTree before d root → count after d root key ≡ count before d root key
count_grows before after d root key g h = ap (λ n. count n d root key) g.1 ∙ grown_count before g.0 d root key h

pub grows_twice : (a b c : List (ℕ × ℕ)) → Grows a b → Grows b c → Grows a c
grows_twice a b c g h = (g.0 ++ h.0, h.1 ∙ (ap (λ n. n ++ h.0) g.1 ∙ append_assoc a g.0 h.0))

pub grows_not : (a : List (ℕ × ℕ)) → Grows a a
grows_not a = ([], sym (append-nil a))

pub empty_grows : (a b : List (ℕ × ℕ)) → Grows a b → HasEmpty a → HasEmpty b
empty_grows a b g h = (omega (arith, h.0, ap length g.1, length-append a g.0), ap (λ n. get_or n 0 (0, 0)) g.1 ∙ (same_node a g.0 0 h.0 ∙ h.1))

pub empty_tree : (nodes : List (ℕ × ℕ)) (d : ℕ) → HasEmpty nodes → IsTree nodes d 0
empty_tree nodes zero h = tt
empty_tree nodes (suc d) h = (h.0, subst (λ n. IsTree nodes d n.0) (sym h.1) (empty_tree nodes d h), subst (λ n. IsTree nodes d n.1) (sym h.1) (empty_tree nodes d h))

pub empty_counts : (nodes : List (ℕ × ℕ)) (d key : ℕ) → HasEmpty nodes → count nodes d 0 key ≡ 0
empty_counts nodes zero key h = refl
empty_counts nodes (suc d) key h =
    ap (λ n. cond (nat_lt key (2 ^ d)) (count nodes d n.0 key) (count nodes d n.1 (key - 2 ^ d))) h.1
    ∙ (ap (λ c. cond (nat_lt key (2 ^ d)) c (count nodes d 0 (key - 2 ^ d))) (empty_counts nodes d key h)
    ∙ (ap (λ c. cond (nat_lt key (2 ^ d)) 0 c) (empty_counts nodes d (key - 2 ^ d) h) ∙ alike (nat_lt key (2 ^ d)))) where
      alike : (t : Bool) → cond {A = ℕ} t 0 0 ≡ 0
      alike true = refl
      alike false = refl

pub placed_last : (before : List (ℕ × ℕ)) (parts : ℕ × ℕ) → IsPlaced before (before ++ parts ∷ []) parts (length before)
placed_last before parts = ((parts ∷ [], refl), omega (arith, length-append before (parts ∷ [])), last_node before parts)

pub placed_same : (before : List (ℕ × ℕ)) (parts : ℕ × ℕ) (made : ℕ) → made < length before → get_or before made (0, 0) ≡ parts → IsPlaced before before parts made
placed_same before parts made l e = (grows_not before, l, e)

pub ok_map : {T E : Type 0} (r : Result T E) (P Q : T → Type 0) → ((x : T) → P x → Q x) → IfOk r P → IfOk r Q
ok_map (Ok x) P Q f h = f x h
ok_map (Err e) P Q f h = h

pub placed_tree : (before after : List (ℕ × ℕ)) (d left right made : ℕ) → 0 < d → IsPlaced before after (left, right) made → IsTree before (d - 1) left → IsTree before (d - 1) right → IsTree after d made
placed_tree before after d left right made l p h k =
    node_tree after d made l p.1 (subst (λ n. IsTree after (d - 1) n.0) (sym p.2) (tree_grows before after (d - 1) left p.0 h)) (subst (λ n. IsTree after (d - 1) n.1) (sym p.2) (tree_grows before after (d - 1) right p.0 k))

pub placed_count : (before after : List (ℕ × ℕ)) (d left right made key : ℕ) → 0 < d → IsPlaced before after (left, right) made → IsTree before (d - 1) left → IsTree before (d - 1) right → count after d made key ≡ cond (nat_lt key (2 ^ (d - 1))) (count before (d - 1) left key) (count before (d - 1) right (key - 2 ^ (d - 1)))
placed_count before after d left right made key l p h k =
    count_node after d made key l
    ∙ (ap (λ n. cond (nat_lt key (2 ^ (d - 1))) (count after (d - 1) n.0 key) (count after (d - 1) n.1 (key - 2 ^ (d - 1)))) p.2
    ∙ (ap (λ c. cond (nat_lt key (2 ^ (d - 1))) c (count after (d - 1) right (key - 2 ^ (d - 1)))) (count_grows before after (d - 1) left key p.0 h)
    ∙ ap (λ c. cond (nat_lt key (2 ^ (d - 1))) (count before (d - 1) left key) c) (count_grows before after (d - 1) right (key - 2 ^ (d - 1)) p.0 k)))

pub double : (d : ℕ) → 0 < d → 2 ^ d ≡ 2 ^ (d - 1) + 2 ^ (d - 1)
double zero l = absurd (omega (arith, l))
double (suc d) l = subst (λ e. 2 ^ suc d ≡ 2 ^ e + 2 ^ e) (sym (less_one d)) (grind (arith, common_steps))

-- a count is set in the left part
pub set_left : (before between after : List (ℕ × ℕ)) (d root made_left made key number other : ℕ) → 0 < d → IsTree before d root → key < 2 ^ (d - 1) → Grows before between → IsTree between (d - 1) made_left
    → ((k : ℕ) → k < 2 ^ (d - 1) → count between (d - 1) made_left k ≡ cond (key == k) number (count before (d - 1) (get_or before root (0, 0)).0 k))
    → IsPlaced between after (made_left, (get_or before root (0, 0)).1) made → count after d made other ≡ cond (key == other) number (count before d root other)
set_left before between after d root made_left made key number other l tree in_left g t v p =
    placed_count between after d made_left (get_or before root (0, 0)).1 made other l p t (tree_grows before between (d - 1) (get_or before root (0, 0)).1 g parts.2)
    ∙ (ap (λ c. cond (nat_lt other (2 ^ (d - 1))) (count between (d - 1) made_left other) c) (count_grows before between (d - 1) (get_or before root (0, 0)).1 (other - 2 ^ (d - 1)) g parts.2)
    ∙ (split (nat_lt other (2 ^ (d - 1))) refl ∙ ap (λ c. cond (key == other) number c) (sym (count_node before d root other l)))) where
      parts : (root < length before) × IsTree before (d - 1) (get_or before root (0, 0)).0 × IsTree before (d - 1) (get_or before root (0, 0)).1
      parts = tree_node before d root l tree

      split : (b : Bool) → nat_lt other (2 ^ (d - 1)) ≡ b → cond b (count between (d - 1) made_left other) (count before (d - 1) (get_or before root (0, 0)).1 (other - 2 ^ (d - 1))) ≡ cond (key == other) number (cond b (count before (d - 1) (get_or before root (0, 0)).0 other) (count before (d - 1) (get_or before root (0, 0)).1 (other - 2 ^ (d - 1))))
      split true e = v other (ltb-true other (2 ^ (d - 1)) e)
      split false e = sym (ap (λ t. cond t number (count before (d - 1) (get_or before root (0, 0)).1 (other - 2 ^ (d - 1)))) (eqb-no key other (omega (arith, in_left, ltb-false other (2 ^ (d - 1)) e))))

-- a count is set in the right part
pub set_right : (before between after : List (ℕ × ℕ)) (d root made_right made key number other : ℕ) → 0 < d → IsTree before d root → 2 ^ (d - 1) ≤ key → other < 2 ^ d → Grows before between → IsTree between (d - 1) made_right
    → ((k : ℕ) → k < 2 ^ (d - 1) → count between (d - 1) made_right k ≡ cond (key - 2 ^ (d - 1) == k) number (count before (d - 1) (get_or before root (0, 0)).1 k))
    → IsPlaced between after ((get_or before root (0, 0)).0, made_right) made → count after d made other ≡ cond (key == other) number (count before d root other)
set_right before between after d root made_right made key number other l tree in_right in_all g t v p =
    placed_count between after d (get_or before root (0, 0)).0 made_right made other l p (tree_grows before between (d - 1) (get_or before root (0, 0)).0 g parts.1) t
    ∙ (ap (λ c. cond (nat_lt other (2 ^ (d - 1))) c (count between (d - 1) made_right (other - 2 ^ (d - 1)))) (count_grows before between (d - 1) (get_or before root (0, 0)).0 other g parts.1)
    ∙ (split (nat_lt other (2 ^ (d - 1))) refl ∙ ap (λ c. cond (key == other) number c) (sym (count_node before d root other l)))) where
      parts : (root < length before) × IsTree before (d - 1) (get_or before root (0, 0)).0 × IsTree before (d - 1) (get_or before root (0, 0)).1
      parts = tree_node before d root l tree

      shifted : 2 ^ (d - 1) ≤ other → (key - 2 ^ (d - 1) == other - 2 ^ (d - 1)) ≡ (key == other)
      shifted m = grind (arith, nat_tests)

      split : (b : Bool) → nat_lt other (2 ^ (d - 1)) ≡ b → cond b (count before (d - 1) (get_or before root (0, 0)).0 other) (count between (d - 1) made_right (other - 2 ^ (d - 1))) ≡ cond (key == other) number (cond b (count before (d - 1) (get_or before root (0, 0)).0 other) (count before (d - 1) (get_or before root (0, 0)).1 (other - 2 ^ (d - 1))))
      split true e = sym (ap (λ t. cond t number (count before (d - 1) (get_or before root (0, 0)).0 other)) (eqb-no key other (omega (arith, in_right, ltb-true other (2 ^ (d - 1)) e))))
      split false e = v (other - 2 ^ (d - 1)) (omega (arith, in_all, double d l, ltb-false other (2 ^ (d - 1)) e)) ∙ ap (λ t. cond t number (count before (d - 1) (get_or before root (0, 0)).1 (other - 2 ^ (d - 1)))) (shifted (ltb-false other (2 ^ (d - 1)) e))

-- two trees are joined
pub joins : (n0 n1 n2 n3 : List (ℕ × ℕ)) (d first second left right made key : ℕ) → 0 < d → IsTree n0 d first → IsTree n0 d second → Grows n0 n1 → Grows n1 n2 → IsTree n1 (d - 1) left → IsTree n2 (d - 1) right
    → ((k : ℕ) → count n1 (d - 1) left k ≡ max (count n0 (d - 1) (get_or n0 first (0, 0)).0 k) (count n0 (d - 1) (get_or n0 second (0, 0)).0 k))
    → ((k : ℕ) → count n2 (d - 1) right k ≡ max (count n1 (d - 1) (get_or n0 first (0, 0)).1 k) (count n1 (d - 1) (get_or n0 second (0, 0)).1 k))
    → IsPlaced n2 n3 (left, right) made → count n3 d made key ≡ max (count n0 d first key) (count n0 d second key)
joins n0 n1 n2 n3 d first second left right made key l tree other g h t u v w p =
    placed_count n2 n3 d left right made key l p (tree_grows n1 n2 (d - 1) left h t) u
    ∙ (ap (λ c. cond (nat_lt key (2 ^ (d - 1))) c (count n2 (d - 1) right (key - 2 ^ (d - 1)))) (count_grows n1 n2 (d - 1) left key h t ∙ v key)
    ∙ (ap (λ c. cond (nat_lt key (2 ^ (d - 1))) (max (count n0 (d - 1) (get_or n0 first (0, 0)).0 key) (count n0 (d - 1) (get_or n0 second (0, 0)).0 key)) c) (w (key - 2 ^ (d - 1)) ∙ (ap (λ c. max c (count n1 (d - 1) (get_or n0 second (0, 0)).1 (key - 2 ^ (d - 1)))) (count_grows n0 n1 (d - 1) (get_or n0 first (0, 0)).1 (key - 2 ^ (d - 1)) g parts.2) ∙ ap (λ c. max (count n0 (d - 1) (get_or n0 first (0, 0)).1 (key - 2 ^ (d - 1))) c) (count_grows n0 n1 (d - 1) (get_or n0 second (0, 0)).1 (key - 2 ^ (d - 1)) g others.2)))
    ∙ (split (nat_lt key (2 ^ (d - 1))) ∙ (ap (λ c. max c (cond (nat_lt key (2 ^ (d - 1))) (count n0 (d - 1) (get_or n0 second (0, 0)).0 key) (count n0 (d - 1) (get_or n0 second (0, 0)).1 (key - 2 ^ (d - 1))))) (sym (count_node n0 d first key l)) ∙ ap (λ c. max (count n0 d first key) c) (sym (count_node n0 d second key l)))))) where
      parts : (first < length n0) × IsTree n0 (d - 1) (get_or n0 first (0, 0)).0 × IsTree n0 (d - 1) (get_or n0 first (0, 0)).1
      parts = tree_node n0 d first l tree

      others : (second < length n0) × IsTree n0 (d - 1) (get_or n0 second (0, 0)).0 × IsTree n0 (d - 1) (get_or n0 second (0, 0)).1
      others = tree_node n0 d second l other

      split : (b : Bool) → cond b (max (count n0 (d - 1) (get_or n0 first (0, 0)).0 key) (count n0 (d - 1) (get_or n0 second (0, 0)).0 key)) (max (count n0 (d - 1) (get_or n0 first (0, 0)).1 (key - 2 ^ (d - 1))) (count n0 (d - 1) (get_or n0 second (0, 0)).1 (key - 2 ^ (d - 1))))
          ≡ max (cond b (count n0 (d - 1) (get_or n0 first (0, 0)).0 key) (count n0 (d - 1) (get_or n0 first (0, 0)).1 (key - 2 ^ (d - 1)))) (cond b (count n0 (d - 1) (get_or n0 second (0, 0)).0 key) (count n0 (d - 1) (get_or n0 second (0, 0)).1 (key - 2 ^ (d - 1))))
      split true = refl
      split false = refl

-- a tree is below another, part by part
pub below_parts : (nodes : List (ℕ × ℕ)) (d first second : ℕ) → 0 < d → ((k : ℕ) → count nodes (d - 1) (get_or nodes first (0, 0)).0 k ≤ count nodes (d - 1) (get_or nodes second (0, 0)).0 k) → ((k : ℕ) → count nodes (d - 1) (get_or nodes first (0, 0)).1 k ≤ count nodes (d - 1) (get_or nodes second (0, 0)).1 k) → (key : ℕ) → count nodes d first key ≤ count nodes d second key
below_parts nodes d first second l f g key = subst (λ n. n ≤ count nodes d second key) (sym (count_node nodes d first key l)) (subst (λ n. cond (nat_lt key (2 ^ (d - 1))) (count nodes (d - 1) (get_or nodes first (0, 0)).0 key) (count nodes (d - 1) (get_or nodes first (0, 0)).1 (key - 2 ^ (d - 1))) ≤ n) (sym (count_node nodes d second key l)) (split (nat_lt key (2 ^ (d - 1))))) where
  split : (b : Bool) → cond b (count nodes (d - 1) (get_or nodes first (0, 0)).0 key) (count nodes (d - 1) (get_or nodes first (0, 0)).1 (key - 2 ^ (d - 1))) ≤ cond b (count nodes (d - 1) (get_or nodes second (0, 0)).0 key) (count nodes (d - 1) (get_or nodes second (0, 0)).1 (key - 2 ^ (d - 1)))
  split true = f key
  split false = g (key - 2 ^ (d - 1))

-- a part of a tree that is there is there
root_within : (nodes : List (ℕ × ℕ)) (d root : ℕ) → 0 < d → IsTree nodes d root → root < length nodes
root_within nodes d root l h = (tree_node nodes d root l h).0

pub root_stays : (n0 n1 : List (ℕ × ℕ)) (d root : ℕ) → 0 < d → Grows n0 n1 → IsTree n0 d root → root < length n1
root_stays n0 n1 d root l g h = root_within n1 d root l (tree_grows n0 n1 d root g h)

pub left_tree : (nodes : List (ℕ × ℕ)) (d root : ℕ) (a : ℕ × ℕ) → 0 < d → a ≡ get_or nodes root (0, 0) → IsTree nodes d root → IsTree nodes (d - 1) a.0
left_tree nodes d root a l e h = subst (λ n. IsTree nodes (d - 1) n.0) (sym e) (tree_node nodes d root l h).1

pub right_tree : (nodes : List (ℕ × ℕ)) (d root : ℕ) (a : ℕ × ℕ) → 0 < d → a ≡ get_or nodes root (0, 0) → IsTree nodes d root → IsTree nodes (d - 1) a.1
right_tree nodes d root a l e h = subst (λ n. IsTree nodes (d - 1) n.1) (sym e) (tree_node nodes d root l h).2

pub first_is : (nodes : List (ℕ × ℕ)) (d first second key : ℕ) → second ≡ 0 → HasEmpty nodes → count nodes d first key ≡ max (count nodes d first key) (count nodes d second key)
first_is nodes d first second key e h = subst (λ n. count nodes d first key ≡ max (count nodes d first key) n) (sym (ap (λ x. count nodes d x key) e ∙ empty_counts nodes d key h)) (omega arith)

pub empty_below : (nodes : List (ℕ × ℕ)) (d first second key : ℕ) → first ≡ 0 → HasEmpty nodes → count nodes d first key ≤ count nodes d second key
empty_below nodes d first second key e h = omega (arith, ap (λ x. count nodes d x key) e ∙ empty_counts nodes d key h)

pub made_tree : {E : Type 0} (n0 n1 n2 : List (ℕ × ℕ)) (d left right : ℕ) (r : Result ℕ E) → 0 < d → Grows n0 n1 → IsTree n1 (d - 1) left → IsTree n1 (d - 1) right → IfOk r (λ made. IsPlaced n1 n2 (left, right) made) → IfOk r (λ made. Grows n0 n2 × IsTree n2 d made)
made_tree n0 n1 n2 d left right r l g h k p = ok_map r (λ made. IsPlaced n1 n2 (left, right) made) (λ made. Grows n0 n2 × IsTree n2 d made) (λ made q. (grows_twice n0 n1 n2 g q.0, placed_tree n1 n2 d left right made l q h k)) p

pub joined : {E : Type 0} (n0 n1 n2 n3 : List (ℕ × ℕ)) (d first second left right : ℕ) (a b : ℕ × ℕ) (r : Result ℕ E) → 0 < d → a ≡ get_or n0 first (0, 0) → b ≡ get_or n0 second (0, 0) → IsTree n0 d first → IsTree n0 d second → Grows n0 n1 → Grows n1 n2 → IsTree n1 (d - 1) left → IsTree n2 (d - 1) right
    → ((k : ℕ) → count n1 (d - 1) left k ≡ max (count n0 (d - 1) a.0 k) (count n0 (d - 1) b.0 k))
    → ((k : ℕ) → count n2 (d - 1) right k ≡ max (count n1 (d - 1) a.1 k) (count n1 (d - 1) b.1 k))
    → IfOk r (λ made. IsPlaced n2 n3 (left, right) made) → IfOk r (λ made. (key : ℕ) → count n3 d made key ≡ max (count n0 d first key) (count n0 d second key))
joined n0 n1 n2 n3 d first second left right a b r l ea eb tree other g h t u v w p =
    ok_map r (λ made. IsPlaced n2 n3 (left, right) made) (λ made. (key : ℕ) → count n3 d made key ≡ max (count n0 d first key) (count n0 d second key))
    (λ made q key. joins n0 n1 n2 n3 d first second left right made key l tree other g h t u
    (λ k. v k ∙ (ap (λ n. max (count n0 (d - 1) n.0 k) (count n0 (d - 1) b.0 k)) ea ∙ ap (λ n. max (count n0 (d - 1) (get_or n0 first (0, 0)).0 k) (count n0 (d - 1) n.0 k)) eb))
    (λ k. w k ∙ (ap (λ n. max (count n1 (d - 1) n.1 k) (count n1 (d - 1) b.1 k)) ea ∙ ap (λ n. max (count n1 (d - 1) (get_or n0 first (0, 0)).1 k) (count n1 (d - 1) n.1 k)) eb)) q) p

pub sets_left : {E : Type 0} (n0 n1 n2 : List (ℕ × ℕ)) (d root left key number : ℕ) (a : ℕ × ℕ) (r : Result ℕ E) → 0 < d → a ≡ get_or n0 root (0, 0) → IsTree n0 d root → key < 2 ^ (d - 1) → Grows n0 n1 → IsTree n1 (d - 1) left
    → ((k : ℕ) → k < 2 ^ (d - 1) → count n1 (d - 1) left k ≡ cond (key == k) number (count n0 (d - 1) a.0 k))
    → IfOk r (λ made. IsPlaced n1 n2 (left, a.1) made) → IfOk r (λ made. (other : ℕ) → other < 2 ^ d → count n2 d made other ≡ cond (key == other) number (count n0 d root other))
sets_left n0 n1 n2 d root left key number a r l e tree in_left g t v p =
    ok_map r (λ made. IsPlaced n1 n2 (left, a.1) made) (λ made. (other : ℕ) → other < 2 ^ d → count n2 d made other ≡ cond (key == other) number (count n0 d root other))
    (λ made q other m. set_left n0 n1 n2 d root left made key number other l tree in_left g t (λ k m'. v k m' ∙ ap (λ n. cond (key == k) number (count n0 (d - 1) n.0 k)) e) (subst (λ n. IsPlaced n1 n2 (left, n.1) made) e q)) p

pub sets_right : {E : Type 0} (n0 n1 n2 : List (ℕ × ℕ)) (d root right key number : ℕ) (a : ℕ × ℕ) (r : Result ℕ E) → 0 < d → a ≡ get_or n0 root (0, 0) → IsTree n0 d root → 2 ^ (d - 1) ≤ key → Grows n0 n1 → IsTree n1 (d - 1) right
    → ((k : ℕ) → k < 2 ^ (d - 1) → count n1 (d - 1) right k ≡ cond (key - 2 ^ (d - 1) == k) number (count n0 (d - 1) a.1 k))
    → IfOk r (λ made. IsPlaced n1 n2 (a.0, right) made) → IfOk r (λ made. (other : ℕ) → other < 2 ^ d → count n2 d made other ≡ cond (key == other) number (count n0 d root other))
sets_right n0 n1 n2 d root right key number a r l e tree in_right g t v p =
    ok_map r (λ made. IsPlaced n1 n2 (a.0, right) made) (λ made. (other : ℕ) → other < 2 ^ d → count n2 d made other ≡ cond (key == other) number (count n0 d root other))
    (λ made q other m. set_right n0 n1 n2 d root right made key number other l tree in_right m g t (λ k m'. v k m' ∙ ap (λ n. cond (key - 2 ^ (d - 1) == k) number (count n0 (d - 1) n.1 k)) e) (subst (λ n. IsPlaced n1 n2 (n.0, right) made) e q)) p
