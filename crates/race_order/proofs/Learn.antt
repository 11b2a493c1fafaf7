-- What a joined clock shows.
use Rattle.std.proofs.Common.{◌≡◌, ℕ, suc, ◌+◌, ◌-◌, ◌<◌, ◌≤◌, Bool, true, false, List, [], ◌∷◌, length, refl, sym, ap, subst, ◌∙◌, arith, Some, add-one}
use Rattle.std.specs.Prelude.{max, slice_get, drop, ◌⊎◌, ◌&&◌, ◌==◌}
use Rattle.ir_forms.specs.declared.names.MadeName.{MadeName}
use Rattle.ir_forms.specs.declared.names.MadeName.TheVariants.{Argument, Made}
use Rattle.ir_forms.specs.Names.{Path, iteration_of, same_path, same_made, maker}
use Rattle.race_order.specs.Keys.{made_key}
use Rattle.std.proofs.Math.Nat.{eq-or-lt_of_le}
use mathlib.Core.Logic.{inl, inr}
use Rattle.race_order.specs.declared.tasks.Added.{Added}
use Rattle.race_order.specs.declared.tasks.Tasks.{Tasks}
use Rattle.race_order.specs.Clocks.{count, IsTree, Grows}
use Rattle.race_order.specs.Known as known
use Rattle.race_order.specs.Known.{Counts, Sight, greatest, known_by_all, known_by_members}
use Rattle.race_order.specs.Sights.{number_in, counted, Shows, AreAdds, Holds, oldest}
use Rattle.race_order.proofs.Trees.{tree_grows, count_grows, empty_grows, grows_twice}

pub shows_grows : (numbers : Path → ℕ) (d : ℕ) (n0 n1 : List (ℕ × ℕ)) (root : ℕ) (f : Counts) → Grows n0 n1 → Shows numbers d n0 root f → Shows numbers d n1 root f
shows_grows numbers d n0 n1 root f g h = (tree_grows n0 n1 d root g h.0, λ q. h.1 q ∙ sym (count_grows n0 n1 d root (numbers q) g h.0))

pub adds_grow : (numbers : Path → ℕ) (d : ℕ) (n0 n1 : List (ℕ × ℕ)) (adds : List known.Added) (items : List Added) → Grows n0 n1 → AreAdds numbers d n0 adds items → AreAdds numbers d n1 adds items
adds_grow numbers d n0 n1 [] items g h = h
adds_grow numbers d n0 n1 (a ∷ adds) items g h = (h.0, h.1, h.2, h.3, shows_grows numbers d n0 n1 h.0.adder a.adder g h.4, adds_grow numbers d n0 n1 adds items g h.5)

pub holds_grows : (s : Sight) (tasks : Tasks) (n0 n1 : List (ℕ × ℕ)) → Grows n0 n1 → Holds s tasks n0 → Holds s tasks n1
holds_grows s tasks n0 n1 g h = record {
  empty = empty_grows n0 n1 g h.empty;
  taken = h.taken;
  turns = h.turns;
  clocks = λ p. shows_grows (number_in tasks.numbers) tasks.depth n0 n1 (number_in tasks.clocks p) (s.knows p) g (h.clocks p);
  adds_len = h.adds_len;
  adds = adds_grow (number_in tasks.numbers) tasks.depth n0 n1 s.adds tasks.adds g h.adds;
}

-- an iteration more is joined
pub join_iteration : (numbers : Path → ℕ) (d : ℕ) (n0 n1 n2 : List (ℕ × ℕ)) (raised own other made : ℕ) (p : Path) (k n : ℕ) (s : Sight) → Grows n0 n1 → Grows n1 n2 × IsTree n2 d made
    → Shows numbers d n1 own (greatest (counted numbers d n0 raised) (known_by_all p k n s)) → Shows numbers d n1 other (s.knows (iteration_of p k n))
    → ((key : ℕ) → count n2 d made key ≡ max (count n1 d own key) (count n1 d other key))
    → Grows n0 n2 × Shows numbers d n2 made (greatest (counted numbers d n0 raised) (known_by_all p k (n + 1) s))
join_iteration numbers d n0 n1 n2 raised own other made p k n s g h u v w =
    (grows_twice n0 n1 n2 g h.0, (h.1, λ q. rw add-one (step (counted numbers d n0 raised q) (known_by_all p k n s q) (s.knows (iteration_of p k n) q) ∙ (ap (λ x. max x (s.knows (iteration_of p k n) q)) (u.1 q) ∙ (ap (λ x. max (count n1 d own (numbers q)) x) (v.1 q) ∙ sym (w (numbers q)))))))
  where
    step : (a b c : ℕ) → max a (max c b) ≡ max (max a b) c
    step a b c = omega arith

and_true : (a : Bool) → (a && true) ≡ a
and_true true = refl
and_true false = refl

and_turn : (a b : Bool) → (a && b) ≡ (b && a)
and_turn true true = refl
and_turn true false = refl
and_turn false true = refl
and_turn false false = refl

-- keys tell names apart
pub key_tells : (g h : MadeName) → same_path (made_key g) (made_key h) ≡ same_made g h
key_tells (Argument j) (Argument k) = and_true (j == k)
key_tells (Argument j) (Made q k) = refl
key_tells (Made p j) (Argument k) = refl
key_tells (Made p j) (Made q k) = and_turn (j == k) (same_path p q)

-- an add, as it stands in both lists
unfoldable pub Stands : (Path → ℕ) → ℕ → List (ℕ × ℕ) → List known.Added → List Added → ℕ → Type 0
Stands numbers d nodes adds items n =
    (a : known.Added) × (oldest (suc n) adds ≡ a ∷ oldest n adds) × ((x : Added) × (slice_get items n ≡ Some x) × (x.group.items ≡ made_key a.group) × (x.maker.items ≡ maker a.element) × Shows numbers d nodes x.adder a.adder)

older : (n : ℕ) (a : known.Added) (adds : List known.Added) → n ≤ length adds → oldest n (a ∷ adds) ≡ oldest n adds
older n a adds l = let e : suc (length adds) - n ≡ suc (length adds - n) = omega (arith, l) in ap (λ k. drop k (a ∷ adds)) e

pub all_oldest : (adds : List known.Added) → oldest (length adds) adds ≡ adds
all_oldest adds = let e : length adds - length adds ≡ 0 = omega arith in ap (λ k. drop k adds) e

pub none_oldest : (adds : List known.Added) → oldest 0 adds ≡ []
none_oldest [] = refl
none_oldest (a ∷ adds) = older 0 a adds (omega arith) ∙ none_oldest adds

pub stands : (numbers : Path → ℕ) (d : ℕ) (nodes : List (ℕ × ℕ)) (adds : List known.Added) (items : List Added) (n : ℕ) → n < length adds → AreAdds numbers d nodes adds items → Stands numbers d nodes adds items n
unfolding Stands
stands numbers d nodes [] items n l h = absurd (omega (arith, l))
stands numbers d nodes (a ∷ adds) items n l h = split (eq-or-lt_of_le (let m : n ≤ length adds = omega (arith, l) in m)) (λ m. stands numbers d nodes adds items n m h.5) where
  split : (n ≡ length adds) ⊎ (n < length adds) → (n < length adds → Stands numbers d nodes adds items n) → Stands numbers d nodes (a ∷ adds) items n
  split (inl e) r = (a, subst (λ k. oldest (suc k) (a ∷ adds) ≡ a ∷ oldest k (a ∷ adds)) (sym e) (all_oldest (a ∷ adds) ∙ ap (λ t. a ∷ t) (sym (older (length adds) a adds (omega arith) ∙ all_oldest adds))), (h.0, ap (λ k. slice_get items k) e ∙ h.1, h.2, h.3, h.4))
  split (inr m) r = let y = r m in (y.0, older (suc n) a adds (omega (arith, m)) ∙ (y.1 ∙ ap (λ t. y.0 ∷ t) (sym (older n a adds (omega (arith, m))))), y.2)

pub adder_tree : (numbers : Path → ℕ) (d : ℕ) (nodes : List (ℕ × ℕ)) (adds : List known.Added) (items : List Added) (n : ℕ) (x : Added) → n < length adds → AreAdds numbers d nodes adds items → slice_get items n ≡ Some x → IsTree nodes d x.adder
unfolding Stands
adder_tree numbers d nodes adds items n x l h e = let y : Stands numbers d nodes adds items n = stands numbers d nodes adds items n l h in
    let same : y.2.0 ≡ x = (cc (sym y.2.1 ∙ e)) in subst (λ z. IsTree nodes d z.adder) same y.2.4.0
