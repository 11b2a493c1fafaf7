-- Loops over elements, iterations and arguments.
use Rattle.std.proofs.Common.{◌≡◌, ◌<◌, ◌≤◌, ℕ, zero, suc, ◌+◌, Bool, true, false, cond, List, [], ◌∷◌, ◌++◌, length, drop, take, Option, Some, None, slice_get, get_or, refl, sym, ap, subst, ◌∙◌, add-one, zero-add, arith}
use Rattle.std.specs.List.{find}
use Rattle.std.proofs.lemmas.Bool.{true≢false}
use Rattle.ir_forms.specs.declared.args.ArgValue.{ArgValue}
use Rattle.ir_forms.specs.declared.args.ArgValue.TheVariants as arg
use Rattle.ir_forms.specs.declared.names.MadeName.{MadeName}
use Rattle.ir_forms.specs.declared.names.MadeName.TheVariants as made
use Rattle.ir_forms.specs.Names.{Path, same_made, iteration_of}
use Rattle.source_meaning.specs.Values.{maybe}
use Rattle.source_meaning.specs.World.{Store, all_below}
use Rattle.source_meaning.specs.Start.{stored, stores_of, cells_in_all}
use Rattle.ir_forms.specs.Shapes.{most_cells}
use Rattle.std.specs.BTreeMap.{BTreeMap, UpdatesBy}
use Rattle.source_state.specs.declared.names.Name.{Name}
use Rattle.source_state.specs.declared.names.Name.TheVariants as name
use Rattle.source_state.specs.Seen.{found, found_before, cells_of}
use Rattle.source_state.proofs.NameLaws.{name_cmp}
use Rattle.source_state.proofs.Looks.{maybe_cond, cells_put}

-- ---- iterations

pub below_false : (test : ℕ → Bool) (n i : ℕ) → i < n → test i ≡ false → all_below test n ≡ false
below_false test zero i h e = absurd (omega arith)
below_false test (suc n) i h e = split (test n) refl (below_false test n i) where
  split : (b : Bool) → test n ≡ b → (i < n → test i ≡ false → all_below test n ≡ false) → cond b (all_below test n) false ≡ false
  split false f more = refl
  split true f more = more (less (λ s. true≢false (sym f ∙ (ap test (sym s) ∙ e)))) e where
    less : (i ≡ n → ⊥) → i < n
    less d = grind (arith, d, h)

pub below_more : (test : ℕ → Bool) (i : ℕ) → all_below test i ≡ true → test i ≡ true → all_below test (i + 1) ≡ true
below_more test i h e = rw add-one (ap (λ b. cond b (all_below test i) false) e ∙ h)

pub iteration_path : (p : Path) (k i : ℕ) → (p ++ k ∷ []) ++ i ∷ [] ≡ iteration_of p k i
iteration_path [] k i = refl
iteration_path (x ∷ p) k i = ap (λ q. x ∷ q) (iteration_path p k i)

-- an iteration that isn't good
pub stopped : (good : Path → Bool) (p : Path) (k i n : ℕ) (path : Path) (b : Bool) → path ≡ p ++ k ∷ [] → b ≡ good (path ++ i ∷ []) → b ≡ false → i < n → false ≡ all_below (λ i. good (iteration_of p k i)) n
stopped good p k i n path b is g f h =
    sym (below_false (λ i. good (iteration_of p k i)) n i h (ap good (sym (iteration_path p k i)) ∙ (ap (λ q. good (q ++ i ∷ [])) (sym is) ∙ (sym g ∙ f))))

pub cut_back : {X : Type 0} (xs : List X) (x : X) (ys : List X) → ys ≡ xs ++ x ∷ [] → take (length xs) ys ≡ xs
cut_back {X} xs x ys e = rw e (go xs) where
  go : (xs : List X) → take (length xs) (xs ++ x ∷ []) ≡ xs
  go [] = refl
  go (y ∷ xs) = ap (λ zs. y ∷ zs) (go xs)

-- ---- arguments

-- the buffer of a parameter
abbrev argument_at : ℕ → List ℕ → Store
argument_at j cells = record { name = made.Argument j; cells = cells }

pub found_more : (j : ℕ) (a : ArgValue) (stores : List Store) (b : MadeName) → found (stored j a ++ stores) b ≡ found_before (stored j a) b (found stores b)
found_more j (arg.Number n) stores b = refl
found_more j (arg.Cells dims cells) stores b = split (same_made (made.Argument j) b) where
  split : (t : Bool) → maybe [] (λ (s : Store). s.cells) (cond t (Some (argument_at j cells)) (find (λ (s : Store). same_made s.name b) stores)) ≡ maybe (found stores b) (λ (s : Store). s.cells) (cond t (Some (argument_at j cells)) None)
  split true = refl
  split false = refl

-- a buffer more
pub argument_put : (m n : BTreeMap Name (List ℕ)) (j : ℕ) (dims values cells : List ℕ) → cells ≡ values → UpdatesBy name_cmp (name_cmp (name.Argument j)) m n (Some cells) → (b : MadeName) →
    cells_of n.entries b ≡ found_before (stored j (arg.Cells dims values)) b (cells_of m.entries b)
argument_put m n j dims values cells is u b =
    cells_put m n (name.Argument j) cells u b ∙ (ap (λ cs. cond (same_made (made.Argument j) b) cs (cells_of m.entries b)) is
    ∙ sym (maybe_cond (cells_of m.entries b) (λ (s : Store). s.cells) (same_made (made.Argument j) b) (argument_at j values) None))

pub count_more : (j : ℕ) (a : ArgValue) (stores : List Store) → cells_in_all (stored j a ++ stores) ≡ cells_in_all (stored j a) + cells_in_all stores
count_more j (arg.Number n) stores = sym (zero-add (cells_in_all stores))
count_more j (arg.Cells dims cells) stores = omega arith

none≢some : {X : Type 0} (x : X) → None ≡ Some x → ⊥
none≢some {X} x e = subst IsNothing e tt where
  IsNothing : Option X → Type 0
  IsNothing None = Unit {0}
  IsNothing (Some y) = ⊥

-- what stands at a place
pub got : {X : Type 0} (xs : List X) (i : ℕ) (x : X) → i < length xs → x ≡ get_or xs i x → Some x ≡ slice_get xs i
got [] i x h e = absurd (omega (arith, h))
got (y ∷ xs) zero x h e = ap (λ z. Some z) e
got (y ∷ xs) (suc i) x h e = got xs i x (omega (arith, h)) e

-- the buffers from the argument at this place on
stores_suc : (args : List ArgValue) (i n : ℕ) (a : ArgValue) → Some a ≡ slice_get args i → stores_of n (drop i args) ≡ stored n a ++ stores_of (n + 1) (drop (suc i) args)
stores_suc [] i n a e = absurd (none≢some a (sym e))
stores_suc (x ∷ args) zero n a e = ap (λ o. stored n (maybe x (λ y. y) o) ++ stores_of (n + 1) args) (sym e)
stores_suc (x ∷ args) (suc i) n a e = stores_suc args i n a e

pub stores_at : (args : List ArgValue) (i : ℕ) (a : ArgValue) → Some a ≡ slice_get args i → stores_of i (drop i args) ≡ stored i a ++ stores_of (i + 1) (drop (i + 1) args)
stores_at args i a e = subst (λ m. stores_of i (drop i args) ≡ stored i a ++ stores_of (i + 1) (drop m args)) (sym (add-one i)) (stores_suc args i i a e)

-- no more than all
part_from : (args : List ArgValue) (j i n : ℕ) → n ≡ j + i → cells_in_all (stores_of n (drop i args)) ≤ cells_in_all (stores_of j args)
part_from args j zero n e = let s : n ≡ j = omega (arith, e) in rw s (omega arith)
part_from [] j (suc i) n e = omega arith
part_from (x ∷ args) j (suc i) n e =
    let less : cells_in_all (stores_of n (drop i args)) ≤ cells_in_all (stores_of (j + 1) args) = part_from args (j + 1) i n (omega (arith, e)) in
    rw (count_more j x (stores_of (j + 1) args)) (omega (arith, less))

pub part_count : (args : List ArgValue) (i : ℕ) → cells_in_all (stores_of i (drop i args)) ≤ cells_in_all (stores_of 0 args)
part_count args i = part_from args 0 i i (omega arith)

-- one argument with those behind it
pub argument_fits : (args : List ArgValue) (i n : ℕ) (a : ArgValue) → i + 1 ≡ n → Some a ≡ slice_get args i → cells_in_all (stores_of 0 args) ≤ most_cells → cells_in_all (stored i a) + cells_in_all (stores_of n (drop n args)) ≤ most_cells
argument_fits args i n a is at fits =
    let part : cells_in_all (stores_of i (drop i args)) ≤ cells_in_all (stores_of 0 args) = part_count args i in
    let both : cells_in_all (stores_of i (drop i args)) ≡ cells_in_all (stored i a) + cells_in_all (stores_of n (drop n args)) =
    ap cells_in_all (stores_at args i a at) ∙ (count_more i a (stores_of (i + 1) (drop (i + 1) args)) ∙ ap (λ m. cells_in_all (stored i a) + cells_in_all (stores_of m (drop m args))) is) in
    omega (arith, part, both, fits)

pub argument_counts : (args : List ArgValue) (i n : ℕ) (a : ArgValue) → i + 1 ≡ n → Some a ≡ slice_get args i → cells_in_all (stores_of i (drop i args)) ≡ cells_in_all (stored i a) + cells_in_all (stores_of n (drop n args))
argument_counts args i n a is at = ap cells_in_all (stores_at args i a at) ∙ (count_more i a (stores_of (i + 1) (drop (i + 1) args)) ∙ ap (λ m. cells_in_all (stored i a) + cells_in_all (stores_of m (drop m args))) is)

pub argument_found : (args : List ArgValue) (i n : ℕ) (a : ArgValue) (b : MadeName) → i + 1 ≡ n → Some a ≡ slice_get args i → found (stores_of i (drop i args)) b ≡ found_before (stored i a) b (found (stores_of n (drop n args)) b)
argument_found args i n a b is at = ap (λ ss. found ss b) (stores_at args i a at) ∙ (found_more i a (stores_of (i + 1) (drop (i + 1) args)) b ∙ ap (λ m. found_before (stored i a) b (found (stores_of m (drop m args)) b)) is)
