-- Edges from the end of a block, and blocks that paths lead to.
use Rattle.std.proofs.Common.{◌≡◌, inl, inr, ℕ, zero, suc, ◌+◌, ◌<◌, ◌==◌, ◌||◌, Bool, true, false, List, [], ◌∷◌, ◌++◌, length, Some, refl, sym, ap, ◌∙◌, subst, arith}
use Rattle.std.specs.Prelude.{slice_get}
use Rattle.std.proofs.lemmas.Bool.Decides.{eqb_tells}
use Rattle.low_flow.specs.Lists.{has, list_at}
use Rattle.low_flow.specs.Paths.{IsEdge, IsPath, last_of}
use Rattle.low_forms.specs.declared.code.Target.{Target}
use Rattle.low_forms.specs.declared.code.Block.{Block}
use Rattle.low_forms.specs.declared.code.LowFunc.{LowFunc}
use Rattle.low_forms.specs.Edges.{blocks_of, edges_from, edges_in, edges}
use Rattle.async_objects.proofs.ListLemmas.{some_is}
use Rattle.own_tables.specs.Owns.{IsReached}

edges_at : (first : Bool) (blocks : List Block) (c : ℕ) (b : Block) (ds : List ℕ) → slice_get blocks c ≡ Some b → ((is : Bool) → edges_from is b.term ≡ ds) → list_at (edges_in first blocks) c ≡ ds
edges_at first [] c b ds there are = cc
edges_at first (x ∷ blocks) zero b ds there are = ap (λ (y : Block). edges_from first y.term) (some_is x b there) ∙ are first
edges_at first (x ∷ blocks) (suc c) b ds there are = edges_at false blocks c b ds there are

length_edges : (first : Bool) (blocks : List Block) → length (edges_in first blocks) ≡ length blocks
length_edges first [] = refl
length_edges first (b ∷ blocks) = ap suc (length_edges false blocks)

there_within : {X : Type 0} (xs : List X) (k : ℕ) (x : X) → slice_get xs k ≡ Some x → k < length xs
there_within [] k x e = cc
there_within (y ∷ xs) zero x e = omega arith
there_within (y ∷ xs) (suc k) x e = omega (arith, there_within xs k x e)

pub has_at : (xs : List ℕ) (k x : ℕ) → slice_get xs k ≡ Some x → has x xs ≡ true
has_at [] k x e = cc
has_at (y ∷ xs) zero x e = here x y (has x xs) (some_is y x e)
  where
    here : (x y : ℕ) (b : Bool) → y ≡ x → ((x == y) || b) ≡ true
    here x y b same = elim (eqb_tells x y) [ inl e ↦ ap (λ t. t || b) e.0 | inr other ↦ absurd (other.1 (sym same)) ]
has_at (y ∷ xs) (suc k) x e = later (x == y) (has x xs) (has_at xs k x e)
  where
    later : (a b : Bool) → b ≡ true → (a || b) ≡ true
    later true b e = refl
    later false b e = e

path_end : (targets : List (List ℕ)) (b : ℕ) (path : List ℕ) (d : ℕ) → IsPath targets b path → IsEdge targets (last_of b path) d → IsPath targets b (path ++ d ∷ []) × (last_of b (path ++ d ∷ []) ≡ d)
path_end targets b [] d follows edge = ((edge, tt), refl)
path_end targets b (c ∷ path) d follows edge = let later : IsPath targets c (path ++ d ∷ []) × (last_of c (path ++ d ∷ []) ≡ d) = path_end targets c path d follows.1 edge in ((follows.0, later.0), later.1)

pub edge_at : (f : LowFunc) (c : ℕ) (b : Block) → slice_get f.blocks c ≡ Some b → ((is : Bool) → edges_from is b.term ≡ blocks_of b.term.targets) → list_at (edges f) c ≡ blocks_of b.term.targets
edge_at f c b there are = edges_at true f.blocks c b (blocks_of b.term.targets) there are

pub target_block : (ts : List Target) (k : ℕ) (t : Target) → slice_get ts k ≡ Some t → slice_get (blocks_of ts) k ≡ Some t.block.0
target_block [] k t e = cc
target_block (u ∷ ts) zero t e = ap (λ (v : Target). Some v.block.0) (some_is u t e)
target_block (u ∷ ts) (suc k) t e = target_block ts k t e

-- an edge leads on
pub reached_on : (f : LowFunc) (c d k : ℕ) (e : Block) → IsReached f c → slice_get (list_at (edges f) c) k ≡ Some d → slice_get f.blocks d ≡ Some e → IsReached f d
reached_on f c d k e reached edge there =
    let within : d < length (edges f) = subst (λ n. d < n) (sym (length_edges true f.blocks)) (there_within f.blocks d e there) in
    let goes : IsEdge (edges f) (last_of 0 reached.path) d = (subst (λ x. has d (list_at (edges f) x) ≡ true) (sym reached.ends) (has_at (list_at (edges f) c) k d edge), within) in
    let more : IsPath (edges f) 0 (reached.path ++ d ∷ []) × (last_of 0 (reached.path ++ d ∷ []) ≡ d) = path_end (edges f) 0 reached.path d reached.follows goes in
    record { path = reached.path ++ d ∷ []; follows = more.0; ends = more.1 }
