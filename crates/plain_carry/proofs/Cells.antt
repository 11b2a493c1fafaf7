-- Instructions of buffers.
use Rattle.std.proofs.Common.{◌≡◌, ◌⊎◌, inl, inr, ℕ, ◌+◌, cond, Bool, true, false, List, [], ◌∷◌, ◌++◌, drop, length, replicate, Option, Some, None, refl, sym, ap, ◌∙◌, subst, slice_get, slice_set}
use Rattle.low_forms.specs.declared.code.Instr.{Instr}
use Rattle.low_forms.specs.declared.code.LowFunc.{LowFunc}
use Rattle.low_forms.specs.Registers.{type_at}
use Rattle.ir_forms.specs.Shapes.{product}
use Rattle.source_meaning.specs.Parts.{dims_of}
use Rattle.source_meaning.specs.Rows.{sizes}
use Rattle.source_meaning.specs.Values.{maybe, or_else}
use Rattle.async_objects.specs.declared.kinds.Val.{Val}
use Rattle.async_objects.specs.declared.kinds.Val.TheVariants.{Number, Buffer, Object}
use Rattle.task_stack.specs.Registers.{value, number, dims_in}
use Rattle.task_stack.specs.Frames.{Stack}
use Rattle.step_core.specs.declared.rows.SharedRow.{SharedRow}
use Rattle.step_core.specs.declared.rows.SharedRow.TheVariants as row
use Rattle.step_core.specs.State.{Plain, with_buffers, cells_of, buffer_val}
use Rattle.step_core.specs.Shared.{Took, Stuck, Nothing, Reads, Writes, Allocates, on, goes_on, on_buffer, where_so, numbers, asked_sizes, can_allocate, allocates, cell_there, loads_cell, stores_cell, shared_step}
use Rattle.task_stack.specs.Shared.{passed}
use Rattle.step_core.specs.High.{Ref}
use Rattle.code_machines.specs.Objects.{Stands}
use Rattle.plain_carry.specs.Alike.{AlikeVal, AllAlike, SameTypes, is_of_cells, AlikeTook, Goes}
use Rattle.plain_carry.specs.Laws.{CellsAlike}
use Rattle.plain_carry.proofs.Values.{value_alike, at_alike, numbers_alike, drop_alike}

-- what is allocated is a buffer
buffer_self : (ks : List Stands) (rs : List Ref) (b : ℕ) (ns : List ℕ) → AlikeVal ks rs (buffer_val b ns) (buffer_val b ns)
buffer_self ks rs b [] = (refl, refl, refl)
buffer_self ks rs b (x ∷ []) = (refl, refl, refl)
buffer_self ks rs b (x ∷ y ∷ []) = (refl, refl, refl)
buffer_self ks rs b (x ∷ y ∷ z ∷ []) = (refl, refl, refl)
buffer_self ks rs b (x ∷ y ∷ z ∷ w ∷ ns) = (refl, refl, refl)

module _ (ks : List Stands) (rs : List Ref) (i : Instr) (s h : Plain) (t : ℕ) (first second : Stack) (same : s.buffers ≡ h.buffers) where
  abbrev Alike : Took Plain → Took Plain → Type 0
  Alike took took' = AlikeTook ks rs i s h t first second took took'

  cells_same : (b : ℕ) → cells_of s b ≡ cells_of h b
  cells_same b = ap (λ (bs : List (List ℕ)). or_else [] (slice_get bs b)) same

  allocated : (can : Bool) (ns : List ℕ) → Alike
      (cond can (goes_on (with_buffers s (s.buffers ++ replicate (product ns) 0 ∷ [])) t (on first i (buffer_val (length s.buffers) ns ∷ [])) (Allocates (length s.buffers) (product ns))) Stuck)
      (cond can (goes_on (with_buffers h (h.buffers ++ replicate (product ns) 0 ∷ [])) t (on second i (buffer_val (length h.buffers) ns ∷ [])) (Allocates (length h.buffers) (product ns))) Stuck)
  allocated true ns = inl (record {
    results = i.results;
    own = inl refl;
    gives = buffer_val (length s.buffers) ns ∷ [];
    gives' = buffer_val (length h.buffers) ns ∷ [];
    alike = (subst (λ (bs : List (List ℕ)). AlikeVal ks rs (buffer_val (length s.buffers) ns) (buffer_val (length bs) ns)) same (buffer_self ks rs (length s.buffers) ns), tt);
    buffers = s.buffers ++ replicate (product ns) 0 ∷ [];
    buffers' = h.buffers ++ replicate (product ns) 0 ∷ [];
    same = ap (λ (bs : List (List ℕ)). bs ++ replicate (product ns) 0 ∷ []) same;
    act = Allocates (length s.buffers) (product ns);
    plain = refl;
    now = refl;
    now' = ap (λ (bs : List (List ℕ)). goes_on (with_buffers h (h.buffers ++ replicate (product ns) 0 ∷ [])) t (on second i (buffer_val (length h.buffers) ns ∷ [])) (Allocates (length bs) (product ns))) (sym same);
  })
  allocated false ns = inr (refl, refl)

  loaded : (b : ℕ) (o p : Option (ℕ × ℕ)) → o ≡ p → Alike
      (maybe Stuck (λ c. goes_on s t (on first i (Number c.1 ∷ [])) (Reads b c.0)) o)
      (maybe Stuck (λ c. goes_on h t (on second i (Number c.1 ∷ [])) (Reads b c.0)) p)
  loaded b o p e = subst (λ (q : Option (ℕ × ℕ)). Alike (maybe Stuck (λ c. goes_on s t (on first i (Number c.1 ∷ [])) (Reads b c.0)) o) (maybe Stuck (λ c. goes_on h t (on second i (Number c.1 ∷ [])) (Reads b c.0)) q)) e (self o)
    where
      self : (q : Option (ℕ × ℕ)) → Alike (maybe Stuck (λ c. goes_on s t (on first i (Number c.1 ∷ [])) (Reads b c.0)) q) (maybe Stuck (λ c. goes_on h t (on second i (Number c.1 ∷ [])) (Reads b c.0)) q)
      self None = inr (refl, refl)
      self (Some c) = inl (record {
        results = i.results;
        own = inl refl;
        gives = Number c.1 ∷ [];
        gives' = Number c.1 ∷ [];
        alike = (refl, tt);
        buffers = s.buffers;
        buffers' = h.buffers;
        same = same;
        act = Reads b c.0;
        plain = refl;
        now = refl;
        now' = refl;
      })

  abbrev stores_at : Plain → Stack → ℕ → ℕ → Option (ℕ × ℕ) → Took Plain
  stores_at x stack b n o = maybe Stuck (λ c. goes_on (with_buffers x (slice_set x.buffers b (slice_set (cells_of x b) c.0 n))) t (passed stack) (Writes b c.0)) o

  stored : (b n m : ℕ) (o p : Option (ℕ × ℕ)) → n ≡ m → o ≡ p → Alike (stores_at s first b n o) (stores_at h second b m p)
  stored b n m o p en e = subst (λ (q : Option (ℕ × ℕ)). Alike (stores_at s first b n o) (stores_at h second b m q)) e (self o)
    where
      self : (q : Option (ℕ × ℕ)) → Alike (stores_at s first b n q) (stores_at h second b m q)
      self None = inr (refl, refl)
      self (Some c) = inl (record {
        results = [];
        own = inr refl;
        gives = [];
        gives' = [];
        alike = tt;
        buffers = slice_set s.buffers b (slice_set (cells_of s b) c.0 n);
        buffers' = slice_set h.buffers b (slice_set (cells_of h b) c.0 m);
        same = ap (λ (bs : List (List ℕ)). slice_set bs b (slice_set (or_else [] (slice_get bs b)) c.0 n)) same ∙ ap (λ (x : ℕ). slice_set h.buffers b (slice_set (cells_of h b) c.0 x)) en;
        act = Writes b c.0;
        plain = refl;
        now = refl;
        now' = refl;
      })

  abbrev load_of : Plain → Stack → List ℕ → Val → Took Plain
  load_of x stack ns v = on_buffer v (λ b dims. maybe Stuck (λ c. goes_on x t (on stack i (Number c.1 ∷ [])) (Reads b c.0)) (cell_there (cells_of x b) dims ns))

  load_as : (ns ms : List ℕ) → ns ≡ ms → (v w : Val) → AlikeVal ks rs v w → Alike (load_of s first ns v) (load_of h second ms w)
  load_as ns ms e (Number n) (Number m) a = inr (refl, refl)
  load_as ns ms e (Number n) (Buffer b rank dims) a = elim a [ ]
  load_as ns ms e (Number n) (Object o) a = elim a [ ]
  load_as ns ms e (Buffer b rank dims) (Number m) a = elim a [ ]
  load_as ns ms e (Buffer b rank dims) (Object o) a = elim a [ ]
  load_as ns ms e (Object o) (Number m) a = elim a [ ]
  load_as ns ms e (Object o) (Buffer b rank dims) a = elim a [ ]
  load_as ns ms e (Object o) (Object p) a = inr (refl, refl)
  load_as ns ms e (Buffer b rank dims) (Buffer c rank' dims') a =
      subst (λ (x : ℕ). Alike (load_of s first ns (Buffer b rank dims)) (load_of h second ms (Buffer x rank' dims'))) a.0
      (loaded b (cell_there (cells_of s b) (dims_in (Buffer b rank dims)) ns) (cell_there (cells_of h b) (dims_in (Buffer b rank' dims')) ms) (rw (cells_same b, a.1, a.2, e) refl))

  abbrev store_of : Plain → Stack → List ℕ → ℕ → Val → Took Plain
  store_of x stack ns n v = on_buffer v (λ b dims. stores_at x stack b n (cell_there (cells_of x b) dims ns))

  store_as : (ns ms : List ℕ) (n m : ℕ) → ns ≡ ms → n ≡ m → (v w : Val) → AlikeVal ks rs v w → Alike (store_of s first ns n v) (store_of h second ms m w)
  store_as ns ms n m e en (Number x) (Number y) a = inr (refl, refl)
  store_as ns ms n m e en (Number x) (Buffer b rank dims) a = elim a [ ]
  store_as ns ms n m e en (Number x) (Object o) a = elim a [ ]
  store_as ns ms n m e en (Buffer b rank dims) (Number y) a = elim a [ ]
  store_as ns ms n m e en (Buffer b rank dims) (Object o) a = elim a [ ]
  store_as ns ms n m e en (Object o) (Number y) a = elim a [ ]
  store_as ns ms n m e en (Object o) (Buffer b rank dims) a = elim a [ ]
  store_as ns ms n m e en (Object o) (Object p) a = inr (refl, refl)
  store_as ns ms n m e en (Buffer b rank dims) (Buffer c rank' dims') a =
      subst (λ (x : ℕ). Alike (store_of s first ns n (Buffer b rank dims)) (store_of h second ms m (Buffer x rank' dims'))) a.0
      (stored b n m (cell_there (cells_of s b) (dims_in (Buffer b rank dims)) ns) (cell_there (cells_of h b) (dims_in (Buffer b rank' dims')) ms) en (rw (cells_same b, a.1, a.2, e) refl))

  pub cells_as : (r : SharedRow) (f g : LowFunc) (vs ws : List Val) → is_of_cells r ≡ true → SameTypes f g i → AllAlike ks rs vs ws → Alike (shared_step r f i vs s t first) (shared_step r g i ws h t second)
  cells_as row.Allocate f g vs ws is types a =
      let sizes_same : asked_sizes f i vs ≡ asked_sizes g i ws = ap (λ ds. sizes ds (numbers vs)) types.dims ∙ ap (λ (ns : List ℕ). sizes (dims_of (type_at g i.results 0)) ns) (numbers_alike ks rs vs ws a) in
      subst (λ (ns : List ℕ). Alike (allocates (asked_sizes f i vs) s t first i) (allocates ns h t second i)) sizes_same (allocated (can_allocate (asked_sizes f i vs)) (asked_sizes f i vs))
  cells_as row.Deallocate f g vs ws is types a = inl (record {
    results = [];
    own = inr refl;
    gives = [];
    gives' = [];
    alike = tt;
    buffers = s.buffers;
    buffers' = h.buffers;
    same = same;
    act = Nothing;
    plain = refl;
    now = refl;
    now' = refl;
  })
  cells_as row.LoadCell f g vs ws is types a =
      load_as (numbers (drop 1 vs)) (numbers (drop 1 ws)) (numbers_alike ks rs (drop 1 vs) (drop 1 ws) (drop_alike ks rs 1 vs ws a)) (value vs 0) (value ws 0) (value_alike ks rs vs ws 0 a)
  cells_as row.StoreCell f g vs ws is types a =
      store_as (numbers (drop 2 vs)) (numbers (drop 2 ws)) (number vs 0) (number ws 0) (numbers_alike ks rs (drop 2 vs) (drop 2 ws) (drop_alike ks rs 2 vs ws a)) (at_alike ks rs vs ws 0 a) (value vs 1) (value ws 1) (value_alike ks rs vs ws 1 a)
  cells_as _ f g vs ws is types a = cc

pub cells_alike : CellsAlike
cells_alike ks rs r f g i vs ws s h t first second is types a same = cells_as ks rs i s h t first second same r f g vs ws is types a
