-- Numbering the registers of a function keeps its code plain.
use Rattle.std.proofs.Common.{◌≡◌, ℕ, zero, suc, ◌+◌, ◌≤◌, ◌==◌, ◌&&◌, not, if◌then◌else◌, Bool, true, false, List, [], ◌∷◌, ◌++◌, map, Option, Some, None, refl, sym, ap, ◌∙◌, arith, subst}
use Rattle.std.specs.Prelude.{slice_get, unwrap_or}
use Rattle.std.proofs.lemmas.Bool.Decides.{nat_tests}
use Rattle.ir_forms.specs.declared.types.Ty.{Ty}
use Rattle.ir_forms.specs.declared.types.Ty.TheVariants as ty
use Rattle.ir_forms.specs.Numbers.{joined}
use Rattle.ir_verify.specs.Types.{has_async_cells}
use Rattle.low_flow.specs.Lists.{has}
use Rattle.low_flow.specs.Paths.{IsPath}
use Rattle.low_forms.specs.declared.code.Reg.{Reg}
use Rattle.low_forms.specs.declared.code.Instr.{Instr}
use Rattle.low_forms.specs.declared.code.Block.{Block}
use Rattle.low_forms.specs.Registers.{every, on_type}
use Rattle.low_forms.specs.Assigned.{numbers, block_assigns}
use Rattle.low_forms.specs.Edges.{count_to}
use Rattle.liveness.proofs.ListLemmas.{and_all, has_here, or_right}
use Rattle.register_numbers.specs.FirstPlaces.{place_in}
use Rattle.register_numbers.specs.Renumbered.{definitions, type_of_reg, renamed_regs, renamed_instr, renamed_block, renumbered}
use Rattle.register_laws.proofs.Places.{Found, found_where, place_is}
use Rattle.register_laws.proofs.Renamed.{numbers_renamed, assigns_renamed, edges_renamed}
use Rattle.own_tables.specs.Owns.{IsReached}
use Rattle.uncounted_laws.specs.Laws.{is_foreign, none_foreign}
use Rattle.uncounted_laws.proofs.Types.{cells_none}
use Rattle.uncounted_laws.proofs.Whole as whole
use Rattle.numbered_plain.specs.Laws.{NumbersKeepPlain, NumberedCodeOwns}

-- ---- kinds of rows

module _ (σ : ℕ → ℕ) where
  rows_same : (instrs : List Instr) → every (λ i. not (is_foreign i.kind)) (map (renamed_instr σ) instrs) ≡ every (λ i. not (is_foreign i.kind)) instrs
  rows_same [] = refl
  rows_same (i ∷ instrs) = ap (λ b. not (is_foreign i.kind) && b) (rows_same instrs)

  blocks_same : (blocks : List Block) → every none_foreign (map (renamed_block σ) blocks) ≡ every none_foreign blocks
  blocks_same [] = refl
  blocks_same (b ∷ blocks) =
      ap (λ x. (x && not (is_foreign b.term.instr.kind)) && every none_foreign (map (renamed_block σ) blocks)) (rows_same b.instrs)
      ∙ ap (λ x. none_foreign b && x) (blocks_same blocks)

  -- ---- definitions

  map_append : (xs ys : List ℕ) → map σ (xs ++ ys) ≡ map σ xs ++ map σ ys
  map_append [] ys = refl
  map_append (x ∷ xs) ys = ap (λ (zs : List ℕ). σ x ∷ zs) (map_append xs ys)

  joined_same : (lists : List (List ℕ)) → joined (map (map σ) lists) ≡ map σ (joined lists)
  joined_same [] = refl
  joined_same (xs ∷ lists) = ap (λ (zs : List ℕ). map σ xs ++ zs) (joined_same lists) ∙ sym (map_append xs (joined lists))

  pub all_same : (params : List Reg) (blocks : List Block)
      → numbers (renamed_regs σ params) ++ joined (map block_assigns (map (renamed_block σ) blocks)) ≡ map σ (numbers params ++ joined (map block_assigns blocks))
  all_same params blocks =
      ap (λ (xs : List ℕ). xs ++ joined (map block_assigns (map (renamed_block σ) blocks))) (numbers_renamed σ params)
      ∙ ap (λ (lists : List (List ℕ)). map σ (numbers params) ++ joined lists) (assigns_renamed σ blocks)
      ∙ ap (λ (xs : List ℕ). map σ (numbers params) ++ xs) (joined_same (map block_assigns blocks))
      ∙ sym (map_append (numbers params) (joined (map block_assigns blocks)))

-- ---- types

cells_stay : (types : List Ty) (ds : List ℕ) → every (λ t. not (has_async_cells t)) types ≡ true → every (λ t. not (has_async_cells t)) (map (type_of_reg types) ds) ≡ true
cells_stay types [] all = refl
cells_stay types (d ∷ ds) all =
    and_all (not (has_async_cells (type_of_reg types d))) (every (λ t. not (has_async_cells t)) (map (type_of_reg types) ds)) (step (slice_get types d) (cells_none types d all)) (cells_stay types ds all)
  where
    step : (o : Option Ty) → on_type has_async_cells o ≡ false → not (has_async_cells (unwrap_or o ty.Untyped)) ≡ true
    step None none = refl
    step (Some t) none = ap not none

-- ---- each new number stands once

module _ (ds : List ℕ) (n : ℕ) where
  -- what has this place stands there
  stands_there : (e : ℕ) → has e ds ≡ true → place_in ds e ≡ n → slice_get ds n ≡ Some e
  stands_there e there is = (let f : Found ds e = found_where ds e there in ap (λ k. slice_get ds k) (sym is ∙ place_is ds e f) ∙ f.at)

  few : (x : ℕ) → ((e : ℕ) → has e ds ≡ true → place_in ds e ≡ n → e ≡ x) → (es : List ℕ) → ((e : ℕ) → has e es ≡ true → has e ds ≡ true) → count_to n (map (place_in ds) es) ≤ count_to x es
  few x one [] sub = omega arith
  few x one (e ∷ es) sub = step (n == place_in ds e) refl (x == e) refl (few x one es (λ y there. sub y (or_right (y == e) (has y es) there)))
    where
      step : (a : Bool) → (n == place_in ds e) ≡ a → (b : Bool) → (x == e) ≡ b → count_to n (map (place_in ds) es) ≤ count_to x es
          → (if a then count_to n (map (place_in ds) es) + 1 else count_to n (map (place_in ds) es)) ≤ (if b then count_to x es + 1 else count_to x es)
      step true is true same less = omega (arith, less)
      step true is false apart less =
          let at : n ≡ place_in ds e = grind (arith, nat_tests, is) in
          let equal : e ≡ x = one e (sub e (has_here e es)) (sym at) in
          let other : (x == e) ≡ true = grind (arith, nat_tests, equal) in
          cc
      step false is true same less = omega (arith, less)
      step false is false same less = less

  once_there : ((x : ℕ) → count_to x ds ≤ 1) → (o : Option ℕ) → slice_get ds n ≡ o → count_to n (map (place_in ds) ds) ≤ 1
  once_there all None none =
      let l : count_to n (map (place_in ds) ds) ≤ count_to 0 ds = few 0 (λ e there is. (let s : slice_get ds n ≡ Some e = stands_there e there is in cc)) ds (λ e there. there) in
      let m : count_to 0 ds ≤ 1 = all 0 in
      omega (arith, l, m)
  once_there all (Some x) some =
      let l : count_to n (map (place_in ds) ds) ≤ count_to x ds = few x (λ e there is. (let s : slice_get ds n ≡ Some e = stands_there e there is in cc)) ds (λ e there. there) in
      let m : count_to x ds ≤ 1 = all x in
      omega (arith, l, m)

-- ---- blocks that are reached

unmapped : (g : Block → Block) (blocks : List Block) (c : ℕ) (made : Block) → slice_get (map g blocks) c ≡ Some made → (b : Block) × (slice_get blocks c ≡ Some b)
unmapped g [] c made at = cc
unmapped g (b ∷ blocks) zero made at = (b, refl)
unmapped g (b ∷ blocks) (suc c) made at = unmapped g blocks c made at

pub numbers_keep_plain : NumbersKeepPlain
numbers_keep_plain f p = record {
  plain = p.plain;
  rows = blocks_same (place_in (definitions f)) f.blocks ∙ p.rows;
  cells = cells_stay f.regs (definitions f) p.cells;
  once = λ n. subst (λ (xs : List ℕ). count_to n xs ≤ 1) (sym (all_same (place_in (definitions f)) f.params f.blocks)) (once_there (definitions f) n p.once (slice_get (definitions f) n) refl);
  reached = λ c made at. (
      let o : (b : Block) × (slice_get f.blocks c ≡ Some b) = unmapped (renamed_block (place_in (definitions f))) f.blocks c made at in
      let r : IsReached f c = p.reached c o.0 o.1 in
      record { path = r.path; follows = subst (λ (lists : List (List ℕ)). IsPath lists 0 r.path) (sym (edges_renamed (place_in (definitions f)) true f.blocks)) r.follows; ends = r.ends }
      );
}

pub numbered_code_owns : NumberedCodeOwns
numbered_code_owns code f well p = whole.plain_code_owns code (renumbered f) well (numbers_keep_plain f p)
