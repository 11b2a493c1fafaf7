-- What other registers leave as it is: edges, kinds, counts, saves, and what is given.
use Rattle.std.proofs.Common.{◌≡◌, inl, inr, ℕ, zero, suc, ◌==◌, ◌&&◌, ◌||◌, not, Bool, true, false, List, [], ◌∷◌, ◌++◌, map, Some, refl, sym, ap, ◌∙◌, subst}
use Rattle.std.specs.Prelude.{slice_get}
use Rattle.std.proofs.lemmas.Bool.Decides.{eqb_tells}
use Rattle.std.proofs.lemmas.List.{map-append, length-map}
use Rattle.low_flow.specs.Lists.{has, list_at}
use Rattle.low_flow.specs.Paths.{assigned_on}
use Rattle.ir_forms.specs.Numbers.{joined}
use Rattle.low_forms.specs.declared.code.Reg.{Reg}
use Rattle.low_forms.specs.declared.code.Instr.{Instr}
use Rattle.low_forms.specs.declared.code.Target.{Target}
use Rattle.low_forms.specs.declared.code.Term.{Term}
use Rattle.low_forms.specs.declared.code.Block.{Block}
use Rattle.low_forms.specs.Rows.{row_of}
use Rattle.low_forms.specs.Registers.{every}
use Rattle.low_forms.specs.Numbers.{count_is_small, counts_small, starts_bare}
use Rattle.low_forms.specs.Edges.{blocks_of, edges_of, edges_from, edges_in}
use Rattle.low_forms.specs.Saves.{is_save, is_of, is_next, is_suspend, is_followed, saves_followed, all_followed, resumes, none_alone, nowhere_else, has_no_save, saves_start}
use Rattle.low_forms.specs.Assigned.{numbers, assigned_by, block_assigns, args_of, used_at_end}
use Rattle.low_forms.specs.Fits.{same_regs}
use Rattle.low_forms.proofs.Words.{and_left, and_right, and_both}
use Rattle.register_numbers.specs.Renumbered.{renamed_regs, renamed_instr, renamed_target, renamed_term, renamed_block}
use Rattle.register_laws.proofs.Lists.{Sub, sub_left, sub_right, sub_mapped, sub_same, sub_then, list_at_mapped}
use Rattle.register_laws.proofs.Good.{Good, good_more}

same_number : (σ : ℕ → ℕ) (x y : ℕ) → (x == y) ≡ true → (σ x == σ y) ≡ true
same_number σ x y is = elim (eqb_tells x y) [
  | inl same ↦ elim (eqb_tells (σ x) (σ y)) [ inl s ↦ s.0 | inr o ↦ absurd (o.1 (ap σ same.1)) ]
  | inr other ↦ (let no : (x == y) ≡ false = other.0 in cc)
]

or_weaker : (a b c : Bool) → (b ≡ true → c ≡ true) → (a || b) ≡ true → (a || c) ≡ true
or_weaker true b c so is = refl
or_weaker false b c so is = so is

module _ (σ : ℕ → ℕ) where
  pub numbers_renamed : (rs : List Reg) → numbers (renamed_regs σ rs) ≡ map σ (numbers rs)
  numbers_renamed [] = refl
  numbers_renamed (r ∷ rs) = ap (λ ns. σ r.0 ∷ ns) (numbers_renamed rs)

  pub assigned_renamed : (instrs : List Instr) → assigned_by (map (renamed_instr σ) instrs) ≡ map σ (assigned_by instrs)
  assigned_renamed [] = refl
  assigned_renamed (i ∷ instrs) =
      ap (λ ns. ns ++ assigned_by (map (renamed_instr σ) instrs)) (numbers_renamed i.results)
      ∙ ap (λ ns. map σ (numbers i.results) ++ ns) (assigned_renamed instrs)
      ∙ sym (map-append σ (numbers i.results) (assigned_by instrs))

  block_assigned : (b : Block) → block_assigns (renamed_block σ b) ≡ map σ (block_assigns b)
  block_assigned b =
      ap (λ ns. ns ++ assigned_by (map (renamed_instr σ) b.instrs)) (numbers_renamed b.params)
      ∙ ap (λ ns. map σ (numbers b.params) ++ ns) (assigned_renamed b.instrs)
      ∙ sym (map-append σ (numbers b.params) (assigned_by b.instrs))

  pub assigns_renamed : (blocks : List Block) → map block_assigns (map (renamed_block σ) blocks) ≡ map (map σ) (map block_assigns blocks)
  assigns_renamed [] = refl
  assigns_renamed (b ∷ blocks) =
      ap (λ ns. ns ∷ map block_assigns (map (renamed_block σ) blocks)) (block_assigned b)
      ∙ ap (λ lists. map σ (block_assigns b) ∷ lists) (assigns_renamed blocks)

  pub assigned_on_mapped : (lists : List (List ℕ)) (b : ℕ) (path : List ℕ) → assigned_on (map (map σ) lists) b path ≡ map σ (assigned_on lists b path)
  assigned_on_mapped lists b [] = refl
  assigned_on_mapped lists b (c ∷ path) =
      ap (λ ns. ns ++ assigned_on (map (map σ) lists) c path) (list_at_mapped σ lists b)
      ∙ ap (λ ns. map σ (list_at lists b) ++ ns) (assigned_on_mapped lists c path)
      ∙ sym (map-append σ (list_at lists b) (assigned_on lists c path))

  args_renamed : (ts : List Target) → args_of (map (renamed_target σ) ts) ≡ map σ (args_of ts)
  args_renamed [] = refl
  args_renamed (t ∷ ts) =
      ap (λ ns. ns ++ args_of (map (renamed_target σ) ts)) (numbers_renamed t.args)
      ∙ ap (λ ns. map σ (numbers t.args) ++ ns) (args_renamed ts)
      ∙ sym (map-append σ (numbers t.args) (args_of ts))

  used_renamed : (t : Term) → used_at_end (renamed_term σ t) ≡ map σ (used_at_end t)
  used_renamed t =
      ap (λ ns. ns ++ args_of (map (renamed_target σ) t.targets)) (numbers_renamed t.instr.operands)
      ∙ ap (λ ns. map σ (numbers t.instr.operands) ++ ns) (args_renamed t.targets)
      ∙ sym (map-append σ (numbers t.instr.operands) (args_of t.targets))

  pub good_renamed : (given : List ℕ) (instrs : List Instr) (t : Term) → Good given instrs t → Good (map σ given) (map (renamed_instr σ) instrs) (renamed_term σ t)
  good_renamed given [] t good =
      sub_then (used_at_end (renamed_term σ t)) (map σ (used_at_end t)) (map σ given)
      (sub_same (used_at_end (renamed_term σ t)) (map σ (used_at_end t)) (used_renamed t)) (sub_mapped σ (used_at_end t) given good)
  good_renamed given (i ∷ instrs) t good = (
    sub_then (numbers (renamed_regs σ i.operands)) (map σ (numbers i.operands)) (map σ given)
        (sub_same (numbers (renamed_regs σ i.operands)) (map σ (numbers i.operands)) (numbers_renamed i.operands)) (sub_mapped σ (numbers i.operands) given good.0),
    good_more (map σ (given ++ numbers i.results)) (map σ given ++ numbers (renamed_regs σ i.results)) (map (renamed_instr σ) instrs) (renamed_term σ t)
        (sub_same (map σ (given ++ numbers i.results)) (map σ given ++ numbers (renamed_regs σ i.results))
        (map-append σ given (numbers i.results) ∙ ap (λ ns. map σ given ++ ns) (sym (numbers_renamed i.results))))
        (good_renamed (given ++ numbers i.results) instrs t good.1),
  )

  -- ---- edges

  blocks_renamed : (ts : List Target) → blocks_of (map (renamed_target σ) ts) ≡ blocks_of ts
  blocks_renamed [] = refl
  blocks_renamed (t ∷ ts) = ap (λ bs. t.block.0 ∷ bs) (blocks_renamed ts)

  pub edges_renamed : (is_first : Bool) (blocks : List Block) → edges_in is_first (map (renamed_block σ) blocks) ≡ edges_in is_first blocks
  edges_renamed is_first [] = refl
  edges_renamed is_first (b ∷ blocks) =
      ap (λ bs. edges_of (row_of b.term.instr.kind).targets is_first bs ∷ edges_in false (map (renamed_block σ) blocks)) (blocks_renamed b.term.targets)
      ∙ ap (λ lists. edges_from is_first b.term ∷ lists) (edges_renamed false blocks)

  -- ---- counts, and the first block

  counts_instrs : (instrs : List Instr) → every (λ i. count_is_small i.attr) (map (renamed_instr σ) instrs) ≡ every (λ i. count_is_small i.attr) instrs
  counts_instrs [] = refl
  counts_instrs (i ∷ instrs) = ap (λ b. count_is_small i.attr && b) (counts_instrs instrs)

  pub counts_renamed : (blocks : List Block) → every counts_small (map (renamed_block σ) blocks) ≡ every counts_small blocks
  counts_renamed [] = refl
  counts_renamed (b ∷ blocks) =
      ap (λ c. (c && count_is_small b.term.instr.attr) && every counts_small (map (renamed_block σ) blocks)) (counts_instrs b.instrs)
      ∙ ap (λ c. counts_small b && c) (counts_renamed blocks)

  pub start_renamed : (blocks : List Block) → starts_bare (map (renamed_block σ) blocks) ≡ starts_bare blocks
  start_renamed [] = refl
  start_renamed (b ∷ blocks) = ap (λ k. k == 0) (length-map b.params (λ r. record { 0 = σ r.0 }))

  -- ---- saves

  of_renamed : (rs ss : List Reg) → is_of rs ss ≡ true → is_of (renamed_regs σ rs) (renamed_regs σ ss) ≡ true
  of_renamed (r ∷ []) (s ∷ ss) is = same_number σ r.0 s.0 is
  of_renamed [] ss is = cc
  of_renamed (r ∷ []) [] is = cc
  of_renamed (r ∷ q ∷ rs) ss is = cc

  followed_renamed : (is_first : Bool) (i : Instr) (instrs : List Instr) (t : Term) → is_followed is_first i instrs t ≡ true
      → is_followed is_first (renamed_instr σ i) (map (renamed_instr σ) instrs) (renamed_term σ t) ≡ true
  followed_renamed is_first i [] t is = cc
  followed_renamed is_first i (j ∷ []) t is =
      let two : Bool = is_next is_first j.kind && is_suspend t.instr.kind in
      and_both two (is_of (renamed_regs σ i.results) (renamed_regs σ t.instr.operands)) (and_left two (is_of i.results t.instr.operands) is)
      (of_renamed i.results t.instr.operands (and_right two (is_of i.results t.instr.operands) is))
  followed_renamed is_first i (j ∷ k ∷ instrs) t is = cc

  saves_renamed : (is_first : Bool) (instrs : List Instr) (t : Term) → saves_followed is_first instrs t ≡ true → saves_followed is_first (map (renamed_instr σ) instrs) (renamed_term σ t) ≡ true
  saves_renamed is_first [] t is = refl
  saves_renamed is_first (i ∷ instrs) t is =
      let here : Bool = not (is_save i.kind) || is_followed is_first i instrs t in
      let now : Bool = not (is_save i.kind) || is_followed is_first (renamed_instr σ i) (map (renamed_instr σ) instrs) (renamed_term σ t) in
      and_both now (saves_followed is_first (map (renamed_instr σ) instrs) (renamed_term σ t))
      (or_weaker (not (is_save i.kind)) (is_followed is_first i instrs t) (is_followed is_first (renamed_instr σ i) (map (renamed_instr σ) instrs) (renamed_term σ t))
      (followed_renamed is_first i instrs t) (and_left here (saves_followed is_first instrs t) is))
      (saves_renamed is_first instrs t (and_right here (saves_followed is_first instrs t) is))

  pub all_followed_renamed : (is_first : Bool) (blocks : List Block) → all_followed is_first blocks ≡ true → all_followed is_first (map (renamed_block σ) blocks) ≡ true
  all_followed_renamed is_first [] is = refl
  all_followed_renamed is_first (b ∷ blocks) is =
      let here : Bool = saves_followed is_first b.instrs b.term in
      and_both (saves_followed is_first (map (renamed_instr σ) b.instrs) (renamed_term σ b.term)) (all_followed false (map (renamed_block σ) blocks))
      (saves_renamed is_first b.instrs b.term (and_left here (all_followed false blocks) is))
      (all_followed_renamed false blocks (and_right here (all_followed false blocks) is))

  alone_same : (saved resumed : Bool) (instrs : List Instr) (t : Term) → none_alone saved resumed (map (renamed_instr σ) instrs) (renamed_term σ t) ≡ none_alone saved resumed instrs t
  alone_same saved resumed [] t = refl
  alone_same saved resumed (i ∷ instrs) t = ap (λ b. ((not (resumes i.kind) || saved) && not (is_suspend i.kind)) && b) (alone_same (is_save i.kind) (resumes i.kind) instrs t)

  pub alone_renamed : (blocks : List Block) → every nowhere_else (map (renamed_block σ) blocks) ≡ every nowhere_else blocks
  alone_renamed [] = refl
  alone_renamed (b ∷ blocks) =
      ap (λ c. c && every nowhere_else (map (renamed_block σ) blocks)) (alone_same false false b.instrs b.term)
      ∙ ap (λ c. nowhere_else b && c) (alone_renamed blocks)

  no_save_instrs : (instrs : List Instr) → every (λ i. not (is_save i.kind)) (map (renamed_instr σ) instrs) ≡ every (λ i. not (is_save i.kind)) instrs
  no_save_instrs [] = refl
  no_save_instrs (i ∷ instrs) = ap (λ b. not (is_save i.kind) && b) (no_save_instrs instrs)

  no_saves : (blocks : List Block) → every has_no_save (map (renamed_block σ) blocks) ≡ every has_no_save blocks
  no_saves [] = refl
  no_saves (b ∷ blocks) =
      ap (λ c. c && every has_no_save (map (renamed_block σ) blocks)) (no_save_instrs b.instrs)
      ∙ ap (λ c. has_no_save b && c) (no_saves blocks)

  pub saves_start_renamed : (blocks : List Block) → saves_start (map (renamed_block σ) blocks) ≡ saves_start blocks
  saves_start_renamed [] = refl
  saves_start_renamed (b ∷ blocks) =
      ap (λ c. not c || every has_no_save (map (renamed_block σ) blocks)) (no_save_instrs b.instrs)
      ∙ ap (λ c. not (has_no_save b) || c) (no_saves blocks)

  -- ---- arguments

  pub same_renamed : (rs ss : List Reg) → same_regs rs ss ≡ true → same_regs (renamed_regs σ rs) (renamed_regs σ ss) ≡ true
  same_renamed [] [] is = refl
  same_renamed [] (s ∷ ss) is = cc
  same_renamed (r ∷ rs) [] is = cc
  same_renamed (r ∷ rs) (s ∷ ss) is =
      and_both (σ r.0 == σ s.0) (same_regs (renamed_regs σ rs) (renamed_regs σ ss))
      (same_number σ r.0 s.0 (and_left (r.0 == s.0) (same_regs rs ss) is)) (same_renamed rs ss (and_right (r.0 == s.0) (same_regs rs ss) is))

-- ---- what a joined list holds

pub joined_has : {A : Type 0} → (h : A → List ℕ) (xs : List A) (k : ℕ) (x : A) → slice_get xs k ≡ Some x → Sub (h x) (joined (map h xs))
joined_has h [] k x at r is = cc
joined_has h (y ∷ ys) zero x at r is = let same : y ≡ x = cc in sub_left (h y) (joined (map h ys)) r (subst (λ z. has r (h z) ≡ true) (sym same) is)
joined_has h (y ∷ ys) (suc k) x at r is = sub_right (h y) (joined (map h ys)) r (joined_has h ys k x at r is)
