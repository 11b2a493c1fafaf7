-- A function is well formed where its blocks, its saves and its edges are.
use Rattle.std.proofs.Common.{◌≡◌, ◌↔◌, inl, inr, IsTrue, ℕ, ◌<◌, ◌+◌, ◌≤◌, ◌&&◌, Bool, true, false, List, [], ◌∷◌, length, map, Some, refl, sym, ap, ◌∙◌, arith, subst, get_or}
use Rattle.std.specs.Prelude.{slice_get}
use Rattle.std.proofs.lemmas.Bool.Decides.{eqb_tells}
use Rattle.std.proofs.lemmas.Option.{slice_get_within, slice_get_read}
use Rattle.low_flow.specs.Paths.{AllAssigned}
use Rattle.low_forms.specs.declared.code.Block.{Block}
use Rattle.low_forms.specs.declared.code.LowFunc.{LowFunc}
use Rattle.low_forms.specs.declared.code.LowModule.{LowModule}
use Rattle.low_forms.specs.Registers.{every}
use Rattle.low_forms.specs.Fits.{block_fits}
use Rattle.low_forms.specs.Numbers.{regs_within, block_within, counts_small, has_start}
use Rattle.low_forms.specs.Edges.{edges, none_is_start, is_uncritical}
use Rattle.low_forms.specs.Saves.{all_followed, nowhere_else, saves_start}
use Rattle.low_forms.specs.Assigned.{assigns, UsesAssigned}
use Rattle.low_forms.specs.Given.{block_frees}
use Rattle.low_forms.specs.WellFormed.{IsWellFormed, block_keeps, keeps_alone, Flows}
use Rattle.low_forms.proofs.Words.{and_left, and_right, and_both}
use Rattle.low_forms.proofs.FlowLemmas.{uses_assigned, all_assigned_where}

every_weaker : {A : Type 0} → (p q : A → Bool) (xs : List A) → ((x : A) → p x ≡ true → q x ≡ true) → every p xs ≡ true → every q xs ≡ true
every_weaker p q [] weaker all = refl
every_weaker p q (x ∷ xs) weaker all =
    and_both (q x) (every q xs) (weaker x (and_left (p x) (every p xs) all)) (every_weaker p q xs weaker (and_right (p x) (every p xs) all))

every_both : {A : Type 0} → (p q : A → Bool) (xs : List A) → every p xs ≡ true → every q xs ≡ true → every (λ x. p x && q x) xs ≡ true
every_both p q [] all others = refl
every_both p q (x ∷ xs) all others =
    and_both (p x && q x) (every (λ y. p y && q y) xs)
    (and_both (p x) (q x) (and_left (p x) (every p xs) all) (and_left (q x) (every q xs) others))
    (every_both p q xs (and_right (p x) (every p xs) all) (and_right (q x) (every q xs) others))

module _ (code : LowModule) (f : LowFunc) where
  abbrev A : Block → Bool
  A b = block_within code f b

  abbrev B : Block → Bool
  B b = block_fits code f b

  abbrev P1 : Bool
  P1 = regs_within f f.params

  abbrev P2 : Bool
  P2 = has_start f

  abbrev P3 : Bool
  P3 = every (block_keeps code f) f.blocks

  abbrev P4 : Bool
  P4 = all_followed true f.blocks

  abbrev P5 : Bool
  P5 = saves_start f.blocks

  well_where : keeps_alone code f ≡ true → Flows f → IsWellFormed code f
  well_where alone flows =
      let four : (((P1 && P2) && P3) && P4) ≡ true = and_left (((P1 && P2) && P3) && P4) P5 alone in
      let three : ((P1 && P2) && P3) ≡ true = and_left ((P1 && P2) && P3) P4 four in
      let two : (P1 && P2) ≡ true = and_left (P1 && P2) P3 three in
      let blocks : P3 ≡ true = and_right (P1 && P2) P3 three in
      record {
        params_within = and_left P1 P2 two;
        within = every_weaker (block_keeps code f) (block_within code f) f.blocks (λ b is. and_left (A b) (B b) (and_left (A b && B b) (counts_small b) (and_left ((A b && B b) && counts_small b) (nowhere_else b) is))) blocks;
        start = and_right P1 P2 two;
        fits = every_weaker (block_keeps code f) (block_fits code f) f.blocks (λ b is. and_right (A b) (B b) (and_left (A b && B b) (counts_small b) (and_left ((A b && B b) && counts_small b) (nowhere_else b) is))) blocks;
        assigned = flows.2;
        uncritical = flows.1;
        counts = every_weaker (block_keeps code f) counts_small f.blocks (λ b is. and_right (A b && B b) (counts_small b) (and_left ((A b && B b) && counts_small b) (nowhere_else b) is)) blocks;
        not_to_start = flows.0;
        saves = and_right ((P1 && P2) && P3) P4 four;
        alone = every_weaker (block_keeps code f) nowhere_else f.blocks (λ b is. and_right ((A b && B b) && counts_small b) (nowhere_else b) is) blocks;
        first_save = and_right (((P1 && P2) && P3) && P4) P5 alone;
      }

  alone_where : IsWellFormed code f → keeps_alone code f ≡ true
  alone_where is =
      let ab : every (λ b. A b && B b) f.blocks ≡ true = every_both A B f.blocks is.within is.fits in
      let abc : every (λ b. (A b && B b) && counts_small b) f.blocks ≡ true = every_both (λ b. A b && B b) counts_small f.blocks ab is.counts in
      let blocks : P3 ≡ true = every_both (λ b. (A b && B b) && counts_small b) nowhere_else f.blocks abc is.alone in
      and_both (((P1 && P2) && P3) && P4) P5 (and_both ((P1 && P2) && P3) P4 (and_both (P1 && P2) P3 (and_both P1 P2 is.params_within is.start) blocks) is.saves) is.first_save

  flows_where : IsWellFormed code f → Flows f
  flows_where is = (is.not_to_start, is.uncritical, is.assigned)

  pub not_alone : keeps_alone code f ≡ false → IsTrue false ↔ IsWellFormed code f
  not_alone fails = ((λ b. cc), λ is. (let e : keeps_alone code f ≡ true = alone_where is in cc))

  pub alone_flows : (b : Bool) → keeps_alone code f ≡ true → (IsTrue b ↔ Flows f) → IsTrue b ↔ IsWellFormed code f
  alone_flows b alone flows = ((λ holds. well_where alone (flows.0 holds)), λ is. flows.1 (flows_where is))

module _ (f : LowFunc) (targets : List (List ℕ)) (targets_is : targets ≡ edges f) where
  pub leads_to_start : every none_is_start targets ≡ false → IsTrue false ↔ Flows f
  leads_to_start fails =
      let none : every none_is_start (edges f) ≡ false = ap (λ ts. every none_is_start ts) (sym targets_is) ∙ fails in
      ((λ b. cc), λ flows. (let e : every none_is_start (edges f) ≡ true = flows.0 in cc))

  pub is_critical : every (is_uncritical targets) targets ≡ false → IsTrue false ↔ Flows f
  is_critical fails =
      let none : every (is_uncritical (edges f)) (edges f) ≡ false = ap (λ ts. every (is_uncritical ts) ts) (sym targets_is) ∙ fails in
      ((λ b. cc), λ flows. (let e : every (is_uncritical (edges f)) (edges f) ≡ true = flows.1 in cc))

  pub flows_by : (b : Bool) → every none_is_start targets ≡ true → every (is_uncritical targets) targets ≡ true → (IsTrue b ↔ UsesAssigned f) → IsTrue b ↔ Flows f
  flows_by b starts critical uses =
      let one : every none_is_start (edges f) ≡ true = ap (λ ts. every none_is_start ts) (sym targets_is) ∙ starts in
      let two : every (is_uncritical (edges f)) (edges f) ≡ true = ap (λ ts. every (is_uncritical ts) ts) (sym targets_is) ∙ critical in
      ((λ holds. (one, two, uses.0 holds)), λ flows. uses.1 flows.2)

  pub uses_by : (given needed : List (List ℕ)) (n : ℕ) (b : Bool) → given ≡ assigns f → needed ≡ map (block_frees f) f.blocks → n ≡ length f.regs
      → (IsTrue b ↔ AllAssigned targets given needed n) → IsTrue b ↔ UsesAssigned f
  uses_by given needed n b given_is needed_is n_is all =
      let a : IsTrue b ↔ AllAssigned (edges f) given needed n = subst (λ ts. IsTrue b ↔ AllAssigned ts given needed n) targets_is all in
      let g : IsTrue b ↔ AllAssigned (edges f) (assigns f) needed n = subst (λ gs. IsTrue b ↔ AllAssigned (edges f) gs needed n) given_is a in
      let m : IsTrue b ↔ AllAssigned (edges f) (assigns f) (map (block_frees f) f.blocks) n = subst (λ ns. IsTrue b ↔ AllAssigned (edges f) (assigns f) ns n) needed_is g in
      let l : IsTrue b ↔ AllAssigned (edges f) (assigns f) (map (block_frees f) f.blocks) (length f.regs) = subst (λ k. IsTrue b ↔ AllAssigned (edges f) (assigns f) (map (block_frees f) f.blocks) k) n_is m in
      ((λ holds. uses_assigned f (l.0 holds)), λ uses. l.1 (all_assigned_where f uses))

-- ---- by module

abbrev pub KeptTo : LowModule → ℕ → Type 0
KeptTo code n = (k : ℕ) (f : LowFunc) → k < n → slice_get code.funcs k ≡ Some f → IsWellFormed code f

pub kept_next : (code : LowModule) (n : ℕ) (f : LowFunc) → n < length code.funcs → f ≡ get_or code.funcs n f → IsWellFormed code f → KeptTo code n → KeptTo code (n + 1)
kept_next code n f inside item is kept = λ k g before at. elim (eqb_tells n k) [
  | inl same ↦
      let here : slice_get code.funcs n ≡ Some f = slice_get_read code.funcs (length code.funcs) n f refl inside item in
      let there : slice_get code.funcs n ≡ Some g = subst (λ j. slice_get code.funcs j ≡ Some g) (sym same.1) at in
      let one : f ≡ g = cc in
      subst (λ h. IsWellFormed code h) one is
  | inr other ↦ kept k g (omega (arith, before, other.1)) at
]

pub kept_all : (code : LowModule) (n : ℕ) → length code.funcs ≤ n → KeptTo code n → (k : ℕ) (f : LowFunc) → slice_get code.funcs k ≡ Some f → IsWellFormed code f
kept_all code n past kept = λ k f at. kept k f (let inside : k < length code.funcs = slice_get_within code.funcs k f at in omega arith) at

pub broken_at : (code : LowModule) (n : ℕ) (f : LowFunc) → n < length code.funcs → f ≡ get_or code.funcs n f → (IsWellFormed code f → ⊥) → ((k : ℕ) (g : LowFunc) → slice_get code.funcs k ≡ Some g → IsWellFormed code g) → ⊥
broken_at code n f inside item broken all = broken (all n f (slice_get_read code.funcs (length code.funcs) n f refl inside item))
