-- The places of the names of numbers.
use Rattle.std.proofs.Common.{◌≡◌, ◌≢◌, ◌<◌, ◌≤◌, ◌^◌, ℕ, zero, suc, ◌+◌, Bool, true, false, cond, List, [], ◌∷◌, ◌++◌, map, length, Option, Some, None, codes, decimal, refl, sym, ap, ◌∙◌, subst, arith, option_map, bytes_eq, append_assoc, length-append}
use Rattle.std.specs.Prelude.{slice_get, unwrap_or}
use Rattle.std.proofs.lemmas.Slice.Eq.{bytes_eq-Decides}
use Rattle.std.proofs.lemmas.Fmt.{decimal_injective}
use Rattle.ir_forms.specs.declared.types.Ty.{Ty}
use Rattle.ir_forms.specs.declared.types.Ty.TheVariants as ty
use Rattle.register_numbers.specs.Renumbered.{type_of_reg}
use Rattle.low_names.specs.Numbers.{name_place, number_of}
use Rattle.low_names.specs.Order.{from}

pub by_test : {X : Type 0} (b : Bool) → (b ≡ true → X) → (b ≡ false → X) → X
by_test true y n = y refl
by_test false y n = n refl

abbrev behind : List (List ℕ) → List ℕ → Bool → Option ℕ
behind ns name b = cond b (Some 0) (option_map suc (name_place ns name))

-- a name that stands first
pub here : (n name : List ℕ) (ns : List (List ℕ)) → n ≡ name → name_place (n ∷ ns) name ≡ Some 0
here n name ns same = ap (behind ns name) ((bytes_eq-Decides n name).1 same)

-- another name is passed
pub later : (n name : List ℕ) (ns : List (List ℕ)) (i : ℕ) → n ≢ name → name_place ns name ≡ Some i → name_place (n ∷ ns) name ≡ Some (suc i)
later n name ns i other at =
    by_test (bytes_eq n name)
    (λ y. absurd (other ((bytes_eq-Decides n name).0 y)))
    (λ z. ap (behind ns name) z ∙ ap (option_map suc) at)

-- names that tell numbers apart
abbrev pub TellsApart : (ℕ → List ℕ) → Type 0
TellsApart σ = (m n : ℕ) → m < 2 ^ 64 → n < 2 ^ 64 → σ m ≡ σ n → m ≡ n

module _ (σ : ℕ → List ℕ) (apart : TellsApart σ) where
  placed : (count first i : ℕ) → i < count → first + count ≤ 2 ^ 64 → name_place (map σ (from count first)) (σ (first + i)) ≡ Some i
  placed zero first i within few = absurd (omega arith)
  placed (suc count) first zero within few =
      let same : first ≡ first + 0 = omega arith in
      here (σ first) (σ (first + 0)) (map σ (from count (first + 1))) (ap σ same)
  placed (suc count) first (suc i) within few =
      let a : i < count = omega arith in
      let b : first + 1 + count ≤ 2 ^ 64 = omega arith in
      let same : first + 1 + i ≡ first + suc i = omega arith in
      let c : first < 2 ^ 64 = omega arith in
      let d : first + suc i < 2 ^ 64 = omega arith in
      later (σ first) (σ (first + suc i)) (map σ (from count (first + 1))) i
      (λ e. let f : first ≡ first + suc i = apart first (first + suc i) c d e in absurd (omega arith))
      (subst (λ (n : ℕ). name_place (map σ (from count (first + 1))) (σ n) ≡ Some i) same (placed count (first + 1) i a b))

  pub place_is : (count i : ℕ) → i < count → count ≤ 2 ^ 64 → name_place (map σ (from count 0)) (σ i) ≡ Some i
  place_is count i within few =
      let a : 0 + count ≤ 2 ^ 64 = omega arith in
      let same : 0 + i ≡ i = omega arith in
      subst (λ (n : ℕ). name_place (map σ (from count 0)) (σ n) ≡ Some i) same (placed count 0 i within a)

  pub number_is : (names : List (List ℕ)) (count i : ℕ) → names ≡ map σ (from count 0) → i < count → count ≤ 2 ^ 64 → number_of names (σ i) ≡ i
  number_is names count i are within few =
      ap (λ (ns : List (List ℕ)). number_of ns (σ i)) are ∙ ap (λ (o : Option ℕ). unwrap_or o 4294967295) (place_is count i within few)

-- ---- names of registers and blocks

abbrev pub reg_text : ℕ → List ℕ
reg_text n = 37 ∷ decimal n

abbrev pub block_text : ℕ → List ℕ
block_text n = codes "^bb" ++ decimal n

pub regs_apart : TellsApart reg_text
regs_apart m n a b e =
    let h : 37 ∷ decimal m ≡ 37 ∷ decimal n = e in
    let same : decimal m ≡ decimal n = cc in decimal_injective m n a b same

pub blocks_apart : TellsApart block_text
blocks_apart m n a b e =
    let h : 94 ∷ 98 ∷ 98 ∷ decimal m ≡ 94 ∷ 98 ∷ 98 ∷ decimal n = e in
    let same : decimal m ≡ decimal n = cc in decimal_injective m n a b same

-- ---- types at all places

type_after : (front : List Ty) (t : Ty) (ts : List Ty) → type_of_reg (front ++ t ∷ ts) (length front) ≡ t
type_after [] t ts = refl
type_after (x ∷ front) t ts = type_after front t ts

types_from : (ts front : List Ty) → map (type_of_reg (front ++ ts)) (from (length ts) (length front)) ≡ ts
types_from [] front = refl
types_from (t ∷ ts) front =
    let longer : length (front ++ t ∷ []) ≡ length front + 1 = omega (arith, length-append front (t ∷ [])) in
    let whole : (front ++ t ∷ []) ++ ts ≡ front ++ t ∷ ts = append_assoc front (t ∷ []) ts in
    let rest : map (type_of_reg (front ++ t ∷ ts)) (from (length ts) (length front + 1)) ≡ ts =
    subst (λ (n : ℕ). map (type_of_reg (front ++ t ∷ ts)) (from (length ts) n) ≡ ts) longer
    (subst (λ (all : List Ty). map (type_of_reg all) (from (length ts) (length (front ++ t ∷ []))) ≡ ts) whole (types_from ts (front ++ t ∷ []))) in
    ap (λ (x : Ty). x ∷ map (type_of_reg (front ++ t ∷ ts)) (from (length ts) (length front + 1))) (type_after front t ts) ∙ ap (λ (xs : List Ty). t ∷ xs) rest

pub types_are : (ts : List Ty) → map (type_of_reg ts) (from (length ts) 0) ≡ ts
types_are ts = types_from ts []
