-- The registers of parameters: their places among all definitions of a function, and their types.
use Rattle.std.proofs.Common.{◌≡◌, ℕ, zero, suc, ◌+◌, ◌==◌, true, false, cond, List, [], ◌∷◌, ◌++◌, map, Option, Some, refl, sym, ap, ap₂, ◌∙◌, arith}
use Rattle.std.specs.Prelude.{slice_get, unwrap_or}
use Rattle.std.specs.Option.{option_map}
use Rattle.std.proofs.lemmas.Option.{slice_get-map}
use Rattle.std.proofs.lemmas.Bool.Decides.{nat_tests}
use Rattle.ir_forms.specs.declared.types.Ty.{Ty}
use Rattle.ir_forms.specs.declared.types.Ty.TheVariants as ty
use Rattle.low_forms.specs.declared.code.Reg.{Reg}
use Rattle.low_forms.specs.Assigned.{numbers}
use Rattle.register_numbers.specs.FirstPlaces.{first_place, place_in, unknown}
use Rattle.register_numbers.specs.Renumbered.{renamed_regs, type_of_reg}
use Rattle.scf_blocks.specs.Tree.{Var, types_in}
use Rattle.scf_blocks.specs.Code.{reg_no, regs_from}

pub nowhere : {X : Type 0} {C : Type 0} (j : ℕ) (x : X) → slice_get [] j ≡ Some x → C
nowhere j x at = cc

-- what stands in a list stands in a longer one
pub get_front : {X : Type 0} (xs ys : List X) (j : ℕ) (x : X) → slice_get xs j ≡ Some x → slice_get (xs ++ ys) j ≡ Some x
get_front [] ys j x at = nowhere j x at
get_front (y ∷ xs) ys zero x at = at
get_front (y ∷ xs) ys (suc j) x at = get_front xs ys j x at

next : (n j : ℕ) → (n + 1) + j ≡ n + suc j
next n j = omega arith

-- the parameters' registers are the first ones
pub number_at : {A : Type 0} (ps : List A) (n j : ℕ) (p : A) → slice_get ps j ≡ Some p → slice_get (numbers (regs_from n ps)) j ≡ Some (n + j)
number_at [] n j p at = nowhere j p at
number_at (q ∷ ps) n zero p at = let e : n ≡ n + 0 = omega arith in ap (λ k. Some k) e
number_at (q ∷ ps) n (suc j) p at = number_at ps (n + 1) j p at ∙ ap (λ k. Some k) (next n j)

pub first_at : {A : Type 0} (ps : List A) (more : List ℕ) (n j : ℕ) (p : A) → slice_get ps j ≡ Some p → first_place (numbers (regs_from n ps) ++ more) (n + j) ≡ Some j
first_at [] more n j p at = nowhere j p at
first_at (q ∷ ps) more n zero p at =
    let e : (n == n + 0) ≡ true = grind (arith, nat_tests) in
    ap (λ b. cond b (Some 0) (option_map suc (first_place (numbers (regs_from (n + 1) ps) ++ more) (n + 0)))) e
first_at (q ∷ ps) more n (suc j) p at =
    let e : (n == n + suc j) ≡ false = grind (arith, nat_tests) in
    ap (λ b. cond b (Some 0) (option_map suc (first_place (numbers (regs_from (n + 1) ps) ++ more) (n + suc j)))) e
    ∙ ap (λ k. option_map suc (first_place (numbers (regs_from (n + 1) ps) ++ more) k)) (sym (next n j))
    ∙ ap (λ o. option_map suc o) (first_at ps more (n + 1) j p at)

-- registers from n on under numbers that leave them
renamed_from : {A : Type 0} (σ : ℕ → ℕ) (n : ℕ) (qs : List A) → ((j : ℕ) (q : A) → slice_get qs j ≡ Some q → σ (n + j) ≡ n + j) → renamed_regs σ (regs_from n qs) ≡ regs_from n qs
renamed_from {A} σ n [] stays = refl
renamed_from {A} σ n (q ∷ qs) stays = ap₂ (λ (r : Reg) rs. r ∷ rs) (ap reg_no here) (renamed_from σ (n + 1) qs (λ j p at. rest j p at))
  where
    here : σ n ≡ n
    here = let e : n + 0 ≡ n = omega arith in ap σ (sym e) ∙ stays 0 q refl ∙ e

    rest : (j : ℕ) (p : A) → slice_get qs j ≡ Some p → σ (n + 1 + j) ≡ n + 1 + j
    rest j p at = ap σ (next n j) ∙ stays (suc j) p at ∙ sym (next n j)

pub params_stand : {A : Type 0} (ps : List A) (more : List ℕ) → renamed_regs (place_in (numbers (regs_from 0 ps) ++ more)) (regs_from 0 ps) ≡ regs_from 0 ps
params_stand ps more = renamed_from (place_in (numbers (regs_from 0 ps) ++ more)) 0 ps
    (λ j q at. ap (λ o. unwrap_or o unknown) (first_at ps more 0 j q at) ∙ zero_front j)
  where
    zero_front : (j : ℕ) → j ≡ 0 + j
    zero_front j = omega arith

-- ---- types

pub type_at : (ps : List Var) (j : ℕ) (p : Var) → slice_get ps j ≡ Some p → slice_get (types_in ps) j ≡ Some p.1
type_at [] j p at = nowhere j p at
type_at (q ∷ ps) zero p at = let e : q ≡ p = cc in ap (λ (x : Var). Some x.1) e
type_at (q ∷ ps) (suc j) p at = type_at ps j p at

each_type : (w : ℕ → Option Ty) (n : ℕ) (qs : List Var) → ((j : ℕ) (q : Var) → slice_get qs j ≡ Some q → w (n + j) ≡ Some q.1) → map (λ r. w r.0) (regs_from n qs) ≡ map (λ p. Some p.1) qs
each_type w n [] has = refl
each_type w n (q ∷ qs) has = ap₂ (λ (t : Option Ty) ts. t ∷ ts) here (each_type w (n + 1) qs (λ j p at. rest j p at))
  where
    here : w n ≡ Some q.1
    here = let e : n ≡ n + 0 = omega arith in ap w e ∙ has 0 q refl

    rest : (j : ℕ) (p : Var) → slice_get qs j ≡ Some p → w (n + 1 + j) ≡ Some p.1
    rest j p at = ap w (next n j) ∙ has (suc j) p at

-- the types of the definitions, at the parameters' registers
pub types_stand : (ps : List Var) (types : List Ty) (more : List ℕ) → ((j : ℕ) (p : Var) → slice_get ps j ≡ Some p → slice_get types j ≡ Some p.1)
    → map (λ (r : Reg). slice_get (map (type_of_reg types) (numbers (regs_from 0 ps) ++ more)) r.0) (regs_from 0 ps) ≡ map (λ p. Some p.1) ps
types_stand ps types more has = each_type (λ k. slice_get (map (type_of_reg types) (numbers (regs_from 0 ps) ++ more)) k) 0 ps at_place
  where
    zero_front : (j : ℕ) → 0 + j ≡ j
    zero_front j = omega arith

    at_place : (j : ℕ) (p : Var) → slice_get ps j ≡ Some p → slice_get (map (type_of_reg types) (numbers (regs_from 0 ps) ++ more)) (0 + j) ≡ Some p.1
    at_place j p at =
        ap (λ k. slice_get (map (type_of_reg types) (numbers (regs_from 0 ps) ++ more)) k) (zero_front j)
        ∙ slice_get-map (type_of_reg types) (numbers (regs_from 0 ps) ++ more) j
        ∙ ap (λ o. option_map (type_of_reg types) o) (get_front (numbers (regs_from 0 ps)) more j (0 + j) (number_at ps 0 j p at))
        ∙ ap (λ k. Some (unwrap_or (slice_get types k) ty.Untyped)) (zero_front j)
        ∙ ap (λ o. Some (unwrap_or o ty.Untyped)) (has j p at)
