-- The last target of an instruction.
use Rattle.std.proofs.Common.{◌≡◌, ℕ, zero, suc, ◌+◌, ◌-◌, List, [], ◌∷◌, ◌++◌, length, Some, None, refl, ap, arith}
use Rattle.std.specs.Prelude.{slice_get}
use Rattle.low_grammar.specs.declared.named.NamedTarget.{NamedTarget}
use Rattle.low_grammar.specs.State.{last_with, last_args}

pub last_given : (ts : List NamedTarget) (t : NamedTarget) (arg : List ℕ) → last_with (ts ++ t ∷ []) arg ≡ ts ++ record t { args = t.args ++ arg ∷ [] } ∷ []
last_given [] t arg = refl
last_given (u ∷ []) t arg = refl
last_given (u ∷ v ∷ ts) t arg = ap (λ (l : List NamedTarget). u ∷ l) (last_given (v ∷ ts) t arg)

-- the last target, by its place
args_from : (ts : List NamedTarget) (n : ℕ) (t : NamedTarget) → length ts ≡ n + 1 → slice_get ts n ≡ Some t → last_args ts ≡ length t.args
args_from [] n t len is = cc
args_from (u ∷ []) zero t len is = let same : u ≡ t = cc in ap (λ (v : NamedTarget). length v.args) same
args_from (u ∷ []) (suc n) t len is = cc
args_from (u ∷ v ∷ ts) zero t len is = absurd (omega (arith, len))
args_from (u ∷ v ∷ ts) (suc n) t len is = let less : length (v ∷ ts) ≡ n + 1 = omega (arith, len) in args_from (v ∷ ts) n t less is

pub last_args_at : (ts : List NamedTarget) (t : NamedTarget) → slice_get ts (length ts - 1) ≡ Some t → last_args ts ≡ length t.args
last_args_at [] t is = cc
last_args_at (u ∷ ts) t is = let len : length (u ∷ ts) ≡ (length (u ∷ ts) - 1) + 1 = omega arith in args_from (u ∷ ts) (length (u ∷ ts) - 1) t len is

none_from : (ts : List NamedTarget) (n : ℕ) → length ts ≡ n + 1 → slice_get ts n ≡ None → ⊥
none_from [] n len is = omega (arith, len)
none_from (u ∷ ts) zero len is = cc
none_from (u ∷ ts) (suc n) len is = let less : length ts ≡ n + 1 = omega (arith, len) in none_from ts n less is

pub last_args_none : (ts : List NamedTarget) → slice_get ts (length ts - 1) ≡ None → last_args ts ≡ 0
last_args_none [] is = refl
last_args_none (u ∷ ts) is =
    let len : length (u ∷ ts) ≡ (length (u ∷ ts) - 1) + 1 = omega arith in absurd (none_from (u ∷ ts) (length (u ∷ ts) - 1) len is)
