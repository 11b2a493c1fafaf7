-- A name that is made free, step by step.
use Rattle.std.proofs.Common.{◌≡◌, ℕ, suc, zero, ◌+◌, ◌-◌, ◌<◌, ◌≤◌, cond, List, ◌++◌, ap, arith}
use Rattle.std.specs.Prelude.{codes}
use Rattle.ir_forms.specs.declared.ops.Func.{Func}
use Rattle.made_funcs.specs.Names.{free_name, is_taken}

-- with tries left
pub tried : (funcs : List Func) (n t : ℕ) (name : List ℕ) → t < n → free_name funcs (n - t) name ≡ cond (is_taken funcs name) (free_name funcs (n - (t + 1)) (name ++ codes "_")) name
tried funcs n t name less = let e : n - t ≡ suc (n - (t + 1)) = omega arith in ap (λ k. free_name funcs k name) e

-- with none left
pub untried : (funcs : List Func) (n t : ℕ) (name : List ℕ) → n ≤ t → free_name funcs (n - t) name ≡ name
untried funcs n t name most = let e : n - t ≡ zero = omega arith in ap (λ k. free_name funcs k name) e
