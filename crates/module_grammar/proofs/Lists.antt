-- The last element of a list.
use Rattle.std.proofs.Common.{◌≡◌, ℕ, List, [], ◌∷◌, ◌++◌, Some, refl, ap}
use Rattle.ir_forms.specs.declared.ops.Op.{Op}
use Rattle.ir_forms.specs.declared.types.Ty.{Ty}
use Rattle.module_grammar.specs.declared.state.Outer.{Outer}
use Rattle.module_grammar.specs.declared.state.Name.{Name}
use Rattle.module_grammar.specs.declared.state.Param.{Param}
use Rattle.module_grammar.specs.State.{last_of, without_last, last_as_reduce, as_reduce, last_counted, last_typed}

pub last_pushed : (xs : List Outer) (x : Outer) → last_of (xs ++ x ∷ []) ≡ Some x
last_pushed [] x = refl
last_pushed (y ∷ []) x = refl
last_pushed (y ∷ z ∷ xs) x = last_pushed (z ∷ xs) x

pub without_pushed : {A : Type 0} (xs : List A) (x : A) → without_last (xs ++ x ∷ []) ≡ xs
without_pushed [] x = refl
without_pushed (y ∷ []) x = refl
without_pushed (y ∷ z ∷ xs) x = ap (λ (l : List _). y ∷ l) (without_pushed (z ∷ xs) x)

pub last_reduced : (xs : List Op) (x : Op) → last_as_reduce (xs ++ x ∷ []) ≡ xs ++ as_reduce x ∷ []
last_reduced [] x = refl
last_reduced (y ∷ []) x = refl
last_reduced (y ∷ z ∷ xs) x = ap (λ (l : List Op). y ∷ l) (last_reduced (z ∷ xs) x)

pub last_named : (xs : List Name) (x : Name) (n : ℕ) → last_counted (xs ++ x ∷ []) n ≡ xs ++ record x { count = Some n } ∷ []
last_named [] x n = refl
last_named (y ∷ []) x n = refl
last_named (y ∷ z ∷ xs) x n = ap (λ (l : List Name). y ∷ l) (last_named (z ∷ xs) x n)

pub last_given : (xs : List Param) (x : Param) (t : Ty) → last_typed (xs ++ x ∷ []) t ≡ xs ++ record x { ty = t } ∷ []
last_given [] x t = refl
last_given (y ∷ []) x t = refl
last_given (y ∷ z ∷ xs) x t = ap (λ (l : List Param). y ∷ l) (last_given (z ∷ xs) x t)
