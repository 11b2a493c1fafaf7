-- What an operation that ends a region gives is what the region is to give.
use Rattle.std.proofs.Common.{◌≡◌, ℕ, zero, suc, ◌+◌, ◌-◌, Bool, true, false, List, [], ◌∷◌, length, Option, Some, None, slice_get, refl, sym, ap, ◌∙◌, subst, arith}
use Rattle.op_table.specs.declared.form.Form.{Form}
use Rattle.op_table.specs.declared.form.Form.TheVariants.{Return, For, If, While, Condition, Parallel, Reduce, Yield, Execute, TaskYield}
use Rattle.ir_forms.specs.declared.ops.Op.{Op}
use Rattle.ir_forms.specs.declared.types.Ty.{Ty}
use Rattle.ir_forms.specs.declared.types.Ty.TheVariants as ty
use Rattle.ir_forms.specs.declared.types.ValTy.{ValTy}
use Rattle.ir_forms.specs.Ops.{written_of}
use Rattle.ir_verify.specs.Forms.{form, end_asked, ends}
use Rattle.ir_verify.specs.Places.{Around, types_of}
use Rattle.ir_verify.specs.Rules.{end_around, end_type, end_type_in, end_length, end_length_in, is_asked, is_held}
use Rattle.source_meaning.specs.declared.values.Val.{Val}
use Rattle.source_meaning.specs.Values.{nothing, or_else}
use Rattle.typed_laws.specs.Typed.{Typing, HasType}
use Rattle.typed_laws.proofs.Types.{payload, holds_so}
use Rattle.typed_laws.proofs.Envs.{AreTyped, types_same}
use Rattle.typed_laws.proofs.Framed.{AcceptsIn, AcceptsAt}

are_get : (typing : Typing) (ts : List Ty) (vs : List Val) (i : ℕ) (t : Ty) → AreTyped typing ts vs → slice_get ts i ≡ Some t → HasType typing t (or_else nothing (slice_get vs i))
are_get typing [] vs i t h e = cc
are_get typing (u ∷ ts) [] i t h e = elim h [ ]
are_get typing (u ∷ ts) (v ∷ vs) zero t h e = let same : u ≡ t = cc in subst (λ x. HasType typing x v) same h.0
are_get typing (u ∷ ts) (v ∷ vs) (suc i) t h e = are_get typing ts vs i t h.1 e

value_is : (v w : ValTy) → ty.Value v ≡ ty.Value w → v ≡ w
value_is v w e = cc

in_range : (ts us : List Ty) (i : ℕ) (t : Ty) → slice_get ts (suc i) ≡ Some t → length us ≡ length ts - 1 → (u : Ty) × (slice_get us i ≡ Some u)
in_range [] us i t e n = cc
in_range (x ∷ []) us i t e n = cc
in_range (x ∷ y ∷ ts) [] i t e n = absurd (omega (arith, n))
in_range (x ∷ y ∷ ts) (u ∷ us) zero t e n = (u, refl)
in_range (x ∷ y ∷ ts) (u ∷ us) (suc i) t e n = in_range (y ∷ ts) us i t e (omega (arith, n))

module _ (typing : Typing) (written : List Ty) where
  -- the values of the written types, by the operation round them
  yield_in : (g : Form) (r : ℕ) (o : Op) (vs : List Val) → ends (end_asked g r) Yield ≡ true → length written ≡ end_length_in g o r → ((i : ℕ) (t : Ty) → slice_get written i ≡ Some t → is_asked (end_type_in g o r i) t ≡ true) → AreTyped typing written vs → AcceptsIn typing g o r vs
  yield_in For r o vs e n h v = subst (λ ts. AreTyped typing ts vs) (types_same written (types_of o) n h) v
  yield_in If r o vs e n h v = subst (λ ts. AreTyped typing ts vs) (types_same written (types_of o) n h) v
  yield_in While (suc r) o vs e n h v = subst (λ ts. AreTyped typing ts vs) (types_same written (written_of o) n h) v
  yield_in While zero o vs e n h v = cc
  yield_in g r o vs e n h v = cc

  condition_in : (g : Form) (r : ℕ) (o : Op) (v : Val) (vs : List Val) → ends (end_asked g r) Condition ≡ true → length written ≡ end_length_in g o r → ((i : ℕ) (t : Ty) → slice_get written i ≡ Some t → is_asked (end_type_in g o r i) t ≡ true) → AreTyped typing written vs → AcceptsIn typing g o r (v ∷ vs)
  condition_in While zero o v vs e n h k = subst (λ ts. AreTyped typing ts vs) (types_same written (types_of o) n h) k
  condition_in While (suc r) o v vs e n h k = cc
  condition_in g r o v vs e n h k = cc

  task_in : (g : Form) (r : ℕ) (o : Op) (vs : List Val) → ends (end_asked g r) TaskYield ≡ true → length written ≡ end_length_in g o r → ((i : ℕ) (t : Ty) → slice_get written i ≡ Some t → is_held (end_type_in g o r i) t ≡ true) → AreTyped typing written vs → AcceptsIn typing g o r vs
  task_in Execute r o vs e n h v = λ j w at.
      (let u = in_range (types_of o) written j (ty.Value w) at n in
      let next : j + 1 ≡ suc j = omega arith in
      let held = holds_so (ty.Value w) u.0 (subst (λ x. is_held x u.0 ≡ true) at (subst (λ m. is_held (slice_get (types_of o) m) u.0 ≡ true) next (h j u.0 u.1))) in
      let same : held.held ≡ w = sym (value_is w held.held held.outer) in
      subst (λ t. HasType typing t (or_else nothing (slice_get vs j))) (held.inner ∙ ap payload same) (are_get typing written vs j u.0 v u.1))
  task_in While zero o vs e n h v = cc
  task_in While (suc r) o vs e n h v = cc
  task_in g r o vs e n h v = cc

reduce_in : (typing : Typing) (g : Form) (r : ℕ) (o : Op) (vs : List Val) → ends (end_asked g r) Reduce ≡ true → AcceptsIn typing g o r vs
reduce_in typing Parallel r o vs e = tt
reduce_in typing While zero o vs e = cc
reduce_in typing While (suc r) o vs e = cc
reduce_in typing g r o vs e = cc

is_false : Bool → Type 0
is_false false = Unit {0}
is_false true = ⊥

pub not_true : false ≡ true → ⊥
unfolding is_false
not_true e = subst is_false e tt

return_no : (g : Form) (r : ℕ) → ends (end_asked g r) Return ≡ true → ⊥
return_no While zero e = not_true e
return_no While (suc r) e = not_true e
return_no g r e = not_true e

-- ---- the region round it, by what holds it

module _ (typing : Typing) (a : Around) (written : List Ty) where
  -- as it stands where this holds the region
  abbrev held : Option Op → Around
  held x = record { func = a.func; is_called = a.is_called; holder = x; region = a.region; nest = a.nest }

  pub return_at : (x : Option Op) (vs : List Val) → ends (end_around x a.region) Return ≡ true → length written ≡ end_length (held x) → ((i : ℕ) (t : Ty) → slice_get written i ≡ Some t → is_asked (end_type (held x) i) t ≡ true) → AreTyped typing written vs → AcceptsAt typing x a.region a.func vs
  return_at None vs e n h v = subst (λ ts. AreTyped typing ts vs) (types_same written a.func.results n h) v
  return_at (Some o) vs e n h v = absurd (return_no (form o) a.region e)

  pub yield_at : (x : Option Op) (vs : List Val) → ends (end_around x a.region) Yield ≡ true → length written ≡ end_length (held x) → ((i : ℕ) (t : Ty) → slice_get written i ≡ Some t → is_asked (end_type (held x) i) t ≡ true) → AreTyped typing written vs → AcceptsAt typing x a.region a.func vs
  yield_at None vs e n h v = cc
  yield_at (Some o) vs e n h v = yield_in typing written (form o) a.region o vs e n h v

  pub condition_at : (x : Option Op) (v : Val) (vs : List Val) → ends (end_around x a.region) Condition ≡ true → length written ≡ end_length (held x) → ((i : ℕ) (t : Ty) → slice_get written i ≡ Some t → is_asked (end_type (held x) i) t ≡ true) → AreTyped typing written vs → AcceptsAt typing x a.region a.func (v ∷ vs)
  condition_at None v vs e n h k = cc
  condition_at (Some o) v vs e n h k = condition_in typing written (form o) a.region o v vs e n h k

  pub task_at : (x : Option Op) (vs : List Val) → ends (end_around x a.region) TaskYield ≡ true → length written ≡ end_length (held x) → ((i : ℕ) (t : Ty) → slice_get written i ≡ Some t → is_held (end_type (held x) i) t ≡ true) → AreTyped typing written vs → AcceptsAt typing x a.region a.func vs
  task_at None vs e n h v = cc
  task_at (Some o) vs e n h v = task_in typing written (form o) a.region o vs e n h v

  pub reduce_at : (x : Option Op) (vs : List Val) → ends (end_around x a.region) Reduce ≡ true → AcceptsAt typing x a.region a.func vs
  reduce_at None vs e = cc
  reduce_at (Some o) vs e = reduce_in typing (form o) a.region o vs e
