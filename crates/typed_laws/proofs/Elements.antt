-- Operands that are tokens and values of tasks.
use Rattle.std.specs.Prelude.{nat_lt, ltb, if◌then◌else◌}
use Rattle.std.specs.Option.{unwrap_or}
use Rattle.std.proofs.Common.{◌≡◌, ◌<◌, ℕ, zero, suc, ◌+◌, ◌-◌, Bool, true, List, [], ◌∷◌, length, take, drop, Some, slice_get, refl, sym, ap, ◌∙◌, subst, arith}
use Rattle.std.proofs.lemmas.Bool.Decides.{nat_tests}
use Rattle.op_table.specs.declared.kind.OpKind.{OpKind}
use Rattle.op_table.specs.declared.kind.OpKind.TheVariants as op
use Rattle.op_table.specs.Rows.{row_of}
use Rattle.ir_forms.specs.declared.ops.Func.{Func}
use Rattle.ir_forms.specs.declared.ops.Op.{Op, out-Op}
use Rattle.ir_forms.specs.declared.ops.ValueNo.{ValueNo}
use Rattle.ir_forms.specs.declared.types.Ty.{Ty}
use Rattle.ir_forms.specs.declared.types.Ty.TheVariants as ty
use Rattle.ir_forms.specs.Ops.{kind_of, operands_of, written_of}
use Rattle.ir_verify.specs.Forms.{form}
use Rattle.ir_verify.specs.Places.{Around, Seen, Spot, place_of}
use Rattle.ir_verify.specs.Rules.{first_type, is_asked, groups_fit, operand_fits, written_fits, written_asked}
use Rattle.ir_verify.specs.Types.{is_token, is_value, is_awaitable, same_type}
use Rattle.source_meaning.specs.declared.values.Val.{Val}
use Rattle.source_meaning.specs.declared.values.Val.TheVariants.{Number, Memory, Element, Group}
use Rattle.source_meaning.specs.Values.{Env, or_else, named, values_at}
use Rattle.source_meaning.specs.Parts.{grouped}
use Rattle.source_meaning.specs.Steps.{value, group}
use Rattle.source_meaning.specs.TaskOrder.{Each}
use Rattle.typed_laws.specs.Typed.{Typing, HasType, IsElement, AreElements}
use Rattle.typed_laws.proofs.Types.{type_same, token_is, value_is}
use Rattle.typed_laws.proofs.Facts.{reads, counts}
use Rattle.typed_laws.proofs.Envs.{EnvTyped, env_of, AreTyped, asked_same}
use Rattle.typed_laws.proofs.Coded.{OpGood}
use Rattle.typed_laws.proofs.Launched.{behind_typed, two_groups, task_asked}
use Rattle.typed_laws.proofs.Leaving.{form_by}
use Rattle.typed_laws.proofs.Operands.{first_there, operand, operands_count, written_count, operand_by, written_by}

-- ---- by types

element_of : (typing : Typing) (t : Ty) (v : Val) → is_awaitable t ≡ true → HasType typing t v → IsElement v
element_of typing t (Element x) e h = refl
element_of typing ty.Token (Number n) e h = elim h [ ]
element_of typing ty.Token (Memory b dims) e h = elim h [ ]
element_of typing ty.Token (Group g) e h = elim h [ ]
element_of typing (ty.Value w) (Number n) e h = elim h [ ]
element_of typing (ty.Value w) (Memory b dims) e h = elim h [ ]
element_of typing (ty.Value w) (Group g) e h = elim h [ ]
element_of typing t v e h = cc

elements_of_types : (typing : Typing) (ts : List Ty) (vs : List Val) → ((i : ℕ) (t : Ty) → slice_get ts i ≡ Some t → is_awaitable t ≡ true) → AreTyped typing ts vs → Each IsElement vs
elements_of_types typing [] [] f h = tt
elements_of_types typing [] (v ∷ vs) f h = elim h [ ]
elements_of_types typing (t ∷ ts) [] f h = elim h [ ]
elements_of_types typing (t ∷ ts) (v ∷ vs) f h = (element_of typing t v (f zero t refl) h.0, elements_of_types typing ts vs (λ i. f (suc i)) h.1)

elements_taken : (env : Env) (a : ℕ) (xs : List ValueNo) → ((j : ℕ) (x : ValueNo) → j < a → slice_get xs j ≡ Some x → IsElement (named env x.0)) → Each IsElement (take a (values_at env xs))
elements_taken env zero [] h = tt
elements_taken env zero (x ∷ xs) h = tt
elements_taken env (suc a) [] h = tt
elements_taken env (suc a) (x ∷ xs) h = (h zero x (omega arith) refl, elements_taken env a xs (λ j y less. h (suc j) y (omega (arith, less))))

token_awaited : (t : Ty) → is_token t ≡ true → is_awaitable t ≡ true
token_awaited t e = subst (λ u. is_awaitable u ≡ true) (sym (token_is t e)) refl

value_awaited : (t : Ty) → is_value t ≡ true → is_awaitable t ≡ true
value_awaited t e = subst (λ u. is_awaitable u ≡ true) (sym (value_is t e).1) refl

is_less : (j a : ℕ) → j < a → ltb j a ≡ true
is_less j a h = grind (arith, nat_tests)

-- an operand of the first group is a token
task_token : (a j : ℕ) (ws : List Ty) (t : Ty) → j < a → (if nat_lt j a then is_token t else is_asked (slice_get ws (j - a)) t) ≡ true → is_token t ≡ true
task_token a j ws t less h = subst (λ b. (if b then is_token t else is_asked (slice_get ws (j - a)) t) ≡ true) (is_less j a less) h

-- ---- by an operation's rules

module _ (funcs : List Func) (typing : Typing) (a : Around) (seen : Seen) (o : Op) (last : Bool) (good : OpGood funcs a seen o last) (env : Env) (h : EnvTyped typing seen env) where
  abbrev s : Spot
  s = record { seen = seen; place = place_of funcs a last o }

  abbrev vs : List Val
  vs = values_at env (operands_of o)

  -- a task's operands: its dependencies, and then its values
  task_groups : kind_of o ≡ op.AsyncExecute → (n : ℕ) × ((out-Op o).groups ≡ n ∷ length (written_of o) ∷ [])
  task_groups e = two_groups (out-Op o).groups (length (written_of o)) (subst (λ g. groups_fit g o ≡ true) (form_by o op.AsyncExecute e) (counts s good.spot.fine).groups)

  -- how many dependencies there are
  first_group : (e : kind_of o ≡ op.AsyncExecute) → unwrap_or (slice_get (out-Op o).groups 0) 0 ≡ (task_groups e).0
  first_group e = ap (λ (gs : List ℕ). unwrap_or (slice_get gs 0) 0) (task_groups e).1

  abbrev FitsTask : ℕ → ℕ → Ty → Type 0
  FitsTask n j t = (if nat_lt j n then is_token t else is_asked (slice_get (written_of o) (j - n)) t) ≡ true

  task_fits : (e : kind_of o ≡ op.AsyncExecute) (j : ℕ) (t : Ty) → operand_fits (form o) s.place j t ≡ true → FitsTask (task_groups e).0 j t
  task_fits e j t fit = subst (λ n. FitsTask n j t) (first_group e) (operand_by funcs typing a seen o last good env h op.AsyncExecute e j t fit)

  pub values_given : kind_of o ≡ op.AsyncExecute → AreTyped typing (written_of o) (group (out-Op o) vs 1)
  values_given e =
      let n : ℕ = (task_groups e).0 in
      let count : length (operands_of o) ≡ n + length (written_of o) = operands_count funcs typing a seen o last good env h op.AsyncExecute e ∙ ap (λ m. m + length (written_of o)) (first_group e) in
      let values : AreTyped typing (written_of o) (take (length (written_of o)) (drop n vs)) =
      behind_typed typing env n (operands_of o) (written_of o) count (λ i j x u place at there.
      (let z = reads s good.spot.fine j x at in
      let asked = task_asked n i j (written_of o) z.type place (task_fits e j z.type z.fits) in
      subst (λ w. HasType typing w (named env x.0)) (sym (asked_same (written_of o) i u z.type there asked)) (env_of typing seen env h x.0 z.type z.visible))) in
      subst (λ (gs : List ℕ). AreTyped typing (written_of o) (or_else [] (slice_get (grouped gs vs) 1))) (sym (task_groups e).1) values

  tokens_given : kind_of o ≡ op.AsyncExecute → Each IsElement (group (out-Op o) vs 0)
  tokens_given e =
      let n : ℕ = (task_groups e).0 in
      let tokens : Each IsElement (take n vs) =
      elements_taken env n (operands_of o) (λ j x less at.
      (let z = reads s good.spot.fine j x at in
      element_of typing z.type (named env x.0) (token_awaited z.type (task_token n j (written_of o) z.type less (task_fits e j z.type z.fits))) (env_of typing seen env h x.0 z.type z.visible))) in
      subst (λ (gs : List ℕ). Each IsElement (or_else [] (slice_get (grouped gs vs) 0))) (sym (task_groups e).1) tokens

  -- an operand of a written type that can be awaited
  first_element : (kind : OpKind) (e : kind_of o ≡ kind) (n : ℕ) → length (operands_of o) ≡ suc n → written_asked (row_of kind).form s.place ≡ 1 →
      ((u : Ty) → operand_fits (row_of kind).form s.place 0 u ≡ true → same_type (first_type (written_of o)) u ≡ true) → ((u : Ty) → written_fits (row_of kind).form s.place 0 u ≡ true → is_awaitable u ≡ true) → IsElement (value vs 0)
  first_element kind e n count one f g =
      let w = first_there (written_of o) 0 (written_count funcs typing a seen o last good env h kind e ∙ one) in
      let x = operand funcs typing a seen o last good env h (suc n) 0 count (omega arith) in
      let same : w.0 ≡ x.type = type_same w.0 x.type (subst (λ u. same_type u x.type ≡ true) w.2 (f x.type (operand_by funcs typing a seen o last good env h kind e 0 x.type x.fits))) in
      element_of typing x.type (value vs 0) (subst (λ u. is_awaitable u ≡ true) same (g w.0 (written_by funcs typing a seen o last good env h kind e 0 w.0 w.1))) x.typed

  elements_by : (kind : OpKind) → kind_of o ≡ kind → AreElements (row_of kind).form (out-Op o) vs
  elements_by op.AsyncExecute e = (tokens_given e, elements_of_types typing (written_of o) (group (out-Op o) vs 1) (λ i t at. value_awaited t (written_by funcs typing a seen o last good env h op.AsyncExecute e i t at)) (values_given e))
  elements_by op.AsyncAwait e = first_element op.AsyncAwait e 0 (operands_count funcs typing a seen o last good env h op.AsyncAwait e) refl (λ u fit. fit) (λ u fit. fit)
  elements_by op.AsyncAddToGroup e = first_element op.AsyncAddToGroup e 1 (operands_count funcs typing a seen o last good env h op.AsyncAddToGroup e) refl (λ u fit. fit) (λ u fit. fit)
  elements_by kind e = tt

  pub elements_next : AreElements (form o) (out-Op o) vs
  elements_next = subst (λ g. AreElements g (out-Op o) vs) (sym (form_by o (kind_of o) refl)) (elements_by (kind_of o) refl)
