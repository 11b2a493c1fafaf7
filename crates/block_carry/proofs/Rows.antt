-- Operations that compute, and the values that they come to.
use Rattle.std.proofs.Common.{◌≡◌, ℕ, suc, nat_eq, cond, Bool, true, false, List, [], ◌∷◌, length, Option, Some, None, slice_get, refl, sym, ap, ap₂, subst, ◌∙◌}
use Rattle.std.specs.Option.{option_map}
use Rattle.op_table.specs.declared.kind.OpKind.{OpKind}
use Rattle.ir_forms.specs.declared.types.Dim.{Dim}
use Rattle.ir_forms.specs.declared.types.Dim.TheVariants.{Fixed, Dynamic}
use Rattle.low_forms.specs.declared.code.Instr.{Instr}
use Rattle.low_forms.specs.declared.code.LowFunc.{LowFunc}
use Rattle.source_meaning.specs.declared.values.Val as source
use Rattle.source_meaning.specs.declared.values.Val.TheVariants.{Number, Memory}
use Rattle.source_meaning.specs.Parts.{Node}
use Rattle.source_meaning.specs.Rows.{at_width, result_at, compared_at, sign_cast, sizes}
use Rattle.source_meaning.specs.Values.{buffer_in, dims_in}
use Rattle.source_meaning.specs.Flow.{gives}
use Rattle.source_meaning.specs.Steps.{value, number, chosen, or_fails, does}
use Rattle.source_meaning.specs.Steps as steps
use Rattle.source_meaning.specs.Tasks.{Program, Task, Goes, bound}
use Rattle.async_objects.specs.declared.kinds.Val.{Val}
use Rattle.async_objects.specs.declared.kinds.Val.TheVariants as val
use Rattle.task_stack.specs.declared.effects.Effect.TheVariants as effect
use Rattle.task_stack.specs.declared.effects.Number as one
use Rattle.task_stack.specs.declared.effects.Number.TheVariants as number
use Rattle.task_stack.specs.Effects.{effect_of_kind}
use Rattle.task_stack.specs.Numbers as low
use Rattle.task_stack.specs.Numbers.{carried}
use Rattle.task_stack.specs.Registers as registers
use Rattle.block_carry.specs.Same.{Known, IsSame, AreSame}
use Rattle.block_carry.specs.Rows.{Computes, addi, subi, muli, divsi, divui, remsi, remui, andi, ori, xori, shli, shrsi, shrui, maxsi, minsi, maxui, minui, constant, cmpi, select, extsi, index_cast, extui, trunci, index_castui, dim, computed, ReadsWidth, IsComputing}
use Rattle.block_carry.specs.Laid.{Ends, func_return, scf_yield, async_yield, scf_condition}
use Rattle.block_carry.specs.Follows.{IsMemory}
use Rattle.block_carry.proofs.Values.{none_is, some_is, number_same, value_same, dims_same}

mapped : (o : Node) (t : Task) (x : Option ℕ) → steps.computes o t x ≡ or_fails o t (λ v. Goes (bound o.results (v ∷ []) t)) (option_map Number x)
mapped o t None = refl
mapped o t (Some n) = refl

pub computes_row : (kind : OpKind) (m : one.Number) → Computes kind m → (p : Program) (o : Node) (vs : List source.Val) (t : Task) → does kind p o vs t ≡ or_fails o t (λ v. Goes (bound o.results (v ∷ []) t)) (computed m o vs)
computes_row kind m addi p o vs t = mapped o t _
computes_row kind m subi p o vs t = mapped o t _
computes_row kind m muli p o vs t = mapped o t _
computes_row kind m divsi p o vs t = mapped o t _
computes_row kind m divui p o vs t = mapped o t _
computes_row kind m remsi p o vs t = mapped o t _
computes_row kind m remui p o vs t = mapped o t _
computes_row kind m andi p o vs t = mapped o t _
computes_row kind m ori p o vs t = mapped o t _
computes_row kind m xori p o vs t = mapped o t _
computes_row kind m shli p o vs t = mapped o t _
computes_row kind m shrsi p o vs t = mapped o t _
computes_row kind m shrui p o vs t = mapped o t _
computes_row kind m maxsi p o vs t = mapped o t _
computes_row kind m minsi p o vs t = mapped o t _
computes_row kind m maxui p o vs t = mapped o t _
computes_row kind m minui p o vs t = mapped o t _
computes_row kind m constant p o vs t = refl
computes_row kind m cmpi p o vs t = refl
computes_row kind m select p o vs t = refl
computes_row kind m extsi p o vs t = refl
computes_row kind m index_cast p o vs t = refl
computes_row kind m extui p o vs t = refl
computes_row kind m trunci p o vs t = refl
computes_row kind m index_castui p o vs t = refl
computes_row kind m dim p o vs t = mapped o t _

pub effect_row : (kind : OpKind) (m : one.Number) → Computes kind m → effect_of_kind kind ≡ effect.Computes m
effect_row kind m addi = refl
effect_row kind m subi = refl
effect_row kind m muli = refl
effect_row kind m divsi = refl
effect_row kind m divui = refl
effect_row kind m remsi = refl
effect_row kind m remui = refl
effect_row kind m andi = refl
effect_row kind m ori = refl
effect_row kind m xori = refl
effect_row kind m shli = refl
effect_row kind m shrsi = refl
effect_row kind m shrui = refl
effect_row kind m maxsi = refl
effect_row kind m minsi = refl
effect_row kind m maxui = refl
effect_row kind m minui = refl
effect_row kind m constant = refl
effect_row kind m cmpi = refl
effect_row kind m select = refl
effect_row kind m extsi = refl
effect_row kind m index_cast = refl
effect_row kind m extui = refl
effect_row kind m trunci = refl
effect_row kind m index_castui = refl
effect_row kind m dim = refl

pub ends_row : (kind : OpKind) → Ends kind → (p : Program) (o : Node) (vs : List source.Val) (t : Task) → does kind p o vs t ≡ gives vs t
ends_row kind func_return p o vs t = refl
ends_row kind scf_yield p o vs t = refl
ends_row kind async_yield p o vs t = refl
ends_row kind scf_condition p o vs t = refl

-- ---- the same results

abbrev pub Comes_to : Known → source.Val → Option Val → Type 0
Comes_to k v o = (w : Val) × (o ≡ Some w) × IsSame k v w

of_number : (k : Known) (v : source.Val) (x y : ℕ) → y ≡ x → Some (Number x) ≡ Some v → Comes_to k v (Some (val.Number y))
of_number k v x y e h = (val.Number y, refl, subst (λ z. IsSame k z (val.Number y)) (some_is (Number x) v h) e)

of_option : (k : Known) (v : source.Val) (x y : Option ℕ) → y ≡ x → option_map Number x ≡ Some v → Comes_to k v (option_map val.Number y)
of_option k v None y e h = absurd (none_is v h)
of_option k v (Some n) y e h = (val.Number n, ap (option_map val.Number) e, subst (λ z. IsSame k z (val.Number n)) (some_is (Number n) v h) refl)

chosen_same : (k : Known) (z : Bool) (a b : source.Val) (x y : Val) → IsSame k a x → IsSame k b y → IsSame k (cond z b a) (cond z y x)
chosen_same k true a b x y g h = h
chosen_same k false a b x y g h = g

pub computed_same : (k : Known) (f : LowFunc) (o : Node) (x : Instr) (c : IsComputing f o x) (m : one.Number) → c.m ≡ m → (vs : List source.Val) (ws : List Val) (v : source.Val) → AreSame k vs ws → computed m o vs ≡ Some v → Comes_to k v (low.computed m f x ws)
computed_same k f o x c number.Constant is vs ws v same e = of_number k v _ _ (ap₂ at_width c.result c.literal) e
computed_same k f o x c (number.Binary b) is vs ws v same e =
    of_option k v (result_at (steps.result_width o) b (number vs 0) (number vs 1)) (result_at (low.result_width f x) b (registers.number ws 0) (registers.number ws 1))
    (ap (λ w. result_at w b (registers.number ws 0) (registers.number ws 1)) c.result
    ∙ ap₂ (λ y z. result_at (steps.result_width o) b y z) (number_same k _ _ (value_same k vs ws 0 same)) (number_same k _ _ (value_same k vs ws 1 same))) e
computed_same k f o x c number.Compare is vs ws v same e =
    of_number k v (compared_at (steps.written_width o) o.attr (number vs 0) (number vs 1)) (compared_at (low.operand_width f x) (carried x.attr) (registers.number ws 0) (registers.number ws 1))
    (ap (λ w. compared_at w (carried x.attr) (registers.number ws 0) (registers.number ws 1)) (c.operand (subst ReadsWidth (sym is) tt)) ∙ c.compare (steps.written_width o) (registers.number ws 0) (registers.number ws 1)
    ∙ ap₂ (λ y z. compared_at (steps.written_width o) o.attr y z) (number_same k _ _ (value_same k vs ws 0 same)) (number_same k _ _ (value_same k vs ws 1 same))) e
computed_same k f o x c number.Select is vs ws v same e = (
  low.chosen (registers.number ws 0) (registers.value ws 1) (registers.value ws 2),
  refl,
  subst (λ z. IsSame k z (low.chosen (registers.number ws 0) (registers.value ws 1) (registers.value ws 2))) (some_is _ v e)
      (subst (λ n. IsSame k (chosen (number vs 0) (value vs 1) (value vs 2)) (cond (nat_eq n 0) (registers.value ws 2) (registers.value ws 1))) (sym (number_same k _ _ (value_same k vs ws 0 same)))
      (chosen_same k (nat_eq (number vs 0) 0) _ _ _ _ (value_same k vs ws 1 same) (value_same k vs ws 2 same))),
)
computed_same k f o x c number.ExtendSign is vs ws v same e =
    of_number k v (sign_cast (steps.written_width o) (steps.result_width o) (number vs 0)) (sign_cast (low.operand_width f x) (low.result_width f x) (registers.number ws 0))
    (ap₂ (λ a b. sign_cast a b (registers.number ws 0)) (c.operand (subst ReadsWidth (sym is) tt)) c.result ∙ ap (sign_cast (steps.written_width o) (steps.result_width o)) (number_same k _ _ (value_same k vs ws 0 same))) e
computed_same k f o x c number.FitWidth is vs ws v same e =
    of_number k v (at_width (steps.result_width o) (number vs 0)) (at_width (low.result_width f x) (registers.number ws 0)) (ap₂ at_width c.result (number_same k _ _ (value_same k vs ws 0 same))) e
computed_same k f o x c number.Dimension is vs ws v same e =
    of_option k v (slice_get (dims_in (value vs 0)) (number vs 1)) (slice_get (registers.dims_in (registers.value ws 0)) (registers.number ws 1))
    (ap₂ slice_get (dims_same k _ _ (value_same k vs ws 0 same)) (number_same k _ _ (value_same k vs ws 1 same))) e
computed_same k f o x c number.Zero is vs ws v same e = of_number k v 0 0 refl e

-- ---- values of a kind

pub memory_same : (k : Known) (v : source.Val) (w : Val) → IsMemory v → IsSame k v w → IsSame k (Memory (buffer_in v) (dims_in v)) w
memory_same k v w m = subst (λ z. IsSame k z w → IsSame k (Memory (buffer_in z) (dims_in z)) w) (sym m.2) (λ h. h)

pub number_is : (k : Known) (n : ℕ) (w : Val) → IsSame k (Number n) w → w ≡ val.Number n
number_is k n (val.Number m) h = ap val.Number h
number_is k n (val.Buffer b r s) h = absurd h
number_is k n (val.Object o) h = absurd h

pub sizes_length : (dims : List Dim) (given : List ℕ) → length (sizes dims given) ≡ length dims
sizes_length [] given = refl
sizes_length (Fixed n ∷ dims) given = ap suc (sizes_length dims given)
sizes_length (Dynamic ∷ dims) [] = ap suc (sizes_length dims [])
sizes_length (Dynamic ∷ dims) (n ∷ given) = ap suc (sizes_length dims given)
