-- Instructions that a task takes alone.
use Rattle.std.specs.Option.{option_map}
use Rattle.std.proofs.Common.{◌≡◌, ◌⊎◌, inl, inr, ℕ, nat_eq, cond, Bool, true, false, List, [], ◌∷◌, Option, Some, None, refl, sym, ap, ◌∙◌, subst, slice_get}
use Rattle.low_forms.specs.declared.code.Instr.{Instr}
use Rattle.low_forms.specs.declared.code.LowFunc.{LowFunc}
use Rattle.low_forms.specs.declared.code.LowModule.{LowModule}
use Rattle.source_meaning.specs.Rows.{literal_bits, at_width, result_at, compared_at, sign_cast}
use Rattle.source_meaning.specs.Values.{maybe}
use Rattle.async_objects.specs.declared.kinds.Val.{Val}
use Rattle.async_objects.specs.declared.kinds.Val.TheVariants.{Number}
use Rattle.task_stack.specs.declared.effects.Number as one
use Rattle.task_stack.specs.declared.effects.Number.TheVariants as the
use Rattle.task_stack.specs.declared.effects.Effect.{Effect}
use Rattle.task_stack.specs.declared.effects.Effect.TheVariants as effect
use Rattle.task_stack.specs.Registers.{value, number, dims_in}
use Rattle.task_stack.specs.Numbers.{result_width, operand_width, carried, chosen, computed}
use Rattle.task_stack.specs.Frames.{Stack, behind}
use Rattle.task_stack.specs.Local as local
use Rattle.task_stack.specs.Local.{Local, operands, goes, inner_step}
use Rattle.step_core.specs.High.{Ref}
use Rattle.code_machines.specs.Objects.{Stands}
use Rattle.plain_carry.specs.Alike.{AlikeVal, AllAlike, MaybeAlike, SameTypes, AlikeLocal, stays}
use Rattle.plain_carry.specs.Laws.{ComputedAlike, InnerAlike}
use Rattle.plain_carry.proofs.Values.{dims_alike, value_alike, at_alike}

module _ (ks : List Stands) (rs : List Ref) where
  maybe_number : (o p : Option ℕ) → o ≡ p → MaybeAlike ks rs (option_map Number o) (option_map Number p)
  maybe_number o p e = subst (λ (q : Option ℕ). MaybeAlike ks rs (option_map Number o) (option_map Number q)) e (self o)
    where
      self : (q : Option ℕ) → MaybeAlike ks rs (option_map Number q) (option_map Number q)
      self None = tt
      self (Some n) = refl

  chosen_alike : (b : Bool) (v w v' w' : Val) → AlikeVal ks rs v v' → AlikeVal ks rs w w' → AlikeVal ks rs (cond b w v) (cond b w' v')
  chosen_alike true v w v' w' a b = b
  chosen_alike false v w v' w' a b = a

  pub computed_as : (n : one.Number) (f g : LowFunc) (i : Instr) (vs ws : List Val) → SameTypes f g i → AllAlike ks rs vs ws → MaybeAlike ks rs (computed n f i vs) (computed n g i ws)
  computed_as the.Constant f g i vs ws types a = ap (λ (w : ℕ). at_width w (literal_bits (carried i.attr))) types.results
  computed_as (the.Binary b) f g i vs ws types a =
      maybe_number (result_at (result_width f i) b (number vs 0) (number vs 1)) (result_at (result_width g i) b (number ws 0) (number ws 1))
      (rw (types.results, at_alike ks rs vs ws 0 a, at_alike ks rs vs ws 1 a) refl)
  computed_as the.Compare f g i vs ws types a = rw (types.operands, at_alike ks rs vs ws 0 a, at_alike ks rs vs ws 1 a) refl
  computed_as the.Select f g i vs ws types a =
      subst (λ (n : ℕ). AlikeVal ks rs (chosen (number vs 0) (value vs 1) (value vs 2)) (chosen n (value ws 1) (value ws 2))) (at_alike ks rs vs ws 0 a)
      (chosen_alike (nat_eq (number vs 0) 0) (value vs 1) (value vs 2) (value ws 1) (value ws 2) (value_alike ks rs vs ws 1 a) (value_alike ks rs vs ws 2 a))
  computed_as the.ExtendSign f g i vs ws types a = rw (types.operands, types.results, at_alike ks rs vs ws 0 a) refl
  computed_as the.FitWidth f g i vs ws types a = rw (types.results, at_alike ks rs vs ws 0 a) refl
  computed_as the.Dimension f g i vs ws types a =
      maybe_number (slice_get (dims_in (value vs 0)) (number vs 1)) (slice_get (dims_in (value ws 0)) (number ws 1))
      (rw (dims_alike ks rs (value vs 0) (value ws 0) (value_alike ks rs vs ws 0 a), at_alike ks rs vs ws 1 a) refl)
  computed_as the.Zero f g i vs ws types a = refl

  given : (i : Instr) (first second : Stack) (o p : Option Val) → MaybeAlike ks rs o p →
      AlikeLocal ks rs i first second (maybe local.Stuck (λ v. goes (behind i.results) (v ∷ []) first) o) (maybe local.Stuck (λ v. goes (behind i.results) (v ∷ []) second) p)
  given i first second None None a = tt
  given i first second None (Some w) a = elim a [ ]
  given i first second (Some v) None a = elim a [ ]
  given i first second (Some v) (Some w) a = record { results = i.results; own = inl refl; gives = v ∷ []; gives' = w ∷ []; alike = (a, tt); now = refl; now' = refl }

  pub inner_as : (e : Effect) (code above : LowModule) (f g : LowFunc) (i : Instr) (first second : Stack) → stays e ≡ true → SameTypes f g i →
      AllAlike ks rs (operands first i) (operands second i) → AlikeLocal ks rs i first second (inner_step e true code f i first) (inner_step e true above g i second)
  inner_as effect.Absent code above f g i first second is types a = tt
  inner_as (effect.Computes n) code above f g i first second is types a =
      given i first second (computed n f i (operands first i)) (computed n g i (operands second i)) (computed_as n f g i (operands first i) (operands second i) types a)
  inner_as effect.Skips code above f g i first second is types a = record { results = i.results; own = inl refl; gives = []; gives' = []; alike = tt; now = refl; now' = refl }
  inner_as effect.Jumps code above f g i first second is types a = tt
  inner_as effect.Branches code above f g i first second is types a = tt
  inner_as effect.Launches code above f g i first second is types a = cc
  inner_as effect.Calls code above f g i first second is types a = tt
  inner_as effect.Returns code above f g i first second is types a = tt
  inner_as effect.Fails code above f g i first second is types a = tt
  inner_as effect.Saves code above f g i first second is types a = cc
  inner_as effect.Suspends code above f g i first second is types a = tt
  inner_as effect.AddsReferences code above f g i first second is types a = record { results = []; own = inr refl; gives = []; gives' = []; alike = tt; now = refl; now' = refl }
  inner_as effect.DropsReferences code above f g i first second is types a = record { results = []; own = inr refl; gives = []; gives' = []; alike = tt; now = refl; now' = refl }
  inner_as effect.Shared code above f g i first second is types a = cc

pub computed_alike : ComputedAlike
computed_alike ks rs n f g i vs ws types a = computed_as ks rs n f g i vs ws types a

pub inner_alike : InnerAlike
inner_alike ks rs e code above f g i first second is types a = inner_as ks rs e code above f g i first second is types a
