-- At the start the root alone is there, and its registers hold numbers and buffers.
use Rattle.std.proofs.Common.{◌≡◌, ℕ, zero, suc, ◌+◌, List, [], ◌∷◌, Some, refl, subst, arith}
use Rattle.ir_forms.specs.declared.args.ArgValue.{ArgValue}
use Rattle.ir_forms.specs.declared.args.ArgValue.TheVariants as arg
use Rattle.low_forms.specs.declared.code.Reg.{Reg}
use Rattle.async_objects.specs.declared.kinds.Val.{Val}
use Rattle.async_objects.specs.declared.kinds.Val.TheVariants as val
use Rattle.async_objects.proofs.ListLemmas.{some_is}
use Rattle.task_stack.specs.declared.frames.Place.{Place}
use Rattle.task_stack.specs.declared.frames.Saved.TheVariants as saved
use Rattle.task_stack.specs.Registers.{put, bind}
use Rattle.step_core.specs.State.{buffer_val, argument_vals, ready}
use Rattle.task_stack.specs.Frames.{root_stack}
use Rattle.count_sums.specs.Sums.{owned, share}
use Rattle.count_equation.specs.Equation.{working, StandsWorking, AllStand}
use Rattle.count_equation.specs.Laws.{StartsEqual}
use Rattle.count_equation.proofs.Effects.{keeps}

-- values that are no objects
abbrev Plain : Val → Type 0
Plain (val.Object o) = ⊥
Plain _ = Unit {0}

abbrev AllPlain : List Val → Type 0
AllPlain [] = Unit {0}
AllPlain (v ∷ vs) = Plain v × AllPlain vs

plain_share : (o : ℕ) (v : Val) (n : ℕ) → Plain v → share o v n ≡ 0
plain_share o (val.Number m) n p = refl
plain_share o (val.Buffer b rank dims) n p = refl
plain_share o (val.Object q) n p = elim p [ ]

plain_owned : (w : ℕ → ℕ) (o : ℕ) (vs : List Val) → AllPlain vs → owned w o vs ≡ 0
plain_owned w o [] all = refl
plain_owned w o (v ∷ vs) all =
    let a : share o v (w 0) ≡ 0 = plain_share o v (w 0) all.0 in
    let b : owned (λ r. w (suc r)) o vs ≡ 0 = plain_owned (λ r. w (suc r)) o vs all.1 in
    omega (arith, a, b)

plain_put : (regs : List Val) (r : ℕ) (v : Val) → AllPlain regs → Plain v → AllPlain (put regs r v)
plain_put [] zero v all p = (p, tt)
plain_put [] (suc r) v all p = (tt, plain_put [] r v tt p)
plain_put (x ∷ regs) zero v all p = (p, all.1)
plain_put (x ∷ regs) (suc r) v all p = (all.0, plain_put regs r v all.1 p)

plain_bind : (rs : List Reg) (vs regs : List Val) → AllPlain vs → AllPlain regs → AllPlain (bind rs vs regs)
plain_bind [] vs regs new all = all
plain_bind (r ∷ rs) [] regs new all = all
plain_bind (r ∷ rs) (v ∷ vs) regs new all = plain_bind rs vs (put regs r.0 v) new.1 (plain_put regs r.0 v all new.0)

plain_buffer : (b : ℕ) (dims : List ℕ) → Plain (buffer_val b dims)
plain_buffer b [] = tt
plain_buffer b (d ∷ []) = tt
plain_buffer b (d ∷ e ∷ []) = tt
plain_buffer b (d ∷ e ∷ g ∷ []) = tt
plain_buffer b (d ∷ e ∷ g ∷ h ∷ dims) = tt

plain_arguments : (b : ℕ) (args : List ArgValue) → AllPlain (argument_vals b args)
plain_arguments b [] = tt
plain_arguments b (arg.Number n ∷ args) = (tt, plain_arguments b args)
plain_arguments b (arg.Cells dims cells ∷ args) = (plain_buffer b dims, plain_arguments (b + 1) args)

pub starts_equal : StartsEqual
starts_equal code table n f args there = record {
  equation = λ o.
      let p : Place = record { func = n; block = record { 0 = 0 }; at = 0 } in
      let a : owned (working code table p saved.Nothing) o (bind f.params (argument_vals 0 args) []) ≡ 0 =
      plain_owned (working code table p saved.Nothing) o (bind f.params (argument_vals 0 args) []) (plain_bind f.params (argument_vals 0 args) [] (plain_arguments 0 args) tt) in
      let b : keeps [] o ≡ 0 = refl in
      nothing _ _ a b;
  made = λ o past. refl;
  stands = stand;
}
  where
    nothing : (a k : ℕ) → a ≡ 0 → k ≡ 0 → 0 ≡ ((a + 0) + 0) + k
    nothing a k e g = omega (arith, e, g)

    stand : AllStand code (Some (ready (root_stack n f (argument_vals 0 args))) ∷ [])
    stand zero task is = subst (StandsWorking code) (some_is (Some (ready (root_stack n f (argument_vals 0 args)))) task is) (record { func = f; there = there; reached = record { path = []; follows = tt; ends = refl } })
    stand (suc t) task is = cc
