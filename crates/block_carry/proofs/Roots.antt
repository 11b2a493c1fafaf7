-- The start.
use Rattle.std.proofs.Common.{◌≡◌, ◌≤◌, ℕ, zero, suc, ◌+◌, true, List, [], ◌∷◌, map, length, Some, slice_get, refl, sym, ap, subst, ◌∙◌, arith}
use Rattle.ir_forms.specs.declared.args.ArgValue.{ArgValue}
use Rattle.ir_forms.specs.declared.args.ArgValue.TheVariants as arg
use Rattle.ir_forms.specs.declared.names.MadeName.{MadeName}
use Rattle.ir_forms.specs.declared.names.MadeName.TheVariants.{Argument}
use Rattle.ir_forms.specs.Shapes.{product}
use Rattle.ir_verify.specs.declared.place.Nest.TheVariants.{InFunction}
use Rattle.source_meaning.specs.declared.values.Val.TheVariants.{Memory}
use Rattle.source_meaning.specs.Parts.{names_of, func_ops, func_params}
use Rattle.source_meaning.specs.Start.{arguments, root_task}
use Rattle.source_meaning.specs.TaskOrder.{Each}
use Rattle.source_meaning.specs.Values.{bind}
use Rattle.task_stack.specs.Frames.{root_stack}
use Rattle.step_core.specs.State.{argument_vals, argument_cells, buffer_val}
use Rattle.code_machines.specs.Paths.{argument_names}
use Rattle.block_carry.specs.Same.{Known, IsSame, AreSame}
use Rattle.block_carry.specs.Laid.{IsLaidFunc}
use Rattle.block_carry.specs.Stands.{Stands}
use Rattle.block_carry.specs.Stands as stand
use Rattle.block_carry.specs.Laws.{first_known, IsWhole, RootStands}
use Rattle.block_carry.proofs.Values.{some_is}
use Rattle.block_carry.proofs.Stays.{task}
use Rattle.block_carry.proofs.Whole.{names_length, begins_in}

-- a number has a name, and its buffer so many cells
abbrev IsBuffer : Known → ℕ → MadeName → List ℕ → Type 0
IsBuffer k b name dims = (slice_get k.names.buffers b ≡ Some name) × (slice_get k.cells b ≡ Some (product dims))

buffer_same : (k : Known) (b : ℕ) (name : MadeName) (dims : List ℕ) → length dims ≤ 4 → IsBuffer k b name dims → IsSame k (Memory name dims) (buffer_val b dims)
buffer_same k b name [] few h = (h.0, refl, h.1)
buffer_same k b name (x ∷ []) few h = (h.0, refl, h.1)
buffer_same k b name (x ∷ y ∷ []) few h = (h.0, refl, h.1)
buffer_same k b name (x ∷ y ∷ z ∷ []) few h = (h.0, refl, h.1)
buffer_same k b name (x ∷ y ∷ z ∷ u ∷ []) few h = (h.0, refl, h.1)
buffer_same k b name (x ∷ y ∷ z ∷ u ∷ v ∷ dims) few h = absurd (omega (arith, few))

same_from : (k : Known) (j b : ℕ) (args : List ArgValue) → Each IsWhole args → ((i : ℕ) (n : MadeName) → slice_get (argument_names j args) i ≡ Some n → slice_get k.names.buffers (b + i) ≡ Some n) →
    ((i c : ℕ) → slice_get (map length (argument_cells args)) i ≡ Some c → slice_get k.cells (b + i) ≡ Some c) → AreSame k (arguments j args) (argument_vals b args)
same_from k j b [] fit names cells = tt
same_from k j b (arg.Number n ∷ args) fit names cells = (refl, same_from k (j + 1) b args fit.1 names cells)
same_from k j b (arg.Cells dims cs ∷ args) fit names cells = (
  buffer_same k b (Argument j) dims fit.0.1
      (subst (λ q. slice_get k.names.buffers q ≡ Some (Argument j)) (start b) (names zero (Argument j) refl), subst (λ q. slice_get k.cells q ≡ Some (product dims)) (start b) (cells zero (product dims) (ap Some fit.0.0))),
  same_from k (j + 1) (b + 1) args fit.1 (λ i n e. subst (λ q. slice_get k.names.buffers q ≡ Some n) (next b i) (names (suc i) n e)) (λ i c e. subst (λ q. slice_get k.cells q ≡ Some c) (next b i) (cells (suc i) c e)),
)
  where
    start : (b : ℕ) → b + zero ≡ b
    start b = omega arith

    next : (b i : ℕ) → b + suc i ≡ b + 1 + i
    next b i = omega arith

arguments_length : (j : ℕ) (args : List ArgValue) → length (arguments j args) ≡ length args
arguments_length j [] = refl
arguments_length j (a ∷ args) = ap suc (arguments_length (j + 1) args)

from_zero : {X : Type 0} (xs : List X) (i : ℕ) (x : X) → slice_get xs i ≡ Some x → slice_get xs (0 + i) ≡ Some x
from_zero xs i x e = subst (λ q. slice_get xs q ≡ Some x) (let z : i ≡ 0 + i = omega arith in z) e

pub root_stands : RootStands
root_stands p code all entry func f args is fis many fit =
    let k : Known = first_known args in
    let l : IsLaidFunc p code entry func = all entry func is in
    subst (λ h. Stands p code k (root_task p entry args) (root_stack (record { 0 = entry }) h (argument_vals 0 args))) (some_is l.f f (sym l.is ∙ fis))
    (subst (λ c. Stands p code k (task p code entry InFunction (func_ops c) [] (bind (names_of (func_params c)) (arguments 0 args) [])) (root_stack (record { 0 = entry }) l.f (argument_vals 0 args))) (sym is)
    (begins_in p code all k entry func l [] (arguments 0 args) (argument_vals 0 args) true []
    (same_from k 0 0 args fit (λ i n e. from_zero (argument_names 0 args) i n e) (λ i c e. from_zero (map length (argument_cells args)) i c e))
    (omega (arith, many, names_length func.params, arguments_length 0 args))
    (λ scope env. stand.ends entry l.f (length func.results) scope env)))
