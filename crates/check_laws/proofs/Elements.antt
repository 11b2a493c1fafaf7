-- In a module with its checks, its values numbered or not, what is awaited are tokens and values of tasks.
use Rattle.std.proofs.Common.{◌≡◌, ℕ, List, [], ◌∷◌, Some, slice_get, refl, sym, subst}
use Rattle.op_table.specs.declared.form.Form.{Form}
use Rattle.op_table.specs.declared.form.Form.TheVariants.{Execute, Await, AddToGroup}
use Rattle.op_table.specs.Rows.{row_of}
use Rattle.ir_forms.specs.declared.args.ArgValue.{ArgValue}
use Rattle.ir_forms.specs.declared.ops.Module.{Module}
use Rattle.ir_forms.specs.declared.ops.Op.{Op, out-Op}
use Rattle.ir_verify.specs.Forms.{form}
use Rattle.source_meaning.specs.declared.values.Val.{Val}
use Rattle.source_meaning.specs.Values.{Env, values_at}
use Rattle.source_meaning.specs.Parts.{Node}
use Rattle.source_meaning.specs.Renaming.{renamed_ops, renamed_node, Sees, LikeTask, LikePending, done, awaits, joining, failing}
use Rattle.source_meaning.specs.Sequential.{IsProgram}
use Rattle.source_meaning.specs.Tasks.{Program, Pending, Task}
use Rattle.carry_laws.specs.Agreement.{IsTaskOf}
use Rattle.check_insert.specs.Shape as shape
use Rattle.number_laws.specs.Laws.{places_of}
use Rattle.typed_laws.specs.Typed.{AreGood, AreElements}
use Rattle.typed_laws.proofs.Typings.{elements_fit}
use Rattle.check_laws.specs.Laws.{IsWellFormed, AreArguments, ElementsAt, HasElements, PassHasElements}
use Rattle.check_laws.proofs.Ahead.{at_mapped, checked_good}
use Rattle.check_laws.proofs.Numbered.{parts, values_same, of_checked}

-- ---- under other names

elements_renamed : (σ : ℕ → ℕ) (f : Form) (n : Node) (vs : List Val) → AreElements f n vs → AreElements f (renamed_node σ n) vs
elements_renamed σ Execute n vs h = h
elements_renamed σ Await n vs h = h
elements_renamed σ AddToGroup n vs h = h
elements_renamed σ f n vs h = tt

module _ (σ : ℕ → ℕ → ℕ) where
  elements_ops : (k : ℕ) (env other : Env) → Sees σ k env other → (os : List Op) → ElementsAt [] os env → ElementsAt [] (renamed_ops (σ k) os) other
  elements_ops k env other h [] e = tt
  elements_ops k env other h (o ∷ os) e =
      subst (λ (n : Node). AreElements (row_of n.kind).form n (values_at other n.operands)) (sym (parts (σ k) o))
      (subst (AreElements (form o) (renamed_node (σ k) (out-Op o))) (sym (values_same σ k env other h (out-Op o).operands))
      (elements_renamed (σ k) (form o) (out-Op o) (values_at env (out-Op o).operands) e))

  elements_pending : (k : ℕ) (env other : Env) → Sees σ k env other → (os : List Op) {ps qs : List Pending} → LikePending σ k ps qs → ElementsAt ps os env → ElementsAt qs (renamed_ops (σ k) os) other
  elements_pending k env other h os done e = elements_ops k env other h os e
  elements_pending k env other h os (awaits at x xs m) e = tt
  elements_pending k env other h os (joining at l m like n) e = tt
  elements_pending k env other h os (failing at m) e = tt

  elements_like : (t u : Task) → LikeTask σ t u → HasElements t → HasElements u
  elements_like t u h e = subst (λ os. ElementsAt u.pending os u.scope.env) (sym h.rest) (elements_pending t.scope.func t.scope.env u.scope.env h.scope.sees t.rest h.pending e)

-- ---- with the checks

checked_has_elements : (program : Module) (q : Program) (entry : ℕ) (args : List ArgValue) → IsWellFormed program.funcs → IsProgram (shape.checked program) q → AreArguments program.funcs entry args → (t : Task) → IsTaskOf q entry args t → HasElements t
checked_has_elements program q entry args h iq a t is = go t.pending t.rest refl refl where
  good : AreGood q.funcs
  good = subst AreGood (sym iq.funcs) (checked_good program h)

  found : slice_get q.funcs entry ≡ Some (shape.checked_func a.func)
  found = subst (λ fs. slice_get fs entry ≡ Some (shape.checked_func a.func)) (sym iq.funcs) (at_mapped program.funcs entry a.func a.found)

  go : (ps : List Pending) (os : List Op) → t.pending ≡ ps → t.rest ≡ os → ElementsAt ps os t.scope.env
  go [] [] e f = tt
  go [] (o ∷ rest) e f = elements_fit q entry (shape.checked_func a.func) args good found a.fit t o rest is e f
  go (p ∷ ps) os e f = tt

pub pass_has_elements : PassHasElements
pass_has_elements program r entry args h ir a u is =
    let t = of_checked program r entry args h.sound ir u is in
    elements_like (places_of (shape.checked program)) t.task u t.like (checked_has_elements program t.program_of entry args h t.is a t.task t.there)
