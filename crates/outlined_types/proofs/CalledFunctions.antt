-- A call names the function that it named before, once the tasks are functions.
use Rattle.std.proofs.Common.{◌≡◌, ℕ, zero, suc, ◌+◌, ◌-◌, not, ◌&&◌, Bool, true, false, List, [], ◌∷◌, ◌++◌, map, length, Option, Some, None, refl, sym, ap, ap₂, ◌∙◌, arith, true≢false}
use Rattle.std.specs.Prelude.{slice_get}
use Rattle.std.specs.Option.{option_map}
use Rattle.std.proofs.lemmas.List.{length-map}
use Rattle.std.proofs.lemmas.Option.{slice_get-map}
use Rattle.op_table.specs.declared.kind.OpKind.{OpKind}
use Rattle.op_table.specs.declared.form.Form.{Form}
use Rattle.op_table.specs.declared.form.Form.TheVariants as form
use Rattle.op_table.specs.Rows.{row_of}
use Rattle.ir_forms.specs.declared.ops.Attr.{Attr}
use Rattle.ir_forms.specs.declared.ops.Attr.TheVariants as attr
use Rattle.ir_forms.specs.declared.ops.Func.{Func}
use Rattle.ir_forms.specs.declared.ops.Module.{Module}
use Rattle.ir_forms.specs.declared.ops.Op.{Op, Op-F, out-Op, out-roll-Op}
use Rattle.ir_forms.specs.declared.ops.Op.TheFolds.{fold_out-Op, fold_out-Region}
use Rattle.ir_forms.specs.declared.ops.Region.{Region, out-roll-Region}
use Rattle.ir_forms.specs.Ops.{attr_of, kind_of, ops_of}
use Rattle.ir_verify.specs.declared.fault.VerifyKind.TheVariants.{Terminator}
use Rattle.ir_verify.specs.Breaks.{lacks_end}
use Rattle.ir_verify.specs.Forms.{ends, is_ending}
use Rattle.ir_verify.specs.Names.{first_named}
use Rattle.ir_verify.specs.Places.{called, named}
use Rattle.ir_verify.specs.Verdict.{IsSound, at_function}
use Rattle.ir_verify.proofs.NameLemmas.{named_at, named_none}
use Rattle.scf_blocks.specs.Lowered.{ends_task, is_task, is_task_yield}
use Rattle.exec_outline.specs.Shape.{Outlining, Typed, in_order, op_outlined, outlined, outlined_as, outlined_func, outlined_op, outlined_region, region_outlined, task_region, values_of}
use Rattle.outline_laws.specs.Laws.{tasks_of}
use Rattle.outline_laws.proofs.Tasks.{functions_found}
use Rattle.outlined_types.specs.Called.{CalledAreFound}
use Rattle.outlined_types.specs.Operations.{IsFound}

-- ---- operations that end in a return are no task's

by_form : (t : Form) → (is_ending form.Return && not (ends form.Return t)) ≡ false → is_task_yield t ≡ false
by_form form.TaskYield e = absurd (true≢false e)
by_form form.Return e = refl
by_form _ e = refl

-- whether operations of these kinds end as a task's
abbrev last_yields : Option OpKind → Bool
last_yields None = false
last_yields (Some kind) = is_task_yield (row_of kind).form

pub no_task : (ops : List Op) → lacks_end form.Return ops ≡ false → is_task ops ≡ false
no_task [] e = refl
no_task (op ∷ []) e = by_form (row_of (kind_of op)).form e
no_task (op ∷ o ∷ ops) e =
    let last : suc (suc (length ops)) - 1 ≡ suc (suc (length ops) - 1) = omega arith in
    ap (λ k. ends_task (slice_get (op ∷ o ∷ ops) k)) last ∙ no_task (o ∷ ops) e

abbrev last_kind : List OpKind → Bool
last_kind kinds = last_yields (slice_get kinds (length kinds - 1))

yields_as : (o : Option Op) → ends_task o ≡ last_yields (option_map kind_of o)
yields_as None = refl
yields_as (Some op) = refl

is_by_kinds : (ops : List Op) → is_task ops ≡ last_kind (map kind_of ops)
is_by_kinds ops =
    yields_as (slice_get ops (length ops - 1))
    ∙ ap last_yields (sym (slice_get-map kind_of ops (length ops - 1)))
    ∙ ap (λ n. last_yields (slice_get (map kind_of ops) (n - 1))) (sym (length-map ops kind_of))

module _ (funcs : List Func) (values : Typed) where
  abbrev layer : Op-F Op Region → Op-F (Outlining Op) (Outlining Region)
  layer o = record { kind = o.kind; at = o.at; operands = o.operands; groups = o.groups; written = o.written; results = o.results; types = o.types; attr = o.attr; regions = map (outlined_region funcs values) o.regions }

  kind_as : (o : Op-F (Outlining Op) (Outlining Region)) (region : Option (ℕ → Region × List Func)) (k : ℕ) → kind_of (outlined_as funcs values o region k).0 ≡ o.kind
  kind_as o (Some r) k = ap (λ x. x.kind) (out-roll-Op _)
  kind_as o None k = ap (λ x. x.kind) (out-roll-Op _)

  kind_kept : (op : Op) (k : ℕ) → kind_of (outlined_op funcs values op k).0 ≡ kind_of op
  kind_kept op k =
      ap (λ (f : Outlining Op). kind_of (f k).0) (fold_out-Op (Outlining Op) (Outlining Region) (op_outlined funcs values) (region_outlined funcs values) op)
      ∙ kind_as (layer (out-Op op)) (task_region (out-Op op).kind (layer (out-Op op)).regions) k

  kinds_kept : (ops : List Op) (k : ℕ) → map kind_of (in_order (map (outlined_op funcs values) ops) k).0 ≡ map kind_of ops
  kinds_kept [] k = refl
  kinds_kept (op ∷ ops) k = ap₂ (λ (x : OpKind) xs. x ∷ xs) (kind_kept op k) (kinds_kept ops (k + length (outlined_op funcs values op k).1))

  ops_made : (region : Region) (k : ℕ) → ops_of (outlined_region funcs values region k).0 ≡ (in_order (map (outlined_op funcs values) (ops_of region)) k).0
  ops_made region k =
      ap (λ (f : Outlining Region). ops_of (f k).0) (fold_out-Region (Outlining Op) (Outlining Region) (op_outlined funcs values) (region_outlined funcs values) region)
      ∙ ap (λ x. x.ops) (out-roll-Region _)

  -- a region ends as it did before
  pub ends_alike : (region : Region) (k : ℕ) → is_task (ops_of (outlined_region funcs values region k).0) ≡ is_task (ops_of region)
  ends_alike region k =
      ap is_task (ops_made region k)
      ∙ is_by_kinds (in_order (map (outlined_op funcs values) (ops_of region)) k).0
      ∙ ap last_kind (kinds_kept (ops_of region) k)
      ∙ sym (is_by_kinds (ops_of region))

-- ---- the named function

-- the function of a number stands at its number, before the functions of tasks
func_stands : (funcs fs : List Func) (n k : ℕ) (f : Func) (more : List Func) → slice_get fs n ≡ Some f
    → (j : ℕ) × (slice_get ((in_order (map (outlined_func funcs) fs) k).0 ++ more) n ≡ Some (outlined_func funcs f j).0)
func_stands funcs [] n k f more at = cc
func_stands funcs (g ∷ fs) zero k f more at = let e : g ≡ f = cc in (k, ap (λ z. Some (outlined_func funcs z k).0) e)
func_stands funcs (g ∷ fs) (suc n) k f more at = func_stands funcs fs n (k + length (outlined_func funcs g k).1) f more at

module _ (program : Module) (sound : IsSound program.funcs) (o : Op) (f : Func) where
  abbrev funcs : List Func
  funcs = program.funcs

  found : (name : List ℕ) → attr_of o ≡ attr.Callee name → (place : ℕ) → first_named funcs name ≡ Some place → slice_get funcs place ≡ Some f → IsFound (outlined program) o f
  found name carries place first at =
      let there = func_stands funcs funcs place 0 f (tasks_of program) at in
      let lacks : lacks_end form.Return (ops_of f.body) ≡ false = is_false (lacks_end form.Return (ops_of f.body)) (λ h. sound _ (at_function place f Terminator at h)) in
      record {
        func = (outlined_func funcs f there.0).0;
        names = record { name = name; place = place; carries = carries; first = functions_found program name place first; at = there.1 };
        plainly = ends_alike funcs (values_of f) f.body there.0 ∙ no_task (ops_of f.body) lacks;
        params = refl;
        results = refl;
      }
    where
      is_false : (b : Bool) → (b ≡ true → ⊥) → b ≡ false
      is_false true none = absurd (none refl)
      is_false false none = refl

  by_name : (a : Attr) → attr_of o ≡ a → called funcs a ≡ Some f → IsFound (outlined program) o f
  by_name (attr.Callee name) carries is = step (first_named funcs name) refl
    where
      step : (p : Option ℕ) → first_named funcs name ≡ p → IsFound (outlined program) o f
      step None first = (let none : named funcs name ≡ None = named_none funcs name first in let some : named funcs name ≡ Some f = is in cc)
      step (Some place) first = found name carries place first (sym (named_at funcs name place first) ∙ is)
  by_name attr.None carries is = cc
  by_name (attr.Literal negative magnitude) carries is = cc
  by_name (attr.Truth bit) carries is = cc
  by_name (attr.Pred p) carries is = cc
  by_name (attr.Text text) carries is = cc

pub called_are_found : CalledAreFound
called_are_found program sound o f is = by_name program sound o f (attr_of o) refl is
