-- A function that ends in its return is no task, nor is it one once its tasks are functions.
use Rattle.std.proofs.Common.{◌≡◌, ℕ, zero, suc, ◌+◌, ◌-◌, not, ◌&&◌, Bool, true, false, List, [], ◌∷◌, ◌++◌, map, length, Option, Some, None, refl, sym, ap, ap₂, ◌∙◌, arith, true≢false}
use Rattle.std.specs.Prelude.{slice_get}
use Rattle.std.specs.Option.{option_map}
use Rattle.std.proofs.lemmas.List.{length-map}
use Rattle.std.proofs.lemmas.Option.{slice_get-map}
use Rattle.op_table.specs.declared.kind.OpKind.{OpKind}
use Rattle.op_table.specs.declared.form.Form.{Form}
use Rattle.op_table.specs.declared.form.Form.TheVariants as form
use Rattle.op_table.specs.Rows.{row_of}
use Rattle.ir_forms.specs.declared.ops.Func.{Func}
use Rattle.ir_forms.specs.declared.ops.Op.{Op, Op-F, out-Op, out-roll-Op}
use Rattle.ir_forms.specs.declared.ops.Op.TheFolds.{fold_out-Op, fold_out-Region}
use Rattle.ir_forms.specs.declared.ops.Region.{Region, out-roll-Region}
use Rattle.ir_forms.specs.Ops.{kind_of, ops_of}
use Rattle.ir_verify.specs.Breaks.{lacks_end}
use Rattle.ir_verify.specs.Forms.{ends, is_ending}
use Rattle.scf_blocks.specs.Lowered.{ends_task, is_task, is_task_yield}
use Rattle.line_laws.proofs.Places.{nowhere}
use Rattle.exec_outline.specs.Shape.{Outlining, Typed, in_order, op_outlined, outlined_as, outlined_op, outlined_region, region_outlined, task_region}

pub by_form : (t : Form) → (is_ending form.Return && not (ends form.Return t)) ≡ false → is_task_yield t ≡ false
by_form form.TaskYield e = absurd (true≢false e)
by_form form.Return e = refl
by_form _ e = refl

-- whether operations of these kinds end as a task's
abbrev pub last_yields : Option OpKind → Bool
last_yields None = false
last_yields (Some kind) = is_task_yield (row_of kind).form

-- ---- outlined

abbrev pub last_kind : List OpKind → Bool
last_kind kinds = last_yields (slice_get kinds (length kinds - 1))

yields_as : (o : Option Op) → ends_task o ≡ last_yields (option_map kind_of o)
yields_as None = refl
yields_as (Some op) = refl

pub is_by_kinds : (ops : List Op) → is_task ops ≡ last_kind (map kind_of ops)
is_by_kinds ops =
    yields_as (slice_get ops (length ops - 1))
    ∙ ap last_yields (sym (slice_get-map kind_of ops (length ops - 1)))
    ∙ ap (λ n. last_yields (slice_get (map kind_of ops) (n - 1))) (sym (length-map ops kind_of))

module _ (funcs : List Func) (values : Typed) where
  abbrev layer : Op-F Op Region → Op-F (Outlining Op) (Outlining Region)
  layer o = record { kind = o.kind; at = o.at; operands = o.operands; groups = o.groups; written = o.written; results = o.results; types = o.types; attr = o.attr; regions = map (outlined_region funcs values) o.regions }

  kind_as : (o : Op-F (Outlining Op) (Outlining Region)) (region : Option (ℕ → Region × List Func)) (k : ℕ) → kind_of (outlined_as funcs values o region k).0 ≡ o.kind
  kind_as o (Some r) k = ap (λ x. x.kind) (out-roll-Op _)
  kind_as o None k = ap (λ x. x.kind) (out-roll-Op _)

  kind_kept : (op : Op) (k : ℕ) → kind_of (outlined_op funcs values op k).0 ≡ kind_of op
  kind_kept op k =
      ap (λ (f : Outlining Op). kind_of (f k).0) (fold_out-Op (Outlining Op) (Outlining Region) (op_outlined funcs values) (region_outlined funcs values) op)
      ∙ kind_as (layer (out-Op op)) (task_region (out-Op op).kind (layer (out-Op op)).regions) k

  kinds_kept : (ops : List Op) (k : ℕ) → map kind_of (in_order (map (outlined_op funcs values) ops) k).0 ≡ map kind_of ops
  kinds_kept [] k = refl
  kinds_kept (op ∷ ops) k = ap₂ (λ (x : OpKind) xs. x ∷ xs) (kind_kept op k) (kinds_kept ops (k + length (outlined_op funcs values op k).1))

  ops_made : (region : Region) (k : ℕ) → ops_of (outlined_region funcs values region k).0 ≡ (in_order (map (outlined_op funcs values) (ops_of region)) k).0
  ops_made region k =
      ap (λ (f : Outlining Region). ops_of (f k).0) (fold_out-Region (Outlining Op) (Outlining Region) (op_outlined funcs values) (region_outlined funcs values) region)
      ∙ ap (λ x. x.ops) (out-roll-Region _)

  -- a region ends as it did before
  pub ends_alike : (region : Region) (k : ℕ) → is_task (ops_of (outlined_region funcs values region k).0) ≡ is_task (ops_of region)
  ends_alike region k =
      ap is_task (ops_made region k)
      ∙ is_by_kinds (in_order (map (outlined_op funcs values) (ops_of region)) k).0
      ∙ ap last_kind (kinds_kept (ops_of region) k)
      ∙ sym (is_by_kinds (ops_of region))

-- the function of a number stands at its number, before the functions of tasks
pub stands_at : {A : Type 0} (f : A → Outlining A) (xs : List A) (n k : ℕ) (x : A) (more : List A) → slice_get xs n ≡ Some x
    → (j : ℕ) × (slice_get ((in_order (map f xs) k).0 ++ more) n ≡ Some (f x j).0)
stands_at f [] n k x more at = nowhere n x at
stands_at f (y ∷ xs) zero k x more at = let e : y ≡ x = cc in (k, ap (λ z. Some (f z k).0) e)
stands_at f (y ∷ xs) (suc n) k x more at = stands_at f xs n (k + length (f y k).1) x more at
