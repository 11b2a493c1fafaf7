-- A function that ends in its return is no task, nor is it one once its parallel loops are functions.
use Rattle.std.proofs.Common.{◌≡◌, ℕ, zero, suc, ◌-◌, not, ◌&&◌, Bool, true, false, cond, List, [], ◌∷◌, ◌++◌, map, length, Option, Some, None, refl, sym, ap, ap₂, subst, ◌∙◌, arith, true≢false, ◌+◌}
use Rattle.std.specs.Prelude.{slice_get}
use Rattle.op_table.specs.declared.kind.OpKind.{OpKind}
use Rattle.op_table.specs.declared.kind.OpKind.TheVariants as op
use Rattle.op_table.specs.declared.form.Form.TheVariants as form
use Rattle.op_table.specs.Rows.{row_of}
use Rattle.ir_forms.specs.declared.ops.Func.{Func}
use Rattle.ir_forms.specs.declared.ops.Op.{Op, Op-F, out-Op, out-roll-Op, roll-Op}
use Rattle.ir_forms.specs.declared.ops.Op.TheFolds.{fold-Op, fold_out-Op, fold_out-Region}
use Rattle.ir_forms.specs.declared.ops.Region.{Region, Region-F, out-Region, out-roll-Region}
use Rattle.ir_forms.specs.Numbers.{joined}
use Rattle.ir_forms.specs.Ops.{kind_of, ops_of}
use Rattle.ir_verify.specs.declared.place.Nest.{Nest}
use Rattle.ir_verify.specs.Breaks.{lacks_end}
use Rattle.ir_verify.specs.Calls.{is_marked}
use Rattle.ir_verify.specs.Forms.{ends, is_ending}
use Rattle.ir_verify.specs.Places.{nest_in}
use Rattle.made_funcs.specs.Values.{Typed}
use Rattle.source_meaning.specs.Renaming.{op_renamed, region_renamed, renamed_region}
use Rattle.loop_blocks.specs.declared.options.Options.{Options}
use Rattle.parallel_for.specs.declared.walk.Next.{Next}
use Rattle.parallel_for.specs.Shape.{Splitting, in_order, is_parallel, is_reduce, kept_op, loop_region, op_split, region_split, split_as, split_func, split_funcs, split_op, split_region}
use Rattle.scf_blocks.specs.Lowered.{is_task, is_task_yield, ends_task}
use Rattle.line_laws.proofs.Places.{nowhere}
use Rattle.line_laws.proofs.Ends.{by_form, is_by_kinds, last_kind}

-- ---- lists

-- there are operations, and the last one isn't a task's end
abbrev pub Stays : List Op → Type 0
Stays [] = ⊥
Stays (o ∷ []) = is_task_yield (row_of (kind_of o)).form ≡ false
Stays (o ∷ p ∷ ops) = Stays (p ∷ ops)

stays_alone : (ops : List Op) → Stays ops → Stays (ops ++ [])
stays_alone [] s = s
stays_alone (o ∷ []) s = s
stays_alone (o ∷ p ∷ ops) s = stays_alone (p ∷ ops) s

stays_behind : (before ops : List Op) → Stays ops → Stays (before ++ ops)
stays_behind [] ops s = s
stays_behind (o ∷ []) [] s = absurd s
stays_behind (o ∷ []) (p ∷ ops) s = s
stays_behind (o ∷ p ∷ before) ops s = stays_behind (p ∷ before) ops s

stays_plain : (ops : List Op) → Stays ops → is_task ops ≡ false
stays_plain [] s = absurd s
stays_plain (o ∷ []) s = s
stays_plain (o ∷ p ∷ ops) s =
    let last : suc (suc (length ops)) - 1 ≡ suc (suc (length ops) - 1) = omega arith in
    ap (λ k. ends_task (slice_get (o ∷ p ∷ ops) k)) last ∙ stays_plain (p ∷ ops) s

-- ---- kinds that end a function

-- an operation of this kind ends a function
abbrev Returns : OpKind → Type 0
Returns k = (is_ending form.Return && not (ends form.Return (row_of k).form)) ≡ false

no_loop : (k : OpKind) → Returns k → is_parallel k ≡ false
no_loop op.ScfParallel e = absurd (true≢false e)
no_loop _ e = refl

no_reduce : (k : OpKind) → Returns k → is_reduce k ≡ false
no_reduce op.ScfReduce e = absurd (true≢false e)
no_reduce _ e = refl

-- ---- split

module _ (options : Options) (funcs : List Func) (called : Bool) (values : Typed) where
  abbrev layer : Op-F Op Region → Op-F (Splitting (List Op)) (Splitting Region)
  layer o = record { kind = o.kind; at = o.at; operands = o.operands; groups = o.groups; written = o.written; results = o.results; types = o.types; attr = o.attr; regions = map (split_region options funcs called values) o.regions }

  abbrev whole : Op-F (Splitting (List Op)) (Splitting Region) → List Region → Op-F Op Region
  whole o regions = record { kind = o.kind; at = o.at; operands = o.operands; groups = o.groups; written = o.written; results = o.results; types = o.types; attr = o.attr; regions = regions }

  kept_stays : (o : Op-F (Splitting (List Op)) (Splitting Region)) (regions : List Region) → Returns o.kind → Stays (kept_op o regions)
  kept_stays o regions e =
      subst (λ (b : Bool). Stays (cond b [] (roll-Op (whole o regions) ∷ []))) (sym (no_reduce o.kind e))
      (ap (λ (x : Op-F Op Region). is_task_yield (row_of x.kind).form) (out-roll-Op (whole o regions)) ∙ by_form (row_of o.kind).form e)

  as_stays : (o : Op-F (Splitting (List Op)) (Splitting Region)) (nest : Nest) (n : Next) → Returns o.kind → Stays (op_split options funcs called values o nest n).0
  as_stays o nest n e =
      subst (λ (b : Bool). Stays (split_as options funcs called values o (cond b (slice_get o.regions 0) None) nest n).0) (sym (no_loop o.kind e))
      (kept_stays o (in_order (nest_in o.kind nest) o.regions n).0 e)

  one_stays : (o : Op) (nest : Nest) (n : Next) → Returns (kind_of o) → Stays (split_op options funcs called values o nest n).0
  one_stays o nest n e =
      subst (λ (f : Splitting (List Op)). Stays (f nest n).0)
      (sym (fold_out-Op (Splitting (List Op)) (Splitting Region) (op_split options funcs called values) (region_split options funcs called values) o))
      (as_stays (layer (out-Op o)) nest n e)

  ops_stay : (o : Op) (ops : List Op) (nest : Nest) (n : Next) → lacks_end form.Return (o ∷ ops) ≡ false
      → Stays (joined (in_order nest (map (split_op options funcs called values) (o ∷ ops)) n).0)
  ops_stay o [] nest n e = stays_alone (split_op options funcs called values o nest n).0 (one_stays o nest n e)
  ops_stay o (p ∷ ops) nest n e =
      stays_behind (split_op options funcs called values o nest n).0
      (joined (in_order nest (map (split_op options funcs called values) (p ∷ ops)) (split_op options funcs called values o nest n).2).0)
      (ops_stay p ops nest (split_op options funcs called values o nest n).2 e)

  ops_plain : (ops : List Op) (nest : Nest) (n : Next) → lacks_end form.Return ops ≡ false
      → is_task (joined (in_order nest (map (split_op options funcs called values) ops) n).0) ≡ false
  ops_plain [] nest n e = refl
  ops_plain (o ∷ ops) nest n e = stays_plain (joined (in_order nest (map (split_op options funcs called values) (o ∷ ops)) n).0) (ops_stay o ops nest n e)

  ops_made : (region : Region) (nest : Nest) (n : Next) → ops_of (split_region options funcs called values region nest n).0 ≡ joined (in_order nest (map (split_op options funcs called values) (ops_of region)) n).0
  ops_made region nest n =
      ap (λ (f : Splitting Region). ops_of (f nest n).0)
      (fold_out-Region (Splitting (List Op)) (Splitting Region) (op_split options funcs called values) (region_split options funcs called values) region)
      ∙ ap (λ (x : Region-F Op Region). x.ops) (out-roll-Region _)

  pub split_plain : (region : Region) (nest : Nest) (n : Next) → lacks_end form.Return (ops_of region) ≡ false
      → is_task (ops_of (split_region options funcs called values region nest n).0) ≡ false
  split_plain region nest n e = ap is_task (ops_made region nest n) ∙ ops_plain (ops_of region) nest n e

-- ---- under other numbers of values

module _ (σ : ℕ → ℕ) where
  abbrev other_op : Op → Op
  other_op = fold-Op Op Region (op_renamed σ) (region_renamed σ)

  kind_other : (o : Op) → kind_of (other_op o) ≡ kind_of o
  kind_other o = ap kind_of (fold_out-Op Op Region (op_renamed σ) (region_renamed σ) o) ∙ ap (λ (x : Op-F Op Region). x.kind) (out-roll-Op _)

  kinds_other : (ops : List Op) → map kind_of (map other_op ops) ≡ map kind_of ops
  kinds_other [] = refl
  kinds_other (o ∷ ops) = ap₂ (λ (k : OpKind) ks. k ∷ ks) (kind_other o) (kinds_other ops)

  ops_other : (region : Region) → ops_of (renamed_region σ region) ≡ map other_op (ops_of region)
  unfolding renamed_region
  ops_other region = ap ops_of (fold_out-Region Op Region (op_renamed σ) (region_renamed σ) region) ∙ ap (λ (x : Region-F Op Region). x.ops) (out-roll-Region _)

  pub renamed_alike : (region : Region) → is_task (ops_of (renamed_region σ region)) ≡ is_task (ops_of region)
  renamed_alike region =
      ap is_task (ops_other region)
      ∙ is_by_kinds (map other_op (ops_of region))
      ∙ ap last_kind (kinds_other (ops_of region))
      ∙ sym (is_by_kinds (ops_of region))

-- ---- a module

-- a function keeps its number
pub split_at : (options : Options) (funcs : List Func) (called : List Bool) (place : ℕ) (fs : List Func) (k n : ℕ) (f : Func) → slice_get fs n ≡ Some f
    → (mark : Bool) × (m : ℕ) × (slice_get (split_funcs options funcs called place fs k).0 n ≡ Some (record f { body = (split_func options funcs mark f m).0 }))
split_at options funcs called place [] k n f e = nowhere n f e
split_at options funcs called place (g ∷ fs) k zero f e =
    let same : g ≡ f = cc in
    let mark : Bool = is_marked (slice_get called place) in
    (mark, k, ap (λ (h : Func). Some (record h { body = (split_func options funcs mark h k).0 })) same)
split_at options funcs called place (g ∷ fs) k (suc n) f e =
    split_at options funcs called (place + 1) fs (split_func options funcs (is_marked (slice_get called place)) g k).2.loops n f e
