-- What an operation becomes, by its parts.
use Rattle.std.proofs.Common.{◌≡◌, refl, ap, sym, subst, ◌∙◌, ◌++◌, ℕ, Bool, true, false, cond, List, [], ◌∷◌, Option, Some, None, map}
use Rattle.std.specs.Prelude.{slice_get, ◌+◌}
use Rattle.std.specs.Option.{option_map}
use Rattle.ir_forms.specs.declared.ops.Func.{Func}
use Rattle.ir_forms.specs.declared.ops.Op.{Op, Op-F, out-Op, roll-Op}
use Rattle.ir_forms.specs.declared.ops.Op.TheFolds.{fold_out-Op, fold_out-Region}
use Rattle.ir_forms.specs.declared.ops.Region.{Region, out-Region, roll-Region}
use Rattle.ir_forms.specs.declared.ops.ValueNo.{ValueNo}
use Rattle.ir_forms.specs.declared.types.Ty.{Ty}
use Rattle.ir_verify.specs.declared.place.Nest.{Nest}
use Rattle.ir_forms.specs.declared.ops.Module.{Module}
use Rattle.ir_verify.specs.Calls.{AreMarks, graph_of}
use Rattle.ir_verify.specs.Places.{nest_in}
use Rattle.source_meaning.specs.Steps.{split_in}
use Rattle.value_numbers.specs.Numbers.{value_numbered}
use Rattle.made_ops.specs.declared.insertion.Insertion.{Insertion}
use Rattle.loop_blocks.specs.declared.told.Plan.{Plan}
use Rattle.loop_blocks.specs.declared.options.Options.{Options}
use Rattle.loop_blocks.specs.Made.{Typed}
use Rattle.parallel_for.specs.declared.walk.Next.{Next}
use Rattle.parallel_for.specs.Shape.{IsSplit, Splitting, flat, in_order, is_parallel, kept, kept_op, loop_funcs, loop_region, looped, module_of, op_split, planned, region_split, region_with, replacement, split, split_as, split_funcs, split_op, split_region}

module _ (options : Options) (funcs : List Func) (called : Bool) (values : Typed) where
  -- an operation with what its regions become in their place
  abbrev layer : Op-F Op Region → Op-F (Splitting (List Op)) (Splitting Region)
  layer o = record { kind = o.kind; at = o.at; operands = o.operands; groups = o.groups; written = o.written; results = o.results; types = o.types; attr = o.attr; regions = map (split_region options funcs called values) o.regions }

  region_mapped : (b : Bool) (rs : List Region) → cond b (slice_get (map (split_region options funcs called values) rs) 0) None ≡ option_map (split_region options funcs called values) (cond b (slice_get rs 0) None)
  region_mapped true [] = refl
  region_mapped true (r ∷ rs) = refl
  region_mapped false rs = refl

  parts : (op : Op) (nest : Nest) (n : Next) → split_op options funcs called values op nest n ≡ split_as options funcs called values (layer (out-Op op)) (option_map (split_region options funcs called values) (loop_region (out-Op op).kind (out-Op op).regions)) nest n
  parts op nest n =
      ap (λ (f : Splitting (List Op)). f nest n) (fold_out-Op (Splitting (List Op)) (Splitting Region) (op_split options funcs called values) (region_split options funcs called values) op)
      ∙ ap (λ (o : Option (Splitting Region)). split_as options funcs called values (layer (out-Op op)) o nest n) (region_mapped (is_parallel (out-Op op).kind) (out-Op op).regions)

  -- a loop, from what its region becomes
  pub loop_made : (op : Op) (nest within : Nest) (n begun last : Next) (region body : Region) (inner : List Func) → Some region ≡ loop_region (out-Op op).kind (out-Op op).regions
      → within ≡ nest_in (out-Op op).kind nest → begun ≡ record n { loops = n.loops + 1 }
      → split_region options funcs called values region within begun ≡ (body, inner, last) → split_op options funcs called values op nest n ≡ looped options funcs called values (out-Op op) nest n (body, inner, last)
  loop_made op nest within n begun last region body inner is is_within is_begun made =
      parts op nest n
      ∙ ap (λ (o : Option Region). split_as options funcs called values (layer (out-Op op)) (option_map (split_region options funcs called values) o) nest n) (sym is)
      ∙ ap (λ (w : Nest). looped options funcs called values (out-Op op) nest n (split_region options funcs called values region w (record n { loops = n.loops + 1 }))) (sym is_within)
      ∙ ap (λ (m : Next). looped options funcs called values (out-Op op) nest n (split_region options funcs called values region within m)) (sym is_begun)
      ∙ ap (λ (m : Region × List Func × Next). looped options funcs called values (out-Op op) nest n m) made

  -- another operation, from what its regions become
  pub kept_made : (op : Op) (nest within : Nest) (n last : Next) (given regions : List Region) (ops : List Op) (inner : List Func) → None ≡ loop_region (out-Op op).kind (out-Op op).regions
      → within ≡ nest_in (out-Op op).kind nest → given ≡ (out-Op op).regions
      → in_order within (map (split_region options funcs called values) given) n ≡ (regions, inner, last) → ops ≡ kept_op (out-Op op) regions
      → split_op options funcs called values op nest n ≡ (ops, inner, last)
  kept_made op nest within n last given regions ops inner is is_within same made copied =
      parts op nest n
      ∙ ap (λ (o : Option Region). split_as options funcs called values (layer (out-Op op)) (option_map (split_region options funcs called values) o) nest n) (sym is)
      ∙ ap (λ (w : Nest). kept (out-Op op) (in_order w (map (split_region options funcs called values) (out-Op op).regions) n)) (sym is_within)
      ∙ ap (λ (rs : List Region). kept (out-Op op) (in_order within (map (split_region options funcs called values) rs) n)) (sym same)
      ∙ ap (λ (m : List Region × List Func × Next). kept (out-Op op) m) made
      ∙ ap (λ (os : List Op). let all : List Op × List Func × Next = (os, inner, last) in all) (sym copied)

  -- a region, from what its operations become
  pub region_made : (region : Region) (nest : Nest) (n last : Next) (shown params : List (ValueNo × Ty)) (given ops : List Op) (inner : List Func) → shown ≡ (out-Region region).params → params ≡ shown → given ≡ (out-Region region).ops
      → flat (in_order nest (map (split_op options funcs called values) given) n) ≡ (ops, inner, last)
      → split_region options funcs called values region nest n ≡ (roll-Region (record { params = params; ops = ops }), inner, last)
  region_made region nest n last shown params given ops inner is_shown copied same made =
      ap (λ (f : Splitting Region). f nest n) (fold_out-Region (Splitting (List Op)) (Splitting Region) (op_split options funcs called values) (region_split options funcs called values) region)
      ∙ ap (λ (os : List Op). region_with (out-Region region).params (flat (in_order nest (map (split_op options funcs called values) os) n))) (sym same)
      ∙ ap (λ (m : List Op × List Func × Next). region_with (out-Region region).params m) made
      ∙ ap (λ (ps : List (ValueNo × Ty)). region_with ps (ops, inner, last)) (sym (copied ∙ is_shown))

-- what comes of a loop: the operations of an insertion, and functions
abbrev result : Insertion → List Func → Next → List Op × List Func × Next
result made fs last = (made.ops, fs, record { loops = last.loops; free = made.free })

-- a loop, from its parts
pub loop_parts : (options : Options) (funcs : List Func) (called : Bool) (values : Typed) (op : Op) (nest : Nest) (n last : Next) (body : Region) (inner own all : List Func) (halves : Bool) (p : Plan) (made : Insertion)
    → halves ≡ split_in nest called → p ≡ planned funcs values n.loops (out-Op op) body → own ≡ loop_funcs halves p body → all ≡ own ++ inner → made ≡ replacement options halves p last.free
    → looped options funcs called values (out-Op op) nest n (body, inner, last) ≡ (made.ops, all, record { loops = last.loops; free = made.free })
loop_parts options funcs called values op nest n last body inner own all halves p made is_split is_plan is_own is_all is_made =
    ap (λ (s : Bool). result (replacement options s (planned funcs values n.loops (out-Op op) body) last.free) (loop_funcs s (planned funcs values n.loops (out-Op op) body) body ++ inner) last) (sym is_split)
    ∙ ap (λ (q : Plan). result (replacement options halves q last.free) (loop_funcs halves q body ++ inner) last) (sym is_plan)
    ∙ ap (λ (fs : List Func). result (replacement options halves p last.free) (fs ++ inner) last) (sym is_own)
    ∙ ap (λ (i : Insertion). result i (own ++ inner) last) (sym is_made)
    ∙ ap (λ (fs : List Func). result made fs last) (sym is_all)

-- the whole pass, from its parts
pub split_parts : (options : Options) (source program given made : Module) (called : List Bool) → program ≡ source → AreMarks (graph_of program.funcs) called
    → given ≡ module_of (split_funcs options program.funcs called 0 program.funcs 0) → made ≡ value_numbered given → IsSplit options source made
split_parts options source program given made called is_source marks is_given is_made = record {
  called = called;
  marks = subst (λ (m : Module). AreMarks (graph_of m.funcs) called) is_source marks;
  is = is_made ∙ ap value_numbered is_given ∙ ap (split options called) is_source;
}
