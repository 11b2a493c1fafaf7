-- The kinds of a module's operations without its parallel loops.
use Rattle.std.proofs.Common.{◌≡◌, ℕ, ◌+◌, ◌||◌, ◌&&◌, Bool, true, false, cond, List, [], ◌∷◌, ◌++◌, map, Option, Some, None, refl, sym, subst, ◌∙◌}
use Rattle.std.specs.Prelude.{slice_get}
use Rattle.std.specs.Option.{is_some}
use Rattle.op_table.specs.declared.kind.OpKind.{OpKind}
use Rattle.op_table.specs.declared.kind.OpKind.TheVariants as op
use Rattle.ir_forms.specs.declared.ops.Attr.TheVariants as attr
use Rattle.ir_forms.specs.declared.ops.Func.{Func}
use Rattle.ir_forms.specs.declared.ops.Op.{Op, Op-F, roll-Op}
use Rattle.ir_forms.specs.declared.ops.Op.TheFolds.{fold-Op, fold-Region, fold-roll-Op, fold-roll-Region}
use Rattle.ir_forms.specs.declared.ops.Region.{Region, Region-F, out-Region, roll-Region}
use Rattle.ir_forms.specs.Numbers.{joined}
use Rattle.ir_verify.specs.declared.place.Nest.{Nest}
use Rattle.ir_verify.specs.declared.place.Nest.TheVariants.{InFunction}
use Rattle.ir_verify.specs.Calls.{is_marked}
use Rattle.ir_verify.specs.Levels.{kinds_at, kinds_in, kinds_along, kinds_held, kinds_of}
use Rattle.ir_verify.specs.Places.{nest_in}
use Rattle.source_meaning.specs.Steps.{split_in}
use Rattle.made_ops.specs.Made.{begun}
use Rattle.made_funcs.specs.Values.{Typed, first_free, values_of}
use Rattle.loop_blocks.specs.declared.options.Options.{Options}
use Rattle.loop_blocks.specs.declared.told.Plan.{Plan}
use Rattle.loop_blocks.specs.Blocks.{block_func}
use Rattle.loop_blocks.specs.Halves.{dispatch_func}
use Rattle.parallel_for.specs.declared.walk.Next.{Next}
use Rattle.parallel_for.specs.Shape as shape
use Rattle.parallel_for.specs.Shape.{Splitting, in_order, is_parallel, is_reduce, loop_region, return_at}
use Rattle.split_kinds.proofs.Passing.{Each, tree, Pass, pass_both, ops_both, funcs_both, op_passes, region_passes, inner_passes}
use Rattle.split_kinds.proofs.Made.{is_made, Fit, block_func_fit, dispatch_func_fit, split_loop_fit, serial_loop_fit}

-- ---- truths

abbrev pub all_true : List Bool → Bool
all_true [] = true
all_true (b ∷ bs) = b && all_true bs

pub and_left : (a b : Bool) → (a && b) ≡ true → a ≡ true
and_left true b h = refl
and_left false b h = cc

pub and_right : (a b : Bool) → (a && b) ≡ true → b ≡ true
and_right true b h = h
and_right false b h = cc

-- ---- an operation that is a loop with a region, the end of one, or passes

module _ (ok : OpKind → Bool) where
  abbrev pub fits_here : {X Y : Type 0} → Op-F X Y → Bool
  fits_here o = is_some (loop_region o.kind o.regions) || (is_reduce o.kind || ok o.kind)

  abbrev pub op_fits : Op-F Bool Bool → Bool
  op_fits o = fits_here o && all_true o.regions

  abbrev pub region_fits : Region-F Bool Bool → Bool
  region_fits r = all_true r.ops

  abbrev pub fits_in : Op → Bool
  fits_in = fold-Op Bool Bool op_fits region_fits

  abbrev pub fits_inside : Region → Bool
  fits_inside = fold-Region Bool Bool op_fits region_fits

  module _ (made : (k : OpKind) → is_made k ≡ true → ok k ≡ true) (options : Options) where
    -- ---- a loop

    replacement_fit : (split : Bool) (p : Plan) (free : ℕ) → Fit ok made (shape.replacement options split p free)
    replacement_fit true p free = split_loop_fit ok made options p (begun p.at free) tt
    replacement_fit false p free = serial_loop_fit ok made p (begun p.at free) tt

    body_passes : (p : Plan) (r : Region) → Pass ok (kinds_in r) → Pass ok (kinds_in (shape.body_func p r).body)
    body_passes p r h =
        let o : Op = return_at p.at in
        region_passes ok (record { params = []; ops = (out-Region r).ops ++ o ∷ [] })
        (ops_both ok (out-Region r).ops (o ∷ []) (inner_passes ok r h)
        (pass_both ok (kinds_at o) [] (op_passes ok (record { kind = op.FuncReturn; at = p.at; operands = []; groups = []; written = []; results = []; types = []; attr = attr.None; regions = [] }) (made op.FuncReturn refl) tt) tt))

    loop_funcs_pass : (split : Bool) (p : Plan) (r : Region) → Pass ok (kinds_in r) → Pass ok (kinds_of (shape.loop_funcs split p r))
    loop_funcs_pass true p r h =
        pass_both ok (kinds_in (shape.body_func p r).body) (kinds_of (block_func p ∷ dispatch_func p ∷ [])) (body_passes p r h)
        (pass_both ok (kinds_in (block_func p).body) (kinds_of (dispatch_func p ∷ [])) (block_func_fit ok made p)
        (pass_both ok (kinds_in (dispatch_func p).body) [] (dispatch_func_fit ok made p) tt))
    loop_funcs_pass false p r h = pass_both ok (kinds_in (shape.body_func p r).body) [] (body_passes p r h) tt

    -- ---- the walk

    module _ (funcs : List Func) (called : Bool) (values : Typed) where
      abbrev split_op : Op → Splitting (List Op)
      split_op = shape.split_op options funcs called values

      abbrev split_region : Region → Splitting Region
      split_region = shape.split_region options funcs called values

      abbrev OpSplit : Op → Type 0
      OpSplit o = (nest : Nest) (n : Next) → fits_in o ≡ true → Pass ok (kinds_along (split_op o nest n).0) × Pass ok (kinds_of (split_op o nest n).1)

      abbrev RegionSplit : Region → Type 0
      RegionSplit r = (nest : Nest) (n : Next) → fits_inside r ≡ true → Pass ok (kinds_in (split_region r nest n).0) × Pass ok (kinds_of (split_region r nest n).1)

      regions_pass : (rs : List Region) → Each RegionSplit rs → (nest : Nest) (n : Next) → all_true (map fits_inside rs) ≡ true →
          Pass ok (kinds_held (in_order nest (map split_region rs) n).0) × Pass ok (kinds_of (in_order nest (map split_region rs) n).1)
      regions_pass [] h nest n e = (tt, tt)
      regions_pass (r ∷ rs) h nest n e =
          let m : Next = (split_region r nest n).2 in
          let one : Pass ok (kinds_in (split_region r nest n).0) × Pass ok (kinds_of (split_region r nest n).1) = h.0 nest n (and_left (fits_inside r) (all_true (map fits_inside rs)) e) in
          let rest : Pass ok (kinds_held (in_order nest (map split_region rs) m).0) × Pass ok (kinds_of (in_order nest (map split_region rs) m).1) = regions_pass rs h.1 nest m (and_right (fits_inside r) (all_true (map fits_inside rs)) e) in (
            pass_both ok (kinds_in (split_region r nest n).0) (kinds_held (in_order nest (map split_region rs) m).0) one.0 rest.0,
            funcs_both ok (split_region r nest n).1 (in_order nest (map split_region rs) m).1 one.1 rest.1,
          )

      ops_pass : (os : List Op) → Each OpSplit os → (nest : Nest) (n : Next) → all_true (map fits_in os) ≡ true →
          Pass ok (kinds_along (joined (in_order nest (map split_op os) n).0)) × Pass ok (kinds_of (in_order nest (map split_op os) n).1)
      ops_pass [] h nest n e = (tt, tt)
      ops_pass (o ∷ os) h nest n e =
          let m : Next = (split_op o nest n).2 in
          let one : Pass ok (kinds_along (split_op o nest n).0) × Pass ok (kinds_of (split_op o nest n).1) = h.0 nest n (and_left (fits_in o) (all_true (map fits_in os)) e) in
          let rest : Pass ok (kinds_along (joined (in_order nest (map split_op os) m).0)) × Pass ok (kinds_of (in_order nest (map split_op os) m).1) = ops_pass os h.1 nest m (and_right (fits_in o) (all_true (map fits_in os)) e) in (
            ops_both ok (split_op o nest n).0 (joined (in_order nest (map split_op os) m).0) one.0 rest.0,
            funcs_both ok (split_op o nest n).1 (in_order nest (map split_op os) m).1 one.1 rest.1,
          )

      -- what comes of a loop's region, and what is known where there is none
      abbrev IsGood : Option (Splitting Region) → Type 0
      IsGood None = Unit {0}
      IsGood (Some r) = (nest : Nest) (n : Next) → Pass ok (kinds_in (r nest n).0) × Pass ok (kinds_of (r nest n).1)

      abbrev IsPlain : Option (Splitting Region) → Bool → Type 0
      IsPlain None c = c ≡ true
      IsPlain (Some r) c = Unit {0}

      good : (b : Bool) (rs : List Region) → Each RegionSplit rs → all_true (map fits_inside rs) ≡ true → IsGood (cond b (slice_get (map split_region rs) 0) None)
      good true [] h e = tt
      good true (r ∷ rs) h e = λ nest n. h.0 nest n (and_left (fits_inside r) (all_true (map fits_inside rs)) e)
      good false rs h e = tt

      plain : (b : Bool) (rs : List Region) (c : Bool) → (is_some (cond b (slice_get (map fits_inside rs) 0) None) || c) ≡ true → IsPlain (cond b (slice_get (map split_region rs) 0) None) c
      plain true [] c e = e
      plain true (r ∷ rs) c e = tt
      plain false rs c e = e

      abbrev split_layer : Op-F Op Region → Op-F (Splitting (List Op)) (Splitting Region)
      split_layer x = record { kind = x.kind; at = x.at; operands = x.operands; groups = x.groups; written = x.written; results = x.results; types = x.types; attr = x.attr; regions = map split_region x.regions }

      kept_op_passes : (b c : Bool) (o : Op) → (b || c) ≡ true → (c ≡ true → Pass ok (kinds_at o)) → Pass ok (kinds_along (cond b [] (o ∷ [])))
      kept_op_passes true c o e h = tt
      kept_op_passes false c o e h = pass_both ok (kinds_at o) [] (h e) tt

      kept_passes : (x : Op-F Op Region) (regions : List Region) → (is_reduce x.kind || ok x.kind) ≡ true → Pass ok (kinds_held regions) → Pass ok (kinds_along (shape.kept_op x regions))
      kept_passes x regions e h =
          let whole : Op-F Op Region = record { kind = x.kind; at = x.at; operands = x.operands; groups = x.groups; written = x.written; results = x.results; types = x.types; attr = x.attr; regions = regions } in
          kept_op_passes (is_reduce x.kind) (ok x.kind) (roll-Op whole) e (λ fine. op_passes ok whole fine h)

      as_passes : (x : Op-F Op Region) (region : Option (Splitting Region)) (nest : Nest) (n : Next) → IsGood region → IsPlain region (is_reduce x.kind || ok x.kind)
          → Pass ok (kinds_held (in_order (nest_in x.kind nest) (split_layer x).regions n).0) × Pass ok (kinds_of (in_order (nest_in x.kind nest) (split_layer x).regions n).1)
          → Pass ok (kinds_along (shape.split_as options funcs called values (split_layer x) region nest n).0) × Pass ok (kinds_of (shape.split_as options funcs called values (split_layer x) region nest n).1)
      as_passes x (Some r) nest n good plain kept =
          let inner : Region × List Func × Next = r (nest_in x.kind nest) (record n { loops = n.loops + 1 }) in
          let fine : Pass ok (kinds_in inner.0) × Pass ok (kinds_of inner.1) = good (nest_in x.kind nest) (record n { loops = n.loops + 1 }) in
          let p : Plan = shape.planned funcs values n.loops (split_layer x) inner.0 in (
            replacement_fit (split_in nest called) p inner.2.free,
            funcs_both ok (shape.loop_funcs (split_in nest called) p inner.0) inner.1 (loop_funcs_pass (split_in nest called) p inner.0 fine.0) fine.1,
          )
      as_passes x None nest n good plain kept = (kept_passes x (in_order (nest_in x.kind nest) (split_layer x).regions n).0 plain kept.0, kept.1)

      op_split : (x : Op-F Op Region) → Each RegionSplit x.regions → OpSplit (roll-Op x)
      op_split x h nest n e =
          let all : ((is_some (loop_region x.kind (map fits_inside x.regions)) || (is_reduce x.kind || ok x.kind)) && all_true (map fits_inside x.regions)) ≡ true = sym (fold-roll-Op Bool Bool op_fits region_fits x) ∙ e in
          let here : (is_some (loop_region x.kind (map fits_inside x.regions)) || (is_reduce x.kind || ok x.kind)) ≡ true = and_left _ (all_true (map fits_inside x.regions)) all in
          let inner : all_true (map fits_inside x.regions) ≡ true = and_right (is_some (loop_region x.kind (map fits_inside x.regions)) || (is_reduce x.kind || ok x.kind)) _ all in
          subst (λ (f : Splitting (List Op)). Pass ok (kinds_along (f nest n).0) × Pass ok (kinds_of (f nest n).1))
          (sym (fold-roll-Op (Splitting (List Op)) (Splitting Region) (shape.op_split options funcs called values) (shape.region_split options funcs called values) x))
          (as_passes x (loop_region x.kind (split_layer x).regions) nest n (good (is_parallel x.kind) x.regions h inner) (plain (is_parallel x.kind) x.regions (is_reduce x.kind || ok x.kind) here)
          (regions_pass x.regions h (nest_in x.kind nest) n inner))

      region_split : (x : Region-F Op Region) → Each OpSplit x.ops → RegionSplit (roll-Region x)
      region_split x h nest n e =
          let all : all_true (map fits_in x.ops) ≡ true = sym (fold-roll-Region Bool Bool op_fits region_fits x) ∙ e in
          let inner : Pass ok (kinds_along (joined (in_order nest (map split_op x.ops) n).0)) × Pass ok (kinds_of (in_order nest (map split_op x.ops) n).1) = ops_pass x.ops h nest n all in
          subst (λ (f : Splitting Region). Pass ok (kinds_in (f nest n).0) × Pass ok (kinds_of (f nest n).1))
          (sym (fold-roll-Region (Splitting (List Op)) (Splitting Region) (shape.op_split options funcs called values) (shape.region_split options funcs called values) x))
          (region_passes ok (record { params = x.params; ops = joined (in_order nest (map split_op x.ops) n).0 }) inner.0, inner.1)

      pub region_is_split : (r : Region) → RegionSplit r
      region_is_split = tree OpSplit RegionSplit op_split region_split

    -- ---- a module

    abbrev pub all_fit : List Func → Bool
    all_fit fs = all_true (map (λ (f : Func). fits_inside f.body) fs)

    funcs_pass : (funcs : List Func) (called : List Bool) (place k : ℕ) (fs : List Func) → all_fit fs ≡ true →
        Pass ok (kinds_of (shape.split_funcs options funcs called place fs k).0) × Pass ok (kinds_of (shape.split_funcs options funcs called place fs k).1)
    funcs_pass funcs called place k [] e = (tt, tt)
    funcs_pass funcs called place k (f ∷ fs) e =
        let is_called : Bool = is_marked (slice_get called place) in
        let inner : Region × List Func × Next = shape.split_func options funcs is_called f k in
        let one : Pass ok (kinds_in inner.0) × Pass ok (kinds_of inner.1) =
        region_is_split funcs is_called (values_of f) f.body InFunction (record { loops = k; free = first_free (values_of f) }) (and_left (fits_inside f.body) (all_fit fs) e) in
        let more : List Func × List Func = shape.split_funcs options funcs called (place + 1) fs inner.2.loops in
        let rest : Pass ok (kinds_of more.0) × Pass ok (kinds_of more.1) = funcs_pass funcs called (place + 1) inner.2.loops fs (and_right (fits_inside f.body) (all_fit fs) e) in
        (pass_both ok (kinds_in inner.0) (kinds_of more.0) one.0 rest.0, funcs_both ok inner.1 more.1 one.1 rest.1)

    pub made_pass : (funcs : List Func) (called : List Bool) → all_fit funcs ≡ true → Pass ok (kinds_of (shape.module_of (shape.split_funcs options funcs called 0 funcs 0)).funcs)
    made_pass funcs called e =
        let both : List Func × List Func = shape.split_funcs options funcs called 0 funcs 0 in
        let pass : Pass ok (kinds_of both.0) × Pass ok (kinds_of both.1) = funcs_pass funcs called 0 0 funcs e in
        funcs_both ok both.0 both.1 pass.0 pass.1
