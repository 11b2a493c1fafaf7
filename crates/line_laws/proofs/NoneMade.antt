-- A module without parallel loops has none in its structured form.
use Rattle.std.proofs.Common.{◌≡◌, ℕ, ◌+◌, Bool, true, false, cond, List, [], ◌∷◌, ◌++◌, map, length, Option, Some, None, refl, sym, ap, ap₂, subst, ◌∙◌}
use Rattle.std.specs.Prelude.{slice_get}
use Rattle.ir_forms.specs.declared.ops.Func.{Func}
use Rattle.ir_forms.specs.declared.ops.Module.{Module}
use Rattle.ir_forms.specs.declared.ops.Op.{Op, Op-F, roll-Op}
use Rattle.ir_forms.specs.declared.ops.Op.TheFolds.{fold-Op, fold-Region, fold-roll-Op, fold-roll-Region, fold_out-Region, ind-Region}
use Rattle.ir_forms.specs.declared.ops.Region.{Region, Region-F, out-Region, roll-Region}
use Rattle.ir_forms.specs.declared.ops.ValueNo.{ValueNo}
use Rattle.ir_forms.specs.declared.types.Ty.{Ty}
use Rattle.ir_forms.specs.Numbers.{Numbering, in_turn, joined}
use Rattle.made_ops.specs.declared.insertion.Insertion.{Insertion}
use Rattle.check_insert.specs.Shape as check
use Rattle.source_meaning.specs.Renaming.{op_renamed, region_renamed, renamed_region}
use Rattle.value_numbers.specs.Numbers.{value_numbered, numbered_values, defined_in, place_in}
use Rattle.exec_outline.specs.Shape as shape
use Rattle.exec_outline.specs.Shape.{Outlining, Typed, in_order, is_execute}
use Rattle.parallel_for.specs.Shape.{is_parallel}
use Rattle.line_laws.specs.Parallels.{first_of, op_parallel, region_parallel, parallel_in, parallel_inside, parallel_under, first_parallel}
use Rattle.line_laws.proofs.Bare.{first_next, here_none, more_none, AreBare, bare_both, no_loop, none_inside, rolled, insertion_bare}

abbrev Each : {A : Type 0} → (A → Type 0) → List A → Type 0
Each P [] = Unit {0}
Each P (x ∷ xs) = P x × Each P xs

each_of : {A : Type 0} (P : A → Type 0) (ys : List ((x : A) × P x)) → Each P (map (λ e. e.0) ys)
each_of P [] = tt
each_of P (y ∷ ys) = (y.1, each_of P ys)

tree : (P : Op → Type 0) (Q : Region → Type 0) → ((x : Op-F Op Region) → Each Q x.regions → P (roll-Op x)) →
    ((x : Region-F Op Region) → Each P x.ops → Q (roll-Region x)) → (region : Region) → Q region
tree P Q op_step region_step = ind-Region P Q
    (λ x y is. op_step x (subst (λ (z : Op-F Op Region). Each Q z.regions) is (each_of Q y.regions)))
    (λ x y is. region_step x (subst (λ (z : Region-F Op Region). Each P z.ops) is (each_of P y.ops)))

-- what is told of an operation and of a region
op_flat : (x : Op-F Op Region) → parallel_in (roll-Op x) ≡ None → cond (is_parallel x.kind) (Some x.at) (first_of (map parallel_inside x.regions)) ≡ None
op_flat x e = sym (fold-roll-Op (Option ℕ) (Option ℕ) op_parallel region_parallel x) ∙ e

region_flat : (x : Region-F Op Region) → parallel_inside (roll-Region x) ≡ None → AreBare x.ops
region_flat x e = sym (fold-roll-Region (Option ℕ) (Option ℕ) op_parallel region_parallel x) ∙ e

region_rolled : (x : Region-F Op Region) → AreBare x.ops → parallel_inside (roll-Region x) ≡ None
region_rolled x b = fold-roll-Region (Option ℕ) (Option ℕ) op_parallel region_parallel x ∙ b

-- ---- with checks

abbrev OpChecked : Op → Type 0
OpChecked o = (free : ℕ) → parallel_in o ≡ None → AreBare (check.checked_op o free).0

abbrev RegionChecked : Region → Type 0
RegionChecked r = (free : ℕ) → parallel_inside r ≡ None → parallel_inside (check.checked_region r free).0 ≡ None

regions_checked : (rs : List Region) → Each RegionChecked rs → (free : ℕ) → first_of (map parallel_inside rs) ≡ None → first_of (map parallel_inside (in_turn (map check.checked_region rs) free).0) ≡ None
regions_checked [] h free e = refl
regions_checked (r ∷ rs) h free e =
    first_next (parallel_inside (check.checked_region r free).0) (map parallel_inside (in_turn (map check.checked_region rs) (check.checked_region r free).1).0)
    (h.0 free (here_none (parallel_inside r) (map parallel_inside rs) e))
    (regions_checked rs h.1 (check.checked_region r free).1 (more_none (parallel_inside r) (map parallel_inside rs) e))

ops_checked : (os : List Op) → Each OpChecked os → (free : ℕ) → AreBare os → AreBare (joined (in_turn (map check.checked_op os) free).0)
ops_checked [] h free e = refl
ops_checked (o ∷ os) h free e =
    bare_both (check.checked_op o free).0 (joined (in_turn (map check.checked_op os) (check.checked_op o free).1).0)
    (h.0 free (here_none (parallel_in o) (map parallel_in os) e))
    (ops_checked os h.1 (check.checked_op o free).1 (more_none (parallel_in o) (map parallel_in os) e))

abbrev numbered_layer : Op-F Op Region → Op-F (Numbering (List Op)) (Numbering Region)
numbered_layer x = record { kind = x.kind; at = x.at; operands = x.operands; groups = x.groups; written = x.written; results = x.results; types = x.types; attr = x.attr; regions = map check.checked_region x.regions }

op_checked : (x : Op-F Op Region) → Each RegionChecked x.regions → OpChecked (roll-Op x)
op_checked x h free e =
    let i : Insertion = check.insertion (numbered_layer x) free in
    let flat = op_flat x e in
    let plain = no_loop (is_parallel x.kind) x.at (first_of (map parallel_inside x.regions)) flat in
    let whole : Op-F Op Region = record { kind = x.kind; at = x.at; operands = x.operands; groups = x.groups; written = x.written; results = x.results; types = x.types; attr = x.attr; regions = (in_turn (map check.checked_region x.regions) i.free).0 } in
    subst (λ (f : Numbering (List Op)). AreBare (f free).0) (sym (fold-roll-Op (Numbering (List Op)) (Numbering Region) check.op_checked check.region_checked x))
    (bare_both i.ops (roll-Op whole ∷ []) (insertion_bare (numbered_layer x) free plain)
    (first_next (parallel_in (roll-Op whole)) [] (rolled whole plain (regions_checked x.regions h i.free (none_inside (is_parallel x.kind) x.at (first_of (map parallel_inside x.regions)) flat))) refl))

region_checked : (x : Region-F Op Region) → Each OpChecked x.ops → RegionChecked (roll-Region x)
region_checked x h free e =
    subst (λ (f : Numbering Region). parallel_inside (f free).0 ≡ None) (sym (fold-roll-Region (Numbering (List Op)) (Numbering Region) check.op_checked check.region_checked x))
    (region_rolled (record { params = x.params; ops = joined (in_turn (map check.checked_op x.ops) free).0 }) (ops_checked x.ops h free (region_flat x e)))

checked_none : (r : Region) → RegionChecked r
checked_none = tree OpChecked RegionChecked op_checked region_checked

-- ---- under other numbers of values

module _ (σ : ℕ → ℕ) where
  abbrev other_op : Op → Op
  other_op = fold-Op Op Region (op_renamed σ) (region_renamed σ)

  abbrev other_region : Region → Region
  other_region = fold-Region Op Region (op_renamed σ) (region_renamed σ)

  abbrev OpSame : Op → Type 0
  OpSame o = parallel_in (other_op o) ≡ parallel_in o

  abbrev RegionSame : Region → Type 0
  RegionSame r = parallel_inside (other_region r) ≡ parallel_inside r

  regions_same : (rs : List Region) → Each RegionSame rs → map parallel_inside (map other_region rs) ≡ map parallel_inside rs
  regions_same [] h = refl
  regions_same (r ∷ rs) h = ap₂ (λ (x : Option ℕ) xs. x ∷ xs) h.0 (regions_same rs h.1)

  ops_same : (os : List Op) → Each OpSame os → map parallel_in (map other_op os) ≡ map parallel_in os
  ops_same [] h = refl
  ops_same (o ∷ os) h = ap₂ (λ (x : Option ℕ) xs. x ∷ xs) h.0 (ops_same os h.1)

  abbrev op_layer : Op-F Op Region → Op-F Op Region
  op_layer x = record x { operands = map (λ v. record { 0 = σ v.0 }) x.operands; results = map (λ v. record { 0 = σ v.0 }) x.results; regions = map other_region x.regions }

  op_same : (x : Op-F Op Region) → Each RegionSame x.regions → OpSame (roll-Op x)
  op_same x h =
      ap parallel_in (fold-roll-Op Op Region (op_renamed σ) (region_renamed σ) x)
      ∙ fold-roll-Op (Option ℕ) (Option ℕ) op_parallel region_parallel (op_layer x)
      ∙ ap (λ (ns : List (Option ℕ)). cond (is_parallel x.kind) (Some x.at) (first_of ns)) (regions_same x.regions h)
      ∙ sym (fold-roll-Op (Option ℕ) (Option ℕ) op_parallel region_parallel x)

  region_same : (x : Region-F Op Region) → Each OpSame x.ops → RegionSame (roll-Region x)
  region_same x h =
      ap parallel_inside (fold-roll-Region Op Region (op_renamed σ) (region_renamed σ) x)
      ∙ fold-roll-Region (Option ℕ) (Option ℕ) op_parallel region_parallel (record { params = map (λ p. (record { 0 = σ p.0.0 }, p.1)) x.params; ops = map other_op x.ops })
      ∙ ap first_of (ops_same x.ops h)
      ∙ sym (fold-roll-Region (Option ℕ) (Option ℕ) op_parallel region_parallel x)

  renamed_same : (r : Region) → parallel_inside (renamed_region σ r) ≡ parallel_inside r
  unfolding renamed_region
  renamed_same r = tree OpSame RegionSame op_same region_same r

numbered_none : (funcs : List Func) → first_of (map parallel_under funcs) ≡ None → first_of (map parallel_under (map numbered_values (map check.checked_func funcs))) ≡ None
numbered_none [] e = refl
numbered_none (f ∷ funcs) e =
    first_next (parallel_under (numbered_values (check.checked_func f))) (map parallel_under (map numbered_values (map check.checked_func funcs)))
    (renamed_same (place_in (defined_in (check.checked_func f))) (check.checked_func f).body ∙ checked_none f.body (check.first_free f) (here_none (parallel_under f) (map parallel_under funcs) e))
    (numbered_none funcs (more_none (parallel_under f) (map parallel_under funcs) e))

-- ---- with functions for tasks

abbrev NoneIn : List Func → Type 0
NoneIn funcs = first_of (map parallel_under funcs) ≡ None

funcs_both : (fs gs : List Func) → NoneIn fs → NoneIn gs → NoneIn (fs ++ gs)
funcs_both [] gs e b = b
funcs_both (f ∷ fs) gs e b =
    first_next (parallel_under f) (map parallel_under (fs ++ gs)) (here_none (parallel_under f) (map parallel_under fs) e)
    (funcs_both fs gs (more_none (parallel_under f) (map parallel_under fs) e) b)

module _ {A : Type 0} (f : A → Outlining A) (m : A → Option ℕ) where
  abbrev Outlined : A → Type 0
  Outlined x = (k : ℕ) → m x ≡ None → (m (f x k).0 ≡ None) × NoneIn (f x k).1

  order_none : (xs : List A) → Each Outlined xs → (k : ℕ) → first_of (map m xs) ≡ None → (first_of (map m (in_order (map f xs) k).0) ≡ None) × NoneIn (in_order (map f xs) k).1
  order_none [] h k e = (refl, refl)
  order_none (x ∷ xs) h k e =
      let one = h.0 k (here_none (m x) (map m xs) e) in
      let rest = order_none xs h.1 (k + length (f x k).1) (more_none (m x) (map m xs) e) in (
        first_next (m (f x k).0) (map m (in_order (map f xs) (k + length (f x k).1)).0) one.0 rest.0,
        funcs_both (f x k).1 (in_order (map f xs) (k + length (f x k).1)).1 one.1 rest.1,
      )

await_bare : (at : ℕ) (p : ValueNo × Ty) (results : Typed) → parallel_in (shape.await at p results) ≡ None
await_bare at p results = rolled _ refl refl

each_bare : (at : ℕ) (ps : Typed) → AreBare (shape.awaits_each at ps)
each_bare at [] = refl
each_bare at (p ∷ ps) = first_next (parallel_in (shape.await at p [])) (map parallel_in (shape.awaits_each at ps)) (await_bare at p []) (each_bare at ps)

for_bare : (at : ℕ) (ps qs : Typed) → AreBare (shape.awaits_for at ps qs)
for_bare at [] qs = refl
for_bare at (p ∷ ps) [] = first_next (parallel_in (shape.await at p [])) (map parallel_in (shape.awaits_for at ps [])) (await_bare at p []) (for_bare at ps [])
for_bare at (p ∷ ps) (q ∷ qs) = first_next (parallel_in (shape.await at p (q ∷ []))) (map parallel_in (shape.awaits_for at ps qs)) (await_bare at p (q ∷ [])) (for_bare at ps qs)

region_ops : (r : Region) → parallel_inside r ≡ None → AreBare (out-Region r).ops
region_ops r e = sym (fold_out-Region (Option ℕ) (Option ℕ) op_parallel region_parallel r) ∙ e

module _ (funcs : List Func) (values : Typed) where
  abbrev OpOutlined : Op → Type 0
  OpOutlined = Outlined (shape.outlined_op funcs values) parallel_in

  abbrev RegionOutlined : Region → Type 0
  RegionOutlined = Outlined (shape.outlined_region funcs values) parallel_inside

  -- what comes of the region of a task
  abbrev IsGood : Option (ℕ → Region × List Func) → Type 0
  IsGood None = Unit {0}
  IsGood (Some r) = (k : ℕ) → (parallel_inside (r k).0 ≡ None) × NoneIn (r k).1

  task_good : (b : Bool) (rs : List Region) → Each RegionOutlined rs → first_of (map parallel_inside rs) ≡ None → IsGood (cond b (slice_get (map (shape.outlined_region funcs values) rs) 0) None)
  task_good true [] h e = tt
  task_good true (r ∷ rs) h e = λ k. h.0 k (here_none (parallel_inside r) (map parallel_inside rs) e)
  task_good false rs h e = tt

  task_none : {X Y : Type 0} (o : Op-F X Y) (name : List ℕ) (captured : List ℕ) (body : Region) → parallel_inside body ≡ None → parallel_under (shape.task values o name captured body) ≡ None
  task_none o name captured body e =
      region_rolled (record { params = []; ops = shape.task_ops values o body })
      (bare_both (shape.awaits_each o.at (shape.dependencies values o) ++ shape.awaits_for o.at (shape.value_operands values o) (out-Region body).params) (out-Region body).ops
      (bare_both (shape.awaits_each o.at (shape.dependencies values o)) (shape.awaits_for o.at (shape.value_operands values o) (out-Region body).params)
      (each_bare o.at (shape.dependencies values o)) (for_bare o.at (shape.value_operands values o) (out-Region body).params))
      (region_ops body e))

  abbrev outlined_layer : Op-F Op Region → Op-F (Outlining Op) (Outlining Region)
  outlined_layer x = record { kind = x.kind; at = x.at; operands = x.operands; groups = x.groups; written = x.written; results = x.results; types = x.types; attr = x.attr; regions = map (shape.outlined_region funcs values) x.regions }

  as_none : (x : Op-F Op Region) (region : Option (ℕ → Region × List Func)) (k : ℕ) → is_parallel x.kind ≡ false → IsGood region
      → (first_of (map parallel_inside (in_order (outlined_layer x).regions k).0) ≡ None) × NoneIn (in_order (outlined_layer x).regions k).1
      → (parallel_in (shape.outlined_as funcs values (outlined_layer x) region k).0 ≡ None) × NoneIn (shape.outlined_as funcs values (outlined_layer x) region k).1
  as_none x (Some r) k plain good kept = (
    rolled _ plain refl,
    first_next _ (map parallel_under (r (k + 1)).1) (task_none (outlined_layer x) (shape.task_name funcs k) (shape.captures (r (k + 1)).0) (r (k + 1)).0 (good (k + 1)).0) (good (k + 1)).1,
  )
  as_none x None k plain good kept = (rolled _ plain kept.0, kept.1)

  op_outlined : (x : Op-F Op Region) → Each RegionOutlined x.regions → OpOutlined (roll-Op x)
  op_outlined x h k e =
      let flat = op_flat x e in
      let inner = none_inside (is_parallel x.kind) x.at (first_of (map parallel_inside x.regions)) flat in
      subst (λ (f : Outlining Op). (parallel_in (f k).0 ≡ None) × NoneIn (f k).1) (sym (fold-roll-Op (Outlining Op) (Outlining Region) (shape.op_outlined funcs values) (shape.region_outlined funcs values) x))
      (as_none x (shape.task_region x.kind (outlined_layer x).regions) k (no_loop (is_parallel x.kind) x.at (first_of (map parallel_inside x.regions)) flat)
      (task_good (is_execute x.kind) x.regions h inner)
      (order_none (shape.outlined_region funcs values) parallel_inside x.regions h k inner))

  region_outlined : (x : Region-F Op Region) → Each OpOutlined x.ops → RegionOutlined (roll-Region x)
  region_outlined x h k e =
      let made = order_none (shape.outlined_op funcs values) parallel_in x.ops h k (region_flat x e) in
      subst (λ (f : Outlining Region). (parallel_inside (f k).0 ≡ None) × NoneIn (f k).1) (sym (fold-roll-Region (Outlining Op) (Outlining Region) (shape.op_outlined funcs values) (shape.region_outlined funcs values) x))
      (region_rolled (record { params = x.params; ops = (in_order (map (shape.outlined_op funcs values) x.ops) k).0 }) made.0, made.1)

  outlined_none : (r : Region) → RegionOutlined r
  outlined_none = tree OpOutlined RegionOutlined op_outlined region_outlined

each_func : (whole funcs : List Func) → Each (Outlined (shape.outlined_func whole) parallel_under) funcs
each_func whole [] = tt
each_func whole (f ∷ funcs) = (λ k e. outlined_none whole (shape.values_of f) f.body k e, each_func whole funcs)

pub structured_none : (program : Module) → first_parallel program ≡ None → first_parallel (shape.outlined (value_numbered (check.checked program))) ≡ None
structured_none program e =
    let whole : List Func = (value_numbered (check.checked program)).funcs in
    let made = order_none (shape.outlined_func whole) parallel_under whole (each_func whole whole) 0 (numbered_none program.funcs e) in
    funcs_both (in_order (map (shape.outlined_func whole) whole) 0).0 (in_order (map (shape.outlined_func whole) whole) 0).1 made.0 made.1
