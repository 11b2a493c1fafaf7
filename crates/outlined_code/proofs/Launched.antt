-- A launch of a task is typed before others, and so is the task's function.
use Rattle.std.proofs.Common.{◌≡◌, ◌⊎◌, inl, inr, ◌<◌, ◌≤◌, ◌^◌, ℕ, suc, ◌+◌, ◌-◌, ◌==◌, cond, Bool, true, false, List, [], ◌∷◌, ◌++◌, length, map, drop, Some, slice_get, refl, sym, ap, ap₂, ◌∙◌, subst, arith}
use Rattle.std.proofs.lemmas.List.{length-map}
use Rattle.std.proofs.lemmas.Option.{slice_get_within}
use Rattle.op_table.specs.declared.form.Form.{Form}
use Rattle.op_table.specs.declared.form.Form.TheVariants as form_is
use Rattle.op_table.specs.declared.rows.Level.{Level}
use Rattle.ir_forms.specs.declared.ops.Attr.TheVariants.{Callee}
use Rattle.ir_forms.specs.declared.ops.Func.{Func}
use Rattle.ir_forms.specs.declared.ops.Module.{Module}
use Rattle.ir_forms.specs.declared.ops.Op.{Op, Op-F, out-Op, roll-Op}
use Rattle.ir_forms.specs.declared.ops.Region.{Region, Region-F, out-roll-Region}
use Rattle.ir_forms.specs.declared.ops.ValueNo.{ValueNo}
use Rattle.ir_forms.specs.declared.types.Ty.{Ty}
use Rattle.ir_forms.specs.declared.types.Ty.TheVariants as ty
use Rattle.ir_forms.specs.declared.types.ValTy.TheVariants as val
use Rattle.ir_forms.specs.Numbers.{joined}
use Rattle.ir_forms.specs.Ops.{kind_of, operands_of, ops_of, regions_of, results_of, written_of}
use Rattle.ir_verify.specs.Breaks.{last_form}
use Rattle.ir_verify.specs.Forms.{ends, form}
use Rattle.ir_verify.specs.Places.{Around, Seen, Spot, params_of, place_of, places_held, types_of}
use Rattle.ir_verify.specs.Rules.{groups_of}
use Rattle.ir_verify.specs.Scopes.{lookup}
use Rattle.ir_verify.specs.Types.{is_value}
use Rattle.ir_verify.specs.Verdict.{IsSound}
use Rattle.low_forms.specs.Registers.{every}
use Rattle.low_forms.proofs.Words.{and_both, and_left, and_right}
use Rattle.coro_laws.specs.Half.{can_be_held}
use Rattle.made_funcs.specs.Captures.{numbers, uses_in, uses_inside}
use Rattle.made_laws.specs.Laws.{Among, defined_inside}
use Rattle.made_laws.proofs.Captures.{captures_are}
use Rattle.mlir_print.specs.Printable.{param_types, payload}
use Rattle.outline_laws.specs.Laws.{functions_of, name_of, tasks_of}
use Rattle.outline_laws.proofs.Tasks.{tasks_found, tasks_in_order}
use Rattle.scf_blocks.specs.Lowered.{ends_task, is_task, is_task_yield}
use Rattle.scf_blocks.specs.Tree.{Ops, Var, role_by, role_of, tree, tree_before, typed, types_in}
use Rattle.sound_laws.proofs.Sight.{equal, is_equal}
use Rattle.sound_laws.specs.Extended.{AreFine}
use Rattle.typed_rows.specs.Typed.{AreTypes, Env, HasTypes, Names, TypedOps, is_type, with_typed}
use Rattle.exec_outline.specs.Shape.{Typed, as_values, awaits_each, awaits_for, captures, dependencies, dependency_count, first_free, held, launch, numbered, outlined, outlined_region, task, task_name, tokens, type_in, typed_in, value_operands, values_in, values_inside}
use Rattle.plain_rows.proofs.Same.{memref_self, width_self}
use Rattle.outlined_types.specs.Forms.{LaunchFits, end_types, end_types_in}
use Rattle.outlined_types.specs.Operations.{IsLaunched, is_end}
use Rattle.outlined_types.specs.Ordered.{AreHeld}
use Rattle.outlined_types.specs.Tasks.{Below, TypedRegion, results_of_task}
use Rattle.outlined_types.proofs.CalledFunctions.{ends_alike}
use Rattle.outlined_types.proofs.InOrder.{region_defines}
use Rattle.outlined_types.proofs.InScope.{EachInScope, among_either, made_uses, regions_out}
use Rattle.outlined_types.proofs.Launches.{launches_fit}
use Rattle.outlined_types.proofs.LaunchSteps.{launches_typed}
use Rattle.outlined_types.proofs.Operations.{types_map}
use Rattle.outlined_types.proofs.TaskFunctions.{tasks_typed, with_both}
use Rattle.outlined_code.proofs.Kept.{AtOp, AtRegions, EachAbove, OfRegions, params_kept}
use Rattle.outlined_code.proofs.Regions.{AreClosed, are_closed, task_ends}
use Rattle.outlined_code.proofs.Values.{AreTasks, IsTask, Known, Shows, TasksIn, are_shown, held_front, tasks_of_front}

-- ---- lists

pub nothing : {A : Type 0} → (xs : List A) → xs ++ [] ≡ xs
nothing [] = refl
nothing {A = A} (x ∷ xs) = ap (λ (ys : List A). x ∷ ys) (nothing xs)

pub get_behind : {A : Type 0} → (xs ys : List A) (k : ℕ) → slice_get (xs ++ ys) (length xs + k) ≡ slice_get ys k
get_behind [] ys k = (let e : 0 + k ≡ k = omega arith in ap (λ n. slice_get ys n) e)
get_behind (x ∷ xs) ys k = (let e : suc (length xs) + k ≡ suc (length xs + k) = omega arith in ap (λ n. slice_get (x ∷ (xs ++ ys)) n) e ∙ get_behind xs ys k)

types_both : (ps qs : List Var) → types_in (ps ++ qs) ≡ types_in ps ++ types_in qs
types_both [] qs = refl
types_both (p ∷ ps) qs = ap (λ (ts : List Ty). p.1 ∷ ts) (types_both ps qs)

types_numbered : (n : ℕ) (ts : List Ty) → types_in (numbered n ts) ≡ ts
types_numbered n [] = refl
types_numbered n (t ∷ ts) = ap (λ (us : List Ty). t ∷ us) (types_numbered (n + 1) ts)

-- ---- what values hold

held_self : (t : Ty) → is_value t ≡ true → is_type (held t) ≡ true
held_self (ty.Value (val.Int w)) is = width_self w
held_self (ty.Value val.Index) is = refl
held_self (ty.Value (val.Memref m)) is = memref_self m
held_self t is = cc

held_types : (ts : List Ty) → every is_value ts ≡ true → AreTypes (map held ts)
held_types [] is = refl
held_types (t ∷ ts) is = and_both (is_type (held t)) (every is_type (map held ts)) (held_self t (and_left (is_value t) (every is_value ts) is)) (held_types ts (and_right (is_value t) (every is_value ts) is))

can_hold : (t : Ty) → is_value t ≡ true → can_be_held (held t) ≡ true
can_hold (ty.Value (val.Int w)) is = refl
can_hold (ty.Value val.Index) is = refl
can_hold (ty.Value (val.Memref m)) is = refl
can_hold t is = cc

can_hold_all : (ts : List Ty) → every is_value ts ≡ true → every can_be_held (map held ts) ≡ true
can_hold_all [] is = refl
can_hold_all (t ∷ ts) is =
    and_both (can_be_held (held t)) (every can_be_held (map held ts)) (can_hold t (and_left (is_value t) (every is_value ts) is)) (can_hold_all ts (and_right (is_value t) (every is_value ts) is))

-- ---- ends of tasks

yields : (g : Form) → ends form_is.TaskYield g ≡ true → is_task_yield g ≡ true
yields form_is.TaskYield is = refl
yields g is = cc

ends_as_task : (os : List Op) → ends form_is.TaskYield (last_form os) ≡ true → is_task os ≡ true
ends_as_task [] is = cc
ends_as_task (o ∷ []) is = yields (form o) is
ends_as_task (o ∷ q ∷ os) is =
    let last : suc (suc (length os)) - 1 ≡ suc (suc (length os) - 1) = omega arith in
    ap (λ k. ends_task (slice_get (o ∷ q ∷ os) k)) last ∙ ends_as_task (q ∷ os) is

task_behind : (xs ys : List Op) → is_task ys ≡ true → is_task (xs ++ ys) ≡ true
task_behind [] ys is = is
task_behind (x ∷ xs) ys is = by (xs ++ ys) (task_behind xs ys is)
  where
    by : (zs : List Op) → is_task zs ≡ true → is_task (x ∷ zs) ≡ true
    by [] h = cc
    by (z ∷ zs) h =
        let last : suc (suc (length zs)) - 1 ≡ suc (suc (length zs) - 1) = omega arith in
        ap (λ k. ends_task (slice_get (x ∷ z ∷ zs) k)) last ∙ h

-- ---- captured values

looked : (values : Typed) (cs : List ℕ) (e : Env) (n : ℕ) → (lookup e n ≡ Some (type_in values n)) ⊎ Among cs n → lookup (with_typed (typed_in values cs) e) n ≡ Some (type_in values n)
looked values [] e n (inl h) = h
looked values [] e n (inr h) = absurd h
looked values (c ∷ cs) e n h = looked values cs ((record { 0 = c }, type_in values c) ∷ e) n (next h)
  where
    by : (b : Bool) → (c == n) ≡ b → lookup e n ≡ Some (type_in values n) → cond b (Some (type_in values c)) (lookup e n) ≡ Some (type_in values n)
    by true is h = ap (λ k. Some (type_in values k)) (equal c n is)
    by false is h = h

    here : c ≡ n → cond (c == n) (Some (type_in values c)) (lookup e n) ≡ Some (type_in values n)
    here same = ap (λ b. cond b (Some (type_in values c)) (lookup e n)) (is_equal c n same) ∙ ap (λ k. Some (type_in values k)) same

    next : (lookup e n ≡ Some (type_in values n)) ⊎ Among (c ∷ cs) n → (cond (c == n) (Some (type_in values c)) (lookup e n) ≡ Some (type_in values n)) ⊎ Among cs n
    next (inl h) = inl (by (c == n) refl h)
    next (inr (inl same)) = inl (here same)
    next (inr (inr more)) = inr more

below_all : (values : Typed) (m : ℕ) (cs : List ℕ) → ((n : ℕ) → Among cs n → n < m) → Below m (typed_in values cs)
below_all values m [] each = tt
below_all values m (c ∷ cs) each = (each c (inl refl), below_all values m cs (λ n among. each n (inr among)))

below_held : (values ps : Typed) → AreHeld values ps → Below (first_free values) ps
below_held values [] h = tt
below_held values (p ∷ ps) h = (h.1, below_held values ps h.2)

-- these are visible, with the types that they have among all
module _ (values : Typed) (seen : Seen) (env : Env) (next : ℕ) (known : Known values seen next) where
  caught_have : (cs : List ℕ) → ((n : ℕ) → Among cs n → (t : Ty) × (lookup seen n ≡ Some t)) → Shows cs seen env → HasTypes env (as_values cs) (types_in (typed_in values cs))
  caught_have [] caught shows = tt
  caught_have (c ∷ cs) caught shows =
      let here = caught c (inl refl) in
      (shows c (inl refl) here.0 here.1 ∙ ap Some (sym (known c here.0 here.1).type), caught_have cs (λ n among. caught n (inr among)) (λ n among t at. shows n (inr among) t at))

  caught_types : (cs : List ℕ) → ((n : ℕ) → Among cs n → (t : Ty) × (lookup seen n ≡ Some t)) → AreTypes (types_in (typed_in values cs))
  caught_types [] caught = refl
  caught_types (c ∷ cs) caught =
      let here = caught c (inl refl) in
      let k = known c here.0 here.1 in
      and_both (is_type (type_in values c)) (every is_type (types_in (typed_in values cs))) (subst (λ u. is_type u ≡ true) (sym k.type) k.is) (caught_types cs (λ n among. caught n (inr among)))

uses_last : (vs ws : List ValueNo) (n : ℕ) → Among (numbers ws) n → Among (numbers (vs ++ ws)) n
uses_last [] ws n is = is
uses_last (v ∷ vs) ws n is = inr (uses_last vs ws n is)

uses_first : (vs ws : List ValueNo) (n : ℕ) → Among (numbers vs) n → Among (numbers (vs ++ ws)) n
uses_first [] ws n is = absurd is
uses_first (v ∷ vs) ws n (inl e) = inl e
uses_first (v ∷ vs) ws n (inr more) = inr (uses_first vs ws n more)

numbers_as : (cs : List ℕ) (n : ℕ) → Among cs n → Among (numbers (as_values cs)) n
numbers_as [] n is = is
numbers_as (c ∷ cs) n (inl e) = inl e
numbers_as (c ∷ cs) n (inr more) = inr (numbers_as cs n more)

-- ---- the launch

module _ (level : Level) (program : Module) (sound : IsSound program.funcs) (few : length (tasks_of program) ≤ 2 ^ 64) (values : Typed)
    (o : Op) (last : Bool) (a : Around) (seen : Seen) (next : ℕ) (p : AtOp level program sound values o last a seen next) (execute : form o ≡ form_is.Execute) where
  abbrev spot : Spot
  spot = record { seen = seen; place = place_of program.funcs a last o }

  fits : LaunchFits spot
  fits = launches_fit spot p.fine p.has (ap (λ g. role_by g (kind_of o)) execute)

  pub no_regions : regions_of o ≡ [] → ⊥
  no_regions none = (let e : map param_types (regions_of o) ≡ map payload (written_of o) ∷ [] = fits.params in let f : map param_types (regions_of o) ≡ [] = ap (λ (rs : List Region). map param_types rs) none in cc)

  module _ (r : Region) (rs : List Region) (are : regions_of o ≡ r ∷ rs) (k : ℕ) where
    params_are : param_types r ∷ map param_types rs ≡ map payload (written_of o) ∷ []
    params_are = sym (ap (λ (qs : List Region). map param_types qs) are) ∙ fits.params

    alone : regions_of o ≡ r ∷ []
    alone = are ∙ ap (λ (qs : List Region). r ∷ qs) (by rs params_are)
      where
        by : (qs : List Region) → param_types r ∷ map param_types qs ≡ map payload (written_of o) ∷ [] → qs ≡ []
        by [] e = refl
        by (q ∷ qs) e = cc

    abbrev made : Region × List Func
    made = outlined_region program.funcs values r (k + 1)

    abbrev captured : List ℕ
    captured = captures made.0

    abbrev name : List ℕ
    name = task_name program.funcs k

    abbrev func : Func
    func = task values (out-Op o) name captured made.0

    abbrev all : Module
    all = outlined program

    above : (n : ℕ) → Among (defined_inside made.0) n → next ≤ n
    above = (subst (λ (qs : List Region). EachAbove next (regions_out level program.funcs values qs (k + 1)).0) alone (p.above (k + 1))).0

    caught : (n : ℕ) → Among captured n → (t : Ty) × (lookup seen n ≡ Some t)
    caught n among =
        let c = (captures_are made.0 n).0 among in
        let scope = (subst (λ (qs : List Region). EachInScope level program.funcs values seen (regions_out level program.funcs values qs (k + 1)).0) alone (p.scope (k + 1))).0 in
        elim (scope n c.0) [ inl i ↦ i | inr i ↦ absurd (c.1 i) ]

    used : (n : ℕ) (t : Ty) → Among (uses_inside made.0) n → lookup seen n ≡ Some t → Among captured n
    used n t among at = (captures_are made.0 n).1 among outside
      where
        outside : Among (defined_inside made.0) n → ⊥
        outside inside = (let up = above n inside in let low = (p.known n t at).less in absurd (omega (arith, up, low)))

    -- ---- the task's function

    abbrev task_env : Env
    task_env = with_typed func.params []

    in_env : (n : ℕ) (t : Ty) → Among captured n → lookup seen n ≡ Some t → lookup task_env n ≡ Some t
    in_env n t among at =
        ap (λ (e : Env). lookup e n) (with_both (dependencies values (out-Op o) ++ value_operands values (out-Op o)) (typed_in values captured) [])
        ∙ looked values captured (with_typed (dependencies values (out-Op o) ++ value_operands values (out-Op o)) []) n (inr among)
        ∙ ap Some (p.known n t at).type

    abbrev Goal : List Region → Type 0
    Goal qs = (j : ℕ) (given : List Ty) (env : Env) → AtRegions level program sound values o 0 qs j a seen env next → OfRegions level program sound values o 0 qs j given env

    inner : TasksIn (tasks_of program) (k + 1) made.1 → OfRegions level program sound values o 0 (r ∷ []) (k + 1) (results_of_task o) task_env
    inner tasks =
        let goal : Goal (r ∷ []) = subst Goal alone p.regions in
        goal (k + 1) (results_of_task o) task_env (record {
          fine = subst (λ (qs : List Region). AreFine (places_held program.funcs qs a o 0 seen)) alone p.inside;
          known = p.known;
          shows = λ n among t at. elim (among_either (uses_inside made.0) [] n among) [ inl i ↦ in_env n t (used n t i at) at | inr i ↦ absurd i ];
          own = subst (λ (qs : List Region). AreHeld values (joined (map values_inside qs))) alone p.own;
          tasks = subst (λ (fs : List Func). TasksIn (tasks_of program) (k + 1) fs) (sym (nothing made.1)) tasks;
          closed = subst (λ (qs : List Region). AreClosed a o 0 qs) alone (are_closed spot p.fine p.has);
        })

    results_types : AreTypes (results_of_task o)
    results_types = subst (λ (us : List Ty). AreTypes (map held (drop 1 us))) (sym fits.types) (held_types fits.values fits.gives_values)

    own_params : AreHeld values (params_of r)
    own_params =
        let one : AreHeld values (values_inside r ++ []) = subst (λ (qs : List Region). AreHeld values (joined (map values_inside qs))) alone p.own in
        held_front values (params_of r) (joined (map values_in (ops_of r))) (subst (λ (ps : Typed). AreHeld values ps) (region_defines r) (held_front values (values_inside r) [] one))

    typed_region : TasksIn (tasks_of program) (k + 1) made.1 → TypedRegion all values o name captured made.0
    typed_region tasks =
        let less = p.at in
        let here : param_types r ≡ map payload (written_of o) = (let e : param_types r ∷ map param_types rs ≡ map payload (written_of o) ∷ [] = params_are in cc) in
        let params : params_of made.0 ≡ params_of r = params_kept level program sound values r (k + 1) in
        record {
          are_values = fits.are_values;
          params = ap (λ (ps : List Var). types_in ps) params ∙ types_map (params_of r) ∙ here;
          results = results_types;
          code = omega (arith, less);
          captures = below_all values (first_free values) captured (λ n among. (let c = caught n among in (p.known n c.0 c.1).free));
          own = subst (λ (ps : Typed). Below (first_free values) ps) (sym params) (below_held values (params_of r) own_params);
          ops = subst (λ g. TypedOps all (results_of_task o) (tree (ops_of made.0)) (with_typed (params_of made.0) task_env) (end_types_in g o 0)) execute (inner tasks).typed.0;
        }

    task_is : TasksIn (tasks_of program) (k + 1) made.1 → IsTask all func
    task_is tasks = record {
      typed = tasks_typed all values o name captured made.0 (typed_region tasks);
      held = subst (λ (us : List Ty). every can_be_held (map held (drop 1 us)) ≡ true) (sym fits.types) (can_hold_all fits.values fits.gives_values);
    }

    pub launch_tasks : TasksIn (tasks_of program) k (func ∷ made.1) → AreTasks all (func ∷ made.1)
    launch_tasks tasks = (task_is tasks.1, tasks_of_front all made.1 [] (inner tasks.1).tasks)

    -- ---- the launch

    abbrev launched_layer : Op-F Op Region
    launched_layer = record { kind = (out-Op o).kind; at = (out-Op o).at; operands = (out-Op o).operands ++ as_values captured; groups = (out-Op o).groups; written = (out-Op o).written; results = (out-Op o).results; types = (out-Op o).types; attr = Callee name; regions = [] }

    ends_so : is_task (ops_of func.body) ≡ true
    ends_so =
        let front : List Op = awaits_each (out-Op o).at (dependencies values (out-Op o)) ++ awaits_for (out-Op o).at (value_operands values (out-Op o)) (params_of made.0) in
        let at : slice_get (regions_of o) 0 ≡ Some r = ap (λ (qs : List Region). slice_get qs 0) are in
        ap (λ (x : Region-F Op Region). is_task x.ops) (out-roll-Region _)
        ∙ task_behind front (ops_of made.0) (ends_alike program.funcs values r (k + 1) ∙ ends_as_task (ops_of r) (task_ends spot p.fine p.has execute r at))

    there : slice_get (tasks_of program) k ≡ Some func → Names all.funcs (Callee name) func
    there at =
        let less : k < length (tasks_of program) = slice_get_within (tasks_of program) k func at in
        let names : map name_of (functions_of program) ≡ map name_of program.funcs = (tasks_in_order program).names in
        let long : length (functions_of program) ≡ length program.funcs = sym (length-map (functions_of program) name_of) ∙ ap (λ (ns : List (List ℕ)). length ns) names ∙ length-map program.funcs name_of in
        record {
          name = name;
          place = length program.funcs + k;
          carries = refl;
          first = tasks_found program k few less;
          at = ap (λ n. slice_get (functions_of program ++ tasks_of program) (n + k)) (sym long) ∙ get_behind (functions_of program) (tasks_of program) k ∙ at;
        }

    takes : types_in func.params ≡ (tokens (dependency_count (groups_of o)) ++ written_of o) ++ types_in (typed_in values captured)
    takes =
        let deps : Typed = dependencies values (out-Op o) in
        let vals : Typed = value_operands values (out-Op o) in
        types_both (deps ++ vals) (typed_in values captured)
        ∙ ap (λ (ts : List Ty). ts ++ types_in (typed_in values captured)) (types_both deps vals ∙ ap₂ (λ (ts us : List Ty). ts ++ us) (types_numbered (first_free values) (tokens (dependency_count (groups_of o)))) (types_numbered (first_free values + dependency_count (groups_of o)) (written_of o)))

    pub launch_typed : (given : List Ty) (env : Env) (rest : Ops) → Shows (uses_in (roll-Op launched_layer)) seen env → TasksIn (tasks_of program) k (func ∷ made.1)
        → ((is_end (role_of (kind_of o)) → ⊥) → TypedOps all given rest (with_typed (typed (results_of o) (types_of o)) env) (end_types a))
        → TypedOps all given (tree_before (roll-Op launched_layer) rest) env (end_types a)
    launch_typed given env rest shows tasks behind =
        let uses : uses_in (roll-Op launched_layer) ≡ numbers (operands_of o ++ as_values captured) ++ [] = made_uses level program.funcs values launched_layer in
        let both : Shows (numbers (operands_of o ++ as_values captured)) seen env = subst (λ (us : List ℕ). Shows us seen env) (uses ∙ nothing (numbers (operands_of o ++ as_values captured))) shows in
        let l : IsLaunched all given spot values name captured env rest (end_types a) = record {
          shown = are_shown seen env (operands_of o) (λ n among t at. both n (uses_first (operands_of o) (as_values captured) n among) t at);
          captures = caught_have values seen env next p.known captured caught (λ n among t at. both n (uses_last (operands_of o) (as_values captured) n (numbers_as captured n among)) t at);
          are_types = caught_types values seen env next p.known captured caught;
          func = func;
          names = there tasks.0;
          task = ends_so;
          params = takes;
          results = refl;
          behind = behind (λ h. subst is_end (ap (λ g. role_by g (kind_of o)) execute) h);
        } in
        launches_typed all given spot values name captured env rest (end_types a) p.fine p.has (ap (λ g. role_by g (kind_of o)) execute) l
