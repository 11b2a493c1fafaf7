-- All operations of a text are typed once its tasks are functions.
use Rattle.std.proofs.Common.{◌≡◌, ◌<◌, ◌≤◌, ◌^◌, ℕ, ◌+◌, cond, Bool, true, false, List, [], ◌∷◌, ◌++◌, length, map, None, slice_get, refl, sym, ap, ◌∙◌, subst, arith, true≢false}
use Rattle.op_table.specs.declared.form.Form.{Form}
use Rattle.op_table.specs.declared.form.Form.TheVariants as form_is
use Rattle.op_table.specs.declared.kind.OpKind.{OpKind}
use Rattle.op_table.specs.declared.kind.OpKind.TheVariants as op
use Rattle.op_table.specs.declared.rows.Level.{Level}
use Rattle.op_table.specs.Rows.{row_of}
use Rattle.ir_forms.specs.declared.ops.Func.{Func}
use Rattle.ir_forms.specs.declared.ops.Module.{Module}
use Rattle.ir_forms.specs.declared.ops.Op.{Op, out-Op}
use Rattle.ir_forms.specs.declared.ops.Op.TheFolds.{fold-roll-Region}
use Rattle.ir_forms.specs.declared.ops.Region.{Region, out-roll-Region, roll-Region}
use Rattle.ir_forms.specs.declared.ops.ValueNo.{ValueNo}
use Rattle.ir_forms.specs.declared.types.Ty.{Ty}
use Rattle.ir_forms.specs.Numbers.{joined}
use Rattle.ir_forms.specs.Ops.{kind_of, ops_of, regions_of, results_of}
use Rattle.ir_verify.specs.Forms.{form, form_of}
use Rattle.ir_verify.specs.Places.{Around, Seen, Spot, defined, is_none_left, params_of, place_of, places_along, places_at, places_held, places_in, types_of, within}
use Rattle.ir_verify.specs.Verdict.{IsSound}
use Rattle.ir_verify.proofs.PlaceLemmas.{places_at-out, places_in-out}
use Rattle.low_forms.specs.declared.code.LowKind.TheVariants.{Launch}
use Rattle.made_funcs.specs.Captures.{op_uses, region_uses, uses_in, uses_inside}
use Rattle.mlir_print.specs.Printable.{HasForm, Ops, Part, Prints, Regions, Scope, no_ops, no_regions, operation, region}
use Rattle.outline_laws.specs.Laws.{tasks_of}
use Rattle.scf_blocks.specs.declared.role.Role.TheVariants as role
use Rattle.scf_blocks.specs.Tree as trees
use Rattle.sound_laws.specs.Extended.{AreFine}
use Rattle.sound_laws.proofs.Sound.{fine_front, fine_rest}
use Rattle.typed_rows.specs.Typed.{AreTypes, Env, TypedOps, with_typed}
use Rattle.exec_outline.specs.Shape.{Typed, is_execute, outlined, outlined_as, outlined_op, outlined_region, typed, values_in, values_inside}
use Rattle.outlined_types.specs.Forms.{end_types, end_types_in}
use Rattle.outlined_types.specs.Operations.{is_end}
use Rattle.outlined_types.specs.Ordered.{AreHeld, CountOn}
use Rattle.outlined_types.proofs.InOrder.{count_params, counts_on, op_defines, region_defines}
use Rattle.outlined_types.proofs.InScope.{in_scope, layer, op_is, ops_out, region_is, regions_out, same_typed}
use Rattle.outlined_types.proofs.Operations.{types_typed}
use Rattle.sound_laws.proofs.Facts.{counts}
use Rattle.outlined_code.proofs.Above.{out_above}
use Rattle.outlined_code.proofs.Kept.{AtOp, AtRegions, OfRegions, kept_tasks, kept_typed, params_kept}
use Rattle.outlined_code.proofs.Launched.{launch_tasks, launch_typed, no_regions as never_bare}
use Rattle.outlined_code.proofs.Regions.{Closes, closes_next, closes_none, result_types}
use Rattle.outlined_code.proofs.Values.{AreTasks, Known, Shows, TasksIn, count_defined, count_up, defined_typed, held_front, held_rest, known_later, known_on, shows_behind, shows_front, shows_rest, tasks_both, tasks_front, tasks_rest}

-- ---- launches by their kind

execute_kind : (kind : OpKind) → is_execute kind ≡ true → kind ≡ op.AsyncExecute
execute_kind op.AsyncExecute e = refl
execute_kind _ e = cc

launch_form : (g : Form) (kind : OpKind) → trees.role_by g kind ≡ role.Plain Launch → g ≡ form_is.Execute
launch_form form_is.Execute kind e = refl
launch_form _ kind e = cc

form_kind : (kind : OpKind) → form_of kind ≡ form_is.Execute → is_execute kind ≡ true
form_kind op.AsyncExecute e = refl
form_kind _ e = cc

execute_form : (o : Op) → is_execute (kind_of o) ≡ true → form o ≡ form_is.Execute
execute_form o e = ap (λ k. (row_of k).form) (execute_kind (kind_of o) e)

no_launch : (o : Op) → is_execute (kind_of o) ≡ false → trees.role_of (kind_of o) ≡ role.Plain Launch → ⊥
no_launch o e is = absurd (true≢false (sym (form_kind (kind_of o) (launch_form (form o) (kind_of o) is)) ∙ e))

module _ (level : Level) (program : Module) (sound : IsSound program.funcs) (few : length (tasks_of program) ≤ 2 ^ 64) (values : Typed) where
  abbrev funcs : List Func
  funcs = program.funcs

  abbrev all : Module
  all = outlined program

  abbrev out : List Op → ℕ → List Op × List Func
  out os k = ops_out level funcs values os k

  -- ---- one operation

  module _ (o : Op) (last : Bool) (a : Around) (seen : Seen) (next : ℕ) (p : AtOp level program sound values o last a seen next) (k : ℕ) (given : List Ty) (env : Env) (rest : trees.Ops) where
    abbrev Behind : Type 0
    Behind = (is_end (trees.role_of (kind_of o)) → ⊥) → TypedOps all given rest (with_typed (trees.typed (results_of o) (types_of o)) env) (end_types a)

    -- typed before what stands behind it, and its tasks
    pub record Comes (x : Op × List Func) : Type 0 where
      pub typed : Behind → TypedOps all given (trees.tree_before x.0 rest) env (end_types a)
      pub tasks : AreTasks all x.1

    abbrev Becomes : Op × List Func → Type 0
    Becomes x = Shows (uses_in x.0) seen env → TasksIn (tasks_of program) k x.1 → Comes x

    by_kind : (b : Bool) (rs : List Region) → is_execute (kind_of o) ≡ b → regions_of o ≡ rs → Becomes (outlined_as funcs values (layer level funcs values o) (cond b (slice_get (map (outlined_region funcs values) rs) 0) None) k)
    by_kind false rs e are shows tasks = record {
      typed = λ behind. kept_typed level program sound values o last a seen next p k given env rest (no_launch o e) shows tasks behind;
      tasks = kept_tasks level program sound values o last a seen next p k given env shows tasks;
    }
    by_kind true [] e are shows tasks = absurd (never_bare level program sound few values o last a seen next p (execute_form o e) are)
    by_kind true (r ∷ rs) e are shows tasks = record {
      typed = λ behind. launch_typed level program sound few values o last a seen next p (execute_form o e) r rs are k given env rest shows tasks behind;
      tasks = launch_tasks level program sound few values o last a seen next p (execute_form o e) r rs are k tasks;
    }

    pub comes : Becomes (outlined_op funcs values o k)
    comes = subst Becomes (sym (op_is level funcs values o k)) (by_kind (is_execute (kind_of o)) (regions_of o) refl refl)

  -- ---- operations of a region

  pub record AtOps (os : List Op) (k : ℕ) (a : Around) (seen : Seen) (env : Env) (next : ℕ) : Type 0 where
    pub fine : AreFine (places_along funcs os a seen)
    pub known : Known values seen next
    pub shows : Shows (joined (map uses_in (out os k).0)) seen env
    pub own : AreHeld values (joined (map values_in os))
    pub tasks : TasksIn (tasks_of program) k (out os k).1

  pub record OfOps (os : List Op) (k : ℕ) (a : Around) (given : List Ty) (env : Env) : Type 0 where
    pub typed : Closes a os → TypedOps all given (trees.tree (out os k).0) env (end_types a)
    pub tasks : AreTasks all (out os k).1

  abbrev Goal : Part → ℕ → Type 0
  Goal (Ops os) next = (k : ℕ) (a : Around) (seen : Seen) (given : List Ty) (env : Env) → AtOps os k a seen env next → OfOps os k a given env
  Goal (Regions o i rs) next =
      (a : Around) (seen : Seen) (k : ℕ) (given : List Ty) (env : Env) → AtRegions level program sound values o i rs k a seen env next → OfRegions level program sound values o i rs k given env

  -- ---- a region

  uses_region : (r : Region) (k : ℕ) → uses_inside (outlined_region funcs values r k).0 ≡ joined (map uses_in (out (ops_of r) k).0)
  uses_region r k =
      ap (λ (x : Region × List Func). uses_inside x.0) (region_is level funcs values r k)
      ∙ fold-roll-Region (List ℕ) (List ℕ) op_uses region_uses (record { params = params_of r; ops = (out (ops_of r) k).0 })

  pub ops_region : (r : Region) (k : ℕ) → ops_of (outlined_region funcs values r k).0 ≡ (out (ops_of r) k).0
  ops_region r k = ap (λ (x : Region × List Func). ops_of x.0) (region_is level funcs values r k) ∙ ap (λ x. x.ops) (out-roll-Region _)

  pub tasks_region : (r : Region) (k : ℕ) → (outlined_region funcs values r k).1 ≡ (out (ops_of r) k).1
  tasks_region r k = ap (λ (x : Region × List Func). x.1) (region_is level funcs values r k)

  module _ (o : Op) (i : ℕ) (r : Region) (rs : List Region) (next inner : ℕ) (own : CountOn next (next + length (map (λ (p : ValueNo × Ty). p.0) (params_of r))) (params_of r)) (le : next ≤ inner)
      (here : Goal (Ops (ops_of r)) (next + length (map (λ (p : ValueNo × Ty). p.0) (params_of r)))) (behind : Goal (Regions o (i + 1) rs) inner) where
    abbrev start : ℕ
    start = next + length (map (λ (p : ValueNo × Ty). p.0) (params_of r))

    one_region : Goal (Regions o i (r ∷ rs)) next
    one_region a seen k given env at =
        let q : Region × List Func = outlined_region funcs values r k in
        let later : ℕ = k + length q.1 in
        let seen_in : Seen = seen ++ params_of r in
        let env_in : Env = with_typed (params_of r) env in
        let inside : Typed = joined (map values_inside rs) in
        let fine : AreFine (places_along funcs (ops_of r) (within a o i) seen_in) =
        subst AreFine (places_in-out funcs r (within a o i) seen) (fine_front (places_in funcs r (within a o i) seen) (places_held funcs rs a o (i + 1) seen) at.fine) in
        let held_in : AreHeld values (params_of r ++ joined (map values_in (ops_of r))) = subst (λ (ps : Typed). AreHeld values ps) (region_defines r) (held_front values (values_inside r) inside at.own) in
        let known_in : Known values seen_in start = known_on values seen (params_of r) next start at.known own (held_front values (params_of r) (joined (map values_in (ops_of r))) held_in) at.closed.1 in
        let shows_in : Shows (joined (map uses_in (out (ops_of r) k).0)) seen_in env_in =
        shows_behind values (joined (map uses_in (out (ops_of r) k).0)) seen (params_of r) env next start at.known own
        (subst (λ (us : List ℕ). Shows us seen env) (uses_region r k) (shows_front (uses_inside q.0) (joined (map uses_inside (regions_out level funcs values rs later).0)) seen env at.shows)) in
        let tasks_in : TasksIn (tasks_of program) k (out (ops_of r) k).1 = subst (λ (fs : List Func). TasksIn (tasks_of program) k fs) (tasks_region r k) (tasks_front (tasks_of program) q.1 (regions_out level funcs values rs later).1 k at.tasks) in
        let one : OfOps (ops_of r) k (within a o i) given env_in = here k (within a o i) seen_in given env_in (record {
          fine = fine;
          known = known_in;
          shows = shows_in;
          own = held_rest values (params_of r) (joined (map values_in (ops_of r))) held_in;
          tasks = tasks_in;
        }) in
        let others : OfRegions level program sound values o (i + 1) rs later given env = behind a seen later given env (record {
          fine = fine_rest (places_in funcs r (within a o i) seen) (places_held funcs rs a o (i + 1) seen) at.fine;
          known = known_later values seen next inner at.known le;
          shows = shows_rest (uses_inside q.0) (joined (map uses_inside (regions_out level funcs values rs later).0)) seen env at.shows;
          own = held_rest values (values_inside r) inside at.own;
          tasks = tasks_rest (tasks_of program) q.1 (regions_out level funcs values rs later).1 k at.tasks;
          closed = at.closed.2;
        }) in
        let typed_in : TypedOps all given (trees.tree (ops_of q.0)) (with_typed (params_of q.0) env) (end_types_in (form o) o i) =
        subst (λ (os : List Op). TypedOps all given (trees.tree os) (with_typed (params_of q.0) env) (end_types_in (form o) o i)) (sym (ops_region r k))
        (subst (λ (ps : Typed). TypedOps all given (trees.tree (out (ops_of r) k).0) (with_typed ps env) (end_types_in (form o) o i)) (sym (params_kept level program sound values r k)) (one.typed at.closed.0)) in
        record {
          typed = (typed_in, others.typed);
          tasks = tasks_both all q.1 (regions_out level funcs values rs later).1 (subst (λ (fs : List Func). AreTasks all fs) (sym (tasks_region r k)) one.tasks) others.tasks;
        }

  -- ---- an operation before others

  module _ (o : Op) (os : List Op) (s inner : Scope) (prints : Prints level (Regions o 0 (regions_of o)) (record { next = s.next + length (results_of o); seen = s.seen }) inner)
      (has : HasForm (kind_of o) o) (at : (out-Op o).at < 2 ^ 32) (own : CountOn s.next (s.next + length (results_of o)) (defined (results_of o) (types_of o)))
      (regions : Goal (Regions o 0 (regions_of o)) (s.next + length (results_of o))) (behind : Goal (Ops os) inner.next) where
    abbrev begin : ℕ
    begin = s.next + length (results_of o)

    abbrev ds : Seen
    ds = defined (results_of o) (types_of o)

    abbrev inside : Typed
    inside = joined (map values_inside (regions_of o))

    over : begin ≤ inner.next
    over = count_up begin inner.next inside (counts_on level prints)

    first_op : Goal (Ops (o ∷ os)) s.next
    first_op k a seen given env p =
        let last : Bool = is_none_left os in
        let after : Seen = seen ++ ds in
        let spot : Spot = record { seen = seen; place = place_of funcs a last o } in
        let here : AreFine (spot ∷ places_held funcs (regions_of o) a o 0 seen) =
        subst AreFine (places_at-out funcs o a seen last) (fine_front (places_at funcs o a seen last) (places_along funcs os a after) p.fine) in
        let q : Op × List Func = outlined_op funcs values o k in
        let later : ℕ = k + length q.1 in
        let rest : trees.Ops = trees.tree (out os later).0 in
        let uses : List ℕ = joined (map uses_in (out os later).0) in
        let held_all : AreHeld values (typed (results_of o) (types_of o) ++ inside) = subst (λ (ps : Typed). AreHeld values ps) (op_defines o) (held_front values (values_in o) (joined (map values_in os)) p.own) in
        let held_ds : AreHeld values ds = subst (λ (ps : Typed). AreHeld values ps) (sym (same_typed (results_of o) (types_of o))) (held_front values (typed (results_of o) (types_of o)) inside held_all) in
        let types_are : trees.types_in ds ≡ types_of o = ap (λ (ps : Typed). trees.types_in ps) (sym (defined_typed (results_of o) (types_of o))) ∙ types_typed (results_of o) (types_of o) (counts spot here.0).results in
        let types : AreTypes (trees.types_in ds) = subst AreTypes (sym types_are) (result_types (form o) o has) in
        let up : s.next ≤ begin = count_up s.next begin ds own in
        let placed_op : AtOp level program sound values o last a seen begin = record {
          fine = here.0;
          inside = here.1;
          has = has;
          at = at;
          known = known_later values seen s.next begin p.known up;
          own = held_rest values (typed (results_of o) (types_of o)) inside held_all;
          regions = λ j g e r. regions a seen j g e r;
          scope = λ j. in_scope level funcs values prints j a o 0 seen here.1;
          above = λ j. out_above level funcs values prints j;
        } in
        let c : Comes o last a seen begin placed_op k given env rest q =
        comes o last a seen begin placed_op k given env rest (shows_front (uses_in q.0) uses seen env p.shows) (tasks_front (tasks_of program) q.1 (out os later).1 k p.tasks) in
        let others : OfOps os later a given (with_typed ds env) = behind later a after given (with_typed ds env) (record {
          fine = fine_rest (places_at funcs o a seen last) (places_along funcs os a after) p.fine;
          known = known_later values after begin inner.next (known_on values seen ds s.next begin p.known own held_ds types) over;
          shows = shows_behind values uses seen ds env s.next begin p.known own (shows_rest (uses_in q.0) uses seen env p.shows);
          own = held_rest values (values_in o) (joined (map values_in os)) p.own;
          tasks = tasks_rest (tasks_of program) q.1 (out os later).1 k p.tasks;
        }) in
        record {
          typed = λ closes.
              c.typed (λ other. subst (λ (ps : Typed). TypedOps all given rest (with_typed ps env) (end_types a)) (sym (defined_typed (results_of o) (types_of o))) (others.typed (closes_next o os a closes other)));
          tasks = tasks_both all q.1 (out os later).1 c.tasks others.tasks;
        }

  pub placed : {x : Part} {from to : Scope} → Prints level x from to → Goal x from.next
  placed (no_ops s) = λ k a seen given env p. record { typed = λ c. closes_none a env c; tasks = tt }
  placed (operation o os s inner end stands has at new uses regions rest) = first_op o os s inner regions has at (count_defined s.next (results_of o) (types_of o) new) (placed regions) (placed rest)
  placed (no_regions o i s) = λ a seen k given env p. record { typed = tt; tasks = tt }
  placed (region o i r rs s inner end new ended ops rest) =
      let own : CountOn s.next (s.next + length (map (λ (p : ValueNo × Ty). p.0) (params_of r))) (params_of r) = count_params s.next (params_of r) new in
      let up = count_up s.next (s.next + length (map (λ (p : ValueNo × Ty). p.0) (params_of r))) (params_of r) own in
      let over = count_up (s.next + length (map (λ (p : ValueNo × Ty). p.0) (params_of r))) inner.next (joined (map values_in (ops_of r))) (counts_on level ops) in
      one_region o i r rs s.next inner.next own (omega (arith, up, over)) (placed ops) (placed rest)
