-- A task with other names does next what it does with its own.
use Rattle.std.proofs.Common.{◌≡◌, ℕ, zero, suc, ◌-◌, nat_le, Bool, true, false, cond, List, [], ◌∷◌, ◌++◌, map, drop, Option, Some, None, slice_get, refl, sym, ap, subst, ◌∙◌, nat_eq}
use Rattle.std.proofs.Math.Decide.{ℕ_discrete}
use Rattle.std.specs.Option.{option_map}
use Rattle.std.proofs.lemmas.Option.{slice_get-map}
use Rattle.std.proofs.lemmas.List.{length-map}
use Rattle.ir_forms.specs.declared.ops.Op.{Op, out-Op, out-roll-Op}
use Rattle.ir_forms.specs.declared.ops.Op.TheFolds.{fold_out-Op, fold_out-Region}
use Rattle.ir_forms.specs.declared.ops.Region.{Region, out-Region, out-roll-Region}
use Rattle.ir_forms.specs.declared.ops.ValueNo.{ValueNo}
use Rattle.ir_forms.specs.declared.types.Ty.{Ty}
use Rattle.ir_verify.specs.declared.place.Nest.{Nest}
use Rattle.ir_verify.specs.Calls.{is_marked, callee_place}
use Rattle.ir_forms.specs.declared.ops.Func.{Func}
use Rattle.op_table.specs.declared.kind.OpKind.{OpKind}
use Rattle.op_table.specs.declared.kind.OpKind.TheVariants as op
use Rattle.op_table.specs.Rows.{is_terminator}
use Rattle.int_ops.specs.declared.BinOp.TheVariants as bin
use Rattle.std.proofs.lemmas.Bool.Decides.{eqb_tells}
use Rattle.std.specs.Prelude.{eqb, ◌≢◌, ◌⊎◌}
use mathlib.Core.Logic.{inl, inr}
use Rattle.ir_forms.specs.declared.names.ElementName.{ElementName}
use Rattle.source_meaning.specs.declared.values.Val.{Val}
use Rattle.source_meaning.specs.declared.values.Val.TheVariants.{Number}
use Rattle.source_meaning.specs.Values.{maybe, or_else, Env, named, put, bind, values_at, number_in, element_in, group_in, dims_in}
use Rattle.source_meaning.specs.Parts.{Node, region_of, ops_in, names_of, params_in, func_ops, func_params}
use Rattle.ir_forms.specs.Shapes.{most_cells}
use Rattle.source_meaning.specs.Rows.{cell_from, at_width, literal_bits, compared_at, sign_cast, is_below, stepped, result_at, product_within, most_elements, are_bounds, turns_of, spans_of}
use Rattle.source_meaning.specs.Tasks.{Program, Scope, After, Joins, Turns, Tests, Repeats, Returns, Tries, Task, Pending, Awaits, Failing, Ask, Loop, Span, Enters, Adds, Launches, Next, Goes, Asks, Gave, FailedAt, bound}
use Rattle.source_meaning.specs.Flow.{scope_of, called, entered, turned, tested, leaves, gives, caught, fails}
use Rattle.source_meaning.specs.Steps.{chosen, selects, extends_sign, fits_width, value, number, numbers, is_among, is_used, adds, split_in, loop_of, enters_loop, enters_spans, does, acts, asked_sizes, group, next_op, next, or_fails, computes, result_width, written_width, binary, loads, stores, allocates, creates, asserts, loops, branches, awaits_each, awaits_for, child_of, launches, enters}
use Rattle.source_meaning.specs.Renaming as plain
use Rattle.meaning_laws.specs.RenamedSteps.{StepIsRenamed, LikeAsk, same, joins_all, LikeNext, goes, asks, ends}
use Rattle.meaning_laws.specs.RenamedSteps as like
use Rattle.int_ops.specs.declared.BinOp.{BinOp}
use Rattle.source_meaning.specs.Renaming.{NextIsRenamed, renamed_value, renamed_values, renamed_params, op_renamed, region_renamed, renamed_op, renamed_ops, renamed_region, renamed_node, renamed_func, IsRenamed, IsInjective, Sees, LikeScope, LikeFrames, end, joins, turns, tests, repeats, returns, tries, LikeLoop, LikePending, done, awaits, joining, failing, LikeTask}

-- ---- values under their names

named_put_same : (env : Env) (k : ℕ) (v : Val) → named (put env k v) k ≡ v
named_put_same [] zero v = refl
named_put_same [] (suc k) v = named_put_same [] k v
named_put_same (x ∷ env) zero v = refl
named_put_same (x ∷ env) (suc k) v = named_put_same env k v

named_put_other : (env : Env) (k j : ℕ) (v : Val) → (k ≡ j → ⊥) → named (put env k v) j ≡ named env j
named_put_other [] zero zero v n = absurd (n refl)
named_put_other [] zero (suc j) v n = refl
named_put_other [] (suc k) zero v n = refl
named_put_other [] (suc k) (suc j) v n = named_put_other [] k j v (λ e. n (ap suc e))
named_put_other (x ∷ env) zero zero v n = absurd (n refl)
named_put_other (x ∷ env) zero (suc j) v n = refl
named_put_other (x ∷ env) (suc k) zero v n = refl
named_put_other (x ∷ env) (suc k) (suc j) v n = named_put_other env k j v (λ e. n (ap suc e))

-- ---- parts of what is renamed

module _ (σ : ℕ → ℕ) where
  parts : (o : Op) → out-Op (renamed_op σ o) ≡ renamed_node σ (out-Op o)
  unfolding renamed_op renamed_region
  parts o = ap out-Op (fold_out-Op Op Region (op_renamed σ) (region_renamed σ) o) ∙ out-roll-Op _

  region_parts : (r : Region) → out-Region (renamed_region σ r) ≡ record { params = renamed_params σ (out-Region r).params; ops = map (renamed_op σ) (out-Region r).ops }
  unfolding renamed_op renamed_region
  region_parts r = ap out-Region (fold_out-Region Op Region (op_renamed σ) (region_renamed σ) r) ∙ out-roll-Region _

  region_renamed_at : (o : Node) (i : ℕ) → region_of (renamed_node σ o) i ≡ option_map (renamed_region σ) (region_of o i)
  region_renamed_at o i = slice_get-map (renamed_region σ) o.regions i

  names_renamed : (params : List (ValueNo × Ty)) → names_of (renamed_params σ params) ≡ renamed_values σ (names_of params)
  names_renamed [] = refl
  names_renamed (p ∷ params) = ap (λ xs. renamed_value σ p.0 ∷ xs) (names_renamed params)

  params_renamed : (r : Option Region) → params_in (option_map (renamed_region σ) r) ≡ renamed_values σ (params_in r)
  params_renamed None = refl
  params_renamed (Some r) = ap (λ l. names_of l.params) (region_parts r) ∙ names_renamed _

  ops_renamed : (r : Option Region) → ops_in (option_map (renamed_region σ) r) ≡ renamed_ops σ (ops_in r)
  ops_renamed None = refl
  ops_renamed (Some r) = ap (λ l. l.ops) (region_parts r)

-- ---- tasks with other names

module _ (σ : ℕ → ℕ → ℕ) (inj : IsInjective σ) where
  sees_put_dec : (k : ℕ) (env env' : Env) (x : ℕ) (v : Val) → Sees σ k env env' → (y : ℕ) → Dec (x ≡ y) → named (put env' (σ k x) v) (σ k y) ≡ named (put env x v) y
  sees_put_dec k env env' x v h y (yes e) =
      subst (λ y. named (put env' (σ k x) v) (σ k y) ≡ named (put env x v) y) e (named_put_same env' (σ k x) v ∙ sym (named_put_same env x v))
  sees_put_dec k env env' x v h y (no n) =
      named_put_other env' (σ k x) (σ k y) v (λ e. n (inj k x y e)) ∙ (h y ∙ sym (named_put_other env x y v n))

  sees_put : (k : ℕ) (env env' : Env) (x : ℕ) (v : Val) → Sees σ k env env' → Sees σ k (put env x v) (put env' (σ k x) v)
  sees_put k env env' x v h y = sees_put_dec k env env' x v h y (ℕ_discrete x y)

  pub sees_bind : (k : ℕ) (xs : List ValueNo) (vs : List Val) (env env' : Env) → Sees σ k env env' → Sees σ k (bind xs vs env) (bind (renamed_values (σ k) xs) vs env')
  sees_bind k xs [] env env' h = h
  sees_bind k [] (v ∷ vs) env env' h = h
  sees_bind k (x ∷ xs) (v ∷ vs) env env' h = sees_bind k xs vs (put env x.0 v) (put env' (σ k x.0) v) (sees_put k env env' x.0 v h)

  pub bound_like : (xs : List ValueNo) (vs : List Val) (t u : Task) → LikeTask σ t u → LikeTask σ (bound xs vs t) (bound (renamed_values (σ t.scope.func) xs) vs u)
  bound_like xs vs t u h = record {
    pending = h.pending;
    rest = h.rest;
    frames = h.frames;
    scope = record { func = h.scope.func; nest = h.scope.nest; sees = sees_bind t.scope.func xs vs t.scope.env u.scope.env h.scope.sees };
  }

  -- a task with nothing pending
  free : List Op → List (After × List Op) → Scope → Task
  free rest frames scope = record { pending = []; rest = rest; frames = frames; scope = scope }

  free_like : (k : ℕ) (n : Nest) (env env' : Env) (rest : List Op) (fs gs : List (After × List Op)) → Sees σ k env env' → LikeFrames σ k fs gs →
      LikeTask σ (record { pending = []; rest = rest; frames = fs; scope = record { func = k; nest = n; env = env } }) (record { pending = []; rest = renamed_ops (σ k) rest; frames = gs; scope = record { func = k; nest = n; env = env' } })
  free_like k n env env' rest fs gs h l = record { pending = done; rest = refl; frames = l; scope = record { func = refl; nest = refl; sees = h } }

  caught_like : {k : ℕ} (at : ℕ) {fs gs : List (After × List Op)} (r r' : List Op) (hs hs' : List (After × List Op)) (c c' : Scope) → LikeFrames σ k fs gs →
      LikeNext σ (caught at fs (record { pending = []; rest = r; frames = hs; scope = c })) (caught at gs (record { pending = []; rest = r'; frames = hs'; scope = c' }))
  caught_like at r r' hs hs' c c' end = ends (FailedAt at)
  caught_like at r r' hs hs' c c' (joins xs rest l) = caught_like at r r' hs hs' c c' l
  caught_like at r r' hs hs' c c' (turns o i upper step rest l) = caught_like at r r' hs hs' c c' l
  caught_like at r r' hs hs' c c' (tests o rest l) = caught_like at r r' hs hs' c c' l
  caught_like at r r' hs hs' c c' (repeats o rest l) = caught_like at r r' hs hs' c c' l
  caught_like at r r' hs hs' c c' (returns s t xs rest sc l) = caught_like at r r' hs hs' c c' l
  caught_like at r r' hs hs' c c' (tries s t xs rest sc l) =
      goes _ _ (bound_like xs (Number 0 ∷ []) _ _ (record { pending = done; rest = refl; frames = l; scope = sc }))

  cond_like : (b : Bool) (t u t' u' : Task) → LikeTask σ t u → LikeTask σ t' u' → LikeTask σ (cond b t t') (cond b u u')
  cond_like true t u t' u' h g = h
  cond_like false t u t' u' h g = g

  cond_next : (b : Bool) (t u t' u' : Next) → LikeNext σ t u → LikeNext σ t' u' → LikeNext σ (cond b t t') (cond b u u')
  cond_next true t u t' u' h g = h
  cond_next false t u t' u' h g = g

  module _ (k : ℕ) (n : Nest) (env env' : Env) (h : Sees σ k env env') (rest : List Op) (fs gs : List (After × List Op)) (l : LikeFrames σ k fs gs) where
    abbrev one : Task
    one = record { pending = []; rest = rest; frames = fs; scope = record { func = k; nest = n; env = env } }

    abbrev two : Task
    two = record { pending = []; rest = renamed_ops (σ k) rest; frames = gs; scope = record { func = k; nest = n; env = env' } }

    alike : LikeTask σ one two
    alike = record { pending = done; rest = refl; frames = l; scope = record { func = refl; nest = refl; sees = h } }

    entered_like : (a b : After) (r s : Option Region) (vs : List Val) → LikeFrames σ k ((a, rest) ∷ fs) ((b, renamed_ops (σ k) rest) ∷ gs) → s ≡ option_map (renamed_region (σ k)) r →
        LikeTask σ (entered a r vs one) (entered b s vs two)
    entered_like a b r s vs m e =
        let t : Task = record one { rest = ops_in r; frames = (a, rest) ∷ fs } in
        let u : Task = record two { rest = ops_in (option_map (renamed_region (σ k)) r); frames = (b, renamed_ops (σ k) rest) ∷ gs } in
        let inside : LikeTask σ t u = record { pending = done; rest = ops_renamed (σ k) r; frames = m; scope = record { func = refl; nest = refl; sees = h } } in
        let both : LikeTask σ (entered a r vs one) (entered b (option_map (renamed_region (σ k)) r) vs two) =
        subst (λ xs. LikeTask σ (bound (params_in r) vs t) (bound xs vs u)) (sym (params_renamed (σ k) r)) (bound_like (params_in r) vs t u inside) in
        subst (λ s. LikeTask σ (entered a r vs one) (entered b s vs two)) (sym e) both

    turned_like : (o : Node) (i upper step : ℕ) (vs : List Val) → LikeTask σ (turned o i upper step vs one) (turned (renamed_node (σ k) o) i upper step vs two)
    turned_like o i upper step vs =
        cond_like (is_below i upper) _ _ _ _
        (entered_like (Turns o i upper step) (Turns (renamed_node (σ k) o) i upper step) (region_of o 0) (region_of (renamed_node (σ k) o) 0) (Number i ∷ vs) (turns o i upper step rest l) (region_renamed_at (σ k) o 0))
        (bound_like o.results vs one two alike)

    tested_like : (o : Node) (vs : List Val) → LikeTask σ (tested o vs one) (tested (renamed_node (σ k) o) vs two)
    tested_like o [] = bound_like o.results [] one two alike
    tested_like o (v ∷ vs) =
        cond_like (nat_eq (number_in v) 0) _ _ _ _ (bound_like o.results vs one two alike)
        (entered_like (Repeats o) (Repeats (renamed_node (σ k) o)) (region_of o 1) (region_of (renamed_node (σ k) o) 1) vs (repeats o rest l) (region_renamed_at (σ k) o 1))

    rounds_like : (o : Node) (vs : List Val) → LikeTask σ (entered (Tests o) (region_of o 0) vs one) (entered (Tests (renamed_node (σ k) o)) (region_of (renamed_node (σ k) o) 0) vs two)
    rounds_like o vs = entered_like (Tests o) (Tests (renamed_node (σ k) o)) (region_of o 0) (region_of (renamed_node (σ k) o) 0) vs (tests o rest l) (region_renamed_at (σ k) o 0)

  leaves_like : {k : ℕ} {fs gs : List (After × List Op)} (n : Nest) (env env' : Env) → Sees σ k env env' → (r r' : List Op) (hs hs' : List (After × List Op)) (vs : List Val) → LikeFrames σ k fs gs →
      LikeNext σ (leaves fs vs (record { pending = []; rest = r; frames = hs; scope = record { func = k; nest = n; env = env } })) (leaves gs vs (record { pending = []; rest = r'; frames = hs'; scope = record { func = k; nest = n; env = env' } }))
  leaves_like n env env' h r r' hs hs' vs end = ends (Gave vs)
  leaves_like n env env' h r r' hs hs' vs (joins {k = k} xs rest {fs = fs} {gs = gs} l) = goes _ _ (bound_like xs vs _ _ (free_like k n env env' rest fs gs h l))
  leaves_like n env env' h r r' hs hs' vs (turns {k = k} o i upper step rest {fs = fs} {gs = gs} l) = goes _ _ (turned_like k n env env' h rest fs gs l o (stepped i step) upper step vs)
  leaves_like n env env' h r r' hs hs' vs (tests {k = k} o rest {fs = fs} {gs = gs} l) = goes _ _ (tested_like k n env env' h rest fs gs l o vs)
  leaves_like n env env' h r r' hs hs' vs (repeats {k = k} o rest {fs = fs} {gs = gs} l) = goes _ _ (rounds_like k n env env' h rest fs gs l o vs)
  leaves_like n env env' h r r' hs hs' vs (returns s t xs rest {fs = fs} {gs = gs} sc l) = goes _ _ (bound_like xs vs _ _ (record { pending = done; rest = refl; frames = l; scope = sc }))
  leaves_like n env env' h r r' hs hs' vs (tries s t xs rest {fs = fs} {gs = gs} sc l) = goes _ _ (bound_like xs (Number 1 ∷ []) _ _ (record { pending = done; rest = refl; frames = l; scope = sc }))

  -- ---- functions

  module _ (p q : Program) (same_program : IsRenamed σ p q) where
    pub func_ops_like : (j : ℕ) (x : Option Func) → func_ops (option_map (renamed_func (σ j)) x) ≡ renamed_ops (σ j) (func_ops x)
    func_ops_like j None = refl
    func_ops_like j (Some f) = ap (λ r. r.ops) (region_parts (σ j) f.body)

    func_params_like : (j : ℕ) (x : Option Func) → names_of (func_params (option_map (renamed_func (σ j)) x)) ≡ renamed_values (σ j) (names_of (func_params x))
    func_params_like j None = refl
    func_params_like j (Some f) = names_renamed (σ j) f.params

    pub scope_like : (j : ℕ) (vs : List Val) → LikeScope σ (scope_of p j vs) (scope_of q j vs)
    scope_like j vs = record {
      func = refl;
      nest = refl;
      sees = subst (λ xs. Sees σ j (bind (names_of (func_params (slice_get p.funcs j))) vs []) (bind xs vs []))
          (sym (ap (λ f. names_of (func_params f)) (same_program.funcs j) ∙ func_params_like j (slice_get p.funcs j))) (sees_bind j (names_of (func_params (slice_get p.funcs j))) vs [] [] (λ x. refl));
    }

  -- ---- the rows

  module _ (p q : Program) (same_program : IsRenamed σ p q) (k : ℕ) (n : Nest) (env env' : Env) (h : Sees σ k env env') (rest : List Op) (fs gs : List (After × List Op)) (l : LikeFrames σ k fs gs) (o : Node) where
    abbrev t : Task
    t = record { pending = []; rest = rest; frames = fs; scope = record { func = k; nest = n; env = env } }

    abbrev u : Task
    u = record { pending = []; rest = renamed_ops (σ k) rest; frames = gs; scope = record { func = k; nest = n; env = env' } }

    abbrev o' : Node
    o' = renamed_node (σ k) o

    both : LikeTask σ t u
    both = free_like k n env env' rest fs gs h l

    fails_like : LikeNext σ (fails o.at t) (fails o.at u)
    fails_like = caught_like o.at _ _ _ _ _ _ l

    maybe_like : {X : Type 0} (x : Option X) (f g : X → Next) → ((y : X) → LikeNext σ (f y) (g y)) → LikeNext σ (or_fails o t f x) (or_fails o' u g x)
    maybe_like None f g m = fails_like
    maybe_like (Some y) f g m = m y

    bound_results : (vs : List Val) → LikeTask σ (bound o.results vs t) (bound (renamed_values (σ k) o.results) vs u)
    bound_results vs = bound_like o.results vs t u both

    computes_like : (x : Option ℕ) → LikeNext σ (computes o t x) (computes o' u x)
    computes_like x = maybe_like x _ _ (λ m. goes _ _ (bound_results (Number m ∷ [])))

    asked_like : (a b : Ask) → LikeAsk σ a b → LikeNext σ (Asks o.at a o.results t) (Asks o.at b (renamed_values (σ k) o.results) u)
    asked_like a b m = asks o.at a b o.results t u m both

    asked_no_result : (a b : Ask) → LikeAsk σ a b → LikeNext σ (Asks o.at a [] t) (Asks o.at b [] u)
    asked_no_result a b m = asks o.at a b [] t u m both

    binary_like : (b : BinOp) (vs : List Val) → LikeNext σ (binary b o vs t) (binary b o' vs u)
    binary_like b vs = computes_like (result_at (result_width o) b (number vs 0) (number vs 1))

    loads_like : (vs : List Val) → LikeNext σ (loads o vs t) (loads o' vs u)
    loads_like vs = maybe_like (cell_from 0 (dims_in (value vs 0)) (numbers (drop 1 vs))) _ _ (λ i. asked_like _ _ (same _ tt))

    stores_like : (vs : List Val) → LikeNext σ (stores o vs t) (stores o' vs u)
    stores_like vs = maybe_like (cell_from 0 (dims_in (value vs 1)) (numbers (drop 2 vs))) _ _ (λ i. asked_no_result _ _ (same _ tt))

    allocates_like : (vs : List Val) → LikeNext σ (allocates o vs t) (allocates o' vs u)
    allocates_like vs = maybe_like (product_within most_cells (asked_sizes o vs)) _ _ (λ m. asked_like _ _ (same _ tt))

    creates_like : (vs : List Val) → LikeNext σ (creates o vs t) (creates o' vs u)
    creates_like vs = cond_next (nat_le (number vs 0) most_elements) _ _ _ _ (asked_like _ _ (same _ tt)) fails_like

    asserts_like : (vs : List Val) → LikeNext σ (asserts o vs t) (asserts o' vs u)
    asserts_like vs = cond_next (nat_eq (number vs 0) 0) _ _ _ _ fails_like (goes _ _ both)

    loops_like : (vs : List Val) → LikeNext σ (loops o vs t) (loops o' vs u)
    loops_like vs = cond_next (are_bounds (number vs 0) (number vs 1) (number vs 2)) _ _ _ _ (goes _ _ (turned_like k n env env' h rest fs gs l o _ _ _ _)) fails_like

    branches_like : (vs : List Val) → LikeNext σ (branches o vs t) (branches o' vs u)
    branches_like vs =
        let i : ℕ = cond (nat_eq (number vs 0) 0) 1 0 in
        goes _ _ (entered_like k n env env' h rest fs gs l (Joins o.results) (Joins (renamed_values (σ k) o.results)) (region_of o i) (region_of o' i) [] (joins o.results rest l) (region_renamed_at (σ k) o i))

    -- ---- parallel loops

    loop_like : (spans : List Span) (m : ℕ) → LikeLoop σ (loop_of p o t spans m) (loop_of q o' u spans m)
    loop_like spans m = record {
      scope = record { func = refl; nest = refl; sees = h };
      params = ap params_in (region_renamed_at (σ k) o 0) ∙ params_renamed (σ k) (region_of o 0);
      body = ap ops_in (region_renamed_at (σ k) o 0) ∙ ops_renamed (σ k) (region_of o 0);
      spans = refl;
      total = refl;
      split = ap (λ marks. split_in n (is_marked (slice_get marks k))) same_program.called;
    }

    loop_entered : (a b : Loop) → LikeLoop σ a b → LikeNext σ (enters_loop o t a) (enters_loop o' u b)
    loop_entered a b m =
        asks o.at (Enters a) (Enters b) [] _ _ (like.enters a b m) (record { pending = joining o.at a b m done; rest = refl; frames = l; scope = record { func = refl; nest = refl; sees = h } })

    spans_like : (spans : List Span) → LikeNext σ (enters_spans p o t spans) (enters_spans q o' u spans)
    spans_like spans = maybe_like (product_within most_elements (turns_of spans)) _ _ (λ m. loop_entered _ _ (loop_like spans m))

    enters_like : (vs : List Val) → LikeNext σ (enters p o vs t) (enters q o' vs u)
    enters_like vs = maybe_like (spans_of (numbers (group o vs 0)) (numbers (group o vs 1)) (numbers (group o vs 2))) _ _ spans_like

    -- ---- adds, whose rank is used under either name

    among_dec : (v x : ℕ) (b c : Bool) → ((eqb x v ≡ true) × (x ≡ v)) ⊎ ((eqb x v ≡ false) × (x ≢ v)) → ((eqb (σ k x) (σ k v) ≡ true) × (σ k x ≡ σ k v)) ⊎ ((eqb (σ k x) (σ k v) ≡ false) × (σ k x ≢ σ k v)) → b ≡ c → cond (eqb (σ k x) (σ k v)) true b ≡ cond (eqb x v) true c
    among_dec v x b c (inl e) (inl f) m = rw (e.0, f.0) refl
    among_dec v x b c (inl e) (inr f) m = absurd (f.1 (ap (σ k) e.1))
    among_dec v x b c (inr e) (inl f) m = absurd (e.1 (inj k x v f.1))
    among_dec v x b c (inr e) (inr f) m = rw (e.0, f.0) m

    among_like : (v : ℕ) (xs : List ValueNo) → is_among (σ k v) (renamed_values (σ k) xs) ≡ is_among v xs
    among_like v [] = refl
    among_like v (x ∷ xs) = among_dec v x.0 _ _ (eqb_tells x.0 v) (eqb_tells (σ k x.0) (σ k v)) (among_like v xs)

    uses_like : (x : Option (List ValueNo)) → or_else [] (option_map (renamed_values (σ k)) x) ≡ renamed_values (σ k) (or_else [] x)
    uses_like None = refl
    uses_like (Some xs) = refl

    used_at : (x : Option ValueNo) → is_used q k (option_map (renamed_value (σ k)) x) ≡ is_used p k x
    used_at None = refl
    used_at (Some v) = ap (λ x. is_among (σ k v.0) (or_else [] x)) (same_program.uses k) ∙ (ap (is_among (σ k v.0)) (uses_like (slice_get p.uses k)) ∙ among_like v.0 _)

    used_like : is_used q k (slice_get (renamed_values (σ k) o.results) 0) ≡ is_used p k (slice_get o.results 0)
    used_like = ap (is_used q k) (slice_get-map (renamed_value (σ k)) o.results 0) ∙ used_at (slice_get o.results 0)

    adds_like : (vs : List Val) → LikeNext σ (adds p o vs t) (adds q o' vs u)
    adds_like vs =
        maybe_like (element_in (value vs 0)) _ _ (λ x.
        subst (λ b. LikeNext σ (Asks o.at (Adds (group_in (value vs 1)) x (is_used p k (slice_get o.results 0))) o.results t) (Asks o.at (Adds (group_in (value vs 1)) x b) (renamed_values (σ k) o.results) u)) (sym used_like) (asked_like _ _ (same _ tt)))

    -- ---- calls

    called_like : (a b : After) (c : Option ℕ) (vs : List Val) → ((j : ℕ) → LikeFrames σ j ((a, rest) ∷ fs) ((b, renamed_ops (σ k) rest) ∷ gs)) → LikeTask σ (called p a c vs t) (called q b c vs u)
    called_like a b None vs m = record { pending = done; rest = refl; frames = m k; scope = record { func = refl; nest = refl; sees = h } }
    called_like a b (Some j) vs m = record {
      pending = done;
      rest = ap func_ops (same_program.funcs j) ∙ func_ops_like p q same_program j (slice_get p.funcs j);
      frames = m j;
      scope = scope_like p q same_program j vs;
    }

    returns_like : (vs : List Val) → LikeNext σ (does op.FuncCall p o vs t) (does op.FuncCall q o' vs u)
    returns_like vs =
        subst (λ c. LikeNext σ (does op.FuncCall p o vs t) (Goes (called q (Returns u.scope (renamed_values (σ k) o.results)) c vs u))) (sym (same_program.callees o.attr))
        (goes _ _ (called_like _ _ (callee_place p.funcs o.attr) vs (λ j. returns t.scope u.scope o.results rest (record { func = refl; nest = refl; sees = h }) l)))

    tries_like : (vs : List Val) → LikeNext σ (does op.AioTryCall p o vs t) (does op.AioTryCall q o' vs u)
    tries_like vs =
        subst (λ c. LikeNext σ (does op.AioTryCall p o vs t) (Goes (called q (Tries u.scope (renamed_values (σ k) o.results)) c vs u))) (sym (same_program.callees o.attr))
        (goes _ _ (called_like _ _ (callee_place p.funcs o.attr) vs (λ j. tries t.scope u.scope o.results rest (record { func = refl; nest = refl; sees = h }) l)))

    -- ---- launches

    awaiting_like : (at : ℕ) (xs : List ValueNo) (x : Option ElementName) {ps qs : List Pending} → LikePending σ k ps qs →
        LikePending σ k (maybe (Failing at) (λ x. Awaits at x xs) x ∷ ps) (maybe (Failing at) (λ x. Awaits at x (renamed_values (σ k) xs)) x ∷ qs)
    awaiting_like at xs None m = failing at m
    awaiting_like at xs (Some x) m = awaits at x xs m

    each_like : (at : ℕ) (vs : List Val) {ps qs : List Pending} → LikePending σ k ps qs → LikePending σ k (awaits_each at vs ++ ps) (awaits_each at vs ++ qs)
    each_like at [] m = m
    each_like at (v ∷ vs) m = awaiting_like at [] (element_in v) (each_like at vs m)

    for_like : (at : ℕ) (xs : List ValueNo) (vs : List Val) → LikePending σ k (awaits_for at xs vs) (awaits_for at (renamed_values (σ k) xs) vs)
    for_like at xs [] = done
    for_like at [] (v ∷ vs) = awaiting_like at [] (element_in v) (for_like at [] vs)
    for_like at (x ∷ xs) (v ∷ vs) = awaiting_like at (x ∷ []) (element_in v) (for_like at xs vs)

    child_like : (vs : List Val) → LikeTask σ (child_of o vs t) (child_of o' vs u)
    child_like vs = record {
      pending = subst (λ xs. LikePending σ k (awaits_each o.at (group o vs 0) ++ awaits_for o.at (params_in (region_of o 0)) (group o vs 1)) (awaits_each o.at (group o vs 0) ++ awaits_for o.at xs (group o vs 1)))
          (sym (ap params_in (region_renamed_at (σ k) o 0) ∙ params_renamed (σ k) (region_of o 0))) (each_like o.at (group o vs 0) (for_like o.at (params_in (region_of o 0)) (group o vs 1)));
      rest = ap ops_in (region_renamed_at (σ k) o 0) ∙ ops_renamed (σ k) (region_of o 0);
      frames = end;
      scope = record { func = refl; nest = refl; sees = h };
    }

    launches_like : (vs : List Val) → LikeNext σ (launches o vs t) (launches o' vs u)
    launches_like vs =
        subst (λ r. LikeNext σ (launches o vs t) (Asks o.at (Launches (child_of o' vs u) r) (renamed_values (σ k) o.results) u))
        (sym (ap (λ m. m - 1) (length-map o.results (renamed_value (σ k))))) (asked_like _ _ (like.launches _ _ _ (child_like vs)))

    -- ---- all rows

    selects_like : (vs : List Val) → LikeNext σ (selects o vs t) (selects o' vs u)
    selects_like vs = goes _ _ (bound_results (chosen (number vs 0) (value vs 1) (value vs 2) ∷ []))

    constant_like : (vs : List Val) → LikeNext σ (does op.ArithConstant p o vs t) (does op.ArithConstant q o' vs u)
    constant_like vs = computes_like (Some (at_width (result_width o) (literal_bits o.attr)))

    compared_like : (vs : List Val) → LikeNext σ (does op.ArithCmpi p o vs t) (does op.ArithCmpi q o' vs u)
    compared_like vs = computes_like (Some (compared_at (written_width o) o.attr (number vs 0) (number vs 1)))

    extends_like : (vs : List Val) → LikeNext σ (extends_sign o vs t) (extends_sign o' vs u)
    extends_like vs = computes_like (Some (sign_cast (written_width o) (result_width o) (number vs 0)))

    fits_like : (vs : List Val) → LikeNext σ (fits_width o vs t) (fits_width o' vs u)
    fits_like vs = computes_like (Some (at_width (result_width o) (number vs 0)))

    while_like : (vs : List Val) → LikeNext σ (does op.ScfWhile p o vs t) (does op.ScfWhile q o' vs u)
    while_like vs = goes _ _ (rounds_like k n env env' h rest fs gs l o vs)

    -- a terminator, or an operation that does nothing
    rest_like : (b : Bool) (vs : List Val) → LikeNext σ (cond b (gives vs t) (Goes t)) (cond b (gives vs u) (Goes u))
    rest_like b vs = cond_next b _ _ _ _ (leaves_like n env env' h _ _ _ _ vs l) (goes _ _ both)

    does_like : (kind : OpKind) (vs : List Val) → LikeNext σ (does kind p o vs t) (does kind q o' vs u)
    does_like op.ArithAddi vs = binary_like bin.Add vs
    does_like op.ArithSubi vs = binary_like bin.Sub vs
    does_like op.ArithMuli vs = binary_like bin.Mul vs
    does_like op.ArithDivsi vs = binary_like bin.DivS vs
    does_like op.ArithDivui vs = binary_like bin.DivU vs
    does_like op.ArithRemsi vs = binary_like bin.RemS vs
    does_like op.ArithRemui vs = binary_like bin.RemU vs
    does_like op.ArithAndi vs = binary_like bin.And vs
    does_like op.ArithOri vs = binary_like bin.Or vs
    does_like op.ArithXori vs = binary_like bin.Xor vs
    does_like op.ArithShli vs = binary_like bin.Shl vs
    does_like op.ArithShrsi vs = binary_like bin.ShrS vs
    does_like op.ArithShrui vs = binary_like bin.ShrU vs
    does_like op.ArithMaxsi vs = binary_like bin.MaxS vs
    does_like op.ArithMinsi vs = binary_like bin.MinS vs
    does_like op.ArithMaxui vs = binary_like bin.MaxU vs
    does_like op.ArithMinui vs = binary_like bin.MinU vs
    does_like op.ArithConstant vs = constant_like vs
    does_like op.ArithCmpi vs = compared_like vs
    does_like op.ArithSelect vs = selects_like vs
    does_like op.ArithExtsi vs = extends_like vs
    does_like op.ArithIndexCast vs = extends_like vs
    does_like op.ArithExtui vs = fits_like vs
    does_like op.ArithTrunci vs = fits_like vs
    does_like op.ArithIndexCastui vs = fits_like vs
    does_like op.CfAssert vs = asserts_like vs
    does_like op.FuncCall vs = returns_like vs
    does_like op.AioTryCall vs = tries_like vs
    does_like op.ScfFor vs = loops_like vs
    does_like op.ScfIf vs = branches_like vs
    does_like op.ScfWhile vs = while_like vs
    does_like op.ScfParallel vs = enters_like vs
    does_like op.MemrefAlloc vs = allocates_like vs
    does_like op.MemrefLoad vs = loads_like vs
    does_like op.MemrefStore vs = stores_like vs
    does_like op.MemrefDim vs = computes_like _
    does_like op.AsyncExecute vs = launches_like vs
    does_like op.AsyncAwait vs = maybe_like (element_in (value vs 0)) _ _ (λ x. asked_like _ _ (same _ tt))
    does_like op.AsyncCreateGroup vs = creates_like vs
    does_like op.AsyncAddToGroup vs = adds_like vs
    does_like op.AsyncAwaitAll vs = asked_no_result _ _ (same _ tt)
    does_like kind vs = rest_like (is_terminator kind) vs

  -- ---- the next step

  values_like : (k : ℕ) (env env' : Env) → Sees σ k env env' → (xs : List ValueNo) → values_at env' (renamed_values (σ k) xs) ≡ values_at env xs
  values_like k env env' h [] = refl
  values_like k env env' h (x ∷ xs) = ap (λ v. v ∷ values_at env' (renamed_values (σ k) xs)) (h x.0) ∙ ap (λ vs. named env x.0 ∷ vs) (values_like k env env' h xs)

  module _ (p q : Program) (same_program : IsRenamed σ p q) (k : ℕ) (n : Nest) (env env' : Env) (h : Sees σ k env env') where
    next_op_like : (rest : List Op) (fs gs : List (After × List Op)) (l : LikeFrames σ k fs gs) →
        LikeNext σ (next_op p rest (record { pending = []; rest = rest; frames = fs; scope = record { func = k; nest = n; env = env } }))
        (next_op q (renamed_ops (σ k) rest) (record { pending = []; rest = renamed_ops (σ k) rest; frames = gs; scope = record { func = k; nest = n; env = env' } }))
    next_op_like [] fs gs l = leaves_like n env env' h _ _ _ _ [] l
    next_op_like (o ∷ rest) fs gs l =
        let t : Task = record { pending = []; rest = rest; frames = fs; scope = record { func = k; nest = n; env = env } } in
        let u : Task = record { pending = []; rest = renamed_ops (σ k) rest; frames = gs; scope = record { func = k; nest = n; env = env' } } in
        subst (λ o'. LikeNext σ (acts p (out-Op o) t) (acts q o' u)) (sym (parts (σ k) o))
        (subst (λ vs. LikeNext σ (acts p (out-Op o) t) (does (out-Op o).kind q (renamed_node (σ k) (out-Op o)) vs u)) (sym (values_like k env env' h (out-Op o).operands))
        (does_like p q same_program k n env env' h rest fs gs l (out-Op o) (out-Op o).kind (values_at env (out-Op o).operands)))

    pending_like : {ps qs : List Pending} (rest : List Op) (fs gs : List (After × List Op)) → LikeFrames σ k fs gs → LikePending σ k ps qs →
        LikeNext σ (next p (record { pending = ps; rest = rest; frames = fs; scope = record { func = k; nest = n; env = env } }))
        (next q (record { pending = qs; rest = renamed_ops (σ k) rest; frames = gs; scope = record { func = k; nest = n; env = env' } }))
    pending_like rest fs gs l done = next_op_like rest fs gs l
    pending_like rest fs gs l (awaits at x xs m) = asks at _ _ xs _ _ (same _ tt) (record { pending = m; rest = refl; frames = l; scope = record { func = refl; nest = refl; sees = h } })
    pending_like rest fs gs l (joining at a b j m) = asks at _ _ [] _ _ (joins_all a b j) (record { pending = m; rest = refl; frames = l; scope = record { func = refl; nest = refl; sees = h } })
    pending_like rest fs gs l (failing at m) = caught_like at _ _ _ _ _ _ l

  next_like : (p q : Program) (t u : Task) → IsRenamed σ p q → LikeTask σ t u → LikeNext σ (next p t) (next q u)
  next_like p q t u r m =
      subst (λ ops. LikeNext σ (next p t) (next q (record { pending = u.pending; rest = ops; frames = u.frames; scope = u.scope }))) (sym m.rest)
      (subst (λ f. LikeNext σ (next p t) (next q (record { pending = u.pending; rest = renamed_ops (σ t.scope.func) t.rest; frames = u.frames; scope = record { func = f; nest = u.scope.nest; env = u.scope.env } }))) (sym m.scope.func)
      (subst (λ n. LikeNext σ (next p t) (next q (record { pending = u.pending; rest = renamed_ops (σ t.scope.func) t.rest; frames = u.frames; scope = record { func = t.scope.func; nest = n; env = u.scope.env } }))) (sym m.scope.nest)
      (pending_like p q r t.scope.func t.scope.nest t.scope.env u.scope.env m.scope.sees t.rest t.frames u.frames m.frames m.pending)))

pub step_is_renamed : StepIsRenamed
step_is_renamed σ p q t u inj r m = next_like σ inj p q t u r m

-- ---- the step alone

module _ (σ : ℕ → ℕ → ℕ) where
  ask_alone : (a b : Ask) → LikeAsk σ a b → plain.LikeAsk σ a b
  ask_alone a b (same c n) = plain.same c
  ask_alone a b (like.launches t u r h) = plain.launches t u r h
  ask_alone a b (like.enters l m h) = plain.enters l m h
  ask_alone a b (joins_all l m h) = plain.joins_all l m h

  step_alone : (m n : Next) → LikeNext σ m n → plain.LikeNext σ m n
  step_alone m n (goes t u h) = plain.goes t u h
  step_alone m n (asks at a b xs t u h l) = plain.asks at a b xs t u (ask_alone a b h) l
  step_alone m n (ends o) = plain.ends o

pub next_is_renamed : NextIsRenamed
next_is_renamed σ p q t u inj r m = step_alone σ (next p t) (next q u) (step_is_renamed σ p q t u inj r m)
