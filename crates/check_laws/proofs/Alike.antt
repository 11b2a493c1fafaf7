-- A task, and the one with checks at the same place: the same but for what is inserted and for the values that it makes.
use Rattle.std.proofs.Common.{◌≡◌, ◌<◌, ◌≤◌, ℕ, zero, suc, nat_le, Bool, true, false, cond, List, [], ◌∷◌, ◌++◌, map, drop, Option, Some, None, slice_get, refl, sym, ap, subst, ◌∙◌, nat_eq, arith}
use Rattle.std.specs.Prelude.{⊤}
use Rattle.std.specs.Option.{is_some}
use Rattle.std.proofs.Math.Decide.{ℕ_discrete}
use Rattle.std.proofs.lemmas.Bool.{true≢false}
use Rattle.ir_forms.specs.declared.ops.Attr.{Attr}
use Rattle.ir_forms.specs.declared.ops.Op.{Op, out-Op, roll-Op}
use Rattle.ir_forms.specs.declared.ops.Region.{Region, out-Region}
use Rattle.ir_forms.specs.declared.ops.ValueNo.{ValueNo}
use Rattle.ir_forms.specs.declared.names.ElementName.{ElementName}
use Rattle.ir_forms.specs.Shapes.{most_cells}
use Rattle.ir_verify.specs.declared.place.Nest.{Nest}
use Rattle.ir_verify.specs.Calls.{is_marked, callee_place}
use Rattle.op_table.specs.declared.kind.OpKind.{OpKind}
use Rattle.op_table.specs.declared.kind.OpKind.TheVariants as op
use Rattle.op_table.specs.Rows.{is_terminator}
use Rattle.int_ops.specs.declared.BinOp.{BinOp}
use Rattle.int_ops.specs.declared.BinOp.TheVariants as bin
use Rattle.made_ops.specs.Made as made
use Rattle.check_insert.specs.Shape as shape
use Rattle.source_meaning.specs.declared.values.Val.{Val}
use Rattle.source_meaning.specs.declared.values.Val.TheVariants.{Number}
use Rattle.source_meaning.specs.Values.{maybe, or_else, Env, named, put, bind, values_at, number_in, element_in, group_in, dims_in}
use Rattle.source_meaning.specs.Parts.{Node, region_of, ops_in, names_of, params_in, func_ops, func_params}
use Rattle.source_meaning.specs.Rows.{cell_from, at_width, literal_bits, compared_at, sign_cast, is_below, stepped, result_at, product_within, most_elements, are_bounds, turns_of, spans_of, variables}
use Rattle.source_meaning.specs.Tasks.{Program, Scope, After, Joins, Turns, Tests, Repeats, Returns, Tries, Task, Pending, Awaits, Joining, Failing, Ask, Loop, Span, Enters, Adds, Answer, Next, Goes, Asks, Gave, FailedAt, bound, resumed}
use Rattle.source_meaning.specs.Flow.{called, entered, turned, tested, leaves, gives, caught, fails}
use Rattle.source_meaning.specs.Steps.{chosen, value, number, numbers, is_among, is_used, adds, split_in, loop_of, enters_loop, enters_spans, does, asked_sizes, group, next, or_fails, computes, result_width, written_width, binary, loops, branches, awaits_each, awaits_for, child_of}
use Rattle.source_meaning.specs.Sequential.{iteration}
use Rattle.source_meaning.specs.World.{World}
use Rattle.carry_laws.specs.Agreement as carry
use Rattle.carry_laws.specs.Agreement.{Meets, both, second}
use Rattle.check_laws.specs.Fits.{has_result, SmallTypes, Fits, FitAt, FitNext}
use Rattle.check_laws.specs.Silent.{IsSafe, Ahead, here, goes_on, standing}
use Rattle.check_laws.proofs.Running.{made_safe, named_put_same, named_put_other, made_step, Checked}
use Rattle.check_laws.proofs.Guarded.{Below, guarded_row}

-- ---- syntax

-- Operations, and the same with insertions whose values are numbered from b on.
mutual
  pub data LikeOps (b : ℕ) : List Op → List Op → Type 0 where
    none : LikeOps b [] []
    more : (o : Op) (free : ℕ) (rs : List Region) {rest other : List Op} → b ≤ free → Below b (out-Op o).operands → Below b (out-Op o).results → SmallTypes ((out-Op o).written, (out-Op o).types) → LikeRegions b (out-Op o).regions rs → LikeOps b rest other →
        LikeOps b (o ∷ rest) ((shape.insertion (out-Op o) free).ops ++ roll-Op (record (out-Op o) { regions = rs }) ∷ other)

  pub data LikeRegions (b : ℕ) : List Region → List Region → Type 0 where
    no_more : LikeRegions b [] []
    one_more : (r s : Region) {rs ss : List Region} → (out-Region s).params ≡ (out-Region r).params → LikeOps b (out-Region r).ops (out-Region s).ops → LikeRegions b rs ss → LikeRegions b (r ∷ rs) (s ∷ ss)

ops_like : (b : ℕ) (rs ss : List Region) (i : ℕ) → LikeRegions b rs ss → LikeOps b (ops_in (slice_get rs i)) (ops_in (slice_get ss i))
ops_like b [] [] i no_more = none
ops_like b [] (s ∷ ss) i m = elim m [ ]
ops_like b (r ∷ rs) [] i m = elim m [ ]
ops_like b (r ∷ rs) (s ∷ ss) zero (one_more x y e l m) = l
ops_like b (r ∷ rs) (s ∷ ss) (suc i) (one_more x y e l m) = ops_like b rs ss i m

params_like : (b : ℕ) (rs ss : List Region) (i : ℕ) → LikeRegions b rs ss → params_in (slice_get ss i) ≡ params_in (slice_get rs i)
params_like b [] [] i no_more = refl
params_like b [] (s ∷ ss) i m = elim m [ ]
params_like b (r ∷ rs) [] i m = elim m [ ]
params_like b (r ∷ rs) (s ∷ ss) zero (one_more x y e l m) = ap names_of e
params_like b (r ∷ rs) (s ∷ ss) (suc i) (one_more x y e l m) = params_like b rs ss i m

-- the same values below a number
abbrev pub Sees : ℕ → Env → Env → Type 0
Sees b env other = (x : ℕ) → x < b → named other x ≡ named env x

-- ---- what is the same

module _ (bounds : ℕ → ℕ) where
  -- each function of the second program is that of the first with checks
  pub record IsChecked (p q : Program) : Type 0 where
    pub bodies : (k : ℕ) → LikeOps (bounds k) (func_ops (slice_get p.funcs k)) (func_ops (slice_get q.funcs k))
    pub params : (k : ℕ) → func_params (slice_get q.funcs k) ≡ func_params (slice_get p.funcs k)
    pub callees : (a : Attr) → callee_place q.funcs a ≡ callee_place p.funcs a
    pub called : q.called ≡ p.called
    pub uses : (k : ℕ) (x : ValueNo) → x.0 < bounds k → is_among x.0 (or_else [] (slice_get q.uses k)) ≡ is_among x.0 (or_else [] (slice_get p.uses k))

  pub record LikeScope (s t : Scope) : Type 0 where
    pub func : t.func ≡ s.func
    pub nest : t.nest ≡ s.nest
    pub sees : Sees (bounds s.func) s.env t.env

  -- an operation whose regions have checks
  abbrev pub with_regions : Node → List Region → Node
  with_regions o rs = record o { regions = rs }

  pub data LikeFrames : ℕ → List (After × List Op) → List (After × List Op) → Type 0 where
    end : {k : ℕ} → LikeFrames k [] []
    joins : {k : ℕ} (xs : List ValueNo) (rest other : List Op) {fs gs : List (After × List Op)} → LikeOps (bounds k) rest other → LikeFrames k fs gs →
        LikeFrames k ((Joins xs, rest) ∷ fs) ((Joins xs, other) ∷ gs)
    turns : {k : ℕ} (o : Node) (rs : List Region) (i upper step_ : ℕ) (rest other : List Op) {fs gs : List (After × List Op)} → LikeRegions (bounds k) o.regions rs → LikeOps (bounds k) rest other → LikeFrames k fs gs →
        LikeFrames k ((Turns o i upper step_, rest) ∷ fs) ((Turns (with_regions o rs) i upper step_, other) ∷ gs)
    tests : {k : ℕ} (o : Node) (rs : List Region) (rest other : List Op) {fs gs : List (After × List Op)} → LikeRegions (bounds k) o.regions rs → LikeOps (bounds k) rest other → LikeFrames k fs gs →
        LikeFrames k ((Tests o, rest) ∷ fs) ((Tests (with_regions o rs), other) ∷ gs)
    repeats : {k : ℕ} (o : Node) (rs : List Region) (rest other : List Op) {fs gs : List (After × List Op)} → LikeRegions (bounds k) o.regions rs → LikeOps (bounds k) rest other → LikeFrames k fs gs →
        LikeFrames k ((Repeats o, rest) ∷ fs) ((Repeats (with_regions o rs), other) ∷ gs)
    returns : {k : ℕ} (s t : Scope) (xs : List ValueNo) (rest other : List Op) {fs gs : List (After × List Op)} → LikeScope s t → LikeOps (bounds s.func) rest other → LikeFrames s.func fs gs →
        LikeFrames k ((Returns s xs, rest) ∷ fs) ((Returns t xs, other) ∷ gs)
    tries : {k : ℕ} (s t : Scope) (xs : List ValueNo) (rest other : List Op) {fs gs : List (After × List Op)} → LikeScope s t → LikeOps (bounds s.func) rest other → LikeFrames s.func fs gs →
        LikeFrames k ((Tries s xs, rest) ∷ fs) ((Tries t xs, other) ∷ gs)

  pub record LikeLoop (l m : Loop) : Type 0 where
    pub scope : LikeScope l.scope m.scope
    pub params : m.params ≡ l.params
    pub body : LikeOps (bounds l.scope.func) l.body m.body
    pub spans : m.spans ≡ l.spans
    pub total : m.total ≡ l.total
    pub split : m.split ≡ l.split

  pub data LikePending : List Pending → List Pending → Type 0 where
    done : LikePending [] []
    awaits : (at_ : ℕ) (x : ElementName) (xs : List ValueNo) {ps qs : List Pending} → LikePending ps qs → LikePending (Awaits at_ x xs ∷ ps) (Awaits at_ x xs ∷ qs)
    joining : (at_ : ℕ) (l m : Loop) {ps qs : List Pending} → LikeLoop l m → LikePending ps qs → LikePending (Joining at_ l ∷ ps) (Joining at_ m ∷ qs)
    failing : (at_ : ℕ) {ps qs : List Pending} → LikePending ps qs → LikePending (Failing at_ ∷ ps) (Failing at_ ∷ qs)

  pub record LikeTask (t u : Task) : Type 0 where
    pub pending : LikePending t.pending u.pending
    pub rest : LikeOps (bounds t.scope.func) t.rest u.rest
    pub frames : LikeFrames t.scope.func t.frames u.frames
    pub scope : LikeScope t.scope u.scope

  abbrev pub Kept : World → Type 0
  Kept w = ⊤

  abbrev LikeNext : Next → Next → Type 0
  LikeNext = carry.LikeNext LikeTask Kept

  abbrev LikeAsk : Ask → Ask → Type 0
  LikeAsk = carry.LikeAsk LikeTask

  -- ---- values

  sees_put : (b : ℕ) (env other : Env) (x : ℕ) (v : Val) → Sees b env other → Sees b (put env x v) (put other x v)
  sees_put b env other x v h y l = split (ℕ_discrete x y) where
    split : Dec (x ≡ y) → named (put other x v) y ≡ named (put env x v) y
    split (yes e) = subst (λ z. named (put other x v) z ≡ named (put env x v) z) e (named_put_same other x v ∙ sym (named_put_same env x v))
    split (no n) = named_put_other other x y v n ∙ (h y l ∙ sym (named_put_other env x y v n))

  sees_bind : (b : ℕ) (xs : List ValueNo) (vs : List Val) (env other : Env) → Sees b env other → Sees b (bind xs vs env) (bind xs vs other)
  sees_bind b xs [] env other h = h
  sees_bind b [] (v ∷ vs) env other h = h
  sees_bind b (x ∷ xs) (v ∷ vs) env other h = sees_bind b xs vs (put env x.0 v) (put other x.0 v) (sees_put b env other x.0 v h)

  values_same : (b : ℕ) (env other : Env) → Sees b env other → (xs : List ValueNo) → Below b xs → values_at other xs ≡ values_at env xs
  values_same b env other h [] l = refl
  values_same b env other h (x ∷ xs) l = ap (λ v. v ∷ values_at other xs) (h x.0 l.0) ∙ ap (λ vs. named env x.0 ∷ vs) (values_same b env other h xs l.1)

  -- ---- tasks

  bound_like : (xs : List ValueNo) (vs : List Val) (t u : Task) → LikeTask t u → LikeTask (bound xs vs t) (bound xs vs u)
  bound_like xs vs t u h = record {
    pending = h.pending;
    rest = h.rest;
    frames = h.frames;
    scope = record { func = h.scope.func; nest = h.scope.nest; sees = sees_bind (bounds t.scope.func) xs vs t.scope.env u.scope.env h.scope.sees };
  }

  resumed_like : (at_ : ℕ) (xs : List ValueNo) (t u : Task) → LikeTask t u → (a : Answer) → LikeTask (resumed at_ xs t a) (resumed at_ xs u a)
  resumed_like at_ xs t u h None = record { pending = failing at_ done; rest = h.rest; frames = h.frames; scope = h.scope }
  resumed_like at_ xs t u h (Some vs) = bound_like xs vs t u h

  asked : (at_ : ℕ) (a b : Ask) (xs : List ValueNo) (t u : Task) → LikeAsk a b → LikeTask t u → LikeNext (Asks at_ a xs t) (Asks at_ b xs u)
  asked at_ a b xs t u m h = carry.asks at_ at_ a b xs xs t u m (λ w q k kept. (resumed_like at_ xs t u h _, tt))

  goes : (t u : Task) → LikeTask t u → LikeNext (Goes t) (Goes u)
  goes t u h = carry.goes t u h

  iteration_like : (l m : Loop) → LikeLoop l m → (i : ℕ) → LikeTask (iteration l i) (iteration m i)
  iteration_like l m h i =
      subst (λ spans. LikeTask (iteration l i) (iteration (record m { spans = spans }) i)) (sym h.spans)
      (subst (λ params. LikeTask (iteration l i) (iteration (record m { spans = l.spans; params = params }) i)) (sym h.params)
      (record { pending = done; rest = h.body; frames = end; scope = record { func = h.scope.func; nest = h.scope.nest; sees = sees_bind (bounds l.scope.func) l.params (map Number (variables l.spans i)) l.scope.env m.scope.env h.scope.sees } }))

  loop_given : (l m : Loop) → LikeLoop l m → carry.LikeLoop LikeTask l m
  loop_given l m h = record { total = h.total; split = h.split; iterations = iteration_like l m h }

  free_like : (k : ℕ) (n : Nest) (env other : Env) (rest more_ : List Op) (fs gs : List (After × List Op)) → Sees (bounds k) env other → LikeOps (bounds k) rest more_ → LikeFrames k fs gs →
      LikeTask (record { pending = []; rest = rest; frames = fs; scope = record { func = k; nest = n; env = env } }) (record { pending = []; rest = more_; frames = gs; scope = record { func = k; nest = n; env = other } })
  free_like k n env other rest more_ fs gs h r l = record { pending = done; rest = r; frames = l; scope = record { func = refl; nest = refl; sees = h } }

  caught_like : {k : ℕ} (at_ : ℕ) {fs gs : List (After × List Op)} (r r' : List Op) (hs hs' : List (After × List Op)) (c c' : Scope) → LikeFrames k fs gs →
      LikeNext (caught at_ fs (record { pending = []; rest = r; frames = hs; scope = c })) (caught at_ gs (record { pending = []; rest = r'; frames = hs'; scope = c' }))
  caught_like at_ r r' hs hs' c c' end = carry.ends (FailedAt at_) (λ w q kept. tt)
  caught_like at_ r r' hs hs' c c' (joins xs rest other d l) = caught_like at_ r r' hs hs' c c' l
  caught_like at_ r r' hs hs' c c' (turns o rs i upper step_ rest other w d l) = caught_like at_ r r' hs hs' c c' l
  caught_like at_ r r' hs hs' c c' (tests o rs rest other w d l) = caught_like at_ r r' hs hs' c c' l
  caught_like at_ r r' hs hs' c c' (repeats o rs rest other w d l) = caught_like at_ r r' hs hs' c c' l
  caught_like at_ r r' hs hs' c c' (returns s t xs rest other sc d l) = caught_like at_ r r' hs hs' c c' l
  caught_like at_ r r' hs hs' c c' (tries s t xs rest other sc d l) =
      goes _ _ (bound_like xs (Number 0 ∷ []) _ _ (record { pending = done; rest = d; frames = l; scope = sc }))

  cond_like : (b : Bool) (t u t' u' : Task) → LikeTask t u → LikeTask t' u' → LikeTask (cond b t t') (cond b u u')
  cond_like true t u t' u' h g = h
  cond_like false t u t' u' h g = g

  cond_next : (b : Bool) (t u t' u' : Next) → LikeNext t u → LikeNext t' u' → LikeNext (cond b t t') (cond b u u')
  cond_next true t u t' u' h g = h
  cond_next false t u t' u' h g = g

  module _ (k : ℕ) (n : Nest) (env other : Env) (h : Sees (bounds k) env other) (rest more_ : List Op) (read : LikeOps (bounds k) rest more_) (fs gs : List (After × List Op)) (l : LikeFrames k fs gs) where
    abbrev one : Task
    one = record { pending = []; rest = rest; frames = fs; scope = record { func = k; nest = n; env = env } }

    abbrev two : Task
    two = record { pending = []; rest = more_; frames = gs; scope = record { func = k; nest = n; env = other } }

    alike : LikeTask one two
    alike = free_like k n env other rest more_ fs gs h read l

    entered_like : (a b : After) (o : Node) (rs : List Region) (i : ℕ) (vs : List Val) → LikeRegions (bounds k) o.regions rs → LikeFrames k ((a, rest) ∷ fs) ((b, more_) ∷ gs) →
        LikeTask (entered a (region_of o i) vs one) (entered b (region_of (with_regions o rs) i) vs two)
    entered_like a b o rs i vs w m =
        subst (λ xs. LikeTask (entered a (region_of o i) vs one) (bound xs vs (record two { rest = ops_in (slice_get rs i); frames = (b, more_) ∷ gs }))) (sym (params_like (bounds k) o.regions rs i w))
        (bound_like (params_in (region_of o i)) vs (record one { rest = ops_in (region_of o i); frames = (a, rest) ∷ fs }) (record two { rest = ops_in (slice_get rs i); frames = (b, more_) ∷ gs })
        (free_like k n env other (ops_in (region_of o i)) (ops_in (slice_get rs i)) ((a, rest) ∷ fs) ((b, more_) ∷ gs) h (ops_like (bounds k) o.regions rs i w) m))

    turned_like : (o : Node) (rs : List Region) (i upper step_ : ℕ) (vs : List Val) → LikeRegions (bounds k) o.regions rs → LikeTask (turned o i upper step_ vs one) (turned (with_regions o rs) i upper step_ vs two)
    turned_like o rs i upper step_ vs w =
        cond_like (is_below i upper) _ _ _ _ (entered_like (Turns o i upper step_) (Turns (with_regions o rs) i upper step_) o rs 0 (Number i ∷ vs) w (turns o rs i upper step_ rest more_ w read l)) (bound_like o.results vs one two alike)

    tested_like : (o : Node) (rs : List Region) (vs : List Val) → LikeRegions (bounds k) o.regions rs → LikeTask (tested o vs one) (tested (with_regions o rs) vs two)
    tested_like o rs [] w = bound_like o.results [] one two alike
    tested_like o rs (v ∷ vs) w = cond_like (nat_eq (number_in v) 0) _ _ _ _ (bound_like o.results vs one two alike) (entered_like (Repeats o) (Repeats (with_regions o rs)) o rs 1 vs w (repeats o rs rest more_ w read l))

    rounds_like : (o : Node) (rs : List Region) (vs : List Val) → LikeRegions (bounds k) o.regions rs → LikeTask (entered (Tests o) (region_of o 0) vs one) (entered (Tests (with_regions o rs)) (region_of (with_regions o rs) 0) vs two)
    rounds_like o rs vs w = entered_like (Tests o) (Tests (with_regions o rs)) o rs 0 vs w (tests o rs rest more_ w read l)

  leaves_like : {k : ℕ} {fs gs : List (After × List Op)} (n : Nest) (env other : Env) → Sees (bounds k) env other → (r r' : List Op) (hs hs' : List (After × List Op)) (vs : List Val) → LikeFrames k fs gs →
      LikeNext (leaves fs vs (record { pending = []; rest = r; frames = hs; scope = record { func = k; nest = n; env = env } })) (leaves gs vs (record { pending = []; rest = r'; frames = hs'; scope = record { func = k; nest = n; env = other } }))
  leaves_like n env other h r r' hs hs' vs end = carry.ends (Gave vs) (λ w q kept. tt)
  leaves_like n env other h r r' hs hs' vs (joins {k = k} xs rest more_ {fs = fs} {gs = gs} d l) = goes _ _ (bound_like xs vs _ _ (free_like k n env other rest more_ fs gs h d l))
  leaves_like n env other h r r' hs hs' vs (turns {k = k} o rs i upper step_ rest more_ {fs = fs} {gs = gs} w d l) = goes _ _ (turned_like k n env other h rest more_ d fs gs l o rs (stepped i step_) upper step_ vs w)
  leaves_like n env other h r r' hs hs' vs (tests {k = k} o rs rest more_ {fs = fs} {gs = gs} w d l) = goes _ _ (tested_like k n env other h rest more_ d fs gs l o rs vs w)
  leaves_like n env other h r r' hs hs' vs (repeats {k = k} o rs rest more_ {fs = fs} {gs = gs} w d l) = goes _ _ (rounds_like k n env other h rest more_ d fs gs l o rs vs w)
  leaves_like n env other h r r' hs hs' vs (returns s t xs rest more_ {fs = fs} {gs = gs} sc d l) = goes _ _ (bound_like xs vs _ _ (record { pending = done; rest = d; frames = l; scope = sc }))
  leaves_like n env other h r r' hs hs' vs (tries s t xs rest more_ {fs = fs} {gs = gs} sc d l) = goes _ _ (bound_like xs (Number 1 ∷ []) _ _ (record { pending = done; rest = d; frames = l; scope = sc }))

  -- ---- the rows

  module _ (p q : Program) (program : IsChecked p q) where
    module _ (k : ℕ) (n : Nest) (env other : Env) (h : Sees (bounds k) env other) (rest more_ : List Op) (read : LikeOps (bounds k) rest more_) (fs gs : List (After × List Op)) (l : LikeFrames k fs gs)
        (o : Node) (rs : List Region) (w : LikeRegions (bounds k) o.regions rs) (own : Below (bounds k) o.results) where
      abbrev t : Task
      t = record { pending = []; rest = rest; frames = fs; scope = record { func = k; nest = n; env = env } }

      abbrev u : Task
      u = record { pending = []; rest = more_; frames = gs; scope = record { func = k; nest = n; env = other } }

      abbrev o' : Node
      o' = with_regions o rs

      same_place : LikeTask t u
      same_place = free_like k n env other rest more_ fs gs h read l

      fails_like : LikeNext (fails o.at t) (fails o.at u)
      fails_like = caught_like o.at _ _ _ _ _ _ l

      maybe_like : {X : Type 0} (x : Option X) (f g : X → Next) → ((y : X) → LikeNext (f y) (g y)) → LikeNext (or_fails o t f x) (or_fails o' u g x)
      maybe_like None f g m = fails_like
      maybe_like (Some y) f g m = m y

      bound_results : (vs : List Val) → LikeTask (bound o.results vs t) (bound o.results vs u)
      bound_results vs = bound_like o.results vs t u same_place

      computes_like : (x : Option ℕ) → LikeNext (computes o t x) (computes o' u x)
      computes_like x = maybe_like x _ _ (λ m. goes _ _ (bound_results (Number m ∷ [])))

      asked_like : (a b : Ask) → LikeAsk a b → LikeNext (Asks o.at a o.results t) (Asks o.at b o.results u)
      asked_like a b m = asked o.at a b o.results t u m same_place

      asked_no_result : (a b : Ask) → LikeAsk a b → LikeNext (Asks o.at a [] t) (Asks o.at b [] u)
      asked_no_result a b m = asked o.at a b [] t u m same_place

      binary_like : (b : BinOp) (vs : List Val) → LikeNext (binary b o vs t) (binary b o' vs u)
      binary_like b vs = computes_like (result_at (result_width o) b (number vs 0) (number vs 1))

      loop_like : (spans : List Span) (m : ℕ) → LikeLoop (loop_of p o t spans m) (loop_of q o' u spans m)
      loop_like spans m = record {
        scope = record { func = refl; nest = refl; sees = h };
        params = params_like (bounds k) o.regions rs 0 w;
        body = ops_like (bounds k) o.regions rs 0 w;
        spans = refl;
        total = refl;
        split = ap (λ marks. split_in n (is_marked (slice_get marks k))) program.called;
      }

      loop_entered : (a b : Loop) → LikeLoop a b → LikeNext (enters_loop o t a) (enters_loop o' u b)
      loop_entered a b m =
          asked o.at (Enters a) (Enters b) [] _ _ (carry.enters a b (loop_given a b m)) (record { pending = joining o.at a b m done; rest = read; frames = l; scope = record { func = refl; nest = refl; sees = h } })

      spans_like : (spans : List Span) → LikeNext (enters_spans p o t spans) (enters_spans q o' u spans)
      spans_like spans = maybe_like (product_within most_elements (turns_of spans)) _ _ (λ m. loop_entered _ _ (loop_like spans m))

      called_like : (a b : After) (c : Option ℕ) (vs : List Val) → ((j : ℕ) → LikeFrames j ((a, rest) ∷ fs) ((b, more_) ∷ gs)) → LikeTask (called p a c vs t) (called q b c vs u)
      called_like a b None vs m = record { pending = done; rest = none; frames = m k; scope = record { func = refl; nest = refl; sees = h } }
      called_like a b (Some j) vs m = record {
        pending = done;
        rest = program.bodies j;
        frames = m j;
        scope = record { func = refl; nest = refl; sees = λ x below. ap (λ ps. named (bind (names_of ps) vs []) x) (program.params j) };
      }

      awaiting_like : (at_ : ℕ) (xs : List ValueNo) (x : Option ElementName) {ps qs : List Pending} → LikePending ps qs →
          LikePending (maybe (Failing at_) (λ x. Awaits at_ x xs) x ∷ ps) (maybe (Failing at_) (λ x. Awaits at_ x xs) x ∷ qs)
      awaiting_like at_ xs None m = failing at_ m
      awaiting_like at_ xs (Some x) m = awaits at_ x xs m

      each_like : (at_ : ℕ) (vs : List Val) {ps qs : List Pending} → LikePending ps qs → LikePending (awaits_each at_ vs ++ ps) (awaits_each at_ vs ++ qs)
      each_like at_ [] m = m
      each_like at_ (v ∷ vs) m = awaiting_like at_ [] (element_in v) (each_like at_ vs m)

      for_like : (at_ : ℕ) (xs : List ValueNo) (vs : List Val) → LikePending (awaits_for at_ xs vs) (awaits_for at_ xs vs)
      for_like at_ xs [] = done
      for_like at_ [] (v ∷ vs) = awaiting_like at_ [] (element_in v) (for_like at_ [] vs)
      for_like at_ (x ∷ xs) (v ∷ vs) = awaiting_like at_ (x ∷ []) (element_in v) (for_like at_ xs vs)

      child_like : (vs : List Val) → LikeTask (child_of o vs t) (child_of o' vs u)
      child_like vs = record {
        pending = subst (λ xs. LikePending (awaits_each o.at (group o vs 0) ++ awaits_for o.at (params_in (region_of o 0)) (group o vs 1)) (awaits_each o.at (group o vs 0) ++ awaits_for o.at xs (group o vs 1)))
            (sym (params_like (bounds k) o.regions rs 0 w)) (each_like o.at (group o vs 0) (for_like o.at (params_in (region_of o 0)) (group o vs 1)));
        rest = ops_like (bounds k) o.regions rs 0 w;
        frames = end;
        scope = record { func = refl; nest = refl; sees = h };
      }

      -- a terminator, or an operation that does nothing
      rest_like : (b : Bool) (vs : List Val) → LikeNext (cond b (gives vs t) (Goes t)) (cond b (gives vs u) (Goes u))
      rest_like b vs = cond_next b _ _ _ _ (leaves_like n env other h _ _ _ _ vs l) (goes _ _ same_place)

      loops_like : (vs : List Val) → LikeNext (loops o vs t) (loops o' vs u)
      loops_like vs = cond_next (are_bounds (number vs 0) (number vs 1) (number vs 2)) _ _ _ _ (goes _ _ (turned_like k n env other h rest more_ read fs gs l o rs _ _ _ _ w)) fails_like

      branches_like : (vs : List Val) → LikeNext (branches o vs t) (branches o' vs u)
      branches_like vs = goes _ _ (entered_like k n env other h rest more_ read fs gs l (Joins o.results) (Joins o.results) o rs (cond (nat_eq (number vs 0) 0) 1 0) [] w (joins o.results rest more_ read l))

      used_same : (xs : List ValueNo) → Below (bounds k) xs → is_used q k (slice_get xs 0) ≡ is_used p k (slice_get xs 0)
      used_same [] b = refl
      used_same (x ∷ xs) b = program.uses k x b.0

      added_like : (vs : List Val) → LikeNext (adds p o vs t) (adds q o' vs u)
      added_like vs = maybe_like (element_in (value vs 0)) _ _ (λ x. subst (λ b. LikeNext (Asks o.at (Adds (group_in (value vs 1)) x (is_used p k (slice_get o.results 0))) o.results t) (Asks o.at (Adds (group_in (value vs 1)) x b) o.results u)) (sym (used_same o.results own)) (asked_like _ _ (carry.same _ tt)))

      does_like : (kind : OpKind) (vs : List Val) → LikeNext (does kind p o vs t) (does kind q o' vs u)
      does_like op.ArithAddi vs = binary_like bin.Add vs
      does_like op.ArithSubi vs = binary_like bin.Sub vs
      does_like op.ArithMuli vs = binary_like bin.Mul vs
      does_like op.ArithDivsi vs = binary_like bin.DivS vs
      does_like op.ArithDivui vs = binary_like bin.DivU vs
      does_like op.ArithRemsi vs = binary_like bin.RemS vs
      does_like op.ArithRemui vs = binary_like bin.RemU vs
      does_like op.ArithAndi vs = binary_like bin.And vs
      does_like op.ArithOri vs = binary_like bin.Or vs
      does_like op.ArithXori vs = binary_like bin.Xor vs
      does_like op.ArithShli vs = binary_like bin.Shl vs
      does_like op.ArithShrsi vs = binary_like bin.ShrS vs
      does_like op.ArithShrui vs = binary_like bin.ShrU vs
      does_like op.ArithMaxsi vs = binary_like bin.MaxS vs
      does_like op.ArithMinsi vs = binary_like bin.MinS vs
      does_like op.ArithMaxui vs = binary_like bin.MaxU vs
      does_like op.ArithMinui vs = binary_like bin.MinU vs
      does_like op.ArithConstant vs = computes_like (Some (at_width (result_width o) (literal_bits o.attr)))
      does_like op.ArithCmpi vs = computes_like (Some (compared_at (written_width o) o.attr (number vs 0) (number vs 1)))
      does_like op.ArithSelect vs = goes _ _ (bound_results (chosen (number vs 0) (value vs 1) (value vs 2) ∷ []))
      does_like op.ArithExtsi vs = computes_like (Some (sign_cast (written_width o) (result_width o) (number vs 0)))
      does_like op.ArithIndexCast vs = computes_like (Some (sign_cast (written_width o) (result_width o) (number vs 0)))
      does_like op.ArithExtui vs = computes_like (Some (at_width (result_width o) (number vs 0)))
      does_like op.ArithTrunci vs = computes_like (Some (at_width (result_width o) (number vs 0)))
      does_like op.ArithIndexCastui vs = computes_like (Some (at_width (result_width o) (number vs 0)))
      does_like op.CfAssert vs = cond_next (nat_eq (number vs 0) 0) _ _ _ _ fails_like (goes _ _ same_place)
      does_like op.FuncCall vs =
          subst (λ c. LikeNext (Goes (called p (Returns t.scope o.results) (callee_place p.funcs o.attr) vs t)) (Goes (called q (Returns u.scope o.results) c vs u))) (sym (program.callees o.attr))
          (goes _ _ (called_like _ _ (callee_place p.funcs o.attr) vs (λ j. returns t.scope u.scope o.results rest more_ (record { func = refl; nest = refl; sees = h }) read l)))
      does_like op.AioTryCall vs =
          subst (λ c. LikeNext (Goes (called p (Tries t.scope o.results) (callee_place p.funcs o.attr) vs t)) (Goes (called q (Tries u.scope o.results) c vs u))) (sym (program.callees o.attr))
          (goes _ _ (called_like _ _ (callee_place p.funcs o.attr) vs (λ j. tries t.scope u.scope o.results rest more_ (record { func = refl; nest = refl; sees = h }) read l)))
      does_like op.ScfFor vs = loops_like vs
      does_like op.ScfIf vs = branches_like vs
      does_like op.ScfWhile vs = goes _ _ (rounds_like k n env other h rest more_ read fs gs l o rs vs w)
      does_like op.ScfParallel vs = maybe_like (spans_of (numbers (group o vs 0)) (numbers (group o vs 1)) (numbers (group o vs 2))) _ _ spans_like
      does_like op.MemrefAlloc vs = maybe_like (product_within most_cells (asked_sizes o vs)) _ _ (λ m. asked_like _ _ (carry.same _ tt))
      does_like op.MemrefLoad vs = maybe_like (cell_from 0 (dims_in (value vs 0)) (numbers (drop 1 vs))) _ _ (λ i. asked_like _ _ (carry.same _ tt))
      does_like op.MemrefStore vs = maybe_like (cell_from 0 (dims_in (value vs 1)) (numbers (drop 2 vs))) _ _ (λ i. asked_no_result _ _ (carry.same _ tt))
      does_like op.MemrefDim vs = computes_like _
      does_like op.AsyncExecute vs = asked_like _ _ (carry.launches _ _ _ (child_like vs))
      does_like op.AsyncAwait vs = maybe_like (element_in (value vs 0)) _ _ (λ x. asked_like _ _ (carry.same _ tt))
      does_like op.AsyncCreateGroup vs = cond_next (nat_le (number vs 0) most_elements) _ _ _ _ (asked_like _ _ (carry.same _ tt)) fails_like
      does_like op.AsyncAddToGroup vs = added_like vs
      does_like op.AsyncAwaitAll vs = asked_no_result _ _ (carry.same _ tt)
      does_like kind vs = rest_like (is_terminator kind) vs

    -- ---- an operation without a result

    none_of : {X : Type 0} (o : Node) (t : Task) (f : X → Next) (x : Option X) → is_some x ≡ false → or_fails o t f x ≡ fails o.at t
    none_of o t f None e = refl
    none_of o t f (Some y) e = absurd (true≢false e)

    not_then : (b : Bool) (x y : Next) → b ≡ false → cond b x y ≡ y
    not_then b x y e = ap (λ c. cond c x y) e

    cannot_enter : (o : Node) (t : Task) (spans : Option (List Span)) → maybe false (λ s. is_some (product_within most_elements (turns_of s))) spans ≡ false → or_fails o t (enters_spans p o t) spans ≡ fails o.at t
    cannot_enter o t None e = refl
    cannot_enter o t (Some spans) e = none_of o t _ (product_within most_elements (turns_of spans)) e

    pub lacks : (kind : OpKind) (o : Node) (vs : List Val) (t : Task) → has_result kind o vs ≡ false → does kind p o vs t ≡ fails o.at t
    lacks op.ArithDivsi o vs t e = none_of o t _ (result_at (result_width o) bin.DivS (number vs 0) (number vs 1)) e
    lacks op.ArithDivui o vs t e = none_of o t _ (result_at (result_width o) bin.DivU (number vs 0) (number vs 1)) e
    lacks op.ArithRemsi o vs t e = none_of o t _ (result_at (result_width o) bin.RemS (number vs 0) (number vs 1)) e
    lacks op.ArithRemui o vs t e = none_of o t _ (result_at (result_width o) bin.RemU (number vs 0) (number vs 1)) e
    lacks op.ArithShli o vs t e = none_of o t _ (result_at (result_width o) bin.Shl (number vs 0) (number vs 1)) e
    lacks op.ArithShrsi o vs t e = none_of o t _ (result_at (result_width o) bin.ShrS (number vs 0) (number vs 1)) e
    lacks op.ArithShrui o vs t e = none_of o t _ (result_at (result_width o) bin.ShrU (number vs 0) (number vs 1)) e
    lacks op.AsyncCreateGroup o vs t e = not_then (nat_le (number vs 0) most_elements) _ _ e
    lacks op.MemrefAlloc o vs t e = none_of o t _ (product_within most_cells (asked_sizes o vs)) e
    lacks op.MemrefDim o vs t e = none_of o t _ (slice_get (dims_in (value vs 0)) (number vs 1)) e
    lacks op.MemrefLoad o vs t e = none_of o t _ (cell_from 0 (dims_in (value vs 0)) (numbers (drop 1 vs))) e
    lacks op.MemrefStore o vs t e = none_of o t _ (cell_from 0 (dims_in (value vs 1)) (numbers (drop 2 vs))) e
    lacks op.ScfFor o vs t e = not_then (are_bounds (number vs 0) (number vs 1) (number vs 2)) _ _ e
    lacks op.ScfParallel o vs t e = cannot_enter o t (spans_of (numbers (group o vs 0)) (numbers (group o vs 1)) (numbers (group o vs 2))) e
    lacks _ o vs t e = absurd (true≢false e)

    -- ---- the next step

    ahead_meets : (x z y : Task) → Ahead q z y → Meets LikeTask Kept p q x z → Meets LikeTask Kept p q x y
    ahead_meets x z y here m = m
    ahead_meets x z y (goes_on {u = w} s e a) m = second x y w e (ahead_meets x z w a m)

    -- behind steps that nothing shared sees, and on which each operation has a result, the task does what the other does
    pub record Mid (t u : Task) : Type 0 where
      pub to : Task
      pub ahead : Ahead q to u
      pub safe : IsSafe to
      pub like : LikeNext (next p t) (next q to)

    same_result : (kind : OpKind) (o : Node) (rs : List Region) (vs : List Val) → has_result kind (with_regions o rs) vs ≡ has_result kind o vs
    same_result op.ArithDivsi o rs vs = refl
    same_result op.ArithDivui o rs vs = refl
    same_result op.ArithRemsi o rs vs = refl
    same_result op.ArithRemui o rs vs = refl
    same_result op.ArithShli o rs vs = refl
    same_result op.ArithShrsi o rs vs = refl
    same_result op.ArithShrui o rs vs = refl
    same_result op.AsyncCreateGroup o rs vs = refl
    same_result op.MemrefAlloc o rs vs = refl
    same_result op.MemrefDim o rs vs = refl
    same_result op.MemrefLoad o rs vs = refl
    same_result op.MemrefStore o rs vs = refl
    same_result op.ScfFor o rs vs = refl
    same_result op.ScfParallel o rs vs = refl
    same_result _ o rs vs = refl

    step_now : (t u : Task) → IsSafe u → LikeNext (next p t) (next q u) → Mid t u
    step_now t u s m = record { to = u; ahead = here; safe = s; like = m }

    module _ (k : ℕ) (n : Nest) (env other : Env) (h : Sees (bounds k) env other) where
      abbrev at_one : List Op → List (After × List Op) → Task
      at_one rest fs = record { pending = []; rest = rest; frames = fs; scope = record { func = k; nest = n; env = env } }

      op_meets : (o : Op) (free : ℕ) (rs : List Region) (rest more_ : List Op) (fs gs : List (After × List Op)) → bounds k ≤ free → Below (bounds k) (out-Op o).operands → Below (bounds k) (out-Op o).results →
          LikeRegions (bounds k) (out-Op o).regions rs → LikeOps (bounds k) rest more_ → LikeFrames k fs gs →
          (b : Bool) → has_result (out-Op o).kind (out-Op o) (values_at env (out-Op o).operands) ≡ b →
          Checked q other (made.begun (out-Op o).at free) other (shape.insertion (out-Op o) free) b →
          Mid (at_one (o ∷ rest) fs) (standing k n gs ((shape.insertion (out-Op o) free).ops ++ roll-Op (with_regions (out-Op o) rs) ∷ more_) other)
      op_meets o free rs rest more_ fs gs l reads own w d f true e c =
          let third : Env = c.other in
          let s : Sees (bounds k) env third = (λ x b. c.keeps x (omega arith) ∙ h x b) in
          let same_values = values_same (bounds k) env third s (out-Op o).operands reads in
          record {
            to = standing k n gs (roll-Op (with_regions (out-Op o) rs) ∷ more_) third;
            ahead = c.stands.runs k n gs (roll-Op (with_regions (out-Op o) rs) ∷ more_);
            safe = made_safe q k n gs more_ third (with_regions (out-Op o) rs) (same_result (out-Op o).kind (out-Op o) rs (values_at third (out-Op o).operands) ∙ (ap (has_result (out-Op o).kind (out-Op o)) same_values ∙ e));
            like = subst (λ x. LikeNext (next p (at_one (o ∷ rest) fs)) x) (sym (made_step q k n gs more_ third (with_regions (out-Op o) rs)))
                (subst (λ vs. LikeNext (next p (at_one (o ∷ rest) fs)) (does (out-Op o).kind q (with_regions (out-Op o) rs) vs (standing k n gs more_ third))) (sym same_values)
                (does_like k n env third s rest more_ d fs gs f (out-Op o) rs w own (out-Op o).kind (values_at env (out-Op o).operands)));
          }
      op_meets o free rs rest more_ fs gs l reads own w d f false e c =
          let x = c k n gs (roll-Op (with_regions (out-Op o) rs) ∷ more_) in
          record {
            to = standing k n gs x.left x.env;
            ahead = x.ahead;
            safe = x.safe;
            like = subst (λ y. LikeNext (next p (at_one (o ∷ rest) fs)) y) (sym x.fails)
                (subst (λ y. LikeNext y (fails (out-Op o).at (standing k n gs x.left x.env))) (sym (lacks (out-Op o).kind (out-Op o) (values_at env (out-Op o).operands) (at_one rest fs) e)) (caught_like (out-Op o).at _ _ _ _ _ _ f));
          }

      next_meets : {rest more_ : List Op} (fs gs : List (After × List Op)) → LikeOps (bounds k) rest more_ → LikeFrames k fs gs → FitAt [] rest env → Mid (at_one rest fs) (standing k n gs more_ other)
      next_meets fs gs none f fine = step_now _ _ tt (leaves_like n env other h _ _ _ _ [] f)
      next_meets fs gs (more o free rs {rest = rest} {other = more_} l reads own small w d) f fine =
          let same_values = values_same (bounds k) env other h (out-Op o).operands reads in
          op_meets o free rs rest more_ fs gs l reads own w d f (has_result (out-Op o).kind (out-Op o) (values_at env (out-Op o).operands)) refl
          (subst (λ vs. Checked q other (made.begun (out-Op o).at free) other (shape.insertion (out-Op o) free) (has_result (out-Op o).kind (out-Op o) vs)) same_values
          (guarded_row q (out-Op o) free other (below_more (out-Op o).operands (bounds k) free l reads) small (subst (λ vs. Fits (shape.guard_of (out-Op o).kind) (out-Op o) vs) (sym same_values) fine))) where
            below_more : (xs : List ValueNo) (b c : ℕ) → b ≤ c → Below b xs → Below c xs
            below_more [] b c m g = tt
            below_more (x ∷ xs) b c m g = ((let y : x.0 < b = g.0 in omega arith), below_more xs b c m g.1)

      pending_meets : {ps qs : List Pending} (rest more_ : List Op) (fs gs : List (After × List Op)) → LikeOps (bounds k) rest more_ → LikeFrames k fs gs → LikePending ps qs → FitAt ps rest env →
          Mid (record { pending = ps; rest = rest; frames = fs; scope = record { func = k; nest = n; env = env } }) (record { pending = qs; rest = more_; frames = gs; scope = record { func = k; nest = n; env = other } })
      pending_meets rest more_ fs gs r f done fine = next_meets fs gs r f fine
      pending_meets rest more_ fs gs r f (awaits at_ x xs m) fine = step_now _ _ tt (asked at_ _ _ xs _ _ (carry.same _ tt) (record { pending = m; rest = r; frames = f; scope = record { func = refl; nest = refl; sees = h } }))
      pending_meets rest more_ fs gs r f (joining at_ a b j m) fine = step_now _ _ tt (asked at_ _ _ [] _ _ (carry.joins_all a b (loop_given a b j)) (record { pending = m; rest = r; frames = f; scope = record { func = refl; nest = refl; sees = h } }))
      pending_meets rest more_ fs gs r f (failing at_ m) fine = step_now _ _ tt (caught_like at_ _ _ _ _ _ _ f)

    -- a task with checks comes to where it does what the one without does
    pub task_comes : (t u : Task) → LikeTask t u → FitNext t → Mid t u
    task_comes t u m fine =
        subst (λ f. Mid t (record { pending = u.pending; rest = u.rest; frames = u.frames; scope = record { func = f; nest = u.scope.nest; env = u.scope.env } })) (sym m.scope.func)
        (subst (λ n. Mid t (record { pending = u.pending; rest = u.rest; frames = u.frames; scope = record { func = t.scope.func; nest = n; env = u.scope.env } })) (sym m.scope.nest)
        (pending_meets t.scope.func t.scope.nest t.scope.env u.scope.env m.scope.sees t.rest u.rest t.frames u.frames m.rest m.frames m.pending fine))

    pub task_meets : (t u : Task) → LikeTask t u → FitNext t → Meets LikeTask Kept p q t u
    task_meets t u m fine = let x : Mid t u = task_comes t u m fine in ahead_meets t x.to u x.ahead (both t x.to x.like)
