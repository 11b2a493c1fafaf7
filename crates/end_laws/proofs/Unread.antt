-- What nothing reads changes nothing.
use Rattle.std.proofs.Common.{◌≡◌, ℕ, zero, suc, ◌-◌, nat_le, Bool, true, false, cond, List, [], ◌∷◌, ◌++◌, length, map, drop, Option, Some, None, slice_get, refl, sym, ap, subst, ◌∙◌, nat_eq}
use Rattle.std.proofs.Math.Decide.{ℕ_discrete}
use Rattle.std.proofs.lemmas.Option.{slice_get-map}
use Rattle.std.proofs.lemmas.Bool.{true≢false, eq-eqb}
use Rattle.std.specs.Option.{option_map}
use Rattle.std.specs.Prelude.{eqb}
use Rattle.ir_forms.specs.declared.ops.Op.{Op, out-Op}
use Rattle.ir_forms.specs.declared.ops.Op.TheFolds.{fold_out-Op, fold_out-Region}
use Rattle.ir_forms.specs.declared.ops.Region.{Region, out-Region}
use Rattle.ir_forms.specs.declared.ops.ValueNo.{ValueNo}
use Rattle.ir_forms.specs.declared.ops.Func.{Func}
use Rattle.ir_forms.specs.declared.names.ElementName.{ElementName}
use Rattle.ir_forms.specs.Shapes.{most_cells}
use Rattle.ir_forms.specs.Ops.{ops_of}
use Rattle.ir_verify.specs.declared.place.Nest.{Nest}
use Rattle.ir_verify.specs.Calls.{is_marked, callee_place}
use Rattle.op_table.specs.declared.kind.OpKind.{OpKind}
use Rattle.op_table.specs.declared.kind.OpKind.TheVariants as op
use Rattle.op_table.specs.Rows.{is_terminator}
use Rattle.int_ops.specs.declared.BinOp.{BinOp}
use Rattle.int_ops.specs.declared.BinOp.TheVariants as bin
use Rattle.source_meaning.specs.declared.values.Val.{Val}
use Rattle.source_meaning.specs.declared.values.Val.TheVariants.{Number}
use Rattle.source_meaning.specs.Values.{maybe, or_else, Env, named, put, bind, values_at, number_in, element_in, group_in, dims_in}
use Rattle.source_meaning.specs.Parts.{Node, joined, uses_at, uses_under, uses_of, region_of, ops_in, names_of, params_in, func_ops, func_params}
use Rattle.source_meaning.specs.Rows.{cell_from, at_width, literal_bits, compared_at, sign_cast, is_below, stepped, result_at, product_within, most_elements, are_bounds, turns_of, spans_of}
use Rattle.source_meaning.specs.Tasks.{Program, Scope, After, Joins, Turns, Tests, Repeats, Returns, Tries, Task, Pending, Awaits, Failing, Ask, Loop, Span, Enters, Adds, Launches, Next, Goes, Asks, Gave, FailedAt, bound}
use Rattle.source_meaning.specs.Flow.{scope_of, called, entered, turned, tested, leaves, gives, caught, fails}
use Rattle.source_meaning.specs.Steps.{chosen, selects, extends_sign, fits_width, value, number, numbers, is_among, is_used, adds, split_in, loop_of, enters_loop, enters_spans, does, acts, asked_sizes, group, next_op, next, or_fails, computes, result_width, written_width, binary, loads, stores, allocates, creates, asserts, loops, branches, awaits_each, awaits_for, child_of, enters}
use Rattle.source_meaning.specs.Steps as step
use Rattle.source_meaning.specs.TaskOrder.{Each}
use Rattle.end_laws.specs.Unread as like
use Rattle.end_laws.specs.Unread.{operands_of, operands_under, IsRead, AreRead, AreReadUnder, Sees, LikeScope, LikeFrames, end, joins, turns, tests, repeats, returns, tries, LikeLoop, LikePending, done, awaits, joining, failing, LikeTask, LikeAsk, same, joins_all, LikeNext, goes, asks, ends, UnreadIsUnseen, UnreadIsFree}

named_put_same : (env : Env) (k : ℕ) (v : Val) → named (put env k v) k ≡ v
named_put_same [] zero v = refl
named_put_same [] (suc k) v = named_put_same [] k v
named_put_same (x ∷ env) zero v = refl
named_put_same (x ∷ env) (suc k) v = named_put_same env k v

named_put_other : (env : Env) (k j : ℕ) (v : Val) → (k ≡ j → ⊥) → named (put env k v) j ≡ named env j
named_put_other [] zero zero v n = absurd (n refl)
named_put_other [] zero (suc j) v n = refl
named_put_other [] (suc k) zero v n = refl
named_put_other [] (suc k) (suc j) v n = named_put_other [] k j v (λ e. n (ap suc e))
named_put_other (x ∷ env) zero zero v n = absurd (n refl)
named_put_other (x ∷ env) zero (suc j) v n = refl
named_put_other (x ∷ env) (suc k) zero v n = refl
named_put_other (x ∷ env) (suc k) (suc j) v n = named_put_other env k j v (λ e. n (ap suc e))

each_first : {X : Type 0} (Q : X → Type 0) (xs ys : List X) → Each Q (xs ++ ys) → Each Q xs
each_first Q [] ys h = tt
each_first Q (x ∷ xs) ys h = (h.0, each_first Q xs ys h.1)

each_second : {X : Type 0} (Q : X → Type 0) (xs ys : List X) → Each Q (xs ++ ys) → Each Q ys
each_second Q [] ys h = h
each_second Q (x ∷ xs) ys h = each_second Q xs ys h.1

-- ---- operands of parts

pub op_operands : (o : Op) → operands_of o ≡ (out-Op o).operands ++ joined (map operands_under (out-Op o).regions)
op_operands o = fold_out-Op (List ValueNo) (List ValueNo) uses_at uses_under o

pub region_operands : (r : Region) → operands_under r ≡ joined (map operands_of (ops_of r))
region_operands r = fold_out-Region (List ValueNo) (List ValueNo) uses_at uses_under r

module _ (p : Program) where
  region_read : (k i : ℕ) (regions : List Region) → Each (IsRead p k) (joined (map operands_under regions)) → AreRead p k (ops_in (slice_get regions i))
  region_read k i [] h = tt
  region_read k zero (r ∷ regions) h = subst (Each (IsRead p k)) (region_operands r) (each_first (IsRead p k) (operands_under r) (joined (map operands_under regions)) h)
  region_read k (suc i) (r ∷ regions) h = region_read k i regions (each_second (IsRead p k) (operands_under r) (joined (map operands_under regions)) h)

among_more : (x : ℕ) (y : ValueNo) (ys : List ValueNo) → is_among x ys ≡ true → is_among x (y ∷ ys) ≡ true
among_more x y ys h = split (nat_eq y.0 x) where
  split : (t : Bool) → cond t true (is_among x ys) ≡ true
  split true = refl
  split false = h

each_more : (y : ValueNo) (ys xs : List ValueNo) → Each (λ x. is_among x.0 ys ≡ true) xs → Each (λ x. is_among x.0 (y ∷ ys) ≡ true) xs
each_more y ys [] h = tt
each_more y ys (x ∷ xs) h = (among_more x.0 y ys h.0, each_more y ys xs h.1)

each_among : (xs : List ValueNo) → Each (λ x. is_among x.0 xs ≡ true) xs
each_among [] = tt
each_among (x ∷ xs) = (ap (λ t. cond t true (is_among x.0 xs)) (eq-eqb x.0 x.0 refl), each_more x xs xs (each_among xs))

-- ---- tasks that differ in values that nothing reads

module _ (p : Program) (uses : p.uses ≡ map uses_of p.funcs) where
  func_read_at : (j : ℕ) (f : Option Func) → slice_get p.funcs j ≡ f → AreRead p j (func_ops f)
  func_read_at j None e = tt
  func_read_at j (Some f) e = subst (λ xs. Each (IsRead p j) xs) (region_operands f.body) (subst (λ ys. Each (λ x. is_among x.0 ys ≡ true) (operands_under f.body)) (sym list) (each_among (operands_under f.body))) where
    list : or_else [] (slice_get p.uses j) ≡ operands_under f.body
    list = ap (λ us. or_else [] (slice_get us j)) uses ∙ (ap (or_else []) (slice_get-map uses_of p.funcs j) ∙ ap (λ o. or_else [] (option_map uses_of o)) e)

  pub func_read : (j : ℕ) → AreRead p j (func_ops (slice_get p.funcs j))
  func_read j = func_read_at j (slice_get p.funcs j) refl

  sees_put : (k : ℕ) (env other : Env) (x : ℕ) (v : Val) → Sees p k env other → Sees p k (put env x v) (put other x v)
  sees_put k env other x v h y r = split (ℕ_discrete x y.0) where
    split : Dec (x ≡ y.0) → named (put other x v) y.0 ≡ named (put env x v) y.0
    split (yes e) = subst (λ z. named (put other x v) z ≡ named (put env x v) z) e (named_put_same other x v ∙ sym (named_put_same env x v))
    split (no n) = named_put_other other x y.0 v n ∙ (h y r ∙ sym (named_put_other env x y.0 v n))

  sees_bind : (k : ℕ) (xs : List ValueNo) (vs : List Val) (env other : Env) → Sees p k env other → Sees p k (bind xs vs env) (bind xs vs other)
  sees_bind k xs [] env other h = h
  sees_bind k [] (v ∷ vs) env other h = h
  sees_bind k (x ∷ xs) (v ∷ vs) env other h = sees_bind k xs vs (put env x.0 v) (put other x.0 v) (sees_put k env other x.0 v h)

  pub bound_like : (xs : List ValueNo) (vs : List Val) (t u : Task) → LikeTask p t u → LikeTask p (bound xs vs t) (bound xs vs u)
  bound_like xs vs t u h = record {
    pending = h.pending;
    rest = h.rest;
    read = h.read;
    frames = h.frames;
    scope = record { func = h.scope.func; nest = h.scope.nest; sees = sees_bind t.scope.func xs vs t.scope.env u.scope.env h.scope.sees };
  }

  free_like : (k : ℕ) (n : Nest) (env other : Env) (rest : List Op) (fs gs : List (After × List Op)) → Sees p k env other → AreRead p k rest → LikeFrames p k fs gs →
      LikeTask p (record { pending = []; rest = rest; frames = fs; scope = record { func = k; nest = n; env = env } }) (record { pending = []; rest = rest; frames = gs; scope = record { func = k; nest = n; env = other } })
  free_like k n env other rest fs gs h r l = record { pending = done; rest = refl; read = r; frames = l; scope = record { func = refl; nest = refl; sees = h } }

  caught_like : {k : ℕ} (at : ℕ) {fs gs : List (After × List Op)} (r r' : List Op) (hs hs' : List (After × List Op)) (c c' : Scope) → LikeFrames p k fs gs →
      LikeNext p (caught at fs (record { pending = []; rest = r; frames = hs; scope = c })) (caught at gs (record { pending = []; rest = r'; frames = hs'; scope = c' }))
  caught_like at r r' hs hs' c c' end = ends (FailedAt at)
  caught_like at r r' hs hs' c c' (joins xs rest d l) = caught_like at r r' hs hs' c c' l
  caught_like at r r' hs hs' c c' (turns o i upper step rest w d l) = caught_like at r r' hs hs' c c' l
  caught_like at r r' hs hs' c c' (tests o rest w d l) = caught_like at r r' hs hs' c c' l
  caught_like at r r' hs hs' c c' (repeats o rest w d l) = caught_like at r r' hs hs' c c' l
  caught_like at r r' hs hs' c c' (returns s t xs rest sc d l) = caught_like at r r' hs hs' c c' l
  caught_like at r r' hs hs' c c' (tries s t xs rest sc d l) =
      goes _ _ (bound_like xs (Number 0 ∷ []) _ _ (record { pending = done; rest = refl; read = d; frames = l; scope = sc }))

  cond_like : (b : Bool) (t u t' u' : Task) → LikeTask p t u → LikeTask p t' u' → LikeTask p (cond b t t') (cond b u u')
  cond_like true t u t' u' h g = h
  cond_like false t u t' u' h g = g

  cond_next : (b : Bool) (t u t' u' : Next) → LikeNext p t u → LikeNext p t' u' → LikeNext p (cond b t t') (cond b u u')
  cond_next true t u t' u' h g = h
  cond_next false t u t' u' h g = g

  module _ (k : ℕ) (n : Nest) (env other : Env) (h : Sees p k env other) (rest : List Op) (read : AreRead p k rest) (fs gs : List (After × List Op)) (l : LikeFrames p k fs gs) where
    abbrev one : Task
    one = record { pending = []; rest = rest; frames = fs; scope = record { func = k; nest = n; env = env } }

    abbrev two : Task
    two = record { pending = []; rest = rest; frames = gs; scope = record { func = k; nest = n; env = other } }

    alike : LikeTask p one two
    alike = free_like k n env other rest fs gs h read l

    entered_like : (a b : After) (o : Node) (i : ℕ) (vs : List Val) → AreReadUnder p k o → LikeFrames p k ((a, rest) ∷ fs) ((b, rest) ∷ gs) → LikeTask p (entered a (region_of o i) vs one) (entered b (region_of o i) vs two)
    entered_like a b o i vs w m = bound_like (params_in (region_of o i)) vs (record one { rest = ops_in (region_of o i); frames = (a, rest) ∷ fs }) (record two { rest = ops_in (region_of o i); frames = (b, rest) ∷ gs }) (free_like k n env other (ops_in (region_of o i)) ((a, rest) ∷ fs) ((b, rest) ∷ gs) h (region_read p k i o.regions w) m)

    turned_like : (o : Node) (i upper step : ℕ) (vs : List Val) → AreReadUnder p k o → LikeTask p (turned o i upper step vs one) (turned o i upper step vs two)
    turned_like o i upper step vs w =
        cond_like (is_below i upper) _ _ _ _ (entered_like (Turns o i upper step) (Turns o i upper step) o 0 (Number i ∷ vs) w (turns o i upper step rest w read l)) (bound_like o.results vs one two alike)

    tested_like : (o : Node) (vs : List Val) → AreReadUnder p k o → LikeTask p (tested o vs one) (tested o vs two)
    tested_like o [] w = bound_like o.results [] one two alike
    tested_like o (v ∷ vs) w = cond_like (nat_eq (number_in v) 0) _ _ _ _ (bound_like o.results vs one two alike) (entered_like (Repeats o) (Repeats o) o 1 vs w (repeats o rest w read l))

    rounds_like : (o : Node) (vs : List Val) → AreReadUnder p k o → LikeTask p (entered (Tests o) (region_of o 0) vs one) (entered (Tests o) (region_of o 0) vs two)
    rounds_like o vs w = entered_like (Tests o) (Tests o) o 0 vs w (tests o rest w read l)

  leaves_like : {k : ℕ} {fs gs : List (After × List Op)} (n : Nest) (env other : Env) → Sees p k env other → (r r' : List Op) (hs hs' : List (After × List Op)) (vs : List Val) → LikeFrames p k fs gs →
      LikeNext p (leaves fs vs (record { pending = []; rest = r; frames = hs; scope = record { func = k; nest = n; env = env } })) (leaves gs vs (record { pending = []; rest = r'; frames = hs'; scope = record { func = k; nest = n; env = other } }))
  leaves_like n env other h r r' hs hs' vs end = ends (Gave vs)
  leaves_like n env other h r r' hs hs' vs (joins {k = k} xs rest {fs = fs} {gs = gs} d l) = goes _ _ (bound_like xs vs _ _ (free_like k n env other rest fs gs h d l))
  leaves_like n env other h r r' hs hs' vs (turns {k = k} o i upper step rest {fs = fs} {gs = gs} w d l) = goes _ _ (turned_like k n env other h rest d fs gs l o (stepped i step) upper step vs w)
  leaves_like n env other h r r' hs hs' vs (tests {k = k} o rest {fs = fs} {gs = gs} w d l) = goes _ _ (tested_like k n env other h rest d fs gs l o vs w)
  leaves_like n env other h r r' hs hs' vs (repeats {k = k} o rest {fs = fs} {gs = gs} w d l) = goes _ _ (rounds_like k n env other h rest d fs gs l o vs w)
  leaves_like n env other h r r' hs hs' vs (returns s t xs rest {fs = fs} {gs = gs} sc d l) = goes _ _ (bound_like xs vs _ _ (record { pending = done; rest = refl; read = d; frames = l; scope = sc }))
  leaves_like n env other h r r' hs hs' vs (tries s t xs rest {fs = fs} {gs = gs} sc d l) = goes _ _ (bound_like xs (Number 1 ∷ []) _ _ (record { pending = done; rest = refl; read = d; frames = l; scope = sc }))

  -- ---- the rows

  module _ (k : ℕ) (n : Nest) (env other : Env) (h : Sees p k env other) (rest : List Op) (read : AreRead p k rest) (fs gs : List (After × List Op)) (l : LikeFrames p k fs gs) (o : Node) (w : AreReadUnder p k o) where
    abbrev t : Task
    t = record { pending = []; rest = rest; frames = fs; scope = record { func = k; nest = n; env = env } }

    abbrev u : Task
    u = record { pending = []; rest = rest; frames = gs; scope = record { func = k; nest = n; env = other } }

    both : LikeTask p t u
    both = free_like k n env other rest fs gs h read l

    fails_like : LikeNext p (fails o.at t) (fails o.at u)
    fails_like = caught_like o.at _ _ _ _ _ _ l

    maybe_like : {X : Type 0} (x : Option X) (f g : X → Next) → ((y : X) → LikeNext p (f y) (g y)) → LikeNext p (or_fails o t f x) (or_fails o u g x)
    maybe_like None f g m = fails_like
    maybe_like (Some y) f g m = m y

    bound_results : (vs : List Val) → LikeTask p (bound o.results vs t) (bound o.results vs u)
    bound_results vs = bound_like o.results vs t u both

    computes_like : (x : Option ℕ) → LikeNext p (computes o t x) (computes o u x)
    computes_like x = maybe_like x _ _ (λ m. goes _ _ (bound_results (Number m ∷ [])))

    asked_like : (a b : Ask) → LikeAsk p a b → LikeNext p (Asks o.at a o.results t) (Asks o.at b o.results u)
    asked_like a b m = asks o.at a b o.results t u m both

    asked_no_result : (a b : Ask) → LikeAsk p a b → LikeNext p (Asks o.at a [] t) (Asks o.at b [] u)
    asked_no_result a b m = asks o.at a b [] t u m both

    binary_like : (b : BinOp) (vs : List Val) → LikeNext p (binary b o vs t) (binary b o vs u)
    binary_like b vs = computes_like (result_at (result_width o) b (number vs 0) (number vs 1))

    loop_like : (spans : List Span) (m : ℕ) → LikeLoop p (loop_of p o t spans m) (loop_of p o u spans m)
    loop_like spans m = record {
      scope = record { func = refl; nest = refl; sees = h };
      params = refl;
      body = refl;
      read = region_read p k 0 o.regions w;
      spans = refl;
      total = refl;
      split = refl;
    }

    loop_entered : (a b : Loop) → LikeLoop p a b → LikeNext p (enters_loop o t a) (enters_loop o u b)
    loop_entered a b m =
        asks o.at (Enters a) (Enters b) [] _ _ (like.enters a b m) (record { pending = joining o.at a b m done; rest = refl; read = read; frames = l; scope = record { func = refl; nest = refl; sees = h } })

    spans_like : (spans : List Span) → LikeNext p (enters_spans p o t spans) (enters_spans p o u spans)
    spans_like spans = maybe_like (product_within most_elements (turns_of spans)) _ _ (λ m. loop_entered _ _ (loop_like spans m))

    scope_like : (j : ℕ) (vs : List Val) → LikeScope p (scope_of p j vs) (scope_of p j vs)
    scope_like j vs = record { func = refl; nest = refl; sees = λ x r. refl }

    called_like : (a b : After) (c : Option ℕ) (vs : List Val) → ((j : ℕ) → LikeFrames p j ((a, rest) ∷ fs) ((b, rest) ∷ gs)) → LikeTask p (called p a c vs t) (called p b c vs u)
    called_like a b None vs m = record { pending = done; rest = refl; read = tt; frames = m k; scope = record { func = refl; nest = refl; sees = h } }
    called_like a b (Some j) vs m = record { pending = done; rest = refl; read = func_read j; frames = m j; scope = scope_like j vs }

    awaiting_like : (at : ℕ) (xs : List ValueNo) (x : Option ElementName) {ps qs : List Pending} → LikePending p ps qs →
        LikePending p (maybe (Failing at) (λ x. Awaits at x xs) x ∷ ps) (maybe (Failing at) (λ x. Awaits at x xs) x ∷ qs)
    awaiting_like at xs None m = failing at m
    awaiting_like at xs (Some x) m = awaits at x xs m

    each_like : (at : ℕ) (vs : List Val) {ps qs : List Pending} → LikePending p ps qs → LikePending p (awaits_each at vs ++ ps) (awaits_each at vs ++ qs)
    each_like at [] m = m
    each_like at (v ∷ vs) m = awaiting_like at [] (element_in v) (each_like at vs m)

    for_like : (at : ℕ) (xs : List ValueNo) (vs : List Val) → LikePending p (awaits_for at xs vs) (awaits_for at xs vs)
    for_like at xs [] = done
    for_like at [] (v ∷ vs) = awaiting_like at [] (element_in v) (for_like at [] vs)
    for_like at (x ∷ xs) (v ∷ vs) = awaiting_like at (x ∷ []) (element_in v) (for_like at xs vs)

    child_like : (vs : List Val) → LikeTask p (child_of o vs t) (child_of o vs u)
    child_like vs = record {
      pending = each_like o.at (group o vs 0) (for_like o.at (params_in (region_of o 0)) (group o vs 1));
      rest = refl;
      read = region_read p k 0 o.regions w;
      frames = end;
      scope = record { func = refl; nest = refl; sees = h };
    }

    -- a terminator, or an operation that does nothing
    rest_like : (b : Bool) (vs : List Val) → LikeNext p (cond b (gives vs t) (Goes t)) (cond b (gives vs u) (Goes u))
    rest_like b vs = cond_next b _ _ _ _ (leaves_like n env other h _ _ _ _ vs l) (goes _ _ both)

    loops_like : (vs : List Val) → LikeNext p (loops o vs t) (loops o vs u)
    loops_like vs = cond_next (are_bounds (number vs 0) (number vs 1) (number vs 2)) _ _ _ _ (goes _ _ (turned_like k n env other h rest read fs gs l o _ _ _ _ w)) fails_like

    branches_like : (vs : List Val) → LikeNext p (branches o vs t) (branches o vs u)
    branches_like vs = goes _ _ (entered_like k n env other h rest read fs gs l (Joins o.results) (Joins o.results) o (cond (nat_eq (number vs 0) 0) 1 0) [] w (joins o.results rest read l))

    does_like : (kind : OpKind) (vs : List Val) → LikeNext p (does kind p o vs t) (does kind p o vs u)
    does_like op.ArithAddi vs = binary_like bin.Add vs
    does_like op.ArithSubi vs = binary_like bin.Sub vs
    does_like op.ArithMuli vs = binary_like bin.Mul vs
    does_like op.ArithDivsi vs = binary_like bin.DivS vs
    does_like op.ArithDivui vs = binary_like bin.DivU vs
    does_like op.ArithRemsi vs = binary_like bin.RemS vs
    does_like op.ArithRemui vs = binary_like bin.RemU vs
    does_like op.ArithAndi vs = binary_like bin.And vs
    does_like op.ArithOri vs = binary_like bin.Or vs
    does_like op.ArithXori vs = binary_like bin.Xor vs
    does_like op.ArithShli vs = binary_like bin.Shl vs
    does_like op.ArithShrsi vs = binary_like bin.ShrS vs
    does_like op.ArithShrui vs = binary_like bin.ShrU vs
    does_like op.ArithMaxsi vs = binary_like bin.MaxS vs
    does_like op.ArithMinsi vs = binary_like bin.MinS vs
    does_like op.ArithMaxui vs = binary_like bin.MaxU vs
    does_like op.ArithMinui vs = binary_like bin.MinU vs
    does_like op.ArithConstant vs = computes_like (Some (at_width (result_width o) (literal_bits o.attr)))
    does_like op.ArithCmpi vs = computes_like (Some (compared_at (written_width o) o.attr (number vs 0) (number vs 1)))
    does_like op.ArithSelect vs = goes _ _ (bound_results (chosen (number vs 0) (value vs 1) (value vs 2) ∷ []))
    does_like op.ArithExtsi vs = computes_like (Some (sign_cast (written_width o) (result_width o) (number vs 0)))
    does_like op.ArithIndexCast vs = computes_like (Some (sign_cast (written_width o) (result_width o) (number vs 0)))
    does_like op.ArithExtui vs = computes_like (Some (at_width (result_width o) (number vs 0)))
    does_like op.ArithTrunci vs = computes_like (Some (at_width (result_width o) (number vs 0)))
    does_like op.ArithIndexCastui vs = computes_like (Some (at_width (result_width o) (number vs 0)))
    does_like op.CfAssert vs = cond_next (nat_eq (number vs 0) 0) _ _ _ _ fails_like (goes _ _ both)
    does_like op.FuncCall vs = goes _ _ (called_like _ _ (callee_place p.funcs o.attr) vs (λ j. returns t.scope u.scope o.results rest (record { func = refl; nest = refl; sees = h }) read l))
    does_like op.AioTryCall vs = goes _ _ (called_like _ _ (callee_place p.funcs o.attr) vs (λ j. tries t.scope u.scope o.results rest (record { func = refl; nest = refl; sees = h }) read l))
    does_like op.ScfFor vs = loops_like vs
    does_like op.ScfIf vs = branches_like vs
    does_like op.ScfWhile vs = goes _ _ (rounds_like k n env other h rest read fs gs l o vs w)
    does_like op.ScfParallel vs = maybe_like (spans_of (numbers (group o vs 0)) (numbers (group o vs 1)) (numbers (group o vs 2))) _ _ spans_like
    does_like op.MemrefAlloc vs = maybe_like (product_within most_cells (asked_sizes o vs)) _ _ (λ m. asked_like _ _ (same _ tt))
    does_like op.MemrefLoad vs = maybe_like (cell_from 0 (dims_in (value vs 0)) (numbers (drop 1 vs))) _ _ (λ i. asked_like _ _ (same _ tt))
    does_like op.MemrefStore vs = maybe_like (cell_from 0 (dims_in (value vs 1)) (numbers (drop 2 vs))) _ _ (λ i. asked_no_result _ _ (same _ tt))
    does_like op.MemrefDim vs = computes_like _
    does_like op.AsyncExecute vs = asked_like _ _ (like.launches _ _ _ (child_like vs))
    does_like op.AsyncAwait vs = maybe_like (element_in (value vs 0)) _ _ (λ x. asked_like _ _ (same _ tt))
    does_like op.AsyncCreateGroup vs = cond_next (nat_le (number vs 0) most_elements) _ _ _ _ (asked_like _ _ (same _ tt)) fails_like
    does_like op.AsyncAddToGroup vs = maybe_like (element_in (value vs 0)) _ _ (λ x. asked_like _ _ (same _ tt))
    does_like op.AsyncAwaitAll vs = asked_no_result _ _ (same _ tt)
    does_like kind vs = rest_like (is_terminator kind) vs

  -- ---- the next step

  values_like : (k : ℕ) (env other : Env) → Sees p k env other → (xs : List ValueNo) → Each (IsRead p k) xs → values_at other xs ≡ values_at env xs
  values_like k env other h [] r = refl
  values_like k env other h (x ∷ xs) r = ap (λ v. v ∷ values_at other xs) (h x r.0) ∙ ap (λ vs. named env x.0 ∷ vs) (values_like k env other h xs r.1)

  module _ (k : ℕ) (n : Nest) (env other : Env) (h : Sees p k env other) where
    next_op_like : (rest : List Op) (fs gs : List (After × List Op)) → AreRead p k rest → LikeFrames p k fs gs →
        LikeNext p (next_op p rest (record { pending = []; rest = rest; frames = fs; scope = record { func = k; nest = n; env = env } }))
        (next_op p rest (record { pending = []; rest = rest; frames = gs; scope = record { func = k; nest = n; env = other } }))
    next_op_like [] fs gs r l = leaves_like n env other h _ _ _ _ [] l
    next_op_like (o ∷ rest) fs gs r l =
        let mine : Each (IsRead p k) ((out-Op o).operands ++ joined (map operands_under (out-Op o).regions)) = subst (Each (IsRead p k)) (op_operands o) (each_first (IsRead p k) (operands_of o) (joined (map operands_of rest)) r) in
        let t : Task = record { pending = []; rest = rest; frames = fs; scope = record { func = k; nest = n; env = env } } in
        let u : Task = record { pending = []; rest = rest; frames = gs; scope = record { func = k; nest = n; env = other } } in
        subst (λ vs. LikeNext p (acts p (out-Op o) t) (does (out-Op o).kind p (out-Op o) vs u)) (sym (values_like k env other h (out-Op o).operands (each_first (IsRead p k) (out-Op o).operands (joined (map operands_under (out-Op o).regions)) mine)))
        (does_like k n env other h rest (each_second (IsRead p k) (operands_of o) (joined (map operands_of rest)) r) fs gs l (out-Op o) (each_second (IsRead p k) (out-Op o).operands (joined (map operands_under (out-Op o).regions)) mine) (out-Op o).kind (values_at env (out-Op o).operands))

    pending_like : {ps qs : List Pending} (rest : List Op) (fs gs : List (After × List Op)) → AreRead p k rest → LikeFrames p k fs gs → LikePending p ps qs →
        LikeNext p (next p (record { pending = ps; rest = rest; frames = fs; scope = record { func = k; nest = n; env = env } }))
        (next p (record { pending = qs; rest = rest; frames = gs; scope = record { func = k; nest = n; env = other } }))
    pending_like rest fs gs r l done = next_op_like rest fs gs r l
    pending_like rest fs gs r l (awaits at x xs m) = asks at _ _ xs _ _ (same _ tt) (record { pending = m; rest = refl; read = r; frames = l; scope = record { func = refl; nest = refl; sees = h } })
    pending_like rest fs gs r l (joining at a b j m) = asks at _ _ [] _ _ (joins_all a b j) (record { pending = m; rest = refl; read = r; frames = l; scope = record { func = refl; nest = refl; sees = h } })
    pending_like rest fs gs r l (failing at m) = caught_like at _ _ _ _ _ _ l

  next_like : (t u : Task) → LikeTask p t u → LikeNext p (next p t) (next p u)
  next_like t u m =
      subst (λ ops. LikeNext p (next p t) (next p (record { pending = u.pending; rest = ops; frames = u.frames; scope = u.scope }))) (sym m.rest)
      (subst (λ f. LikeNext p (next p t) (next p (record { pending = u.pending; rest = t.rest; frames = u.frames; scope = record { func = f; nest = u.scope.nest; env = u.scope.env } }))) (sym m.scope.func)
      (subst (λ n. LikeNext p (next p t) (next p (record { pending = u.pending; rest = t.rest; frames = u.frames; scope = record { func = t.scope.func; nest = n; env = u.scope.env } }))) (sym m.scope.nest)
      (pending_like t.scope.func t.scope.nest t.scope.env u.scope.env m.scope.sees t.rest t.frames u.frames m.read m.frames m.pending)))

pub unread_is_unseen : UnreadIsUnseen
unread_is_unseen p t u uses m = next_like p uses t u m

pub unread_is_free : UnreadIsFree
unread_is_free p t u x v w n m = record {
  pending = m.pending;
  rest = m.rest;
  read = m.read;
  frames = m.frames;
  scope = record { func = m.scope.func; nest = m.scope.nest; sees = sees };
} where
  sees : Sees p t.scope.func (put t.scope.env x.0 v) (put u.scope.env x.0 w)
  sees y r = named_put_other u.scope.env x.0 y.0 w apart ∙ (m.scope.sees y r ∙ sym (named_put_other t.scope.env x.0 y.0 v apart)) where
    apart : x.0 ≡ y.0 → ⊥
    apart e = true≢false (sym r ∙ subst (λ z. is_among z (or_else [] (slice_get p.uses t.scope.func)) ≡ false) e n)
