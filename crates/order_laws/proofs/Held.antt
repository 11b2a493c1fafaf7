-- Which buffers and groups a task may hold: what its steps give, they had before, or the answers brought.
use Rattle.std.proofs.Common.{◌≡◌, ℕ, zero, suc, nat_le, nat_eq, Bool, true, false, cond, List, [], ◌∷◌, ◌++◌, take, drop, Option, Some, None, slice_get, refl}
use Rattle.op_table.specs.declared.kind.OpKind.{OpKind}
use Rattle.op_table.specs.declared.kind.OpKind.TheVariants as op
use Rattle.op_table.specs.Rows.{is_terminator}
use Rattle.int_ops.specs.declared.BinOp.TheVariants as bin
use Rattle.ir_forms.specs.declared.ops.Op.{Op, out-Op}
use Rattle.ir_forms.specs.declared.ops.Region.{Region}
use Rattle.ir_forms.specs.declared.ops.ValueNo.{ValueNo}
use Rattle.ir_verify.specs.Calls.{callee_place}
use Rattle.source_meaning.specs.declared.values.Val.{Val}
use Rattle.source_meaning.specs.declared.values.Val.TheVariants.{Number, Memory, Element, Group}
use Rattle.ir_forms.specs.declared.names.MadeName.{MadeName}
use Rattle.ir_forms.specs.declared.names.MadeName.TheVariants.{Argument}
use Rattle.source_meaning.specs.Values.{nothing, or_else, Env, put, bind, values_at, number_in, element_in, dims_in, buffer_in, group_in}
use Rattle.source_meaning.specs.Parts.{Node, grouped, region_of}
use Rattle.ir_forms.specs.Shapes.{most_cells}
use Rattle.source_meaning.specs.Rows.{result_at, at_width, literal_bits, compared_at, sign_cast, cell_from, product_within, most_elements, are_bounds, is_below, stepped, turns_of, spans_of}
use Rattle.source_meaning.specs.Tasks.{Program, After, Joins, Turns, Tests, Repeats, Returns, Tries, Span, Loop, Pending, Awaits, Joining, Failing, Task, Ask, Reads, Writes, Creates, Adds, Launches, Enters, JoinsAll, AwaitsAll, Outcome, Gave, FailedAt, Answer, Next, Goes, Asks, Ends, bound, resumed}
use Rattle.source_meaning.specs.Flow.{entered, called, turned, tested, left, leaves, gives, caught_at, caught, fails, tried}
use Rattle.source_meaning.specs.Steps.{value, number, numbers, group, result_width, written_width, or_fails, computes, chosen, asked_sizes, awaiting, awaits_each, awaits_for, child_of, enters_spans, is_used, does, next_op, next_pending, next}
use Rattle.source_meaning.specs.TaskOrder.{Each}

module _ (p : Program) (Buf Grp : MadeName → Type 0) (buf : Buf (Argument 0)) (grp : Grp (Argument 0)) where
  -- its buffer or group has the property
  abbrev pub OkVal : Val → Type 0
  OkVal (Memory b dims) = Buf b
  OkVal (Group g) = Grp g
  OkVal _ = Unit {0}

  abbrev pub OkVals : List Val → Type 0
  OkVals vs = Each OkVal vs

  abbrev pub OkAfter : After → Type 0
  OkAfter (Returns s xs) = OkVals s.env
  OkAfter (Tries s xs) = OkVals s.env
  OkAfter _ = Unit {0}

  abbrev pub OkPending : Pending → Type 0
  OkPending (Awaits at x xs) = Unit {0}
  OkPending (Joining at loop) = ⊥
  OkPending (Failing at) = Unit {0}

  pub record OkTask (t : Task) : Type 0 where
    pub pending : Each OkPending t.pending
    pub frames : Each (λ (f : After × List Op). OkAfter f.0) t.frames
    pub env : OkVals t.scope.env

  -- a task that waits for the iterations of a loop
  pub record OkJoining (loop : Loop) (t : Task) : Type 0 where
    pub at : ℕ
    pub pending : t.pending ≡ Joining at loop ∷ []
    pub frames : Each (λ (f : After × List Op). OkAfter f.0) t.frames
    pub env : OkVals t.scope.env
    pub inside : OkVals loop.scope.env

  -- a task behind what it asked
  abbrev pub OkThen : Ask → Task → Type 0
  OkThen (Enters loop) t = OkJoining loop t
  OkThen (JoinsAll loop) t = ⊥
  OkThen _ t = OkTask t

  abbrev pub OkAsk : Ask → Type 0
  OkAsk (Reads b i) = Buf b
  OkAsk (Writes b i n) = Buf b
  OkAsk (Adds g x used) = Grp g
  OkAsk (Launches t r) = OkTask t
  OkAsk (Enters loop) = OkVals loop.scope.env
  OkAsk (AwaitsAll g) = Grp g
  OkAsk _ = Unit {0}

  abbrev pub OkOutcome : Outcome → Type 0
  OkOutcome (Gave vs) = OkVals vs
  OkOutcome (FailedAt at) = Unit {0}

  -- an add says whether the name of its rank is read
  abbrev pub Names : Ask → List ValueNo → Task → Type 0
  Names (Adds g x used) xs t = used ≡ is_used p t.scope.func (slice_get xs 0)
  Names _ xs t = Unit {0}

  abbrev pub OkNext : Next → Type 0
  OkNext (Goes t) = OkTask t
  OkNext (Asks at a xs t) = OkAsk a × OkThen a t × Names a xs t
  OkNext (Ends o) = OkOutcome o

  -- ---- values

  pub each_append : {X : Type 0} (Q : X → Type 0) (xs ys : List X) → Each Q xs → Each Q ys → Each Q (xs ++ ys)
  each_append Q [] ys h k = k
  each_append Q (x ∷ xs) ys h k = (h.0, each_append Q xs ys h.1 k)

  pub ok_get : (vs : List Val) (i : ℕ) → OkVals vs → OkVal (or_else nothing (slice_get vs i))
  ok_get [] i h = tt
  ok_get (v ∷ vs) zero h = h.0
  ok_get (v ∷ vs) (suc i) h = ok_get vs i h.1

  ok_put : (env : Env) (k : ℕ) (v : Val) → OkVals env → OkVal v → OkVals (put env k v)
  ok_put [] zero v h k = (k, tt)
  ok_put [] (suc i) v h k = (tt, ok_put [] i v tt k)
  ok_put (x ∷ env) zero v h k = (k, h.1)
  ok_put (x ∷ env) (suc i) v h k = (h.0, ok_put env i v h.1 k)

  pub ok_bind : (xs : List ValueNo) (vs : List Val) (env : Env) → OkVals env → OkVals vs → OkVals (bind xs vs env)
  ok_bind xs [] env h k = h
  ok_bind [] (v ∷ vs) env h k = h
  ok_bind (x ∷ xs) (v ∷ vs) env h k = ok_bind xs vs (put env x.0 v) (ok_put env x.0 v h k.0) k.1

  ok_values : (env : Env) (xs : List ValueNo) → OkVals env → OkVals (values_at env xs)
  ok_values env [] h = tt
  ok_values env (x ∷ xs) h = (ok_get env x.0 h, ok_values env xs h)

  ok_take : (n : ℕ) (vs : List Val) → OkVals vs → OkVals (take n vs)
  ok_take zero vs h = tt
  ok_take (suc n) [] h = tt
  ok_take (suc n) (v ∷ vs) h = (h.0, ok_take n vs h.1)

  ok_drop : (n : ℕ) (vs : List Val) → OkVals vs → OkVals (drop n vs)
  ok_drop zero vs h = h
  ok_drop (suc n) [] h = tt
  ok_drop (suc n) (v ∷ vs) h = ok_drop n vs h.1

  ok_group : (ns : List ℕ) (vs : List Val) (k : ℕ) → OkVals vs → OkVals (or_else [] (slice_get (grouped ns vs) k))
  ok_group [] vs k h = tt
  ok_group (n ∷ ns) vs zero h = ok_take n vs h
  ok_group (n ∷ ns) vs (suc k) h = ok_group ns (drop n vs) k (ok_drop n vs h)

  -- ---- tasks

  pub ok_bound : (xs : List ValueNo) (vs : List Val) (t : Task) → OkTask t → OkVals vs → OkTask (bound xs vs t)
  ok_bound xs vs t h k = record { pending = h.pending; frames = h.frames; env = ok_bind xs vs t.scope.env h.env k }

  ok_entered : (a : After) (r : Option Region) (vs : List Val) (t : Task) → OkTask t → OkAfter a → OkVals vs → OkTask (entered a r vs t)
  ok_entered a r vs t h k m = ok_bound _ vs _ (record { pending = h.pending; frames = (k, h.frames); env = h.env }) m

  ok_called : (a : After) (c : Option ℕ) (vs : List Val) (t : Task) → OkTask t → OkAfter a → OkVals vs → OkTask (called p a c vs t)
  ok_called a None vs t h k m = record { pending = h.pending; frames = (k, h.frames); env = h.env }
  ok_called a (Some j) vs t h k m = record { pending = h.pending; frames = (k, h.frames); env = ok_bind _ vs [] tt m }

  ok_cond : (b : Bool) (t u : Task) → OkTask t → OkTask u → OkTask (cond b t u)
  ok_cond true t u h k = h
  ok_cond false t u h k = k

  ok_turned : (o : Node) (i upper step : ℕ) (vs : List Val) (t : Task) → OkTask t → OkVals vs → OkTask (turned o i upper step vs t)
  ok_turned o i upper step vs t h k = ok_cond (is_below i upper) _ _ (ok_entered (Turns o i upper step) (region_of o 0) (Number i ∷ vs) t h tt (tt, k)) (ok_bound o.results vs t h k)

  ok_tested : (o : Node) (vs : List Val) (t : Task) → OkTask t → OkVals vs → OkTask (tested o vs t)
  ok_tested o [] t h k = ok_bound o.results [] t h tt
  ok_tested o (v ∷ vs) t h k = ok_cond (nat_eq (number_in v) 0) _ _ (ok_bound _ vs t h k.1) (ok_entered _ _ vs t h tt k.1)

  ok_left : (a : After) (vs : List Val) (t : Task) → OkTask t → OkAfter a → OkVals vs → OkTask (left a vs t)
  ok_left (Joins xs) vs t h a k = ok_bound xs vs t h k
  ok_left (Turns o i upper step) vs t h a k = ok_turned o (stepped i step) upper step vs t h k
  ok_left (Tests o) vs t h a k = ok_tested o vs t h k
  ok_left (Repeats o) vs t h a k = ok_entered _ _ vs t h tt k
  ok_left (Returns s xs) vs t h a k = ok_bound xs vs _ (record { pending = h.pending; frames = h.frames; env = a }) k
  ok_left (Tries s xs) vs t h a k = ok_bound xs (Number 1 ∷ []) _ (record { pending = h.pending; frames = h.frames; env = a }) (tt, tt)

  ok_leaves : (fs : List (After × List Op)) (vs : List Val) (t : Task) → OkTask t → Each (λ (f : After × List Op). OkAfter f.0) fs → OkVals vs → OkNext (leaves fs vs t)
  ok_leaves [] vs t h f k = k
  ok_leaves (f ∷ fs) vs t h g k = ok_left f.0 vs _ (record { pending = h.pending; frames = g.1; env = h.env }) g.0 k

  ok_caught_at : (a : After) (t : Task) (outer : Next) → OkTask t → OkAfter a → OkNext outer → OkNext (caught_at (tried a) t outer)
  ok_caught_at (Joins xs) t outer h a k = k
  ok_caught_at (Turns o i upper step) t outer h a k = k
  ok_caught_at (Tests o) t outer h a k = k
  ok_caught_at (Repeats o) t outer h a k = k
  ok_caught_at (Returns s xs) t outer h a k = k
  ok_caught_at (Tries s xs) t outer h a k = ok_bound xs (Number 0 ∷ []) _ (record { pending = h.pending; frames = h.frames; env = a }) (tt, tt)

  ok_caught : (at : ℕ) (fs : List (After × List Op)) (t : Task) → OkTask t → Each (λ (f : After × List Op). OkAfter f.0) fs → OkNext (caught at fs t)
  ok_caught at [] t h f = tt
  ok_caught at (f ∷ fs) t h g = ok_caught_at f.0 _ _ (record { pending = h.pending; frames = g.1; env = h.env }) g.0 (ok_caught at fs t h g.1)

  -- ---- rows

  ok_maybe : {X : Type 0} (o : Node) (t : Task) (g : X → Next) (x : Option X) → OkTask t → ((y : X) → OkNext (g y)) → OkNext (or_fails o t g x)
  ok_maybe o t g None h k = ok_caught o.at t.frames t h h.frames
  ok_maybe o t g (Some y) h k = k y

  ok_buffer : (v : Val) → OkVal v → Buf (buffer_in v)
  ok_buffer (Memory b dims) h = h
  ok_buffer (Number n) h = buf
  ok_buffer (Element x) h = buf
  ok_buffer (Group g) h = buf

  ok_of_group : (v : Val) → OkVal v → Grp (group_in v)
  ok_of_group (Group g) h = h
  ok_of_group (Number n) h = grp
  ok_of_group (Element x) h = grp
  ok_of_group (Memory b dims) h = grp

  ok_cond_next : (b : Bool) (x y : Next) → OkNext x → OkNext y → OkNext (cond b x y)
  ok_cond_next true x y h k = h
  ok_cond_next false x y h k = k

  ok_awaiting : (at : ℕ) (xs : List ValueNo) (v : Val) → OkVal v → OkPending (awaiting at xs v)
  ok_awaiting at xs (Element x) h = tt
  ok_awaiting at xs (Number n) h = tt
  ok_awaiting at xs (Memory b dims) h = tt
  ok_awaiting at xs (Group g) h = tt

  ok_each : (at : ℕ) (vs : List Val) → OkVals vs → Each OkPending (awaits_each at vs)
  ok_each at [] h = tt
  ok_each at (v ∷ vs) h = (ok_awaiting at [] v h.0, ok_each at vs h.1)

  ok_for : (at : ℕ) (xs : List ValueNo) (vs : List Val) → OkVals vs → Each OkPending (awaits_for at xs vs)
  ok_for at xs [] h = tt
  ok_for at [] (v ∷ vs) h = (ok_awaiting at [] v h.0, ok_for at [] vs h.1)
  ok_for at (x ∷ xs) (v ∷ vs) h = (ok_awaiting at (x ∷ []) v h.0, ok_for at xs vs h.1)

  ok_computes : (o : Node) (t : Task) (x : Option ℕ) → OkTask t → OkNext (computes o t x)
  ok_computes o t x h = ok_maybe o t _ x h (λ n. ok_bound o.results (Number n ∷ []) t h (tt, tt))

  ok_chosen : (n : ℕ) (v w : Val) → OkVal v → OkVal w → OkVal (chosen n v w)
  ok_chosen n v w h k = pick (nat_eq n 0) where
    pick : (b : Bool) → OkVal (cond b w v)
    pick true = k
    pick false = h

  ok_child : (o : Node) (vs : List Val) (t : Task) → OkTask t → OkVals vs → OkTask (child_of o vs t)
  ok_child o vs t h k = record {
    pending = each_append OkPending (awaits_each o.at (group o vs 0)) _ (ok_each o.at (group o vs 0) (ok_group o.groups vs 0 k)) (ok_for o.at _ (group o vs 1) (ok_group o.groups vs 1 k));
    frames = tt;
    env = h.env;
  }

  ok_spans : (o : Node) (t : Task) (spans : List Span) → OkTask t → OkNext (enters_spans p o t spans)
  ok_spans o t spans h = ok_maybe o t _ (product_within most_elements (turns_of spans)) h (λ n. (h.env, record { at = o.at; pending = refl; frames = h.frames; env = h.env; inside = h.env }, tt))

  ok_does : (kind : OpKind) (o : Node) (vs : List Val) (t : Task) → OkTask t → OkVals vs → OkNext (does kind p o vs t)
  ok_does op.ArithAddi o vs t h k = ok_computes o t (result_at (result_width o) bin.Add (number vs 0) (number vs 1)) h
  ok_does op.ArithSubi o vs t h k = ok_computes o t (result_at (result_width o) bin.Sub (number vs 0) (number vs 1)) h
  ok_does op.ArithMuli o vs t h k = ok_computes o t (result_at (result_width o) bin.Mul (number vs 0) (number vs 1)) h
  ok_does op.ArithDivsi o vs t h k = ok_computes o t (result_at (result_width o) bin.DivS (number vs 0) (number vs 1)) h
  ok_does op.ArithDivui o vs t h k = ok_computes o t (result_at (result_width o) bin.DivU (number vs 0) (number vs 1)) h
  ok_does op.ArithRemsi o vs t h k = ok_computes o t (result_at (result_width o) bin.RemS (number vs 0) (number vs 1)) h
  ok_does op.ArithRemui o vs t h k = ok_computes o t (result_at (result_width o) bin.RemU (number vs 0) (number vs 1)) h
  ok_does op.ArithAndi o vs t h k = ok_computes o t (result_at (result_width o) bin.And (number vs 0) (number vs 1)) h
  ok_does op.ArithOri o vs t h k = ok_computes o t (result_at (result_width o) bin.Or (number vs 0) (number vs 1)) h
  ok_does op.ArithXori o vs t h k = ok_computes o t (result_at (result_width o) bin.Xor (number vs 0) (number vs 1)) h
  ok_does op.ArithShli o vs t h k = ok_computes o t (result_at (result_width o) bin.Shl (number vs 0) (number vs 1)) h
  ok_does op.ArithShrsi o vs t h k = ok_computes o t (result_at (result_width o) bin.ShrS (number vs 0) (number vs 1)) h
  ok_does op.ArithShrui o vs t h k = ok_computes o t (result_at (result_width o) bin.ShrU (number vs 0) (number vs 1)) h
  ok_does op.ArithMaxsi o vs t h k = ok_computes o t (result_at (result_width o) bin.MaxS (number vs 0) (number vs 1)) h
  ok_does op.ArithMinsi o vs t h k = ok_computes o t (result_at (result_width o) bin.MinS (number vs 0) (number vs 1)) h
  ok_does op.ArithMaxui o vs t h k = ok_computes o t (result_at (result_width o) bin.MaxU (number vs 0) (number vs 1)) h
  ok_does op.ArithMinui o vs t h k = ok_computes o t (result_at (result_width o) bin.MinU (number vs 0) (number vs 1)) h
  ok_does op.ArithConstant o vs t h k = ok_computes o t (Some (at_width (result_width o) (literal_bits o.attr))) h
  ok_does op.ArithCmpi o vs t h k = ok_computes o t (Some (compared_at (written_width o) o.attr (number vs 0) (number vs 1))) h
  ok_does op.ArithSelect o vs t h k = ok_bound o.results (chosen (number vs 0) (value vs 1) (value vs 2) ∷ []) t h (ok_chosen (number vs 0) (value vs 1) (value vs 2) (ok_get vs 1 k) (ok_get vs 2 k), tt)
  ok_does op.ArithExtsi o vs t h k = ok_computes o t (Some (sign_cast (written_width o) (result_width o) (number vs 0))) h
  ok_does op.ArithIndexCast o vs t h k = ok_computes o t (Some (sign_cast (written_width o) (result_width o) (number vs 0))) h
  ok_does op.ArithExtui o vs t h k = ok_computes o t (Some (at_width (result_width o) (number vs 0))) h
  ok_does op.ArithTrunci o vs t h k = ok_computes o t (Some (at_width (result_width o) (number vs 0))) h
  ok_does op.ArithIndexCastui o vs t h k = ok_computes o t (Some (at_width (result_width o) (number vs 0))) h
  ok_does op.CfAssert o vs t h k = ok_cond_next (nat_eq (number vs 0) 0) (fails o.at t) (Goes t) (ok_caught o.at t.frames t h h.frames) h
  ok_does op.FuncCall o vs t h k = ok_called (Returns t.scope o.results) (callee_place p.funcs o.attr) vs t h h.env k
  ok_does op.AioTryCall o vs t h k = ok_called (Tries t.scope o.results) (callee_place p.funcs o.attr) vs t h h.env k
  ok_does op.ScfFor o vs t h k = ok_cond_next (are_bounds (number vs 0) (number vs 1) (number vs 2)) (Goes (turned o (number vs 0) (number vs 1) (number vs 2) (drop 3 vs) t)) (fails o.at t) (ok_turned o (number vs 0) (number vs 1) (number vs 2) (drop 3 vs) t h (ok_drop 3 vs k)) (ok_caught o.at t.frames t h h.frames)
  ok_does op.ScfIf o vs t h k = ok_entered (Joins o.results) _ [] t h tt tt
  ok_does op.ScfWhile o vs t h k = ok_entered (Tests o) _ vs t h tt k
  ok_does op.ScfParallel o vs t h k = ok_maybe o t _ (spans_of (numbers (group o vs 0)) (numbers (group o vs 1)) (numbers (group o vs 2))) h (λ spans. ok_spans o t spans h)
  ok_does op.MemrefAlloc o vs t h k = ok_maybe o t _ (product_within most_cells (asked_sizes o vs)) h (λ n. (tt, h, tt))
  ok_does op.MemrefLoad o vs t h k = ok_maybe o t _ (cell_from 0 (dims_in (value vs 0)) (numbers (drop 1 vs))) h (λ n. (ok_buffer (value vs 0) (ok_get vs 0 k), h, tt))
  ok_does op.MemrefStore o vs t h k = ok_maybe o t _ (cell_from 0 (dims_in (value vs 1)) (numbers (drop 2 vs))) h (λ n. (ok_buffer (value vs 1) (ok_get vs 1 k), h, tt))
  ok_does op.MemrefDim o vs t h k = ok_computes o t (slice_get (dims_in (value vs 0)) (number vs 1)) h
  ok_does op.AsyncExecute o vs t h k = (ok_child o vs t h k, h, tt)
  ok_does op.AsyncAwait o vs t h k = ok_maybe o t _ (element_in (value vs 0)) h (λ x. (tt, h, tt))
  ok_does op.AsyncCreateGroup o vs t h k = ok_cond_next (nat_le (number vs 0) most_elements) (Asks o.at (Creates (number vs 0)) o.results t) (fails o.at t) (tt, h, tt) (ok_caught o.at t.frames t h h.frames)
  ok_does op.AsyncAddToGroup o vs t h k = ok_maybe o t _ (element_in (value vs 0)) h (λ x. (ok_of_group (value vs 1) (ok_get vs 1 k), h, refl))
  ok_does op.AsyncAwaitAll o vs t h k = (ok_of_group (value vs 0) (ok_get vs 0 k), h, tt)
  ok_does kind o vs t h k = ok_cond_next (is_terminator kind) (gives vs t) (Goes t) (ok_leaves t.frames vs t h h.frames k) h

  ok_next_op : (ops : List Op) (t : Task) → OkTask t → OkNext (next_op p ops t)
  ok_next_op [] t h = ok_leaves t.frames [] t h h.frames tt
  ok_next_op (o ∷ rest) t h = ok_does (out-Op o).kind (out-Op o) (values_at t.scope.env (out-Op o).operands) _ (record { pending = h.pending; frames = h.frames; env = h.env }) (ok_values t.scope.env (out-Op o).operands h.env)

  ok_next_pending : (ps : List Pending) (t : Task) → OkTask t → Each OkPending ps → OkNext (next_pending p ps t)
  ok_next_pending [] t h k = ok_next_op t.rest t h
  ok_next_pending (Awaits at x xs ∷ more) t h k = (tt, record { pending = k.1; frames = h.frames; env = h.env }, tt)
  ok_next_pending (Joining at loop ∷ more) t h k = absurd k.0
  ok_next_pending (Failing at ∷ more) t h k = ok_caught at t.frames _ (record { pending = tt; frames = h.frames; env = h.env }) h.frames

  -- what the next step holds the task held
  pub ok_next : (t : Task) → OkTask t → OkNext (next p t)
  ok_next t h = ok_next_pending t.pending t h h.pending

  pub ok_resumed : (at : ℕ) (xs : List ValueNo) (t : Task) (r : Answer) → OkTask t → ((vs : List Val) → r ≡ Some vs → OkVals vs) → OkTask (resumed at xs t r)
  ok_resumed at xs t None h k = record { pending = (tt, tt); frames = h.frames; env = h.env }
  ok_resumed at xs t (Some vs) h k = ok_bound xs vs t h (k vs refl)

-- ---- another property

module _ (p : Program) (Buf Grp Buf' Grp' : MadeName → Type 0) (buf : Buf (Argument 0)) (grp : Grp (Argument 0)) (buf' : Buf' (Argument 0)) (grp' : Grp' (Argument 0)) (f : (b : MadeName) → Buf b → Buf' b) (g : (b : MadeName) → Grp b → Grp' b) where
  pub each_mono : {X : Type 0} (A B : X → Type 0) → ((x : X) → A x → B x) → (xs : List X) → Each A xs → Each B xs
  each_mono A B k [] h = tt
  each_mono A B k (x ∷ xs) h = (k x h.0, each_mono A B k xs h.1)

  val_mono : (v : Val) → OkVal p Buf Grp buf grp v → OkVal p Buf' Grp' buf' grp' v
  val_mono (Element x) h = tt
  val_mono (Number n) h = tt
  val_mono (Memory b dims) h = f b h
  val_mono (Group c) h = g c h

  pub vals_mono : (vs : List Val) → OkVals p Buf Grp buf grp vs → OkVals p Buf' Grp' buf' grp' vs
  vals_mono vs h = each_mono (OkVal p Buf Grp buf grp) (OkVal p Buf' Grp' buf' grp') val_mono vs h

  after_mono : (a : After) → OkAfter p Buf Grp buf grp a → OkAfter p Buf' Grp' buf' grp' a
  after_mono (Returns s xs) h = vals_mono s.env h
  after_mono (Tries s xs) h = vals_mono s.env h
  after_mono (Joins xs) h = tt
  after_mono (Turns o i upper step) h = tt
  after_mono (Tests o) h = tt
  after_mono (Repeats o) h = tt

  pending_mono : (x : Pending) → OkPending p Buf Grp buf grp x → OkPending p Buf' Grp' buf' grp' x
  pending_mono (Awaits at x xs) h = tt
  pending_mono (Joining at loop) h = h
  pending_mono (Failing at) h = tt

  pub task_mono : (t : Task) → OkTask p Buf Grp buf grp t → OkTask p Buf' Grp' buf' grp' t
  task_mono t h = record {
    pending = each_mono (OkPending p Buf Grp buf grp) (OkPending p Buf' Grp' buf' grp') pending_mono t.pending h.pending;
    frames = each_mono (λ (x : After × List Op). OkAfter p Buf Grp buf grp x.0) (λ (x : After × List Op). OkAfter p Buf' Grp' buf' grp' x.0) (λ x. after_mono x.0) t.frames h.frames;
    env = vals_mono t.scope.env h.env;
  }

  pub joining_mono : (loop : Loop) (t : Task) → OkJoining p Buf Grp buf grp loop t → OkJoining p Buf' Grp' buf' grp' loop t
  joining_mono loop t h = record {
    at = h.at;
    pending = h.pending;
    frames = each_mono (λ (x : After × List Op). OkAfter p Buf Grp buf grp x.0) (λ (x : After × List Op). OkAfter p Buf' Grp' buf' grp' x.0) (λ x. after_mono x.0) t.frames h.frames;
    env = vals_mono t.scope.env h.env;
    inside = vals_mono loop.scope.env h.inside;
  }

  pub outcome_mono : (o : Outcome) → OkOutcome p Buf Grp buf grp o → OkOutcome p Buf' Grp' buf' grp' o
  outcome_mono (Gave vs) h = vals_mono vs h
  outcome_mono (FailedAt at) h = tt
