-- The next step of a task: a row for each kind of operation.
use Rattle.std.specs.Prelude.{ℕ, ◌-◌, nat_eq, nat_le, not, cond, Bool, true, false, List, [], ◌∷◌, ◌++◌, map, drop, length, Option, Some, slice_get}
use Rattle.int_ops.specs.declared.BinOp.{BinOp}
use Rattle.int_ops.specs.declared.BinOp.TheVariants as bin
use Rattle.op_table.specs.declared.kind.OpKind.{OpKind}
use Rattle.op_table.specs.declared.kind.OpKind.TheVariants as op
use Rattle.op_table.specs.Rows.{is_terminator}
use Rattle.ir_forms.specs.declared.ops.Op.{Op, out-Op}
use Rattle.ir_forms.specs.declared.ops.ValueNo.{ValueNo}
use Rattle.ir_verify.specs.declared.place.Nest.{Nest}
use Rattle.ir_verify.specs.declared.place.Nest.TheVariants.{InFunction, InTask, InLoop}
use Rattle.ir_verify.specs.Calls.{is_marked, callee_place}
use Rattle.source_meaning.specs.declared.values.Val.{Val}
use Rattle.source_meaning.specs.declared.values.Val.TheVariants.{Number}
use Rattle.source_meaning.specs.Values.{nothing, maybe, or_else, values_at, number_in, buffer_in, dims_in, element_in, group_in}
use Rattle.source_meaning.specs.Parts.{Node, grouped, region_of, ops_in, params_in, width_of, dims_of}
use Rattle.source_meaning.specs.Rows.{literal_bits, at_width, result_at, compared_at, sign_cast, cell_from, sizes, product_within, most_elements, are_bounds, turns_of, spans_of}
use Rattle.ir_forms.specs.Shapes.{most_cells}
use Rattle.source_meaning.specs.Tasks.{Program, Scope, Joins, Tests, Returns, Tries, Span, Loop, Pending, Awaits, Joining, Failing, Task, Reads, Writes, Allocs, Creates, Adds, Launches, Enters, JoinsAll, AwaitsOne, AwaitsAll, Next, Goes, Asks, Answer, bound, told}
use Rattle.source_meaning.specs.Flow.{entered, called, turned, gives, fails}

-- ---- what an operation reads

-- the values of its operands
abbrev pub operands : Task → Node → List Val
operands t o = values_at t.scope.env o.operands

-- one of them; one that is missing reads as nothing
abbrev pub value : List Val → ℕ → Val
value vs i = or_else nothing (slice_get vs i)

-- one of them as a number
abbrev pub number : List Val → ℕ → ℕ
number vs i = number_in (value vs i)

-- all as numbers
abbrev pub numbers : List Val → List ℕ
numbers vs = map number_in vs

-- the values of one of its groups of operands
abbrev pub group : Node → List Val → ℕ → List Val
group o vs k = or_else [] (slice_get (grouped o.groups vs) k)

-- the width of its first result
abbrev pub result_width : Node → ℕ
result_width o = width_of (slice_get o.types 0)

-- the width of its first operand, as it is written
abbrev pub written_width : Node → ℕ
written_width o = width_of (slice_get o.written 0)

-- ---- rows that see the task's values alone

-- goes on with what there is, or fails
abbrev pub or_fails : {X : Type 0} → Node → Task → (X → Next) → Option X → Next
or_fails o t goes x = maybe (fails o.at t) goes x

-- the one result, or a failure
abbrev pub computes : Node → Task → Option ℕ → Next
computes o t x = or_fails o t (λ n. Goes (bound o.results (Number n ∷ []) t)) x

-- this result
abbrev pub makes : Node → Task → ℕ → Next
makes o t n = computes o t (Some n)

-- an operation on two numbers
abbrev pub binary : BinOp → Node → List Val → Task → Next
binary b o vs t = computes o t (result_at (result_width o) b (number vs 0) (number vs 1))

-- a cast by sign
abbrev pub extends_sign : Node → List Val → Task → Next
extends_sign o vs t = makes o t (sign_cast (written_width o) (result_width o) (number vs 0))

-- a cast by zeros, or to a narrower width
abbrev pub fits_width : Node → List Val → Task → Next
fits_width o vs t = makes o t (at_width (result_width o) (number vs 0))

-- the first value where the condition is true
abbrev pub chosen : ℕ → Val → Val → Val
chosen n v w = cond (nat_eq n 0) w v

-- `arith.select`
abbrev pub selects : Node → List Val → Task → Next
selects o vs t = Goes (bound o.results (chosen (number vs 0) (value vs 1) (value vs 2) ∷ []) t)

-- `cf.assert`
abbrev pub asserts : Node → List Val → Task → Next
asserts o vs t = cond (nat_eq (number vs 0) 0) (fails o.at t) (Goes t)

-- `scf.for`
abbrev pub loops : Node → List Val → Task → Next
loops o vs t =
    cond (are_bounds (number vs 0) (number vs 1) (number vs 2))
    (Goes (turned o (number vs 0) (number vs 1) (number vs 2) (drop 3 vs) t)) (fails o.at t)

-- `scf.if`; a second region that is missing has no operations
abbrev pub branches : Node → List Val → Task → Next
branches o vs t = Goes (entered (Joins o.results) (region_of o (cond (nat_eq (number vs 0) 0) 1 0)) [] t)

-- ---- rows that ask

-- `memref.load`
abbrev pub loads : Node → List Val → Task → Next
loads o vs t =
    or_fails o t (λ i. Asks o.at (Reads (buffer_in (value vs 0)) i) o.results t)
    (cell_from 0 (dims_in (value vs 0)) (numbers (drop 1 vs)))

-- `memref.store`
abbrev pub stores : Node → List Val → Task → Next
stores o vs t =
    or_fails o t (λ i. Asks o.at (Writes (buffer_in (value vs 1)) i (number vs 0)) [] t)
    (cell_from 0 (dims_in (value vs 1)) (numbers (drop 2 vs)))

-- the sizes that an allocation asks for
abbrev pub asked_sizes : Node → List Val → List ℕ
asked_sizes o vs = sizes (dims_of (slice_get o.types 0)) (numbers vs)

-- `memref.alloc`
abbrev pub allocates : Node → List Val → Task → Next
allocates o vs t =
    or_fails o t (λ n. Asks o.at (Allocs (asked_sizes o vs)) o.results t) (product_within most_cells (asked_sizes o vs))

-- `async.create_group`
abbrev pub creates : Node → List Val → Task → Next
creates o vs t =
    cond (nat_le (number vs 0) most_elements) (Asks o.at (Creates (number vs 0)) o.results t) (fails o.at t)

-- the value stands in the list
abbrev pub is_among : ℕ → List ValueNo → Bool
is_among v [] = false
is_among v (x ∷ xs) = cond (nat_eq x.0 v) true (is_among v xs)

-- whether the value is an operand in this function
abbrev pub is_used : Program → ℕ → Option ValueNo → Bool
is_used p k x = maybe false (λ v. is_among v.0 (or_else [] (slice_get p.uses k))) x

-- `async.add_to_group`
abbrev pub adds : Program → Node → List Val → Task → Next
adds p o vs t =
    or_fails o t (λ x. Asks o.at (Adds (group_in (value vs 1)) x (is_used p t.scope.func (slice_get o.results 0))) o.results t)
    (element_in (value vs 0))

-- `async.await`
abbrev pub awaits_one : Node → List Val → Task → Next
awaits_one o vs t = or_fails o t (λ x. Asks o.at (AwaitsOne x) o.results t) (element_in (value vs 0))

-- an await before a task's first operation; what is no token or value ends the task
abbrev pub awaiting : ℕ → List ValueNo → Val → Pending
awaiting at xs v = maybe (Failing at) (λ x. Awaits at x xs) (element_in v)

-- a launched task awaits its dependencies, and then its value operands for its parameters
abbrev pub awaits_each : ℕ → List Val → List Pending
awaits_each at vs = map (awaiting at []) vs

-- its value operands, each with the parameter that gets its value
abbrev pub awaits_for : ℕ → List ValueNo → List Val → List Pending
awaits_for at xs [] = []
awaits_for at [] (v ∷ vs) = awaiting at [] v ∷ awaits_for at [] vs
awaits_for at (x ∷ xs) (v ∷ vs) = awaiting at (x ∷ []) v ∷ awaits_for at xs vs

-- the task that `async.execute` launches: it sees its maker's values
abbrev pub child_of : Node → List Val → Task → Task
child_of o vs t = record {
  pending = awaits_each o.at (group o vs 0) ++ awaits_for o.at (params_in (region_of o 0)) (group o vs 1);
  rest = ops_in (region_of o 0);
  frames = [];
  scope = record t.scope { nest = InTask };
}

-- `async.execute`
abbrev pub launches : Node → List Val → Task → Next
launches o vs t = Asks o.at (Launches (child_of o vs t) (length o.results - 1)) o.results t

-- by what is nearest
abbrev pub split_in : Nest → Bool → Bool
split_in InTask is_called = true
split_in InLoop is_called = false
split_in InFunction is_called = not is_called

-- a parallel loop is split in a task, and in a function that no task calls
abbrev pub is_split : Program → Scope → Bool
is_split p scope = split_in scope.nest (is_marked (slice_get p.called scope.func))

-- the loop that is entered: its iterations see what their maker sees
abbrev pub loop_of : Program → Node → Task → List Span → ℕ → Loop
loop_of p o t spans n = record {
  scope = record t.scope { nest = InLoop };
  params = params_in (region_of o 0);
  body = ops_in (region_of o 0);
  spans = spans;
  total = n;
  split = is_split p t.scope;
}

-- the loop is entered, and joined before the next operation
abbrev pub enters_loop : Node → Task → Loop → Next
enters_loop o t loop = Asks o.at (Enters loop) [] (record t { pending = Joining o.at loop ∷ [] })

-- where its dimensions have not too many turns
abbrev pub enters_spans : Program → Node → Task → List Span → Next
enters_spans p o t spans =
    or_fails o t (λ n. enters_loop o t (loop_of p o t spans n)) (product_within most_elements (turns_of spans))

-- `scf.parallel`
abbrev pub enters : Program → Node → List Val → Task → Next
enters p o vs t =
    or_fails o t (enters_spans p o t) (spans_of (numbers (group o vs 0)) (numbers (group o vs 1)) (numbers (group o vs 2)))

-- ---- all rows

-- what an operation of this kind does; the task is left with what follows it
abbrev pub does : OpKind → Program → Node → List Val → Task → Next
does op.ArithAddi p o vs t = binary bin.Add o vs t
does op.ArithSubi p o vs t = binary bin.Sub o vs t
does op.ArithMuli p o vs t = binary bin.Mul o vs t
does op.ArithDivsi p o vs t = binary bin.DivS o vs t
does op.ArithDivui p o vs t = binary bin.DivU o vs t
does op.ArithRemsi p o vs t = binary bin.RemS o vs t
does op.ArithRemui p o vs t = binary bin.RemU o vs t
does op.ArithAndi p o vs t = binary bin.And o vs t
does op.ArithOri p o vs t = binary bin.Or o vs t
does op.ArithXori p o vs t = binary bin.Xor o vs t
does op.ArithShli p o vs t = binary bin.Shl o vs t
does op.ArithShrsi p o vs t = binary bin.ShrS o vs t
does op.ArithShrui p o vs t = binary bin.ShrU o vs t
does op.ArithMaxsi p o vs t = binary bin.MaxS o vs t
does op.ArithMinsi p o vs t = binary bin.MinS o vs t
does op.ArithMaxui p o vs t = binary bin.MaxU o vs t
does op.ArithMinui p o vs t = binary bin.MinU o vs t
does op.ArithConstant p o vs t = makes o t (at_width (result_width o) (literal_bits o.attr))
does op.ArithCmpi p o vs t = makes o t (compared_at (written_width o) o.attr (number vs 0) (number vs 1))
does op.ArithSelect p o vs t = selects o vs t
does op.ArithExtsi p o vs t = extends_sign o vs t
does op.ArithIndexCast p o vs t = extends_sign o vs t
does op.ArithExtui p o vs t = fits_width o vs t
does op.ArithTrunci p o vs t = fits_width o vs t
does op.ArithIndexCastui p o vs t = fits_width o vs t
does op.CfAssert p o vs t = asserts o vs t
does op.FuncCall p o vs t = Goes (called p (Returns t.scope o.results) (callee_place p.funcs o.attr) vs t)
does op.AioTryCall p o vs t = Goes (called p (Tries t.scope o.results) (callee_place p.funcs o.attr) vs t)
does op.ScfFor p o vs t = loops o vs t
does op.ScfIf p o vs t = branches o vs t
does op.ScfWhile p o vs t = Goes (entered (Tests o) (region_of o 0) vs t)
does op.ScfParallel p o vs t = enters p o vs t
does op.MemrefAlloc p o vs t = allocates o vs t
does op.MemrefLoad p o vs t = loads o vs t
does op.MemrefStore p o vs t = stores o vs t
does op.MemrefDim p o vs t = computes o t (slice_get (dims_in (value vs 0)) (number vs 1))
does op.AsyncExecute p o vs t = launches o vs t
does op.AsyncAwait p o vs t = awaits_one o vs t
does op.AsyncCreateGroup p o vs t = creates o vs t
does op.AsyncAddToGroup p o vs t = adds p o vs t
does op.AsyncAwaitAll p o vs t = Asks o.at (AwaitsAll (group_in (value vs 0))) [] t
does k p o vs t = cond (is_terminator k) (gives vs t) (Goes t)

-- what an operation does
abbrev pub acts : Program → Node → Task → Next
acts p o t = does o.kind p o (operands t o) t

-- the operations of a region in order; where none is left the region gives nothing
abbrev pub next_op : Program → List Op → Task → Next
next_op p [] t = gives [] t
next_op p (o ∷ rest) t = acts p (out-Op o) (record t { rest = rest })

-- what is pending comes first
abbrev pub next_pending : Program → List Pending → Task → Next
next_pending p [] t = next_op p t.rest t
next_pending p (Awaits at x xs ∷ more) t = Asks at (AwaitsOne x) xs (record t { pending = more })
next_pending p (Joining at loop ∷ more) t = Asks at (JoinsAll loop) [] (record t { pending = more })
next_pending p (Failing at ∷ more) t = fails at (record t { pending = [] })

-- The next step of a task.
abbrev pub next : Program → Task → Next
next p t = next_pending p t.pending t

-- whether that step begins an operation
abbrev pub begins_with : List Pending → List Op → Bool
begins_with [] (o ∷ rest) = true
begins_with _ _ = false

-- the task's next step begins an operation
abbrev pub begins : Task → Bool
begins t = begins_with t.pending t.rest

-- The task after these answers to its steps, one for each; a step that asks nothing takes any answer. `next` of it is what
-- the task does next.
abbrev pub after_answers : Program → List Answer → Task → Task
after_answers p [] t = t
after_answers p (a ∷ answers) t = after_answers p answers (told (next p t) t a)
