-- What a task holds after its next step is in range where it was before, and the answer is.
use Rattle.std.specs.Prelude.{◌≤◌, nat_le, nat_eq, IfSome}
use Rattle.std.proofs.Common.{◌≡◌, ◌^◌, ℕ, zero, suc, Bool, true, false, cond, List, [], ◌∷◌, ◌++◌, take, drop, map, Option, Some, None, slice_get, refl, arith}
use Rattle.std.proofs.lemmas.Bool.{leb-true}
use Rattle.op_table.specs.declared.kind.OpKind.{OpKind}
use Rattle.op_table.specs.declared.kind.OpKind.TheVariants as op
use Rattle.op_table.specs.Rows.{is_terminator}
use Rattle.int_ops.specs.declared.BinOp.{BinOp}
use Rattle.int_ops.specs.declared.BinOp.TheVariants as bin
use Rattle.ir_forms.specs.declared.ops.Op.{Op, out-Op}
use Rattle.ir_forms.specs.declared.ops.Region.{Region}
use Rattle.ir_forms.specs.declared.ops.ValueNo.{ValueNo}
use Rattle.ir_forms.specs.Shapes.{most_cells}
use Rattle.ir_verify.specs.Calls.{callee_place}
use Rattle.source_meaning.specs.declared.values.Val.{Val}
use Rattle.source_meaning.specs.declared.values.Val.TheVariants.{Number, Memory, Element, Group}
use Rattle.source_meaning.specs.Values.{nothing, or_else, Env, put, bind, values_at, number_in, element_in, dims_in}
use Rattle.source_meaning.specs.Parts.{Node, grouped, region_of}
use Rattle.source_meaning.specs.Rows.{result_at, at_width, literal_bits, compared_at, sign_cast, cell_from, product_within, most_elements, are_bounds, is_below, stepped, turns_of, spans_of}
use Rattle.source_meaning.specs.Tasks.{Program, After, Joins, Turns, Tests, Repeats, Returns, Tries, Span, Pending, Awaits, Joining, Failing, Task, Ask, Writes, Allocs, Creates, Launches, Enters, Answer, Next, Goes, Asks, Ends, bound, resumed}
use Rattle.source_meaning.specs.Flow.{entered, called, turned, tested, left, leaves, gives, caught_at, caught, fails, tried}
use Rattle.source_meaning.specs.Steps.{value, number, numbers, group, result_width, written_width, or_fails, computes, chosen, asked_sizes, child_of, enters_spans, does, next_op, next_pending, next}
use Rattle.source_meaning.specs.TaskOrder.{Each}
use Rattle.std.proofs.lemmas.Nat.{mod_below}
use Rattle.typed_laws.specs.Ranges.{IsNumber, IsInRange, AreInRange, AfterInRange, TaskInRange, OutcomeInRange}
use Rattle.typed_laws.proofs.Numbers.{fitted_number, cast_number, result_number, compared_number, product_each}

-- what an asking says is in range
abbrev pub AskInRange : Ask → Type 0
AskInRange (Writes b i n) = IsNumber n
AskInRange (Allocs dims) = Each IsNumber dims
AskInRange (Creates n) = n ≤ most_elements
AskInRange (Launches t r) = TaskInRange t
AskInRange (Enters loop) = AreInRange loop.scope.env
AskInRange _ = Unit {0}

abbrev pub NextInRange : Next → Type 0
NextInRange (Goes t) = TaskInRange t
NextInRange (Asks at a xs t) = AskInRange a × TaskInRange t
NextInRange (Ends o) = OutcomeInRange o

abbrev Frames : List (After × List Op) → Type 0
Frames fs = Each (λ (f : After × List Op). AfterInRange f.0) fs

-- ---- values

zero_number : IsNumber 0
zero_number = omega arith

pub each_append : {X : Type 0} (Q : X → Type 0) (xs ys : List X) → Each Q xs → Each Q ys → Each Q (xs ++ ys)
each_append Q [] ys h k = k
each_append Q (x ∷ xs) ys h k = (h.0, each_append Q xs ys h.1 k)

pub each_map : {X Y : Type 0} (P : X → Type 0) (Q : Y → Type 0) (f : X → Y) → ((x : X) → P x → Q (f x)) → (xs : List X) → Each P xs → Each Q (map f xs)
each_map P Q f g [] h = tt
each_map P Q f g (x ∷ xs) h = (g x h.0, each_map P Q f g xs h.1)

get : (vs : List Val) (i : ℕ) → AreInRange vs → IsInRange (or_else nothing (slice_get vs i))
get [] i h = zero_number
get (v ∷ vs) zero h = h.0
get (v ∷ vs) (suc i) h = get vs i h.1

put_value : (env : Env) (k : ℕ) (v : Val) → AreInRange env → IsInRange v → AreInRange (put env k v)
put_value [] zero v h k = (k, tt)
put_value [] (suc i) v h k = (zero_number, put_value [] i v tt k)
put_value (x ∷ env) zero v h k = (k, h.1)
put_value (x ∷ env) (suc i) v h k = (h.0, put_value env i v h.1 k)

pub bound_values : (xs : List ValueNo) (vs : List Val) (env : Env) → AreInRange env → AreInRange vs → AreInRange (bind xs vs env)
bound_values xs [] env h k = h
bound_values [] (v ∷ vs) env h k = h
bound_values (x ∷ xs) (v ∷ vs) env h k = bound_values xs vs (put env x.0 v) (put_value env x.0 v h k.0) k.1

pub values_in : (env : Env) (xs : List ValueNo) → AreInRange env → AreInRange (values_at env xs)
values_in env [] h = tt
values_in env (x ∷ xs) h = (get env x.0 h, values_in env xs h)

taken : (n : ℕ) (vs : List Val) → AreInRange vs → AreInRange (take n vs)
taken zero vs h = tt
taken (suc n) [] h = tt
taken (suc n) (v ∷ vs) h = (h.0, taken n vs h.1)

dropped : (n : ℕ) (vs : List Val) → AreInRange vs → AreInRange (drop n vs)
dropped zero vs h = h
dropped (suc n) [] h = tt
dropped (suc n) (v ∷ vs) h = dropped n vs h.1

in_group : (ns : List ℕ) (vs : List Val) (k : ℕ) → AreInRange vs → AreInRange (or_else [] (slice_get (grouped ns vs) k))
in_group [] vs k h = tt
in_group (n ∷ ns) vs zero h = taken n vs h
in_group (n ∷ ns) vs (suc k) h = in_group ns (drop n vs) k (dropped n vs h)

number_of : (v : Val) → IsInRange v → IsNumber (number_in v)
number_of (Number n) h = h
number_of (Memory b dims) h = zero_number
number_of (Element x) h = zero_number
number_of (Group g) h = zero_number

number_at : (vs : List Val) (i : ℕ) → AreInRange vs → IsNumber (number vs i)
number_at vs i h = number_of (value vs i) (get vs i h)

dims_of_value : (v : Val) → IsInRange v → Each IsNumber (dims_in v)
dims_of_value (Number n) h = tt
dims_of_value (Memory b dims) h = h
dims_of_value (Element x) h = tt
dims_of_value (Group g) h = tt

size_at : (ns : List ℕ) (i : ℕ) → Each IsNumber ns → IfSome (slice_get ns i) IsNumber
size_at [] i h = tt
size_at (n ∷ ns) zero h = h.0
size_at (n ∷ ns) (suc i) h = size_at ns i h.1

small : (ks : List ℕ) → Each (λ k. k ≤ most_cells) ks → Each IsNumber ks
small [] h = tt
small (k ∷ ks) h = (let le = h.0 in omega (arith, le), small ks h.1)

-- ---- tasks

pub bound_task : (xs : List ValueNo) (vs : List Val) (t : Task) → TaskInRange t → AreInRange vs → TaskInRange (bound xs vs t)
bound_task xs vs t h k = record { frames = h.frames; env = bound_values xs vs t.scope.env h.env k }

entered_task : (a : After) (r : Option Region) (vs : List Val) (t : Task) → TaskInRange t → AfterInRange a → AreInRange vs → TaskInRange (entered a r vs t)
entered_task a r vs t h k m = bound_task _ vs _ (record { frames = (k, h.frames); env = h.env }) m

called_task : (p : Program) (a : After) (c : Option ℕ) (vs : List Val) (t : Task) → TaskInRange t → AfterInRange a → AreInRange vs → TaskInRange (called p a c vs t)
called_task p a None vs t h k m = record { frames = (k, h.frames); env = h.env }
called_task p a (Some j) vs t h k m = record { frames = (k, h.frames); env = bound_values _ vs [] tt m }

one_of : (b : Bool) (t u : Task) → TaskInRange t → TaskInRange u → TaskInRange (cond b t u)
one_of true t u h k = h
one_of false t u h k = k

turned_task : (o : Node) (i upper step : ℕ) (vs : List Val) (t : Task) → TaskInRange t → IsNumber i → AreInRange vs → TaskInRange (turned o i upper step vs t)
turned_task o i upper step vs t h n k = one_of (is_below i upper) _ _ (entered_task (Turns o i upper step) (region_of o 0) (Number i ∷ vs) t h tt (n, k)) (bound_task o.results vs t h k)

tested_task : (o : Node) (vs : List Val) (t : Task) → TaskInRange t → AreInRange vs → TaskInRange (tested o vs t)
tested_task o [] t h k = bound_task o.results [] t h tt
tested_task o (v ∷ vs) t h k = one_of (nat_eq (number_in v) 0) _ _ (bound_task _ vs t h k.1) (entered_task _ _ vs t h tt k.1)

left_task : (a : After) (vs : List Val) (t : Task) → TaskInRange t → AfterInRange a → AreInRange vs → TaskInRange (left a vs t)
left_task (Joins xs) vs t h a k = bound_task xs vs t h k
left_task (Turns o i upper step) vs t h a k = turned_task o (stepped i step) upper step vs t h (mod_below _ (2 ^ 64) (omega arith)) k
left_task (Tests o) vs t h a k = tested_task o vs t h k
left_task (Repeats o) vs t h a k = entered_task _ _ vs t h tt k
left_task (Returns s xs) vs t h a k = bound_task xs vs _ (record { frames = h.frames; env = a }) k
left_task (Tries s xs) vs t h a k = bound_task xs (Number 1 ∷ []) _ (record { frames = h.frames; env = a }) (omega arith, tt)

leaves_next : (fs : List (After × List Op)) (vs : List Val) (t : Task) → TaskInRange t → Frames fs → AreInRange vs → NextInRange (leaves fs vs t)
leaves_next [] vs t h f k = k
leaves_next (f ∷ fs) vs t h g k = left_task f.0 vs _ (record { frames = g.1; env = h.env }) g.0 k

caught_one : (a : After) (t : Task) (outer : Next) → TaskInRange t → AfterInRange a → NextInRange outer → NextInRange (caught_at (tried a) t outer)
caught_one (Joins xs) t outer h a k = k
caught_one (Turns o i upper step) t outer h a k = k
caught_one (Tests o) t outer h a k = k
caught_one (Repeats o) t outer h a k = k
caught_one (Returns s xs) t outer h a k = k
caught_one (Tries s xs) t outer h a k = bound_task xs (Number 0 ∷ []) _ (record { frames = h.frames; env = a }) (zero_number, tt)

caught_next : (at : ℕ) (fs : List (After × List Op)) (t : Task) → TaskInRange t → Frames fs → NextInRange (caught at fs t)
caught_next at [] t h f = tt
caught_next at (f ∷ fs) t h g = caught_one f.0 _ _ (record { frames = g.1; env = h.env }) g.0 (caught_next at fs t h g.1)

-- ---- rows

maybe_next : {X : Type 0} (o : Node) (t : Task) (g : X → Next) (x : Option X) → TaskInRange t → ((y : X) → x ≡ Some y → NextInRange (g y)) → NextInRange (or_fails o t g x)
maybe_next o t g None h k = caught_next o.at t.frames t h h.frames
maybe_next o t g (Some y) h k = k y refl

cond_next : (b : Bool) (x y : Next) → (b ≡ true → NextInRange x) → NextInRange y → NextInRange (cond b x y)
cond_next true x y h k = h refl
cond_next false x y h k = k

computes_next : (o : Node) (t : Task) (x : Option ℕ) → TaskInRange t → IfSome x IsNumber → NextInRange (computes o t x)
computes_next o t None h k = caught_next o.at t.frames t h h.frames
computes_next o t (Some n) h k = bound_task o.results (Number n ∷ []) t h (k, tt)

binary_next : (b : BinOp) (o : Node) (vs : List Val) (t : Task) → TaskInRange t → NextInRange (computes o t (result_at (result_width o) b (number vs 0) (number vs 1)))
binary_next b o vs t h = computes_next o t _ h (result_number (slice_get o.types 0) b (number vs 0) (number vs 1))

chosen_value : (n : ℕ) (v w : Val) → IsInRange v → IsInRange w → IsInRange (chosen n v w)
chosen_value n v w h k = pick (nat_eq n 0) where
  pick : (b : Bool) → IsInRange (cond b w v)
  pick true = k
  pick false = h

child_task : (o : Node) (vs : List Val) (t : Task) → TaskInRange t → TaskInRange (child_of o vs t)
child_task o vs t h = record { frames = tt; env = h.env }

spans_next : (p : Program) (o : Node) (t : Task) (spans : List Span) → TaskInRange t → NextInRange (enters_spans p o t spans)
spans_next p o t spans h = maybe_next o t _ (product_within most_elements (turns_of spans)) h (λ n e. (h.env, record { frames = h.frames; env = h.env }))

does_next : (kind : OpKind) (p : Program) (o : Node) (vs : List Val) (t : Task) → TaskInRange t → AreInRange vs → NextInRange (does kind p o vs t)
does_next op.ArithAddi p o vs t h k = binary_next bin.Add o vs t h
does_next op.ArithSubi p o vs t h k = binary_next bin.Sub o vs t h
does_next op.ArithMuli p o vs t h k = binary_next bin.Mul o vs t h
does_next op.ArithDivsi p o vs t h k = binary_next bin.DivS o vs t h
does_next op.ArithDivui p o vs t h k = binary_next bin.DivU o vs t h
does_next op.ArithRemsi p o vs t h k = binary_next bin.RemS o vs t h
does_next op.ArithRemui p o vs t h k = binary_next bin.RemU o vs t h
does_next op.ArithAndi p o vs t h k = binary_next bin.And o vs t h
does_next op.ArithOri p o vs t h k = binary_next bin.Or o vs t h
does_next op.ArithXori p o vs t h k = binary_next bin.Xor o vs t h
does_next op.ArithShli p o vs t h k = binary_next bin.Shl o vs t h
does_next op.ArithShrsi p o vs t h k = binary_next bin.ShrS o vs t h
does_next op.ArithShrui p o vs t h k = binary_next bin.ShrU o vs t h
does_next op.ArithMaxsi p o vs t h k = binary_next bin.MaxS o vs t h
does_next op.ArithMinsi p o vs t h k = binary_next bin.MinS o vs t h
does_next op.ArithMaxui p o vs t h k = binary_next bin.MaxU o vs t h
does_next op.ArithMinui p o vs t h k = binary_next bin.MinU o vs t h
does_next op.ArithConstant p o vs t h k = computes_next o t (Some (at_width (result_width o) (literal_bits o.attr))) h (fitted_number (slice_get o.types 0) (literal_bits o.attr))
does_next op.ArithCmpi p o vs t h k = computes_next o t (Some (compared_at (written_width o) o.attr (number vs 0) (number vs 1))) h (compared_number (written_width o) o.attr (number vs 0) (number vs 1))
does_next op.ArithSelect p o vs t h k = bound_task o.results (chosen (number vs 0) (value vs 1) (value vs 2) ∷ []) t h (chosen_value (number vs 0) (value vs 1) (value vs 2) (get vs 1 k) (get vs 2 k), tt)
does_next op.ArithExtsi p o vs t h k = computes_next o t (Some (sign_cast (written_width o) (result_width o) (number vs 0))) h (cast_number (written_width o) (slice_get o.types 0) (number vs 0))
does_next op.ArithIndexCast p o vs t h k = computes_next o t (Some (sign_cast (written_width o) (result_width o) (number vs 0))) h (cast_number (written_width o) (slice_get o.types 0) (number vs 0))
does_next op.ArithExtui p o vs t h k = computes_next o t (Some (at_width (result_width o) (number vs 0))) h (fitted_number (slice_get o.types 0) (number vs 0))
does_next op.ArithTrunci p o vs t h k = computes_next o t (Some (at_width (result_width o) (number vs 0))) h (fitted_number (slice_get o.types 0) (number vs 0))
does_next op.ArithIndexCastui p o vs t h k = computes_next o t (Some (at_width (result_width o) (number vs 0))) h (fitted_number (slice_get o.types 0) (number vs 0))
does_next op.CfAssert p o vs t h k = fails_or (nat_eq (number vs 0) 0) where
  fails_or : (b : Bool) → NextInRange (cond b (fails o.at t) (Goes t))
  fails_or true = caught_next o.at t.frames t h h.frames
  fails_or false = h
does_next op.FuncCall p o vs t h k = called_task p (Returns t.scope o.results) (callee_place p.funcs o.attr) vs t h h.env k
does_next op.AioTryCall p o vs t h k = called_task p (Tries t.scope o.results) (callee_place p.funcs o.attr) vs t h h.env k
does_next op.ScfFor p o vs t h k = cond_next (are_bounds (number vs 0) (number vs 1) (number vs 2)) (Goes (turned o (number vs 0) (number vs 1) (number vs 2) (drop 3 vs) t)) (fails o.at t) (λ e. turned_task o (number vs 0) (number vs 1) (number vs 2) (drop 3 vs) t h (number_at vs 0 k) (dropped 3 vs k)) (caught_next o.at t.frames t h h.frames)
does_next op.ScfIf p o vs t h k = entered_task (Joins o.results) _ [] t h tt tt
does_next op.ScfWhile p o vs t h k = entered_task (Tests o) _ vs t h tt k
does_next op.ScfParallel p o vs t h k = maybe_next o t _ (spans_of (numbers (group o vs 0)) (numbers (group o vs 1)) (numbers (group o vs 2))) h (λ spans e. spans_next p o t spans h)
does_next op.MemrefAlloc p o vs t h k = maybe_next o t _ (product_within most_cells (asked_sizes o vs)) h (λ n e. (small (asked_sizes o vs) (product_each most_cells 1 n (asked_sizes o vs) e), h))
does_next op.MemrefLoad p o vs t h k = maybe_next o t _ (cell_from 0 (dims_in (value vs 0)) (numbers (drop 1 vs))) h (λ n e. (tt, h))
does_next op.MemrefStore p o vs t h k = maybe_next o t _ (cell_from 0 (dims_in (value vs 1)) (numbers (drop 2 vs))) h (λ n e. (number_at vs 0 k, h))
does_next op.MemrefDim p o vs t h k = computes_next o t (slice_get (dims_in (value vs 0)) (number vs 1)) h (size_at (dims_in (value vs 0)) (number vs 1) (dims_of_value (value vs 0) (get vs 0 k)))
does_next op.AsyncExecute p o vs t h k = (child_task o vs t h, h)
does_next op.AsyncAwait p o vs t h k = maybe_next o t _ (element_in (value vs 0)) h (λ x e. (tt, h))
does_next op.AsyncCreateGroup p o vs t h k = cond_next (nat_le (number vs 0) most_elements) (Asks o.at (Creates (number vs 0)) o.results t) (fails o.at t) (λ e. (leb-true (number vs 0) most_elements e, h)) (caught_next o.at t.frames t h h.frames)
does_next op.AsyncAddToGroup p o vs t h k = maybe_next o t _ (element_in (value vs 0)) h (λ x e. (tt, h))
does_next op.AsyncAwaitAll p o vs t h k = (tt, h)
does_next kind p o vs t h k = cond_next (is_terminator kind) (gives vs t) (Goes t) (λ e. leaves_next t.frames vs t h h.frames k) h

op_next : (p : Program) (ops : List Op) (t : Task) → TaskInRange t → NextInRange (next_op p ops t)
op_next p [] t h = leaves_next t.frames [] t h h.frames tt
op_next p (o ∷ rest) t h = does_next (out-Op o).kind p (out-Op o) (values_at t.scope.env (out-Op o).operands) _ (record { frames = h.frames; env = h.env }) (values_in t.scope.env (out-Op o).operands h.env)

pending_next : (p : Program) (ps : List Pending) (t : Task) → TaskInRange t → NextInRange (next_pending p ps t)
pending_next p [] t h = op_next p t.rest t h
pending_next p (Awaits at x xs ∷ more) t h = (tt, record { frames = h.frames; env = h.env })
pending_next p (Joining at loop ∷ more) t h = (tt, record { frames = h.frames; env = h.env })
pending_next p (Failing at ∷ more) t h = caught_next at t.frames _ (record { frames = h.frames; env = h.env }) h.frames

pub next_in_range : (p : Program) (t : Task) → TaskInRange t → NextInRange (next p t)
next_in_range p t h = pending_next p t.pending t h

pub resumed_task : (at : ℕ) (xs : List ValueNo) (t : Task) (r : Answer) → TaskInRange t → IfSome r AreInRange → TaskInRange (resumed at xs t r)
resumed_task at xs t None h k = record { frames = h.frames; env = h.env }
resumed_task at xs t (Some vs) h k = bound_task xs vs t h k
