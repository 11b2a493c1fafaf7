-- The operations of a region, whose terminator may be left out in the text.
use Rattle.std.proofs.Common.{◌≡◌, ◌<◌, inr, ℕ, zero, suc, ◌+◌, ◌-◌, Bool, true, false, cond, ◌&&◌, ◌==◌, List, [], ◌∷◌, ◌++◌, length, map, slice_get, Option, Some, None, refl, sym, ap, ◌∙◌, subst, arith, eqb-true}
use Rattle.std.specs.Prelude.{⊤}
use Rattle.op_table.specs.declared.kind.OpKind.{OpKind}
use Rattle.op_table.specs.declared.kind.OpKind.TheVariants as op
use Rattle.op_table.specs.declared.rows.Level.{Level}
use Rattle.op_table.specs.declared.rows.Level.TheVariants.{Source, Checked, Split, Low}
use Rattle.op_table.specs.Rows.{stands_at}
use Rattle.ir_forms.specs.declared.ops.Op.{Op, out-Op, roll-Op, out-roll-Op}
use Rattle.ir_forms.specs.declared.ops.Region.{Region}
use Rattle.ir_forms.specs.declared.ops.Attr.TheVariants as attr
use Rattle.ir_forms.specs.declared.types.Ty.{Ty}
use Rattle.ir_forms.specs.Ops.{kind_of}
use Rattle.module_grammar.specs.State.{made, is_yield, is_ending, is_ending_op, ends_in, terminator_of, unless_ended, left_out, as_reduce, last_as_reduce, body_ops, with_made, as_number, up}
use Rattle.module_grammar.proofs.Runs.{by_test}
use Rattle.mlir_print.specs.Printable.{Has, HasForm, HaveTypes, IsYield, IsEnded, ends_with, Scope, numbers, NumberOn, param_types}
use Rattle.module_grammar.proofs.Ends.{and-left, and-right}
use Rattle.read_forms.proofs.Scopes.{AreSeenOrNot}
use Rattle.read_forms.proofs.Shows.{Node, Piece, Shows, has, shows-both}

-- ---- terminators that are made

abbrev pub made_node : OpKind → ℕ → Node
made_node k at = record { kind = k; at = at; operands = []; groups = []; written = []; results = []; types = []; attr = attr.None; regions = [] }

abbrev pub nothing_defined : Scope → Scope
nothing_defined s = record { next = s.next + 0; seen = s.seen ++ [] }

one-made : (level : Level) (k : OpKind) (at : ℕ) (s : Scope) → stands_at k level ≡ true → HasForm k (roll-Op (made_node k at)) → at < 4294967296
    → Shows level (Piece.Ops (made k at ∷ [])) s (nothing_defined s)
one-made level k at s st f h =
    Shows.one_op (made_node k at) [] s (record { next = s.next + 0; seen = s.seen }) (nothing_defined s) st f h tt tt (Shows.no_regions k [] 0 _) (Shows.no_ops _)

yield-stands : (level : Level) → stands_at op.ScfYield level ≡ true
yield-stands Source = refl
yield-stands Checked = refl
yield-stands Split = refl
yield-stands Low = refl

async-yield-stands : (level : Level) → stands_at op.AsyncYield level ≡ true
async-yield-stands Source = refl
async-yield-stands Checked = refl
async-yield-stands Split = refl
async-yield-stands Low = refl

reduce-stands : (level : Level) → stands_at op.ScfReduce level ≡ true
reduce-stands Source = refl
reduce-stands Checked = refl
reduce-stands Split = refl
reduce-stands Low = refl

bare : (k : OpKind) (at : ℕ) → Has (roll-Op (made_node k at)) 0 attr.None [] [] [] []
bare k at = has (made_node k at) 0 attr.None [] [] [] [] (refl, refl, refl, refl, refl, refl)

yields-none : (k : OpKind) (at : ℕ) → IsYield 0 (roll-Op (made_node k at))
yields-none k at = (0, [], tt, tt, bare k at)

-- a terminator of this kind, where one is made, is shown
abbrev MadeShows : Level → Option OpKind → Type 0
MadeShows level None = ⊤
MadeShows level (Some k) = (at : ℕ) → at < 4294967296 → (s : Scope) → Shows level (Piece.Ops (made k at ∷ [])) s (nothing_defined s)

either-made : (level : Level) (b : Bool) (x y : Option OpKind) → MadeShows level x → MadeShows level y → MadeShows level (cond b x y)
either-made level true x y h i = h
either-made level false x y h i = i

yield-made : (level : Level) → MadeShows level (Some op.ScfYield)
yield-made level at h s = one-made level op.ScfYield at s (yield-stands level) (yields-none op.ScfYield at) h

async-yield-made : (level : Level) → MadeShows level (Some op.AsyncYield)
async-yield-made level at h s = one-made level op.AsyncYield at s (async-yield-stands level) (yields-none op.AsyncYield at) h

reduce-made : (level : Level) → MadeShows level (Some op.ScfReduce)
reduce-made level at h s = one-made level op.ScfReduce at s (reduce-stands level) (bare op.ScfReduce at) h

terminator-made : (level : Level) (k : OpKind) (n : ℕ) → MadeShows level (terminator_of k n)
terminator-made level op.ScfFor n = either-made level (n == 0) (Some op.ScfYield) None (yield-made level) tt
terminator-made level op.ScfIf n = either-made level (n == 0) (Some op.ScfYield) None (yield-made level) tt
terminator-made level op.AsyncExecute n = either-made level (n == 1) (Some op.AsyncYield) None (async-yield-made level) tt
terminator-made level op.ScfParallel n = reduce-made level
terminator-made level _ n = tt

unless-made : (level : Level) (o : Option OpKind) (ops : List Op) → MadeShows level o → MadeShows level (unless_ended o ops)
unless-made level None ops h = tt
unless-made level (Some k) ops h = either-made level (ends_in k ops) None (Some k) tt h

-- these operations are shown, and end where the next value has this number
abbrev pub ShowsTo : Level → List Op → Scope → ℕ → Type 0
ShowsTo level ops s n = (e : Scope) × Shows level (Piece.Ops ops) s e × (e.next ≡ n)

made-shows : (level : Level) (o : Option OpKind) (ops : List Op) (begun : ℕ) (s : Scope) (n : ℕ) → MadeShows level o → ShowsTo level ops s n
    → ShowsTo level (with_made ops o begun) s n
made-shows level None ops begun s n m h = h
made-shows level (Some k) ops begun s n m h =
    (nothing_defined h.0, shows-both level ops (made k (as_number (up begun 1)) ∷ []) s h.0 _ h.1 (m (as_number (up begun 1)) (omega arith) h.0), omega (arith, h.2))

-- ---- a yield in a parallel body

abbrev Nothing : Level → Piece → Scope → Scope → Type 0
Nothing level (Piece.Ops []) a b = a ≡ b
Nothing level (Piece.Ops (o ∷ os)) a b = ⊤
Nothing level (Piece.Regions k ts i []) a b = a ≡ b
Nothing level (Piece.Regions k ts i (r ∷ rs)) a b = ⊤

nothing : (level : Level) (p : Piece) (a b : Scope) → Shows level p a b → Nothing level p a b
nothing level _ _ _ (Shows.no_ops s) = refl
nothing level _ _ _ (Shows.one_op x os s inner end st f n r u regions more) = tt
nothing level _ _ _ (Shows.no_regions k ts i s) = refl
nothing level _ _ _ (Shows.region k ts i y rs s inner end n e ops more) = tt

is-yield : (k : OpKind) → is_yield k ≡ true → k ≡ op.ScfYield
is-yield op.ScfYield e = refl
is-yield _ e = absurd cc

no-length : {A : Type 0} (xs : List A) → length xs ≡ 0 → xs ≡ []
no-length [] e = refl
no-length (x ∷ xs) e = absurd (omega (arith, e))

no-map : {A B : Type 0} (f : A → B) (xs : List A) → map f xs ≡ [] → xs ≡ []
no-map f [] e = refl
no-map f (x ∷ xs) e = absurd cc

-- the same operation as a reduce
abbrev reduced : Node → Node
reduced x = record x { kind = op.ScfReduce }

reduce-is : (x : Node) → as_reduce (roll-Op x) ≡ cond (is_yield x.kind && length x.operands == 0) (roll-Op (reduced x)) (roll-Op x)
reduce-is x = ap (λ (y : Node). cond (is_yield y.kind && length y.operands == 0) (roll-Op (reduced y)) (roll-Op x)) (out-roll-Op x)

no-types : (n : ℕ) (ts : List Ty) → n ≡ 0 → HaveTypes n ts → ts ≡ []
no-types zero [] e h = refl
no-types zero (t ∷ ts) e h = absurd h
no-types (suc n) ts e h = absurd (omega (arith, e))

-- what a yield of nothing has, a reduce may have
reduced-form : (x : Node) → IsYield 0 (roll-Op x) → length x.operands ≡ 0 → HasForm op.ScfReduce (roll-Op (reduced x))
reduced-form x (n, ts, written, typed, h) none =
    let same : out-Op (roll-Op x) ≡ x = out-roll-Op x in
    let count : length x.operands ≡ 0 + n = ap (λ (y : Node). length y.operands) (sym same) ∙ h.operand_count in
    let empty : ts ≡ [] = no-types n ts (omega (arith, count, none)) typed in
    has (reduced x) 0 attr.None [] [] [] [] (
      none,
      ap (λ (y : Node). y.attr) (sym same) ∙ h.attr_is,
      ap (λ (y : Node). y.groups) (sym same) ∙ h.groups_are,
      ap (λ (y : Node). y.written) (sym same) ∙ h.written_are ∙ empty,
      ap (λ (y : Node). y.types) (sym same) ∙ h.types_are,
      ap (λ (y : Node). map param_types y.regions) (sym same) ∙ h.params_are,
    )

yield-regions : (x : Node) → x.kind ≡ op.ScfYield → HasForm x.kind (roll-Op x) → x.regions ≡ []
yield-regions x e f =
    let h : IsYield 0 (roll-Op x) = subst (λ (k : OpKind). HasForm k (roll-Op x)) e f in
    no-map param_types x.regions (ap (λ (y : Node). map param_types y.regions) (sym (out-roll-Op x)) ∙ h.4.params_are)

no-more : (level : Level) (k : OpKind) (ts : List Ty) (rs : List Region) (a b : Scope) → rs ≡ [] → Shows level (Piece.Regions k ts 0 rs) a b → a ≡ b
no-more level k ts rs a b e h = nothing level (Piece.Regions k ts 0 []) a b (subst (λ (l : List Region). Shows level (Piece.Regions k ts 0 l) a b) e h)

-- what the last operation may become
one-reduced : (level : Level) (x : Node) (s inner end : Scope) → stands_at x.kind level ≡ true → HasForm x.kind (roll-Op x)
    → x.at < 4294967296 → NumberOn s.next x.results → AreSeenOrNot s.seen x.operands
    → Shows level (Piece.Regions x.kind x.types 0 x.regions) (record { next = s.next + length x.results; seen = s.seen }) inner
    → Shows level (Piece.Ops []) (record { next = inner.next; seen = s.seen ++ numbers x.results }) end
    → ShowsTo level (as_reduce (roll-Op x) ∷ []) s end.next
one-reduced level x s inner end st f n r u regions more =
    rw (reduce-is x) (by_test (is_yield x.kind && length x.operands == 0)
    (λ y. rw y (end, as-reduce y, refl))
    (λ z. rw z (end, Shows.one_op x [] s inner end st f n r u regions more, refl)))
  where
    as-reduce : is_yield x.kind && length x.operands == 0 ≡ true → Shows level (Piece.Ops (roll-Op (reduced x) ∷ [])) s end
    as-reduce y =
        let is : x.kind ≡ op.ScfYield = is-yield x.kind (and-left (is_yield x.kind) (length x.operands == 0) y) in
        let none : length x.operands ≡ 0 = eqb-true (length x.operands) 0 (and-right (is_yield x.kind) (length x.operands == 0) y) in
        let form : HasForm op.ScfReduce (roll-Op (reduced x)) = reduced-form x (subst (λ (k : OpKind). HasForm k (roll-Op x)) is f) none in
        let empty : x.regions ≡ [] = yield-regions x is f in
        let same : record { next = s.next + length x.results; seen = s.seen } ≡ inner = no-more level x.kind x.types x.regions _ inner empty regions in
        let inside : Shows level (Piece.Regions op.ScfReduce x.types 0 x.regions) (record { next = s.next + length x.results; seen = s.seen }) inner =
        subst (λ (l : List Region). Shows level (Piece.Regions op.ScfReduce x.types 0 l) (record { next = s.next + length x.results; seen = s.seen }) inner) (sym empty)
        (subst (λ (c : Scope). Shows level (Piece.Regions op.ScfReduce x.types 0 []) (record { next = s.next + length x.results; seen = s.seen }) c) same (Shows.no_regions op.ScfReduce x.types 0 _)) in
        Shows.one_op (reduced x) [] s inner end (reduce-stands level) form n r u inside more

abbrev Reduces : Level → Piece → Scope → Scope → Type 0
Reduces level (Piece.Ops ops) a b = ShowsTo level (last_as_reduce ops) a b.next
Reduces level (Piece.Regions k ts i rs) a b = ⊤

reduces : (level : Level) (p : Piece) (a b : Scope) → Shows level p a b → Reduces level p a b
reduces level _ _ _ (Shows.no_ops s) = (s, Shows.no_ops s, refl)
reduces level _ _ _ (Shows.one_op x [] s inner end st f n r u regions more) = one-reduced level x s inner end st f n r u regions more
reduces level _ _ _ (Shows.one_op x (o ∷ os) s inner end st f n r u regions more) =
    let h : ShowsTo level (last_as_reduce (o ∷ os)) (record { next = inner.next; seen = s.seen ++ numbers x.results }) end.next = reduces level _ _ _ more in
    (h.0, Shows.one_op x (last_as_reduce (o ∷ os)) s inner h.0 st f n r u regions h.1, h.2)
reduces level _ _ _ (Shows.no_regions k ts i s) = tt
reduces level _ _ _ (Shows.region k ts i y rs s inner end n e ops more) = tt

body-shows : (level : Level) (k : OpKind) (ops : List Op) (a b : Scope) → Shows level (Piece.Ops ops) a b → ShowsTo level (body_ops k ops) a b.next
body-shows level op.ScfParallel ops a b h = reduces level (Piece.Ops ops) a b h
body-shows level _ ops a b h = (b, h, refl)

-- ---- how a region ends

ending-is : (a b : OpKind) → is_ending a b ≡ true → b ≡ a
ending-is op.ScfYield op.ScfYield e = refl
ending-is op.AsyncYield op.AsyncYield e = refl
ending-is op.ScfReduce op.ScfReduce e = refl
ending-is _ _ e = absurd cc

ends-in-with : (k : OpKind) (ops : List Op) → ends_in k ops ≡ true → ends_with k ops
ends-in-with k [] e = absurd cc
ends-in-with k (o ∷ []) e = ending-is k (kind_of o) e
ends-in-with k (o ∷ p ∷ ops) e =
    ends-in-with k (p ∷ ops) (sym (ap (λ (n : ℕ). is_ending_op k (slice_get (o ∷ p ∷ ops) n)) (later (length ops))) ∙ e)
  where
    later : (n : ℕ) → suc (suc n) - 1 ≡ suc (suc n - 1)
    later n = omega arith

ends-pushed : (k : OpKind) (ops : List Op) (o : Op) → kind_of o ≡ k → ends_with k (ops ++ o ∷ [])
ends-pushed k [] o e = e
ends-pushed k (p ∷ []) o e = e
ends-pushed k (p ∷ q ∷ ops) o e = ends-pushed k (q ∷ ops) o e

made-ends : (k : OpKind) (ops : List Op) (begun : ℕ) (b : Bool) → ends_in k ops ≡ b → ends_with k (with_made ops (cond b None (Some k)) begun)
made-ends k ops begun true e = ends-in-with k ops e
made-ends k ops begun false e = ends-pushed k ops _ (ap (λ (x : Node). x.kind) (out-roll-Op (made_node k (as_number (up begun 1)))))

all-ended : (k : OpKind) (ts : List Ty) (ops : List Op) (begun i : ℕ) → IsEnded k i ts (with_made ops (left_out k ts ops) begun)
all-ended op.ScfFor [] ops begun i = made-ends op.ScfYield ops begun (ends_in op.ScfYield ops) refl
all-ended op.ScfIf [] ops begun zero = made-ends op.ScfYield ops begun (ends_in op.ScfYield ops) refl
all-ended op.ScfIf [] ops begun (suc i) = inr (made-ends op.ScfYield ops begun (ends_in op.ScfYield ops) refl)
all-ended op.ScfIf (t ∷ ts) ops begun zero = tt
all-ended op.ScfIf (t ∷ ts) ops begun (suc i) = tt
all-ended op.AsyncExecute (t ∷ []) ops begun i = made-ends op.AsyncYield ops begun (ends_in op.AsyncYield ops) refl
all-ended op.ScfParallel ts ops begun i = made-ends op.ScfReduce ops begun (ends_in op.ScfReduce ops) refl
all-ended _ ts ops begun i = tt

-- what a region has at its end
pub region-ends : (level : Level) (k : OpKind) (ts : List Ty) (ops : List Op) (begun : ℕ) (a b : Scope) → Shows level (Piece.Ops ops) a b
    → ShowsTo level (with_made (body_ops k ops) (left_out k ts (body_ops k ops)) begun) a b.next
region-ends level k ts ops begun a b h =
    made-shows level (left_out k ts (body_ops k ops)) (body_ops k ops) begun a b.next
    (unless-made level (terminator_of k (length ts)) (body_ops k ops) (terminator-made level k (length ts))) (body-shows level k ops a b h)

pub region-ended : (k : OpKind) (ts : List Ty) (ops : List Op) (begun i : ℕ) → IsEnded k i ts (with_made (body_ops k ops) (left_out k ts (body_ops k ops)) begun)
region-ended k ts ops begun i = all-ended k ts (body_ops k ops) begun i
