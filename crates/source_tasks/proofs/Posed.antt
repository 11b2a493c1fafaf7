-- What the operations ask, out of what the code finds.
use Rattle.std.proofs.Common.{◌≡◌, ℕ, ◌*◌, ◌≤◌, Bool, cond, List, [], ◌∷◌, drop, Option, Some, None, slice_get, refl, ap, sym, subst, ◌∙◌, arith}
use Rattle.std.specs.Prelude.{nat_le}
use Rattle.std.proofs.lemmas.Bool.{le-leb}
use Rattle.ir_forms.specs.declared.names.ElementName.{ElementName}
use Rattle.ir_forms.specs.declared.names.MadeName.{MadeName}
use Rattle.ir_forms.specs.declared.ops.ValueNo.{ValueNo}
use Rattle.ir_forms.specs.declared.types.Dim.{Dim}
use Rattle.ir_forms.specs.Shapes.{product, most_cells}
use Rattle.source_meaning.specs.declared.values.Val.{Val}
use Rattle.source_meaning.specs.Values.{values_at, buffer_in, dims_in, element_in, group_in}
use Rattle.source_meaning.specs.Parts.{Node, dims_of}
use Rattle.source_meaning.specs.Rows.{cell_from, sizes, product_within, most_elements, turns_of}
use Rattle.source_meaning.specs.Tasks.{Program, Span, Loop, Pending, Joining, Task, Reads, Writes, Allocs, Creates, Adds, Launches, Enters, JoinsAll, AwaitsOne, AwaitsAll, Asks}
use Rattle.source_meaning.specs.Flow.{fails}
use Rattle.source_meaning.specs.Steps.{operands, value, number, numbers, or_fails, loads, stores, asked_sizes, allocates, is_used, adds, loop_of, enters_spans, enters_loop, next_pending, next}
use Rattle.source_tasks.specs.declared.step.Asked.TheVariants as asked
use Rattle.source_tasks.specs.declared.step.Step.{Step}
use Rattle.source_tasks.specs.declared.step.Step.TheVariants as step
use Rattle.source_tasks.specs.Numbers.{capped}
use Rattle.source_tasks.specs.Asking.{IsPosed, IsStep}
use Rattle.source_tasks.proofs.Puts.{values_drop}
use Rattle.source_tasks.proofs.Spans.{product_is}

-- the cell of indices that are operands
cell_same : (t : Task) (o : Node) (n : ℕ) (dims of_buffer : List ℕ) (names : List ValueNo) → dims ≡ of_buffer → names ≡ drop n o.operands →
    cell_from 0 dims (numbers (values_at t.scope.env names)) ≡ cell_from 0 of_buffer (numbers (drop n (operands t o)))
cell_same t o n dims of_buffer names e f =
    ap (λ (ds : List ℕ). cell_from 0 ds (numbers (values_at t.scope.env names))) e
    ∙ ap (λ (vs : List Val). cell_from 0 of_buffer (numbers vs)) (ap (λ (xs : List ValueNo). values_at t.scope.env xs) f ∙ sym (values_drop t.scope.env n o.operands))

-- the cell that was found is read
pub posed_read : (o : Node) (t : Task) (b : MadeName) (c : ℕ) (dims : List ℕ) (names : List ValueNo) →
    b ≡ buffer_in (value (operands t o) 0) → dims ≡ dims_in (value (operands t o) 0) → names ≡ drop 1 o.operands →
    ((i : ℕ) × (cell_from 0 dims (numbers (values_at t.scope.env names)) ≡ Some i) × (c ≡ capped i)) →
    IsPosed (Some (asked.Reads b c)) o.results o t (loads o (operands t o) t)
posed_read o t b c dims names same of_buffer indices h =
    let found : cell_from 0 (dims_in (value (operands t o) 0)) (numbers (drop 1 (operands t o))) ≡ Some h.0 = sym (cell_same t o 1 dims (dims_in (value (operands t o) 0)) names of_buffer indices) ∙ h.1 in (
      Reads b h.0,
      (λ before. (h.0, refl, h.2)),
      ap (λ (f : Option ℕ). or_fails o t (λ i. Asks o.at (Reads (buffer_in (value (operands t o) 0)) i) o.results t) f) found
          ∙ ap (λ (x : MadeName). Asks o.at (Reads x h.0) o.results t) (sym same),
    )

-- or written
pub posed_write : (o : Node) (t : Task) (b : MadeName) (c n : ℕ) (dims : List ℕ) (names : List ValueNo) →
    b ≡ buffer_in (value (operands t o) 1) → n ≡ number (operands t o) 0 → dims ≡ dims_in (value (operands t o) 1) → names ≡ drop 2 o.operands →
    ((i : ℕ) × (cell_from 0 dims (numbers (values_at t.scope.env names)) ≡ Some i) × (c ≡ capped i)) →
    IsPosed (Some (asked.Writes b c n)) [] o t (stores o (operands t o) t)
posed_write o t b c n dims names same is of_buffer indices h =
    let found : cell_from 0 (dims_in (value (operands t o) 1)) (numbers (drop 2 (operands t o))) ≡ Some h.0 = sym (cell_same t o 2 dims (dims_in (value (operands t o) 1)) names of_buffer indices) ∙ h.1 in (
      Writes b h.0 n,
      (λ before. (h.0, refl, h.2)),
      ap (λ (f : Option ℕ). or_fails o t (λ i. Asks o.at (Writes (buffer_in (value (operands t o) 1)) i (number (operands t o) 0)) [] t) f) found
          ∙ ap (λ (x : MadeName). Asks o.at (Writes x h.0 (number (operands t o) 0)) [] t) (sym same) ∙ ap (λ (k : ℕ). Asks o.at (Writes b h.0 k) [] t) (sym is),
    )

-- a buffer of these sizes is made
pub posed_alloc : (o : Node) (t : Task) (form : List Dim) (given all dims : List ℕ) (cells : ℕ) →
    form ≡ dims_of (slice_get o.types 0) → given ≡ numbers (operands t o) → all ≡ sizes form given → dims ≡ all → product_within most_cells all ≡ Some cells →
    IsPosed (Some (asked.Allocs dims cells)) o.results o t (allocates o (operands t o) t)
posed_alloc o t form given all dims cells of_type of_operands sized same fits =
    let is : (cells ≡ 1 * product all) × (cells ≤ most_cells) = product_is most_cells 1 cells all (omega arith) fits in
    let one : 1 * product all ≡ product all = omega arith in
    let asks : all ≡ asked_sizes o (operands t o) = sized ∙ ap (λ (ds : List Dim). sizes ds given) of_type ∙ ap (λ (ns : List ℕ). sizes (dims_of (slice_get o.types 0)) ns) of_operands in (
      Allocs dims,
      (λ before. (refl, is.0 ∙ one ∙ ap product (sym same), is.1)),
      ap (λ (ds : List ℕ). or_fails o t (λ n. Asks o.at (Allocs ds) o.results t) (product_within most_cells ds)) (sym asks)
          ∙ ap (λ (f : Option ℕ). or_fails o t (λ n. Asks o.at (Allocs all) o.results t) f) fits ∙ ap (λ (ds : List ℕ). Asks o.at (Allocs ds) o.results t) (sym same),
    )

-- the loop of these dimensions is entered
pub posed_enter : (p : Program) (o : Node) (t u : Task) (spans : List Span) (total : ℕ) (split : Bool) (loop : Loop) (found : Option (List Span)) →
    Some spans ≡ found → Some total ≡ product_within most_elements (turns_of spans) → loop ≡ loop_of p o t spans total →
    split ≡ loop.split → u ≡ record t { pending = Joining o.at loop ∷ [] } →
    IsPosed (Some (asked.Enters total split)) [] o u (or_fails o t (enters_spans p o t) found)
posed_enter p o t u spans total split loop found is fits made s new = (
  Enters loop,
  (λ before. (loop, refl, ap (λ (l : Loop). l.total) made, sym s)),
  ap (λ (f : Option (List Span)). or_fails o t (enters_spans p o t) f) (sym is)
      ∙ ap (λ (n : Option ℕ). or_fails o t (λ k. enters_loop o t (loop_of p o t spans k)) n) (sym fits)
      ∙ ap (λ (l : Loop). Asks o.at (Enters l) [] (record t { pending = Joining o.at l ∷ [] })) (sym made)
      ∙ ap (λ (v : Task). Asks o.at (Enters loop) [] v) (sym new),
)

-- its bounds or steps are out of range
pub posed_none : (p : Program) (o : Node) (t : Task) (found : Option (List Span)) → None ≡ found → or_fails o t (enters_spans p o t) found ≡ fails o.at t
posed_none p o t found is = ap (λ (f : Option (List Span)). or_fails o t (enters_spans p o t) f) (sym is)

-- it has too many iterations
pub posed_many : (p : Program) (o : Node) (t : Task) (spans : List Span) (found : Option (List Span)) →
    Some spans ≡ found → None ≡ product_within most_elements (turns_of spans) → or_fails o t (enters_spans p o t) found ≡ fails o.at t
posed_many p o t spans found is fits =
    ap (λ (f : Option (List Span)). or_fails o t (enters_spans p o t) f) (sym is) ∙ ap (λ (n : Option ℕ). or_fails o t (λ k. enters_loop o t (loop_of p o t spans k)) n) (sym fits)

-- an element joins a group
pub posed_add : (p : Program) (o : Node) (t : Task) (g : MadeName) (x : ElementName) (used : Bool) →
    Some x ≡ element_in (value (operands t o) 0) → g ≡ group_in (value (operands t o) 1) → used ≡ is_used p t.scope.func (slice_get o.results 0) →
    IsPosed (Some (asked.Adds g x used)) o.results o t (adds p o (operands t o) t)
posed_add p o t g x used is same uses = (
  Adds g x used,
  (λ before. refl),
  ap (λ (f : Option ElementName). or_fails o t (λ y. Asks o.at (Adds (group_in (value (operands t o) 1)) y (is_used p t.scope.func (slice_get o.results 0))) o.results t) f) (sym is)
      ∙ ap (λ (n : MadeName). Asks o.at (Adds n x (is_used p t.scope.func (slice_get o.results 0))) o.results t) (sym same) ∙ ap (λ (b : Bool). Asks o.at (Adds g x b) o.results t) (sym uses),
)

-- an element is awaited
pub posed_await : (o : Node) (t : Task) (x : ElementName) (found : Option ElementName) → found ≡ Some x →
    IsPosed (Some (asked.AwaitsOne x)) o.results o t (or_fails o t (λ y. Asks o.at (AwaitsOne y) o.results t) found)
posed_await o t x found is = (AwaitsOne x, (λ before. refl), ap (λ (f : Option ElementName). or_fails o t (λ y. Asks o.at (AwaitsOne y) o.results t) f) is)

-- all elements of a group are
pub posed_all : (o : Node) (t : Task) (g h : MadeName) → g ≡ h → IsPosed (Some (asked.AwaitsAll g)) [] o t (Asks o.at (AwaitsAll h) [] t)
posed_all o t g h same = (AwaitsAll g, (λ before. refl), ap (λ (n : MadeName). Asks o.at (AwaitsAll n) [] t) (sym same))

-- a group is made
pub posed_create : (o : Node) (t : Task) (n m : ℕ) → n ≡ m → n ≤ most_elements →
    IsPosed (Some (asked.Creates n)) o.results o t (cond (nat_le m most_elements) (Asks o.at (Creates m) o.results t) (fails o.at t))
posed_create o t n m same fits = (
  Creates n,
  (λ before. refl),
  ap (λ (k : ℕ). cond (nat_le k most_elements) (Asks o.at (Creates k) o.results t) (fails o.at t)) (sym same)
      ∙ ap (λ b. cond b (Asks o.at (Creates n) o.results t) (fails o.at t)) (le-leb n most_elements fits),
)

-- a task is launched
pub posed_launch : (o : Node) (t child made : Task) (n m : ℕ) → child ≡ made → n ≡ m →
    IsPosed (Some (asked.Launches child n)) o.results o t (Asks o.at (Launches made m) o.results t)
posed_launch o t child made n m same is =
    (Launches child n, (λ before. refl), ap (λ (u : Task). Asks o.at (Launches u m) o.results t) (sym same) ∙ ap (λ (k : ℕ). Asks o.at (Launches child k) o.results t) (sym is))

-- the end of a loop comes
pub step_join : (p : Program) (at total : ℕ) (loop : Loop) (w : Pending) (t : Task) → w ≡ Joining at loop → loop.total ≡ total →
    IsStep (step.Asks at (asked.JoinsAll total) []) (record t { pending = w ∷ t.pending }) t (next_pending p (w ∷ t.pending) (record t { pending = w ∷ t.pending }))
step_join p at total loop w t is n =
    subst (λ (v : Pending). IsStep (step.Asks at (asked.JoinsAll total) []) (record t { pending = v ∷ t.pending }) t (next_pending p (v ∷ t.pending) (record t { pending = v ∷ t.pending }))) (sym is)
    (JoinsAll loop, (loop, refl, refl, n), refl)

-- what was pending is taken off
pub step_pending : (s : Step) (p : Program) (old mid now : Task) (w : Pending) → old ≡ record mid { pending = w ∷ mid.pending } →
    IsStep s (record mid { pending = w ∷ mid.pending }) now (next_pending p (w ∷ mid.pending) (record mid { pending = w ∷ mid.pending })) → IsStep s old now (next p old)
step_pending s p old mid now w is h = subst (λ (t : Task). IsStep s t now (next p t)) (sym is) h
