-- The form of each kind of operation.
use Rattle.std.proofs.Common.{◌≡◌, Bool, true, false, ◌&&◌, ◌||◌, ℕ, List, [], ◌∷◌, ◌++◌, not, codes, refl, ap, sym, subst, ◌∙◌}
use Rattle.op_table.specs.declared.kind.OpKind.{OpKind}
use Rattle.op_table.specs.declared.kind.OpKind.TheVariants as op
use Rattle.op_table.specs.declared.rows.Level.{Level}
use Rattle.op_table.specs.declared.rows.Level.TheVariants.{Source, Checked, Split, Low}
use Rattle.op_table.specs.declared.form.Form.{Form}
use Rattle.op_table.specs.declared.form.Form.TheVariants as shape
use Rattle.op_table.specs.Rows.{row_of, is_other, stands_at, name_of}
use Rattle.mlir_print.specs.Printable.{HasParts}
use Rattle.module_grammar.specs.declared.symbols.Class.TheVariants as class
use Rattle.module_grammar.specs.declared.symbols.Act.TheVariants as act
use Rattle.module_grammar.specs.declared.symbols.Symbol.{Symbol}
use Rattle.module_grammar.specs.declared.state.TextToken.{TextToken}
use Rattle.module_grammar.specs.declared.state.State.{State}
use Rattle.module_grammar.specs.State.{with_else}
use Rattle.module_grammar.specs.Rules.{parts, form, kinds_at, forms_then, doing}
use Rattle.read_forms.proofs.Triples.{Owes, EachOwes}
use Rattle.module_grammar.proofs.Ends.{and-left, and-right}
use Rattle.read_forms.proofs.Outcomes.{triples}
use Rattle.read_forms.proofs.OneOp.{IsKind}
use Rattle.read_forms.proofs.Arithmetic.{FormOwes, binary-owes, select-owes, compare-owes, cast-owes, constant-owes}
use Rattle.read_forms.proofs.Plain.{add-owes, await-owes, await-all-owes, create-owes, assert-owes, call-owes, try-call-owes, yield-owes, condition-owes, reduce-owes, alloc-owes, dealloc-owes, dim-owes, load-owes, store-owes}
use Rattle.read_forms.proofs.Structured.{if-owes, for-owes, parallel-owes, execute-owes, while-owes}

-- a kind whose form texts may hold
abbrev pub has_form : OpKind → Bool
has_form k = not (is_other (row_of k).form)

plain : (level : Level) (k : OpKind) → stands_at k level ≡ true → with_else k [] ≡ [] → IsKind level k
plain level k s e = record { stands = s; no_else = e }

-- forms of which a new operation is one line of the table
abbrev is_simple : Form → Bool
is_simple shape.Binary = true
is_simple shape.Select = true
is_simple shape.Extend = true
is_simple shape.Truncate = true
is_simple shape.IndexCast = true
is_simple _ = false

simple-owes : (level : Level) (k : OpKind) (f : Form) → (row_of k).form ≡ f → (is_simple f || is_other f) ≡ true → not (is_other f) ≡ true → IsKind level k → FormOwes level k (parts f)
simple-owes level k shape.Binary is simple e h = binary-owes level k h (λ o p. subst (λ (f : Form). HasParts f o) (sym is) p)
simple-owes level k shape.Select is simple e h = select-owes level k h (λ o p. subst (λ (f : Form). HasParts f o) (sym is) p)
simple-owes level k shape.Extend is simple e h = cast-owes level k h (λ o p. subst (λ (f : Form). HasParts f o) (sym is) p)
simple-owes level k shape.Truncate is simple e h = cast-owes level k h (λ o p. subst (λ (f : Form). HasParts f o) (sym is) p)
simple-owes level k shape.IndexCast is simple e h = cast-owes level k h (λ o p. subst (λ (f : Form). HasParts f o) (sym is) p)
simple-owes level k shape.Other is simple e h = absurd cc
simple-owes level k _ is simple e h = absurd cc

pub form-owes : (level : Level) (k : OpKind) → has_form k ≡ true → stands_at k level ≡ true → FormOwes level k (form k)
form-owes level op.AioTryCall e s = try-call-owes level (plain level op.AioTryCall s refl)
form-owes level op.ArithCmpi e s = compare-owes level (plain level op.ArithCmpi s refl)
form-owes level op.ArithConstant e s = constant-owes level (plain level op.ArithConstant s refl)
form-owes level op.AsyncAddToGroup e s = add-owes level (plain level op.AsyncAddToGroup s refl)
form-owes level op.AsyncAwait e s = await-owes level (plain level op.AsyncAwait s refl)
form-owes level op.AsyncAwaitAll e s = await-all-owes level (plain level op.AsyncAwaitAll s refl)
form-owes level op.AsyncCreateGroup e s = create-owes level (plain level op.AsyncCreateGroup s refl)
form-owes level op.AsyncExecute e s = execute-owes level (plain level op.AsyncExecute s refl)
form-owes level op.AsyncYield e s = yield-owes level op.AsyncYield (plain level op.AsyncYield s refl) (λ o f. f)
form-owes level op.CfAssert e s = assert-owes level (plain level op.CfAssert s refl)
form-owes level op.FuncCall e s = call-owes level (plain level op.FuncCall s refl)
form-owes level op.FuncReturn e s = yield-owes level op.FuncReturn (plain level op.FuncReturn s refl) (λ o f. f)
form-owes level op.MemrefAlloc e s = alloc-owes level (plain level op.MemrefAlloc s refl)
form-owes level op.MemrefDealloc e s = dealloc-owes level (plain level op.MemrefDealloc s refl)
form-owes level op.MemrefDim e s = dim-owes level (plain level op.MemrefDim s refl)
form-owes level op.MemrefLoad e s = load-owes level (plain level op.MemrefLoad s refl)
form-owes level op.MemrefStore e s = store-owes level (plain level op.MemrefStore s refl)
form-owes level op.ScfCondition e s = condition-owes level (plain level op.ScfCondition s refl)
form-owes level op.ScfFor e s = for-owes level (plain level op.ScfFor s refl)
form-owes level op.ScfIf e s = if-owes level (plain level op.ScfIf s refl)
form-owes level op.ScfParallel e s = parallel-owes level (plain level op.ScfParallel s refl)
form-owes level op.ScfReduce e s = reduce-owes level (plain level op.ScfReduce s refl)
form-owes level op.ScfWhile e s = while-owes level (plain level op.ScfWhile s refl)
form-owes level op.ScfYield e s = yield-owes level op.ScfYield (plain level op.ScfYield s refl) (λ o f. f)
form-owes level k e s = simple-owes level k (row_of k).form refl refl e (plain level k s refl)

-- ---- the forms of a level

abbrev all_formed : Level → List OpKind → Bool
all_formed level [] = true
all_formed level (k ∷ ks) = (has_form k && stands_at k level) && all_formed level ks

all-formed : (level : Level) → all_formed level (kinds_at level) ≡ true
all-formed Source = refl
all-formed Checked = refl
all-formed Split = refl
all-formed Low = refl

each-of : (level : Level) (before ss : List Symbol) (Q : State → Type 0) (s : State) (ks : List OpKind)
    → ((k : OpKind) → has_form k ≡ true → stands_at k level ≡ true → (t : TextToken)
    → Owes (triples level) (before ++ doing (act.Kind k) ++ form k ++ ss) Q (record s { last = t }))
    → all_formed level ks ≡ true → EachOwes (triples level) (forms_then before ss ks) Q s
each-of level before ss Q s [] f e = tt
each-of level before ss Q s (k ∷ ks) f e =
    let a = and-left (has_form k && stands_at k level) (all_formed level ks) e in (
      λ t b h. f k (and-left (has_form k) (stands_at k level) a) (and-right (has_form k) (stands_at k level) a) t,
      each-of level before ss Q s ks f (and-right (has_form k && stands_at k level) (all_formed level ks) e),
    )

-- each form of the level, with what stands before and behind it
pub each-form : (level : Level) (before ss : List Symbol) (Q : State → Type 0) (s : State)
    → ((k : OpKind) → has_form k ≡ true → stands_at k level ≡ true → (t : TextToken)
    → Owes (triples level) (before ++ doing (act.Kind k) ++ form k ++ ss) Q (record s { last = t }))
    → EachOwes (triples level) (forms_then before ss (kinds_at level)) Q s
each-form level before ss Q s f = each-of level before ss Q s (kinds_at level) f (all-formed level)
