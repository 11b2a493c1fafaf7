-- The kinds of what stands in the blocks that the pass makes.
use Rattle.std.proofs.Common.{◌≡◌, ℕ, ◌+◌, cond, ◌&&◌, not, Bool, true, false, List, [], ◌∷◌, ◌++◌, map, Option, Some, None, refl, ap, ◌∙◌}
use Rattle.op_table.specs.declared.kind.OpKind.{OpKind}
use Rattle.op_table.specs.declared.kind.OpKind.TheVariants as op
use Rattle.low_forms.specs.declared.code.LowKind.{LowKind}
use Rattle.low_forms.specs.declared.code.LowKind.TheVariants.{Row, Launch, Await}
use Rattle.low_forms.specs.declared.code.Reg.{Reg}
use Rattle.low_forms.specs.declared.code.Instr.{Instr}
use Rattle.low_forms.specs.declared.code.Block.{Block}
use Rattle.low_forms.specs.declared.code.LowFunc.{LowFunc}
use Rattle.low_forms.specs.Registers.{every}
use Rattle.low_forms.proofs.Words.{and_left, and_right, and_both}
use Rattle.coro_lower.specs.declared.label.End.{End}
use Rattle.coro_lower.specs.declared.label.End.TheVariants as end
use Rattle.coro_lower.specs.Layout.{plain_end, task_end, end_of, awaiting}
use Rattle.coro_lower.specs.Registers.{token}
use Rattle.coro_lower.specs.Rows.{row, call_kind, called}
use Rattle.coro_lower.specs.Shape.{loads, gives, create, set_error}
use Rattle.register_laws.proofs.Lists.{every_append, every_mapped}
use Rattle.coro_laws.specs.Half.{is_of_coroutines, holds_none}

-- none of these instructions is of such a kind
abbrev pub None_of : (LowKind → Bool) → List Instr → Type 0
None_of p instrs = every (λ i. not (p i.kind)) instrs ≡ true

pub not_false : (b : Bool) → not b ≡ true → b ≡ false
not_false true is = cc
not_false false is = refl

pub not_true : (b : Bool) → b ≡ false → not b ≡ true
not_true true is = cc
not_true false is = refl

-- the kinds of the instructions that the pass makes, saves and what suspends aside
abbrev pub is_made : OpKind → Bool
is_made op.AsyncRuntimeLoad = true
is_made op.AsyncRuntimeIsError = true
is_made op.AsyncRuntimeStore = true
is_made op.AsyncRuntimeSetAvailable = true
is_made op.AsyncRuntimeCreate = true
is_made op.AsyncRuntimeSetError = true
is_made op.AsyncCoroId = true
is_made op.AsyncCoroBegin = true
is_made op.AsyncCoroFree = true
is_made op.AsyncCoroEnd = true
is_made _ = false

-- the test passes for no row that is made so, and for none that is kept
pub record Quiet (p : LowKind → Bool) : Type 0 where
  pub made : (kind : OpKind) → is_made kind ≡ true → p (Row kind) ≡ false
  pub kept : (kind : LowKind) → is_of_coroutines kind ≡ false → p (call_kind kind) ≡ false

module _ (p : LowKind → Bool) (quiet : Quiet p) where
  pub none_called : (instrs : List Instr) → None_of is_of_coroutines instrs → None_of p (map called instrs)
  none_called instrs none = every_mapped (λ i. not (is_of_coroutines i.kind)) (λ i. not (p i.kind)) called instrs
      (λ i is. not_true (p (call_kind i.kind)) (quiet.kept i.kind (not_false (is_of_coroutines i.kind) is))) none

  one : (kind : OpKind) → is_made kind ≡ true → not (p (Row kind)) ≡ true
  one kind is = not_true (p (Row kind)) (quiet.made kind is)

  pub none_row : (kind : OpKind) (rs ss : List Reg) → is_made kind ≡ true → None_of p (row kind rs ss ∷ [])
  none_row kind rs ss is = and_both (not (p (Row kind))) true (one kind is) refl

  pub none_two : (a b : OpKind) (rs ss us vs : List Reg) → is_made a ≡ true → is_made b ≡ true → None_of p (row a rs ss ∷ row b us vs ∷ [])
  none_two a b rs ss us vs is also = and_both (not (p (Row a))) (every (λ i. not (p i.kind)) (row b us vs ∷ [])) (one a is) (none_row b us vs also)

  pub none_loads : (f : LowFunc) (o : Option ℕ) (params : List Reg) → None_of p (loads f o params)
  none_loads f None params = refl
  none_loads f (Some b) [] = refl
  none_loads f (Some b) (r ∷ rs) = and_both (not (p (Row op.AsyncRuntimeLoad))) true (one op.AsyncRuntimeLoad refl) refl

  pub none_gives : (f : LowFunc) (j : ℕ) (rs : List Reg) → None_of p (gives f j rs)
  none_gives f j [] = none_row op.AsyncRuntimeSetAvailable (token f ∷ []) [] refl
  none_gives f j (r ∷ rs) =
      and_both (not (p (Row op.AsyncRuntimeStore))) (not (p (Row op.AsyncRuntimeSetAvailable)) && every (λ i. not (p i.kind)) (gives f (j + 1) rs)) (one op.AsyncRuntimeStore refl)
      (and_both (not (p (Row op.AsyncRuntimeSetAvailable))) (every (λ i. not (p i.kind)) (gives f (j + 1) rs)) (one op.AsyncRuntimeSetAvailable refl) (none_gives f (j + 1) rs))

  pub none_creates : (rs : List Reg) → None_of p (map create rs)
  none_creates [] = refl
  none_creates (r ∷ rs) = and_both (not (p (Row op.AsyncRuntimeCreate))) (every (λ i. not (p i.kind)) (map create rs)) (one op.AsyncRuntimeCreate refl) (none_creates rs)

  pub none_errors : (rs : List Reg) → None_of p (map set_error rs)
  none_errors [] = refl
  none_errors (r ∷ rs) = and_both (not (p (Row op.AsyncRuntimeSetError))) (every (λ i. not (p i.kind)) (map set_error rs)) (one op.AsyncRuntimeSetError refl) (none_errors rs)

  pub none_front : (f : LowFunc) (k : ℕ) (b : Block) → holds_none b ≡ true → None_of p (loads f (awaiting f k) b.params ++ map called b.instrs)
  none_front f k b none =
      every_append (λ i. not (p i.kind)) (loads f (awaiting f k) b.params) (map called b.instrs) (none_loads f (awaiting f k) b.params)
      (none_called b.instrs (and_left (every (λ i. not (is_of_coroutines i.kind)) b.instrs) (not (is_of_coroutines b.term.instr.kind)) none))

pub none_holds : (b : Block) → holds_none b ≡ true → is_of_coroutines b.term.instr.kind ≡ false
none_holds b none = not_false (is_of_coroutines b.term.instr.kind) (and_right (every (λ i. not (is_of_coroutines i.kind)) b.instrs) (not (is_of_coroutines b.term.instr.kind)) none)

-- ---- how a block of each kind of function ends

pub plain_is : (f : LowFunc) (b : Block) → f.coroutine ≡ false → end_of f b ≡ plain_end b.term.instr.kind
plain_is f b plain = ap (λ c. cond c (task_end b.term.instr.kind) (plain_end b.term.instr.kind)) plain

pub task_is : (f : LowFunc) (b : Block) → f.coroutine ≡ true → end_of f b ≡ task_end b.term.instr.kind
task_is f b task = ap (λ c. cond c (task_end b.term.instr.kind) (plain_end b.term.instr.kind)) task

-- an end that only plain functions have, and those that only coroutines have
abbrev pub is_plain_end : End → Bool
is_plain_end end.Waits = true
is_plain_end _ = false

abbrev pub is_task_end : End → Bool
is_task_end end.Suspends = true
is_task_end end.Gives = true
is_task_end end.Fails = true
is_task_end _ = false

pub plain_ends : (kind : LowKind) → is_task_end (plain_end kind) ≡ false
plain_ends Await = refl
plain_ends Launch = refl
plain_ends (Row kind) = refl

pub task_ends : (kind : LowKind) → is_plain_end (task_end kind) ≡ false
task_ends Await = refl
task_ends Launch = refl
task_ends (Row kind) = by kind
  where
    by : (kind : OpKind) → is_plain_end (task_end (Row kind)) ≡ false
    by op.FuncReturn = refl
    by op.AioFail = refl
    by kind = refl

pub no_task_end : (f : LowFunc) (b : Block) → f.coroutine ≡ false → is_task_end (end_of f b) ≡ false
no_task_end f b plain = ap is_task_end (plain_is f b plain) ∙ plain_ends b.term.instr.kind

pub no_plain_end : (f : LowFunc) (b : Block) → f.coroutine ≡ true → is_plain_end (end_of f b) ≡ false
no_plain_end f b task = ap is_plain_end (task_is f b task) ∙ task_ends b.term.instr.kind
