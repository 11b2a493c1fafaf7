-- Steps of the machine of code with the high rows.
use Rattle.std.proofs.lemmas.Bool.Decides.{leb_tells}
use Rattle.std.proofs.Common.{◌≡◌, ◌⊎◌, inl, inr, ◌<◌, ◌≤◌, ℕ, zero, suc, ◌*◌, nat_le, cond, Bool, true, false, List, [], ◌∷◌, ◌++◌, map, drop, length, Option, Some, None, IsSome, slice_get, refl, ap, subst, ◌∙◌, arith}
use Rattle.std.specs.Prelude.{◌&&◌, take, replicate, slice_set}
use Rattle.op_table.specs.declared.kind.OpKind.TheVariants as op
use Rattle.ir_forms.specs.declared.names.MadeName.{MadeName}
use Rattle.ir_forms.specs.Shapes.{product, most_cells}
use Rattle.low_forms.specs.declared.code.Instr.{Instr}
use Rattle.low_forms.specs.declared.code.LowFunc.{LowFunc}
use Rattle.low_forms.specs.declared.code.LowKind.{LowKind}
use Rattle.low_forms.specs.declared.code.LowKind.TheVariants.{Row, Launch, Await}
use Rattle.low_forms.specs.declared.code.LowModule.{LowModule}
use Rattle.low_forms.specs.declared.code.Term.{Term}
use Rattle.source_meaning.specs.declared.values.Val.TheVariants.{Memory}
use Rattle.source_meaning.specs.Rows.{cell_from, product_from, product_within}
use Rattle.source_meaning.specs.Values.{maybe, or_else}
use Rattle.async_objects.specs.declared.kinds.Val.{Val}
use Rattle.async_objects.specs.declared.kinds.Val.TheVariants as val
use Rattle.task_stack.specs.Frames.{Stack}
use Rattle.task_stack.specs.Local as local
use Rattle.task_stack.specs.Local.{Local, Standing, standing, free_step, operands}
use Rattle.task_stack.specs.Registers.{value, number}
use Rattle.task_stack.specs.Shared as stack
use Rattle.task_stack.specs.Shared.{first_of, next_of, moved, passed}
use Rattle.step_core.specs.declared.tasks.Task.{Task}
use Rattle.step_core.specs.State.{with_buffers, cells_of, buffer_val}
use Rattle.step_core.specs.Shared as core
use Rattle.step_core.specs.Shared.{Took, Stuck, Idle, Takes, Nothing, on, on_buffer, cell_there, numbers, can_allocate, all_within, allocates, asked_sizes, where_so}
use Rattle.step_core.specs.High.{High, lifted, creates, shared_at, shared_kind_step, by_local, high_step}
use Rattle.block_carry.specs.Same.{Known, IsSame}
use Rattle.block_carry.specs.Follows.{is_dealloc, passes, quiet_by}
use Rattle.block_carry.specs.Taken.{HasTask, goes, with_cells, KnowsCells, QuietTaken, ReadsTaken, WritesTaken, AllocsTaken, CreatesTaken}
use Rattle.block_carry.proofs.Values.{none_is, some_is}

-- ---- the step of a task

abbrev Next_at : LowModule → Stack → stack.Next → Type 0
Next_at code s n = next_of code s ≡ Some n

ahead_of : Standing → stack.Next
ahead_of st = record { func = st.func; instr = first_of st.rest.instrs st.rest.term }

-- where something is ahead, the stack stands somewhere
stands_at : (code : LowModule) (s : Stack) (n : stack.Next) → Next_at code s n → (st : Standing) × (standing code s.top.current.place ≡ Some st)
stands_at code s n e = go (standing code s.top.current.place) refl e
  where
    go : (o : Option Standing) → standing code s.top.current.place ≡ o → maybe None (λ (st : Standing). Some (record { func = st.func; instr = first_of st.rest.instrs st.rest.term })) o ≡ Some n → (st : Standing) × (standing code s.top.current.place ≡ Some st)
    go None is e = absurd (none_is n e)
    go (Some st) is e = (st, is)

-- the step of a task whose next instruction is shared
shared_taken : (code : LowModule) (h : High) (t : ℕ) (s : Stack) (n : stack.Next) → HasTask h t s → free_step code s ≡ local.Shared → Next_at code s n → (tm : Term) × (high_step code h t ≡ shared_at code n tm h t s)
shared_taken code h t s n has shared is =
    let st = stands_at code s n is in (
      st.0.rest.term,
      ap (maybe Idle (λ (task : Task). by_local (free_step code task.stack) code h t task.stack)) has
          ∙ ap (λ l. by_local l code h t s) shared
          ∙ ap (maybe Stuck (λ (n : stack.Next). maybe Stuck (λ (st : Standing). shared_at code n st.rest.term h t s) (standing code s.top.current.place))) is
          ∙ ap (maybe Stuck (λ (st : Standing). shared_at code n st.rest.term h t s)) st.1,
    )

-- one of this kind
pub kind_taken : (code : LowModule) (h : High) (t : ℕ) (s : Stack) (f : LowFunc) (i : Instr) (kind : LowKind) → HasTask h t s → free_step code s ≡ local.Shared → Next_at code s (record { func = f; instr = i }) → i.kind ≡ kind →
    (tm : Term) × (high_step code h t ≡ shared_kind_step kind code f i tm (operands s i) h t s)
kind_taken code h t s f i kind has shared is e =
    let one = shared_taken code h t s (record { func = f; instr = i }) has shared is in
    (one.0, one.1 ∙ ap (λ kd. shared_kind_step kd code f i one.0 (operands s i) h t s) e)

-- ---- steps that show nothing

dealloc_is : (kind : LowKind) → is_dealloc kind ≡ true → kind ≡ Row op.MemrefDealloc
dealloc_is (Row op.AioCall) e = cc
dealloc_is (Row op.AioFail) e = cc
dealloc_is (Row op.AioFinish) e = cc
dealloc_is (Row op.AioTryCall) e = cc
dealloc_is (Row op.ArithAddi) e = cc
dealloc_is (Row op.ArithAndi) e = cc
dealloc_is (Row op.ArithCmpi) e = cc
dealloc_is (Row op.ArithConstant) e = cc
dealloc_is (Row op.ArithDivsi) e = cc
dealloc_is (Row op.ArithDivui) e = cc
dealloc_is (Row op.ArithExtsi) e = cc
dealloc_is (Row op.ArithExtui) e = cc
dealloc_is (Row op.ArithIndexCast) e = cc
dealloc_is (Row op.ArithIndexCastui) e = cc
dealloc_is (Row op.ArithMaxsi) e = cc
dealloc_is (Row op.ArithMaxui) e = cc
dealloc_is (Row op.ArithMinsi) e = cc
dealloc_is (Row op.ArithMinui) e = cc
dealloc_is (Row op.ArithMuli) e = cc
dealloc_is (Row op.ArithOri) e = cc
dealloc_is (Row op.ArithRemsi) e = cc
dealloc_is (Row op.ArithRemui) e = cc
dealloc_is (Row op.ArithSelect) e = cc
dealloc_is (Row op.ArithShli) e = cc
dealloc_is (Row op.ArithShrsi) e = cc
dealloc_is (Row op.ArithShrui) e = cc
dealloc_is (Row op.ArithSubi) e = cc
dealloc_is (Row op.ArithTrunci) e = cc
dealloc_is (Row op.ArithXori) e = cc
dealloc_is (Row op.AsyncAddToGroup) e = cc
dealloc_is (Row op.AsyncAwait) e = cc
dealloc_is (Row op.AsyncAwaitAll) e = cc
dealloc_is (Row op.AsyncCoroBegin) e = cc
dealloc_is (Row op.AsyncCoroEnd) e = cc
dealloc_is (Row op.AsyncCoroFree) e = cc
dealloc_is (Row op.AsyncCoroId) e = cc
dealloc_is (Row op.AsyncCoroSave) e = cc
dealloc_is (Row op.AsyncCoroSuspend) e = cc
dealloc_is (Row op.AsyncCreateGroup) e = cc
dealloc_is (Row op.AsyncExecute) e = cc
dealloc_is (Row op.AsyncRuntimeAddRef) e = cc
dealloc_is (Row op.AsyncRuntimeAddToGroup) e = cc
dealloc_is (Row op.AsyncRuntimeAwait) e = cc
dealloc_is (Row op.AsyncRuntimeAwaitAndResume) e = cc
dealloc_is (Row op.AsyncRuntimeCreate) e = cc
dealloc_is (Row op.AsyncRuntimeCreateGroup) e = cc
dealloc_is (Row op.AsyncRuntimeDropRef) e = cc
dealloc_is (Row op.AsyncRuntimeIsError) e = cc
dealloc_is (Row op.AsyncRuntimeLoad) e = cc
dealloc_is (Row op.AsyncRuntimeResume) e = cc
dealloc_is (Row op.AsyncRuntimeSetAvailable) e = cc
dealloc_is (Row op.AsyncRuntimeSetError) e = cc
dealloc_is (Row op.AsyncRuntimeStore) e = cc
dealloc_is (Row op.AsyncYield) e = cc
dealloc_is (Row op.CfAssert) e = cc
dealloc_is (Row op.CfBr) e = cc
dealloc_is (Row op.CfCondBr) e = cc
dealloc_is (Row op.FuncCall) e = cc
dealloc_is (Row op.FuncFunc) e = cc
dealloc_is (Row op.FuncReturn) e = cc
dealloc_is (Row op.MemrefAlloc) e = cc
dealloc_is (Row op.MemrefDealloc) e = refl
dealloc_is (Row op.MemrefDim) e = cc
dealloc_is (Row op.MemrefLoad) e = cc
dealloc_is (Row op.MemrefStore) e = cc
dealloc_is (Row op.BuiltinModule) e = cc
dealloc_is (Row op.ScfCondition) e = cc
dealloc_is (Row op.ScfFor) e = cc
dealloc_is (Row op.ScfIf) e = cc
dealloc_is (Row op.ScfParallel) e = cc
dealloc_is (Row op.ScfReduce) e = cc
dealloc_is (Row op.ScfWhile) e = cc
dealloc_is (Row op.ScfYield) e = cc
dealloc_is Launch e = cc
dealloc_is Await e = cc

pub quiet_taken : QuietTaken
quiet_taken code h t s a has e = go (free_step code s) refl e
  where
    dealloc : (n : stack.Next) → Next_at code s n → free_step code s ≡ local.Shared → (z : Bool) → is_dealloc n.instr.kind ≡ z → cond z (Some (passed s)) None ≡ Some a → high_step code h t ≡ Takes (goes h t a) [] Nothing
    dealloc n is shared true d e2 =
        let one = kind_taken code h t s n.func n.instr (Row op.MemrefDealloc) has shared is (dealloc_is n.instr.kind d) in
        subst (λ q. high_step code h t ≡ Takes (goes h t q) [] Nothing) (some_is (passed s) a e2) one.1
    dealloc n is shared false d e2 = absurd (none_is a e2)

    ahead : (o : Option stack.Next) → next_of code s ≡ o → free_step code s ≡ local.Shared → maybe None (λ n. passes n s) o ≡ Some a → high_step code h t ≡ Takes (goes h t a) [] Nothing
    ahead None is shared e2 = absurd (none_is a e2)
    ahead (Some n) is shared e2 = dealloc n is shared (is_dealloc n.instr.kind) refl e2

    go : (l : Local) → free_step code s ≡ l → quiet_by l code s ≡ Some a → high_step code h t ≡ Takes (goes h t a) [] Nothing
    go (local.Done after counts) is e2 =
        subst (λ q. high_step code h t ≡ Takes (goes h t q) [] Nothing) (some_is after a e2)
        (ap (maybe Idle (λ (task : Task). by_local (free_step code task.stack) code h t task.stack)) has ∙ ap (λ l. by_local l code h t s) is)
    go local.Shared is e2 = ahead (next_of code s) refl is e2
    go local.Stuck is e2 = absurd (none_is a e2)
    go local.Deep is e2 = absurd (none_is a e2)

-- ---- cells

get_mapped : (buffers : List (List ℕ)) (b n : ℕ) → slice_get (map length buffers) b ≡ Some n → (cells : List ℕ) × (slice_get buffers b ≡ Some cells) × (length cells ≡ n)
get_mapped [] b n e = absurd (none_is n e)
get_mapped (cells ∷ buffers) zero n e = (cells, refl, some_is (length cells) n e)
get_mapped (cells ∷ buffers) (suc b) n e = get_mapped buffers b n e

get_below : (cells : List ℕ) (c : ℕ) → c < length cells → (n : ℕ) × (slice_get cells c ≡ Some n)
get_below [] c lt = absurd (omega (arith, lt))
get_below (x ∷ cells) zero lt = (x, refl)
get_below (x ∷ cells) (suc c) lt = get_below cells c (omega (arith, lt))

module _ (k : Known) (h : High) (knows : KnowsCells k h) where
  -- the cells of a buffer that is the same
  cells_are : (b : MadeName) (dims : List ℕ) (buffer rank : ℕ) (shape : List ℕ) → IsSame k (Memory b dims) (val.Buffer buffer rank shape) → length (cells_of h.plain buffer) ≡ product dims
  cells_are b dims buffer rank shape same =
      let one = get_mapped h.plain.buffers buffer (product dims) (subst (λ l. slice_get l buffer ≡ Some (product dims)) knows same.2) in
      ap (λ o. length (or_else [] o)) one.1 ∙ one.2

  cell_is : (b : MadeName) (dims indices : List ℕ) (c buffer rank : ℕ) (shape : List ℕ) → IsSame k (Memory b dims) (val.Buffer buffer rank shape) → cell_from 0 dims indices ≡ Some c → c < product dims →
      (n : ℕ) × (slice_get (cells_of h.plain buffer) c ≡ Some n) × (cell_there (cells_of h.plain buffer) (take rank shape) indices ≡ Some (c, n))
  cell_is b dims indices c buffer rank shape same e lt =
      let n = get_below (cells_of h.plain buffer) c (let many = cells_are b dims buffer rank shape same in omega (arith, lt, many)) in (
        n.0,
        n.1,
        ap (λ ds. cell_there (cells_of h.plain buffer) ds indices) same.1
            ∙ ap (maybe None (λ c. maybe None (λ n. Some (c, n)) (slice_get (cells_of h.plain buffer) c))) e ∙ ap (maybe None (λ n. Some (c, n))) n.1,
      )

  module _ (code : LowModule) (t : ℕ) (s : Stack) (i : Instr) where
    reads_on : (b : MadeName) (dims indices : List ℕ) (c : ℕ) (w : Val) → IsSame k (Memory b dims) w → cell_from 0 dims indices ≡ Some c → c < product dims →
        (buffer : ℕ) × (n : ℕ) × (slice_get k.names.buffers buffer ≡ Some b) × (slice_get (cells_of h.plain buffer) c ≡ Some n)
        × (lifted h (on_buffer w (λ b dims. maybe Stuck (λ c. core.goes_on h.plain t (on s i (val.Number c.1 ∷ [])) (core.Reads b c.0)) (cell_there (cells_of h.plain b) dims indices)))
        ≡ Takes (goes h t (moved i.results (val.Number n ∷ []) s)) [] (core.Reads buffer c))
    reads_on b dims indices c (val.Number n) same e lt = absurd same
    reads_on b dims indices c (val.Object o) same e lt = absurd same
    reads_on b dims indices c (val.Buffer buffer rank shape) same e lt =
        let one = cell_is b dims indices c buffer rank shape same e lt in
        (buffer, one.0, same.0, one.1, ap (λ o. lifted h (maybe Stuck (λ c. core.goes_on h.plain t (on s i (val.Number c.1 ∷ [])) (core.Reads buffer c.0)) o)) one.2)

    writes_on : (b : MadeName) (dims indices : List ℕ) (c n : ℕ) (w : Val) → IsSame k (Memory b dims) w → cell_from 0 dims indices ≡ Some c → c < product dims →
        (buffer : ℕ) × (slice_get k.names.buffers buffer ≡ Some b)
        × (lifted h (on_buffer w (λ b dims. maybe Stuck (λ c. core.goes_on (with_buffers h.plain (slice_set h.plain.buffers b (slice_set (cells_of h.plain b) c.0 n))) t (passed s) (core.Writes b c.0)) (cell_there (cells_of h.plain b) dims indices)))
        ≡ Takes (goes (with_cells h buffer (slice_set (cells_of h.plain buffer) c n)) t (moved [] [] s)) [] (core.Writes buffer c))
    writes_on b dims indices c n (val.Number m) same e lt = absurd same
    writes_on b dims indices c n (val.Object o) same e lt = absurd same
    writes_on b dims indices c n (val.Buffer buffer rank shape) same e lt =
        let one = cell_is b dims indices c buffer rank shape same e lt in
        (buffer, same.0, ap (λ o. lifted h (maybe Stuck (λ c. core.goes_on (with_buffers h.plain (slice_set h.plain.buffers buffer (slice_set (cells_of h.plain buffer) c.0 n))) t (passed s) (core.Writes buffer c.0)) o)) one.2)

pub reads_taken : ReadsTaken
reads_taken p code k h t s number b c xs u has knows asks =
    let a = asks.asks in
    let one = kind_taken code h t s asks.f asks.i (Row op.MemrefLoad) has asks.shared asks.is a.0 in
    let two = reads_on k h knows code t s asks.i b a.1 (numbers (drop 1 (operands s asks.i))) c (value (operands s asks.i) 0) a.2 a.3 a.4 in
    (two.0, two.1, two.2, two.3, one.1 ∙ two.4)

pub writes_taken : WritesTaken
writes_taken p code k h t s at_op b c n xs u has knows asks =
    let a = asks.asks in
    let one = kind_taken code h t s asks.f asks.i (Row op.MemrefStore) has asks.shared asks.is a.0 in
    let two = writes_on k h knows code t s asks.i b a.1 (numbers (drop 2 (operands s asks.i))) c (number (operands s asks.i) 0) (value (operands s asks.i) 1) a.2 a.3 a.4 in
    (two.0, two.1, subst (λ m. high_step code h t ≡ Takes (goes (with_cells h two.0 (slice_set (cells_of h.plain two.0) c m)) t (moved [] [] s)) [] (core.Writes two.0 c)) a.5 (one.1 ∙ two.2))

-- ---- allocations and groups

le_true : (a b : ℕ) → a ≤ b → nat_le a b ≡ true
le_true a b h = go (leb_tells a b)
  where
    go : ((nat_le a b) ≡ true) × (a ≤ b) ⊎ ((nat_le a b) ≡ false) × (b < a) → nat_le a b ≡ true
    go (inl s) = s.0
    go (inr s) = absurd (let l = s.1 in omega (arith, h, l))

within_all : (limit n : ℕ) (ks : List ℕ) → IsSome (product_from limit n ks) → all_within limit ks ≡ true
within_all limit n [] some = refl
within_all limit n (k ∷ ks) some = go (nat_le k limit) (nat_le (n * k) limit) some (within_all limit (n * k) ks)
  where
    go : (x y : Bool) → IsSome (cond (x && y) (product_from limit (n * k) ks) None) → (IsSome (product_from limit (n * k) ks) → all_within limit ks ≡ true) → cond x (all_within limit ks) false ≡ true
    go true true some more = more some
    go true false some more = cc
    go false y some more = cc

can_make : (dims : List ℕ) → length dims ≤ 4 → IsSome (product_within most_cells dims) → can_allocate dims ≡ true
can_make dims few some = go (nat_le (length dims) 4) (le_true (length dims) 4 few)
  where
    go : (x : Bool) → x ≡ true → cond x (all_within most_cells dims) false ≡ true
    go true e = within_all most_cells 1 dims some
    go false e = e

pub allocs_taken : AllocsTaken
allocs_taken p code k h t s number dims xs u has asks =
    let a = asks.asks in
    let one = kind_taken code h t s asks.f asks.i (Row op.MemrefAlloc) has asks.shared asks.is a.0 in
    one.1 ∙ ap (λ ns. lifted h (allocates ns h.plain t s asks.i)) a.1
    ∙ ap (λ z. lifted h (where_so z (core.goes_on (with_buffers h.plain (h.plain.buffers ++ replicate (product dims) 0 ∷ [])) t (on s asks.i (buffer_val (length h.plain.buffers) dims ∷ [])) (core.Allocates (length h.plain.buffers) (product dims))))) (can_make dims a.2 a.3)

pub creates_taken : CreatesTaken
creates_taken p code k h t s number n xs u has asks =
    let a = asks.asks in
    let one = kind_taken code h t s asks.f asks.i (Row op.AsyncRuntimeCreateGroup) has asks.shared asks.is a.0 in
    one.1 ∙ ap (λ m. creates m asks.i h t s) a.1
