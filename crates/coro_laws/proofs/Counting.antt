-- How many suspends, waits and awaits stand in the code that the pass makes.
use Rattle.std.proofs.Common.{◌≡◌, ℕ, suc, ◌+◌, cond, ◌&&◌, not, Bool, true, false, List, [], ◌∷◌, ◌++◌, map, Option, Some, None, refl, sym, ap, ◌∙◌, subst, arith}
use Rattle.std.specs.Prelude.{slice_get}
use Rattle.std.proofs.lemmas.List.{map-append}
use Rattle.op_table.specs.declared.kind.OpKind.{OpKind}
use Rattle.op_table.specs.declared.kind.OpKind.TheVariants as op
use Rattle.low_forms.specs.declared.code.LowKind.{LowKind}
use Rattle.low_forms.specs.declared.code.LowKind.TheVariants.{Row, Launch, Await}
use Rattle.low_forms.specs.declared.code.Reg.{Reg}
use Rattle.low_forms.specs.declared.code.Instr.{Instr}
use Rattle.low_forms.specs.declared.code.Term.{Term}
use Rattle.low_forms.specs.declared.code.Block.{Block}
use Rattle.low_forms.specs.declared.code.LowFunc.{LowFunc}
use Rattle.low_forms.specs.Registers.{every}
use Rattle.low_forms.specs.Saves.{is_suspend}
use Rattle.low_forms.proofs.Words.{and_left, and_right, and_both}
use Rattle.register_numbers.specs.FirstPlaces.{place_in}
use Rattle.register_numbers.specs.Renumbered.{definitions, renamed_instr, renamed_block}
use Rattle.coro_lower.specs.declared.label.Label.{Label}
use Rattle.coro_lower.specs.declared.label.Label.TheVariants.{Entry, Next, Body, SetsError, Cleanup, Suspended}
use Rattle.coro_lower.specs.declared.label.End.{End}
use Rattle.coro_lower.specs.declared.label.End.TheVariants as end
use Rattle.coro_lower.specs.Layout.{plain_end, task_end, end_of, awaiting, stands_among, tests_before, labels, errors_for, layout}
use Rattle.coro_lower.specs.Registers.{token, values}
use Rattle.coro_lower.specs.Rows.{call_kind, called}
use Rattle.coro_lower.specs.Shape.{loads, before_end, instrs_of, term_of, body, next, create, begins, label_block, lowered, runtime_func}
use Rattle.register_laws.proofs.Lists.{every_at, every_append}
use Rattle.coro_laws.specs.Half.{is_of_coroutines, holds_none}
use Rattle.coro_laws.specs.Counts.{count_in, count_of, ends_with, is_await, is_waiting}
use Rattle.coro_laws.specs.Laws.{is_task, CoroutinesStay, OneSuspendEach, CoroutinesNeverWait, NoAwaitsLeft}
use Rattle.coro_laws.proofs.Lists.{Among}
use Rattle.coro_laws.proofs.Making.{None_of, not_false, not_true, is_made, Quiet, none_row, none_two, none_gives, none_creates, none_errors, none_front, none_holds, task_is, is_plain_end, no_plain_end}
use Rattle.coro_laws.proofs.Labels.{behind_entry, staying, failures, task_layout, plain_layout}
use Rattle.coro_laws.proofs.Saving.{is_saving, not_suspend, head_none, tail_none, Calm, plain_calm}

-- ---- sums

count_instrs : (p : LowKind → Bool) (xs : List Instr) → None_of p xs → count_in p xs ≡ 0
count_instrs p [] none = refl
count_instrs p (i ∷ xs) none =
    ap (λ b. cond b 1 0 + count_in p xs) (not_false (p i.kind) (and_left (not (p i.kind)) (every (λ j. not (p j.kind)) xs) none))
    ∙ ap (λ n. 0 + n) (count_instrs p xs (and_right (not (p i.kind)) (every (λ j. not (p j.kind)) xs) none))

count_append : (p : LowKind → Bool) (xs ys : List Block) → count_of p (xs ++ ys) ≡ count_of p xs + count_of p ys
count_append p [] ys = omega arith
count_append p (b ∷ xs) ys = let again : count_of p (xs ++ ys) ≡ count_of p xs + count_of p ys = count_append p xs ys in omega (arith, again)

-- ---- under other registers

count_in_renamed : (p : LowKind → Bool) (σ : ℕ → ℕ) (xs : List Instr) → count_in p (map (renamed_instr σ) xs) ≡ count_in p xs
count_in_renamed p σ [] = refl
count_in_renamed p σ (i ∷ xs) = ap (λ n. cond (p i.kind) 1 0 + n) (count_in_renamed p σ xs)

count_renamed : (p : LowKind → Bool) (σ : ℕ → ℕ) (blocks : List Block) → count_of p (map (renamed_block σ) blocks) ≡ count_of p blocks
count_renamed p σ [] = refl
count_renamed p σ (b ∷ blocks) =
    ap (λ n. (n + cond (p b.term.instr.kind) 1 0) + count_of p (map (renamed_block σ) blocks)) (count_in_renamed p σ b.instrs)
    ∙ ap (λ n. (count_in p b.instrs + cond (p b.term.instr.kind) 1 0) + n) (count_renamed p σ blocks)

ends_renamed : (p : LowKind → Bool) (σ : ℕ → ℕ) (blocks : List Block) → ends_with p (map (renamed_block σ) blocks) ≡ ends_with p blocks
ends_renamed p σ [] = refl
ends_renamed p σ (b ∷ blocks) = ap (λ n. cond (p b.term.instr.kind) 1 0 + n) (ends_renamed p σ blocks)

runtime_count : (p : LowKind → Bool) (f : LowFunc) → count_of p (runtime_func f).blocks ≡ count_of p (lowered f).blocks
unfolding runtime_func
runtime_count p f = count_renamed p (place_in (definitions (lowered f))) (lowered f).blocks

runtime_ends : (p : LowKind → Bool) (f : LowFunc) → ends_with p (runtime_func f).blocks ≡ ends_with p (lowered f).blocks
unfolding runtime_func
runtime_ends p f = ends_renamed p (place_in (definitions (lowered f))) (lowered f).blocks

-- ---- the tests that are counted pass for no instruction that is made

quiet_suspends : Quiet is_suspend
quiet_suspends = record { made = by; kept = λ kind none. kept kind none }
  where
    by : (kind : OpKind) → is_made kind ≡ true → is_suspend (Row kind) ≡ false
    by op.AsyncCoroSuspend is = cc
    by kind is = refl

    kept : (kind : LowKind) → is_of_coroutines kind ≡ false → is_suspend (call_kind kind) ≡ false
    kept Launch none = refl
    kept Await none = refl
    kept (Row kind) none = not_suspend (Row kind) none

quiet_waits : Quiet is_waiting
quiet_waits = record { made = by; kept = λ kind none. kept kind none }
  where
    by : (kind : OpKind) → is_made kind ≡ true → is_waiting (Row kind) ≡ false
    by op.AsyncRuntimeAwait is = cc
    by kind is = refl

    rows : (kind : OpKind) → is_of_coroutines (Row kind) ≡ false → is_waiting (Row kind) ≡ false
    rows op.AsyncRuntimeAwait none = cc
    rows kind none = refl

    kept : (kind : LowKind) → is_of_coroutines kind ≡ false → is_waiting (call_kind kind) ≡ false
    kept Launch none = refl
    kept Await none = refl
    kept (Row kind) none = rows kind none

-- ---- blocks

abbrev in_block : (LowKind → Bool) → Block → ℕ
in_block p b = count_in p b.instrs + cond (p b.term.instr.kind) 1 0

module _ (p : LowKind → Bool) (quiet : Quiet p) (saves : p (Row op.AsyncCoroSave) ≡ false) (resumes : p (Row op.AsyncRuntimeAwaitAndResume) ≡ false) (starts : p (Row op.AsyncRuntimeResume) ≡ false) where
  abbrev N : Instr → Bool
  N i = not (p i.kind)

  none_before : (e : End) (f : LowFunc) (k : ℕ) (rs : List Reg) → is_plain_end e ≡ false → None_of p (before_end e f k rs)
  none_before end.Stays f k rs plain = refl
  none_before end.Waits f k rs plain = cc
  none_before end.Suspends f k rs plain =
      and_both (not (p (Row op.AsyncCoroSave))) (not (p (Row op.AsyncRuntimeAwaitAndResume)) && true) (not_true (p (Row op.AsyncCoroSave)) saves)
      (and_both (not (p (Row op.AsyncRuntimeAwaitAndResume))) true (not_true (p (Row op.AsyncRuntimeAwaitAndResume)) resumes) refl)
  none_before end.Gives f k rs plain = none_gives p quiet f 1 rs
  none_before end.Fails f k rs plain = refl

  none_instrs : (e : End) (f : LowFunc) (k : ℕ) (b : Block) → is_plain_end e ≡ false → holds_none b ≡ true → None_of p (instrs_of e f k b)
  none_instrs end.Stays f k b plain none = every_append N (loads f (awaiting f k) b.params ++ map called b.instrs) [] (none_front p quiet f k b none) refl
  none_instrs end.Waits f k b plain none = cc
  none_instrs end.Suspends f k b plain none =
      every_append N (loads f (awaiting f k) b.params ++ map called b.instrs) (before_end end.Suspends f k b.term.instr.operands) (none_front p quiet f k b none) (none_before end.Suspends f k b.term.instr.operands refl)
  none_instrs end.Gives f k b plain none =
      every_append N (loads f (awaiting f k) b.params ++ map called b.instrs) (before_end end.Gives f k b.term.instr.operands) (none_front p quiet f k b none) (none_before end.Gives f k b.term.instr.operands refl)
  none_instrs end.Fails f k b plain none = refl

  none_begins : (f : LowFunc) → None_of p (begins f)
  none_begins f =
      let four : Bool = not (p (Row op.AsyncRuntimeResume)) && true in
      let three : Bool = not (p (Row op.AsyncCoroSave)) && four in
      let two : Bool = not (p (Row op.AsyncCoroBegin)) && three in
      and_both (not (p (Row op.AsyncCoroId))) two (not_true (p (Row op.AsyncCoroId)) (quiet.made op.AsyncCoroId refl))
      (and_both (not (p (Row op.AsyncCoroBegin))) three (not_true (p (Row op.AsyncCoroBegin)) (quiet.made op.AsyncCoroBegin refl))
      (and_both (not (p (Row op.AsyncCoroSave))) four (not_true (p (Row op.AsyncCoroSave)) saves)
      (and_both (not (p (Row op.AsyncRuntimeResume))) true (not_true (p (Row op.AsyncRuntimeResume)) starts) refl)))

  -- the instructions of a coroutine's blocks
  none_body : (f : LowFunc) (k : ℕ) (o : Option Block) → f.coroutine ≡ true → every holds_none f.blocks ≡ true → slice_get f.blocks k ≡ o → None_of p (body f k o).instrs
  none_body f k None task none at = refl
  none_body f k (Some b) task none at = none_instrs (end_of f b) f k b (no_plain_end f b task) (every_at holds_none f.blocks k b none at)

  none_next : (f : LowFunc) (k : ℕ) (o : Option Block) → None_of p (next f k o).instrs
  none_next f k None = refl
  none_next f k (Some b) = none_row p quiet op.AsyncRuntimeIsError [] [] refl

  none_label : (f : LowFunc) → f.coroutine ≡ true → every holds_none f.blocks ≡ true → (l : Label) → None_of p (label_block f l).instrs
  none_label f task none Entry = every_append N (map create (token f ∷ values f)) (begins f) (none_creates p quiet (token f ∷ values f)) (none_begins f)
  none_label f task none (Body k) = none_body f k (slice_get f.blocks k) task none refl
  none_label f task none (Next k) = none_next f k (slice_get f.blocks k)
  none_label f task none SetsError = none_errors p quiet (values f ++ token f ∷ [])
  none_label f task none Cleanup = none_two p quiet op.AsyncCoroFree op.AsyncCoroEnd [] [] [] [] refl refl
  none_label f task none Suspended = none_row p quiet op.AsyncCoroEnd [] [] refl

  module _ (f : LowFunc) where
    abbrev counted : Label → ℕ
    counted l = in_block p (label_block f l)

    abbrev sum : List Label → ℕ
    sum ls = count_of p (map (label_block f) ls)

    sum_append : (xs ys : List Label) → sum (xs ++ ys) ≡ sum xs + sum ys
    sum_append xs ys = ap (count_of p) (map-append (label_block f) xs ys) ∙ count_append p (map (label_block f) xs) (map (label_block f) ys)

    -- the labels of the failing blocks and of the others make all of them once
    module _ (tests : (k : ℕ) → counted (Next k) ≡ 0) where
      abbrev each : Block → ℕ
      each b = cond (is_await b.term.instr.kind) 1 0

      abbrev wanted : List Block → ℕ
      wanted blocks = ends_with is_await blocks

      group_sum : (c : Bool) (o : Option ℕ) (k : ℕ) → sum (tests_before c o ++ Body k ∷ []) ≡ counted (Body k)
      group_sum true (Some b) k = (let none : counted (Next b) ≡ 0 = tests b in omega (arith, none))
      group_sum true None k = omega arith
      group_sum false (Some b) k = omega arith
      group_sum false None k = omega arith

      abbrev group : Bool → ℕ → Block → List Label
      group failing k b = cond (stands_among failing (end_of f b)) (tests_before f.coroutine (awaiting f k) ++ Body k ∷ []) []

      split : (e : End) (xs : List Label) → sum (cond (stands_among false e) xs []) + sum (cond (stands_among true e) xs []) ≡ sum xs
      split end.Stays xs = omega arith
      split end.Waits xs = omega arith
      split end.Suspends xs = omega arith
      split end.Gives xs = omega arith
      split end.Fails xs = omega arith

      all_sum : (k : ℕ) (blocks : List Block) → ((j : ℕ) (b : Block) → slice_get blocks j ≡ Some b → counted (Body (k + j)) ≡ each b)
          → sum (labels f false k blocks) + sum (labels f true k blocks) ≡ wanted blocks
      all_sum k [] bodies = omega arith
      all_sum k (b ∷ blocks) bodies =
          let again : sum (labels f false (k + 1) blocks) + sum (labels f true (k + 1) blocks) ≡ wanted blocks =
          all_sum (k + 1) blocks (λ j c at. (let same : k + 1 + j ≡ k + suc j = omega arith in subst (λ n. counted (Body n) ≡ each c) (sym same) (bodies (suc j) c at))) in
          let zero_more : k + 0 ≡ k = omega arith in
          let here : counted (Body k) ≡ each b = subst (λ n. counted (Body n) ≡ each b) zero_more (bodies 0 b refl) in
          let one : sum (labels f false k (b ∷ blocks)) ≡ sum (group false k b) + sum (labels f false (k + 1) blocks) = sum_append (group false k b) (labels f false (k + 1) blocks) in
          let two : sum (labels f true k (b ∷ blocks)) ≡ sum (group true k b) + sum (labels f true (k + 1) blocks) = sum_append (group true k b) (labels f true (k + 1) blocks) in
          let both : sum (group false k b) + sum (group true k b) ≡ counted (Body k) = split (end_of f b) (tests_before f.coroutine (awaiting f k) ++ Body k ∷ []) ∙ group_sum f.coroutine (awaiting f k) k in
          omega (arith, again, here, one, two, both)

      error_sum : counted SetsError ≡ 0 → (ls : List Label) → sum (errors_for ls) ≡ 0
      error_sum none [] = refl
      error_sum none (l ∷ ls) = omega (arith, none)

      -- a coroutine's blocks, its entry and its end
      task_sum : f.coroutine ≡ true → counted SetsError ≡ 0 → counted Cleanup ≡ 0 → counted Suspended ≡ 0 → ((j : ℕ) (b : Block) → slice_get f.blocks j ≡ Some b → counted (Body j) ≡ each b)
          → count_of p (lowered f).blocks ≡ counted Entry + wanted f.blocks
      task_sum task error cleanup suspended bodies =
          let ending : List Label = Cleanup ∷ Suspended ∷ failures f in
          let is : sum (layout f) ≡ sum (Entry ∷ behind_entry f) = ap sum (task_layout f task) in
          let a : sum (behind_entry f) ≡ sum (staying f) + sum (errors_for (failures f) ++ ending) = sum_append (staying f) (errors_for (failures f) ++ ending) in
          let b : sum (errors_for (failures f) ++ ending) ≡ sum (errors_for (failures f)) + sum ending = sum_append (errors_for (failures f)) ending in
          let c : sum (errors_for (failures f)) ≡ 0 = error_sum error (failures f) in
          let d : sum (staying f) + sum (failures f) ≡ wanted f.blocks = all_sum 0 f.blocks (λ j blk at. (let same : 0 + j ≡ j = omega arith in subst (λ n. counted (Body n) ≡ each blk) (sym same) (bodies j blk at))) in
          omega (arith, is, a, b, c, d, cleanup, suspended)

    -- nothing where no label has anything
    none_sum : (ls : List Label) → ((l : Label) → Among l ls → counted l ≡ 0) → sum ls ≡ 0
    none_sum [] none = refl
    none_sum (l ∷ ls) none =
        let here : counted l ≡ 0 = none l (0, refl) in
        let later : sum ls ≡ 0 = none_sum ls (λ m a. none m (suc a.0, a.1)) in
        omega (arith, here, later)

none_block : (p : LowKind → Bool) (b : Block) → None_of p b.instrs → p b.term.instr.kind ≡ false → in_block p b ≡ 0
none_block p b none last = ap (λ n. n + cond (p b.term.instr.kind) 1 0) (count_instrs p b.instrs none) ∙ ap (λ c. 0 + cond c 1 0) last

-- ---- suspends

abbrev is_suspends : End → Bool
is_suspends end.Suspends = true
is_suspends _ = false

task_suspends : (kind : LowKind) → is_suspends (task_end kind) ≡ is_await kind
task_suspends Await = refl
task_suspends Launch = refl
task_suspends (Row kind) = by kind
  where
    by : (kind : OpKind) → is_suspends (task_end (Row kind)) ≡ false
    by op.FuncReturn = refl
    by op.AioFail = refl
    by kind = refl

ends_suspend : (e : End) (f : LowFunc) (k : ℕ) (t : Term) → is_of_coroutines t.instr.kind ≡ false → is_suspend (term_of e f k t).instr.kind ≡ is_suspends e
ends_suspend end.Stays f k t none = not_suspend t.instr.kind none
ends_suspend end.Waits f k t none = refl
ends_suspend end.Suspends f k t none = refl
ends_suspend end.Gives f k t none = refl
ends_suspend end.Fails f k t none = refl

module _ (f : LowFunc) (none : every holds_none f.blocks ≡ true) where
  suspends_in : f.coroutine ≡ true → (k : ℕ) (b : Block) → slice_get f.blocks k ≡ Some b → in_block is_suspend (label_block f (Body k)) ≡ cond (is_await b.term.instr.kind) 1 0
  suspends_in task k b at =
      let holds : holds_none b ≡ true = every_at holds_none f.blocks k b none at in
      let instrs : None_of is_suspend (instrs_of (end_of f b) f k b) = none_instrs is_suspend quiet_suspends refl refl refl (end_of f b) f k b (no_plain_end f b task) holds in
      let last : is_suspend (term_of (end_of f b) f k b.term).instr.kind ≡ is_await b.term.instr.kind =
      ends_suspend (end_of f b) f k b.term (none_holds b holds) ∙ ap is_suspends (task_is f b task) ∙ task_suspends b.term.instr.kind in
      ap (λ o. in_block is_suspend (body f k o)) at
      ∙ ap (λ n. n + cond (is_suspend (term_of (end_of f b) f k b.term).instr.kind) 1 0) (count_instrs is_suspend (instrs_of (end_of f b) f k b) instrs)
      ∙ ap (λ c. 0 + cond c 1 0) last
      ∙ omega arith

  none_at_next : (k : ℕ) (o : Option Block) → in_block is_suspend (next f k o) ≡ 0
  none_at_next k None = refl
  none_at_next k (Some b) = refl

  task_count : f.coroutine ≡ true → count_of is_suspend (lowered f).blocks ≡ ends_with is_await f.blocks + 1
  task_count task =
      let p : LowKind → Bool = is_suspend in
      let entry : in_block is_suspend (label_block f Entry) ≡ 1 =
      ap (λ n. n + 1) (count_instrs is_suspend (label_block f Entry).instrs (none_label is_suspend quiet_suspends refl refl refl f task none Entry)) in
      let error : in_block is_suspend (label_block f SetsError) ≡ 0 =
      ap (λ n. n + 0) (count_instrs is_suspend (label_block f SetsError).instrs (none_label is_suspend quiet_suspends refl refl refl f task none SetsError)) in
      let all : count_of is_suspend (lowered f).blocks ≡ in_block is_suspend (label_block f Entry) + ends_with is_await f.blocks =
      task_sum is_suspend quiet_suspends refl refl refl f (λ k. none_at_next k (slice_get f.blocks k)) task error refl refl (suspends_in task) in
      omega (arith, all, entry)

  suspend_none : (xs : List Instr) → None_of is_saving xs → None_of is_suspend xs
  suspend_none [] all = refl
  suspend_none (x ∷ xs) all =
      and_both (not (is_suspend x.kind)) (every (λ i. not (is_suspend i.kind)) xs)
      (not_true (is_suspend x.kind) (head_none x xs all).2) (suspend_none xs (tail_none x xs all))

  plain_count : f.coroutine ≡ false → count_of is_suspend (lowered f).blocks ≡ 0
  plain_count plain =
      ap (λ ls. count_of is_suspend (map (label_block f) ls)) (plain_layout f plain)
      ∙ none_sum is_suspend quiet_suspends refl refl refl f (staying f) (λ l a.
      (let calm : Calm (label_block f l) = plain_calm f none plain l a in
      none_block is_suspend (label_block f l) (suspend_none (label_block f l).instrs calm.instrs) calm.last))

  by_kind : (c : Bool) → f.coroutine ≡ c → count_of is_suspend (lowered f).blocks ≡ cond c (ends_with is_await f.blocks + 1) 0
  by_kind true task = task_count task
  by_kind false plain = plain_count plain

  suspend_count : count_of is_suspend (lowered f).blocks ≡ cond f.coroutine (ends_with is_await f.blocks + 1) 0
  suspend_count = by_kind f.coroutine refl

  -- ---- waits

  not_waiting : (kind : LowKind) → is_of_coroutines kind ≡ false → is_waiting kind ≡ false
  not_waiting Launch is = refl
  not_waiting Await is = refl
  not_waiting (Row kind) is = quiet_waits.kept (Row kind) is

  ends_waiting : (e : End) (k : ℕ) (t : Term) → is_of_coroutines t.instr.kind ≡ false → is_waiting (term_of e f k t).instr.kind ≡ false
  ends_waiting end.Stays k t is = not_waiting t.instr.kind is
  ends_waiting end.Waits k t is = refl
  ends_waiting end.Suspends k t is = refl
  ends_waiting end.Gives k t is = refl
  ends_waiting end.Fails k t is = refl

  waits_last : (l : Label) → is_waiting (label_block f l).term.instr.kind ≡ false
  waits_last Entry = refl
  waits_last (Body k) = by (slice_get f.blocks k) refl
    where
      by : (o : Option Block) → slice_get f.blocks k ≡ o → is_waiting (body f k o).term.instr.kind ≡ false
      by None at = refl
      by (Some b) at = ends_waiting (end_of f b) k b.term (none_holds b (every_at holds_none f.blocks k b none at))
  waits_last (Next k) = by (slice_get f.blocks k)
    where
      by : (o : Option Block) → is_waiting (next f k o).term.instr.kind ≡ false
      by None = refl
      by (Some b) = refl
  waits_last SetsError = refl
  waits_last Cleanup = refl
  waits_last Suspended = refl

  never_waits : f.coroutine ≡ true → count_of is_waiting (lowered f).blocks ≡ 0
  never_waits task =
      none_sum is_waiting quiet_waits refl refl refl f (layout f) (λ l a.
      none_block is_waiting (label_block f l) (none_label is_waiting quiet_waits refl refl refl f task none l) (waits_last l))

pub one_suspend_each : OneSuspendEach
one_suspend_each f none = runtime_count is_suspend f ∙ suspend_count f none

pub coroutines_never_wait : CoroutinesNeverWait
coroutines_never_wait f none task = runtime_count is_waiting f ∙ never_waits f none task

-- ---- awaits

module _ (f : LowFunc) where
  stays_not : (c : Bool) (kind : LowKind) → is_await kind ≡ true → cond c (task_end kind) (plain_end kind) ≡ end.Stays → ⊥
  stays_not true Await is e = cc
  stays_not false Await is e = cc
  stays_not c Launch is e = cc
  stays_not c (Row kind) is e = cc

  no_await : (b : Bool) → (b ≡ true → ⊥) → b ≡ false
  no_await true not = absurd (not refl)
  no_await false not = refl

  end_awaits : (e : End) (k : ℕ) (b : Block) → end_of f b ≡ e → is_await (term_of e f k b.term).instr.kind ≡ false
  end_awaits end.Stays k b is = no_await (is_await b.term.instr.kind) (λ await. stays_not f.coroutine b.term.instr.kind await is)
  end_awaits end.Waits k b is = refl
  end_awaits end.Suspends k b is = refl
  end_awaits end.Gives k b is = refl
  end_awaits end.Fails k b is = refl

  body_awaits : (k : ℕ) (o : Option Block) → is_await (body f k o).term.instr.kind ≡ false
  body_awaits k None = refl
  body_awaits k (Some b) = end_awaits (end_of f b) k b refl

  next_awaits : (k : ℕ) (o : Option Block) → is_await (next f k o).term.instr.kind ≡ false
  next_awaits k None = refl
  next_awaits k (Some b) = refl

  label_awaits : (l : Label) → is_await (label_block f l).term.instr.kind ≡ false
  label_awaits Entry = refl
  label_awaits (Body k) = body_awaits k (slice_get f.blocks k)
  label_awaits (Next k) = next_awaits k (slice_get f.blocks k)
  label_awaits SetsError = refl
  label_awaits Cleanup = refl
  label_awaits Suspended = refl

  none_left : (ls : List Label) → ends_with is_await (map (label_block f) ls) ≡ 0
  none_left [] = refl
  none_left (l ∷ ls) = ap (λ c. cond c 1 0 + ends_with is_await (map (label_block f) ls)) (label_awaits l) ∙ ap (λ n. 0 + n) (none_left ls)

pub no_awaits_left : NoAwaitsLeft
no_awaits_left f = runtime_ends is_await f ∙ none_left f (layout f)

-- ---- coroutines

runtime_task : (f : LowFunc) → (runtime_func f).coroutine ≡ f.coroutine
unfolding runtime_func
runtime_task f = refl

tasks_stay : (funcs : List LowFunc) → map is_task (map runtime_func funcs) ≡ map is_task funcs
tasks_stay [] = refl
tasks_stay (f ∷ funcs) = ap (λ c. c ∷ map is_task (map runtime_func funcs)) (runtime_task f) ∙ ap (λ cs. f.coroutine ∷ cs) (tasks_stay funcs)

pub coroutines_stay : CoroutinesStay
coroutines_stay code = tasks_stay code.funcs
