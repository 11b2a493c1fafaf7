-- What the rows on cells come to.
use Rattle.std.proofs.Common.{◌≡◌, ◌<◌, ◌≤◌, ℕ, zero, suc, ◌+◌, nat_le, cond, true, List, [], ◌∷◌, ◌++◌, length, take, drop, replicate, slice_get, slice_set, Option, Some, None, refl, sym, ap, subst, ◌∙◌, arith, add-one}
use Rattle.std.proofs.lemmas.Bool.{le-leb}
use Rattle.std.proofs.lemmas.List.{drop_more}
use Rattle.std.proofs.lemmas.Option.{same_Some, none-some, slice_get-get_or}
use Rattle.ir_forms.specs.declared.runs.TaskNo.{TaskNo}
use Rattle.ir_forms.specs.Shapes.{product}
use Rattle.low_forms.specs.declared.code.Reg.{Reg}
use Rattle.low_forms.specs.declared.code.Instr.{Instr}
use Rattle.low_forms.specs.declared.code.LowFunc.{LowFunc}
use Rattle.source_meaning.specs.Rows.{cell_from}
use Rattle.source_meaning.specs.Values.{maybe, or_else}
use Rattle.async_objects.specs.declared.kinds.Val.{Val}
use Rattle.async_objects.specs.declared.kinds.Val.TheVariants.{Number, Buffer, Object}
use Rattle.task_stack.specs.Frames.{Stack}
use Rattle.task_stack.specs.Local.{operands}
use Rattle.task_stack.specs.Registers.{nothing, value, number, number_in, values_at}
use Rattle.task_stack.specs.Shared.{moved, passed}
use Rattle.step_core.specs.declared.limits.Limit.TheVariants as limit
use Rattle.step_core.specs.declared.limits.Limits.{Limits}
use Rattle.step_core.specs.declared.parts.Row.TheVariants as the
use Rattle.step_core.specs.declared.rows.SharedRow.TheVariants as row
use Rattle.step_core.specs.State as state
use Rattle.step_core.specs.State.{Plain, buffer_val, cells_used, with_task, counted, ready}
use Rattle.step_core.specs.Shared.{Act, Took, Stuck, Takes, Reads, Writes, Allocates, on, on_buffer, goes_on, numbers, can_allocate, cell_there}
use Rattle.step_core.specs.Cells.{cells_in}
use Rattle.step_core.specs.Core.{Core, overlay, unless, limited}
use Rattle.step_core.specs.Parts.{cell_named, with_buffers, gone_on, row_step, allocate_step, IsRow}
use Rattle.step_core.proofs.RowLemmas.{goes, taken}

-- ---- numbers that operands hold

pub values_length : (regs : List Val) (rs : List Reg) → length (values_at regs rs) ≡ length rs
values_length regs [] = refl
values_length regs (r ∷ rs) = ap suc (values_length regs rs)

drop_end : {X : Type 0} (xs : List X) (k : ℕ) → length xs ≤ k → drop k xs ≡ []
drop_end [] zero h = refl
drop_end [] (suc k) h = refl
drop_end (x ∷ xs) zero h = absurd (omega (arith, h))
drop_end (x ∷ xs) (suc k) h = drop_end xs k (omega (arith, h))

pub numbers_at : (s : Stack) (i : Instr) (k : ℕ) → k < length i.operands → numbers (drop k (operands s i)) ≡ number (operands s i) k ∷ numbers (drop (k + 1) (operands s i))
numbers_at s i k h =
    let vs : List Val = operands s i in
    let within : k < length vs = omega (arith, h, values_length s.top.current.regs i.operands) in
    ap numbers (drop_more vs k nothing within) ∙ ap (λ v. number_in (or_else nothing v) ∷ numbers (drop (k + 1) vs)) (sym (slice_get-get_or vs k nothing within))

pub numbers_end : (s : Stack) (i : Instr) (k : ℕ) → length i.operands ≤ k → numbers (drop k (operands s i)) ≡ []
numbers_end s i k h = ap numbers (drop_end (operands s i) k (omega (arith, h, values_length s.top.current.regs i.operands)))

-- ---- a cell that is there

abbrev pub pair : ℕ → ℕ → ℕ × ℕ
pair a b = (a, b)

-- what it holds
cell_holds : (cells dims indices : List ℕ) (p : ℕ × ℕ) → cell_there cells dims indices ≡ Some p → slice_get cells p.0 ≡ Some p.1
cell_holds cells dims indices p e = by_index (cell_from 0 dims indices) e where
  by_cell : (c : ℕ) (v : Option ℕ) → slice_get cells c ≡ v → maybe None (λ (n : ℕ). Some (pair c n)) v ≡ Some p → slice_get cells p.0 ≡ Some p.1
  by_cell c None is e = absurd (none-some p e)
  by_cell c (Some n) is e = let same : pair c n ≡ p = same_Some (pair c n) p e in subst (λ (q : ℕ × ℕ). slice_get cells q.0 ≡ Some q.1) same is

  by_index : (o : Option ℕ) → maybe None (λ (c : ℕ). maybe None (λ (n : ℕ). Some (pair c n)) (slice_get cells c)) o ≡ Some p → slice_get cells p.0 ≡ Some p.1
  by_index None e = absurd (none-some p e)
  by_index (Some c) e = by_cell c (slice_get cells c) refl e

pub named_holds : (v : Val) (indices : List ℕ) (buffers : List (List ℕ)) (b c : ℕ) → cell_named v indices buffers ≡ Some (pair b c) → (n : ℕ) × (slice_get (cells_in buffers b) c ≡ Some n)
named_holds (Number m) indices buffers b c e = absurd (none-some (pair b c) e)
named_holds (Object o) indices buffers b c e = absurd (none-some (pair b c) e)
named_holds (Buffer x rank dims) indices buffers b c e = split (cell_there (cells_in buffers x) (take rank dims) indices) refl e where
  split : (o : Option (ℕ × ℕ)) → cell_there (cells_in buffers x) (take rank dims) indices ≡ o → maybe None (λ (p : ℕ × ℕ). Some (pair x p.0)) o ≡ Some (pair b c) → (n : ℕ) × (slice_get (cells_in buffers b) c ≡ Some n)
  split None is e = absurd (none-some (pair b c) e)
  split (Some p) is e =
      let same : pair x p.0 ≡ pair b c = same_Some (pair x p.0) (pair b c) e in
      (p.1, sym (ap (λ (q : ℕ × ℕ). slice_get (cells_in buffers q.0) q.1) same) ∙ cell_holds (cells_in buffers x) (take rank dims) indices p is)

-- a step on it
on_cell : (v : Val) (indices : List ℕ) (buffers : List (List ℕ)) (step : ℕ → ℕ × ℕ → Took Plain) (b c n : ℕ) →
    cell_named v indices buffers ≡ Some (pair b c) → slice_get (cells_in buffers b) c ≡ Some n →
    on_buffer v (λ b dims. maybe Stuck (step b) (cell_there (cells_in buffers b) dims indices)) ≡ step b (pair c n)
on_cell (Number m) indices buffers step b c n e holds = absurd (none-some (pair b c) e)
on_cell (Object o) indices buffers step b c n e holds = absurd (none-some (pair b c) e)
on_cell (Buffer x rank dims) indices buffers step b c n e holds = split (cell_there (cells_in buffers x) (take rank dims) indices) refl e where
  split : (o : Option (ℕ × ℕ)) → cell_there (cells_in buffers x) (take rank dims) indices ≡ o → maybe None (λ (p : ℕ × ℕ). Some (pair x p.0)) o ≡ Some (pair b c) → maybe Stuck (step x) o ≡ step b (pair c n)
  split None is e = absurd (none-some (pair b c) e)
  split (Some p) is e =
      let same : pair x p.0 ≡ pair b c = same_Some (pair x p.0) (pair b c) e in
      let is_b : x ≡ b = ap (λ (q : ℕ × ℕ). q.0) same in
      let is_c : p.0 ≡ c = ap (λ (q : ℕ × ℕ). q.1) same in
      let is_n : p.1 ≡ n = same_Some p.1 n (sym (cell_holds (cells_in buffers x) (take rank dims) indices p is) ∙ (ap (λ (k : ℕ). slice_get (cells_in buffers k) p.0) is_b ∙ (ap (slice_get (cells_in buffers b)) is_c ∙ holds))) in
      λ j. step (is_b j) (pair (is_c j) (is_n j))

-- ---- loading and storing

module _ (l : Limits) (f : LowFunc) (i : Instr) (vs : List Val) (buffers buffers' : List (List ℕ)) (rest : Core) (w : List TaskNo) (t : ℕ) (first second : Stack) where
  pub load_goes : (b c n : ℕ) → cell_named (value vs 0) (numbers (drop 1 vs)) buffers ≡ Some (pair b c) → slice_get (cells_in buffers b) c ≡ Some n → buffers' ≡ buffers → second ≡ moved i.results (Number n ∷ []) first →
      IsRow (the.Goes None) (with_buffers buffers rest) (with_buffers buffers' rest) w w t first second (row_step l row.LoadCell f i vs (with_buffers buffers rest) t first)
  load_goes b c n is holds cells_are stack_is =
      let s : Core = with_buffers buffers rest in
      goes None s (with_buffers buffers' rest) w t first second (Reads b c) (row_step l row.LoadCell f i vs s t first)
      (ap (λ took. limited None (overlay true s [] took)) (on_cell (value vs 0) (numbers (drop 1 vs)) buffers (λ b p. goes_on s.plain t (on first i (Number p.1 ∷ [])) (Reads b p.0)) b c n is holds)
      ∙ (taken s (counted (with_task s.plain t (Some (ready (on first i (Number n ∷ [])))))) [] (Reads b c)
      ∙ (λ j. Takes (gone_on (with_buffers (sym cells_are j) rest) t (sym stack_is j) None []) [] (Reads b c))))

  pub store_goes : (b c n : ℕ) → cell_named (value vs 1) (numbers (drop 2 vs)) buffers ≡ Some (pair b c) → slice_get (cells_in buffers b) c ≡ Some n →
      buffers' ≡ slice_set buffers b (slice_set (cells_in buffers b) c (number vs 0)) → second ≡ passed first →
      IsRow (the.Goes None) (with_buffers buffers rest) (with_buffers buffers' rest) w w t first second (row_step l row.StoreCell f i vs (with_buffers buffers rest) t first)
  store_goes b c n is holds cells_are stack_is =
      let s : Core = with_buffers buffers rest in
      goes None s (with_buffers buffers' rest) w t first second (Writes b c) (row_step l row.StoreCell f i vs s t first)
      (ap (λ took. limited None (overlay true s [] took))
      (on_cell (value vs 1) (numbers (drop 2 vs)) buffers (λ b p. goes_on (state.with_buffers s.plain (slice_set buffers b (slice_set (cells_in buffers b) p.0 (number vs 0)))) t (passed first) (Writes b p.0)) b c n is holds)
      ∙ (taken s (counted (with_task (state.with_buffers s.plain (slice_set buffers b (slice_set (cells_in buffers b) c (number vs 0)))) t (Some (ready (passed first))))) [] (Writes b c)
      ∙ (λ j. Takes (gone_on (with_buffers (sym cells_are j) rest) t (sym stack_is j) None []) [] (Writes b c))))

-- ---- allocating

module _ (ns : List ℕ) (l : Limits) (i : Instr) (buffers buffers' : List (List ℕ)) (rest : Core) (w : List TaskNo) (t : ℕ) (first second : Stack) where
  abbrev allocated : Core → Took Plain
  allocated c =
      goes_on (state.with_buffers c.plain (buffers ++ replicate (product ns) 0 ∷ [])) t (on first i (buffer_val (length buffers) ns ∷ [])) (Allocates (length buffers) (product ns))

  pub allocate_goes : can_allocate ns ≡ true → cells_used buffers + product ns ≤ l.cells → buffers' ≡ buffers ++ replicate (product ns) 0 ∷ [] → second ≡ moved i.results (buffer_val (length buffers) ns ∷ []) first →
      IsRow (the.Goes None) (with_buffers buffers rest) (with_buffers buffers' rest) w w t first second (allocate_step ns l i (with_buffers buffers rest) t first)
  allocate_goes can few cells_are stack_is =
      let c : Core = with_buffers buffers rest in
      let act : Act = Allocates (length buffers) (product ns) in
      goes None c (with_buffers buffers' rest) w t first second act (allocate_step ns l i c t first)
      (ap (λ b. limited (unless (nat_le (cells_used buffers + product ns) l.cells) (limit.Cells (cells_used buffers))) (overlay true c [] (cond b (allocated c) Stuck))) can
      ∙ (ap (λ b. limited (unless b (limit.Cells (cells_used buffers))) (overlay true c [] (allocated c))) (le-leb (cells_used buffers + product ns) l.cells few)
      ∙ (taken c (counted (with_task (state.with_buffers c.plain (buffers ++ replicate (product ns) 0 ∷ [])) t (Some (ready (on first i (buffer_val (length buffers) ns ∷ [])))))) [] act
      ∙ (λ j. Takes (gone_on (with_buffers (sym cells_are j) rest) t (sym stack_is j) None []) [] act))))

-- ---- cells that hold 0

zeros_after : (n : ℕ) → replicate {A = ℕ} (suc n) 0 ≡ replicate n 0 ++ 0 ∷ []
zeros_after zero = refl
zeros_after (suc n) = ap (λ (xs : List ℕ). 0 ∷ xs) (zeros_after n)

pub zeros_more : (n : ℕ) → replicate {A = ℕ} (n + 1) 0 ≡ replicate n 0 ++ 0 ∷ []
zeros_more n = ap (λ (k : ℕ). replicate {A = ℕ} k 0) (add-one n) ∙ zeros_after n
