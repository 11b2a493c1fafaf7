-- What the rows on objects come to.
use Rattle.std.proofs.Common.{◌≡◌, ◌<◌, ℕ, ◌+◌, cond, Bool, true, false, List, [], ◌∷◌, ◌++◌, length, Option, Some, None, IsSome, MatchOption, refl, sym, ap, subst, ◌∙◌, arith, append-nil}
use Rattle.std.proofs.lemmas.Bool.{true≢false, lt-ltb}
use Rattle.ir_forms.specs.declared.runs.ObjNo.{ObjNo}
use Rattle.ir_forms.specs.declared.runs.TaskNo.{TaskNo}
use Rattle.low_forms.specs.declared.code.Instr.{Instr}
use Rattle.low_forms.specs.declared.code.LowFunc.{LowFunc}
use Rattle.source_meaning.specs.Rows.{bit}
use Rattle.source_meaning.specs.Values.{maybe}
use Rattle.async_objects.specs.declared.kinds.Kind.{Kind}
use Rattle.async_objects.specs.declared.kinds.Kind.TheVariants.{Token, Value, Group}
use Rattle.async_objects.specs.declared.kinds.State as the_state
use Rattle.async_objects.specs.declared.kinds.State.TheVariants.{Unset, Available, Error}
use Rattle.async_objects.specs.declared.object.Object.{Object as Obj}
use Rattle.async_objects.specs.declared.kinds.Val.{Val}
use Rattle.async_objects.specs.declared.kinds.Val.TheVariants.{Number, Object}
use Rattle.async_objects.specs.Objects.{object_at, created, awaited, stored, is_group, is_unset, is_done, is_error, is_open, state_by, state_of}
use Rattle.async_objects.specs.Counts.{CountChange, made, first_count, live, all_changed, can_change, freed, without, create_changes}
use Rattle.async_objects.specs.Tables.{Table, with_objects, with_created}
use Rattle.task_stack.specs.declared.frames.Activation.{Activation}
use Rattle.task_stack.specs.Frames.{Stack}
use Rattle.task_stack.specs.Registers.{value}
use Rattle.task_stack.specs.Shared.{moved, passed, kept, becomes}
use Rattle.step_core.specs.declared.limits.Limit.TheVariants as limit
use Rattle.step_core.specs.declared.limits.Limits.{Limits}
use Rattle.step_core.specs.declared.parts.Row.TheVariants as the
use Rattle.step_core.specs.declared.rows.SharedRow.TheVariants as row
use Rattle.step_core.specs.State as state
use Rattle.step_core.specs.State.{Plain, with_task, counted, ready}
use Rattle.step_core.specs.Shared.{Act, Stuck, Takes, Nothing, Creates, Looks, on, on_object, goes_on, awaits, looks, loads, stores}
use Rattle.step_core.specs.Plain.{object_in}
use Rattle.step_core.specs.Core.{Core, all_there, counting, overlay, unless, limited}
use Rattle.step_core.specs.Parts.{named, with_table, gone_on, row_step, create_step, await_step, IsRow}
use Rattle.step_core.proofs.RowLemmas.{goes, taken, there, can_grow, none_goes}

-- ---- open objects

pub open_group : (x : Obj) → is_group x.kind ≡ true → is_open x ≡ false
open_group x e = ap (λ b. cond b false (is_unset x.state)) e

pub open_single : (x : Obj) → is_group x.kind ≡ false → is_open x ≡ is_unset (state_of x)
open_single x e = split x.kind refl e where
  split : (k : Kind) → x.kind ≡ k → is_group k ≡ false → is_open x ≡ is_unset (state_of x)
  split Token is e = ap (λ k. cond (is_group k) false (is_unset x.state)) is ∙ sym (ap (λ k. is_unset (state_by k x)) is)
  split Value is e = ap (λ k. cond (is_group k) false (is_unset x.state)) is ∙ sym (ap (λ k. is_unset (state_by k x)) is)
  split (Group size) is e = absurd (true≢false e)

unset : (s : the_state.State) → is_unset s ≡ true → s ≡ Unset
unset Unset e = refl
unset Available e = absurd (true≢false (sym e))
unset Error e = absurd (true≢false (sym e))

single : (x : Obj) → is_open x ≡ true → is_group x.kind ≡ false
single x opened = split (is_group x.kind) opened where
  split : (b : Bool) → cond b false (is_unset x.state) ≡ true → b ≡ false
  split true h = absurd (true≢false (sym h))
  split false h = refl

pub open_unset : (x : Obj) → is_open x ≡ true → state_of x ≡ Unset
open_unset x opened = unset (state_of x) (sym (open_single x (single x opened)) ∙ opened)

-- ---- making

first_some : (k : Kind) → 0 < first_count k + 0
first_some Token = omega arith
first_some Value = omega arith
first_some (Group size) = omega arith

same_number : (o : ObjNo) (n : ℕ) → o.0 ≡ n → record { 0 = n } ≡ o
same_number o n e = λ i. record { 0 = sym e i }

module _ (k : Kind) (l : Limits) (i : Instr) (table table' : Table) (rest : Core) (w : List TaskNo) (t : ℕ) (stack stack' : Stack) (limits : l.objects ≡ table.limit) where
  can_make : can_change (create_changes k table.objects) table.counts ≡ true
  can_make = can_grow (made (record { 0 = length table.objects }) (first_count k)) table.counts refl

  none_gone : freed (create_changes k table.objects) table.counts ≡ []
  none_gone = none_goes (made (record { 0 = length table.objects }) (first_count k)) table.counts refl (first_some k)

  pub create_goes : (o : ObjNo) → o.0 ≡ length table.objects → live table.counts < table.limit → table' ≡ with_created k table → stack' ≡ moved i.results (Object o ∷ []) stack →
      IsRow (the.Goes None) (with_table table rest) (with_table table' rest) w w t stack stack' (create_step k l i (with_table table rest) t stack)
  create_goes o number few table_is stack_is =
      let c : Core = with_table table rest in
      let cs : List CountChange = create_changes k table.objects in
      let n : ObjNo = record { 0 = length table.objects } in
      let after : ObjNo → Plain = λ o. counted (with_task (state.with_objects c.plain (created k table.objects)) t (Some (ready (on stack i (Object o ∷ []))))) in
      let act : Act = Creates n in
      goes None c (with_table table' rest) w t stack stack' act (create_step k l i c t stack)
      (ap (λ b. limited (unless b (limit.Objects (live table.counts))) (cond (can_change cs table.counts) (Takes (counting c cs (after n)) [] act) Stuck)) (lt-ltb (live table.counts) l.objects (omega (arith, few, limits)))
      ∙ (ap (λ b. limited None (cond b (Takes (counting c cs (after n)) [] act) Stuck)) can_make
      ∙ (ap (λ os. let d : Core = record { plain = state.with_objects (after n) (without os (after n).objects); counts = all_changed cs table.counts; gone = rest.gone ++ os } in Takes d [] act) none_gone
      ∙ (ap (λ g. let d : Core = record { plain = after n; counts = all_changed cs table.counts; gone = g } in Takes d [] act) (append-nil rest.gone)
      ∙ (ap (λ x. let d : Core = record { plain = after x; counts = all_changed cs table.counts; gone = rest.gone } in Takes d [] act) (same_number o (length table.objects) number)
      ∙ (ap (λ x. Takes (gone_on (with_table x rest) t (on stack i (Object o ∷ [])) None []) [] act) (sym table_is)
      ∙ ap (λ x. Takes (gone_on (with_table table' rest) t x None []) [] act) (sym stack_is)))))))

-- ---- awaiting

module _ (table table' : Table) (rest : Core) (w : List TaskNo) (task : TaskNo) (first second : Stack) where
  pub await_goes : (v : Val) (o : ObjNo) (parked : Option ObjNo) (after : Stack) → named v table.counts ≡ Some o → parked ≡ cond (is_done (object_at table.objects o)) None (Some o) →
      table' ≡ with_objects (awaited o task table.objects) table → second ≡ after →
      IsRow (the.Goes parked) (with_table table rest) (with_table table' rest) w w task.0 first second (await_step v after (with_table table rest) task.0)
  await_goes v o parked after is parked_is table_is stack_is =
      let c : Core = with_table table rest in
      let waits : Option ObjNo = cond (is_done (object_at table.objects o)) None (Some o) in
      goes parked c (with_table table' rest) w task.0 first second Nothing (await_step v after c task.0)
      (there v c (λ x. []) (awaits c.plain task.0 after) o is
      ∙ (taken c (counted (with_task (state.with_objects c.plain (awaited o task table.objects)) task.0 (Some (record { stack = after; parked = waits })))) [] Nothing
      ∙ (λ j. Takes (gone_on (with_table (sym table_is j) rest) task.0 (sym stack_is j) (sym parked_is j) []) [] Nothing)))

  -- it goes on as its kept copy
  pub resume_await_goes : (l : Limits) (f : LowFunc) (i : Instr) (vs : List Val) (o : ObjNo) (parked : Option ObjNo) (b : Bool) → named (value vs 0) table.counts ≡ Some o →
      parked ≡ cond (is_done (object_at table.objects o)) None (Some o) → table' ≡ with_objects (awaited o task table.objects) table → IsSome (kept first) →
      MatchOption (kept first) ((b ≡ false) × (second ≡ first)) (λ copy. (b ≡ true) × (second ≡ becomes copy first)) →
      IsRow (the.Goes parked) (with_table table rest) (with_table table' rest) w w task.0 first second (row_step l row.AwaitAndResume f i vs (with_table table rest) task.0 first)
  resume_await_goes l f i vs o parked b is parked_is table_is some became = split (kept first) refl some became where
    split : (k : Option Activation) → kept first ≡ k → IsSome k → MatchOption k ((b ≡ false) × (second ≡ first)) (λ copy. (b ≡ true) × (second ≡ becomes copy first)) →
        IsRow (the.Goes parked) (with_table table rest) (with_table table' rest) w w task.0 first second (row_step l row.AwaitAndResume f i vs (with_table table rest) task.0 first)
    split None e some became = absurd (true≢false (sym some))
    split (Some copy) e some became =
        subst (λ k. IsRow (the.Goes parked) (with_table table rest) (with_table table' rest) w w task.0 first second (limited None (overlay (all_there (object_in (value vs 0)) table.counts) (with_table table rest) [] (maybe Stuck (λ copy. on_object (value vs 0) (awaits (with_table table rest).plain task.0 (becomes copy first))) k))))
        (sym e) (await_goes (value vs 0) o parked (becomes copy first) is parked_is table_is became.1)

-- ---- looking, loading and storing

module _ (l : Limits) (f : LowFunc) (i : Instr) (vs : List Val) (table table' : Table) (rest : Core) (w : List TaskNo) (t : ℕ) (first second : Stack) where
  pub looks_goes : (o : ObjNo) → named (value vs 0) table.counts ≡ Some o → is_done (object_at table.objects o) ≡ true → table' ≡ table →
      second ≡ moved i.results (Number (bit (is_error (state_of (object_at table.objects o)))) ∷ []) first →
      IsRow (the.Goes None) (with_table table rest) (with_table table' rest) w w t first second (row_step l row.IsError f i vs (with_table table rest) t first)
  looks_goes o is done table_is stack_is =
      let c : Core = with_table table rest in
      let after : Stack = on first i (Number (bit (is_error (state_of (object_at table.objects o)))) ∷ []) in
      goes None c (with_table table' rest) w t first second (Looks o) (row_step l row.IsError f i vs c t first)
      (there (value vs 0) c (λ x. []) (looks c.plain t first i) o is
      ∙ (ap (λ b. limited None (overlay true c [] (cond b (goes_on c.plain t after (Looks o)) Stuck))) done
      ∙ (taken c (counted (with_task c.plain t (Some (ready after)))) [] (Looks o)
      ∙ (ap (λ x. Takes (gone_on (with_table x rest) t after None []) [] (Looks o)) (sym table_is)
      ∙ ap (λ x. Takes (gone_on (with_table table' rest) t x None []) [] (Looks o)) (sym stack_is)))))

  pub loads_goes : (o : ObjNo) (v : Val) → named (value vs 0) table.counts ≡ Some o → (object_at table.objects o).payload ≡ Some v → table' ≡ table →
      second ≡ moved i.results (v ∷ []) first →
      IsRow (the.Goes None) (with_table table rest) (with_table table' rest) w w t first second (row_step l row.Load f i vs (with_table table rest) t first)
  loads_goes o v is some table_is stack_is =
      let c : Core = with_table table rest in
      let after : Stack = on first i (v ∷ []) in
      goes None c (with_table table' rest) w t first second Nothing (row_step l row.Load f i vs c t first)
      (there (value vs 0) c (λ x. []) (loads c.plain t first i) o is
      ∙ (ap (λ p. limited None (overlay true c [] (maybe Stuck (λ v. goes_on c.plain t (on first i (v ∷ [])) Nothing) p))) some
      ∙ (taken c (counted (with_task c.plain t (Some (ready after)))) [] Nothing
      ∙ (ap (λ x. Takes (gone_on (with_table x rest) t after None []) [] Nothing) (sym table_is)
      ∙ ap (λ x. Takes (gone_on (with_table table' rest) t x None []) [] Nothing) (sym stack_is)))))

  pub stores_goes : (o : ObjNo) → named (value vs 1) table.counts ≡ Some o → is_open (object_at table.objects o) ≡ true → table' ≡ with_objects (stored o (value vs 0) table.objects) table →
      second ≡ passed first →
      IsRow (the.Goes None) (with_table table rest) (with_table table' rest) w w t first second (row_step l row.Store f i vs (with_table table rest) t first)
  stores_goes o is opened table_is stack_is =
      let c : Core = with_table table rest in
      let s : Plain = state.with_objects c.plain (stored o (value vs 0) table.objects) in
      goes None c (with_table table' rest) w t first second Nothing (row_step l row.Store f i vs c t first)
      (there (value vs 1) c (λ x. []) (stores c.plain t first (value vs 0)) o is
      ∙ (ap (λ b. limited None (overlay true c [] (cond b (goes_on s t (passed first) Nothing) Stuck))) opened
      ∙ (taken c (counted (with_task s t (Some (ready (passed first))))) [] Nothing
      ∙ (ap (λ x. Takes (gone_on (with_table x rest) t (passed first) None []) [] Nothing) (sym table_is)
      ∙ ap (λ x. Takes (gone_on (with_table table' rest) t x None []) [] Nothing) (sym stack_is)))))
