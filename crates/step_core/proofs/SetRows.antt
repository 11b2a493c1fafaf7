-- What sets and adds come to.
use Rattle.std.proofs.Common.{◌≡◌, ℕ, cond, Bool, true, false, List, [], ◌∷◌, ◌++◌, Some, None, refl, sym, ap, ◌∙◌, arith, append-nil}
use Rattle.std.proofs.lemmas.Bool.{true≢false}
use Rattle.std.proofs.lemmas.Option.{same_Some, none-some}
use Rattle.ir_forms.specs.declared.runs.ObjNo.{ObjNo}
use Rattle.ir_forms.specs.declared.runs.TaskNo.{TaskNo}
use Rattle.low_forms.specs.declared.code.Instr.{Instr}
use Rattle.low_forms.specs.declared.code.LowFunc.{LowFunc}
use Rattle.async_objects.specs.declared.kinds.Kind.{Kind}
use Rattle.async_objects.specs.declared.kinds.Kind.TheVariants.{Token, Value, Group}
use Rattle.async_objects.specs.declared.kinds.State as the_state
use Rattle.async_objects.specs.declared.kinds.State.TheVariants.{Unset, Available, Error}
use Rattle.async_objects.specs.declared.kinds.Val.{Val}
use Rattle.async_objects.specs.declared.kinds.Val.TheVariants.{Number, Buffer, Object}
use Rattle.async_objects.specs.declared.object.Object.{Object as Obj}
use Rattle.async_objects.specs.Objects.{Waking, object_at, is_group, is_open, takes_more, set_to, added}
use Rattle.async_objects.specs.Counts.{CountChange, is_there, more, joins, all_changed, can_change, freed, without, add_changes, set_changes}
use Rattle.async_objects.specs.Tables.{Table, with_set, with_element}
use Rattle.task_stack.specs.Frames.{Stack}
use Rattle.task_stack.specs.Registers.{value}
use Rattle.task_stack.specs.Shared.{moved, passed}
use Rattle.step_core.specs.declared.limits.Limit.TheVariants as limit
use Rattle.step_core.specs.declared.limits.Limits.{Limits}
use Rattle.step_core.specs.declared.parts.Row.TheVariants as the
use Rattle.step_core.specs.declared.rows.SharedRow.TheVariants as row
use Rattle.step_core.specs.State as state
use Rattle.step_core.specs.State.{Plain, with_task, counted, ready, woken}
use Rattle.step_core.specs.Shared.{Act, Took, Stuck, Stopped, Takes, Adds, Sets, on, on_object, wakes, sets, adds, adds_by}
use Rattle.step_core.specs.Plain.{object_in, of_object}
use Rattle.step_core.specs.Core.{Core, all_there, counting, overlay, limited}
use Rattle.step_core.specs.Parts.{named, with_table, with_gone, gone_on, row_step, set_step, IsRow}
use Rattle.step_core.proofs.RowLemmas.{there, can_grow, none_goes}

-- ---- setting

module _ (to : the_state.State) (v : Val) (table table' : Table) (gone gone' : List ObjNo) (rest : Core) (ws ws' : List TaskNo) (t : ℕ) (first second : Stack) where
  pub set_goes : (o : ObjNo) → named v table.counts ≡ Some o → is_open (object_at table.objects o) ≡ true → can_change (set_changes o table.objects) table.counts ≡ true →
      table' ≡ with_set to o table → gone' ≡ gone ++ freed (set_changes o table.objects) table.counts → ws' ≡ ws ++ (set_to to o table.objects).tasks → second ≡ passed first →
      IsRow (the.Goes None) (with_gone gone (with_table table rest)) (with_gone gone' (with_table table' rest)) ws ws' t first second (set_step to v (with_gone gone (with_table table rest)) t first)
  set_goes o is opened can table_is gone_is ws_is stack_is =
      let c : Core = with_gone gone (with_table table rest) in
      let w : Waking = set_to to o table.objects in
      let cs : List CountChange = set_changes o table.objects in
      let act : Act = Sets o to in
      let set : Plain = counted (with_task (state.with_objects c.plain w.objects) t (Some (ready (passed first)))) in
      let after : Plain = record set { tasks = woken w.tasks set.tasks } in (
        w.tasks,
        act,
        ws_is,
        there v c (λ x. of_object x (λ o. set_changes o table.objects)) (sets to c.plain t first) o is
            ∙ (ap (λ b. limited None (overlay true c cs (cond b (wakes c.plain t (passed first) w act) Stuck))) opened
            ∙ (ap (λ b. limited None (cond b (Takes (counting c cs after) w.tasks act) Stuck)) can
            ∙ (λ i. Takes (gone_on (with_gone (sym gone_is i) (with_table (sym table_is i) rest)) t (sym stack_is i) None w.tasks) w.tasks act))),
      )

-- ---- adding

-- it is there
first_there : (v : Val) (c : Core) (us : List ObjNo) (cs : Val → List CountChange) (go : ObjNo → Took Plain) (o : ObjNo) → named v c.counts ≡ Some o →
    limited None (overlay (all_there (object_in v ++ us) c.counts) c (cs v) (on_object v go)) ≡ limited None (overlay (all_there us c.counts) c (cs (Object o)) (go o))
first_there (Number n) c us cs go o e = absurd (none-some o e)
first_there (Buffer n rank dims) c us cs go o e = absurd (none-some o e)
first_there (Object x) c us cs go o e = split (is_there c.counts x) e where
  split : (b : Bool) → cond b (Some x) None ≡ Some o →
      limited None (overlay (cond b (all_there us c.counts) false) c (cs (Object x)) (go x)) ≡ limited None (overlay (all_there us c.counts) c (cs (Object o)) (go o))
  split true e = ap (λ y. limited None (overlay (all_there us c.counts) c (cs (Object y)) (go y))) (same_Some x o e)
  split false e = absurd (none-some o e)

pub can_join : (s : the_state.State) (g : ObjNo) (counts : List ℕ) → (can_change (joins s g) counts ≡ true) × (freed (joins s g) counts ≡ [])
can_join Unset g counts = (can_grow (more g 1) counts refl, none_goes (more g 1) counts refl (omega arith))
can_join Available g counts = (refl, refl)
can_join Error g counts = (refl, refl)

module _ (l : Limits) (f : LowFunc) (i : Instr) (vs : List Val) (table table' : Table) (gone : List ObjNo) (rest : Core) (ws ws' : List TaskNo) (t : ℕ) (first second : Stack) where
  -- with the element there
  element_there : (x : ObjNo) → named (value vs 0) table.counts ≡ Some x →
      let c : Core = with_gone gone (with_table table rest) in
      row_step l row.AddToGroup f i vs c t first ≡ limited None (overlay (all_there (object_in (value vs 1)) c.counts) c (of_object (value vs 1) (λ g. add_changes x g table.objects)) (on_object (value vs 1) (adds c.plain t first i x)))
  element_there x is =
      let c : Core = with_gone gone (with_table table rest) in
      first_there (value vs 0) c (object_in (value vs 1)) (λ v. of_object v (λ x. of_object (value vs 1) (λ g. add_changes x g table.objects))) (λ x. on_object (value vs 1) (adds c.plain t first i x)) x is

  -- with both there
  both_there : (x g : ObjNo) → named (value vs 0) table.counts ≡ Some x → named (value vs 1) table.counts ≡ Some g →
      let c : Core = with_gone gone (with_table table rest) in
      row_step l row.AddToGroup f i vs c t first ≡ limited None (overlay true c (add_changes x g table.objects) (adds c.plain t first i x g))
  both_there x g is is' =
      let c : Core = with_gone gone (with_table table rest) in
      element_there x is ∙ there (value vs 1) c (λ v. of_object v (λ g. add_changes x g table.objects)) (adds c.plain t first i x) g is'

  -- with an element that is no group
  single_there : (x g : ObjNo) → named (value vs 0) table.counts ≡ Some x → named (value vs 1) table.counts ≡ Some g → is_group (object_at table.objects x).kind ≡ false →
      let c : Core = with_gone gone (with_table table rest) in
      row_step l row.AddToGroup f i vs c t first ≡ limited None (overlay true c (add_changes x g table.objects) (adds_by (object_at table.objects g).kind c.plain t first i x g))
  single_there x g is is' alone =
      let c : Core = with_gone gone (with_table table rest) in
      both_there x g is is' ∙ ap (λ b. limited None (overlay true c (add_changes x g table.objects) (cond b Stuck (adds_by (object_at table.objects g).kind c.plain t first i x g)))) alone

  pub add_goes : (x g : ObjNo) (rank : ℕ) → named (value vs 0) table.counts ≡ Some x → named (value vs 1) table.counts ≡ Some g → is_group (object_at table.objects x).kind ≡ false → is_group (object_at table.objects g).kind ≡ true →
      rank ≡ (object_at table.objects g).members.added → takes_more (object_at table.objects g) ≡ true → table' ≡ with_element x g table → ws' ≡ ws ++ (added x g table.objects).tasks → second ≡ moved i.results (Number rank ∷ []) first →
      IsRow (the.Goes None) (with_gone gone (with_table table rest)) (with_gone gone (with_table table' rest)) ws ws' t first second (row_step l row.AddToGroup f i vs (with_gone gone (with_table table rest)) t first)
  add_goes x g rank is is' alone grouped rank_is takes table_is ws_is stack_is =
      let c : Core = with_gone gone (with_table table rest) in
      let y : Obj = object_at table.objects g in
      let w : Waking = added x g table.objects in
      let cs : List CountChange = add_changes x g table.objects in
      let act : Act = Adds g x y.members.added in
      let to : Stack = on first i (Number y.members.added ∷ []) in
      let set : Plain = counted (with_task (state.with_objects c.plain w.objects) t (Some (ready to))) in
      let after : Plain = record set { tasks = woken w.tasks set.tasks } in (
        w.tasks,
        act,
        ws_is,
        single_there x g is is' alone
            ∙ (ap (λ took. limited None (overlay true c cs took)) (joined y.kind grouped)
            ∙ (ap (λ b. limited None (cond b (Takes (counting c cs after) w.tasks act) Stuck)) (can_join (object_at table.objects x).state g table.counts).0
            ∙ (ap (λ os. let d : Core = record { plain = state.with_objects after (without os after.objects); counts = all_changed cs table.counts; gone = gone ++ os } in Takes d w.tasks act) (can_join (object_at table.objects x).state g table.counts).1
            ∙ (ap (λ os. let d : Core = record { plain = after; counts = all_changed cs table.counts; gone = os } in Takes d w.tasks act) (append-nil gone)
            ∙ (λ j. Takes (gone_on (with_gone gone (with_table (sym table_is j) rest)) t ((ap (λ n. on first i (Number n ∷ [])) (sym rank_is) ∙ sym stack_is) j) None w.tasks) w.tasks act))))),
      )
    where
      joined : (k : Kind) → is_group k ≡ true →
          let c : Core = with_gone gone (with_table table rest) in
          adds_by k c.plain t first i x g ≡ wakes c.plain t (on first i (Number (object_at table.objects g).members.added ∷ [])) (added x g table.objects) (Adds g x (object_at table.objects g).members.added)
      joined Token e = absurd (true≢false (sym e))
      joined Value e = absurd (true≢false (sym e))
      joined (Group size) e =
          let c : Core = with_gone gone (with_table table rest) in
          ap (λ b. cond b (wakes c.plain t (on first i (Number (object_at table.objects g).members.added ∷ [])) (added x g table.objects) (Adds g x (object_at table.objects g).members.added)) (Stopped (limit.Group size))) takes
