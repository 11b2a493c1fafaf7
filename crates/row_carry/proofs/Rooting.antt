-- The root is the first task, and has not ended while it is there.
use Rattle.std.proofs.Common.{◌≡◌, ◌⊎◌, ℕ, zero, suc, ◌+◌, ◌==◌, cond, Bool, true, false, List, [], ◌∷◌, ◌++◌, length, Option, Some, None, refl, sym, ap, ◌∙◌, subst}
use Rattle.std.specs.Prelude.{drop, replicate, slice_get, slice_set, nat_lt}
use Rattle.std.proofs.Math.Logic.{⊎_elim}
use Rattle.std.proofs.lemmas.Bool.{cases_eq}
use Rattle.ir_forms.specs.declared.runs.FuncNo.{FuncNo}
use Rattle.ir_forms.specs.declared.runs.ObjNo.{ObjNo}
use Rattle.ir_forms.specs.Shapes.{product}
use Rattle.low_forms.specs.declared.code.Instr.{Instr}
use Rattle.low_forms.specs.declared.code.LowAttr.{LowAttr}
use Rattle.low_forms.specs.declared.code.LowAttr.TheVariants.{Callee}
use Rattle.low_forms.specs.declared.code.LowFunc.{LowFunc}
use Rattle.low_forms.specs.declared.code.LowKind.{LowKind}
use Rattle.low_forms.specs.declared.code.LowKind.TheVariants as kind
use Rattle.low_forms.specs.declared.code.LowModule.{LowModule}
use Rattle.low_forms.specs.declared.code.Target.{Target}
use Rattle.low_forms.specs.declared.code.Term.{Term}
use Rattle.source_meaning.specs.Values.{maybe, or_else}
use Rattle.async_objects.specs.declared.kinds.Val.{Val}
use Rattle.async_objects.specs.declared.kinds.Val.TheVariants as val
use Rattle.task_stack.specs.declared.effects.Effect.{Effect}
use Rattle.task_stack.specs.declared.effects.Effect.TheVariants as effect
use Rattle.task_stack.specs.declared.frames.Frame.{Frame}
use Rattle.task_stack.specs.Effects.{effect_of}
use Rattle.task_stack.specs.Numbers.{computed}
use Rattle.task_stack.specs.Registers.{value, values_at, number}
use Rattle.task_stack.specs.Frames.{Stack, Way, behind, into, went, settled, new_frame}
use Rattle.task_stack.specs.Local as local
use Rattle.task_stack.specs.Local.{Local, Standing, standing, operands, with_top, goes, pushes, calls, jumps, side, target_way, suspends, way_on, leaves, branch, inner_step, end_step, step_in, free_step}
use Rattle.task_stack.specs.Shared.{Next, next_of, passed}
use Rattle.step_core.specs.declared.ends.RootEnd.{RootEnd}
use Rattle.step_core.specs.declared.limits.Limit.TheVariants as limit
use Rattle.step_core.specs.declared.rows.SharedRow.{SharedRow}
use Rattle.step_core.specs.declared.rows.SharedRow.TheVariants as row
use Rattle.step_core.specs.declared.tasks.Task.{Task}
use Rattle.step_core.specs.Rows.{row_of_kind, shared_row}
use Rattle.step_core.specs.State.{Plain, with_task, with_buffers, counted, ready, cells_of, buffer_val}
use Rattle.step_core.specs.Shared as core
use Rattle.step_core.specs.Shared.{Act, Took, Stuck, Idle, Stopped, numbers, can_allocate, asked_sizes, cell_there, root_ends}
use Rattle.step_core.specs.High as upper
use Rattle.step_core.specs.High.{High, Ref, Outcome, Gathering, outcome, start, lifted, launched_stack, shared_row_step, shared_kind_step}
use Rattle.coro_carry.proofs.Lists.{get_push, pushed, set_same, set_other}
use Rattle.row_carry.specs.Laws.{HasRoot, KeepsRoot, RootStarts, RootStays}

-- ---- a local step stays the root's, or a launched task's

abbrev SameRoot : Bool → Local → Type 0
SameRoot b (local.Done after counts) = after.is_root ≡ b
SameRoot b _ = Unit {0}

maybe_root : {A : Type 0} (b : Bool) (go : A → Local) → ((x : A) → SameRoot b (go x)) → (o : Option A) → SameRoot b (maybe local.Stuck go o)
maybe_root b go each None = tt
maybe_root b go each (Some x) = each x

calls_root : (code : LowModule) (attr : LowAttr) (vs : List Val) (s : Stack) → SameRoot s.is_root (calls true code attr vs s)
calls_root code (Callee n) vs s = maybe_root s.is_root (λ f. pushes true (new_frame n f vs) s) (λ f. refl) (slice_get code.funcs n.0)
calls_root code _ vs s = tt

jumps_root : (f : LowFunc) (o : Option Target) (s : Stack) → SameRoot s.is_root (jumps f o s)
jumps_root f o s = maybe_root s.is_root (λ (u : Target). goes (into f u.block) (values_at s.top.current.regs u.args) s) (λ u. refl) o

suspends_root : (f : LowFunc) (u : Term) (s : Stack) → SameRoot s.is_root (suspends f u s)
suspends_root f u s =
    maybe_root s.is_root (λ k. maybe local.Stuck (λ way. goes way [] (with_top s (settled s.top))) (target_way f u k))
    (λ k. maybe_root s.is_root (λ (way : Way). goes way [] (with_top s (settled s.top))) (λ way. refl) (target_way f u k)) (side s.top.saved)

cond_root : (b c : Bool) → SameRoot b (cond c local.Shared local.Stuck)
cond_root b true = tt
cond_root b false = tt

leaves_root : (fails : Bool) (code : LowModule) (vs : List Val) (below : List Frame) (s : Stack) → SameRoot s.is_root (leaves fails code vs below s)
leaves_root fails code vs [] s = cond_root s.is_root s.is_root
leaves_root fails code vs (caller ∷ below) s =
    maybe_root s.is_root (λ (way : Way). local.Done (record { is_root = s.is_root; top = went way vs caller; below = below }) None) (λ way. refl) (way_on fails code caller.current.place)

inner_root : (e : Effect) (code : LowModule) (f : LowFunc) (i : Instr) (s : Stack) → SameRoot s.is_root (inner_step e true code f i s)
inner_root (effect.Computes n) code f i s = maybe_root s.is_root (λ v. goes (behind i.results) (v ∷ []) s) (λ v. refl) (computed n f i (operands s i))
inner_root effect.Skips code f i s = refl
inner_root effect.Launches code f i s = calls_root code i.attr (operands s i) s
inner_root effect.Saves code f i s = refl
inner_root effect.AddsReferences code f i s = refl
inner_root effect.DropsReferences code f i s = refl
inner_root effect.Shared code f i s = tt
inner_root _ code f i s = tt

end_root : (e : Effect) (code : LowModule) (f : LowFunc) (u : Term) (s : Stack) → SameRoot s.is_root (end_step e true code f u s)
end_root effect.Jumps code f u s = jumps_root f (slice_get u.targets 0) s
end_root effect.Branches code f u s = jumps_root f (slice_get u.targets (branch (number (operands s u.instr) 0))) s
end_root effect.Calls code f u s = calls_root code u.instr.attr (operands s u.instr) s
end_root effect.Returns code f u s = leaves_root false code (operands s u.instr) s.below s
end_root effect.Fails code f u s = leaves_root true code (val.Number (number (operands s u.instr) 0) ∷ []) s.below s
end_root effect.Suspends code f u s = suspends_root f u s
end_root effect.Shared code f u s = tt
end_root _ code f u s = tt

step_root : (instrs : List Instr) (code : LowModule) (f : LowFunc) (u : Term) (s : Stack) → SameRoot s.is_root (step_in true code f instrs u s)
step_root [] code f u s = end_root (effect_of u.instr.kind) code f u s
step_root (i ∷ is) code f u s = inner_root (effect_of i.kind) code f i s

free_root : (code : LowModule) (s : Stack) → SameRoot s.is_root (free_step code s)
free_root code s = maybe_root s.is_root (λ (st : Standing). step_in true code st.func st.rest.instrs st.rest.term s) (λ st. step_root st.rest.instrs code st.func st.rest.term s) (standing code s.top.current.place)

-- ---- steps of tasks

maybe_keeps : {A : Type 0} (go : A → Took High) → ((x : A) → KeepsRoot (go x)) → (none : Took High) → KeepsRoot none → (o : Option A) → KeepsRoot (maybe none go o)
maybe_keeps go each none stops None = stops
maybe_keeps go each none stops (Some x) = each x

cond_keeps : (x y : Took High) → KeepsRoot x → KeepsRoot y → (b : Bool) → KeepsRoot (cond b x y)
cond_keeps x y kx ky true = kx
cond_keeps x y kx ky false = ky

module _ (h : High) (t : ℕ) (task : Task) (at : slice_get h.plain.tasks t ≡ Some (Some task)) (has : HasRoot h) where
  abbrev stack : Stack
  stack = task.stack

  set_root : (next : Option Task) → ((x : Task) → next ≡ Some x → x.stack.is_root ≡ true → stack.is_root ≡ true) → (u : ℕ) (x : Task) → slice_get (slice_set h.plain.tasks t next) u ≡ Some (Some x) → x.stack.is_root ≡ true → (u ≡ 0) × (outcome h u ≡ None)
  set_root next same u x there root = ⊎_elim
      (λ e.
      let is : slice_get (slice_set h.plain.tasks t next) t ≡ Some (Some x) = subst (λ (y : ℕ). slice_get (slice_set h.plain.tasks t next) y ≡ Some (Some x)) e there in
      let one : Some next ≡ Some (Some x) = sym (set_same h.plain.tasks t (Some task) next at) ∙ is in
      subst (λ (y : ℕ). (y ≡ 0) × (outcome h y ≡ None)) (sym e) (has.first t task at (same x (ap (or_else None) one) root)))
      (λ no. has.first u x (sym (set_other h.plain.tasks t u next no) ∙ there) root)
      (cases_eq u t)

  -- the task goes on, and no other changes
  on_root : (s' : Stack) → s'.is_root ≡ stack.is_root → (x : Task) → ◌≡◌ {A = Option Task} (Some (ready s')) (Some x) → x.stack.is_root ≡ true → stack.is_root ≡ true
  on_root s' same x e root = sym same ∙ ap (λ (o : Option Task). maybe true (λ y. y.stack.is_root) o) e ∙ root

  none_root : (x : Task) → ◌≡◌ {A = Option Task} None (Some x) → x.stack.is_root ≡ true → stack.is_root ≡ true
  none_root x e root = cc

  goes_root : (x : High) (s' : Stack) → s'.is_root ≡ stack.is_root → x.plain.tasks ≡ slice_set h.plain.tasks t (Some (ready s')) → x.outcomes ≡ h.outcomes → HasRoot x
  goes_root x s' same tasks outcomes = record {
    first = λ u y there root. (
        let it : (u ≡ 0) × (outcome h u ≡ None) = set_root (Some (ready s')) (on_root s' same) u y (subst (λ (ts : List (Option Task)). slice_get ts u ≡ Some (Some y)) tasks there) root in
        (it.0, subst (λ (os : List (Option Outcome)). or_else None (slice_get os u) ≡ None) (sym outcomes) it.1));
    some = subst (λ (os : List (Option Outcome)). (o : Option Outcome) × (slice_get os 0 ≡ Some o)) (sym outcomes) has.some;
  }

  goes_on_root : (x : High) (s' : Stack) (act : Act) → s'.is_root ≡ stack.is_root → x.plain.tasks ≡ h.plain.tasks → x.outcomes ≡ h.outcomes → KeepsRoot (upper.goes_on x t s' act)
  goes_on_root x s' act same tasks outcomes = goes_root (upper.with_plain x (counted (with_task x.plain t (Some (ready s'))))) s' same (ap (λ (ts : List (Option Task)). slice_set ts t (Some (ready s'))) tasks) outcomes

  gone_root : (x : High) → x.plain.tasks ≡ slice_set h.plain.tasks t None → x.outcomes ≡ h.outcomes → HasRoot x
  gone_root x tasks outcomes = record {
    first = λ u y there root. (
        let it : (u ≡ 0) × (outcome h u ≡ None) = set_root None none_root u y (subst (λ (ts : List (Option Task)). slice_get ts u ≡ Some (Some y)) tasks there) root in
        (it.0, subst (λ (os : List (Option Outcome)). or_else None (slice_get os u) ≡ None) (sym outcomes) it.1));
    some = subst (λ (os : List (Option Outcome)). (o : Option Outcome) × (slice_get os 0 ≡ Some o)) (sym outcomes) has.some;
  }

  -- ---- launches

  launch_root : (n : FuncNo) (f : LowFunc) (i : Instr) (vs : List Val) → KeepsRoot (upper.launch_of n f i vs h t stack)
  launch_root n f i vs = record {
    first = λ u y there root. ⊎_elim
        (λ before. old u (set_root (Some (ready s')) (on_root s' refl) u y before root))
        (λ last. (let no : false ≡ true = ap (λ (o : Option Task). maybe false (λ z. z.stack.is_root) o) last.1 ∙ root in cc))
        (pushed (slice_set h.plain.tasks t (Some (ready s'))) (Some (ready (launched_stack n f vs))) u (Some y) there);
    some = (has.some.0, get_push h.outcomes None 0 has.some.0 has.some.1);
  }
    where
      s' : Stack
      s' = core.on stack i (upper.objects_from (length h.refs) (length i.results))

      old : (u : ℕ) → (u ≡ 0) × (outcome h u ≡ None) → (u ≡ 0) × (or_else None (slice_get (h.outcomes ++ None ∷ []) u) ≡ None)
      old u it =
          let zero_none : or_else None (slice_get h.outcomes 0) ≡ None = subst (λ (x : ℕ). or_else None (slice_get h.outcomes x) ≡ None) it.0 it.1 in
          let some_none : has.some.0 ≡ None = sym (ap (λ (o : Option (Option Outcome)). or_else None o) has.some.1) ∙ zero_none in
          (it.0, subst (λ (x : ℕ). or_else None (slice_get (h.outcomes ++ None ∷ []) x) ≡ None) (sym it.0) (ap (λ (o : Option (Option Outcome)). or_else None o) (get_push h.outcomes None 0 has.some.0 has.some.1) ∙ some_none))

  launches_root : (code : LowModule) (attr : LowAttr) (i : Instr) (vs : List Val) → KeepsRoot (upper.launches code attr i vs h t stack)
  launches_root code (Callee n) i vs = maybe_keeps (λ f. upper.launch_of n f i vs h t stack) (λ f. launch_root n f i vs) Stuck tt (slice_get code.funcs n.0)
  launches_root code _ i vs = tt

  -- ---- awaits

  to_root : (f : LowFunc) (u : Term) (j : ℕ) (vs : List Val) (o : ObjNo) → KeepsRoot (upper.goes_to f u j vs o h t stack)
  to_root f u j vs o =
      maybe_keeps (λ (way : Way). upper.goes_on h t (with_top stack (went way vs stack.top)) (core.Looks o)) (λ way. goes_on_root h (with_top stack (went way vs stack.top)) (core.Looks o) refl refl refl) Stuck tt (target_way f u j)

  outcome_root : (e : Outcome) (j : ℕ) (f : LowFunc) (u : Term) (o : ObjNo) → KeepsRoot (upper.awaits_outcome e j f u o h t stack)
  outcome_root (upper.Gave vals) j f u o = to_root f u 0 (upper.given_at vals j) o
  outcome_root upper.Failed j f u o = to_root f u 1 [] o

  group_root : (f : LowFunc) (u : Term) (o : ObjNo) (g : Gathering) → KeepsRoot (upper.awaits_group g f u o h t stack)
  group_root f u o g =
      cond_keeps (upper.goes_to f u (cond (upper.one_failed h g.members) 1 0) [] o h t stack) Idle (to_root f u (cond (upper.one_failed h g.members) 1 0) [] o) tt
      (cond (length g.members == g.size) (upper.all_ended h g.members) false)

  ref_root : (f : LowFunc) (u : Term) (o : ObjNo) (ref : Ref) → KeepsRoot (upper.awaits_ref ref f u o h t stack)
  ref_root f u o (upper.Element q j) = maybe_keeps (λ e. upper.awaits_outcome e j f u o h t stack) (λ e. outcome_root e j f u o) Idle tt (outcome h q)
  ref_root f u o (upper.Group k) = maybe_keeps (λ g. upper.awaits_group g f u o h t stack) (λ g. group_root f u o g) Stuck tt (slice_get h.groups k)

  on_ref_root : (v : Val) (go : ObjNo → Ref → Took High) → ((o : ObjNo) (ref : Ref) → KeepsRoot (go o ref)) → KeepsRoot (upper.on_ref v h go)
  on_ref_root (val.Object o) go each = maybe_keeps (go o) (each o) Stuck tt (slice_get h.refs o.0)
  on_ref_root _ go each = tt

  -- ---- groups

  add_root : (group : Gathering) (k q : ℕ) (g x : ObjNo) (i : Instr) → KeepsRoot (upper.adds_to group k q g x i h t stack)
  add_root group k q g x i =
      cond_keeps (upper.goes_on (record h { groups = slice_set h.groups k (record group { members = group.members ++ q ∷ [] }) }) t (core.on stack i (val.Number (length group.members) ∷ [])) (core.Adds g x (length group.members)))
      (Stopped (limit.Group group.size)) (goes_on_root (record h { groups = slice_set h.groups k (record group { members = group.members ++ q ∷ [] }) }) (core.on stack i (val.Number (length group.members) ∷ [])) (core.Adds g x (length group.members)) refl refl refl) tt
      (nat_lt (length group.members) group.size)

  add_by_root : (rg rx : Ref) (g x : ObjNo) (i : Instr) → KeepsRoot (upper.adds_by rg rx g x i h t stack)
  add_by_root (upper.Group k) (upper.Element q j) g x i = maybe_keeps (λ group. upper.adds_to group k q g x i h t stack) (λ group. add_root group k q g x i) Stuck tt (slice_get h.groups k)
  add_by_root (upper.Group k) (upper.Group m) g x i = tt
  add_by_root (upper.Element q j) rx g x i = tt

  -- ---- cells

  -- a step of the core that goes on with other cells
  cells_root : (s' : Stack) (buffers : List (List ℕ)) (act : Act) → s'.is_root ≡ stack.is_root → KeepsRoot (lifted h (core.goes_on (with_buffers h.plain buffers) t s' act))
  cells_root s' buffers act same = goes_root (upper.with_plain h (counted (with_task (with_buffers h.plain buffers) t (Some (ready s'))))) s' same refl refl

  where_root : (b : Bool) (took : Took Plain) → KeepsRoot (lifted h took) → KeepsRoot (lifted h (core.where_so b took))
  where_root true took k = k
  where_root false took k = tt

  some_root : {A : Type 0} (go : A → Took Plain) → ((x : A) → KeepsRoot (lifted h (go x))) → (o : Option A) → KeepsRoot (lifted h (maybe Stuck go o))
  some_root go each None = tt
  some_root go each (Some x) = each x

  buffer_root : (v : Val) (go : ℕ → List ℕ → Took Plain) → ((b : ℕ) (dims : List ℕ) → KeepsRoot (lifted h (go b dims))) → KeepsRoot (lifted h (core.on_buffer v go))
  buffer_root (val.Buffer b rank dims) go each = each b _
  buffer_root _ go each = tt

  end_by_root : (below : List Frame) (is_root : Bool) (e : RootEnd) → KeepsRoot (lifted h (root_ends h.plain t below is_root e))
  end_by_root [] true e = gone_root _ refl refl
  end_by_root [] false e = tt
  end_by_root (x ∷ below) true e = tt
  end_by_root (x ∷ below) false e = tt

  abbrev stored : ℕ → ℕ × ℕ → List Val → List (List ℕ)
  stored b c vs = slice_set h.plain.buffers b (slice_set (cells_of h.plain b) c.0 (number vs 0))

  row_root : (x : SharedRow) (f : LowFunc) (i : Instr) (vs : List Val) → KeepsRoot (shared_row_step x f i vs h t stack)
  row_root row.Allocate f i vs =
      where_root (can_allocate (asked_sizes f i vs))
      (core.goes_on (with_buffers h.plain (h.plain.buffers ++ replicate (product (asked_sizes f i vs)) 0 ∷ [])) t (core.on stack i (buffer_val (length h.plain.buffers) (asked_sizes f i vs) ∷ []))
      (core.Allocates (length h.plain.buffers) (product (asked_sizes f i vs))))
      (cells_root (core.on stack i (buffer_val (length h.plain.buffers) (asked_sizes f i vs) ∷ [])) (h.plain.buffers ++ replicate (product (asked_sizes f i vs)) 0 ∷ []) (core.Allocates (length h.plain.buffers) (product (asked_sizes f i vs))) refl)
  row_root row.Deallocate f i vs = goes_root (upper.with_plain h (counted (with_task h.plain t (Some (ready (passed stack)))))) (passed stack) refl refl refl
  row_root row.LoadCell f i vs =
      buffer_root (value vs 0) (λ b dims. maybe Stuck (λ (c : ℕ × ℕ). core.goes_on h.plain t (core.on stack i (val.Number c.1 ∷ [])) (core.Reads b c.0)) (cell_there (cells_of h.plain b) dims (numbers (drop 1 vs))))
      (λ b dims. some_root (λ (c : ℕ × ℕ). core.goes_on h.plain t (core.on stack i (val.Number c.1 ∷ [])) (core.Reads b c.0))
      (λ c. goes_root (upper.with_plain h (counted (with_task h.plain t (Some (ready (core.on stack i (val.Number c.1 ∷ []))))))) (core.on stack i (val.Number c.1 ∷ [])) refl refl refl) (cell_there (cells_of h.plain b) dims (numbers (drop 1 vs))))
  row_root row.StoreCell f i vs =
      buffer_root (value vs 1) (λ b dims. maybe Stuck (λ (c : ℕ × ℕ). core.goes_on (with_buffers h.plain (stored b c vs)) t (passed stack) (core.Writes b c.0)) (cell_there (cells_of h.plain b) dims (numbers (drop 2 vs))))
      (λ b dims. some_root (λ (c : ℕ × ℕ). core.goes_on (with_buffers h.plain (stored b c vs)) t (passed stack) (core.Writes b c.0)) (λ c. cells_root (passed stack) (stored b c vs) (core.Writes b c.0) refl)
      (cell_there (cells_of h.plain b) dims (numbers (drop 2 vs))))
  row_root row.Return f i vs = end_by_root stack.below stack.is_root _
  row_root row.Fail f i vs = end_by_root stack.below stack.is_root _
  row_root row.CreateGroup f i vs =
      goes_on_root (record h { refs = h.refs ++ upper.Group (length h.groups) ∷ []; groups = h.groups ++ record { size = number vs 0; members = [] } ∷ [] }) (core.on stack i (val.Object (record { 0 = length h.refs }) ∷ []))
      (core.Creates (record { 0 = length h.refs })) refl refl refl
  row_root row.AddToGroup f i vs =
      on_ref_root (value vs 0) (λ x rx. upper.on_ref (value vs 1) h (λ g rg. upper.adds_by rg rx g x i h t stack)) (λ x rx. on_ref_root (value vs 1) (λ g rg. upper.adds_by rg rx g x i h t stack) (λ g rg. add_by_root rg rx g x i))
  row_root _ f i vs = tt

  kind_root : (kd : LowKind) (code : LowModule) (f : LowFunc) (i : Instr) (u : Term) (vs : List Val) → KeepsRoot (shared_kind_step kd code f i u vs h t stack)
  kind_root kind.Launch code f i u vs = launches_root code i.attr i vs
  kind_root kind.Await code f i u vs = on_ref_root (value vs 0) (λ o ref. upper.awaits_ref ref f u o h t stack) (λ o ref. ref_root f u o ref)
  kind_root (kind.Row x) code f i u vs = row_root (row_of_kind x) f i vs

  -- ---- ends

  task_end_root : (e : Outcome) → stack.is_root ≡ false → KeepsRoot (upper.task_ends e h t)
  task_end_root e launched = record {
    first = λ u y there root. ⊎_elim
        (λ same. (let is : slice_get (slice_set h.plain.tasks t None) t ≡ Some (Some y) = subst (λ (x : ℕ). slice_get (slice_set h.plain.tasks t None) x ≡ Some (Some y)) same there in
        let no : Some None ≡ Some (Some y) = sym (set_same h.plain.tasks t (Some task) None at) ∙ is in cc))
        (λ no. (let it = has.first u y (sym (set_other h.plain.tasks t u None no) ∙ there) root in (it.0, ap (or_else None) (set_other h.outcomes t u (Some e) no) ∙ it.1)))
        (cases_eq u t);
    some = ⊎_elim
        (λ same. (Some e, set_same' same))
        (λ no. (has.some.0, set_other h.outcomes t 0 (Some e) no ∙ has.some.1))
        (cases_eq 0 t);
  }
    where
      set_same' : 0 ≡ t → slice_get (slice_set h.outcomes t (Some e)) 0 ≡ Some (Some e)
      set_same' same = subst (λ (x : ℕ). slice_get (slice_set h.outcomes x (Some e)) 0 ≡ Some (Some e)) same (set_same h.outcomes 0 has.some.0 (Some e) has.some.1)

  last_root : (x : SharedRow) (vs : List Val) (below : List Frame) (b : Bool) → stack.is_root ≡ b → KeepsRoot (upper.last_ends x vs below b h t)
  last_root row.Return vs [] false is = task_end_root (upper.Gave vs) is
  last_root row.Fail vs [] false is = task_end_root upper.Failed is
  last_root row.Return vs [] true is = tt
  last_root row.Fail vs [] true is = tt
  last_root row.Return vs (y ∷ below) b is = tt
  last_root row.Fail vs (y ∷ below) b is = tt
  last_root _ vs below b is = tt

  by_root : (code : LowModule) (l : Local) → SameRoot stack.is_root l → KeepsRoot (upper.by_local l code h t stack)
  by_root code (local.Done after counts) same = goes_on_root h after core.Nothing same refl refl
  by_root code local.Shared same =
      maybe_keeps (λ (n : Next). maybe Stuck (λ (st : Standing). upper.shared_at code n st.rest.term h t stack) (standing code stack.top.current.place))
      (λ n. maybe_keeps (λ (st : Standing). upper.shared_at code n st.rest.term h t stack) (λ st. kind_root n.instr.kind code n.func n.instr st.rest.term (operands stack n.instr)) Stuck tt (standing code stack.top.current.place)) Stuck tt (next_of code stack)
  by_root code local.Stuck same =
      maybe_keeps (λ (n : Next). upper.stuck_at n h t stack) (λ n. last_root (shared_row n.instr.kind) (operands stack n.instr) stack.below stack.is_root refl) Stuck tt (next_of code stack)
  by_root code local.Deep same = tt

step_of : (code : LowModule) (h : High) (t : ℕ) → HasRoot h → (o : Option (Option Task)) → slice_get h.plain.tasks t ≡ o → KeepsRoot (maybe Idle (λ task. upper.by_local (free_step code task.stack) code h t task.stack) (or_else None o))
step_of code h t has None at = tt
step_of code h t has (Some None) at = tt
step_of code h t has (Some (Some task)) at = by_root h t task at has code (free_step code task.stack) (free_root code task.stack)

pub root_stays : RootStays
root_stays code h t has = step_of code h t has (slice_get h.plain.tasks t) refl

pub root_starts : RootStarts
root_starts n f args = record { first = first; some = (None, refl) }
  where
    first : (t : ℕ) (task : Task) → slice_get (start n f args).plain.tasks t ≡ Some (Some task) → task.stack.is_root ≡ true → (t ≡ 0) × (outcome (start n f args) t ≡ None)
    first zero task at root = (refl, refl)
    first (suc t) task at root = cc
