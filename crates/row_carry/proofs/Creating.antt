-- A group is made.
use Rattle.std.proofs.Common.{◌≡◌, ℕ, ◌+◌, ◌==◌, cond, Bool, true, false, List, [], ◌∷◌, ◌++◌, map, length, Option, Some, refl, sym, ap, ◌∙◌, subst}
use Rattle.std.specs.Prelude.{slice_get, slice_set}
use Rattle.std.proofs.lemmas.List.{length-map}
use Rattle.op_table.specs.declared.kind.OpKind.TheVariants as op
use Rattle.ir_forms.specs.declared.args.ArgValue.{ArgValue}
use Rattle.ir_forms.specs.declared.runs.FuncNo.{FuncNo}
use Rattle.ir_forms.specs.declared.runs.ObjNo.{ObjNo}
use Rattle.low_forms.specs.declared.code.Instr.{Instr}
use Rattle.low_forms.specs.declared.code.LowFunc.{LowFunc}
use Rattle.low_forms.specs.declared.code.LowKind.{LowKind}
use Rattle.low_forms.specs.declared.code.LowKind.TheVariants as kind
use Rattle.low_forms.specs.declared.code.LowModule.{LowModule}
use Rattle.source_meaning.specs.Values.{maybe}
use Rattle.async_objects.specs.declared.kinds.Kind.TheVariants as object_kind
use Rattle.async_objects.specs.declared.kinds.Val.TheVariants as val
use Rattle.async_objects.specs.declared.object.Object.{Object}
use Rattle.async_objects.specs.Objects.{is_done, is_error, new_object, object_or, object_at}
use Rattle.async_objects.specs.declared.kinds.State.TheVariants.{Unset, Available}
use Rattle.task_stack.specs.Effects.{effect_of}
use Rattle.task_stack.specs.Registers.{number}
use Rattle.task_stack.specs.Local as local
use Rattle.task_stack.specs.Local.{Standing, standing, operands, inner_step}
use Rattle.task_stack.specs.Shared.{Next, moved}
use Rattle.step_core.specs.declared.tasks.Task.{Task}
use Rattle.step_core.specs.Rows.{shared_row}
use Rattle.step_core.specs.State.{Plain, ready, with_task, with_objects, counted}
use Rattle.step_core.specs.Shared as core
use Rattle.step_core.specs.Shared.{Stuck, Takes, shared_step}
use Rattle.step_core.specs.Plain.{plain_step}
use Rattle.step_core.specs.High as upper
use Rattle.step_core.specs.High.{High, Ref, Gathering, high_step, shared_kind_step}
use Rattle.machines.specs.Reading.{known, read}
use Rattle.code_machines.specs.Numbered as as_number
use Rattle.code_machines.specs.HighCode.{size_in, creates_at, high_shown}
use Rattle.code_machines.specs.CoreCode.{core_shown}
use Rattle.code_machines.specs.Objects as as_object
use Rattle.code_machines.specs.Objects.{Stands, Objects, objects, reads_create, after_create}
use Rattle.coro_lower.specs.Rows.{called, call_kind}
use Rattle.coro_lower.specs.Shape.{term_of, lowered}
use Rattle.plain_carry.specs.Alike.{AllAlike, stands_for}
use Rattle.plain_carry.proofs.Values.{at_alike}
use Rattle.coro_carry.specs.Relation.{View, face, view, Settled, Match, MatchAt, lands, at_row, AtRow, Agree, top}
use Rattle.coro_carry.specs.Laws.{Running, Followed}
use Rattle.coro_carry.proofs.Lists.{get_last, push_length, in_block_on, in_code_on}
use Rattle.coro_carry.proofs.Frames.{data_bound}
use Rattle.coro_carry.proofs.Growing.{data_grows, under_grows}
use Rattle.coro_carry.proofs.Inner as inner
use Rattle.coro_carry.proofs.Steps.{low, both}
use Rattle.row_carry.specs.Laws.{makes_group, CreateFollows}
use Rattle.row_carry.proofs.Growing.{map_push, grown, grows, each_grows, all_settled, all_named}

made_call : (kd : LowKind) → makes_group kd → call_kind kd ≡ kd
made_call kd is = ap call_kind is ∙ sym is

module _ (code : LowModule) (n : FuncNo) (fl gh : LowFunc) (args : List ArgValue) (s : Plain) (k : Objects) (h : High) (t : ℕ) (task task' : Task) (r : Running code n fl gh args s k h t task task')
    (a : AtRow code (view s k h) t task task') (i : Instr) (is : List Instr) (next : a.rest.instrs ≡ i ∷ is) (makes : makes_group i.kind) where
  same_row : called i ≡ i
  same_row = ap (λ (kd : LowKind). let j : Instr = record i { kind = kd } in j) (made_call i.kind makes)

  abbrev V : View
  V = view s k h

  abbrev size : ℕ
  size = number (operands task.stack i) 0

  abbrev size' : ℕ
  size' = number (operands task'.stack i) 0

  sizes : size ≡ size'
  sizes = at_alike k.stands h.refs (operands task.stack i) (operands task'.stack i) 0 (inner.alike code n fl gh args s k h t task task' r a i is next same_row)

  -- ---- what is made

  abbrev made : Object
  made = new_object (object_kind.Group size)

  abbrev group : Gathering
  group = record { size = size'; members = [] }

  abbrev o : ObjNo
  o = record { 0 = length s.objects }

  abbrev p : ObjNo
  p = record { 0 = length h.refs }

  abbrev ref : Ref
  ref = upper.Group (length h.groups)

  abbrev what : Stands
  what = as_object.Group k.groups

  what_is : what ≡ stands_for ref
  what_is = ap (λ (x : ℕ). as_object.Group x) r.agree.counted

  abbrev W : View
  W = grown V (face made) what ref group

  -- ---- both steps

  abbrev next_task : Task
  next_task = ready (moved i.results (val.Object o ∷ []) task.stack)

  abbrev next_task' : Task
  next_task' = ready (moved i.results (val.Object p ∷ []) task'.stack)

  abbrev after : Plain
  after = counted (with_task (with_objects s (s.objects ++ made ∷ [])) t (Some next_task))

  abbrev after' : High
  after' = record { plain = counted (with_task h.plain t (Some next_task')); outcomes = h.outcomes; refs = h.refs ++ ref ∷ []; groups = h.groups ++ group ∷ [] }

  steps : plain_step (low code) s t ≡ Takes after [] (core.Creates o)
  steps =
      inner.low_by code n fl gh args s k h t task task' r a i is next same_row local.Shared (ap (λ (kd : LowKind). inner_step (effect_of kd) true (low code) (lowered a.func) i task.stack) makes)
      ∙ ap (λ (x : Option Next). maybe Stuck (λ y. shared_step (shared_row y.instr.kind) y.func y.instr (operands task.stack y.instr) s t task.stack) x) (inner.low_next code n fl gh args s k h t task task' r a i is next same_row)
      ∙ ap (λ (kd : LowKind). shared_step (shared_row kd) (lowered a.func) i (operands task.stack i) s t task.stack) makes

  steps' : high_step code h t ≡ Takes after' [] (core.Creates p)
  steps' =
      inner.high_by code n fl gh args s k h t task task' r a i is next same_row local.Shared (ap (λ (kd : LowKind). inner_step (effect_of kd) true code a.func i task'.stack) makes)
      ∙ ap (λ (x : Option Next). maybe Stuck (λ y. maybe Stuck (λ st. upper.shared_at code y st.rest.term h t task'.stack) (standing code task'.stack.top.current.place)) x) (inner.high_next code n fl gh args s k h t task task' r a i is next same_row)
      ∙ ap (λ (x : Option Standing). maybe Stuck (λ st. upper.shared_at code (record { func = a.func; instr = i }) st.rest.term h t task'.stack) x) (inner.high_stands code n fl gh args s k h t task task' r a i is next same_row)
      ∙ ap (λ (kd : LowKind). shared_kind_step kd code a.func i a.rest.term (operands task'.stack i) h t task'.stack) makes

  -- ---- what they show

  kind_at : (object_at (s.objects ++ made ∷ []) o).kind ≡ object_kind.Group size
  kind_at = ap (λ (x : Option Object). (object_or x).kind) (get_last s.objects made (length s.objects) refl)

  shows : read objects k (core_shown (low code) s after t (core.Creates o)) ≡ high_shown code h after' t (core.Creates p)
  shows =
      ap (λ kd. reads_create t kd k ++ []) kind_at
      ∙ ap (λ (x : ℕ). as_number.Creates t x size ∷ []) r.agree.counted
      ∙ ap (λ (x : ℕ). as_number.Creates t (length h.groups) x ∷ []) (sizes ∙ sym size_is)
      ∙ sym (ap (λ (x : Option Ref). creates_at after' t x) (get_last h.refs ref (length h.refs) refl))
    where
      size_is : size_in after' (length h.groups) ≡ size'
      size_is = ap (λ (x : Option Gathering). maybe 0 (λ g. g.size) x) (get_last h.groups group (length h.groups) refl)

  abbrev known_now : Objects
  known_now = record k { stands = k.stands ++ what ∷ []; groups = k.groups + 1 }

  known_is : known objects k (core_shown (low code) s after t (core.Creates o)) ≡ known_now
  known_is = ap (λ kd. after_create t kd k) kind_at

  -- ---- the task, behind the row

  alike : AllAlike W.stands W.refs (val.Object o ∷ []) (val.Object p ∷ [])
  alike = ((ref, get_last h.refs ref (length h.refs) refl, get_last k.stands what (length s.objects) (sym r.agree.as_many) ∙ ap (λ (x : Stands). Some x) what_is), tt)

  stands_on : Match code W t next_task next_task'
  stands_on = lands (at_row (record {
    func = a.func;
    block = a.block;
    rest = inner.behind' code n fl gh args s k h t task task' r a i is next same_row;
    row = record {
      above = record { func = (inner.above code n fl gh args s k h t task task' r a i is next same_row).func; block = (inner.above code n fl gh args s k h t task task' r a i is next same_row).block; here = in_block_on a.block.instrs a.block.term (top task').place.at i is a.rest.term (inner.above code n fl gh args s k h t task task' r a i is next same_row).here };
      stays = a.row.stays;
      below = record {
        func = (inner.below code n fl gh args s k h t task task' r a i is next same_row).func;
        here = in_code_on (slice_get (lowered a.func).blocks (top task).place.block.0) (top task).place.at i
            (inner.left code n fl gh args s k h t task task' r a i is next same_row)
            (term_of (inner.e code n fl gh args s k h t task task' r a i is next same_row) a.func (inner.number code n fl gh args s k h t task task' r a i is next same_row) a.rest.term) (inner.below code n fl gh args s k h t task task' r a i is next same_row).here;
      };
    };
    both = data_bound a.func W t i.results (val.Object o ∷ []) (val.Object p ∷ []) (top task).regs (top task').regs (inner.within code n fl gh args s k h t task task' r a i is next same_row).results alike
        (data_grows code V W (grows code V (face made) what ref group) t a.func (top task).regs (top task').regs a.both);
    saved = a.saved;
    ready = refl;
    under = record { root = a.under.root; frames = (under_grows code V W (grows code V (face made) what ref group) t task task' a.under).frames };
  }))

  -- ---- states agree again

  many : length k.stands ≡ length V.faces
  many = r.agree.as_many ∙ sym (length-map s.objects face)

  faces_are : map face (s.objects ++ made ∷ []) ≡ W.faces
  faces_are = map_push face s.objects made

  group_here : slice_get W.groups k.groups ≡ Some group
  group_here = get_last h.groups group k.groups r.agree.counted

  -- an empty group of size 0 is done
  settled_new : is_done (face made) ≡ true → Settled W (face made) (Some what)
  settled_new done = record { group = group; there = group_here; full = ap (λ (x : ℕ). 0 == x) (sym sizes) ∙ done; over = refl; failed = by (0 == size) }
    where
      by : (b : Bool) → false ≡ is_error (cond b Available Unset)
      by true = refl
      by false = refl

  agrees : Agree code after known_now after'
  agrees = record {
    buffers = r.agree.buffers;
    arguments = r.agree.arguments;
    root_end = r.agree.root_end;
    tasks = subst (λ (fs : List Object). (u : ℕ) → MatchAt code (record { faces = fs; stands = W.stands; refs = W.refs; outcomes = W.outcomes; groups = W.groups }) u (slice_get (slice_set s.tasks t (Some next_task)) u) (slice_get (slice_set h.plain.tasks t (Some next_task')) u))
        (sym faces_are) (each_grows code V (face made) what ref group s.tasks h.plain.tasks t task task' next_task next_task' r.now r.now' r.agree.tasks stands_on);
    counted = ap (λ (x : ℕ). x + 1) r.agree.counted ∙ sym (push_length h.groups group);
    as_many = push_length k.stands what ∙ ap (λ (x : ℕ). x + 1) r.agree.as_many ∙ sym (push_length s.objects made);
    named = subst (λ (fs : List Object). (x : ℕ) (w : Stands) → slice_get W.stands x ≡ Some w → (y : Object) × (slice_get fs x ≡ Some y)) (sym faces_are)
        (all_named code V (face made) what ref group many r.agree.named);
    settled = subst (λ (fs : List Object). (x : ℕ) (y : Object) → slice_get fs x ≡ Some y → is_done y ≡ true → Settled (record { faces = fs; stands = W.stands; refs = W.refs; outcomes = W.outcomes; groups = W.groups }) y (slice_get W.stands x)) (sym faces_are)
        (all_settled code V (face made) what ref group many r.agree.settled settled_new);
  }

  pub create_goes : Followed code n fl gh args s k h t
  create_goes =
      both code n fl gh args s after k h after' t [] [] (core.Creates o) (core.Creates p) r.safe steps steps' shows
      (subst (λ (x : Objects). Agree code after x after') (sym known_is) agrees)

pub create_follows : CreateFollows
create_follows code n f g args s k h t task task' r a i is next makes = create_goes code n f g args s k h t task task' r a i is next makes
