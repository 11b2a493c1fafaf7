-- The end of the root.
use Rattle.std.proofs.Common.{◌≡◌, ◌⊎◌, ℕ, cond, not, Bool, true, false, List, [], ◌∷◌, Option, Some, None, refl, sym, ap, ◌∙◌, subst}
use Rattle.std.specs.Prelude.{◌%◌, ◌^◌, slice_get, slice_set}
use Rattle.std.proofs.Math.Logic.{⊎_elim}
use Rattle.std.proofs.lemmas.Bool.{cases_eq}
use Rattle.op_table.specs.declared.kind.OpKind.TheVariants as op
use Rattle.ir_forms.specs.declared.args.ArgValue.{ArgValue}
use Rattle.ir_forms.specs.declared.runs.FuncNo.{FuncNo}
use Rattle.ir_forms.specs.declared.runs.Out.{Out}
use Rattle.ir_forms.specs.declared.types.Ty.{Ty}
use Rattle.low_forms.specs.declared.code.Instr.{Instr}
use Rattle.low_forms.specs.declared.code.LowFunc.{LowFunc}
use Rattle.low_forms.specs.declared.code.LowKind.{LowKind}
use Rattle.low_forms.specs.declared.code.LowKind.TheVariants as kind
use Rattle.low_forms.specs.declared.code.LowModule.{LowModule}
use Rattle.low_forms.specs.declared.code.Term.{Term}
use Rattle.source_meaning.specs.Start.{out_type}
use Rattle.source_meaning.specs.Values.{maybe}
use Rattle.async_objects.specs.declared.kinds.Val.{Val}
use Rattle.async_objects.specs.declared.kinds.Val.TheVariants as val
use Rattle.task_stack.specs.declared.frames.Frame.{Frame}
use Rattle.task_stack.specs.Effects.{effect_of}
use Rattle.task_stack.specs.Registers.{number, number_in}
use Rattle.task_stack.specs.Local as local
use Rattle.task_stack.specs.Local.{Standing, standing, operands, leaves, end_step}
use Rattle.task_stack.specs.Shared.{Next, next_of, first_of}
use Rattle.step_core.specs.declared.ends.RootEnd.{RootEnd}
use Rattle.step_core.specs.declared.ends.RootEnd.TheVariants.{Returned, FailedAt}
use Rattle.step_core.specs.declared.tasks.Task.{Task}
use Rattle.step_core.specs.Rows.{shared_row}
use Rattle.step_core.specs.State.{Plain, with_task, counted}
use Rattle.step_core.specs.Shared as core
use Rattle.step_core.specs.Shared.{Stuck, Takes, outs, root_ends, shared_step}
use Rattle.step_core.specs.Plain.{plain_step}
use Rattle.step_core.specs.High as upper
use Rattle.step_core.specs.High.{High, Outcome, has_failed, high_step, lifted, with_plain, shared_kind_step}
use Rattle.machines.specs.Reading.{read}
use Rattle.code_machines.specs.Numbered as as_number
use Rattle.code_machines.specs.HighCode.{ended_well, high_shown}
use Rattle.code_machines.specs.CoreCode as by_object
use Rattle.code_machines.specs.CoreCode.{root_at, core_shown}
use Rattle.code_machines.specs.Objects.{Objects, objects}
use Rattle.coro_lower.specs.declared.label.End.TheVariants as end
use Rattle.coro_lower.specs.Layout.{plain_end, task_end, end_of}
use Rattle.coro_lower.specs.Registers.{object_types}
use Rattle.coro_lower.specs.Shape.{lowered}
use Rattle.plain_carry.specs.Alike.{AllAlike}
use Rattle.plain_carry.proofs.Values.{number_alike, at_alike}
use Rattle.coro_carry.specs.Relation.{View, view, MatchAt, AllWait, AtRow, Agree, top}
use Rattle.coro_carry.specs.Laws.{Running, Followed, is_return}
use Rattle.coro_carry.proofs.Lists.{set_same, set_other}
use Rattle.coro_carry.proofs.Jumps as ends
use Rattle.coro_carry.proofs.Steps.{low, both}
use Rattle.row_carry.specs.Laws.{IsRoot, RootEndFollows}

outs_alike : (ts : List Ty) (vs ws : List Val) (V : View) → AllAlike V.stands V.refs vs ws → outs ts vs ≡ outs ts ws
outs_alike [] vs ws V same = refl
outs_alike (y ∷ ts) [] [] V same = refl
outs_alike (y ∷ ts) [] (w ∷ ws) V same = elim same [ ]
outs_alike (y ∷ ts) (v ∷ vs) [] V same = elim same [ ]
outs_alike (y ∷ ts) (v ∷ vs) (w ∷ ws) V same =
    ap (λ (x : ℕ). let it : Out = record { ty = out_type y; bits = x } in it ∷ outs ts vs) (number_alike V.stands V.refs v w same.0)
    ∙ ap (λ (xs : List Out). let it : Out = record { ty = out_type y; bits = number_in w } in it ∷ xs) (outs_alike ts vs ws V same.1)

-- a return that stays is a plain function's
no_task : (c : Bool) → cond c (task_end (kind.Row op.FuncReturn)) (plain_end (kind.Row op.FuncReturn)) ≡ end.Stays → c ≡ false
no_task true e = cc
no_task false e = refl

abbrev code_of : ℕ → RootEnd
code_of x = FailedAt (x % 2 ^ 32)

-- the state after the root's end
abbrev ended : Plain → ℕ → RootEnd → Plain
ended s t e = record (counted (with_task s t None)) { root_end = Some e }

module _ (code : LowModule) (n : FuncNo) (fl gh : LowFunc) (args : List ArgValue) (s : Plain) (k : Objects) (h : High) (t : ℕ) (task task' : Task) (r : Running code n fl gh args s k h t task task')
    (root : IsRoot h t task') where
  abbrev V : View
  V = view s k h

  abbrev F : Type 0
  F = Followed code n fl gh args s k h t

  abbrev after' : RootEnd → High
  after' e = with_plain h (ended h.plain t e)

  agrees : (e : RootEnd) → Agree code (ended s t e) k (after' e)
  agrees e = record { buffers = r.agree.buffers; arguments = r.agree.arguments; root_end = refl; tasks = each; counted = r.agree.counted; as_many = r.agree.as_many; named = r.agree.named; settled = r.agree.settled }
    where
      each : (u : ℕ) → MatchAt code V u (slice_get (slice_set s.tasks t None) u) (slice_get (slice_set h.plain.tasks t None) u)
      each u = ⊎_elim
          (λ same. subst (λ (x : ℕ). MatchAt code V x (slice_get (slice_set s.tasks t None) x) (slice_get (slice_set h.plain.tasks t None) x)) (sym same)
          (subst (λ (o : Option (Option Task)). MatchAt code V t o (slice_get (slice_set h.plain.tasks t None) t)) (sym (set_same s.tasks t (Some task) None r.now))
          (subst (λ (o : Option (Option Task)). MatchAt code V t (Some None) o) (sym (set_same h.plain.tasks t (Some task') None r.now')) tt)))
          (λ no. subst (λ (o : Option (Option Task)). MatchAt code V u o (slice_get (slice_set h.plain.tasks t None) u)) (sym (set_other s.tasks t u None no))
          (subst (λ (o : Option (Option Task)). MatchAt code V u (slice_get s.tasks u) o) (sym (set_other h.plain.tasks t u None no)) (r.agree.tasks u)))
          (cases_eq u t)

  shows : (e : RootEnd) → read objects k (core_shown (low code) s (ended s t e) t core.Ends) ≡ high_shown code h (after' e) t core.Ends
  shows e =
      ap (λ (x : Option Bool). read objects k (by_object.Ends t x ∷ [])) (ap (λ (x : ℕ). root_at (ended s t e) x) root.first)
      ∙ sym (ap (λ (o : Option Outcome). as_number.Ends t (maybe (ended_well e) (λ x. not (has_failed x)) o) ∷ []) root.runs)

  pub goes : (e : RootEnd) → plain_step (low code) s t ≡ Takes (ended s t e) [] core.Ends → high_step code h t ≡ Takes (after' e) [] core.Ends → F
  goes e lo hi = both code n fl gh args s (ended s t e) k h (after' e) t [] [] core.Ends core.Ends r.safe lo hi (shows e) (agrees e)

  -- ---- a return, and a failure

  module _ (a : AtRow code (view s k h) t task task') (last : a.rest.instrs ≡ []) (stays : end_of a.func a.block ≡ end.Stays) where
    abbrev instr : Instr
    instr = a.rest.term.instr

    none_below : (xs xs' : List Frame) → AllWait code V t xs xs' → xs' ≡ [] → xs ≡ []
    none_below [] xs' w e = refl
    none_below (x ∷ xs) [] w e = elim w [ ]
    none_below (x ∷ xs) (x' ∷ xs') w e = cc

    alone : task.stack.below ≡ []
    alone = none_below task.stack.below task'.stack.below a.under.frames root.alone

    is_root : task.stack.is_root ≡ true
    is_root = a.under.root ∙ root.root

    abbrev given : List Val
    given = operands task.stack instr

    abbrev given' : List Val
    given' = operands task'.stack instr

    same : AllAlike k.stands h.refs given given'
    same = ends.alike code n fl gh args s k h t task task' r a last stays

    low_shared : (fails : Bool) (vs : List Val) → leaves fails (low code) vs task.stack.below task.stack ≡ local.Shared
    low_shared fails vs = ap (λ (xs : List Frame). leaves fails (low code) vs xs task.stack) alone ∙ ap (λ (b : Bool). cond b local.Shared local.Stuck) is_root

    high_shared : (fails : Bool) (vs : List Val) → leaves fails code vs task'.stack.below task'.stack ≡ local.Shared
    high_shared fails vs = ap (λ (xs : List Frame). leaves fails code vs xs task'.stack) root.alone ∙ ap (λ (b : Bool). cond b local.Shared local.Stuck) root.root

    low_ends : (e : RootEnd) → root_ends s t task.stack.below task.stack.is_root e ≡ Takes (ended s t e) [] core.Ends
    low_ends e = ap (λ (xs : List Frame). root_ends s t xs task.stack.is_root e) alone ∙ ap (λ (b : Bool). root_ends s t [] b e) is_root

    high_ends : (e : RootEnd) → root_ends h.plain t task'.stack.below task'.stack.is_root e ≡ Takes (ended h.plain t e) [] core.Ends
    high_ends e = ap (λ (xs : List Frame). root_ends h.plain t xs task'.stack.is_root e) root.alone ∙ ap (λ (b : Bool). root_ends h.plain t [] b e) root.root

    low_next : next_of (low code) task.stack ≡ Some (record { func = lowered a.func; instr = instr })
    low_next = ap (λ (o : Option Standing). maybe None (λ st. let x : Next = record { func = st.func; instr = first_of st.rest.instrs st.rest.term } in Some x) o) (ends.low_stands code n fl gh args s k h t task task' r a last stays)

    low_row : (kd : LowKind) → instr.kind ≡ kd → end_step (effect_of kd) true (low code) (lowered a.func) (ends.term code n fl gh args s k h t task task' r a last stays) task.stack ≡ local.Shared →
        plain_step (low code) s t ≡ shared_step (shared_row kd) (lowered a.func) instr given s t task.stack
    low_row kd is shared =
        ends.low_by code n fl gh args s k h t task task' r a last stays local.Shared
        (ap (λ (x : LowKind). end_step (effect_of x) true (low code) (lowered a.func) (ends.term code n fl gh args s k h t task task' r a last stays) task.stack) is ∙ shared)
        ∙ ap (λ (o : Option Next). maybe Stuck (λ x. shared_step (shared_row x.instr.kind) x.func x.instr (operands task.stack x.instr) s t task.stack) o) low_next
        ∙ ap (λ (x : LowKind). shared_step (shared_row x) (lowered a.func) instr given s t task.stack) is

    high_row : (kd : LowKind) → instr.kind ≡ kd → end_step (effect_of kd) true code a.func a.rest.term task'.stack ≡ local.Shared → high_step code h t ≡ shared_kind_step kd code a.func instr a.rest.term given' h t task'.stack
    high_row kd is shared =
        ends.high_by code n fl gh args s k h t task task' r a last stays local.Shared (ap (λ (x : LowKind). end_step (effect_of x) true code a.func a.rest.term task'.stack) is ∙ shared)
        ∙ ap (λ (o : Option Next). maybe Stuck (λ x. maybe Stuck (λ st. upper.shared_at code x st.rest.term h t task'.stack) (standing code task'.stack.top.current.place)) o) (ends.high_next code n fl gh args s k h t task task' r a last stays)
        ∙ ap (λ (o : Option Standing). maybe Stuck (λ st. upper.shared_at code (record { func = a.func; instr = instr }) st.rest.term h t task'.stack) o) (ends.high_stands code n fl gh args s k h t task task' r a last stays)
        ∙ ap (λ (x : LowKind). shared_kind_step x code a.func instr a.rest.term given' h t task'.stack) is

    plain_here : instr.kind ≡ kind.Row op.FuncReturn → a.func.coroutine ≡ false
    plain_here is =
        let its : a.block.term.instr.kind ≡ kind.Row op.FuncReturn = subst (λ (x : Term). x.instr.kind ≡ kind.Row op.FuncReturn) (ends.its_term code n fl gh args s k h t task task' r a last stays) is in
        no_task a.func.coroutine (ap (λ (x : LowKind). cond a.func.coroutine (task_end x) (plain_end x)) (sym its) ∙ stays)

    returns : instr.kind ≡ kind.Row op.FuncReturn → F
    returns is =
        goes (Returned (outs a.func.results given'))
        (low_row (kind.Row op.FuncReturn) is (low_shared false given)
        ∙ ap (λ (b : Bool). root_ends s t task.stack.below task.stack.is_root (Returned (outs (cond b (object_types a.func.results) a.func.results) given))) (plain_here is)
        ∙ ap (λ (xs : List Out). root_ends s t task.stack.below task.stack.is_root (Returned xs)) (outs_alike a.func.results given given' V same)
        ∙ low_ends (Returned (outs a.func.results given')))
        (high_row (kind.Row op.FuncReturn) is (high_shared false given') ∙ ap (lifted h) (high_ends (Returned (outs a.func.results given'))))

    fails : instr.kind ≡ kind.Row op.AioFail → F
    fails is =
        goes (code_of (number given' 0))
        (low_row (kind.Row op.AioFail) is (low_shared true (val.Number (number given 0) ∷ []))
        ∙ ap (λ (x : ℕ). root_ends s t task.stack.below task.stack.is_root (code_of x)) (at_alike k.stands h.refs given given' 0 same)
        ∙ low_ends (code_of (number given' 0)))
        (high_row (kind.Row op.AioFail) is (high_shared true (val.Number (number given' 0) ∷ [])) ∙ ap (lifted h) (high_ends (code_of (number given' 0))))

    pub root_goes : (x : LowKind) → instr.kind ≡ x → is_return x ≡ true → F
    root_goes (kind.Row op.FuncReturn) is yes' = returns is
    root_goes (kind.Row op.AioFail) is yes' = fails is
    root_goes x is yes' = cc

pub root_end_follows : RootEndFollows
root_end_follows code n f g args s k h t task task' r at last stays root is = root_goes code n f g args s k h t task task' r root at last stays at.rest.term.instr.kind refl is
