-- What rows of shared instructions come to, in general.
use Rattle.std.proofs.Common.{◌≡◌, ◌<◌, ℕ, ◌+◌, ◌-◌, ◌&&◌, cond, Bool, true, false, List, [], ◌∷◌, ◌++◌, Option, Some, None, Result, Ok, Err, IfOk, sym, ap, subst, arith, append-nil}
use Rattle.std.proofs.lemmas.Bool.{le-leb, ne_eqb}
use Rattle.std.proofs.lemmas.Option.{same_Some, none-some}
use Rattle.ir_forms.specs.declared.runs.ObjNo.{ObjNo}
use Rattle.ir_forms.specs.declared.runs.TaskNo.{TaskNo}
use Rattle.async_objects.specs.declared.kinds.Val.{Val}
use Rattle.async_objects.specs.declared.kinds.Val.TheVariants.{Number, Buffer, Object}
use Rattle.async_objects.specs.Counts.{CountChange, count_at, is_there, raised, can_change, freed}
use Rattle.task_stack.specs.Frames.{Stack}
use Rattle.step_core.specs.declared.parts.Row.{Row}
use Rattle.step_core.specs.declared.parts.Row.TheVariants as the
use Rattle.step_core.specs.State.{Plain}
use Rattle.step_core.specs.Shared.{Act, Took, Takes, on_object}
use Rattle.step_core.specs.Plain.{object_in}
use Rattle.step_core.specs.Core.{Core, all_there, overlay, limited}
use Rattle.step_core.specs.Parts.{named, gone_on, IsRow}

-- ---- a row that wakes none

pub goes : (parked : Option ObjNo) (old new : Core) (w : List TaskNo) (t : ℕ) (first second : Stack) (act : Act) (took : Took Core) →
    took ≡ Takes (gone_on new t second parked []) [] act → IsRow (the.Goes parked) old new w w t first second took
goes parked old new w t first second act took e = ([], act, sym (append-nil w), e)

-- the answer of a call that goes on
pub given : {E : Type 0} (r : Result Row E) (P : Type 0) (Q : Row → Type 0) → IfOk r (λ row. (row ≡ the.Goes None) × P) → (P → Q (the.Goes None)) → IfOk r Q
given (Ok x) P Q h go = subst Q (sym h.0) (go h.1)
given (Err e) P Q h go = tt

pub given_both : {E : Type 0} (r : Result Row E) (P R : Type 0) (Q : Row → Type 0) → IfOk r (λ row. (row ≡ the.Goes None) × P × R) → (P → R → Q (the.Goes None)) → IfOk r Q
given_both (Ok x) P R Q h go = subst Q (sym h.0) (go h.1 h.2)
given_both (Err e) P R Q h go = tt

-- no count changes
pub taken : (c : Core) (after : Plain) (ws : List TaskNo) (act : Act) →
    limited None (overlay true c [] (Takes after ws act)) ≡ Takes (record { plain = after; counts = c.counts; gone = c.gone }) ws act
taken c after ws act = ap (λ g. let d : Core = record { plain = after; counts = c.counts; gone = g } in Takes d ws act) (append-nil c.gone)

-- ---- the object that it names is there

pub there : (v : Val) (c : Core) (cs : Val → List CountChange) (go : ObjNo → Took Plain) (o : ObjNo) → named v c.counts ≡ Some o →
    limited None (overlay (all_there (object_in v) c.counts) c (cs v) (on_object v go)) ≡ limited None (overlay true c (cs (Object o)) (go o))
there (Number n) c cs go o e = absurd (none-some o e)
there (Buffer n rank dims) c cs go o e = absurd (none-some o e)
there (Object x) c cs go o e = split (is_there c.counts x) e where
  split : (b : Bool) → cond b (Some x) None ≡ Some o → limited None (overlay (cond b true false) c (cs (Object x)) (go x)) ≡ limited None (overlay true c (cs (Object o)) (go o))
  split true e = ap (λ y. limited None (overlay true c (cs (Object y)) (go y))) (same_Some x o e)
  split false e = absurd (none-some o e)

-- ---- a count that grows

pub can_grow : (c : CountChange) (counts : List ℕ) → c.less ≡ 0 → can_change (c ∷ []) counts ≡ true
can_grow c counts none = ap (λ b. b && true) (le-leb c.less (raised c counts) (omega (arith, none)))

pub none_goes : (c : CountChange) (counts : List ℕ) → c.less ≡ 0 → 0 < c.made + c.more → freed (c ∷ []) counts ≡ []
none_goes c counts none some =
    ap (λ b. cond b (c.object ∷ []) [] ++ []) (ne_eqb (raised c counts - c.less) 0 (λ e. let sum : count_at counts c.object.0 + (c.made + c.more) - c.less ≡ 0 = e in omega (arith, none, some, sum)))
