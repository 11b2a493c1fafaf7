-- A running stack holds its task.
use Rattle.std.proofs.Common.{◌≡◌, ◌⊎◌, inl, inr, ℕ, zero, suc, cond, Bool, true, false, List, [], ◌∷◌, Option, Some, None, slice_get, refl, sym, ap, subst, ◌∙◌}
use Rattle.ir_forms.specs.declared.ops.ValueNo.{ValueNo}
use Rattle.low_forms.specs.declared.code.Instr.{Instr}
use Rattle.low_forms.specs.declared.code.LowFunc.{LowFunc}
use Rattle.low_forms.specs.declared.code.LowModule.{LowModule}
use Rattle.low_forms.specs.declared.code.Term.{Term}
use Rattle.source_meaning.specs.Steps.{next}
use Rattle.source_meaning.specs.Tasks.{Program, Task, Ask, Reads, Writes, Allocs, Creates, Adds, Launches, Enters, JoinsAll, AwaitsOne, AwaitsAll, Outcome, Gave, FailedAt, Next, Goes, Asks, Ends}
use Rattle.source_meaning.specs.Values.{maybe}
use Rattle.async_objects.specs.declared.kinds.Val.{Val}
use Rattle.async_objects.specs.declared.kinds.Val.TheVariants as val
use Rattle.task_stack.specs.Frames.{Stack}
use Rattle.task_stack.specs.Local as local
use Rattle.task_stack.specs.Local.{free_step, operands}
use Rattle.task_stack.specs.Registers.{held, number_in, values_at}
use Rattle.task_stack.specs.Shared.{next_of, passed}
use Rattle.scf_blocks.specs.Code.{return, fail}
use Rattle.block_carry.specs.Same.{Known}
use Rattle.block_carry.specs.Laid.{Has}
use Rattle.block_carry.specs.Stands.{Stands}
use Rattle.block_carry.specs.Follows.{is_dealloc, passes, quiet_by, quiet, quiets, AsksFor, AsksSo, EndsSo, Comes}
use Rattle.block_carry.specs.Held.{Holds, DoesSo, GoesAlong, QuietHolds, StopsSo}
use Rattle.block_carry.proofs.Values.{none_is, some_is}
use Rattle.block_carry.proofs.Moves.{free_is, next_is, ahead}
use Rattle.block_carry.proofs.Over.{at_last}
use Rattle.block_carry.proofs.Whole.{code_follows}

module _ (p : Program) (code : LowModule) where
  -- an instruction that asks isn't a deallocation
  asks_more : (k : Known) (f : LowFunc) (i : Instr) (vs : List Val) (ask : Ask) → AsksFor p code k f i vs ask → is_dealloc i.kind ≡ false
  asks_more k f i vs (Reads b c) a = ap is_dealloc a.0
  asks_more k f i vs (Writes b c n) a = ap is_dealloc a.0
  asks_more k f i vs (Allocs dims) a = ap is_dealloc a.0
  asks_more k f i vs (Creates n) a = ap is_dealloc a.0
  asks_more k f i vs (Adds g x used) a = ap is_dealloc a.0
  asks_more k f i vs (Launches t r) a = ap is_dealloc a.0
  asks_more k f i vs (Enters loop) a = absurd a
  asks_more k f i vs (JoinsAll loop) a = absurd a
  asks_more k f i vs (AwaitsOne x) a = ap is_dealloc a.0
  asks_more k f i vs (AwaitsAll g) a = ap is_dealloc a.0

  -- shared instructions that aren't
  shared_stops : (s : Stack) (f : LowFunc) (i : Instr) → free_step code s ≡ local.Shared → next_of code s ≡ Some (ahead code f i) → is_dealloc i.kind ≡ false → quiet code s ≡ None
  shared_stops s f i shared is more = ap (λ l. quiet_by l code s) shared ∙ ap (maybe None (λ n. passes n s)) is ∙ ap (λ z. cond z (Some (passed s)) None) more

  asks_stop : (k : Known) (number : ℕ) (ask : Ask) (xs : List ValueNo) (t : Task) (s : Stack) → AsksSo p code k number ask xs t s → quiet code s ≡ None
  asks_stop k number ask xs t s a = shared_stops s a.f a.i a.shared a.is (asks_more k a.f a.i (operands s a.i) ask a.asks)

  last_stops : (s : Stack) (f : LowFunc) (tm : Term) (fails root : Bool) (vs : List Val) → s.is_root ≡ root → s.below ≡ [] → slice_get code.funcs s.top.current.place.func.0 ≡ Some f → Has f s.top.current.place.block.0 s.top.current.place.at [] tm →
      free_step code s ≡ local.leaves fails code vs s.below s → is_dealloc tm.instr.kind ≡ false → quiet code s ≡ None
  last_stops s f tm fails true vs root last is has step more = shared_stops s f tm.instr (step ∙ at_last fails code vs s true last root) (next_is code s f [] tm is has) more
  last_stops s f tm fails false vs root last is has step more = ap (λ l. quiet_by l code s) (step ∙ at_last fails code vs s false last root)

  ends_stop : (k : Known) (o : Outcome) (s : Stack) → EndsSo p code k o s → quiet code s ≡ None
  ends_stop k (Gave vs) s e = last_stops s e.f (return e.ends.0) false s.is_root (values_at s.top.current.regs e.ends.0) refl e.last e.is e.ends.1 (free_is code s e.f [] (return e.ends.0) e.is e.ends.1) refl
  ends_stop k (FailedAt number) s e =
      last_stops s e.f (fail e.ends.0) true s.is_root (val.Number (number_in (held s.top.current.regs e.ends.0.0)) ∷ []) refl e.last e.is e.ends.1 (free_is code s e.f [] (fail e.ends.0) e.is e.ends.1) refl

  -- ---- steps

  -- the first of some steps
  behind : (n : ℕ) (s a c : Stack) → quiet code s ≡ Some a → quiets code (suc n) s ≡ Some c → quiets code n a ≡ Some c
  behind n s a c q e = ap (maybe None (quiets code n)) (sym q) ∙ e

  both : {X : Type 0} (o : Option X) (x : X) → o ≡ None → o ≡ Some x → ⊥
  both o x e g = none_is x (sym e ∙ g)

  come_along : (k : Known) (t : Task) (s a : Stack) (x : Next) → next p t ≡ x → Comes p code k s x → quiet code s ≡ Some a → Holds p code k t a ⊎ GoesAlong p code k t a
  come_along k t s a (Goes after) is c q = inr (after, is, inl (c.0, c.1, behind c.0 s a c.1 q c.2, c.3))
  come_along k t s a (Asks number ask xs u) is c q = by c.0 c.1 c.2 c.3
    where
      by : (n : ℕ) (e : Stack) → quiets code n s ≡ Some e → AsksSo p code k number ask xs u e → Holds p code k t a ⊎ GoesAlong p code k t a
      by zero e h so = absurd (both (quiet code s) a (subst (λ z. quiet code z ≡ None) (sym (some_is s e h)) (asks_stop k number ask xs u e so)) q)
      by (suc n) e h so = inl (inr (subst (Comes p code k a) (sym is) (n, e, behind n s a e q h, so)))
  come_along k t s a (Ends o) is c q = by c.0 c.1 c.2 c.3
    where
      by : (n : ℕ) (e : Stack) → quiets code n s ≡ Some e → EndsSo p code k o e → Holds p code k t a ⊎ GoesAlong p code k t a
      by zero e h so = absurd (both (quiet code s) a (subst (λ z. quiet code z ≡ None) (sym (some_is s e h)) (ends_stop k o e so)) q)
      by (suc n) e h so = inl (inr (subst (Comes p code k a) (sym is) (n, e, behind n s a e q h, so)))

  no_more : (n : ℕ) (s c : Stack) → quiet code s ≡ None → quiets code (suc n) s ≡ Some c → ⊥
  no_more n s c q e = none_is c (ap (maybe None (quiets code n)) (sym q) ∙ e)

  come_at_once : (k : Known) (s : Stack) (x : Next) → Comes p code k s x → quiet code s ≡ None → DoesSo p code k s x
  come_at_once k s (Goes after) c q = absurd (no_more c.0 s c.1 q c.2)
  come_at_once k s (Asks number ask xs u) c q = by c.0 c.1 c.2 c.3
    where
      by : (n : ℕ) (e : Stack) → quiets code n s ≡ Some e → AsksSo p code k number ask xs u e → AsksSo p code k number ask xs u s
      by zero e h so = subst (AsksSo p code k number ask xs u) (sym (some_is s e h)) so
      by (suc n) e h so = absurd (no_more n s e q h)
  come_at_once k s (Ends o) c q = by c.0 c.1 c.2 c.3
    where
      by : (n : ℕ) (e : Stack) → quiets code n s ≡ Some e → EndsSo p code k o e → EndsSo p code k o s
      by zero e h so = subst (EndsSo p code k o) (sym (some_is s e h)) so
      by (suc n) e h so = absurd (no_more n s e q h)

pub quiet_holds : QuietHolds
quiet_holds p code all k t s a (inl one) ready q = by one.0 one.1 one.2 one.3
  where
    by : (n : ℕ) (c : Stack) → quiets code n s ≡ Some c → Stands p code k t c → Holds p code k t a ⊎ GoesAlong p code k t a
    by zero c h st = come_along p code k t s a (next p t) refl (code_follows p code all k t s (subst (Stands p code k t) (sym (some_is s c h)) st) ready) q
    by (suc n) c h st = inl (inl (n, c, behind p code n s a c q h, st))
quiet_holds p code all k t s a (inr comes) ready q = come_along p code k t s a (next p t) refl comes q

pub stops_so : StopsSo
stops_so p code all k t s (inl one) ready q = by one.0 one.1 one.2 one.3
  where
    by : (n : ℕ) (c : Stack) → quiets code n s ≡ Some c → Stands p code k t c → DoesSo p code k s (next p t)
    by zero c h st = come_at_once p code k s (next p t) (code_follows p code all k t s (subst (Stands p code k t) (sym (some_is s c h)) st) ready) q
    by (suc n) c h st = absurd (no_more p code n s c q h)
stops_so p code all k t s (inr comes) ready q = come_at_once p code k s (next p t) comes q
