-- Awaits in the machine of code with the high rows.
use Rattle.std.proofs.Common.{◌≡◌, ℕ, [], ◌∷◌, Option, Some, None, slice_get, refl, sym, ap, subst, ◌∙◌}
use Rattle.ir_forms.specs.declared.names.ElementName.{ElementName}
use Rattle.ir_forms.specs.declared.names.ElementName.TheVariants.{Token, Value}
use Rattle.ir_forms.specs.declared.runs.ObjNo.{ObjNo}
use Rattle.low_forms.specs.declared.code.LowFunc.{LowFunc}
use Rattle.low_forms.specs.declared.code.LowModule.{LowModule}
use Rattle.low_forms.specs.declared.code.Reg.{Reg}
use Rattle.low_forms.specs.declared.code.Term.{Term}
use Rattle.source_meaning.specs.declared.values.Val.TheVariants.{Element}
use Rattle.source_meaning.specs.Tasks.{Program}
use Rattle.source_meaning.specs.Values.{maybe}
use Rattle.async_objects.specs.declared.kinds.Val.{Val}
use Rattle.async_objects.specs.declared.kinds.Val.TheVariants as val
use Rattle.task_stack.specs.Frames.{Stack}
use Rattle.task_stack.specs.Local.{Standing, standing, free_step, operands}
use Rattle.task_stack.specs.Registers.{held, value}
use Rattle.task_stack.specs.Shared as stack
use Rattle.task_stack.specs.Shared.{next_of}
use Rattle.step_core.specs.declared.tasks.Task.{Task}
use Rattle.step_core.specs.Shared.{Took, Stuck, Idle}
use Rattle.step_core.specs.High as high
use Rattle.step_core.specs.High.{High, Ref, Outcome, outcome, awaits, awaits_ref, awaits_outcome, on_ref, shared_at, by_local, high_step}
use Rattle.scf_blocks.specs.Code.{await, block_no}
use Rattle.block_carry.specs.Same.{Known, IsElement, IsSame}
use Rattle.block_carry.specs.Laid.{Has}
use Rattle.block_carry.specs.Taken.{HasTask, looked, AwaitsTaken}
use Rattle.block_carry.proofs.Values.{some_is}
use Rattle.block_carry.proofs.Moves.{free_is, next_is, standing_is, ahead}

-- the step at an await
pub await_taken : (code : LowModule) (h : High) (t : ℕ) (s : Stack) (f : LowFunc) (o : Reg) (go failure : ℕ) → HasTask h t s → slice_get code.funcs s.top.current.place.func.0 ≡ Some f →
    Has f s.top.current.place.block.0 s.top.current.place.at [] (await o (block_no go) (block_no failure)) →
    high_step code h t ≡ awaits f (await o (block_no go) (block_no failure)) (held s.top.current.regs o.0 ∷ []) h t s
await_taken code h t s f o go failure has is at_await =
    let tm : Term = await o (block_no go) (block_no failure) in
    ap (maybe Idle (λ (task : Task). by_local (free_step code task.stack) code h t task.stack)) has
    ∙ ap (λ l. by_local l code h t s) (free_is code s f [] tm is at_await)
    ∙ ap (maybe Stuck (λ (n : stack.Next). maybe Stuck (λ (st : Standing). shared_at code n st.rest.term h t s) (standing code s.top.current.place))) (next_is code s f [] tm is at_await)
    ∙ ap (maybe Stuck (λ (st : Standing). shared_at code (ahead code f tm.instr) st.rest.term h t s)) (standing_is code s.top.current.place f [] tm is at_await)

module _ (p : Program) (code : LowModule) (k : Known) (h : High) (t : ℕ) (s : Stack) (f : LowFunc) (r : Reg) (go failure : ℕ) (same : k.refs ≡ h.refs) where
  abbrev tm : Term
  tm = await r (block_no go) (block_no failure)

  abbrev Comes_to : ElementName → Took High → Type 0
  Comes_to x took = (o : ObjNo) × (q : ℕ) × (place : ℕ) × (slice_get h.refs o.0 ≡ Some (high.Element q place)) × IsElement k x (Some (high.Element q place)) × (took ≡ looked h t f s go failure place o (outcome h q))

  by_outcome : (q place : ℕ) (o : ObjNo) (e : Option Outcome) → maybe Idle (λ e. awaits_outcome e place f tm o h t s) e ≡ looked h t f s go failure place o e
  by_outcome q place o None = refl
  by_outcome q place o (Some (high.Gave vals)) = refl
  by_outcome q place o (Some high.Failed) = refl

  by_ref : (x : ElementName) (o : ObjNo) (e : Option Ref) → slice_get h.refs o.0 ≡ e → IsElement k x e → Comes_to x (maybe Stuck (λ y. awaits_ref y f tm o h t s) e)
  by_ref (Token q) o None e g = absurd g
  by_ref (Token q) o (Some (high.Group j)) e g = absurd g
  by_ref (Token q) o (Some (high.Element n place)) e g = (o, n, place, e, g, by_outcome n place o (outcome h n))
  by_ref (Value q i) o None e g = absurd g
  by_ref (Value q i) o (Some (high.Group j)) e g = absurd g
  by_ref (Value q i) o (Some (high.Element n place)) e g = (o, n, place, e, g, by_outcome n place o (outcome h n))

  by_value : (x : ElementName) (w : Val) → IsSame k (Element x) w → Comes_to x (on_ref w h (λ o y. awaits_ref y f tm o h t s))
  by_value x (val.Number n) g = absurd g
  by_value x (val.Buffer n m ns) g = absurd g
  by_value x (val.Object o) g = by_ref x o (slice_get h.refs o.0) refl (subst (λ l. IsElement k x (slice_get l o.0)) same g)

pub awaits_taken : AwaitsTaken
awaits_taken p code k h t s number x xs u has same asks =
    let c = asks.then in
    let at_instr : asks.i ≡ (await c.o (block_no c.go) (block_no c.failure)).instr = ap (λ (n : stack.Next). n.instr) (some_is (ahead code asks.f asks.i) (ahead code asks.f (await c.o (block_no c.go) (block_no c.failure)).instr)
    (sym asks.is ∙ next_is code s asks.f [] (await c.o (block_no c.go) (block_no c.failure)) c.found c.has)) in
    let element : IsSame k (Element x) (held s.top.current.regs c.o.0) = subst (λ i. IsSame k (Element x) (value (operands s i) 0)) at_instr asks.asks.1 in
    let one = by_value p code k h t s asks.f c.o c.go c.failure same x (held s.top.current.regs c.o.0) element in
    (one.0, one.1, one.2, one.3, one.4, await_taken code h t s asks.f c.o c.go c.failure has c.found c.has ∙ one.5)
