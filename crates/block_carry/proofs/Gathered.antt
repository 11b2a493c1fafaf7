-- Groups in the machine of code with the high rows.
use Rattle.std.proofs.Common.{◌≡◌, ℕ, [], Option, Some, None, slice_get, refl, sym, ap, subst, ◌∙◌}
use Rattle.op_table.specs.declared.kind.OpKind.TheVariants as op
use Rattle.ir_forms.specs.declared.names.ElementName.{ElementName}
use Rattle.ir_forms.specs.declared.names.ElementName.TheVariants.{Token, Value}
use Rattle.ir_forms.specs.declared.names.MadeName.{MadeName}
use Rattle.ir_forms.specs.declared.runs.ObjNo.{ObjNo}
use Rattle.low_forms.specs.declared.code.LowKind.TheVariants.{Row}
use Rattle.low_forms.specs.declared.code.Term.{Term}
use Rattle.source_meaning.specs.declared.values.Val.TheVariants.{Element, Group}
use Rattle.source_meaning.specs.Values.{maybe}
use Rattle.async_objects.specs.declared.kinds.Val.{Val}
use Rattle.async_objects.specs.declared.kinds.Val.TheVariants as val
use Rattle.task_stack.specs.Local.{operands}
use Rattle.task_stack.specs.Registers.{held, value}
use Rattle.task_stack.specs.Shared as stack
use Rattle.step_core.specs.Shared.{Stuck}
use Rattle.step_core.specs.High as high
use Rattle.step_core.specs.High.{High, Ref, Gathering, on_ref, adds_by, adds_to, awaits_ref, awaits_group, high_step}
use Rattle.scf_blocks.specs.Code.{await, block_no}
use Rattle.block_carry.specs.Same.{Known, IsElement, IsGroup, IsSame}
use Rattle.block_carry.specs.Taken.{KnowsGroups, AddsTaken, AwaitsAllTaken}
use Rattle.block_carry.proofs.Values.{some_is}
use Rattle.block_carry.proofs.Moves.{next_is, ahead}
use Rattle.block_carry.proofs.Taking.{kind_taken}
use Rattle.block_carry.proofs.Looking.{await_taken}

-- an object that a value is, and what it stands for
element_at : (k : Known) (h : High) → k.refs ≡ h.refs → (x : ElementName) (w : Val) → IsSame k (Element x) w → (o : ObjNo) × (q : ℕ) × (place : ℕ) × (w ≡ val.Object o) × (slice_get h.refs o.0 ≡ Some (high.Element q place)) × IsElement k x (Some (high.Element q place))
element_at k h same x (val.Number n) g = absurd g
element_at k h same x (val.Buffer n m ns) g = absurd g
element_at k h same x (val.Object o) g = by x (slice_get h.refs o.0) refl (subst (λ l. IsElement k x (slice_get l o.0)) same g)
  where
    by : (x : ElementName) (e : Option Ref) → slice_get h.refs o.0 ≡ e → IsElement k x e →
        (o2 : ObjNo) × (q : ℕ) × (place : ℕ) × (val.Object o ≡ val.Object o2) × (slice_get h.refs o2.0 ≡ Some (high.Element q place)) × IsElement k x (Some (high.Element q place))
    by (Token q) None e g = absurd g
    by (Token q) (Some (high.Group j)) e g = absurd g
    by (Token q) (Some (high.Element n place)) e g = (o, n, place, refl, e, g)
    by (Value q i) None e g = absurd g
    by (Value q i) (Some (high.Group j)) e g = absurd g
    by (Value q i) (Some (high.Element n place)) e g = (o, n, place, refl, e, g)

group_at : (k : Known) (h : High) → k.refs ≡ h.refs → KnowsGroups k h → (name : MadeName) (w : Val) → IsSame k (Group name) w →
    (o : ObjNo) × (j : ℕ) × (group : Gathering) × (w ≡ val.Object o) × (slice_get h.refs o.0 ≡ Some (high.Group j)) × (slice_get k.names.groups j ≡ Some name) × (slice_get h.groups j ≡ Some group)
group_at k h same knows name (val.Number n) g = absurd g
group_at k h same knows name (val.Buffer n m ns) g = absurd g
group_at k h same knows name (val.Object o) g = by (slice_get h.refs o.0) refl (subst (λ l. IsGroup k name (slice_get l o.0)) same g)
  where
    by : (e : Option Ref) → slice_get h.refs o.0 ≡ e → IsGroup k name e →
        (o2 : ObjNo) × (j : ℕ) × (group : Gathering) × (val.Object o ≡ val.Object o2) × (slice_get h.refs o2.0 ≡ Some (high.Group j)) × (slice_get k.names.groups j ≡ Some name) × (slice_get h.groups j ≡ Some group)
    by None e g = absurd g
    by (Some (high.Element q place)) e g = absurd g
    by (Some (high.Group j)) e g = (o, j, (knows j name g).0, refl, e, g, (knows j name g).1)

pub adds_taken : AddsTaken
adds_taken p code k h t s number name x used xs u has same knows asks =
    let a = asks.asks in
    let one = kind_taken code h t s asks.f asks.i (Row op.AsyncRuntimeAddToGroup) has asks.shared asks.is a.0 in
    let e = element_at k h same x (value (operands s asks.i) 0) a.1 in
    let g = group_at k h same knows name (value (operands s asks.i) 1) a.2 in (
      g.0,
      e.0,
      g.1,
      e.1,
      e.2,
      g.2,
      g.4,
      g.5,
      g.6,
      e.4,
      e.5,
      one.1
          ∙ ap (λ w. on_ref w h (λ x rx. on_ref (value (operands s asks.i) 1) h (λ g rg. adds_by rg rx g x asks.i h t s))) e.3
          ∙ ap (maybe Stuck (λ rx. on_ref (value (operands s asks.i) 1) h (λ g rg. adds_by rg rx g e.0 asks.i h t s))) e.4
          ∙ ap (λ w. on_ref w h (λ g rg. adds_by rg (high.Element e.1 e.2) g e.0 asks.i h t s)) g.3
          ∙ ap (maybe Stuck (λ rg. adds_by rg (high.Element e.1 e.2) g.0 e.0 asks.i h t s)) g.4
          ∙ ap (maybe Stuck (λ group. adds_to group g.1 e.1 g.0 e.0 asks.i h t s)) g.6,
    )

pub awaits_all_taken : AwaitsAllTaken
awaits_all_taken p code k h t s number name xs u has same knows asks =
    let c = asks.then in
    let tm : Term = await c.o (block_no c.go) (block_no c.failure) in
    let at_instr : asks.i ≡ tm.instr = ap (λ (n : stack.Next). n.instr) (some_is (ahead code asks.f asks.i) (ahead code asks.f tm.instr) (sym asks.is ∙ next_is code s asks.f [] tm c.found c.has)) in
    let w : Val = held s.top.current.regs c.o.0 in
    let g = group_at k h same knows name w (subst (λ i. IsSame k (Group name) (value (operands s i) 0)) at_instr asks.asks.1) in (
      g.0,
      g.1,
      g.2,
      g.4,
      g.5,
      g.6,
      await_taken code h t s asks.f c.o c.go c.failure has c.found c.has
          ∙ ap (λ y. on_ref y h (λ o r. awaits_ref r asks.f tm o h t s)) g.3
          ∙ ap (maybe Stuck (λ r. awaits_ref r asks.f tm g.0 h t s)) g.4
          ∙ ap (maybe Stuck (λ group. awaits_group group asks.f tm g.0 h t s)) g.6,
    )
