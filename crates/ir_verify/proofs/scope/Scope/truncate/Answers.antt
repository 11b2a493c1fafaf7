-- A front of the list keeps the first definitions that stand in it.
use Rattle.std.proofs.Common.{sym, ◌∙◌, ap, take, map, subst, Bor}
use Rattle.std.specs.List.{take-map}
use Rattle.ir_forms.specs.declared.ops.ValueNo.{ValueNo}
use Rattle.ir_forms.specs.declared.types.Ty.{Ty}
use Rattle.ir_verify.proofs.ScopeLemmas.{shortened}
use Rattle.ir_verify.specs.Scopes.{Indexes}
use Rattle.ir_verify.proofs.scope.Scope.truncate.Goals as goal

pub invariant_of-self : goal.invariant_of-self
invariant_of-self c = subst (λ es. Indexes es c.self.inside.slots.items) (sym c.truncate.ensures.items) (shortened c.args.len c.self.inside.entries.items c.self.inside.slots.items c.self.invariant)

pub returns : goal.returns
returns c =
    ap (map (λ (e : ValueNo × Bor Ty). (e.0, e.1.now))) c.truncate.ensures.items
    ∙ sym (take-map (λ (e : ValueNo × Bor Ty). (e.0, e.1.now)) c.args.len c.self.inside.entries.items)
    ∙ ap (take c.args.len) c.self.view_is
