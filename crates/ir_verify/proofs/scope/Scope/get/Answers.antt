-- The slot of a number leads to its first definition.
use Rattle.std.proofs.Common.{◌≡◌, ◌==◌, true, false, Some, None, Bor, sym, subst, eq-eqb, slice_get}
use Rattle.ir_forms.specs.declared.types.Ty.{Ty}
use Rattle.ir_verify.specs.Scopes.{lookup}
use Rattle.ir_verify.proofs.scope.Scope.get.Goals as goal
use Rattle.ir_verify.proofs.ScopeLemmas.{seen_found, seen_none, missing_slot, missing_entry, other_entry, differs}

pub returns-in_default : goal.returns-in_default
returns-in_default c =
    let slot : slice_get c.self.inside.slots.items c.args.value.0 ≡ None = cc in
    subst (λ s. None ≡ lookup s c.args.value.0) c.self.view_is (sym (seen_none (λ (b : Bor Ty). b.now) c.self.inside.entries.items c.args.value.0 (missing_slot _ _ _ c.self.invariant slot)))

pub returns-in_default-entry_at : goal.returns-in_default-entry_at
returns-in_default-entry_at c =
    let slot : slice_get c.self.inside.slots.items c.args.value.0 ≡ Some c.in-Some.slot = cc in
    let entry : slice_get c.self.inside.entries.items c.in-Some.slot ≡ None = cc in
    subst (λ s. None ≡ lookup s c.args.value.0) c.self.view_is (sym (seen_none (λ (b : Bor Ty). b.now) c.self.inside.entries.items c.args.value.0 (missing_entry _ _ _ _ c.self.invariant slot entry)))

pub returns-then-defined-value : goal.returns-then-defined-value
returns-then-defined-value c =
    let slot : slice_get c.self.inside.slots.items c.args.value.0 ≡ Some c.in-Some.slot = cc in
    let entry : slice_get c.self.inside.entries.items c.in-Some.slot ≡ Some (c.in-Some-entry_at.defined, c.in-Some-entry_at.ty) = cc in
    let same : (c.in-Some-entry_at.defined.0 == c.args.value.0) ≡ true = eq-eqb _ _ c.if-defined-value.true in
    subst (λ s. Some c.in-Some-entry_at.ty.now ≡ lookup s c.args.value.0) c.self.view_is
    (sym (seen_found (λ (b : Bor Ty). b.now) c.self.inside.entries.items c.self.inside.slots.items c.args.value.0 c.in-Some.slot (c.in-Some-entry_at.defined, c.in-Some-entry_at.ty) c.self.invariant slot entry same))

pub returns-else-defined-value : goal.returns-else-defined-value
returns-else-defined-value c =
    let slot : slice_get c.self.inside.slots.items c.args.value.0 ≡ Some c.in-Some.slot = cc in
    let entry : slice_get c.self.inside.entries.items c.in-Some.slot ≡ Some (c.in-Some-entry_at.defined, c.in-Some-entry_at.ty) = cc in
    let other : (c.in-Some-entry_at.defined.0 == c.args.value.0) ≡ false = differs _ _ c.if-defined-value.false in
    subst (λ s. None ≡ lookup s c.args.value.0) c.self.view_is
    (sym (seen_none (λ (b : Bor Ty). b.now) c.self.inside.entries.items c.args.value.0 (other_entry _ _ _ _ (c.in-Some-entry_at.defined, c.in-Some-entry_at.ty) c.self.invariant slot entry other)))
