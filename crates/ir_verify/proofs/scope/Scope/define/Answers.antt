-- The slot of a new value holds its place.
use Rattle.std.proofs.Common.{Bor, rules}
use Rattle.ir_forms.specs.declared.types.Ty.{Ty}
use Rattle.ir_verify.proofs.ScopeLemmas.{new_indexed, old_indexed}
use Rattle.ir_verify.proofs.scope.Scope.define.Goals as goal

pub invariant_of-self-then-is_new : goal.invariant_of-self-then-is_new
invariant_of-self-then-is_new c =
    new_indexed (λ (b : Bor Ty). b.now) c.self.inside.entries.items c.push.new.self.items c.args.self.now (c.args.value, c.args.ty) c.self.inside.slots.items c.make_room.new.slots.items c.len-place.result
    c.self.invariant c.make_room.ensures.kept c.self.view_is (search rules) c.in_ok-push.ensures.items (search rules) (search rules)

pub invariant_of-self-else-is_new : goal.invariant_of-self-else-is_new
invariant_of-self-else-is_new c =
    old_indexed (λ (b : Bor Ty). b.now) c.self.inside.entries.items c.push.new.self.items c.args.self.now (c.args.value, c.args.ty) c.self.inside.slots.items c.make_room.new.slots.items
    c.self.invariant c.make_room.ensures.kept c.self.view_is c.in_ok-push.ensures.items (search rules)
