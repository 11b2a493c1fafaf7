use Rattle.std.proofs.Common.{◌≡◌, true, sym, ap, ◌∙◌, arith}
use Rattle.std.proofs.lemmas.Grind.{common_steps}
use Rattle.async_objects.specs.Objects.{object_at, is_open, stored}
use Rattle.async_objects.specs.Tables.{with_objects}
use Rattle.task_stack.specs.Local.{operands}
use Rattle.step_core.proofs.ObjectRows.{stores_goes}
use Rattle.step_core.proofs.shared_objects.store.Goals as goal

pub returns-clause-row : goal.returns-clause-row
returns-clause-row c =
    let opened : is_open (object_at c.args.objects.now.objects c.in-Some.o) ≡ true = grind (arith, common_steps) in
    λ l f rest w t.
    stores_goes l f c.args.instr.now (operands c.args.stack.now c.args.instr.now) c.args.objects.now c.store.new.self rest w t c.args.stack.now c.pass.new.self c.in-Some.o
    (sym c.in-Some.ensures.value) opened (c.store.ensures ∙ ap (λ v. with_objects (stored c.in-Some.o v c.args.objects.now.objects) c.args.objects.now) c.value.ensures) c.pass.ensures
