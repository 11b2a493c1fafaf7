use Rattle.std.proofs.Common.{◌∷◌, [], ap, ◌∙◌}
use Rattle.async_objects.specs.declared.kinds.Val.TheVariants.{Object}
use Rattle.task_stack.specs.Shared.{moved}
use Rattle.step_core.proofs.ObjectRows.{create_goes}
use Rattle.step_core.proofs.shared_objects.create.Goals as goal

pub returns-in-Ok-clause-row : goal.returns-in-Ok-clause-row
returns-in-Ok-clause-row c = λ l limits rest w t.
    create_goes c.args.kind l c.args.instr.now c.args.objects.now c.give_created.new.objects rest w t c.args.stack.now c.give_created.new.self limits c.in-Ok._o
    c.in-Ok.ensures.created.0 c.in-Ok.ensures.created.1 c.in-Ok.ensures.created.2
    (c.in-Ok.ensures.created.3 ∙ ap (λ rs. moved rs (Object c.in-Ok._o ∷ []) c.args.stack.now) c.as_slice.ensures)
