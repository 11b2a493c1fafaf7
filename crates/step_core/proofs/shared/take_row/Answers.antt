use Rattle.std.proofs.Common.{IfOk, sym, ap, subst}
use Rattle.async_objects.specs.declared.kinds.Kind.{Kind}
use Rattle.async_objects.specs.declared.kinds.Kind.TheVariants.{Group}
use Rattle.step_core.specs.Parts.{with_parts, create_step, IsRow}
use Rattle.step_core.proofs.Dispatch.{if_ok, IsTaken}
use Rattle.step_core.proofs.shared.take_row.Goals as goal

pub returns-in-Allocate-clause-row : goal.returns-in-Allocate-clause-row
returns-in-Allocate-clause-row c =
    subst (λ r. IfOk c.allocate.result (λ row. IsTaken row c.args.limits c.args.live c.args.task.0 c.args.func.now c.args.instr.now c.args.objects.now c.args.objects.now c.args.cells.now.buffers c.allocate.new.cells.buffers c.args.gone.now.items c.args.gone.now.items c.args.woken.now.items c.args.woken.now.items c.args.stack.now c.allocate.new.stack r)) c.in-Allocate.ensures
    (if_ok c.allocate.result _ _ c.allocate.ensures.row (λ row h rest live. h (with_parts c.args.objects.now c.args.cells.now.buffers c.args.gone.now.items rest) c.args.woken.now.items c.args.task.0))

pub returns-in-LoadCell-clause-row : goal.returns-in-LoadCell-clause-row
returns-in-LoadCell-clause-row c =
    subst (λ r. IfOk c.load_cell.result (λ row. IsTaken row c.args.limits c.args.live c.args.task.0 c.args.func.now c.args.instr.now c.args.objects.now c.args.objects.now c.args.cells.now.buffers c.args.cells.now.buffers c.args.gone.now.items c.args.gone.now.items c.args.woken.now.items c.args.woken.now.items c.args.stack.now c.load_cell.new.stack r)) c.in-LoadCell.ensures
    (if_ok c.load_cell.result _ _ c.load_cell.ensures.row (λ row h rest live. h c.args.limits c.args.func.now (with_parts c.args.objects.now c.args.cells.now.buffers c.args.gone.now.items rest) c.args.woken.now.items c.args.task.0))

pub returns-in-Deallocate-clause-row : goal.returns-in-Deallocate-clause-row
returns-in-Deallocate-clause-row c =
    subst (IsTaken c.deallocate.result c.args.limits c.args.live c.args.task.0 c.args.func.now c.args.instr.now c.args.objects.now c.args.objects.now c.args.cells.now.buffers c.args.cells.now.buffers c.args.gone.now.items c.args.gone.now.items c.args.woken.now.items c.args.woken.now.items c.args.stack.now c.deallocate.new.stack) c.in-Deallocate.ensures
    (λ rest live. c.deallocate.ensures c.args.limits c.args.func.now (with_parts c.args.objects.now c.args.cells.now.buffers c.args.gone.now.items rest) c.args.woken.now.items c.args.task.0)

pub returns-in-StoreCell-clause-row : goal.returns-in-StoreCell-clause-row
returns-in-StoreCell-clause-row c =
    subst (IsTaken c.store_cell.result c.args.limits c.args.live c.args.task.0 c.args.func.now c.args.instr.now c.args.objects.now c.args.objects.now c.args.cells.now.buffers c.store_cell.new.cells.buffers c.args.gone.now.items c.args.gone.now.items c.args.woken.now.items c.args.woken.now.items c.args.stack.now c.store_cell.new.stack) c.in-StoreCell.ensures
    (λ rest live. c.store_cell.ensures c.args.limits c.args.func.now (with_parts c.args.objects.now c.args.cells.now.buffers c.args.gone.now.items rest) c.args.woken.now.items c.args.task.0)

pub returns-in-Return-clause-row : goal.returns-in-Return-clause-row
returns-in-Return-clause-row c =
    subst (λ r. IfOk c.end_root.result (λ row. IsTaken row c.args.limits c.args.live c.args.task.0 c.args.func.now c.args.instr.now c.args.objects.now c.args.objects.now c.args.cells.now.buffers c.args.cells.now.buffers c.args.gone.now.items c.args.gone.now.items c.args.woken.now.items c.args.woken.now.items c.args.stack.now c.args.stack.now r)) c.in-Return.ensures
    (if_ok c.end_root.result _ _ c.end_root.ensures (λ row h rest live. h c.args.limits (with_parts c.args.objects.now c.args.cells.now.buffers c.args.gone.now.items rest) c.args.woken.now.items c.args.task.0))

pub returns-in-Fail-clause-row : goal.returns-in-Fail-clause-row
returns-in-Fail-clause-row c =
    subst (IsTaken c.fail_root.result c.args.limits c.args.live c.args.task.0 c.args.func.now c.args.instr.now c.args.objects.now c.args.objects.now c.args.cells.now.buffers c.args.cells.now.buffers c.args.gone.now.items c.args.gone.now.items c.args.woken.now.items c.args.woken.now.items c.args.stack.now c.args.stack.now) c.in-Fail.ensures
    (λ rest live. c.fail_root.ensures c.args.limits c.args.func.now (with_parts c.args.objects.now c.args.cells.now.buffers c.args.gone.now.items rest) c.args.woken.now.items c.args.task.0)

pub returns-in-Finish-clause-row : goal.returns-in-Finish-clause-row
returns-in-Finish-clause-row c =
    subst (IsTaken c.finish.result c.args.limits c.args.live c.args.task.0 c.args.func.now c.args.instr.now c.args.objects.now c.args.objects.now c.args.cells.now.buffers c.args.cells.now.buffers c.args.gone.now.items c.args.gone.now.items c.args.woken.now.items c.args.woken.now.items c.args.stack.now c.args.stack.now) c.in-Finish.ensures
    (λ rest live. c.finish.ensures c.args.limits c.args.func.now (with_parts c.args.objects.now c.args.cells.now.buffers c.args.gone.now.items rest) c.args.woken.now.items c.args.task.0)

pub returns-in-Resume-clause-row : goal.returns-in-Resume-clause-row
returns-in-Resume-clause-row c =
    subst (IsTaken c.resume.result c.args.limits c.args.live c.args.task.0 c.args.func.now c.args.instr.now c.args.objects.now c.args.objects.now c.args.cells.now.buffers c.args.cells.now.buffers c.args.gone.now.items c.args.gone.now.items c.args.woken.now.items c.args.woken.now.items c.args.stack.now c.resume.new.stack) c.in-Resume.ensures
    (λ rest live. c.resume.ensures c.args.func.now (with_parts c.args.objects.now c.args.cells.now.buffers c.args.gone.now.items rest) c.args.woken.now.items c.args.task.0 live)

pub returns-in-Create-clause-row : goal.returns-in-Create-clause-row
returns-in-Create-clause-row c =
    subst (λ r. IfOk c.create.result (λ row. IsTaken row c.args.limits c.args.live c.args.task.0 c.args.func.now c.args.instr.now c.args.objects.now c.create.new.objects c.args.cells.now.buffers c.args.cells.now.buffers c.args.gone.now.items c.args.gone.now.items c.args.woken.now.items c.args.woken.now.items c.args.stack.now c.create.new.stack r)) c.in-Create.ensures
    (if_ok c.create.result _ _ c.create.ensures.row (λ row h rest live. subst (λ (k : Kind). IsRow row (with_parts c.args.objects.now c.args.cells.now.buffers c.args.gone.now.items rest) (with_parts c.create.new.objects c.args.cells.now.buffers c.args.gone.now.items rest) c.args.woken.now.items c.args.woken.now.items c.args.task.0 c.args.stack.now c.create.new.stack (create_step k c.args.limits c.args.instr.now (with_parts c.args.objects.now c.args.cells.now.buffers c.args.gone.now.items rest) c.args.task.0 c.args.stack.now)) c.made_kind.ensures (h c.args.limits (sym c.requires.limit) (with_parts c.args.objects.now c.args.cells.now.buffers c.args.gone.now.items rest) c.args.woken.now.items c.args.task.0)))

pub returns-in-CreateGroup-clause-row : goal.returns-in-CreateGroup-clause-row
returns-in-CreateGroup-clause-row c =
    subst (λ r. IfOk c.create-in-CreateGroup.result (λ row. IsTaken row c.args.limits c.args.live c.args.task.0 c.args.func.now c.args.instr.now c.args.objects.now c.create-in-CreateGroup.new.objects c.args.cells.now.buffers c.args.cells.now.buffers c.args.gone.now.items c.args.gone.now.items c.args.woken.now.items c.args.woken.now.items c.args.stack.now c.create-in-CreateGroup.new.stack r)) c.in-CreateGroup.ensures
    (if_ok c.create-in-CreateGroup.result _ _ c.create-in-CreateGroup.ensures.row (λ row h rest live. subst (λ (k : Kind). IsRow row (with_parts c.args.objects.now c.args.cells.now.buffers c.args.gone.now.items rest) (with_parts c.create-in-CreateGroup.new.objects c.args.cells.now.buffers c.args.gone.now.items rest) c.args.woken.now.items c.args.woken.now.items c.args.task.0 c.args.stack.now c.create-in-CreateGroup.new.stack (create_step k c.args.limits c.args.instr.now (with_parts c.args.objects.now c.args.cells.now.buffers c.args.gone.now.items rest) c.args.task.0 c.args.stack.now)) (ap Group c.number-size.ensures) (h c.args.limits (sym c.requires.limit) (with_parts c.args.objects.now c.args.cells.now.buffers c.args.gone.now.items rest) c.args.woken.now.items c.args.task.0)))

pub returns-in-AddToGroup-clause-row : goal.returns-in-AddToGroup-clause-row
returns-in-AddToGroup-clause-row c =
    subst (λ r. IfOk c.add.result (λ row. IsTaken row c.args.limits c.args.live c.args.task.0 c.args.func.now c.args.instr.now c.args.objects.now c.add.new.objects c.args.cells.now.buffers c.args.cells.now.buffers c.args.gone.now.items c.args.gone.now.items c.args.woken.now.items c.add.new.woken.items c.args.stack.now c.add.new.stack r)) c.in-AddToGroup.ensures
    (if_ok c.add.result _ _ c.add.ensures.row (λ row h rest live. h c.args.limits c.args.func.now c.args.gone.now.items (with_parts c.args.objects.now c.args.cells.now.buffers c.args.gone.now.items rest) c.args.task.0))

pub returns-in-Await-clause-row : goal.returns-in-Await-clause-row
returns-in-Await-clause-row c =
    subst (λ r. IfOk c.await_object.result (λ row. IsTaken row c.args.limits c.args.live c.args.task.0 c.args.func.now c.args.instr.now c.args.objects.now c.await_object.new.objects c.args.cells.now.buffers c.args.cells.now.buffers c.args.gone.now.items c.args.gone.now.items c.args.woken.now.items c.args.woken.now.items c.args.stack.now c.await_object.new.stack r)) c.in-Await.ensures
    (if_ok c.await_object.result _ _ c.await_object.ensures.row (λ row h rest live. h (with_parts c.args.objects.now c.args.cells.now.buffers c.args.gone.now.items rest) c.args.woken.now.items))

pub returns-in-AwaitAndResume-clause-row : goal.returns-in-AwaitAndResume-clause-row
returns-in-AwaitAndResume-clause-row c =
    subst (λ r. IfOk c.await_and_resume.result (λ row. IsTaken row c.args.limits c.args.live c.args.task.0 c.args.func.now c.args.instr.now c.args.objects.now c.await_and_resume.new.objects c.args.cells.now.buffers c.args.cells.now.buffers c.args.gone.now.items c.args.gone.now.items c.args.woken.now.items c.args.woken.now.items c.args.stack.now c.await_and_resume.new.stack r)) c.in-AwaitAndResume.ensures
    (if_ok c.await_and_resume.result _ _ c.await_and_resume.ensures.row (λ row h rest live. h c.args.limits c.args.func.now (with_parts c.args.objects.now c.args.cells.now.buffers c.args.gone.now.items rest) c.args.woken.now.items))

pub returns-in-IsError-clause-row : goal.returns-in-IsError-clause-row
returns-in-IsError-clause-row c =
    subst (λ r. IfOk c.look.result (λ row. IsTaken row c.args.limits c.args.live c.args.task.0 c.args.func.now c.args.instr.now c.args.objects.now c.args.objects.now c.args.cells.now.buffers c.args.cells.now.buffers c.args.gone.now.items c.args.gone.now.items c.args.woken.now.items c.args.woken.now.items c.args.stack.now c.look.new.stack r)) c.in-IsError.ensures
    (if_ok c.look.result _ _ c.look.ensures.row (λ row h rest live. h c.args.limits c.args.func.now (with_parts c.args.objects.now c.args.cells.now.buffers c.args.gone.now.items rest) c.args.woken.now.items c.args.task.0))

pub returns-in-Load-clause-row : goal.returns-in-Load-clause-row
returns-in-Load-clause-row c =
    subst (λ r. IfOk c.load.result (λ row. IsTaken row c.args.limits c.args.live c.args.task.0 c.args.func.now c.args.instr.now c.args.objects.now c.args.objects.now c.args.cells.now.buffers c.args.cells.now.buffers c.args.gone.now.items c.args.gone.now.items c.args.woken.now.items c.args.woken.now.items c.args.stack.now c.load.new.stack r)) c.in-Load.ensures
    (if_ok c.load.result _ _ c.load.ensures.row (λ row h rest live. h c.args.limits c.args.func.now (with_parts c.args.objects.now c.args.cells.now.buffers c.args.gone.now.items rest) c.args.woken.now.items c.args.task.0))

pub returns-in-Store-clause-row : goal.returns-in-Store-clause-row
returns-in-Store-clause-row c =
    subst (IsTaken c.store.result c.args.limits c.args.live c.args.task.0 c.args.func.now c.args.instr.now c.args.objects.now c.store.new.objects c.args.cells.now.buffers c.args.cells.now.buffers c.args.gone.now.items c.args.gone.now.items c.args.woken.now.items c.args.woken.now.items c.args.stack.now c.store.new.stack) c.in-Store.ensures
    (λ rest live. c.store.ensures.row c.args.limits c.args.func.now (with_parts c.args.objects.now c.args.cells.now.buffers c.args.gone.now.items rest) c.args.woken.now.items c.args.task.0)

pub returns-in-SetAvailable-clause-row : goal.returns-in-SetAvailable-clause-row
returns-in-SetAvailable-clause-row c =
    subst (λ r. IfOk c.set.result (λ row. IsTaken row c.args.limits c.args.live c.args.task.0 c.args.func.now c.args.instr.now c.args.objects.now c.set.new.objects c.args.cells.now.buffers c.args.cells.now.buffers c.args.gone.now.items c.set.new.gone.items c.args.woken.now.items c.set.new.woken.items c.args.stack.now c.set.new.stack r)) c.in-SetAvailable.ensures
    (if_ok c.set.result _ _ c.set.ensures.row (λ row h rest live. h (with_parts c.args.objects.now c.args.cells.now.buffers c.args.gone.now.items rest) c.args.task.0))

pub returns-in-SetError-clause-row : goal.returns-in-SetError-clause-row
returns-in-SetError-clause-row c =
    subst (λ r. IfOk c.set-in-SetError.result (λ row. IsTaken row c.args.limits c.args.live c.args.task.0 c.args.func.now c.args.instr.now c.args.objects.now c.set-in-SetError.new.objects c.args.cells.now.buffers c.args.cells.now.buffers c.args.gone.now.items c.set-in-SetError.new.gone.items c.args.woken.now.items c.set-in-SetError.new.woken.items c.args.stack.now c.set-in-SetError.new.stack r)) c.in-SetError.ensures
    (if_ok c.set-in-SetError.result _ _ c.set-in-SetError.ensures.row (λ row h rest live. h (with_parts c.args.objects.now c.args.cells.now.buffers c.args.gone.now.items rest) c.args.task.0))
