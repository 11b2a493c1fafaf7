use Rattle.std.proofs.Common.{◌≡◌, ◌<◌, ◌∙◌, None, length, slice_set, sym, ap, arith}
use Rattle.std.proofs.lemmas.Grind.{common_steps}
use Rattle.step_core.specs.State.{made_ready}
use Rattle.step_core.specs.Tasks.{in_table}
use Rattle.step_core.proofs.Live.{live_over, table_read}
use Rattle.step_core.proofs.tasks.wake_in.Goals as goal

pub returns-in-Some-clause-live : goal.returns-in-Some-clause-live
returns-in-Some-clause-live c =
    let within : c.args.at < length c.args.slots.now.items = grind (arith, common_steps) in
    live_over c.args.slots.now.items c.args.at c.in-Some.task _ (table_read c.args.slots.now.items c.args.at c.index_mut.result.now within c.index_mut.ensures.value ∙ c.in-Some.is)

pub returns-in-None-clause-task : goal.returns-in-None-clause-task
returns-in-None-clause-task c =
    let within : c.args.at < length c.args.slots.now.items = grind (arith, common_steps) in
    let none : in_table c.args.slots.now.items c.args.at ≡ None = table_read c.args.slots.now.items c.args.at c.index_mut.result.now within c.index_mut.ensures.value ∙ c.in-None.is in
    ap (slice_set c.args.slots.now.items c.args.at) (c.in-None.is ∙ sym (ap made_ready none))
