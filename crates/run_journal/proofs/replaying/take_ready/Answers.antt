-- The burst says whether the number fits, and the step after it whether the entry is possible.
use Rattle.std.proofs.Common.{None, Some, ◌∙◌}
use Rattle.step_core.specs.Core.{limited_step}
use Rattle.step_core.specs.declared.ends.Step.TheVariants as step
use Rattle.run_journal.proofs.Entries.{seen_ready}
use Rattle.run_journal.proofs.Running.{answered, unanswered, burst_room, short_burst}
use Rattle.run_journal.proofs.replaying.take_ready.Goals as goal

pub step-requires-clause-steps : goal.step-requires-clause-steps
step-requires-clause-steps c = (burst_room c.args.core.now c.take_burst.new.core c.args.entry.task c.in_ok-local.local c.requires.room c.in_ok-local.ensures.burst).0

pub step-requires-clause-tasks : goal.step-requires-clause-tasks
step-requires-clause-tasks c = (burst_room c.args.core.now c.take_burst.new.core c.args.entry.task c.in_ok-local.local c.requires.room c.in_ok-local.ensures.burst).1

pub step-requires-clause-objects : goal.step-requires-clause-objects
step-requires-clause-objects c = (burst_room c.args.core.now c.take_burst.new.core c.args.entry.task c.in_ok-local.local c.requires.room c.in_ok-local.ensures.burst).2

pub step-requires-clause-buffers : goal.step-requires-clause-buffers
step-requires-clause-buffers c = (burst_room c.args.core.now c.take_burst.new.core c.args.entry.task c.in_ok-local.local c.requires.room c.in_ok-local.ensures.burst).3

pub returns-in-Stepped-clause-taken : goal.returns-in-Stepped-clause-taken
returns-in-Stepped-clause-taken c =
    let answer = c.in_ok-step.ensures.step in
    let stepped = rw c.in-Stepped.is at answer in
    short_burst c.args.core.now c.take_burst.new.core c.args.entry c.in_ok-local.local c.in_ok-local.ensures.burst (Some c.step.new.self.core) c.take_burst.ensures.same c.if-local-entry.false
    c.if-local-eq-LONGEST_BURST.false (answered step.Stepped c.take_burst.new.core.core c.step.new.self.core (limited_step c.take_burst.new.core.limits c.take_burst.new.core.code c.take_burst.new.core.core c.args.entry.task) stepped)

pub returns-in-NotReady : goal.returns-in-NotReady
returns-in-NotReady c =
    let refused = unanswered c.in_ok-step.field-0 c.take_burst.new.core.core c.step.new.self.core _ c.in-NotReady.is c.in_ok-step.ensures.step in
    record {
      same = (c.step.ensures.same.0 ∙ c.take_burst.ensures.same.0, c.step.ensures.same.1 ∙ c.take_burst.ensures.same.1);
      taken = (
        short_burst c.args.core.now c.take_burst.new.core c.args.entry c.in_ok-local.local c.in_ok-local.ensures.burst None c.take_burst.ensures.same c.if-local-entry.false
            c.if-local-eq-LONGEST_BURST.false refused.0,
        seen_ready c.args.core.now.limits c.args.core.now.code c.args.core.now.core c.take_burst.new.core.core c.args.entry.task c.in_ok-local.local c.requires.ready c.in_ok-local.ensures.burst,
      );
    }
