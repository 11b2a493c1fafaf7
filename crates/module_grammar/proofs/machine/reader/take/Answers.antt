use Rattle.std.proofs.Common.{refl}
use Rattle.module_grammar.specs.Machines.{place_of}
use Rattle.module_grammar.proofs.Passes.{is_faulty, is_taken}
use Rattle.module_grammar.proofs.machine.reader.take.Goals as goal

pub returns : goal.returns
returns c =
    is_taken c.args.limits.now c.args.level _ (place_of c.args.machine.now) (place_of c.step.new.self) (place_of c.settle.new.self) c.args.token.now _
    c.args.rest.now c.in_ok-step.field-0 c.limit_behind.result c.requires c.if-not-branch.false refl c.in_ok-step.ensures c.in_ok-settle.ensures
    c.limit_behind.ensures

pub returns-then-not-branch : goal.returns-then-not-branch
returns-then-not-branch c =
    is_faulty c.args.limits.now c.args.level _ (place_of c.args.machine.now) (place_of c.step.new.self) c.args.token.now _ c.args.rest.now c.in_ok-step.field-0 _
    c.requires c.if-not-branch.true refl c.in_ok-step.ensures c.in_ok-fault.ensures
