use Rattle.made_ops.specs.Made.{truth}
use Rattle.loop_blocks.specs.Loops.{runs_blocks}
use Rattle.loop_blocks.proofs.Regions.{yielded}
use Rattle.loop_blocks.proofs.loops.blocks_region.Goals as goal

pub returns : goal.returns
returns c =
    yielded truth (runs_blocks c.args.options c.args.plan.now c.args.turns.now c.args.trip) c.args.made.now c.in_ok-inner.inner c.run_blocks.new.made c.end_region.new.self c.close.new.self c.in_ok-answer.answer c.close.result
    c.in_ok-inner.ensures c.in_ok-answer.ensures c.in_ok-end_region.ensures c.close.ensures
