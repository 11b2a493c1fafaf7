use Rattle.std.proofs.Common.{arith, ◌≡◌, Some, slice_get, ◌+◌, ◌-◌, ◌≤◌, drop}
use Rattle.ir_forms.specs.Shapes.{most_cells}
use Rattle.source_meaning.specs.Start.{stored, stores_of, cells_in_all}
use Rattle.source_state.proofs.Loops.{argument_fits, got}
use Rattle.source_state.proofs.stores.add_arguments.Goals as goal

pub add_argument-requires : goal.add_argument-requires
add_argument-requires c =
    let at : Some c.in-Some.arg.now ≡ slice_get c.args.args.now (c.loop-at.at - 1) = got c.args.args.now (c.loop-at.at - 1) c.in-Some.arg.now c.in-Some.ensures.lookup.3.0 c.in-Some.ensures.lookup.1 in
    let h : cells_in_all (stored (c.loop-at.at - 1) c.in-Some.arg.now) + cells_in_all (stores_of c.loop-at.at (drop c.loop-at.at c.args.args.now)) ≤ most_cells =
    argument_fits c.args.args.now (c.loop-at.at - 1) c.loop-at.at c.in-Some.arg.now (omega (arith, c.loop-at-test.true)) at c.requires.fits in
    omega (arith, h)

pub overflow_add-used : goal.overflow_add-used
overflow_add-used c =
    let at : Some c.in-Some.arg.now ≡ slice_get c.args.args.now (c.loop-at.at - 1) = got c.args.args.now (c.loop-at.at - 1) c.in-Some.arg.now c.in-Some.ensures.lookup.3.0 c.in-Some.ensures.lookup.1 in
    let h : cells_in_all (stored (c.loop-at.at - 1) c.in-Some.arg.now) + cells_in_all (stores_of c.loop-at.at (drop c.loop-at.at c.args.args.now)) ≤ most_cells =
    argument_fits c.args.args.now (c.loop-at.at - 1) c.loop-at.at c.in-Some.arg.now (omega (arith, c.loop-at-test.true)) at c.requires.fits in
    omega (arith, h, c.loop-at.invariant.1, c.in_ok-used-in-Some.ensures.used)
