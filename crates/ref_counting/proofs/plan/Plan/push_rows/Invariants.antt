use Rattle.std.proofs.Common.{◌≡◌, ◌++◌, drop}
use Rattle.ref_counting.specs.Shape.{rows}
use Rattle.ref_counting.proofs.plan.Plan.push_rows.Given as goal

abbrev pub invariant-loop-row : goal.invariant-loop-row
invariant-loop-row l = l.instrs ++ rows l.self l.block l.row (drop l.row l.rows) ≡ l.initial.instrs ++ rows l.self l.block 0 l.rows
