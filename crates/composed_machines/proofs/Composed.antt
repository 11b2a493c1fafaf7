-- The passes composed.
use Rattle.code_machines.specs.HighCode.{high}
use Rattle.code_machines.specs.Named.{named_high, numbered_lowered, named_lowered}
use Rattle.code_machines.specs.Paths.{paths}
use Rattle.machines.proofs.Composes.{carries_on}
use Rattle.machines.proofs.Read.{read_carries}
use Rattle.source_machine.specs.Source.{source}
use Rattle.source_machine.proofs.Runs.{finishes_the_same, never_stuck}
use Rattle.checked_machines.specs.Strict.{strict_source}
use Rattle.checked_machines.proofs.Checked.{checked_carries}
use Rattle.composed_machines.specs.Laws.{ComposedKeeps, ComposedRefines}

pub composed_keeps : ComposedKeeps
composed_keeps program p entry args code n f h =
    carries_on (named_lowered code n f args) (named_high h.above h.m h.g args) (source p entry args)
    (read_carries (paths args) (numbered_lowered code n f args) (high h.above h.m h.g args) h.coroutines)
    (carries_on (named_high h.above h.m h.g args) (strict_source h.q entry args) (source p entry args) h.blocks
    (checked_carries program p h.q entry args h.formed h.of h.of_checked h.fit))
    (never_stuck p entry args)

pub composed_refines : ComposedRefines
composed_refines program p entry args code n f h shown end finishes =
    (finishes_the_same p entry args shown end).0 ((composed_keeps program p entry args code n f h).0.refines shown end finishes)
