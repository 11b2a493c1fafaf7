use Rattle.machines.proofs.Read.{read_carries}
use Rattle.code_machines.specs.HighCode.{high}
use Rattle.code_machines.specs.Named.{numbered_lowered}
use Rattle.code_machines.specs.Paths.{paths}
use Rattle.code_machines.proofs.laws.named_carries.Goals as goal

pub returns : goal.returns
returns c code above n m f g args = read_carries (paths args) (numbered_lowered code n f args) (high above m g args)
