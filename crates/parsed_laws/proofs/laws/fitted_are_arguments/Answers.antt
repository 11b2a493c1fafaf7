use Rattle.parsed_laws.proofs.Fitting.{fitted_are_arguments}
use Rattle.parsed_laws.proofs.laws.fitted_are_arguments.Goals as goal

pub returns : goal.returns
returns c = fitted_are_arguments
