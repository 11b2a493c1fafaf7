-- Nothing is noted where there is no memory for the turns.
use Rattle.serial_run.proofs.Driving.{on_err, none_possible}
use Rattle.serial_run.proofs.driver.drive.Goals as goal

pub returns-in_err-turns-clause-err : goal.returns-in_err-turns-clause-err
returns-in_err-turns-clause-err c =
    on_err c.from_residual.result _ (none_possible c.args.core.now.code c.args.core.now.core c.args.journal.now.items c.requires.empty)
