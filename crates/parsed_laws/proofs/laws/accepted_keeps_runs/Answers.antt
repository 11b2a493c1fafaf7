use Rattle.parsed_laws.proofs.laws.accepted_keeps_runs.Goals as goal

pub returns : goal.returns
returns c limits level text given program p q entry values accepted written ip iq =
    c.pass_keeps_runs.ensures program p q entry values (c.accepts_well_formed.ensures limits level text program accepted) ip iq
    (c.written_are_arguments.ensures program.funcs entry given values written)
