use Rattle.parsed_laws.proofs.laws.accepted_has_results.Goals as goal

pub returns : goal.returns
returns c limits level text given program q entry values accepted written iq =
    c.pass_has_results.ensures program q entry values (c.accepts_well_formed.ensures limits level text program accepted) iq
    (c.written_are_arguments.ensures program.funcs entry given values written)
