use Rattle.parsed_laws.proofs.laws.written_are_arguments.Goals as goal

pub returns : goal.returns
returns c funcs entry text values h =
    c.fitted_are_arguments.ensures funcs entry h.args values (c.reads_sizes.ensures text h.args h.read) h.fit
