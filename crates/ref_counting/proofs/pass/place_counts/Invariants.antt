use Rattle.ref_counting.proofs.pass.place_counts.Given as goal

abbrev pub ghosts-counted_code : goal.ghosts-counted_code
ghosts-counted_code a = record { name = a.blank.name; parts = a.blank.parts }
