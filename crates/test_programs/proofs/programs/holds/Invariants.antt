use Rattle.test_programs.proofs.programs.holds.Given as goal

abbrev pub ghosts-work_out : goal.ghosts-work_out
ghosts-work_out a = record { name = a.blank.name; parts = a.blank.parts }
