use Rattle.tb_top.proofs.tests.labels.answers.Given as goal

-- the blank's own name and parts
abbrev pub ghosts-compared : goal.ghosts-compared
ghosts-compared a = record { name = a.blank.name; parts = a.blank.parts }
