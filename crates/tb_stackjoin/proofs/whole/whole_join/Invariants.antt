-- The counter of its own.
use Rattle.tb_stackjoin.proofs.whole.whole_join.Given as goal

abbrev pub ghosts-uncounted : goal.ghosts-uncounted
ghosts-uncounted a = record { name = a.blank.name; parts = a.blank.parts }
