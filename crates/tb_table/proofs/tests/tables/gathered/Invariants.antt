use Rattle.std.proofs.Common.{◌<◌, length, take}
use Rattle.std.specs.Prelude.{All}
use Rattle.tb_table.proofs.tests.tables.gathered.Given as goal

-- the rows so far are there
abbrev pub invariant-picks : goal.invariant-picks
invariant-picks l = All (λ p. p < length l.fn.table.rows) (take l.pick-index l.picks)
