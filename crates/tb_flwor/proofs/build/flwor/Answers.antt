-- The parts stand one behind the other.
use Rattle.tb_flwor.proofs.FlworLaws.{flwor-builds}
use Rattle.tb_flwor.proofs.build.flwor.Goals as goal

pub returns : goal.returns
returns c =
    flwor-builds c.args.names.now
    (record { clauses = c.in_ok-clauses.clauses; conds = c.in_ok-conds.conds; group = c.in_ok-group.group; keys = c.in_ok-keys.keys; back = c.in_ok-back.back })
    c.args.tokens.now c.in_ok-clauses.left.now c.in_ok-conds.left.now c.in_ok-group.left.now c.in_ok-keys.left.now c.in_ok-back.left.now
    c.in_ok-clauses.ensures c.in_ok-conds.ensures c.in_ok-group.ensures c.in_ok-keys.ensures (rw c.behind.ensures at c.in_ok-back.ensures)
