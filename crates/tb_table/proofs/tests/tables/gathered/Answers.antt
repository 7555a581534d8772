-- Each number was looked at.
use Rattle.std.proofs.Common.{◌<◌, get_or, length, ap, arith, subst}
use Rattle.std.specs.Prelude.{All}
use Rattle.std.proofs.lemmas.List.{take_all}
use Rattle.std.proofs.lemmas.List.Elements.{All-more}
use Rattle.tb_table.proofs.tests.tables.gathered.Goals as goal

pub picks-preserved : goal.picks-preserved
picks-preserved c =
    All-more (λ p. p < length c.args.table.rows) c.args.picks.now c.picks.pick-index 0 (omega (arith, c.picks-test.true)) c.picks.invariant
    (omega (arith, c.if-pick-len.false, c.len.ensures))

pub gather-requires : goal.gather-requires
gather-requires c =
    subst (All (λ p. p < length c.args.table.rows)) (take_all c.picks.pick-index c.args.picks.now (omega (arith, c.picks-test.false))) c.picks.invariant
