use Rattle.std.proofs.Common.{◌+◌}
use Rattle.tb_script.proofs.round.Round.end.Goals as goal

pub turns-preserved : goal.turns-preserved
turns-preserved c =
    record {
      fits = c.in_ok-visit.ensures.fits;
      follows = λ css f.
          let here = c.turns.invariant.follows css f in
          (c.in-Some.at + 1, c.in_ok-visit.ensures.follows css (c.in-Some.ensures.follows css here.0 here.1));
    }

pub returns : goal.returns
returns c = λ css f. let here = c.turns.invariant.follows css f in c.in_default.ensures.follows css here.0 here.1
