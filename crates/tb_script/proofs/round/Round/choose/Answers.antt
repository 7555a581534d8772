use Rattle.std.proofs.Common.{◌≡◌, ℕ, false, arith, refl, subst}
use Rattle.tb_script.specs.Sets.{holds, TakesFirst}
use Rattle.tb_script.specs.Stands.{stand_of}
use Rattle.tb_script.proofs.StandLaws.{first-chosen, round-chooses}
use Rattle.tb_script.proofs.SetLaws.{size-less}
use Rattle.tb_script.proofs.round.Round.choose.Goals as goal

pub returns-in-Some : goal.returns-in-Some
returns-in-Some c =
    record {
      follows = λ css from f. first-chosen css from c.in-Some.at (stand_of c.args.self.now) c.take_first.new.self c.in-Some.ensures f;
      lighter = (c.in-Some.ensures.0, omega (arith, size-less c.args.self.now.awake c.take_first.new.self c.in-Some.at c.in-Some.ensures));
      same = refl;
    }

pub returns : goal.returns
returns c =
    let st = stand_of c.args.self.now in
    let none : (n : ℕ) → holds st.awake n ≡ false = (subst (TakesFirst st.awake c.take_first.new.self) c.in_default.is c.take_first.ensures).0 in
    round-chooses st c.take_first-2.new.self c.none-self.result c.take_first-2.result none c.none-self.ensures c.take_first-2.ensures
