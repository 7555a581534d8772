-- Where no token begins, the cut ends.
use Rattle.tb_token.proofs.lexing.PlaceLaws.{rest-is, fault-cut}
use Rattle.tb_token.proofs.lexer.cut.token_at.Goals as goal

pub returns-in_default : goal.returns-in_default
returns-in_default c =
    let none = rw (rest-is c.args.text.now c.args.at) at c.in_default.ensures in
    rw c.fault_at.ensures (fault-cut c.args.text.now c.args.at c.requires.within c.requires.some none)
