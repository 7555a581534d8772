-- What is written reads back.
use Rattle.std.proofs.Common.{Some, None, sym, ◌∙◌, refl, rules}
use Rattle.tb_group.proofs.ExtremeLaws.{beats-written}
use Rattle.tb_group.proofs.extreme.is_better.Goals as goal

pub returns-in-Some : goal.returns-in-Some
returns-in-Some c = λ kept is.
    beats-written c.args.op kept c.args.written.now (Some c.in-Some.kept) c.args.number.now c.holds.result is (sym c.in-Some.is ∙ c.read.ensures.number) (search rules)

pub returns-in-None : goal.returns-in-None
returns-in-None c = λ kept is.
    beats-written c.args.op kept c.args.written.now None c.args.number.now _ is (sym c.in-None.is ∙ c.read.ensures.number) refl
