use Rattle.std.proofs.Common.{length, sym, ◌∙◌}
use Rattle.std.proofs.lemmas.Bool.{eqb-true}
use Rattle.std.proofs.lemmas.List.{nil_from_length}
use Rattle.tb_stackjoin.proofs.ReachLaws.{reaches-written}
use Rattle.tb_stackjoin.proofs.opening.write_ended.Goals as goal

pub returns-clause-reaches : goal.returns-clause-reaches
returns-clause-reaches c = λ a d r place passed h.
    let stack = c.args.stack.now in
    reaches-written a d r place passed c.args.pairs.now.items c.write_reaches.new.pairs.items c.args.reaches.now.items c.write_reaches.new.reaches.items stack
    (nil_from_length stack (eqb-true (length stack) 0 (sym c.is_empty.ensures ∙ c.if-not-is_empty.false)))
    c.in_ok-write_reaches.ensures.none c.in_ok-write_reaches.ensures.pairs h
