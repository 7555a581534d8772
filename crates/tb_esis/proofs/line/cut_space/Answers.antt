-- The cut is at the first space, or there is none.
use Rattle.std.proofs.Common.{sym, ◌∙◌, ◌+◌}
use Rattle.std.proofs.lemmas.List.{take_rest}
use Rattle.tb_esis.proofs.SpaceLaws.{cut-before, cut-behind, uncut-before, uncut-behind}
use Rattle.tb_esis.proofs.line.cut_space.Goals as goal

pub returns-in-Some-clause-before : goal.returns-in-Some-clause-before
returns-in-Some-clause-before c = sym (cut-before c.args.bytes.now c.in-Some.at c.in-Some.ensures.0 c.in-Some.ensures.1)

pub returns-in-Some-clause-behind : goal.returns-in-Some-clause-behind
returns-in-Some-clause-behind c = take_rest c.args.bytes.now (c.in-Some.at + 1) ∙ sym (cut-behind c.args.bytes.now c.in-Some.at c.in-Some.ensures.0 c.in-Some.ensures.1)

pub returns-in-None-clause-before : goal.returns-in-None-clause-before
returns-in-None-clause-before c = sym (uncut-before c.args.bytes.now c.in-None.ensures)

pub returns-in-None-clause-behind : goal.returns-in-None-clause-behind
returns-in-None-clause-behind c = sym (uncut-behind c.args.bytes.now c.in-None.ensures)
