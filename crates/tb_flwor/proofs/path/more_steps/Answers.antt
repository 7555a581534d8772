-- There is a step, or there is none.
use Rattle.std.proofs.Common.{sym, ◌∙◌}
use Rattle.tb_flwor.proofs.PathLaws.{more-there, more-none}
use Rattle.tb_flwor.proofs.path.more_steps.Goals as goal

pub returns-then-begins-clause-built : goal.returns-then-begins-clause-built
returns-then-begins-clause-built c =
    more-there c.in_ok-steps.steps c.args.tokens.now c.in_ok-steps.left.now (sym c.begins.ensures ∙ c.if-begins.true) c.in_ok-steps.ensures.built

pub returns-clause-built : goal.returns-clause-built
returns-clause-built c = rw (c.from_vec.ensures, c.new.ensures.items) (more-none c.args.tokens.now (sym c.begins.ensures ∙ c.if-begins.false))
