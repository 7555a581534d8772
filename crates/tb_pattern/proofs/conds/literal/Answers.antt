-- The next token is a text, a `-`, or a number.
use Rattle.std.proofs.Common.{false, sym, ◌∙◌}
use Rattle.tb_pattern.proofs.CondLaws.{literal-text, literal-minus, literal-plain}
use Rattle.tb_pattern.proofs.conds.literal.Goals as goal

pub returns-then-begins-clause-built : goal.returns-then-begins-clause-built
returns-then-begins-clause-built c ps come =
    rw (c.in_ok-quoted.ensures, c.behind.ensures)
    (literal-text c.args.tokens.now (sym c.begins.ensures ∙ c.if-begins.true) ps false come)

pub returns-then-begins-2-clause-built : goal.returns-then-begins-2-clause-built
returns-then-begins-2-clause-built c ps come =
    rw (c.in_ok-number.ensures, c.behind-then-begins-2.ensures, c.behind-digits.ensures)
    (literal-minus c.args.tokens.now (sym c.begins.ensures ∙ c.if-begins.false) (sym c.begins-2.ensures ∙ c.if-begins-2.true) ps false come)

pub returns-clause-built : goal.returns-clause-built
returns-clause-built c =
    rw (c.in_ok-number-2.ensures, c.behind-2.ensures)
    (literal-plain c.args.tokens.now (sym c.begins.ensures ∙ c.if-begins.false) (sym c.begins-2.ensures ∙ c.if-begins-2.false))
