-- A blank more is passed, or none stands first.
use Rattle.std.proofs.Common.{sym, ◌∙◌, subst, arith}
use Rattle.tb_label.proofs.PrintedBlankLaws.{Left, blank-passed, blanks-end}
use Rattle.tb_label.proofs.keys.without_blanks.Goals as goal

pub returns-then-len-eq0 : goal.returns-then-len-eq0
returns-then-len-eq0 c = λ value is.
    blanks-end c.blanks.rest.now value (sym c.printed_blank-len.ensures ∙ c.if-len-eq0.true) (c.blanks.invariant value is)

pub blanks-preserved : goal.blanks-preserved
blanks-preserved c = λ value is.
    subst (λ rest. Left rest value) (sym c.behind-rest.ensures)
    (blank-passed c.blanks.rest.now value c.printed_blank-len.result c.printed_blank-len.ensures (omega (arith, c.if-len-eq0.false)) (c.blanks.invariant value is))
