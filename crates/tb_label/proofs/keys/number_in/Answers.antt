-- The sign, the digits and the blanks behind them, as they print.
use Rattle.std.proofs.Common.{sym, ap, ◌∙◌, eqb-true}
use Rattle.std.proofs.lemmas.Bool.{eq-eqb, false≢true}
use Rattle.tb_number.specs.Reading.{begins_with_minus, signed_digits, behind_digits}
use Rattle.tb_label.proofs.PrintedBlankLaws.{minus-printed, digits-printed, behind-printed, number-no_digit, number-more, number-some}
use Rattle.tb_label.proofs.keys.number_in.Goals as goal

pub returns-then-is_empty : goal.returns-then-is_empty
returns-then-is_empty c = λ text is.
    let found = c.signed_digits-minus in
    number-no_digit text found.result.1.now (found.ensures.digits ∙ ap signed_digits is ∙ digits-printed text) (eqb-true _ 0 (sym c.if-is_empty.ensures))

pub returns-then-not-is_empty : goal.returns-then-not-is_empty
returns-then-not-is_empty c = λ text is.
    let behind = c.without_blanks.ensures (behind_digits text) (c.signed_digits-minus.ensures.behind ∙ ap behind_digits is ∙ behind-printed text) in
    number-more text c.without_blanks.result.now behind (λ none. false≢true (c.if-not-is_empty.ensures ∙ eq-eqb _ 0 none))

pub returns : goal.returns
returns c = λ text is.
    let found = c.signed_digits-minus in
    let behind = c.without_blanks.ensures (behind_digits text) (found.ensures.behind ∙ ap behind_digits is ∙ behind-printed text) in
    number-some text found.result.1.now c.without_blanks.result.now found.result.0 (found.ensures.minus ∙ ap begins_with_minus is ∙ minus-printed text)
    (found.ensures.digits ∙ ap signed_digits is ∙ digits-printed text) behind
    (λ none. false≢true (c.if-is_empty.ensures ∙ eq-eqb _ 0 none)) (eqb-true _ 0 (sym c.if-not-is_empty.ensures))
