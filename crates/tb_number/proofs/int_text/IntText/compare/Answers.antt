-- Each pair of signs has its order.
use Rattle.std.proofs.Common.{true, false, ◌∙◌}
use Rattle.tb_number.proofs.SignLaws.{signed_digits_cmp-is}
use Rattle.tb_number.proofs.int_text.IntText.compare.Goals as goal

pub returns-in-true-true : goal.returns-in-true-true
returns-in-true-true c =
    c.compare_digits.ensures ∙ signed_digits_cmp-is true true _ _ c.self.inside.digits.now c.other.inside.digits.now _ _ c.in-true-true.is-0 c.in-true-true.is-1
    c.self.invariant c.other.invariant c.self.view_is c.other.view_is

pub returns-in-true-false : goal.returns-in-true-false
returns-in-true-false c =
    signed_digits_cmp-is true false _ _ c.self.inside.digits.now c.other.inside.digits.now _ _ c.in-true-false.is-0 c.in-true-false.is-1
    c.self.invariant c.other.invariant c.self.view_is c.other.view_is

pub returns-in-false-true : goal.returns-in-false-true
returns-in-false-true c =
    signed_digits_cmp-is false true _ _ c.self.inside.digits.now c.other.inside.digits.now _ _ c.in-false-true.is-0 c.in-false-true.is-1
    c.self.invariant c.other.invariant c.self.view_is c.other.view_is

pub returns-in-false-false : goal.returns-in-false-false
returns-in-false-false c =
    c.compare_digits-in-false-false.ensures ∙ signed_digits_cmp-is false false _ _ c.self.inside.digits.now c.other.inside.digits.now _ _ c.in-false-false.is-0 c.in-false-false.is-1
    c.self.invariant c.other.invariant c.self.view_is c.other.view_is
