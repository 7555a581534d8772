-- Leading zeros and a minus before zero do not count.
use Rattle.tb_number.proofs.DigitLaws.{reduced-without_zeros}
use Rattle.tb_number.proofs.SignLaws.{signed-without_zeros}
use Rattle.tb_number.proofs.int_text.IntText.of.Goals as goal

pub invariant_of-result : goal.invariant_of-result
invariant_of-result c = rw (c.keeps_minus.ensures, c.without_zeros-digits.ensures) (reduced-without_zeros c.args.minus c.args.digits.now c.requires)

pub returns : goal.returns
returns c = rw (c.keeps_minus.ensures, c.without_zeros-digits.ensures) (signed-without_zeros c.args.minus c.args.digits.now)
