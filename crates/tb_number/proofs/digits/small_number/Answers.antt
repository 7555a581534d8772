-- The first digits write no greater number than all.
use Rattle.std.proofs.Common.{◌^◌}
use Rattle.tb_number.proofs.RangeLaws.{number_of-all, number_of-past}
use Rattle.tb_number.proofs.digits.small_number.Goals as goal

pub returns-in_err-number : goal.returns-in_err-number
returns-in_err-number c =
    rw c.from_residual.ensures (number_of-past c.args.digits.now c.digits.digit-index c.digits.number (2 ^ 128) c.digits.invariant.so_far c.digits-test.true c.in_err-number.ensures)

pub returns : goal.returns
returns c =
    let all = number_of-all c.args.digits.now c.digits.digit-index c.digits.number c.digits.invariant.so_far c.digits-test.false in
    (rw all at c.digits.invariant.fits, all)
