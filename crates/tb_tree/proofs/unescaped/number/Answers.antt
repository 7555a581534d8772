-- One digit more.
use Rattle.std.proofs.Common.{arith}
use Rattle.tb_tree.proofs.EscapeLaws.{number-step}
use Rattle.tb_tree.proofs.unescaped.number.Goals as goal

pub digits-preserved : goal.digits-preserved
digits-preserved c = record {
  most = omega (arith, c.more_digits-number.ensures);
  more = number-step c.digits.number c.more_digits-number.result c.digits.digit-index _ 1114112 c.args.digits.now c.digits-test.true c.more_digits-number.ensures c.digits.invariant.more;
}
