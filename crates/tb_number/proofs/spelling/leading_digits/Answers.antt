-- The prefix is a run of digits.
use Rattle.tb_number.specs.IntText.{is_digit}
use Rattle.tb_number.proofs.Prefixes.{take-prefix_len}
use Rattle.tb_number.proofs.spelling.leading_digits.Goals as goal

pub returns-clause-digits : goal.returns-clause-digits
returns-clause-digits c = rw c.digits_len-len.ensures.len (take-prefix_len is_digit c.args.bytes.now)
