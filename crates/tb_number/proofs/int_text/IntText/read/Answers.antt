-- What the function gives, the bytes stand for.
use Rattle.std.proofs.Common.{rules}
use Rattle.tb_number.specs.Reading.{integer_of}
use Rattle.tb_number.proofs.ReadingLaws.{reads-integer_of, integer_of-stands}
use Rattle.tb_number.proofs.int_text.IntText.read.Goals as goal

pub returns-in_err-digits-clause-reads : goal.returns-in_err-digits-clause-reads
unfolding integer_of
returns-in_err-digits-clause-reads c = reads-integer_of c.args.bytes.now c.from_residual.result (search rules)

pub returns-clause-reads : goal.returns-clause-reads
unfolding integer_of
returns-clause-reads c = integer_of-stands c.args.bytes.now c.of.result (search rules)
