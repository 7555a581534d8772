-- What is found by the first byte, the bytes begin with.
use Rattle.tb_token.proofs.lexing.PrefixLaws.{finds-prefix_of}
use Rattle.tb_token.proofs.lexer.prefix.Prefix.of.Goals as goal

pub returns : goal.returns
returns c = finds-prefix_of c.args.bytes.now c.by_first_byte.result c.by_first_byte.ensures
