use Rattle.std.proofs.Common.{◌≡◌, ◌+◌, drop}
use Rattle.tb_token.specs.tokens.Prefixes.{rest_len}
use Rattle.tb_token.proofs.lexer.names.rest_len.Given as goal

-- the bytes passed are counted, and what is left is counted in the same way
abbrev pub invariant-bytes : goal.invariant-bytes
invariant-bytes l = l.at + rest_len (drop l.at l.bytes) ≡ rest_len l.bytes
