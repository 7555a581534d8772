use Rattle.std.proofs.Common.{◌≡◌, ◌+◌, ◌==◌, drop}
use Rattle.std.specs.List.{position_or_len}
use Rattle.tb_token.proofs.lexer.prefix.unquoted_len.Given as goal

-- the bytes passed are counted, and what is left is counted in the same way
abbrev pub invariant-bytes : goal.invariant-bytes
invariant-bytes l = l.at + position_or_len (λ b. b == l.quote) (drop l.at l.bytes) ≡ position_or_len (λ b. b == l.quote) l.bytes
