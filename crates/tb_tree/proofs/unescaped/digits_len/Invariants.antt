use Rattle.std.proofs.Common.{◌≡◌, ◌+◌, drop}
use Rattle.std.specs.List.{prefix_len}
use Rattle.tb_tree.specs.Escapes.{is_digit}
use Rattle.tb_tree.proofs.unescaped.digits_len.Given as goal

-- the bytes passed are digits, and what is left is counted in the same way
abbrev pub invariant-digits : goal.invariant-digits
invariant-digits l = l.at + prefix_len is_digit (drop l.at l.bytes) ≡ prefix_len is_digit l.bytes
