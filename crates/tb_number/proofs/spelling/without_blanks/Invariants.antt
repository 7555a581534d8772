use Rattle.std.proofs.Common.{◌≡◌, ◌+◌, drop}
use Rattle.std.specs.List.{prefix_len}
use Rattle.tb_number.specs.IntText.{is_blank}
use Rattle.tb_number.proofs.spelling.without_blanks.Given as goal

-- the bytes passed are counted, and what is left is counted in the same way
abbrev pub invariant-blanks : goal.invariant-blanks
invariant-blanks l = l.at + prefix_len is_blank (drop l.at l.bytes) ≡ prefix_len is_blank l.bytes
