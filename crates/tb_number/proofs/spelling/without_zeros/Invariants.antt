use Rattle.std.proofs.Common.{◌≡◌, ◌+◌, drop}
use Rattle.std.specs.List.{prefix_len}
use Rattle.tb_number.specs.Reduced.{is_zero}
use Rattle.tb_number.proofs.spelling.without_zeros.Given as goal

-- the bytes passed are counted, and what is left is counted in the same way
abbrev pub invariant-zeros : goal.invariant-zeros
invariant-zeros l = l.at + prefix_len is_zero (drop l.at l.digits) ≡ prefix_len is_zero l.digits
