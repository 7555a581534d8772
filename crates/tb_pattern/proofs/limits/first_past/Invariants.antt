use Rattle.std.proofs.Common.{◌≡◌, drop}
use Rattle.tb_pattern.specs.Faults.{past_behind, first_past}
use Rattle.tb_pattern.proofs.limits.first_past.Given as goal

-- the first number outside the range is that of the tokens that are left
abbrev pub invariant-tokens : goal.invariant-tokens
invariant-tokens l = past_behind l.minus (drop l.token-index l.tokens) ≡ first_past l.tokens
