use Rattle.std.proofs.Common.{◌≡◌, ◌≤◌, ◌+◌, drop}
use Rattle.tb_pattern.specs.Faults.{tests_of}
use Rattle.tb_pattern.proofs.limits.tests_in.Given as goal

-- the tests passed are counted, and what is left is counted in the same way
abbrev pub invariant-tokens : goal.invariant-tokens
invariant-tokens l = record {
  few : l.tests ≤ l.token-index;
  same : l.tests + tests_of (drop l.token-index l.tokens) ≡ tests_of l.tokens;
}
