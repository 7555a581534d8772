use Rattle.std.proofs.Common.{◌≡◌, ◌≤◌, drop}
use Rattle.tb_token.specs.tokens.TerminalNames.{terminals_of}
use Rattle.tb_token.specs.tokens.Nesting.{nests_past, is_too_nested}
use Rattle.tb_token.proofs.lexer.nesting.is_too_nested.Given as goal

-- the tokens that are left nest as all do
abbrev pub invariant-tokens : goal.invariant-tokens
invariant-tokens l = record {
  few : l.depth ≤ 32;
  same : nests_past l.opening l.closing l.depth (terminals_of (drop l.token-index l.tokens)) ≡ is_too_nested l.opening l.closing l.tokens;
}
