use Rattle.std.proofs.Common.{◌-◌, ◌≤◌, ◌++◌, List, Option, drop, length}
use Rattle.tb_token.specs.tokens.Cuts.{AreCut, IsCut}
use Rattle.tb_token.specs.declared.lexer.token.Token.{Token}
use Rattle.tb_token.specs.declared.lexer.fault.LexFault.{LexFault}
use Rattle.tb_token.proofs.lexer.cut.tokens.Given as goal

-- however the bytes that are left are cut, the text is cut so with the tokens found before it
abbrev pub invariant-tokens : goal.invariant-tokens
invariant-tokens l = record {
  within : l.at ≤ length l.text;
  so_far : (ts : List Token) (f : Option LexFault) → AreCut l.at (drop l.at l.text) ts f → IsCut l.text (l.found.items ++ ts) f;
}

-- the bytes that are left
abbrev pub decreases-tokens : goal.decreases-tokens
decreases-tokens l = length l.text - l.at
