use Rattle.std.proofs.Common.{◌≡◌, ◌+◌, drop, map}
use Rattle.tb_token.specs.tokens.Lexemes.{place_in}
use Rattle.tb_token.proofs.lexer.terminal.place_in.Given as goal

-- the texts passed are counted, and what is left is counted in the same way
abbrev pub invariant-texts : goal.invariant-texts
invariant-texts l =
    l.at + place_in l.bytes (map (λ text. text.now) (drop l.at l.texts)) ≡ place_in l.bytes (map (λ text. text.now) l.texts)
