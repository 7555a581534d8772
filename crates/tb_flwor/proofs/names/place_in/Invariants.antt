use Rattle.std.proofs.Common.{◌≡◌, ◌+◌, drop, map}
use Rattle.tb_token.specs.tokens.Lexemes.{place_in}
use Rattle.tb_flwor.proofs.names.place_in.Given as goal

-- the name stands in none of the texts passed
abbrev pub invariant-names : goal.invariant-names
invariant-names l =
    l.at + place_in l.name (map (λ name. name.now) (drop l.at l.names)) ≡ place_in l.name (map (λ name. name.now) l.names)
