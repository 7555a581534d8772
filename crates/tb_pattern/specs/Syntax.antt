-- Whether tokens are a `MATCH` query, and the rules that it calls.
use Rattle.std.specs.Prelude.{zero, suc, List, [], ◌∷◌}
use Rattle.tb_token.specs.grammar.Grammar.{Tok, Rules}
use Rattle.tb_token.specs.grammar.Sentences.{AreSentence}
use Rattle.tb_token.specs.grammar.Terminals.{name}
use Rattle.tb_token.specs.grammar.Patterns.{edges_rest, match_query}
use Rattle.tb_token.specs.grammar.Queries.{rules}

-- the tokens are a `MATCH` query
abbrev pub AreMatch : List Tok → Type 0
AreMatch s = AreSentence rules (match_query ∷ []) s

-- the rules of queries, of which it calls the first alone
abbrev pub match_rules : Rules
match_rules zero = edges_rest
match_rules (suc n) = name
