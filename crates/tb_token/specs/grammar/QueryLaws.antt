-- What holds of the grammar of queries.
use Rattle.std.specs.Prelude.{◌≡◌, ◌↔◌, List, [], ◌∷◌}
use Rattle.tb_token.specs.grammar.Grammar.{Tok, Expression}
use Rattle.tb_token.specs.grammar.Sentences.{Tree, Derives, AreSentence}
use Rattle.tb_token.specs.grammar.LL1.{AreLL1, AreGood}
use Rattle.tb_token.specs.grammar.Patterns.{match_query}
use Rattle.tb_token.specs.grammar.Paths.{path, written_path}
use Rattle.tb_token.specs.grammar.Queries.{rules, follow, query}

-- one token of look-ahead decides queries, and those of `MATCH` alone
pub record IsReadable : Type 0 where
  pub good : AreGood rules follow
  pub queries : AreLL1 follow (query ∷ [])
  pub matches : AreLL1 follow (match_query ∷ [])

-- tokens are read as one query at most
abbrev pub AreOneQuery : Type 0
AreOneQuery =
    (s : List Tok) (v w : Tree) → Derives rules (query ∷ []) (v ∷ []) s
    → Derives rules (query ∷ []) (w ∷ []) s → v ≡ w

-- a path is what the grammar's text says, whatever stands behind it
abbrev pub IsWrittenPath : Type 0
IsWrittenPath =
    (ps : List Expression) (s : List Tok)
    → AreSentence rules (path ∷ ps) s ↔ AreSentence rules (written_path ∷ ps) s
