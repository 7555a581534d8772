-- What a query of clauses returns, in its tokens and in its tree.
use Rattle.std.specs.Prelude.{◌≡◌, List, [], ◌∷◌, ◌++◌}
use Rattle.tb_token.specs.grammar.Grammar.{Tok}
use Rattle.tb_token.specs.grammar.Sentences.{Tree, leaf, nothing, pair, first, second, Derives}
use Rattle.tb_token.specs.grammar.Queries.{rules, query}
use Rattle.tb_flwor.specs.Constructors.{results}

-- the tokens of a tree, in their order
abbrev pub tokens_of : Tree → List Tok
tokens_of (leaf t) = t ∷ []
tokens_of nothing = []
tokens_of (pair v w) = tokens_of v ++ tokens_of w
tokens_of (first v) = tokens_of v
tokens_of (second v) = tokens_of v

-- what stands behind RETURN in the tree of a query of clauses
abbrev pub back_tree : Tree → Tree
back_tree (pair _ (pair _ (pair _ (pair _ (pair _ (pair _ b)))))) = b
back_tree _ = nothing

-- what a query of clauses returns are the tokens of what its tree returns
abbrev pub ResultsAgree : Type 0
ResultsAgree =
    (s : List Tok) (v : Tree) → Derives rules (query ∷ []) (second v ∷ []) s
    → results s ≡ tokens_of (back_tree v)
