-- Tokens ask for one query at most.
use Rattle.std.proofs.Common.{List, sym, ◌∙◌}
use Rattle.tb_token.specs.grammar.Grammar.{Tok}
use Rattle.tb_token.specs.grammar.Sentences.{Tree, leaf, nothing, pair, first, second}
use Rattle.tb_token.proofs.grammar.TreeLaws.{one-tree}
use Rattle.tb_token.specs.grammar.Queries.{rules, follow}
use Rattle.tb_token.proofs.grammar.QueryLaws.{readable, first-tree}
use Rattle.tb_query.specs.declared.query.Query.{Query}
use Rattle.tb_query.specs.declared.query.Query.TheVariants.{Match, Flwor}
use Rattle.tb_flwor.specs.Asked.{IsOf, AskFor, AreSame}

-- a tree stands for one query
of-one : (s : List Tok) (q r : Query) (v : Tree) → IsOf s q v → IsOf s r v → AreSame q r
of-one s (Match p) (Match q) (first v) a b = (a.document_is ∙ sym b.document_is, a.edges_are ∙ sym b.edges_are)
of-one s (Flwor p) (Flwor q) (second v) a b = (
  a.clauses_are ∙ sym b.clauses_are,
  a.conds_are ∙ sym b.conds_are,
  a.group_is ∙ sym b.group_is,
  a.keys_are ∙ sym b.keys_are,
  a.back_is ∙ sym b.back_is,
)
of-one s (Match p) (Flwor q) (first v) a b = absurd b
of-one s (Match p) (Flwor q) (second v) a b = absurd a
of-one s (Flwor p) (Match q) (first v) a b = absurd a
of-one s (Flwor p) (Match q) (second v) a b = absurd b
of-one s (Match p) (Match q) (second v) a b = absurd a
of-one s (Flwor p) (Flwor q) (first v) a b = absurd a
of-one s (Match p) r (leaf t) a b = absurd a
of-one s (Flwor p) r (leaf t) a b = absurd a
of-one s (Match p) r nothing a b = absurd a
of-one s (Flwor p) r nothing a b = absurd a
of-one s (Match p) r (pair v w) a b = absurd a
of-one s (Flwor p) r (pair v w) a b = absurd a

-- the query of tokens is one
pub one-query : (s : List Tok) (q r : Query) → AskFor s q → AskFor s r → AreSame q r
one-query s q r one_is two_is =
    let same = first-tree one_is.0 two_is.0 (one-tree rules follow readable.good readable.queries one_is.1 two_is.1) in
    of-one s q r one_is.0 one_is.2 (rw same two_is.2)
