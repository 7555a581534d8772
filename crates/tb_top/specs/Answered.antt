-- What a query of few nodes is answered: words of private clauses.
use Rattle.std.specs.Prelude.{ℕ, ◌≤◌, List}
use Rattle.tb_pattern.specs.Plain.{nodes_in}
use Rattle.tb_pattern.specs.View.{edges_of}
use Rattle.tb_parjoin.specs.declared.answer.Answer.{Answer}
use Rattle.tb_query.specs.declared.query.Query.{Query}
use Rattle.tb_query.specs.declared.query.Query.TheVariants.{Match, Flwor}

-- the number of trees and their lines
abbrev pub told : Answer → ℕ × List ℕ
told a = (a.count, a.text.items)

-- the query is a pattern, of 64 nodes at most
abbrev pub AsksFew : Query → Type 0
AsksFew (Match p) = nodes_in (edges_of p.edges) ≤ 64
AsksFew (Flwor q) = ⊥
