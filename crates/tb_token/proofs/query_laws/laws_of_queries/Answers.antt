use Rattle.tb_token.proofs.grammar.QueryLaws.{readable, one-query, is-written_path}
use Rattle.tb_token.proofs.query_laws.laws_of_queries.Goals as goal

pub returns-clause-readable : goal.returns-clause-readable
returns-clause-readable c = readable

pub returns-clause-tree : goal.returns-clause-tree
returns-clause-tree c = one-query

pub returns-clause-path : goal.returns-clause-path
returns-clause-path c = is-written_path
