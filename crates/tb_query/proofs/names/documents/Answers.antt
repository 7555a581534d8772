-- The names are those written in the query, each once, which are enough.
use Rattle.std.proofs.Common.{◌≡◌, rules}
use Rattle.tb_query.specs.Names.{names_once, written_names}
use Rattle.tb_query.proofs.AgreeLaws.{enough-once}
use Rattle.tb_query.proofs.names.documents.Goals as goal

pub returns-clause-enough : goal.returns-clause-enough
returns-clause-enough c =
    let is : c.in_ok-once.once.items ≡ names_once (written_names c.args.query.now) = search rules in
    rw is (enough-once c.args.query.now)
