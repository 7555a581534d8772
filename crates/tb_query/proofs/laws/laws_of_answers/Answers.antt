use Rattle.tb_query.proofs.AgreeLaws.{depends_on-names}
use Rattle.tb_query.proofs.laws.laws_of_answers.Goals as goal

pub returns : goal.returns
returns c = record { names = depends_on-names }
