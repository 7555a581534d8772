-- They are the laws.
use Rattle.tb_flwor.proofs.EventLaws.{variables-agree}
use Rattle.tb_flwor.proofs.ReturnedLaws.{results-agree}
use Rattle.tb_flwor.proofs.agreements.laws_of_read_queries.Goals as goal

pub returns-clause-results : goal.returns-clause-results
returns-clause-results c = results-agree

pub returns-clause-variables : goal.returns-clause-variables
returns-clause-variables c = variables-agree
