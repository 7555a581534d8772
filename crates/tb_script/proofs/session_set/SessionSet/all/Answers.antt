use Rattle.tb_script.proofs.SetLaws.{all-holds}
use Rattle.tb_script.proofs.session_set.SessionSet.all.Goals as goal

pub returns : goal.returns
returns c = λ at within. all-holds at within
