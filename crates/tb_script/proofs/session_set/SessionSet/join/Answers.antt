use Rattle.tb_script.proofs.SetLaws.{join-holds}
use Rattle.tb_script.proofs.session_set.SessionSet.join.Goals as goal

pub returns : goal.returns
returns c = λ n. join-holds c.args.self.now.bits c.args.other.bits n
