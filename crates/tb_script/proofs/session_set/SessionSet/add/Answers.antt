use Rattle.tb_script.proofs.SetLaws.{add-holds}
use Rattle.tb_script.proofs.session_set.SessionSet.add.Goals as goal

pub returns : goal.returns
returns c = λ n. add-holds c.args.self.now.bits c.args.at n c.requires.small
