use Rattle.std.proofs.Common.{arith}
use Rattle.tb_script.proofs.SetLaws.{behind-holds}
use Rattle.tb_script.proofs.session_set.SessionSet.behind.Goals as goal

pub returns : goal.returns
returns c = λ n. behind-holds c.args.self.bits c.args.at n (omega arith) c.requires.small
