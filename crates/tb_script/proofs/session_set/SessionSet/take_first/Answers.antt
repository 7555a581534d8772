use Rattle.std.proofs.Common.{arith}
use Rattle.tb_script.proofs.SetLaws.{takes-first}
use Rattle.tb_script.proofs.session_set.SessionSet.take_first.Goals as goal

pub returns : goal.returns
returns c = takes-first c.args.self.now (omega arith) (omega arith)
