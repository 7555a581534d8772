use Rattle.tb_script.proofs.LineLaws.{cut_first}
use Rattle.tb_script.proofs.line.next_whole.Goals as goal

pub returns : goal.returns
returns c = cut_first c.args.bytes.now c.in_ok-line.line.now c.in_ok-line.rest.now c.in_ok-line.ensures
