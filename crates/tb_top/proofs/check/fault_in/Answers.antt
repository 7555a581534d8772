-- Lines that are read as a tree have no fault.
use Rattle.std.proofs.Common.{sym, ◌∙◌}
use Rattle.tb_tree.specs.View.{plain_of}
use Rattle.tb_esis.proofs.CompleteLaws.{read-clean}
use Rattle.tb_top.proofs.check.fault_in.Goals as goal

pub returns-in-Ok : goal.returns-in-Ok
returns-in-Ok c = c.faultless.ensures ∙ sym (read-clean c.args.lines.now (plain_of c.in-Ok.tree) c.in-Ok.ensures.read).0
