use Rattle.std.proofs.Common.{map, ap, ◌∙◌}
use Rattle.tb_script.specs.Groups.{listed}
use Rattle.tb_script.specs.Rounds.{least_line}
use Rattle.tb_script.proofs.StuckLaws.{stuck-is}
use Rattle.tb_script.proofs.stuck.stuck_line.Goals as goal

pub returns : goal.returns
returns c =
    c.least_line.ensures
    ∙ ap (λ rs. least_line (map (λ r. r.now) rs)) c.deref.ensures.value
    ∙ stuck-is (listed c.args.sessions.now) _ _ c.in_ok-walk.ensures c.in_ok-end.ensures
