use Rattle.tb_script.specs.Groups.{listed}
use Rattle.tb_script.proofs.StuckLaws.{starts}
use Rattle.std.proofs.lemmas.List.{length-map}
use Rattle.std.proofs.Common.{◌<◌, subst}
use Rattle.tb_script.proofs.stuck.start.Goals as goal

pub returns : goal.returns
returns c =
    starts (listed c.args.sessions.now) _ c.args.marks c.requires.marks c.in_ok-rests_of.ensures c.in_ok-untold.ensures c.in_ok-no_waiters.ensures
    (λ at within. c.in_ok-places.ensures.all at (subst (λ n. at < n) (length-map c.args.sessions.now (λ s. s.items)) within))
