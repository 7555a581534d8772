-- Nine pieces are appended, one after the other.
use Rattle.std.proofs.Common.{codes}
use Rattle.std.specs.Prelude.{decimal}
use Rattle.tb_top.proofs.PieceLaws.{nine_pieces-paired}
use Rattle.tb_top.proofs.check.push_counts.Goals as goal

pub returns : goal.returns
returns c =
    rw (c.in_ok-push.ensures.items, c.in_ok-push_count-4.ensures, c.in_ok-push_count-3.ensures, c.in_ok-push_count-2.ensures, c.in_ok-push_count.ensures)
    (nine_pieces-paired c.args.text.now.items (codes "check sessions ") (decimal c.args.sessions) (codes " commands ") (decimal c.args.commands) (codes " loads ") (decimal c.args.loads) (codes " queries ") (decimal c.args.queries) (codes "\n"))
