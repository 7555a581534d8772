-- Six pieces are appended, one after the other.
use Rattle.tb_top.proofs.PieceLaws.{six_pieces}
use Rattle.tb_top.proofs.check.push_refused_load.Goals as goal

pub returns : goal.returns
returns c =
    rw (c.in_ok-push-2.ensures.items, c.in_ok-push_esis_fault.ensures, c.in_ok-extend_from_slice.ensures.items, c.in_ok-push_number-2.ensures, c.in_ok-push.ensures.items, c.in_ok-push_number.ensures)
    (six_pieces c.args.text.now.items _ _ _ _ _ _)
