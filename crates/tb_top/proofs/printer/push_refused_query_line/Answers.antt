-- Four pieces are appended, one after the other.
use Rattle.tb_top.proofs.PieceLaws.{four_pieces}
use Rattle.tb_top.proofs.printer.push_refused_query_line.Goals as goal

pub returns : goal.returns
returns c =
    rw (c.in_ok-push.ensures.items, c.in_ok-push_query_fault.ensures, c.in_ok-extend_from_slice.ensures.items, c.in_ok-push_number.ensures)
    (four_pieces c.args.text.now.items _ _ _ _)
