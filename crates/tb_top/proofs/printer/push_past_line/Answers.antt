-- Four pieces are appended, one after the other.
use Rattle.tb_top.proofs.PieceLaws.{four_pieces}
use Rattle.tb_top.proofs.printer.push_past_line.Goals as goal

pub returns : goal.returns
returns c =
    rw (c.in_ok-extend_from_slice-2.ensures.items, c.in_ok-push_number-2.ensures, c.from.ensures, c.in_ok-extend_from_slice.ensures.items, c.in_ok-push_number.ensures)
    (four_pieces c.args.text.now.items _ _ _ _)
