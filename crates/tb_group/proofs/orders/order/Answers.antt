-- The rows of the numbers in order.
use Rattle.std.proofs.Common.{[], ap, sym, ◌∙◌, subst}
use Rattle.tb_table.specs.Documents.{docs_of}
use Rattle.tb_table.specs.Rows.{picked}
use Rattle.tb_table.specs.Seen.{rows_seen, AreOver}
use Rattle.tb_group.proofs.OrderLaws.{ordered-seen, picked-over}
use Rattle.tb_group.proofs.orders.order.Goals as goal

pub returns-clause-rows : goal.returns-clause-rows
returns-clause-rows c =
    ap (rows_seen (docs_of c.args.docs.now)) (c.in_ok-made.ensures.rows ∙ ap (picked [] c.args.table.rows) c.as_slice.ensures.value)
    ∙ ordered-seen (docs_of c.args.docs.now) c.args.keys.now c.args.table.rows c.in_ok-picks.picks.items c.in_ok-picks.ensures.order

pub returns-clause-over : goal.returns-clause-over
returns-clause-over c =
    subst (AreOver (docs_of c.args.docs.now)) (sym (c.in_ok-made.ensures.rows ∙ ap (picked [] c.args.table.rows) c.as_slice.ensures.value))
    (picked-over (docs_of c.args.docs.now) c.args.table.rows c.in_ok-picks.picks.items c.requires c.in_ok-picks.ensures.within)
