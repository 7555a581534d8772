-- Values that print alike are the same.
use Rattle.std.proofs.Common.{sym, ap, ◌∙◌}
use Rattle.std.specs.Str.{bytes_eq}
use Rattle.tb_tree.specs.View.{plain_of}
use Rattle.tb_tree.specs.Nodes.{node_at}
use Rattle.tb_tree.specs.Value.{value_of}
use Rattle.tb_tree.specs.Printed.{escaped}
use Rattle.tb_label.proofs.CompareLaws.{equality-printed}
use Rattle.tb_label.proofs.comparison.stands_to_bytes.Goals as goal

pub returns-in-Some : goal.returns-in-Some
returns-in-Some c =
    c.equality_holds.ensures
    ∙ equality-printed c.args.op (value_of (node_at (plain_of c.args.tree.now) c.args.number)) c.args.other.now c.prints_as.result (sym c.if-is_equality.ensures)
    (c.prints_as.ensures ∙ ap (λ l. bytes_eq l (escaped c.args.other.now)) c.in-Some.ensures)
