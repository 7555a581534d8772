-- The piece that prints so has that key.
use Rattle.tb_tree.specs.View.{plain_of}
use Rattle.tb_tree.specs.Nodes.{node_at}
use Rattle.tb_tree.specs.Pieces.{piece_of}
use Rattle.tb_label.proofs.CompareLaws.{key-piece}
use Rattle.tb_label.proofs.keys.key.Goals as goal

pub returns-in-Some : goal.returns-in-Some
returns-in-Some c =
    key-piece (piece_of (node_at (plain_of c.args.tree.now) c.args.number)) c.in-Some.printed.now c.printed_key.result c.in-Some.ensures c.printed_key.ensures.parts
