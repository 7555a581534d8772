use Rattle.std.proofs.Common.{◌≡◌, drop}
use Rattle.tb_tree.specs.View.{plain_of}
use Rattle.tb_tree.specs.Nodes.{node_at}
use Rattle.tb_tree.specs.Value.{value_of}
use Rattle.tb_twig.specs.Lists.{all_stand}
use Rattle.tb_twig.proofs.condition.all_stand.Given as goal

-- all hold where the others do
abbrev pub invariant-conditions : goal.invariant-conditions
invariant-conditions l =
    all_stand (drop l.condition-index l.conditions) (value_of (node_at (plain_of l.tree) l.number)) ≡ all_stand l.conditions (value_of (node_at (plain_of l.tree) l.number))
