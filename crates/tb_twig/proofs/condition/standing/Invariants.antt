use Rattle.std.proofs.Common.{◌≡◌, filter, take}
use Rattle.tb_tree.specs.View.{plain_of}
use Rattle.tb_tree.specs.Nodes.{node_at}
use Rattle.tb_tree.specs.Value.{value_of}
use Rattle.tb_twig.specs.Lists.{all_stand}
use Rattle.tb_twig.proofs.condition.standing.Given as goal

-- those of the items so far
abbrev pub invariant-items : goal.invariant-items
invariant-items l = l.kept.items ≡ filter (λ i. all_stand l.conditions (value_of (node_at (plain_of l.tree) i.node))) (take l.item-index l.items)
