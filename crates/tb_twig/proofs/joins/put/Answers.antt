use Rattle.std.proofs.lemmas.List.{map-set}
use Rattle.tb_twig.specs.Lists.{items_in}
use Rattle.tb_twig.specs.declared.nodes.Nodes.TheVariants.{Kept}
use Rattle.tb_twig.proofs.joins.put.Goals as goal

pub returns : goal.returns
returns c = map-set items_in c.args.lists.now.items c.args.x (Kept c.args.items)
