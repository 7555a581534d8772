-- The list of the number grows by the item, and the others stay.
use Rattle.tb_label.proofs.NamesLaws.{pushed-at}
use Rattle.tb_label.proofs.lists.Names.push.Goals as goal

pub returns-clause-pushed : goal.returns-clause-pushed
returns-clause-pushed c = pushed-at c.args.self.now.lists.items c.args.number c.index_mut.result.now c.push.new.self c.args.item.now c.requires.known c.index_mut.ensures.value c.in_ok-push.ensures.items
