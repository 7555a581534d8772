use Rattle.std.proofs.Common.{subst}
use Rattle.tb_span.specs.Seeds.{range}
use Rattle.tb_span.specs.declared.item.Axis.TheVariants.{Child}
use Rattle.tb_stackjoin.specs.Pairs.{AreByAncestor}
use Rattle.tb_stackjoin.proofs.SortLaws.{by_ancestor}
use Rattle.tb_stackjoin.proofs.by_ancestor.by_parent.Goals as goal

pub returns-clause-pairs : goal.returns-clause-pairs
returns-clause-pairs g c =
    let sorted = c.put_by_ancestor.new.pairs.items in
    by_ancestor Child c.args.a.now c.args.d.now (range c.args.lo c.args.hi) sorted c.requires.range.0
    (subst (λ pairs. AreByAncestor pairs sorted) c.in_ok-pairs.ensures.pairs c.in_ok-put_by_ancestor.ensures)
