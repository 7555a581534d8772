use Rattle.std.proofs.Common.{length, sym, subst, ◌∙◌}
use Rattle.std.specs.List.Sorted.{IsNonDecreasingBy}
use Rattle.tb_span.specs.Seeds.{range}
use Rattle.tb_stackjoin.proofs.OwnLaws.{by_ancestor-rises}
use Rattle.tb_stackjoin.proofs.tests.by_ancestor.Goals as goal

pub are_its_parts-requires : goal.are_its_parts-requires
are_its_parts-requires g c = record {
  rises = subst (λ pairs. IsNonDecreasingBy (λ p. p.a) pairs) (sym (c.deref-2.ensures.value ∙ c.in_ok-pairs.ensures.pairs))
      (by_ancestor-rises c.args.axis c.args.a.now c.args.d.now (range c.args.lo (length c.args.d.now)));
}
