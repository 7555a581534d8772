-- The table grows by the name, or is as it was.
use Rattle.std.proofs.Common.{length, ap, subst, arith}
use Rattle.tb_tree.specs.NameTables.{IsMore}
use Rattle.tb_tree.proofs.names.Names.number.Goals as goal

pub invariant_of-self : goal.invariant_of-self
invariant_of-self c = omega (arith, c.self.invariant, ap length c.in_err-number.ensures.kept)

pub returns-clause-more : goal.returns-clause-more
returns-clause-more c = subst (λ old. IsMore old c.number.new.self) c.self.view_is c.in_ok-number.ensures.more
