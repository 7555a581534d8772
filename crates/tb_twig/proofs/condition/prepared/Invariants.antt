use Rattle.std.proofs.Common.{◌≡◌, map, take}
use Rattle.tb_twig.specs.Lists.{prepared}
use Rattle.tb_twig.proofs.condition.prepared.Given as goal

-- the conditions so far
abbrev pub invariant-conds : goal.invariant-conds
invariant-conds l = l.conditions.items ≡ map prepared (take l.cond-index l.conds)
