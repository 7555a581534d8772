use Rattle.std.proofs.Common.{◌≡◌, ◌++◌, drop}
use Rattle.tb_tlc.specs.Ties.{ties}
use Rattle.tb_tlc.proofs.ties.ties.Given as goal

-- the ties so far, with those of the conditions that are left, make the whole
abbrev pub invariant-conds : goal.invariant-conds
invariant-conds l = l.all.items ++ ties l.lets.items (drop l.cond-index l.conds) ≡ ties l.lets.items l.conds
