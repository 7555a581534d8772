use Rattle.std.proofs.Common.{◌≡◌, take}
use Rattle.tb_pattern.proofs.pattern.copy_conds.Given as goal

-- the first conditions are copied
abbrev pub invariant-conds : goal.invariant-conds
invariant-conds l = l.copies.items ≡ take l.cond-index l.conds
