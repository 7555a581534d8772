use Rattle.std.proofs.Common.{◌≡◌, ◌++◌, ◌+◌, drop}
use Rattle.std.specs.List.{filter}
use Rattle.tb_query.specs.Comparisons.{has_sum}
use Rattle.tb_tlc.specs.Planned.{conds_ops, conds_width}
use Rattle.tb_tlc.specs.Scopes.{seen}
use Rattle.tb_tlc.proofs.conditions.push_sums.Given as goal

-- the operators so far, with those of the conditions that are left, make the whole, and so do the columns
abbrev pub invariant-conds : goal.invariant-conds
invariant-conds l =
    (l.ops.items ++ conds_ops (seen l.scope) l.next (filter has_sum (drop l.cond-index l.conds))
    ≡ l.initial.ops.items ++ conds_ops (seen l.scope) l.start (filter has_sum l.conds))
    × (l.next + conds_width (filter has_sum (drop l.cond-index l.conds))
    ≡ l.start + conds_width (filter has_sum l.conds))
