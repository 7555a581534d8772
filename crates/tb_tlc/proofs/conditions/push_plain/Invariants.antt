use Rattle.std.proofs.Common.{◌≡◌, ◌++◌, ◌+◌, not, drop}
use Rattle.std.specs.List.{filter}
use Rattle.tb_query.specs.Comparisons.{has_sum}
use Rattle.tb_tlc.specs.Planned.{conds_ops, conds_width}
use Rattle.tb_tlc.specs.Scopes.{seen}
use Rattle.tb_tlc.proofs.conditions.push_plain.Given as goal

-- the operators so far, with those of the conditions that are left, make the whole, and so do the columns
abbrev pub invariant-conds : goal.invariant-conds
invariant-conds l =
    (l.ops.items ++ conds_ops (seen l.scope) l.next (filter (λ c. not (has_sum c)) (drop l.cond-index l.conds))
    ≡ l.initial.ops.items ++ conds_ops (seen l.scope) l.start (filter (λ c. not (has_sum c)) l.conds))
    × (l.next + conds_width (filter (λ c. not (has_sum c)) (drop l.cond-index l.conds))
    ≡ l.start + conds_width (filter (λ c. not (has_sum c)) l.conds))
