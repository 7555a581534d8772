use Rattle.std.proofs.Common.{◌≡◌, ◌++◌, map, drop}
use Rattle.tb_group.proofs.orders.rows_of.Given as goal

abbrev pub invariant-keyed : goal.invariant-keyed
invariant-keyed l = l.rows.items ++ map (λ k. k.row) (drop l.one-index l.keyed) ≡ map (λ k. k.row) l.keyed
