use Rattle.std.proofs.Common.{nat_lt, rules}
use Rattle.std.proofs.lemmas.List.Sorted.{IsPartitionPoint-from_clause, IsPartitionedBy-ltb}
use Rattle.tb_stackjoin.proofs.OwnLaws.{point-counts}
use Rattle.tb_stackjoin.proofs.parts.start_of.Goals as goal

pub returns : goal.returns
returns c =
    let pairs = c.args.pairs.now in
    let i = c.args.ancestor in
    point-counts (λ p. nat_lt p.a i) pairs c.partition_point.result c.partition_point.ensures.bound
    (IsPartitionPoint-from_clause (λ p. nat_lt p.a i) pairs c.partition_point.result c.partition_point.ensures.partitioned (IsPartitionedBy-ltb (λ p. p.a) pairs i c.requires.rises) (λ a r q k. search rules))
