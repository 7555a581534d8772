use Rattle.std.proofs.Common.{nat_le, rules}
use Rattle.std.proofs.lemmas.List.Sorted.{IsPartitionPoint-from_clause, IsPartitionedBy-leb}
use Rattle.tb_stackjoin.proofs.OwnLaws.{point-counts}
use Rattle.tb_stackjoin.proofs.parts.end_of.Goals as goal

pub returns : goal.returns
returns c =
    let pairs = c.args.pairs.now in
    let i = c.args.ancestor in
    point-counts (λ p. nat_le p.a i) pairs c.partition_point.result c.partition_point.ensures.bound
    (IsPartitionPoint-from_clause (λ p. nat_le p.a i) pairs c.partition_point.result c.partition_point.ensures.partitioned (IsPartitionedBy-leb (λ p. p.a) pairs i c.requires.rises) (λ a r q k. search rules))
