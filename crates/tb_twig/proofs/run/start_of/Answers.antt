-- The links rise, so one test parts them.
use Rattle.std.proofs.Common.{rules, nat_lt}
use Rattle.std.proofs.lemmas.Bool.{ltb-true, ltb-false}
use Rattle.std.proofs.lemmas.List.Sorted.{IsPartitionPoint-from_clause, IsPartitionedBy-ltb}
use Rattle.tb_twig.specs.declared.link.Link.{Link}
use Rattle.tb_twig.proofs.run.start_of.Goals as goal

pub returns-clause-point : goal.returns-clause-point
returns-clause-point c =
    let links = c.args.links.now in
    let n = c.args.n in
    let point = IsPartitionPoint-from_clause (λ (l : Link). nat_lt l.above n) links c.partition_point.result c.partition_point.ensures.partitioned (IsPartitionedBy-ltb (λ (l : Link). l.above) links n c.requires) (λ a r f g. search rules) in
    (λ k d low high. ltb-true _ n (point.0 k d low high), λ k d low high. ltb-false _ n (point.1 k d low high))
