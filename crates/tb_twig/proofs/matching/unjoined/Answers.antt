-- There are fewer than 2^32 edges.
use Rattle.std.proofs.Common.{length, ap, arith}
use Rattle.tb_pattern.specs.Plain.{nodes_in}
use Rattle.tb_pattern.specs.View.{edges_of}
use Rattle.tb_plan.proofs.CountLaws.{count-nodes}
use Rattle.tb_twig.proofs.matching.unjoined.Goals as goal

pub lay_out-requires : goal.lay_out-requires
lay_out-requires c =
    record { few = omega (arith, ap length c.new-laid.ensures.items, count-nodes (edges_of c.args.p.now.edges), c.requires.few, ap (λ es. nodes_in (edges_of es)) c.as_slice.ensures) }
