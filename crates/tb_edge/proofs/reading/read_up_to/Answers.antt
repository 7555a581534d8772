-- A read that failed, or found no memory, lost no more than was still wanted.
use Rattle.std.proofs.Common.{◌+◌, length, take, arith}
use Rattle.std.proofs.lemmas.List.{length-take}
use Rattle.tb_edge.proofs.CallsLemmas.{LostAtMost-trans}
use Rattle.tb_edge.proofs.reading.read_up_to.Goals as goal

pub returns-in_err-read_more-clause-lost : goal.returns-in_err-read_more-clause-lost
returns-in_err-read_more-clause-lost g c =
    let part = take (c.min-wanted.result + 1) c.deref_mut.result.now in
    let short = length-take (c.min-wanted.result + 1) c.deref_mut.result.now in
    LostAtMost-trans _ _ _ _ _ (length part) c.reads.invariant.taken c.read_more.ensures.lost (omega arith)
