-- The pieces before the one that failed were written, and a part of that one.
use Rattle.std.proofs.Common.{ℕ, List, arith, rules, subst}
use Rattle.tb_edge.specs.Calls.{GrewByPart}
use Rattle.tb_edge.proofs.CallsLemmas.{GrewByPart-pieces}
use Rattle.tb_edge.proofs.writing.write_pieces.Goals as goal

pub returns-in_err-write_all-clause-part : goal.returns-in_err-write_all-clause-part
returns-in_err-write_all-clause-part g c =
    let held = g.K.Sink.held in
    let part = subst (λ (b : List ℕ). GrewByPart (held c.pieces.sink) (held c.write_all.new.sink) b) c.deref.ensures.value c.in_err-write_all.ensures.part in
    let grew = GrewByPart-pieces (held c.args.sink.now) (held c.pieces.sink) (held c.write_all.new.sink) c.args.pieces.now c.pieces.piece-index c.piece-item.result (omega arith) c.piece-item.is c.pieces.invariant.0 part in
    search (rules, grew)
