-- What was written so far, and that no write failed.
use Rattle.std.proofs.Common.{◌≡◌, take}
use Rattle.std.specs.List.{flat_map}
use Rattle.std.specs.Io.KnownBytes.{Appends}
use Rattle.tb_edge.proofs.writing.write_pieces.Given as goal

abbrev pub invariant-pieces : goal.invariant-pieces
invariant-pieces g l =
    Appends (g.K.Sink.held l.initial.sink) (g.K.Sink.held l.sink) (flat_map (λ piece. piece.items) (take l.piece-index l.pieces))
    × (g.K.Sink.faults l.sink ≡ g.K.Sink.faults l.initial.sink)
