-- An interrupted read takes nothing.
use Rattle.std.specs.Io.KnownBytes.{Keeps}
use Rattle.tb_edge.proofs.host_source.read_retrying.Given as goal

abbrev pub invariant-tries : goal.invariant-tries
invariant-tries g l = Keeps (g.R.Read.remaining l.initial.reader) (g.R.Read.remaining l.reader)
