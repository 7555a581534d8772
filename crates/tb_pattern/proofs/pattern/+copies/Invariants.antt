use Rattle.std.proofs.Common.{◌≡◌, take}
use Rattle.tb_pattern.proofs.pattern.+copies.Given as goal

-- the first edges are copied
abbrev pub invariant-copy_edges-edges : goal.invariant-copy_edges-edges
invariant-copy_edges-edges l = l.copies.items ≡ take l.edge-index l.edges
