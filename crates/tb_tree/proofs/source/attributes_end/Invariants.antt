use Rattle.std.proofs.Common.{◌≡◌, drop}
use Rattle.tb_tree.specs.Parts.{attributes_end}
use Rattle.tb_tree.proofs.source.attributes_end.Given as goal

-- the extents passed are of attributes
abbrev pub invariant-attributes : goal.invariant-attributes
invariant-attributes l = attributes_end l.end (drop l.extent-index l.extents) ≡ attributes_end l.at l.extents
