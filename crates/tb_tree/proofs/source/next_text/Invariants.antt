use Rattle.std.proofs.Common.{◌≡◌, drop}
use Rattle.tb_tree.specs.Parts.{text_extents}
use Rattle.tb_tree.proofs.source.next_text.Given as goal

-- the extents passed are of no text
abbrev pub invariant-extents : goal.invariant-extents
invariant-extents l = text_extents l.extents ≡ text_extents (drop l.at l.extents)
