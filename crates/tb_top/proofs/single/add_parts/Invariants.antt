use Rattle.std.proofs.Common.{◌≡◌, ◌++◌, codes}
use Rattle.std.specs.List.{flat_map}
use Rattle.std.specs.Vec.Iter.{into_iter_items}
use Rattle.tb_top.specs.Pieces.{text_in}
use Rattle.tb_top.proofs.single.add_parts.Given as goal

-- the parts so far stand in the pieces, each with its end; with those that follow they are all
abbrev pub invariant-parts : goal.invariant-parts
invariant-parts l =
    text_in l.pieces ++ flat_map (λ part. part.items ++ codes "end\n") (into_iter_items l.part-iterator)
    ≡ text_in l.initial.pieces ++ flat_map (λ part. part.items ++ codes "end\n") l.fn.parts.items
