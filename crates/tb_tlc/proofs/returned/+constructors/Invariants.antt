use Rattle.std.proofs.Common.{◌≡◌, ◌++◌, ◌+◌, drop, map}
use Rattle.tb_query.specs.Parts.{part_of, plain_parts}
use Rattle.tb_tlc.specs.Returned.{parts_ops, parts_width, parts_shape}
use Rattle.tb_tlc.specs.Scopes.{seen}
use Rattle.tb_tlc.proofs.returned.+constructors.Given as goal

-- what there is so far, with that of the parts that are left, makes the whole
abbrev pub invariant-push_parts-parts : goal.invariant-push_parts-parts
invariant-push_parts-parts l =
    (l.ops.items ++ parts_ops (seen l.scope) l.next (plain_parts (map part_of (drop l.part-index l.parts)))
    ≡ l.initial.ops.items ++ parts_ops (seen l.scope) l.start (plain_parts (map part_of l.parts)))
    × (l.shapes.items ++ parts_shape l.next (plain_parts (map part_of (drop l.part-index l.parts))) ≡ parts_shape l.start (plain_parts (map part_of l.parts)))
    × (l.next + parts_width (plain_parts (map part_of (drop l.part-index l.parts))) ≡ l.start + parts_width (plain_parts (map part_of l.parts)))
