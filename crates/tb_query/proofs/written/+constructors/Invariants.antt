use Rattle.std.proofs.Common.{◌≡◌, ◌++◌, drop, map}
use Rattle.tb_query.specs.Lent.{lent}
use Rattle.tb_query.specs.Parts.{part_of, plain_parts}
use Rattle.tb_query.specs.Names.{names_of_parts}
use Rattle.tb_query.proofs.written.+constructors.Given as goal

-- the names so far, with those of the parts that are left, make the whole
abbrev pub invariant-push_parts-parts : goal.invariant-push_parts-parts
invariant-push_parts-parts l =
    lent l.names.items ++ names_of_parts (plain_parts (map part_of (drop l.part-index l.parts)))
    ≡ lent l.initial.names.items ++ names_of_parts (plain_parts (map part_of l.parts))
