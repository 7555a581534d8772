use Rattle.std.proofs.Common.{◌≡◌, ◌++◌, drop}
use Rattle.std.specs.List.{flat_map}
use Rattle.tb_query.specs.Lent.{lent}
use Rattle.tb_query.specs.Names.{names_of_attribute}
use Rattle.tb_query.proofs.written.push_attrs.Given as goal

-- the names so far, with those of what is left, make the whole
abbrev pub invariant-attrs : goal.invariant-attrs
invariant-attrs l =
    lent l.names.items ++ flat_map names_of_attribute (drop l.attr-index l.attrs)
    ≡ lent l.initial.names.items ++ flat_map names_of_attribute l.attrs
