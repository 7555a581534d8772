use Rattle.std.proofs.Common.{◌≡◌, ◌++◌, drop}
use Rattle.std.specs.List.{flat_map}
use Rattle.tb_query.specs.Lent.{lent}
use Rattle.tb_query.specs.Names.{names_of_key}
use Rattle.tb_query.proofs.written.push_keys.Given as goal

-- the names so far, with those of what is left, make the whole
abbrev pub invariant-keys : goal.invariant-keys
invariant-keys l =
    lent l.names.items ++ flat_map names_of_key (drop l.key-index l.keys)
    ≡ lent l.initial.names.items ++ flat_map names_of_key l.keys
