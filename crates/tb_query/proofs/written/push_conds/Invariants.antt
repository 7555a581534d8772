use Rattle.std.proofs.Common.{◌≡◌, ◌++◌, drop}
use Rattle.std.specs.List.{flat_map}
use Rattle.tb_query.specs.Lent.{lent}
use Rattle.tb_query.specs.Names.{names_of_comparison}
use Rattle.tb_query.proofs.written.push_conds.Given as goal

-- the names so far, with those of what is left, make the whole
abbrev pub invariant-conds : goal.invariant-conds
invariant-conds l =
    lent l.names.items ++ flat_map names_of_comparison (drop l.cond-index l.conds)
    ≡ lent l.initial.names.items ++ flat_map names_of_comparison l.conds
