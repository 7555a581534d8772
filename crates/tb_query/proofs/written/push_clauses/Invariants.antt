use Rattle.std.proofs.Common.{◌≡◌, ◌++◌, drop}
use Rattle.std.specs.List.{flat_map}
use Rattle.tb_query.specs.Lent.{lent}
use Rattle.tb_query.specs.Names.{names_of_clause}
use Rattle.tb_query.proofs.written.push_clauses.Given as goal

-- the names so far, with those of what is left, make the whole
abbrev pub invariant-clauses : goal.invariant-clauses
invariant-clauses l =
    lent l.names.items ++ flat_map names_of_clause (drop l.clause-index l.clauses)
    ≡ lent l.initial.names.items ++ flat_map names_of_clause l.clauses
