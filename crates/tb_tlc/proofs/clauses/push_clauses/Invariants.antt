use Rattle.std.proofs.Common.{◌≡◌, ◌≤◌, ◌*◌, drop}
use Rattle.tb_tlc.specs.Planned.{with_clauses, first_draft}
use Rattle.tb_tlc.specs.Scopes.{seen}
use Rattle.tb_tlc.proofs.clauses.push_clauses.Given as goal

-- the clauses that are left lead from what there is to the whole
abbrev pub invariant-clauses : goal.invariant-clauses
invariant-clauses l =
    (with_clauses l.ties (record { ops = l.ops.items; scope = seen l.scope; next = l.next }) (drop l.i l.clauses) ≡ with_clauses l.ties first_draft l.clauses)
    × (l.next ≤ 3 * l.i)
