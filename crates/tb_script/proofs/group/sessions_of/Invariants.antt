use Rattle.std.proofs.Common.{◌≡◌, ℕ, List}
use Rattle.std.specs.Vec.Iter.{into_iter_items}
use Rattle.tb_script.specs.Sessions.{sessions_in, unknown_mark}
use Rattle.tb_script.specs.Tallies.{Tells}
use Rattle.tb_script.specs.Groups.{grouped, listed}
use Rattle.tb_script.proofs.group.sessions_of.Given as goal

-- the sessions so far, with what is left, make all, and the marks heard so far are told
abbrev pub invariant-entries : goal.invariant-entries
invariant-entries l = (names : List (List ℕ)) → Tells l.marks names →
    (unknown_mark names (into_iter_items l.entry-iterator) ≡ unknown_mark names l.fn.entries.items)
    × (grouped names (listed l.sessions.items) l.begun l.turns.items (into_iter_items l.entry-iterator) ≡ sessions_in names l.fn.entries.items)
