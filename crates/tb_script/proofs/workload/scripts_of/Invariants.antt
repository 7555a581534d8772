use Rattle.std.proofs.Common.{◌≡◌, ◌++◌, map}
use Rattle.std.specs.Vec.Iter.{into_iter_items}
use Rattle.tb_script.specs.Groups.{listed}
use Rattle.tb_script.proofs.workload.scripts_of.Given as goal

-- the sessions so far, with what follows, are all
abbrev pub invariant-sessions : goal.invariant-sessions
invariant-sessions l = map (λ s. s.commands.items) l.scripts.items ++ map (map (λ t. t.command)) (listed (into_iter_items l.session-iterator))
    ≡ map (map (λ t. t.command)) (listed l.fn.sessions.items)
