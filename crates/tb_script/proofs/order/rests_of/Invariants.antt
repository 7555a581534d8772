use Rattle.std.proofs.Common.{◌≡◌, ◌++◌, map, drop}
use Rattle.tb_script.specs.Stands.{row_of}
use Rattle.tb_script.specs.Rounds.{numbered}
use Rattle.tb_script.proofs.order.rests_of.Given as goal

-- the sessions so far, with what follows, are all
abbrev pub invariant-sessions : goal.invariant-sessions
invariant-sessions l =
    map row_of l.rests.items ++ map (numbered 0) (map (λ s. s.commands.items) (drop l.session-index l.sessions))
    ≡ map (numbered 0) (map (λ s. s.commands.items) l.sessions)
