use Rattle.std.proofs.Common.{◌≡◌, ◌+◌, drop, map}
use Rattle.tb_top.specs.Check.{commands_count}
use Rattle.tb_top.proofs.counts.commands_in.Given as goal

-- what is counted, with what is left, is the whole
abbrev pub invariant-sessions : goal.invariant-sessions
invariant-sessions l =
    l.count + commands_count (map (λ s. s.commands.items) (drop l.script-index l.sessions)) ≡ commands_count (map (λ s. s.commands.items) l.sessions)
