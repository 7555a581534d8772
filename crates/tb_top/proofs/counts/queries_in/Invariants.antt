use Rattle.std.proofs.Common.{◌≡◌, ◌+◌, drop, map}
use Rattle.tb_top.specs.Check.{queries_in}
use Rattle.tb_top.proofs.counts.queries_in.Given as goal

-- what is counted, with what is left, is the whole
abbrev pub invariant-sessions : goal.invariant-sessions
invariant-sessions l =
    l.count + queries_in (map (λ s. s.commands.items) (drop l.script-index l.sessions)) ≡ queries_in (map (λ s. s.commands.items) l.sessions)
