use Rattle.std.proofs.Common.{◌≡◌, ◌++◌, map, drop}
use Rattle.tb_script.specs.Groups.{listed}
use Rattle.tb_script.proofs.stuck.rests_of.Given as goal

-- the sessions so far, with what follows, are all
abbrev pub invariant-sessions : goal.invariant-sessions
invariant-sessions l = map (λ r. r.now) l.rests.items ++ listed (drop l.session-index l.sessions) ≡ listed l.sessions
