use Rattle.std.proofs.Common.{◌≡◌, map, drop}
use Rattle.tb_script.specs.Rounds.{least_line}
use Rattle.tb_script.proofs.StuckLaws.{and_least}
use Rattle.tb_script.proofs.stuck.least_line.Given as goal

-- the least line so far, with those that follow, is the least of all
abbrev pub invariant-rests : goal.invariant-rests
invariant-rests l = and_least l.least (least_line (map (λ r. r.now) (drop l.rest-index l.rests))) ≡ least_line (map (λ r. r.now) l.rests)
