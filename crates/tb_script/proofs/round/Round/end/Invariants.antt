use Rattle.std.proofs.Common.{List, ℕ}
use Rattle.tb_script.specs.Stands.{stand_of, weight, Fits, Follows}
use Rattle.tb_script.specs.declared.command.Command.{Command}
use Rattle.tb_script.proofs.round.Round.end.Given as goal

-- the steps so far with those to come are the order of the rounds
abbrev pub invariant-turns : goal.invariant-turns
invariant-turns l = record {
  fits : Fits (stand_of l.self);
  follows : (css : List (List Command)) → Follows css 0 0 (stand_of l.initial.self) → (from : ℕ) × Follows css from from (stand_of l.self);
}

abbrev pub decreases-turns : goal.decreases-turns
decreases-turns l = weight (stand_of l.self)
