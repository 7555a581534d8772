use Rattle.std.proofs.Common.{List, []}
use Rattle.tb_script.specs.Walks.{state_of, weight, Fits, Walks, IdlesBut, CoveredBut}
use Rattle.tb_script.specs.declared.lined_command.LinedCommand.{LinedCommand}
use Rattle.tb_script.proofs.walk.Walk.end.Given as goal

-- each command done could be, and each session is to be looked at, or has nothing left, or waits
abbrev pub invariant-ready : goal.invariant-ready
invariant-ready l = record {
  fits : Fits (state_of l.self);
  walks : (ss : List (List LinedCommand)) → Walks ss (state_of l.initial.self) → Walks ss (state_of l.self);
  idles : IdlesBut [] (state_of l.self);
  covers : CoveredBut [] (state_of l.self);
}

abbrev pub decreases-ready : goal.decreases-ready
decreases-ready l = weight (state_of l.self)
