-- Commands that are taken out of a script, one after the other.
use Rattle.std.specs.Prelude.{◌≡◌, Bool, false, ◌&&◌, ◌==◌, Some}
use Rattle.tb_script.specs.Runnable.{commands_in}
use Rattle.tb_script.specs.Schedule.{command_at}
use Rattle.tb_script.specs.declared.command.Command.{Command}
use Rattle.tb_script.specs.declared.command.Workload.{Workload}
use Rattle.tb_script.specs.declared.turnstep.Turnstep.{Turnstep}

-- both are one step
abbrev pub is_step : Turnstep → Turnstep → Bool
is_step s t = t.session == s.session && t.command == s.command

-- the command of the step is taken, and the others stay
pub record Takes (old : Workload) (step : Turnstep) (command : Command) (new : Workload) : Type 0 where
  pub taken : command_at (commands_in old) step ≡ Some command
  pub others :
      (other : Turnstep) → is_step step other ≡ false
      → command_at (commands_in new) other ≡ command_at (commands_in old) other
