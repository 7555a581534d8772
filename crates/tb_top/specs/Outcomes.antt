-- What a script comes to before anything is written: words of private clauses.
use Rattle.std.specs.Prelude.{◌≡◌, ◌≢◌, List, ℕ, Some}
use Rattle.tb_script.specs.Calls.{IsReadAs, script_fault}
use Rattle.tb_script.specs.declared.command.Workload.{Workload}
use Rattle.tb_script.specs.declared.fault.ScriptFault.{ScriptFault}
use Rattle.tb_script.specs.declared.fault.ScriptFault.TheVariants.{NoMemory}
use Rattle.tb_top.specs.FaultText.{script_line}
use Rattle.tb_top.specs.Single.{AreBuilt}
use Rattle.tb_top.specs.Pieces.{joined}
use Rattle.tb_top.specs.Calls.{IsOutput}
use Rattle.tb_top.specs.declared.task.Task.{Task}
use Rattle.tb_top.specs.declared.outcome.Outcome.{Outcome}
use Rattle.tb_top.specs.declared.outcome.Outcome.TheVariants.{Text, Faulty, NotBuilt}

abbrev pub ComesTo : Task → List ℕ → Outcome → Type 0
ComesTo t bytes (Text pieces) =
    (w : Workload) × (IsReadAs bytes w × AreBuilt w × IsOutput t w (joined pieces.items))
ComesTo t bytes (Faulty fault line) =
    (script_fault bytes ≡ Some fault) × (line.items ≡ script_line fault)
ComesTo t bytes NotBuilt = (w : Workload) × (IsReadAs bytes w × (AreBuilt w → ⊥))

-- that fault with its line; it isn't want of memory
abbrev pub IsFaulty : ScriptFault → Outcome → Type 0
IsFaulty fault (Faulty f line) = (f ≡ fault) × (fault ≢ NoMemory) × (line.items ≡ script_line fault)
IsFaulty fault _ = ⊥
