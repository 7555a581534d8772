-- What the commands promise, by how they end.
use Rattle.std.specs.Prelude.{◌≡◌, ℕ, ◌⊎◌, List, codes, Some, String}
use Rattle.std.specs.declared.alloc.Global.{Global}
use Rattle.tb_script.specs.Calls.{IsReadAs, script_fault}
use Rattle.tb_script.specs.Runnable.{commands_in}
use Rattle.tb_script.specs.declared.command.Workload.{Workload}
use Rattle.tb_script.specs.declared.fault.ScriptFault.{ScriptFault}
use Rattle.tb_script.specs.declared.fault.ScriptFault.TheVariants.{InputTooLong}
use Rattle.tb_top.specs.FaultText.{script_line}
use Rattle.tb_top.specs.Single.{AreBuilt, IsTranscript}
use Rattle.tb_top.specs.Check.{IsCheck}
use Rattle.tb_top.specs.Tasks.{Spells, SpellsNone}
use Rattle.tb_top.specs.Moved.{SourceMoved, SinkMoved, ReadNothing, ReadAll, ReadTooMuch, ReadFailed, ReadSome, Wrote, WrotePart, Tells}
use Rattle.tb_top.specs.declared.task.Task.{Task}
use Rattle.tb_top.specs.declared.task.Task.TheVariants as task
use Rattle.tb_top.specs.declared.status.Status.{Status}
use Rattle.tb_top.specs.declared.status.Status.TheVariants as status

-- What a command prints of a script: `single` the transcript, `check` the refusals and the counts.
abbrev pub IsOutput : Task → Workload → List ℕ → Type 0
IsOutput task.Single w text = IsTranscript w text
IsOutput task.Check w text = IsCheck (commands_in w) text

-- the input is read as a script whose queries are built, and this holds of what the command prints
abbrev pub ReadBuilt : Task → SourceMoved → (List ℕ → Type 0) → Type 0
ReadBuilt t source P =
    (bytes : List ℕ) × (w : Workload) × (text : List ℕ)
    × (ReadAll source bytes × IsReadAs bytes w × AreBuilt w × IsOutput t w text × P text)

-- the input is read as a script that has a query of clauses
abbrev pub ReadUnbuilt : SourceMoved → Type 0
ReadUnbuilt source =
    (bytes : List ℕ) × (w : Workload) × (ReadAll source bytes × IsReadAs bytes w × (AreBuilt w → ⊥))

-- the input has that first fault, or byte 67,108,865 was read
abbrev pub ReadFaulty : SourceMoved → ScriptFault → Type 0
ReadFaulty source fault =
    (bytes : List ℕ)
    × ((ReadTooMuch source bytes × (fault ≡ InputTooLong)) ⊎ (ReadAll source bytes × (script_fault bytes ≡ Some fault)))

-- What `settle` promises with a command's word, by its status.
abbrev pub SettledBy : Task → SourceMoved → SinkMoved → Status → Type 0
SettledBy t source sink status.Ok = ReadBuilt t source (Wrote sink)
SettledBy t source sink status.Words = ⊥
SettledBy t source sink status.ReadFault = ReadFailed source × Tells sink (codes "read-fault\n")
SettledBy t source sink (status.Script fault) =
    ReadFaulty source fault × Tells sink (script_line fault)
SettledBy t source sink status.WriteFault = ReadBuilt t source (WrotePart sink)
SettledBy t source sink status.Memory = ReadSome source × Tells sink (codes "memory\n")
SettledBy t source sink status.NotBuilt = ReadUnbuilt source × Tells sink (codes "not-built\n")

-- What `settle` promises: with the words of no command it reads nothing and says so.
abbrev pub Settled : List (String Global) → SourceMoved → SinkMoved → Status → Type 0
Settled words source sink status.Words =
    SpellsNone words × ReadNothing source × Tells sink (codes "words\n")
Settled words source sink result = (t : Task) × (Spells t words × SettledBy t source sink result)
