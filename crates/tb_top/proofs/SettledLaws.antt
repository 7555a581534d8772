-- A result was written, or the sink failed.
use Rattle.std.proofs.Common.{ℕ, List, String, Global}
use Rattle.tb_script.specs.Calls.{IsReadAs}
use Rattle.tb_script.specs.declared.command.Workload.{Workload}
use Rattle.tb_top.specs.Single.{AreBuilt}
use Rattle.tb_top.specs.Tasks.{Spells}
use Rattle.tb_top.specs.Calls.{IsOutput, Settled}
use Rattle.tb_top.specs.Moved.{SourceMoved, SinkMoved, ReadAll, Published}
use Rattle.tb_top.specs.declared.task.Task.{Task}
use Rattle.tb_top.specs.declared.status.Status.{Status}
use Rattle.tb_top.specs.declared.status.Status.TheVariants as status

pub settled : (words : List (String Global)) (source : SourceMoved) (sink : SinkMoved) (t : Task) (bytes : List ℕ) (w : Workload) (text : List ℕ) (result : Status)
    → Spells t words → ReadAll source bytes → IsReadAs bytes w → AreBuilt w → IsOutput t w text → Published sink text result → Settled words source sink result
settled words source sink t bytes w text status.Ok spells read is built output wrote = (t, (spells, (bytes, w, text, (read, is, built, output, wrote))))
settled words source sink t bytes w text status.WriteFault spells read is built output wrote = (t, (spells, (bytes, w, text, (read, is, built, output, wrote))))
settled words source sink t bytes w text status.Words spells read is built output wrote = absurd wrote
settled words source sink t bytes w text status.ReadFault spells read is built output wrote = absurd wrote
settled words source sink t bytes w text (status.Script fault) spells read is built output wrote = absurd wrote
settled words source sink t bytes w text status.Memory spells read is built output wrote = absurd wrote
settled words source sink t bytes w text status.NotBuilt spells read is built output wrote = absurd wrote
