-- A command's word, a source that tells a script whose queries are built, and no count of faults that rose
-- give Ok or Memory.
use Rattle.std.proofs.Common.{◌≡◌, ℕ, ◌≤◌, List, ◌++◌, length, Option, None, Some, String, Global, inl, inr, sym, ap, ◌∙◌, subst, arith, append-nil, length-append, ◌⊎◌}
use Rattle.std.specs.List.{AllByRecursion}
use Rattle.std.specs.Io.KnownBytes.{Consumes, IsAtEnd}
use Rattle.tb_script.specs.Calls.{IsReadAs, script_fault}
use Rattle.tb_script.specs.declared.command.Command.{Command}
use Rattle.tb_script.specs.declared.command.Workload.{Workload}
use Rattle.tb_script.specs.declared.fault.ScriptFault.{ScriptFault}
use Rattle.tb_script.specs.declared.fault.ScriptFault.TheVariants.{InputTooLong}
use Rattle.tb_top.specs.Single.{IsBuilt, AreBuilt}
use Rattle.tb_top.specs.Tasks.{Spells}
use Rattle.tb_top.specs.Calls.{Settled, ReadUnbuilt}
use Rattle.tb_top.specs.Moved.{SourceMoved, SinkMoved, HasFailed, ReadAll, ReadTooMuch}
use Rattle.tb_top.specs.declared.task.Task.{Task}
use Rattle.tb_top.specs.declared.status.Status.{Status}
use Rattle.tb_top.specs.declared.status.Status.TheVariants as status

-- Ok or Memory
abbrev pub IsOkOrMemory : Status → Type 0
IsOkOrMemory status.Ok = Unit {0}
IsOkOrMemory status.Memory = Unit {0}
IsOkOrMemory _ = ⊥

-- what a source that tells its bytes had, where it was read to its end
all_read : (bytes taken : List ℕ) (after : Option (List ℕ)) → Consumes (Some bytes) after taken → IsAtEnd after → taken ≡ bytes
all_read bytes taken None gone ended = absurd gone
all_read bytes taken (Some left) gone ended = sym (gone ∙ ap (λ l. taken ++ l) ended ∙ append-nil taken)

-- and how much was read of it at most
read_within : (bytes taken : List ℕ) (after : Option (List ℕ)) → Consumes (Some bytes) after taken → length taken ≤ length bytes
read_within bytes taken None gone = absurd gone
read_within bytes taken (Some left) gone = omega (arith, ap length gone, length-append taken left)

-- the premises: the words are a command's, the source tells a script that isn't too long, its queries are
-- built, and no count rose
pub record IsGiven (words : List (String Global)) (source : SourceMoved) (sink : SinkMoved) (t : Task) (bytes : List ℕ) (w : Workload) : Type 0 where
  pub spelled : Spells t words
  pub told : source.left ≡ Some bytes
  pub few : length bytes ≤ 67108864
  pub read : IsReadAs bytes w
  pub built : AreBuilt w
  pub reads : HasFailed source.faults source.faults_after → ⊥
  pub writes : HasFailed sink.faults sink.faults_after → ⊥

taken_all : (source : SourceMoved) (bytes taken : List ℕ) → source.left ≡ Some bytes → ReadAll source taken → taken ≡ bytes
taken_all source bytes taken told read =
    let gone : Consumes (Some bytes) source.left_after taken = rw told at read.taken in
    all_read bytes taken source.left_after gone read.ended

no_fault : (source : SourceMoved) (bytes taken : List ℕ) (w : Workload) (fault : ScriptFault) → source.left ≡ Some bytes → length bytes ≤ 67108864 → IsReadAs bytes w
    → (ReadTooMuch source taken × (fault ≡ InputTooLong)) ⊎ (ReadAll source taken × (script_fault taken ≡ Some fault)) → ⊥
no_fault source bytes taken w fault told few read (inl much) =
    let gone : Consumes (Some bytes) source.left_after taken = rw told at much.0.taken in
    omega (arith, few, much.0.past, read_within bytes taken source.left_after gone)
no_fault source bytes taken w fault told few read (inr wrong) =
    let d : ◌≡◌ {A = Option ScriptFault} None (Some fault) = sym read.sound ∙ ap script_fault (sym (taken_all source bytes taken told wrong.0)) ∙ wrong.1 in
    cc

-- two scripts that the bytes are read as have the same commands
built-too : (bytes : List ℕ) (w z : Workload) → IsReadAs bytes w → IsReadAs bytes z → AreBuilt w → AreBuilt z
built-too bytes w z one two built = subst (λ (css : List (List Command)). AllByRecursion (AllByRecursion IsBuilt) css) (one.commands ∙ sym two.commands) built

none_unbuilt : (source : SourceMoved) (bytes : List ℕ) (w : Workload) → source.left ≡ Some bytes → IsReadAs bytes w → AreBuilt w → ReadUnbuilt source → ⊥
none_unbuilt source bytes w told read built (taken, z, un) =
    un.2 (built-too bytes w z read (subst (λ b. IsReadAs b z) (taken_all source bytes taken told un.0) un.1) built)

pub settled-complete : (words : List (String Global)) (source : SourceMoved) (sink : SinkMoved) (result : Status) (t : Task) (bytes : List ℕ) (w : Workload)
    → Settled words source sink result → IsGiven words source sink t bytes w → IsOkOrMemory result
settled-complete words source sink status.Ok t bytes w settled given = tt
settled-complete words source sink status.Memory t bytes w settled given = tt
settled-complete words source sink status.Words t bytes w settled given = settled.0 t given.spelled
settled-complete words source sink status.ReadFault t bytes w settled given = given.reads settled.1.1.0.failed
settled-complete words source sink (status.Script fault) t bytes w settled given =
    no_fault source bytes settled.1.1.0.0 w fault given.told given.few given.read settled.1.1.0.1
settled-complete words source sink status.WriteFault t bytes w settled given = given.writes settled.1.1.3.4.failed
settled-complete words source sink status.NotBuilt t bytes w settled given = none_unbuilt source bytes w given.told given.read given.built settled.1.1.0
