-- What bytes are read as can be run: it meets what the calls that run a script ask for.
use Rattle.std.proofs.Common.{◌≡◌, ℕ, ◌≤◌, Bool, true, false, Option, Some, None, List, length, nat_lt, cond, refl}
use Rattle.std.specs.Option.{option_map}
use Rattle.std.proofs.lemmas.Bool.{ltb-false}
use Rattle.tb_script.specs.Entries.{entries_of}
use Rattle.tb_script.specs.Faults.{at_start, first_fault, or_else}
use Rattle.tb_script.specs.Sessions.{marks_of, unknown_mark}
use Rattle.tb_script.specs.Rounds.{stuck_line}
use Rattle.tb_script.specs.Runnable.{IsRunnable}
use Rattle.tb_script.specs.Calls.{IsReadAs, sessions_of, fault_among}
use Rattle.tb_script.specs.declared.command.Workload.{Workload}
use Rattle.tb_script.specs.declared.fault.ScriptFault.{ScriptFault}
use Rattle.tb_script.specs.declared.fault.ScriptFault.TheVariants.{InputTooLong, MarkStuck}
use Rattle.tb_script.proofs.BodyFitLaws.{script-fits}
use Rattle.tb_script.proofs.SoundLaws.{are_runnable, neither}

short : (past : Bool) (o : Option ScriptFault) → cond past (Some InputTooLong) o ≡ None → (past ≡ false) × (o ≡ None)
short true o e = absurd (let d : ◌≡◌ {A = Option ScriptFault} (Some InputTooLong) None = e in cc)
short false o e = (refl, e)

unmapped : (o : Option ℕ) → option_map MarkStuck o ≡ None → o ≡ None
unmapped None e = refl
unmapped (Some n) e = absurd (let d : ◌≡◌ {A = Option ScriptFault} (Some (MarkStuck n)) None = e in cc)

pub read-runnable : (bytes : List ℕ) (w : Workload) → IsReadAs bytes w → IsRunnable w
read-runnable bytes w read =
    let es = entries_of bytes in
    let parts = short (nat_lt 67108864 (length bytes)) (fault_among es) read.sound in
    let lines = neither (first_fault at_start es) _ parts.1 in
    let marks = neither (unknown_mark (marks_of es) es) _ lines.1 in
    let few : length bytes ≤ 67108864 = ltb-false 67108864 (length bytes) parts.0 in
    rw (read.commands, read.marks) (are_runnable es (script-fits bytes few) lines.0 marks.0 (unmapped (stuck_line (sessions_of es)) marks.1))
