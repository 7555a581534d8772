use Rattle.std.proofs.Common.{sym, ap, ◌∙◌}
use Rattle.tb_script.specs.Groups.{listed}
use Rattle.tb_script.specs.Rounds.{stuck_line}
use Rattle.tb_script.specs.Sessions.{marks_of}
use Rattle.tb_script.proofs.BodyFitLaws.{script-fits}
use Rattle.tb_script.proofs.SoundLaws.{have_below, are_runnable}
use Rattle.tb_script.proofs.reader.read_workload.Goals as goal

pub stuck_line-requires : goal.stuck_line-requires
stuck_line-requires c =
    let read = c.in_ok-entries.ensures in
    let es = c.in_ok-entries.entries.items in
    let groups = c.in_ok-sessions.ensures (marks_of es) read.told in
    record { marks = rw (c.deref.ensures.value, groups.1, read.told.count) (have_below es read.sound groups.0) }

pub returns-clause-runnable : goal.returns-clause-runnable
returns-clause-runnable c =
    let read = c.in_ok-entries.ensures in
    let es = c.in_ok-entries.entries.items in
    let groups = c.in_ok-sessions.ensures (marks_of es) read.told in
    let same = ap listed c.deref.ensures.value ∙ groups.1 in
    let free = ap stuck_line (sym same) ∙ sym c.in_ok-line.ensures ∙ c.in_default.is in
    rw (c.in_ok-sessions-2.ensures, groups.1, read.told.count) (are_runnable es (rw read.entries_are (script-fits c.args.bytes.now c.if-bytes-gt-MOST_BYTES.false)) read.sound groups.0 free)
