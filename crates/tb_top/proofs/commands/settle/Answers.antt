-- What the script comes to is written.
use Rattle.std.proofs.Common.{subst, arith, length, ◌≤◌}
use Rattle.tb_top.specs.Moved.{SinkMoved, Published}
use Rattle.tb_top.specs.Pieces.{joined}
use Rattle.tb_top.proofs.SettledLaws.{settled}
use Rattle.tb_top.proofs.commands.settle.Goals as goal

pub returns-in-Ok-Text : goal.returns-in-Ok-Text
returns-in-Ok-Text g c =
    let read = c.in-Ok.ensures in
    let bytes = c.in-Ok.bytes.items in
    let few : length bytes ≤ 67108864 = omega (arith, c.if-len-gt-MOST_INPUT.false, c.len.ensures, c.in-Ok.bytes.ok) in
    let short : c.in-Ok.bytes.len ≤ 67108864 = omega (arith, c.if-len-gt-MOST_INPUT.false, c.len.ensures) in
    let comes = rw c.in-Ok-Text.field-0-is at c.in-Ok-Text.ensures in
    let held = g.K.Sink.held in
    let faults = g.K.Sink.faults in
    let sink : SinkMoved = record { held = held c.args.sink.now; held_after = held c.publish.new.sink; faults = faults c.args.sink.now; faults_after = faults c.publish.new.sink } in
    settled c.args.words.now _ sink c.in-Some.task bytes comes.0 (joined c.in-Ok-Text.pieces.items) c.publish.result c.in-Some.ensures (record { taken = read.bytes; ended = read.end short; within = few; faultless = read.cause }) comes.1.0 comes.1.1 comes.1.2
    (subst (λ p. Published sink (joined p) c.publish.result) c.deref.ensures.value c.publish.ensures)

pub returns-in-Ok-NotBuilt : goal.returns-in-Ok-NotBuilt
returns-in-Ok-NotBuilt g c =
    let read = c.in-Ok.ensures in
    let bytes = c.in-Ok.bytes.items in
    let few : length bytes ≤ 67108864 = omega (arith, c.if-len-gt-MOST_INPUT.false, c.len.ensures, c.in-Ok.bytes.ok) in
    let short : c.in-Ok.bytes.len ≤ 67108864 = omega (arith, c.if-len-gt-MOST_INPUT.false, c.len.ensures) in
    let comes = rw c.in-Ok-NotBuilt.field-0-is at c.in-Ok-NotBuilt.ensures in
    rw c.tell-in-Ok-NotBuilt.ensures.same
    (c.in-Some.task, (c.in-Some.ensures, ((bytes, comes.0, (record { taken = read.bytes; ended = read.end short; within = few; faultless = read.cause }, comes.1.0, comes.1.1)), c.tell-in-Ok-NotBuilt.ensures.told)))
