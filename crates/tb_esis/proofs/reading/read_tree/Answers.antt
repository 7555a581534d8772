-- The reader's document is the one that the lines are read as.
use Rattle.std.proofs.Common.{IfSome, ◌≡◌, ◌<◌, ◌≤◌, ◌+◌, ◌*◌, arith, sym, subst, length}
use Rattle.tb_tree.specs.View.{plain_of}
use Rattle.tb_tree.specs.Plain.{one}
use Rattle.tb_tree.specs.Levels.{levels}
use Rattle.tb_tree.specs.Numbers.{count}
use Rattle.tb_tree.specs.Drafts.{Shows, size_of}
use Rattle.tb_tree.proofs.DoneLaws.{has-room}
use Rattle.tb_esis.specs.Lines.{line_of}
use Rattle.tb_esis.specs.Reading.{IsReadAs}
use Rattle.tb_esis.specs.Machine.{made_behind}
use Rattle.tb_esis.proofs.NamedLaws.{frames-named, taken-some, taken-none}
use Rattle.tb_esis.proofs.ReadLaws.{read-levels, read-fewer}
use Rattle.tb_esis.proofs.ReadingLaws.{faults-cut, made-cut, fault-taken, unless-memory, left-by, read-done, rest-shorter, frames-deep}
use Rattle.tb_esis.proofs.reading.read_tree.Goals as goal

pub take-requires : goal.take-requires
take-requires c =
    let inv = c.lines.invariant in
    record { room = has-room c.lines.reader.draft inv.0 (4 * length c.lines.rest.now) inv.1 inv.5 (omega (arith, inv.7, c.requires)) }

pub returns-in_err-behind-clause-read : goal.returns-in_err-behind-clause-read
returns-in_err-behind-clause-read c =
    let inv = c.lines.invariant in
    let fault = c.in_err-behind.field-0.0 in
    left-by c.args.lines.now fault _ c.from_residual-in_err-behind.ensures.1
    (unless-memory fault _ _ (fault-taken c.lines.rest.now c.lines.number inv.0 _ fault inv.2) (c.in_err-behind.ensures.read inv.0 inv.1 inv.6))

pub lines-smaller : goal.lines-smaller
lines-smaller c =
    let inv = c.lines.invariant in
    let rest = c.lines.rest.now in
    let behind = c.in-Some.behind in
    let taken = taken-some c.in_ok-behind.field-0 behind rest c.lines.number inv.0 c.take.new.self c.in-Some.is (c.in_ok-behind.ensures.read inv.0 inv.1 inv.6) in
    omega (arith, rest-shorter rest taken.line behind.now taken.cut)

pub lines-preserved : goal.lines-preserved
lines-preserved c =
    let inv = c.lines.invariant in
    let rest = c.lines.rest.now in
    let behind = c.in-Some.behind in
    let taken = taken-some c.in_ok-behind.field-0 behind rest c.lines.number inv.0 c.take.new.self c.in-Some.is (c.in_ok-behind.ensures.read inv.0 inv.1 inv.6) in
    let line = taken.line in
    let grown = subst (λ o. IfSome o (λ r. size_of c.take.new.self.draft + 4 * length r.now ≤ size_of c.lines.reader.draft + 4 * length rest)) c.in-Some.is c.in_ok-behind.ensures.grown in (
      made_behind inv.0 (line_of line),
      taken.read.reading,
      faults-cut rest line behind.now c.lines.number inv.0 _ taken.cut taken.read.no_fault inv.2,
      made-cut rest line behind.now inv.0 _ taken.cut inv.3,
      omega (arith, rest-shorter rest line behind.now taken.cut, inv.4),
      frames-deep inv.0 (line_of line) taken.read.no_fault inv.5,
      frames-named inv.0 (line_of line) taken.read.no_fault inv.6,
      omega (arith, inv.7, grown),
    )

pub finish-requires : goal.finish-requires
finish-requires c =
    let inv = c.lines.invariant in
    let all = taken-none c.in_ok-behind.field-0 c.lines.rest.now c.lines.number inv.0 c.take.new.self c.in_default.is (c.in_ok-behind.ensures.read inv.0 inv.1 inv.6) in
    let end = read-done c.args.lines.now c.lines.rest.now c.lines.number inv.0 all.0 inv.2 inv.3 (c.in_ok-conform.ensures.read inv.0 all.1).no_fault in
    record { done = (inv.0, end.root, subst (λ d. Shows d inv.0) (sym c.into_draft.ensures) all.1, end.done) }

pub returns-clause-read : goal.returns-clause-read
returns-clause-read c =
    let inv = c.lines.invariant in
    let all = taken-none c.in_ok-behind.field-0 c.lines.rest.now c.lines.number inv.0 c.take.new.self c.in_default.is (c.in_ok-behind.ensures.read inv.0 inv.1 inv.6) in
    let end = read-done c.args.lines.now c.lines.rest.now c.lines.number inv.0 all.0 inv.2 inv.3 (c.in_ok-conform.ensures.read inv.0 all.1).no_fault in
    let is : plain_of c.finish.result ≡ end.root = c.finish.ensures inv.0 end.root (subst (λ d. Shows d inv.0) (sym c.into_draft.ensures) all.1) end.done in
    subst (IsReadAs c.args.lines.now) (sym is) end.read

pub returns-clause-levels : goal.returns-clause-levels
returns-clause-levels c =
    let inv = c.lines.invariant in
    let all = taken-none c.in_ok-behind.field-0 c.lines.rest.now c.lines.number inv.0 c.take.new.self c.in_default.is (c.in_ok-behind.ensures.read inv.0 inv.1 inv.6) in
    let end = read-done c.args.lines.now c.lines.rest.now c.lines.number inv.0 all.0 inv.2 inv.3 (c.in_ok-conform.ensures.read inv.0 all.1).no_fault in
    let is : plain_of c.finish.result ≡ end.root = c.finish.ensures inv.0 end.root (subst (λ d. Shows d inv.0) (sym c.into_draft.ensures) all.1) end.done in
    subst (λ r. levels (one r) ≤ 512) (sym is) (read-levels c.args.lines.now end.root end.read)

pub returns-clause-fewer : goal.returns-clause-fewer
returns-clause-fewer c =
    let inv = c.lines.invariant in
    let all = taken-none c.in_ok-behind.field-0 c.lines.rest.now c.lines.number inv.0 c.take.new.self c.in_default.is (c.in_ok-behind.ensures.read inv.0 inv.1 inv.6) in
    let end = read-done c.args.lines.now c.lines.rest.now c.lines.number inv.0 all.0 inv.2 inv.3 (c.in_ok-conform.ensures.read inv.0 all.1).no_fault in
    let is : plain_of c.finish.result ≡ end.root = c.finish.ensures inv.0 end.root (subst (λ d. Shows d inv.0) (sym c.into_draft.ensures) all.1) end.done in
    subst (λ r. count r < length c.args.lines.now) (sym is) (read-fewer c.args.lines.now end.root end.read)
