-- The bytes are the line, byte 10 and what follows.
use Rattle.std.proofs.Common.{◌≡◌, length, take, sym, ◌∙◌, arith}
use Rattle.std.proofs.lemmas.Slice.Eq.{bytes_eq-Decides}
use Rattle.std.proofs.lemmas.Bool.{not-true, false≢true}
use Rattle.tb_tree.proofs.lists.Bools.{denied}
use Rattle.tb_tree.proofs.LineLaws.{behind-is, take-line}
use Rattle.tb_tree.proofs.line.behind_line.Goals as goal

pub returns-then-ne : goal.returns-then-ne
returns-then-ne c = λ rest e.
    let line = c.args.line.now in
    let same = (bytes_eq-Decides (take (length line) c.args.bytes.now) line).1 (take-line c.args.bytes.now line rest e) in
    absurd (false≢true (sym (not-true _ (sym c.ne.ensures ∙ c.if-ne.true)) ∙ same))

pub returns : goal.returns
returns c =
    let bytes = c.args.bytes.now in
    let line = c.args.line.now in
    let same : take (length line) bytes ≡ line = (bytes_eq-Decides (take (length line) bytes) line).0 (denied _ (sym c.ne.ensures ∙ c.if-ne.false)) in
    let ten : c.in_ok-get.field-0.now ≡ 10 = omega (arith, c.if-branch-ne10.false) in
    behind-is bytes line c.in_ok-get.field-0.now c.in_ok-get.ensures.lookup.3.0 ten (c.in_ok-get.ensures.lookup.3.1 c.in_ok-get.field-0.now) same
