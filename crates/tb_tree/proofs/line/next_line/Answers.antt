-- The line is cut at the first byte 10, or it is all bytes.
use Rattle.std.proofs.Common.{refl}
use Rattle.tb_tree.proofs.LineLaws.{cuts-whole, cuts-at, some_byte}
use Rattle.tb_tree.proofs.line.next_line.Goals as goal

pub returns-in_default : goal.returns-in_default
returns-in_default c = cuts-whole c.args.bytes.now _ (some_byte c.args.bytes.now c.if-is_empty.ensures) c.in_default.ensures refl

pub returns : goal.returns
returns c =
    let found = c.in-Some.ensures in
    cuts-at c.args.bytes.now c.without_return.result.now _ c.in-Some.at found.0 found.1 c.without_return.ensures refl
