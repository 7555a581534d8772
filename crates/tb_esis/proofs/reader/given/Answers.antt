-- Bytes without a backslash give themselves.
use Rattle.std.proofs.Common.{sym}
use Rattle.tb_tree.proofs.EscapeLaws.{unescaped-all}
use Rattle.tb_esis.proofs.reader.given.Goals as goal

pub returns-in_default : goal.returns-in_default
returns-in_default c = sym (unescaped-all c.args.raw.now c.in_default.ensures)
