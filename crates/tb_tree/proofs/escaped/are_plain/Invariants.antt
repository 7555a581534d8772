use Rattle.std.proofs.Common.{◌≡◌, ◌&&◌, drop}
use Rattle.std.specs.List.{list_all}
use Rattle.tb_tree.specs.Written.{is_plain}
use Rattle.tb_tree.proofs.escaped.are_plain.Given as goal

-- what is known, with the bytes that are left
abbrev pub invariant-bytes : goal.invariant-bytes
invariant-bytes l = (l.plain && list_all is_plain (drop l.byte-index l.bytes)) ≡ list_all is_plain l.bytes
