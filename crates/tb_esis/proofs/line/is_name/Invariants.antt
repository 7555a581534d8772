use Rattle.std.proofs.Common.{◌≡◌, true, take}
use Rattle.std.specs.List.{list_all}
use Rattle.tb_tree.specs.Names.{is_name_byte}
use Rattle.tb_esis.proofs.line.is_name.Given as goal

-- the bytes passed are of a name
abbrev pub invariant-bytes : goal.invariant-bytes
invariant-bytes l = list_all is_name_byte (take l.byte-index l.bytes) ≡ true
