use Rattle.std.proofs.Common.{◌≡◌, drop}
use Rattle.tb_tree.specs.NameTables.{hash_from}
use Rattle.tb_tree.proofs.name_index.hash_of.Given as goal

-- the hash so far, with the bytes that are left, makes the whole
abbrev pub invariant-bytes : goal.invariant-bytes
invariant-bytes l = hash_from l.hash (drop l.byte-index l.name) ≡ hash_from 0 l.name
