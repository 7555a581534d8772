use Rattle.std.proofs.Common.{◌≡◌, take}
use Rattle.tb_tree.proofs.node.Node.+copy.Given as goal

-- the first kids are copied
abbrev pub invariant-kids : goal.invariant-kids
invariant-kids l = l.copies.items ≡ take l.kid-index l.kids
