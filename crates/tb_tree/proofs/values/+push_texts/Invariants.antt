use Rattle.std.proofs.Common.{◌≡◌, ◌++◌, drop}
use Rattle.tb_tree.specs.View.{plains_of}
use Rattle.tb_tree.specs.Value.{texts_below}
use Rattle.tb_tree.proofs.values.+push_texts.Given as goal

-- the texts that are appended, with those that are left, make the whole
abbrev pub invariant-kids : goal.invariant-kids
invariant-kids l = l.texts.items ++ texts_below (plains_of (drop l.kid-index l.kids)) ≡ l.initial.texts.items ++ texts_below (plains_of l.kids)
