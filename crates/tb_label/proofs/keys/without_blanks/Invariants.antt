use Rattle.std.proofs.Common.{◌≡◌, ℕ, List, length}
use Rattle.tb_tree.specs.Printed.{escaped}
use Rattle.tb_label.proofs.PrintedBlankLaws.{Left}
use Rattle.tb_label.proofs.keys.without_blanks.Given as goal

abbrev pub decreases-blanks : goal.decreases-blanks
decreases-blanks l = length l.rest

-- what is left prints the value behind blanks that stand first in it
abbrev pub invariant-blanks : goal.invariant-blanks
invariant-blanks l = (value : List ℕ) → l.printed ≡ escaped value → Left l.rest value
