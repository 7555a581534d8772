use Rattle.std.proofs.Common.{◌≡◌, ◌++◌, ◌||◌, length}
use Rattle.tb_tree.specs.Printed.{escaped}
use Rattle.tb_tree.specs.Written.{has_escape, IsGrown}
use Rattle.tb_tree.proofs.escaped.push_escaped.Given as goal

abbrev pub decreases-runs : goal.decreases-runs
decreases-runs l = length l.rest

-- what is written, with what is left, makes the whole
abbrev pub invariant-runs : goal.invariant-runs
invariant-runs l = record {
  whole : l.out.items ++ escaped l.rest ≡ l.initial.out.items ++ escaped l.value;
  told : (l.told || has_escape l.rest) ≡ has_escape l.value;
  prefix : IsGrown l.initial.out.items l.out.items;
}
