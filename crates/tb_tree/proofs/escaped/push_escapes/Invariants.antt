use Rattle.std.proofs.Common.{◌≡◌, ◌≤◌, ◌++◌, length}
use Rattle.tb_tree.specs.Printed.{escaped}
use Rattle.tb_tree.specs.Written.{IsGrown}
use Rattle.tb_tree.proofs.escaped.push_escapes.Given as goal

abbrev pub decreases-escapes : goal.decreases-escapes
decreases-escapes l = length l.rest

-- what is written, with what is left, makes the whole
abbrev pub invariant-escapes : goal.invariant-escapes
invariant-escapes l = record {
  within : length l.rest ≤ length l.bytes;
  whole : l.out.items ++ escaped l.rest ≡ l.initial.out.items ++ escaped l.bytes;
  prefix : IsGrown l.initial.out.items l.out.items;
}
