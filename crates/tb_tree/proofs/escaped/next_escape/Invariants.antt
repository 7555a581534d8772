use Rattle.std.proofs.Common.{◌≡◌, ◌≤◌, ◌-◌, true, take, length}
use Rattle.std.specs.List.{list_all}
use Rattle.tb_tree.specs.Written.{is_plain}
use Rattle.tb_tree.proofs.escaped.next_escape.Given as goal

abbrev pub decreases-bytes : goal.decreases-bytes
decreases-bytes l = length l.bytes - l.at

-- the bytes passed are plain
abbrev pub invariant-bytes : goal.invariant-bytes
invariant-bytes l = record {
  within : l.at ≤ length l.bytes;
  plain : list_all is_plain (take l.at l.bytes) ≡ true;
}
