use Rattle.std.proofs.Common.{◌≡◌, ◌+◌, ◌++◌, drop, map}
use Rattle.tb_top.specs.Transcript.{history_lines}
use Rattle.tb_top.specs.Kept.{change_in}
use Rattle.tb_top.proofs.single.push_history_lines.Given as goal

-- the lines so far, with those of the changes that are left, are all lines
abbrev pub invariant-changes : goal.invariant-changes
invariant-changes l =
    l.text.items ++ history_lines (l.place + 1) (map change_in (drop l.place l.changes)) ≡ l.initial.text.items ++ history_lines 1 (map change_in l.changes)
