use Rattle.std.proofs.Common.{◌≡◌, ◌+◌, ◌≤◌, drop}
use Rattle.tb_top.specs.Check.{queries_of}
use Rattle.tb_top.proofs.counts.queries_of.Given as goal

-- what is counted, with what is left, is the whole; at most one is counted each time
abbrev pub invariant-commands : goal.invariant-commands
invariant-commands l =
    (l.count + queries_of (drop l.command-index l.commands) ≡ queries_of l.commands) × (l.count ≤ l.command-index)
