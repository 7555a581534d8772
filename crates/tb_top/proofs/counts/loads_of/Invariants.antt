use Rattle.std.proofs.Common.{◌≡◌, ◌+◌, ◌≤◌, drop}
use Rattle.tb_script.specs.Runnable.{loads_of}
use Rattle.tb_top.proofs.counts.loads_of.Given as goal

-- what is counted, with what is left, is the whole; at most one is counted each time
abbrev pub invariant-commands : goal.invariant-commands
invariant-commands l =
    (l.count + loads_of (drop l.command-index l.commands) ≡ loads_of l.commands) × (l.count ≤ l.command-index)
