use Rattle.std.specs.Vec.Iter.{into_iter_items}
use Rattle.tb_top.proofs.CheckLaws.{Left}
use Rattle.tb_top.proofs.check.push_refusals_of.Given as goal

-- what is left of the commands is still to be told
abbrev pub invariant-commands : goal.invariant-commands
invariant-commands l = Left l.session l.number l.initial.text.items l.text.items l.fn.commands.items (into_iter_items l.command-iterator)
