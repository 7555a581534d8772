use Rattle.std.proofs.Common.{◌≡◌, ◌++◌, map}
use Rattle.std.specs.Vec.Iter.{into_iter_items}
use Rattle.tb_script.proofs.workload.commands_of.Given as goal

-- the commands so far, with those that follow, are all
abbrev pub invariant-turns : goal.invariant-turns
invariant-turns l = l.commands.items ++ map (λ t. t.command) (into_iter_items l.turn-iterator) ≡ map (λ t. t.command) l.fn.turns.items
