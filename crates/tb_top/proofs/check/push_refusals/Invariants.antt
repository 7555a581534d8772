use Rattle.std.proofs.Common.{ℕ, ◌+◌, ◌≤◌, List, length, map}
use Rattle.std.specs.List.{AllByRecursion}
use Rattle.std.specs.Vec.Iter.{into_iter_items}
use Rattle.tb_script.specs.Runnable.{HasBodyThatFits}
use Rattle.tb_top.specs.Check.{AreLines, AreRefusals, AreAllRefusals}
use Rattle.tb_top.specs.Pieces.{Grows}
use Rattle.tb_top.specs.Single.{IsBuilt}
use Rattle.tb_top.proofs.check.push_refusals.Given as goal

-- where the text grows by the refusals of the sessions that are left, it has grown by all
abbrev pub invariant-sessions : goal.invariant-sessions
invariant-sessions l =
    ((new : List ℕ) → Grows l.text.items new (AreLines AreRefusals (l.session + 1) (map (λ s. s.commands.items) (into_iter_items l.script-iterator)))
    → Grows l.initial.text.items new (AreAllRefusals (map (λ s. s.commands.items) l.fn.sessions.items)))
    × AllByRecursion (AllByRecursion HasBodyThatFits) (map (λ s. s.commands.items) (into_iter_items l.script-iterator))
    × (l.session + length (into_iter_items l.script-iterator) ≤ length l.fn.sessions.items)
    × (AllByRecursion (AllByRecursion IsBuilt) (map (λ s. s.commands.items) (into_iter_items l.script-iterator)) → AllByRecursion (AllByRecursion IsBuilt) (map (λ s. s.commands.items) l.fn.sessions.items))
    × (AllByRecursion (AllByRecursion IsBuilt) (map (λ s. s.commands.items) l.fn.sessions.items) → AllByRecursion (AllByRecursion IsBuilt) (map (λ s. s.commands.items) (into_iter_items l.script-iterator)))
