use Rattle.std.proofs.Common.{◌≡◌, ℕ, ◌++◌, map}
use Rattle.std.specs.Vec.Iter.{into_iter_items}
use Rattle.tb_tree.specs.Plain.{Plain}
use Rattle.tb_pattern.specs.Witness.{witness}
use Rattle.tb_twig.specs.Seen.{seen, row_seen}
use Rattle.tb_twig.proofs.rows.push_all.Given as goal

-- the witnesses so far, with those of the rows that are left
abbrev pub invariant-rows : goal.invariant-rows
invariant-rows l =
    (look : ℕ → Plain) → map (seen look) l.witnesses.items ++ map (witness l.node (look l.node)) (map (row_seen look) (into_iter_items l.row-iterator))
    ≡ map (seen look) l.initial.witnesses.items ++ map (witness l.node (look l.node)) (map (row_seen look) l.fn.rows.items)
