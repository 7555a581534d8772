use Rattle.std.proofs.Common.{drop}
use Rattle.tb_tree.specs.View.{plains_of}
use Rattle.tb_tree.specs.Making.{Made}
use Rattle.tb_tree.specs.Drafts.{Shows}
use Rattle.tb_tree.specs.Planting.{with_content, MayStand}
use Rattle.tb_tree.proofs.PlantSteps.{Left}
use Rattle.tb_tree.proofs.planting.+planting.Given as goal

-- what is put in, with what is left, makes the whole
abbrev pub invariant-plant_kids-kids : goal.invariant-plant_kids-kids
invariant-plant_kids-kids l =
    (m : Made) → Shows l.initial.draft m → MayStand m (plains_of l.kids)
    → Left l.draft (plains_of (drop l.kid-index l.kids)) (with_content m (plains_of l.kids))
