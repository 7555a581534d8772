use Rattle.std.proofs.Common.{drop}
use Rattle.tb_tree.specs.View.{plains_of}
use Rattle.tb_tree.specs.Making.{Made}
use Rattle.tb_tree.specs.Drafts.{Shows}
use Rattle.tb_tree.specs.Planting.{with_attributes, MayWait}
use Rattle.tb_tree.proofs.PlantSteps.{WaitLeft}
use Rattle.tb_tree.proofs.planting.plant_attributes.Given as goal

-- what waits, with what is left, makes the whole
abbrev pub invariant-kids : goal.invariant-kids
invariant-kids l =
    (m : Made) → Shows l.initial.draft m → MayWait m (plains_of l.kids)
    → WaitLeft l.draft (plains_of (drop l.kid-index l.kids)) (with_attributes m (plains_of l.kids))
