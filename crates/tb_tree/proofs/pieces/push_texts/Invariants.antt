use Rattle.std.proofs.Common.{◌≡◌, ℕ, List, length, map}
use Rattle.tb_tree.specs.Parts.{text_extents, told_piece, told_texts}
use Rattle.tb_tree.proofs.PieceLaws.{IsPushed}
use Rattle.tb_tree.proofs.pieces.push_texts.Given as goal

abbrev pub decreases-texts : goal.decreases-texts
decreases-texts l = length (text_extents l.rest)

-- the texts so far, with those of the extents that are left, make the whole
abbrev pub invariant-texts : goal.invariant-texts
invariant-texts l =
    (values : List (List ℕ)) → told_texts l.text l.extents ≡ map told_piece values → IsPushed l.text l.rest l.initial.value.items l.value.items values
