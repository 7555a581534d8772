-- The rows are the nodes of the document with their places and their numbers, in document order.
use Rattle.std.proofs.Common.{◌≡◌, ℕ, ◌+◌, ◌*◌, List, [], ◌∷◌, ◌++◌, map, refl, ap, ap₂, ◌∙◌}
use Rattle.std.proofs.lemmas.List.{map-append}
use Rattle.tb_tree.specs.Plain.{Plain, elem, attr, text, Plains, no_kids, kid, one}
use Rattle.tb_tree.specs.Numbers.{counts, all_numbered}
use Rattle.tb_tree.specs.Places.{placed_below, placed_in}
use Rattle.tb_label.specs.Rows.{rows, rows_of, placed_of, numbered_of}

rows-placed : (clock number parent : ℕ) (at : List ℕ) (k : ℕ) (ks : Plains) → map placed_of (rows clock number parent at k ks) ≡ placed_below at k ks
rows-placed clock number parent at k no_kids = refl
rows-placed clock number parent at k (kid (elem name kids) rest) =
    ap (λ ps. record { place = at ++ k ∷ []; node = elem name kids } ∷ ps)
    (map-append placed_of (rows (clock + 1) (number + 1) number (at ++ k ∷ []) 0 kids) (rows (clock + 2 * counts kids + 2) (number + 1 + counts kids) parent at (k + 1) rest)
    ∙ ap₂ (λ a b. a ++ b) (rows-placed (clock + 1) (number + 1) number (at ++ k ∷ []) 0 kids) (rows-placed (clock + 2 * counts kids + 2) (number + 1 + counts kids) parent at (k + 1) rest))
rows-placed clock number parent at k (kid (attr name value) rest) = ap (λ ps. record { place = at ++ k ∷ []; node = attr name value } ∷ ps) (rows-placed (clock + 2) (number + 1) parent at (k + 1) rest)
rows-placed clock number parent at k (kid (text value) rest) = ap (λ ps. record { place = at ++ k ∷ []; node = text value } ∷ ps) (rows-placed (clock + 2) (number + 1) parent at (k + 1) rest)

pub rows-numbered : (clock number parent : ℕ) (at : List ℕ) (k : ℕ) (ks : Plains) → map numbered_of (rows clock number parent at k ks) ≡ all_numbered number ks
rows-numbered clock number parent at k no_kids = refl
rows-numbered clock number parent at k (kid (elem name kids) rest) =
    ap (λ ps. record { number = number; node = elem name kids } ∷ ps)
    (map-append numbered_of (rows (clock + 1) (number + 1) number (at ++ k ∷ []) 0 kids) (rows (clock + 2 * counts kids + 2) (number + 1 + counts kids) parent at (k + 1) rest)
    ∙ ap₂ (λ a b. a ++ b) (rows-numbered (clock + 1) (number + 1) number (at ++ k ∷ []) 0 kids) (rows-numbered (clock + 2 * counts kids + 2) (number + 1 + counts kids) parent at (k + 1) rest))
rows-numbered clock number parent at k (kid (attr name value) rest) = ap (λ ps. record { number = number; node = attr name value } ∷ ps) (rows-numbered (clock + 2) (number + 1) parent at (k + 1) rest)
rows-numbered clock number parent at k (kid (text value) rest) = ap (λ ps. record { number = number; node = text value } ∷ ps) (rows-numbered (clock + 2) (number + 1) parent at (k + 1) rest)

pub placed : (root : Plain) → map placed_of (rows_of root) ≡ placed_in root
placed root = rows-placed 2 1 0 [] 0 (one root)

pub numbered : (root : Plain) → map numbered_of (rows_of root) ≡ all_numbered 1 (one root)
numbered root = rows-numbered 2 1 0 [] 0 (one root)
