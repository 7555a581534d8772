-- Pieces that follow each other have each place between their ends once, in order.
use Rattle.std.proofs.Common.{◌≡◌, ℕ, ◌-◌, ◌≤◌, List, [], ◌∷◌, ◌++◌, sym, ap, ◌∙◌, arith}
use Rattle.std.specs.List.{range_with_len, flat_map}
use Rattle.tb_tree.proofs.lists.Ranges.{range_split, range_none}
use Rattle.tb_parjoin.specs.Traces.{Follow}
use Rattle.tb_parjoin.specs.declared.trace.Ran.{Ran}

-- the places of a piece
abbrev pub places_of : Ran → List ℕ
places_of r = range_with_len r.lo (r.hi - r.lo)

pub follow-rises : (from to : ℕ) (rs : List Ran) → Follow from to rs → from ≤ to
follow-rises from to [] h = omega (arith, h)
follow-rises from to (r ∷ rs) h = omega (arith, h.0, h.1, follow-rises r.hi to rs h.2)

pub follow-places : (from to : ℕ) (rs : List Ran) → Follow from to rs → flat_map places_of rs ≡ range_with_len from (to - from)
follow-places from to [] h = sym (range_none from to (omega (arith, h)))
follow-places from to (r ∷ rs) h =
    let rest = ap (λ ps. places_of r ++ ps) (follow-places r.hi to rs h.2) in
    let whole = range_split r.lo r.hi to (omega (arith, h.1)) (follow-rises r.hi to rs h.2) in
    rest ∙ whole ∙ ap (λ a. range_with_len a (to - a)) h.0
