-- What an edge offers, and rows with one offer more.
use Rattle.std.specs.Prelude.{List, [], ◌∷◌, ◌++◌, map, flat_map}
use Rattle.tb_pattern.specs.declared.pattern.Mark.{Mark}
use Rattle.tb_pattern.specs.declared.pattern.Mark.TheVariants.{One, Optional, Some, Any}

-- each alone, or all together, as the mark says
abbrev pub offers_by : {X : Type 0} → Mark → List X → List (List X)
offers_by One ws = map (λ w. w ∷ []) ws
offers_by Optional [] = [] ∷ []
offers_by Optional (w ∷ ws) = map (λ v. v ∷ []) (w ∷ ws)
offers_by Some [] = []
offers_by Some (w ∷ ws) = (w ∷ ws) ∷ []
offers_by Any ws = ws ∷ []

-- the row with each of the offers behind it
abbrev pub with_each : {X : Type 0} → List X → List X → List (List X)
with_each offers row = map (λ o. row ++ o ∷ []) offers

-- each row with each of the offers behind it, the rows varying slowest
abbrev pub grown : {X : Type 0} → List (List X) → List X → List (List X)
grown rows offers = flat_map (with_each offers) rows
