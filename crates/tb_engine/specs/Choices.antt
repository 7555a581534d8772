-- Rows by numbers alone. A row has an entry for a pattern node and for each pattern node below it, in written
-- order: the node that is chosen, or none.
use Rattle.std.specs.Prelude.{ℕ, ◌+◌, ◌-◌, Bool, true, false, List, [], ◌∷◌, ◌++◌, Option, Some, None, map, take, drop, slice_index_or}
use Rattle.std.specs.List.{flat_map}
use Rattle.tb_pattern.specs.declared.pattern.Mark.{Mark}
use Rattle.tb_pattern.specs.declared.pattern.Mark.TheVariants as mark
use Rattle.tb_twig.specs.declared.branch.Branch.{Branch}

abbrev pub Choice : Type 0
Choice = Option ℕ

-- what an edge leaves to choose where its links lead to these nodes: one of them; nodes that stand together
-- are none
abbrev pub taken : Mark → List ℕ → List Choice
taken mark.One ns = map Some ns
taken mark.Optional [] = None ∷ []
taken mark.Optional (n ∷ ns) = map Some (n ∷ ns)
taken mark.Some [] = []
taken mark.Some (n ∷ ns) = None ∷ []
taken mark.Any ns = None ∷ []

-- the same below what is chosen: below none there is none
abbrev pub choices : Mark → (ℕ → List ℕ) → Choice → List Choice
choices mark run None = None ∷ []
choices mark run (Some n) = taken mark (run n)

-- none, where it may be chosen
abbrev pub blanks : Bool → List Choice
blanks false = []
blanks true = None ∷ []

abbrev pub chosen_at : List Choice → ℕ → Choice
chosen_at chosen k = slice_index_or chosen k None

-- The rows that go on from one, whose first entry is pattern node b: these edges are left, the first of which has
-- the number f; edge f leads from node n to those of `run f n`.
abbrev pub rows_by : (ℕ → ℕ → List ℕ) → ℕ → List Branch → ℕ → List Choice → List (List Choice)
rows_by run b [] f chosen = chosen ∷ []
rows_by run b (r ∷ rs) f chosen =
    flat_map (λ c. rows_by run b rs (f + 1) (chosen ++ c ∷ [])) (choices r.mark (run f) (chosen_at chosen (r.up - b)))

-- the rows of node n at pattern node b, which has so many below it, where these are all edges
abbrev pub rows_at : (ℕ → ℕ → List ℕ) → List Branch → ℕ → ℕ → ℕ → List (List Choice)
rows_at run laid b size n = rows_by run b (take size (drop b laid)) b (Some n ∷ [])
