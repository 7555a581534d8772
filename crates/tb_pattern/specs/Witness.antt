-- The naive witnesses of a pattern: every way to match it, by the pattern alone.
use Rattle.std.specs.Prelude.{ℕ, ◌+◌, ◌&&◌, if◌then◌else◌, List, [], ◌∷◌, ◌++◌, map}
use Rattle.std.specs.List.{flat_map}
use Rattle.tb_tree.specs.Plain.{Plain, Plains, no_kids, kid, kids_of}
use Rattle.tb_tree.specs.Numbers.{Numbered, kids_numbered, all_numbered}
use Rattle.tb_tree.specs.Value.{value_of}
use Rattle.tb_pattern.specs.Plain.{PlainPattern, matching, PlainEdges, no_edges, edge}
use Rattle.tb_tree.specs.Meets.{meets}
use Rattle.tb_span.specs.declared.item.Axis.{Axis}
use Rattle.tb_span.specs.declared.item.Axis.TheVariants.{Child, Descendant}
use Rattle.tb_pattern.specs.declared.pattern.Mark.{Mark}
use Rattle.tb_pattern.specs.declared.pattern.Mark.TheVariants.{One, Optional, Some, Any}
use Rattle.tb_pattern.specs.Conditions.{all_hold}

mutual
  -- a matched node with its number, and what is offered for each edge
  pub data Witness : Type 0 where
    witness : ℕ → Plain → Offers → Witness

  -- an offer an edge, in written order
  pub data Offers : Type 0 where
    no_offers : Offers
    offer : Witnesses → Offers → Offers

  -- the witnesses that are offered together
  pub data Witnesses : Type 0 where
    no_witnesses : Witnesses
    then_witness : Witness → Witnesses → Witnesses

-- all of these together
abbrev pub together : List Witness → Witnesses
together [] = no_witnesses
together (w ∷ ws) = then_witness w (together ws)

-- what an edge offers where these witnesses match below it, in document order
abbrev pub each_alone : List Witness → List Witnesses
each_alone ws = map (λ w. then_witness w no_witnesses) ws

abbrev pub offered : Mark → List Witness → List Witnesses
offered One ws = each_alone ws
offered Optional [] = no_witnesses ∷ []
offered Optional (w ∷ ws) = each_alone (w ∷ ws)
offered Some [] = []
offered Some (w ∷ ws) = together (w ∷ ws) ∷ []
offered Any ws = together ws ∷ []

-- The nodes on the axis of a node with this number and these kids, in document order: the kids,
-- or all nodes below it.
abbrev pub on_axis : Axis → ℕ → Plains → List Numbered
on_axis Child n kids = kids_numbered (n + 1) kids
on_axis Descendant n kids = all_numbered (n + 1) kids

abbrev mutual
  -- the witnesses at a node: none unless it meets the test and every condition
  pub witnesses_at : PlainPattern → Numbered → List Witness
  witnesses_at (matching test conds whole edges) u =
      if meets test u.node && all_hold conds (value_of u.node)
      then map (witness u.number u.node) (choices edges u.number (kids_of u.node))
      else []

  -- one offer an edge, for all choices, the first edge varying slowest
  pub choices : PlainEdges → ℕ → Plains → List Offers
  choices no_edges n kids = no_offers ∷ []
  choices (edge axis mark below edges) n kids =
      flat_map (λ ws. map (offer ws) (choices edges n kids))
      (offered mark (flat_map (witnesses_at below) (on_axis axis n kids)))

-- The witnesses over a document: those of the document node, whose number is 0 and whose one kid is
-- the root.
abbrev pub naive_witnesses : PlainEdges → Plain → List Offers
naive_witnesses edges root = choices edges 0 (kid root no_kids)

abbrev mutual
  -- the numbers of the matched nodes, in the written order of their pattern nodes
  pub numbers_in : Offers → List ℕ
  numbers_in no_offers = []
  numbers_in (offer ws others) = numbers_in_all ws ++ numbers_in others

  pub numbers_in_all : Witnesses → List ℕ
  numbers_in_all no_witnesses = []
  numbers_in_all (then_witness w ws) = numbers_from w ++ numbers_in_all ws

  pub numbers_from : Witness → List ℕ
  numbers_from (witness number node given) = number ∷ numbers_in given
