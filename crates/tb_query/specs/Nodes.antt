-- The nodes of a path, by the naive witnesses of its chain pattern.
use Rattle.std.specs.Prelude.{ℕ, ◌+◌, ◌==◌, false, List, [], ◌∷◌, ◌++◌, filter}
use Rattle.std.specs.List.{list_any}
use Rattle.tb_tree.specs.Plain.{Plain, Plains, kids_of, one}
use Rattle.tb_tree.specs.Numbers.{Numbered, all_numbered}
use Rattle.tb_pattern.specs.Plain.{PlainEdges, no_edges, edge, matching}
use Rattle.tb_pattern.specs.Witness.{Witness, witness, Offers, no_offers, offer, Witnesses, no_witnesses, then_witness, choices}
use Rattle.tb_pattern.specs.declared.pattern.Mark.TheVariants.{One, Any}
use Rattle.tb_query.specs.declared.path.Step.{Step}

-- the steps as a chain of edges, each marked `-`
abbrev pub chain_behind : List Step → PlainEdges
chain_behind [] = no_edges
chain_behind (s ∷ steps) = edge s.axis One (matching s.test [] false (chain_behind steps)) no_edges

-- the chain pattern of a path: its first edge is marked `*`, each further one `-`
abbrev pub chain : List Step → PlainEdges
chain [] = no_edges
chain (s ∷ steps) = edge s.axis Any (matching s.test [] false (chain_behind steps)) no_edges

abbrev mutual
  -- the numbers of the last nodes of witnesses, which are those for which nothing more is offered
  pub last_of : Witness → List ℕ
  last_of (witness number node no_offers) = number ∷ []
  last_of (witness number node (offer ws others)) = last_of_all ws ++ last_in others

  -- those of each witness, one after the other
  pub last_of_all : Witnesses → List ℕ
  last_of_all no_witnesses = []
  last_of_all (then_witness w ws) = last_of w ++ last_of_all ws

  -- those of each offer, one after the other
  pub last_in : Offers → List ℕ
  last_in no_offers = []
  last_in (offer ws others) = last_of_all ws ++ last_in others

-- the numbers of the last nodes of all witnesses
abbrev pub last_numbers : List Offers → List ℕ
last_numbers [] = []
last_numbers (given ∷ others) = last_in given ++ last_numbers others

-- those of the nodes whose numbers are listed, each once, as they stand
abbrev pub with_numbers : List ℕ → List Numbered → List Numbered
with_numbers numbers nodes = filter (λ u. list_any (λ n. n == u.number) numbers) nodes

-- The nodes of the last step, each once, in document order, from a node with this number and these
-- kids: those below it at which a witness of the chain ends.
abbrev pub nodes_below : List Step → ℕ → Plains → List Numbered
nodes_below steps n kids =
    with_numbers (last_numbers (choices (chain steps) n kids)) (all_numbered (n + 1) kids)

-- what a path starts at: no node, the document node over this root, or a node of a document
pub data From : Type 0 where
  nowhere : From
  document_node : Plain → From
  node_at : Numbered → From

-- The nodes of a path. Without steps it gives the node that it starts at. The document node itself
-- is none that a path gives.
abbrev pub nodes_from : List Step → From → List Numbered
nodes_from steps nowhere = []
nodes_from [] (document_node root) = []
nodes_from [] (node_at u) = u ∷ []
nodes_from (s ∷ steps) (document_node root) = nodes_below (s ∷ steps) 0 (one root)
nodes_from (s ∷ steps) (node_at u) = nodes_below (s ∷ steps) u.number (kids_of u.node)
