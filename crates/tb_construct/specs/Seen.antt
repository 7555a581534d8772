-- The naive witness that a witness of the program is, where a number is looked up for its node.
use Rattle.std.specs.Prelude.{ℕ, nat_eq, if◌then◌else◌, List, [], ◌∷◌, map}
use Rattle.tb_tree.specs.Plain.{Plain, elem, one}
use Rattle.tb_tree.specs.Nodes.{node_at}
use Rattle.tb_pattern.specs.Plain.{PlainEdges}
use Rattle.tb_pattern.specs.Witness.{Witness, witness, Offers, no_offers, offer, together, naive_witnesses}
use Rattle.tb_pattern.specs.declared.witness.Witness as code

-- The node of a number: that of the document node, 0, is like an element whose one kid is the root.
abbrev pub nth_node : Plain → ℕ → Plain
nth_node root n = if nat_eq n 0 then elem [] (one root) else node_at root n

-- one offer an edge
abbrev pub offers_of : List (List Witness) → Offers
offers_of [] = no_offers
offers_of (ws ∷ others) = offer (together ws) (offers_of others)

abbrev pub seen : (ℕ → Plain) → code.Witness → Witness
seen look = code.fold-Witness Witness (λ w. witness w.node (look w.node) (offers_of w.offers))

abbrev pub row_seen : (ℕ → Plain) → List (List code.Witness) → Offers
row_seen look row = offers_of (map (map (seen look)) row)

-- The rows over a document: the document node with the offers of each naive witness.
abbrev pub rows_of_document : PlainEdges → Plain → List Witness
rows_of_document edges root = map (witness 0 (nth_node root 0)) (naive_witnesses edges root)
