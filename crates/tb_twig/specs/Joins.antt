-- What the join of one edge does to the lists of all pattern nodes.
use Rattle.std.specs.Prelude.{ℕ, ◌+◌, List, [], ◌∷◌, map, set, slice_index_or}
use Rattle.tb_tree.specs.Plain.{Plain}
use Rattle.tb_span.specs.declared.item.Item.{Item}
use Rattle.tb_label.specs.Stores.{document_item_of}
use Rattle.tb_pattern.specs.Plain.{PlainEdges}
use Rattle.tb_twig.specs.Branches.{branches_of}
use Rattle.tb_twig.specs.Lists.{first_list}
use Rattle.tb_twig.specs.Narrowed.{links_between, lower_left, upper_left}
use Rattle.tb_twig.specs.declared.branch.Branch.{Branch}
use Rattle.tb_twig.specs.declared.link.Link.{Link}

-- the list of pattern node x
abbrev pub node_list : List (List Item) → ℕ → List Item
node_list lists x = slice_index_or lists x []

-- the links that the join of edge e finds
abbrev pub links_found : Branch → ℕ → List (List Item) → List Link
links_found branch e lists = links_between branch.axis (node_list lists branch.up) (node_list lists (e + 1))

-- the lists after it
abbrev pub lists_after : Branch → ℕ → List Link → List (List Item) → List (List Item)
lists_after branch e links lists =
    set (set lists branch.up (upper_left branch.mark links (node_list lists branch.up))) (e + 1) (lower_left links (node_list lists (e + 1)))

-- the lists before any join: the document node, and the nodes that meet the tests and conditions
abbrev pub first_lists : Plain → PlainEdges → List (List Item)
first_lists root edges = (document_item_of root ∷ []) ∷ map (λ s. first_list root s.to) (branches_of edges)
