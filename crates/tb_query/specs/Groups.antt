-- Groups of tuples, and the nodes that a path has over a group.
use Rattle.std.specs.Prelude.{ℕ, ◌==◌, Bool, List, [], ◌∷◌, Option, Some, None, map, flat_map}
use Rattle.tb_tree.specs.Numbers.{Numbered}
use Rattle.tb_number.specs.Keys.{is_same_key}
use Rattle.tb_query.specs.Lists.{each_once, grouped}
use Rattle.tb_tree.specs.Documents.{Docs}
use Rattle.tb_query.specs.Tuples.{Tuple, Lets, nodes_in, standing}
use Rattle.tb_query.specs.Operands.{values, first_of}
use Rattle.tb_query.specs.declared.path.Path.{Path}
use Rattle.tb_query.specs.declared.clause.GroupBy.{GroupBy}

-- the key of a tuple, where each tuple has these nodes: the value of the first one, or no value
abbrev pub key_of : (Tuple → List Numbered) → Tuple → Option (List ℕ)
key_of nodes tuple = first_of (values (nodes tuple))

-- the first of some nodes, or none
abbrev pub first_node : List Numbered → Option Numbered
first_node [] = None
first_node (u ∷ us) = Some u

-- The variable of a group stands, in each of its tuples, for the first node that the first tuple
-- has, or for no node.
abbrev pub with_variable : (Tuple → List Numbered) → ℕ → List Tuple → List Tuple
with_variable nodes var [] = []
with_variable nodes var (t ∷ ts) =
    map (λ tuple. (var, first_node (nodes t)) ∷ tuple) (t ∷ ts)

-- tuples with one key, in groups in the order of their first tuples
abbrev pub grouped_by : (Tuple → List Numbered) → ℕ → List Tuple → List (List Tuple)
grouped_by nodes var tuples =
    map (with_variable nodes var)
    (grouped (λ s t. is_same_key (key_of nodes s) (key_of nodes t)) tuples)

-- by the nodes of the path of GROUP BY; without it each tuple is a group of its own
abbrev pub groups_of : Docs → Lets → Option GroupBy → List Tuple → List (List Tuple)
groups_of docs lets None tuples = map (λ t. t ∷ []) tuples
groups_of docs lets (Some by) tuples =
    grouped_by (nodes_in docs (standing lets by.path)) by.var tuples

-- one node of a document
abbrev pub is_same_node : Numbered → Numbered → Bool
is_same_node u v = u.number == v.number

-- The nodes of a path over a group: its nodes in each tuple, one tuple after the other, each node
-- once, at its first place. All nodes of one path are of one document.
abbrev pub nodes_over : Docs → Lets → List Tuple → Path → List Numbered
nodes_over docs lets group path =
    each_once is_same_node (flat_map (nodes_in docs (standing lets path)) group)
