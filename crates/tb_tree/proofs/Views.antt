-- A node of the program and its plain tree, level by level.
use Rattle.std.proofs.Common.{◌≡◌, ℕ, ◌+◌, ◌<◌, List, length, drop, get_or, ap, sym, ◌∙◌, rules}
use Rattle.std.proofs.lemmas.List.{drop_more}
use Rattle.tb_tree.specs.Plain.{elem, attr, text, kid}
use Rattle.tb_tree.specs.View.{plain_of, plains_of}
use Rattle.tb_tree.specs.declared.node.Node.{Node, Elem, Attr, Text, the_lemmas}

pub plain_of-Elem : (name : List ℕ) (kids : List Node) → plain_of (Elem name kids) ≡ elem name (plains_of kids)
plain_of-Elem name kids = search (rules, the_lemmas)

pub plain_of-Attr : (name value : List ℕ) → plain_of (Attr name value) ≡ attr name value
plain_of-Attr name value = search (rules, the_lemmas)

pub plain_of-Text : (value : List ℕ) → plain_of (Text value) ≡ text value
plain_of-Text value = search (rules, the_lemmas)

-- the nodes from the i-th on are that node and those behind it
pub plains_of-drop : (nodes : List Node) (i : ℕ) (node : Node) → i < length nodes → node ≡ get_or nodes i node → plains_of (drop i nodes) ≡ kid (plain_of node) (plains_of (drop (i + 1) nodes))
plains_of-drop nodes i node within at = ap plains_of (drop_more nodes i node within) ∙ ap (λ n. kid (plain_of n) (plains_of (drop (i + 1) nodes))) (sym at)
