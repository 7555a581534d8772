-- A node of a table is one of a document that the program keeps.
use Rattle.std.proofs.Common.{◌≡◌, ℕ, ◌<◌, ◌≤◌, List, [], map, length, Some, refl, sym, ap, ◌∙◌, subst, arith}
use Rattle.std.specs.List.{slice_get}
use Rattle.std.specs.Option.{option_map}
use Rattle.std.proofs.lemmas.List.{length-map}
use Rattle.std.proofs.lemmas.Option.{get_or_from_slice_get, slice_get-map}
use Rattle.std.proofs.lemmas.Simd.{map-map}
use Rattle.tb_tree.specs.Plain.{Plain, text}
use Rattle.tb_tree.specs.Numbers.{count}
use Rattle.tb_tree.specs.Nodes.{node_at}
use Rattle.tb_tree.specs.View.{plain_of}
use Rattle.tb_tree.specs.declared.node.Node.{Node}
use Rattle.tb_table.specs.Documents.{roots_of, docs_of}
use Rattle.tb_table.specs.declared.node_ref.NodeRef.{NodeRef}
use Rattle.tb_table.specs.Seen.{root_at, node_seen, IsNode}

abbrev Named : Type 0
Named = List ℕ × Node

abbrev seen : Named → List ℕ × Plain
seen d = (d.0, plain_of d.1)

-- there is a document of the number
pub document-kept : (ds : List Named) (u : NodeRef) → IsNode (docs_of ds) u → u.document < length ds
document-kept ds u is = omega (arith, is.document, length-map ds seen)

roots-plain : (ds : List Named) → map (λ d. d.1) (docs_of ds) ≡ map plain_of (roots_of ds)
roots-plain ds = map-map (λ d. d.1) seen ds ∙ sym (map-map plain_of (λ (d : Named). d.1) ds)

-- the root that the meaning of plans has is that of what is kept
pub root-kept : (ds : List Named) (k : ℕ) (root : Node) → slice_get (roots_of ds) k ≡ Some root → root_at (docs_of ds) k ≡ plain_of root
root-kept ds k root is =
    get_or_from_slice_get (map (λ d. d.1) (docs_of ds)) k (plain_of root) (text [])
    (ap (λ rs. slice_get rs k) (roots-plain ds) ∙ slice_get-map plain_of (roots_of ds) k ∙ ap (option_map plain_of) is)

-- it has a node of the number
pub node-within : (ds : List Named) (u : NodeRef) (root : Node) → IsNode (docs_of ds) u → slice_get (roots_of ds) u.document ≡ Some root → u.node ≤ count (plain_of root)
node-within ds u root is there = subst (λ r. u.node ≤ count r) (root-kept ds u.document root there) is.within

-- and this is the one that is seen
pub node-kept : (ds : List Named) (u : NodeRef) (root : Node) → slice_get (roots_of ds) u.document ≡ Some root → (node_seen (docs_of ds) u).at.node ≡ node_at (plain_of root) u.node
node-kept ds u root there = ap (λ r. node_at r u.node) (root-kept ds u.document root there)
