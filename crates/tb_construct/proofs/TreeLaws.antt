-- Trees of witnesses, edge after edge and row after row.
use Rattle.std.proofs.Common.{◌≡◌, ℕ, ◌+◌, ◌<◌, false, List, [], ◌∷◌, Some, codes, length, drop, get_or, map, sym, ap, ap₂, ◌∙◌, rules}
use Rattle.std.proofs.lemmas.List.{drop_more}
use Rattle.std.proofs.lemmas.Simd.{map-map}
use Rattle.tb_tree.specs.Plain.{Plain, elem, Plains, no_kids, is_element}
use Rattle.tb_tree.specs.View.{plain_of, plains_of}
use Rattle.tb_tree.specs.declared.node.Node.{Node, Elem}
use Rattle.tb_tree.proofs.Views.{plain_of-Elem}
use Rattle.tb_pattern.specs.Plain.{PlainPattern, matching, PlainEdges}
use Rattle.tb_pattern.specs.View.{edge_of, edges_of, pattern_at}
use Rattle.tb_pattern.specs.Witness.{witness, together, naive_witnesses}
use Rattle.tb_pattern.specs.WitnessTree.{shown, tree_of, trees_of, trees_of_all, witness_tree}
use Rattle.tb_construct.specs.Seen.{nth_node, seen, row_seen, rows_of_document}
use Rattle.tb_pattern.specs.declared.pattern.Edge.{Edge, out-Edge, the_lemmas}
use Rattle.tb_pattern.specs.declared.pattern.PNode.{PNode, out-PNode}
use Rattle.tb_pattern.specs.declared.witness.Witness as code
use Rattle.tb_query.specs.Answer.{match_trees}
use Rattle.tb_construct.specs.Kids.{with_kids}
use Rattle.tb_construct.specs.Trees.{row_tree, trees_by}
use Rattle.tb_construct.proofs.KidLaws.{with_kids-joined, with_kids-append}
use Rattle.tb_construct.proofs.OwnLaws.{inside-shown, leaf-shown}

-- One level of a pattern and of a witness.
pattern-opened : (to : PNode) → pattern_at to ≡ matching (out-PNode to).test (out-PNode to).conds (out-PNode to).whole (edges_of (out-PNode to).edges)
pattern-opened to = search (rules, the_lemmas)

to-opened : (e : Edge) → (edge_of e).to ≡ pattern_at (out-Edge e).to
to-opened e = search (rules, the_lemmas)

seen-opened : (look : ℕ → Plain) (w : code.Witness) → seen look w ≡ witness (code.out-Witness w).node (look (code.out-Witness w).node) (row_seen look (code.out-Witness w).offers)
seen-opened look w = search (rules, code.the_lemmas)

tree-opened : (look : ℕ → Plain) (to : PNode) (w : code.Witness)
    → shown (out-PNode to).whole (look (code.out-Witness w).node) (trees_of (edges_of (out-PNode to).edges) (row_seen look (code.out-Witness w).offers)) ≡ tree_of (pattern_at to) (seen look w)
tree-opened look to w = sym (ap₂ tree_of (pattern-opened to) (seen-opened look w))

row-opened : (look : ℕ → Plain) (es : PlainEdges) (w : code.Witness) → witness_tree es (row_seen look (code.out-Witness w).offers) ≡ row_tree es (seen look w)
row-opened look es w = sym (ap (row_tree es) (seen-opened look w))

-- The tree of a witness is its node with the trees inside, or its node alone.
pub element-tree : (look : ℕ → Plain) (to : PNode) (w : code.Witness) (n : ℕ) (begun : Node) (name : List ℕ) (kids own all made : List Node) (es : List Edge) (row : List (List code.Witness))
    → begun ≡ Elem name kids → plain_of begun ≡ shown (out-PNode to).whole (look n) no_kids → n ≡ (code.out-Witness w).node → own ≡ kids → es ≡ (out-PNode to).edges → row ≡ (code.out-Witness w).offers
    → plains_of all ≡ with_kids (plains_of own) (trees_of (edges_of es) (row_seen look row)) → made ≡ all → plain_of (Elem name made) ≡ tree_of (pattern_at to) (seen look w)
element-tree look to w n begun name kids own all made es row begun_is shown_is n_is own_is es_is row_is all_is made_is =
    let inside = trees_of (edges_of (out-PNode to).edges) (row_seen look (code.out-Witness w).offers) in
    plain_of-Elem name made
    ∙ ap (elem name) (ap plains_of made_is ∙ all_is ∙ ap (λ k. with_kids (plains_of k) (trees_of (edges_of es) (row_seen look row))) own_is
    ∙ ap₂ (λ xs os. with_kids (plains_of kids) (trees_of (edges_of xs) (row_seen look os))) es_is row_is)
    ∙ inside-shown (out-PNode to).whole (look (code.out-Witness w).node) name (plains_of kids) inside
    (sym (plain_of-Elem name kids) ∙ ap plain_of (sym begun_is) ∙ shown_is ∙ ap (λ k. shown (out-PNode to).whole (look k) no_kids) n_is)
    ∙ tree-opened look to w

pub leaf-tree : (look : ℕ → Plain) (to : PNode) (w : code.Witness) (n : ℕ) (begun : Node) → plain_of begun ≡ shown (out-PNode to).whole (look n) no_kids → n ≡ (code.out-Witness w).node
    → is_element (plain_of begun) ≡ false → plain_of begun ≡ tree_of (pattern_at to) (seen look w)
leaf-tree look to w n begun shown_is n_is leaf =
    leaf-shown (out-PNode to).whole (look (code.out-Witness w).node) (plain_of begun) (trees_of (edges_of (out-PNode to).edges) (row_seen look (code.out-Witness w).offers))
    (shown_is ∙ ap (λ k. shown (out-PNode to).whole (look k) no_kids) n_is) leaf
    ∙ tree-opened look to w

-- The tree of a row.
pub row-tree : (look : ℕ → Plain) (es : List Edge) (w : code.Witness) (name : List ℕ) (own all made : List Node) (row : List (List code.Witness))
    → name ≡ codes "witness" → own ≡ [] → row ≡ (code.out-Witness w).offers
    → plains_of all ≡ with_kids (plains_of own) (trees_of (edges_of es) (row_seen look row)) → made ≡ all → plain_of (Elem name made) ≡ row_tree (edges_of es) (seen look w)
row-tree look es w name own all made row name_is own_is row_is all_is made_is =
    let inside = trees_of (edges_of es) (row_seen look (code.out-Witness w).offers) in
    plain_of-Elem name made
    ∙ ap₂ elem name_is
    (ap plains_of made_is ∙ all_is ∙ ap₂ (λ k os. with_kids (plains_of k) (trees_of (edges_of es) (row_seen look os))) own_is row_is ∙ with_kids-joined no_kids inside)
    ∙ row-opened look (edges_of es) w

-- An item of a list, and those behind it.
pub drop-item : {X : Type 0} (xs : List X) (i : ℕ) (x : X) → i < length xs → x ≡ get_or xs i x → drop i xs ≡ x ∷ drop (i + 1) xs
drop-item xs i x less is = drop_more xs i x less ∙ ap (λ y. y ∷ drop (i + 1) xs) (sym is)

-- The trees of one edge more.
pub offers-turn : (look : ℕ → Plain) (es : List Edge) (i : ℕ) (e : Edge) (left others : List (List code.Witness)) (ws : List code.Witness) (made more whole : Plains)
    → drop i es ≡ e ∷ drop (i + 1) es → left ≡ ws ∷ others
    → more ≡ with_kids made (trees_of_all (pattern_at (out-Edge e).to) (together (map (seen look) ws)))
    → with_kids made (trees_of (edges_of (drop i es)) (row_seen look left)) ≡ whole
    → with_kids more (trees_of (edges_of (drop (i + 1) es)) (row_seen look others)) ≡ whole
offers-turn look es i e left others ws made more whole here left_is more_is before =
    let first = λ (to : PlainPattern). trees_of_all to (together (map (seen look) ws)) in
    let rest = trees_of (edges_of (drop (i + 1) es)) (row_seen look others) in
    ap (λ m. with_kids m rest) (more_is ∙ ap (λ to. with_kids made (first to)) (sym (to-opened e)))
    ∙ sym (with_kids-append made (first (edge_of e).to) rest)
    ∙ ap₂ (λ xs os. with_kids made (trees_of (edges_of xs) (row_seen look os))) (sym here) (sym left_is)
    ∙ before

-- The trees of all naive witnesses are those of the query.
pub naive-trees : (es : PlainEdges) (root : Plain) (rows : List code.Witness) (trees : List Node) → map plain_of trees ≡ trees_by es (map (seen (nth_node root)) rows)
    → map (seen (nth_node root)) rows ≡ rows_of_document es root → map plain_of trees ≡ match_trees es (Some root)
naive-trees es root rows trees are naive = are ∙ ap (trees_by es) naive ∙ map-map (row_tree es) (witness 0 (nth_node root 0)) (naive_witnesses es root)
