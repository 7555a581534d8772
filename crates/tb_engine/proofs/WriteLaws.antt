-- The steps by which trees are written, one after the other.
use Rattle.std.proofs.Common.{◌≡◌, ℕ, ◌+◌, ◌-◌, ◌^◌, ◌<◌, ◌≤◌, min, Bool, List, [], ◌∷◌, ◌++◌, Some, length, take, drop, get_or, map, flat_map, refl, sym, ap, ap₂, ◌∙◌, arith}
use Rattle.std.proofs.lemmas.List.{drop_more, drop_all, take_all}
use Rattle.std.proofs.lemmas.List.Concat.{flat_map-append}
use Rattle.tb_tree.specs.Plain.{Plain, kid, plains, joined_kids}
use Rattle.tb_tree.specs.Pages.{Page, with_nodes}
use Rattle.tb_tree.proofs.PageLaws.{nodes-append}
use Rattle.tb_tree.proofs.lists.Maps.{map-flat_map}
use Rattle.tb_span.specs.declared.item.Axis.{Axis}
use Rattle.tb_pattern.specs.Plain.{PlainPattern, matching, PlainEdges, edge, PlainEdge, nodes_in}
use Rattle.tb_pattern.specs.View.{edges_of, edge_of}
use Rattle.tb_pattern.specs.declared.pattern.Mark.{Mark}
use Rattle.tb_pattern.specs.declared.pattern.Edge.{Edge}
use Rattle.tb_twig.specs.Branches.{below_of, inside}
use Rattle.tb_twig.specs.declared.branch.Branch.{Branch}
use Rattle.tb_twig.specs.declared.link.Link.{Link}
use Rattle.tb_engine.specs.Told.{Told, with_tree, with_trees}
use Rattle.tb_engine.specs.Choices.{Choice, blanks, choices, chosen_at, rows_by}
use Rattle.tb_engine.specs.Shown.{Ground, by_mark, content_by, tree_by, trees_at, stem_tree, stem_trees, trees_from, chosen_trees, group_trees}
use Rattle.tb_engine.specs.declared.ground.Stem as stems

-- Trees behind trees.
pub trees-append : (t : Told) (a b : List Plain) → with_trees t (a ++ b) ≡ with_trees (with_trees t a) b
trees-append t [] b = refl
trees-append t (x ∷ a) b = trees-append (with_tree t x) a b

pub page-trees : (t : Told) (ts : List Plain) → (with_trees t ts).page ≡ with_nodes t.page (plains ts)
page-trees t [] = refl
page-trees t (x ∷ ts) = page-trees (with_tree t x) ts

pub count-trees : (t : Told) (ts : List Plain) → t.trees ≤ 2 ^ 64 - 1 → (with_trees t ts).trees ≡ min (t.trees + length ts) (2 ^ 64 - 1)
count-trees t [] few = omega (arith, few)
count-trees t (x ∷ ts) few = count-trees (with_tree t x) ts (omega arith) ∙ (let g : min (min (t.trees + 1) (2 ^ 64 - 1) + length ts) (2 ^ 64 - 1) ≡ min (t.trees + (1 + length ts)) (2 ^ 64 - 1) = omega (arith, few) in g) ∙ ap (λ n. min (t.trees + n) (2 ^ 64 - 1)) (let g : 1 + length ts ≡ length (x ∷ ts) = omega arith in g)

plains-append : (a b : List Plain) → plains (a ++ b) ≡ joined_kids (plains a) (plains b)
plains-append [] b = refl
plains-append (x ∷ a) b = ap (kid x) (plains-append a b)

-- One link more of those that may be chosen.
pub run-turn : (T : Choice → List Plain) (links : List Link) (i : ℕ) (d : Link) (t more whole : Told) → i < length links
    → more ≡ with_trees t (T (Some (get_or links i d).below)) → with_trees t (flat_map T (map Some (map (λ l. l.below) (drop i links)))) ≡ whole
    → with_trees more (flat_map T (map Some (map (λ l. l.below) (drop (i + 1) links)))) ≡ whole
run-turn T links i d t more whole less step before =
    ap (λ s. with_trees s (flat_map T (map Some (map (λ (l : Link). l.below) (drop (i + 1) links))))) step
    ∙ sym (trees-append t (T (Some (get_or links i d).below)) (flat_map T (map Some (map (λ (l : Link). l.below) (drop (i + 1) links)))))
    ∙ ap (λ ls. with_trees t (flat_map T (map Some (map (λ (l : Link). l.below) ls)))) (sym (drop_more links i d less))
    ∙ before

pub run-end : (T : Choice → List Plain) (links : List Link) (i : ℕ) (t whole : Told) → length links ≤ i
    → with_trees t (flat_map T (map Some (map (λ l. l.below) (drop i links)))) ≡ whole → t ≡ whole
run-end T links i t whole past before = ap (λ ls. with_trees t (flat_map T (map Some (map (λ (l : Link). l.below) ls)))) (sym (drop_all i links past)) ∙ before

-- None, where it may be chosen, and then each link: all that may be.
pub rows-written : (g : Ground) (s : stems.Stem) (rung : Branch) (rungs rest : List Branch) (f : ℕ) (chosen : List Choice) (blank : Bool) (links : List Link) (t blanked whole : Told)
    → rungs ≡ rung ∷ rest
    → blanks blank ++ map Some (map (λ l. l.below) links) ≡ choices rung.mark (g.run f) (chosen_at chosen (rung.up - s.place))
    → blanked ≡ with_trees t (flat_map (λ c. trees_from g s rest (f + 1) (chosen ++ c ∷ [])) (blanks blank))
    → whole ≡ with_trees blanked (flat_map (λ c. trees_from g s rest (f + 1) (chosen ++ c ∷ [])) (map Some (map (λ l. l.below) links)))
    → whole ≡ with_trees t (trees_from g s rungs f chosen)
rows-written g s rung rungs rest f chosen blank links t blanked whole rungs_are offered first all =
    let T = λ (c : Choice). trees_from g s rest (f + 1) (chosen ++ c ∷ []) in
    all
    ∙ ap (λ b. with_trees b (flat_map T (map Some (map (λ (l : Link). l.below) links)))) first
    ∙ sym (trees-append t (flat_map T (blanks blank)) (flat_map T (map Some (map (λ (l : Link). l.below) links))))
    ∙ ap (with_trees t) (sym (flat_map-append T (blanks blank) (map Some (map (λ (l : Link). l.below) links)))
    ∙ ap (flat_map T) offered
    ∙ sym (map-flat_map (λ r. stem_tree g s (drop 1 r)) (λ c. rows_by g.run s.place rest (f + 1) (chosen ++ c ∷ [])) (choices rung.mark (g.run f) (chosen_at chosen (rung.up - s.place))))
    ∙ ap (λ rs. trees_from g s rs f chosen) (sym rungs_are))

-- One link more of those that stand together.
pub group-turn : (T : ℕ → List Plain) (links : List Link) (i : ℕ) (d : Link) (p more whole : Page) → i < length links
    → more ≡ with_nodes p (plains (T (get_or links i d).below)) → with_nodes p (plains (flat_map T (map (λ l. l.below) (drop i links)))) ≡ whole
    → with_nodes more (plains (flat_map T (map (λ l. l.below) (drop (i + 1) links)))) ≡ whole
group-turn T links i d p more whole less step before =
    let rest = flat_map T (map (λ (l : Link). l.below) (drop (i + 1) links)) in
    ap (λ q. with_nodes q (plains rest)) step
    ∙ sym (nodes-append p (plains (T (get_or links i d).below)) (plains rest))
    ∙ ap (with_nodes p) (sym (plains-append (T (get_or links i d).below) rest))
    ∙ ap (λ ls. with_nodes p (plains (flat_map T (map (λ (l : Link). l.below) ls)))) (sym (drop_more links i d less))
    ∙ before

pub group-end : (T : ℕ → List Plain) (links : List Link) (i : ℕ) (p whole : Page) → length links ≤ i
    → with_nodes p (plains (flat_map T (map (λ l. l.below) (drop i links)))) ≡ whole → p ≡ whole
group-end T links i p whole past before = ap (λ ls. with_nodes p (plains (flat_map T (map (λ (l : Link). l.below) ls)))) (sym (drop_all i links past)) ∙ before

-- The first edge's trees, and the others'.
content-first : (g : Ground) (at n : ℕ) (e : PlainEdge) (others : PlainEdges) (row : List Choice)
    → content_by g at (edge e.axis e.mark e.to others) n row
    ≡ joined_kids (by_mark e.mark (chosen_trees g at e.to row) (group_trees g at e.to n)) (content_by g (at + 1 + nodes_in (below_of e)) others n (drop (1 + nodes_in (below_of e)) row))
content-first g at n e others row = opened e.axis e.mark e.to
  where
    opened : (axis : Axis) (mark : Mark) (to : PlainPattern) → content_by g at (edge axis mark to others) n row
        ≡ joined_kids (by_mark mark (chosen_trees g at to row) (group_trees g at to n)) (content_by g (at + 1 + nodes_in (inside to)) others n (drop (1 + nodes_in (inside to)) row))
    opened axis mark (matching test conds whole below) = refl

pub edge-turn : (g : Ground) (at size n i : ℕ) (es : List Edge) (e : Edge) (left rest : List Choice) (p more whole : Page) → drop i es ≡ e ∷ drop (i + 1) es
    → size ≡ nodes_in (below_of (edge_of e)) → rest ≡ drop (1 + size) left
    → more ≡ with_nodes p (by_mark (edge_of e).mark (chosen_trees g at (edge_of e).to left) (group_trees g at (edge_of e).to n))
    → with_nodes p (content_by g at (edges_of (drop i es)) n left) ≡ whole
    → with_nodes more (content_by g (at + 1 + size) (edges_of (drop (i + 1) es)) n rest) ≡ whole
edge-turn g at size n i es e left rest p more whole here size_is rest_is step before =
    let others = edges_of (drop (i + 1) es) in
    let first = by_mark (edge_of e).mark (chosen_trees g at (edge_of e).to left) (group_trees g at (edge_of e).to n) in
    ap₂ (λ q r. with_nodes q (content_by g (at + 1 + size) others n r)) step rest_is
    ∙ ap (λ k. with_nodes (with_nodes p first) (content_by g (at + 1 + k) others n (drop (1 + k) left))) size_is
    ∙ sym (nodes-append p first (content_by g (at + 1 + nodes_in (below_of (edge_of e))) others n (drop (1 + nodes_in (below_of (edge_of e))) left)))
    ∙ ap (with_nodes p) (sym (content-first g at n (edge_of e) others left) ∙ ap (λ xs. content_by g at (edges_of xs) n left) (sym here))
    ∙ before

pub edges-end : (g : Ground) (at n i : ℕ) (es : List Edge) (left : List Choice) (p whole : Page) → length es ≤ i → with_nodes p (content_by g at (edges_of (drop i es)) n left) ≡ whole → p ≡ whole
edges-end g at n i es left p whole past before = ap (λ xs. with_nodes p (content_by g at (edges_of xs) n left)) (sym (drop_all i es past)) ∙ before

-- The first edge that is left, and the others.
pub list-opened : {X : Type 0} (xs : List X) (d : X) → 1 ≤ length xs → xs ≡ get_or xs 0 d ∷ take (length xs - 1) (drop 1 xs)
list-opened [] d some = absurd (omega (arith, some))
list-opened (x ∷ xs) d some = ap (λ ys. x ∷ ys) (sym (take_all (length (x ∷ xs) - 1) xs (omega arith)))

-- The trees of a node by the pattern node that it met.
pub stem-is : (g : Ground) (s : stems.Stem) (b : ℕ) (whole : Bool) (es : PlainEdges) (v : ℕ) → s.place ≡ b → s.whole ≡ whole → edges_of s.edges.now ≡ es → s.node ≡ v
    → stem_trees g s ≡ trees_at g b whole es v
stem-is g s b whole es v place_is whole_is edges_are node_is =
    ap₂ (λ k w. trees_at g k w (edges_of s.edges.now) s.node) place_is whole_is ∙ ap₂ (λ es n. trees_at g b whole es n) edges_are node_is

pub stem_tree-is : (g : Ground) (s : stems.Stem) (b : ℕ) (whole : Bool) (es : PlainEdges) (v : ℕ) (row : List Choice) → s.place ≡ b → s.whole ≡ whole → edges_of s.edges.now ≡ es → s.node ≡ v
    → stem_tree g s row ≡ tree_by g b whole es v row
stem_tree-is g s b whole es v row place_is whole_is edges_are node_is =
    ap₂ (λ k w. tree_by g k w (edges_of s.edges.now) s.node row) place_is whole_is ∙ ap₂ (λ es n. tree_by g b whole es n row) edges_are node_is
