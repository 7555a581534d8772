-- The text of all witnesses, and how many there are.
use Rattle.std.proofs.Common.{◌≡◌, ℕ, ◌+◌, ◌-◌, ◌^◌, ◌<◌, ◌≤◌, ◌⊎◌, inl, inr, false, nat_eq, min, List, [], ◌∷◌, ◌++◌, All, length, get_or, map, flat_map, codes, refl, sym, ap, ap₂, ◌∙◌, subst, arith, append_assoc, append-nil, length-append, Vec, Global}
use Rattle.std.specs.List.{AllByRecursion}
use Rattle.std.proofs.lemmas.Bool.{cond-false, ne_eqb, cases_lt}
use Rattle.std.proofs.lemmas.List.{length-map, get_or-map, get_or_past}
use Rattle.std.proofs.lemmas.List.Elements.{recursion_from_All}
use Rattle.tb_tree.specs.Plain.{Plain, elem, no_kids, one, plains}
use Rattle.tb_tree.specs.Nodes.{node_at}
use Rattle.tb_tree.specs.Printed.{printed_node, attribute_lines, start_line, end_line, content_lines}
use Rattle.tb_tree.specs.Pages.{Page, page, whole_lines, with_nodes}
use Rattle.tb_pattern.specs.Plain.{PlainEdges}
use Rattle.tb_pattern.specs.Witness.{Offers}
use Rattle.tb_pattern.specs.WitnessTree.{texts_joined, trees_of, witness_tree}
use Rattle.tb_query.specs.Answer.{counted}
use Rattle.tb_twig.specs.Branches.{branches_of}
use Rattle.tb_twig.specs.Lists.{branch_of}
use Rattle.tb_twig.specs.Links.{lists_in, links_at, built_by}
use Rattle.tb_twig.specs.Seen.{nth_node}
use Rattle.tb_twig.specs.Trimmed.{AreTrimmed}
use Rattle.tb_twig.specs.declared.branch.Branch.{Branch}
use Rattle.tb_twig.specs.declared.link.Link.{Link}
use Rattle.tb_engine.specs.Told.{told, with_trees}
use Rattle.tb_engine.specs.Shown.{ground, looked, trees_at}
use Rattle.tb_engine.proofs.FullLaws.{full-trimmed}
use Rattle.tb_engine.proofs.TreeLaws.{witnesses-built}
use Rattle.tb_engine.proofs.WriteLaws.{page-trees, count-trees}

trees-printed : (b : List ℕ) (es : PlainEdges) (os : List Offers)
    → whole_lines (with_nodes (page b false) (plains (map (witness_tree es) os))) ≡ b ++ flat_map printed_node (map (witness_tree es) os)
trees-printed b es [] = refl
trees-printed b es (o ∷ os) =
    let lines = printed_node (witness_tree es o) in
    let rest = flat_map printed_node (map (witness_tree es) os) in
    trees-printed ((b ++ []) ++ lines) es os ∙ ap (λ l. (l ++ lines) ++ rest) (append-nil b) ∙ append_assoc b lines rest

-- each tree has a byte
trees-few : (es : PlainEdges) (os : List Offers) → length (map (witness_tree es) os) ≤ length (flat_map printed_node (map (witness_tree es) os))
trees-few es [] = omega arith
trees-few es (o ∷ os) =
    let kids = texts_joined (trees_of es o) in
    let name = codes "witness" in
    let before = (attribute_lines kids ++ start_line name) ++ content_lines kids in
    omega (
      arith,
      trees-few es os,
      length-append (printed_node (witness_tree es o)) (flat_map printed_node (map (witness_tree es) os)),
      length-append before (end_line name),
      (let g : 1 ≤ length (end_line name) = omega (arith, length-append name (10 ∷ [])) in g),
    )

-- What was written and counted.
pub text-counted : (es : PlainEdges) (os : List Offers) (ts : List Plain) (p : Page) (trees : ℕ) (out : List ℕ)
    → ts ≡ map (witness_tree es) os → told p trees ≡ with_trees (told (page [] false) 0) ts → out ≡ whole_lines p → length out < 2 ^ 64
    → (trees, out) ≡ counted (map (witness_tree es) os)
text-counted es os ts p trees out ts_are written out_is few =
    let all = map (witness_tree es) os in
    let text : out ≡ flat_map printed_node all =
    out_is ∙ ap whole_lines (ap (λ t. t.page) written ∙ page-trees (told (page [] false) 0) ts ∙ ap (λ l. with_nodes (page [] false) (plains l)) ts_are) ∙ trees-printed [] es os in
    let count : trees ≡ min (0 + length all) (2 ^ 64 - 1) =
    ap (λ t. t.trees) written ∙ count-trees (told (page [] false) 0) ts (omega arith) ∙ ap (λ l. min (0 + length l) (2 ^ 64 - 1)) ts_are in
    ap₂ (λ n l. (n, l)) (omega (arith, count, few, ap length text, trees-few es os)) text

-- where there is no row there is no text
pub none-counted : (es : PlainEdges) (os : List Offers) → os ≡ [] → (0, []) ≡ counted (map (witness_tree es) os)
none-counted es os none = sym (ap (λ l. counted (map (witness_tree es) l)) none)

links-first : (links : List (Vec Link Global)) → 0 < length links → Vec Link Global
links-first [] some = absurd (omega (arith, some))
links-first (ls ∷ links) some = ls

later-at : (links : List (Vec Link Global)) → All (λ ls. All (λ link. 1 ≤ link.below) ls.items) links → (f : ℕ) → AllByRecursion (λ l. 1 ≤ l.below) (get_or (lists_in links) f [])
later-at links later f = at (cases_lt f (length links))
  where
    at : (f < length links) ⊎ (length links ≤ f) → AllByRecursion (λ (l : Link). 1 ≤ l.below) (get_or (lists_in links) f [])
    at (inl less) =
        let d : Vec Link Global = get_or links f (links-first links (omega (arith, less))) in
        subst (AllByRecursion (λ (l : Link). 1 ≤ l.below)) (sym (get_or-map (λ (v : Vec Link Global). v.items) links f d [] less)) (recursion_from_All (λ (l : Link). 1 ≤ l.below) (get_or links f d).items (later f d less))
    at (inr past) = subst (AllByRecursion (λ (l : Link). 1 ≤ l.below)) (sym (get_or_past (lists_in links) f [] (omega (arith, past, length-map links (λ (v : Vec Link Global). v.items))))) tt

alike : (root : Plain) (m : ℕ) → 1 ≤ m → looked root m ≡ nth_node root m
alike root m some =
    let never = ne_eqb m 0 (λ g. omega (arith, some, g)) in
    cond-false (nat_eq m 0) (elem (codes "witness") no_kids) (node_at root m) never ∙ sym (cond-false (nat_eq m 0) (elem [] (one root)) (node_at root m) never)

-- The trees that are written are those of the witnesses.
pub trees-are : (root : Plain) (es : PlainEdges) (laid : List Branch) (links : List (Vec Link Global)) → laid ≡ map branch_of (branches_of es)
    → All (λ ls. All (λ link. 1 ≤ link.below) ls.items) links → AreTrimmed laid (lists_in links)
    → trees_at (ground (lists_in links) root laid) 0 false es 0 ≡ map (witness_tree es) (built_by (nth_node root) (links_at links) 0 es 0)
trees-are root es laid links laid_are later trimmed =
    witnesses-built (λ f. get_or (lists_in links) f []) (nth_node root) (looked root) (alike root) laid es (full-trimmed es laid (lists_in links) laid_are trimmed (later-at links later)) laid_are refl
