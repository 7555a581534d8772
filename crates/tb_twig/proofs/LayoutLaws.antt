-- The first lists and the flat list of edges.
use Rattle.std.proofs.Common.{◌≡◌, ℕ, ◌+◌, ◌<◌, ◌≤◌, true, ◌&&◌, List, [], ◌∷◌, ◌++◌, All, length, map, filter, drop, refl, sym, ap, ap₂, ◌∙◌, subst, arith, rules, append_assoc, length-append}
use Rattle.std.specs.List.{AllByRecursion}
use Rattle.std.proofs.lemmas.List.{map-append, length-map}
use Rattle.std.proofs.lemmas.List.Elements.{All-from_recursion, filter_agree}
use Rattle.tb_tree.specs.Plain.{Plain, one}
use Rattle.tb_tree.specs.Numbers.{count}
use Rattle.tb_tree.specs.Nodes.{node_at}
use Rattle.tb_tree.specs.Meets.{meets}
use Rattle.tb_tree.specs.Value.{value_of}
use Rattle.tb_tree.specs.declared.node_test.Test.{Test}
use Rattle.tb_tree.proofs.lists.Alls.{all-both, all-weaker, all-kept}
use Rattle.tb_tree.proofs.lists.Filters.{filter-fixed}
use Rattle.tb_span.specs.declared.item.Axis.{Axis}
use Rattle.tb_span.specs.declared.item.Item.{Item}
use Rattle.tb_label.specs.Rows.{Row, rows_of, item_of, listed}
use Rattle.tb_label.specs.Comparands.{stands_to}
use Rattle.tb_label.proofs.RowLaws.{length-rows}
use Rattle.tb_number.specs.declared.op.CmpOp.{CmpOp}
use Rattle.tb_pattern.specs.Plain.{PlainPattern, matching, PlainEdges, edge, PlainEdge, nodes_in}
use Rattle.tb_pattern.specs.View.{edge_of, pattern_at, edges_of}
use Rattle.tb_pattern.specs.Conditions.{stands, all_hold}
use Rattle.tb_pattern.specs.declared.cond.Cond.{Cond}
use Rattle.tb_pattern.specs.declared.cond.Literal.{Literal}
use Rattle.tb_pattern.specs.declared.cond.Literal.TheVariants.{Number, Text}
use Rattle.tb_pattern.specs.declared.pattern.Mark.{Mark}
use Rattle.tb_pattern.specs.declared.pattern.Edge.{Edge, out-Edge, the_lemmas}
use Rattle.tb_pattern.specs.declared.pattern.PNode.{PNode, out-PNode}
use Rattle.tb_twig.specs.Branches.{Branch, branch_to, branches, branches_in, inside, below_of, test_of}
use Rattle.tb_twig.specs.Lists.{branch_of, conds_of, holding, first_list, comparand_of, prepared, all_stand}
use Rattle.tb_twig.specs.declared.branch.Branch as code
use Rattle.tb_twig.specs.declared.condition.Condition.{Condition}
use Rattle.tb_twig.proofs.TableLaws.{CountOn, count-later, table-count}
use Rattle.tb_twig.proofs.BuiltLaws.{length-branches}

-- A condition that is prepared says what it said.
stands-prepared : (op : CmpOp) (value : List ℕ) (with : Literal) → stands_to op value (comparand_of with) ≡ stands op value with
stands-prepared op value (Number n) = refl
stands-prepared op value (Text text) = refl

all-prepared : (conds : List Cond) (value : List ℕ) → all_stand (map prepared conds) value ≡ all_hold conds value
all-prepared [] value = refl
all-prepared (c ∷ cs) value = ap₂ (λ a b. a && b) (stands-prepared c.op value c.with) (all-prepared cs value)

pub holding-prepared : (root : Plain) (conds : List Cond) (conditions : List Condition) (items : List Item) → conditions ≡ map prepared conds
    → filter (λ i. all_stand conditions (value_of (node_at root i.node))) items ≡ holding root conds items
holding-prepared root conds conditions items is =
    filter_agree (λ (i : Item). all_stand conditions (value_of (node_at root i.node))) (λ (i : Item). all_hold conds (value_of (node_at root i.node)))
    (λ i. ap (λ cs. all_stand cs (value_of (node_at root i.node))) is ∙ all-prepared conds (value_of (node_at root i.node))) items

-- The test and the conditions of a node of the program.
pub test-node : (p : PNode) → test_of (pattern_at p) ≡ (out-PNode p).test
test-node p = search (rules, the_lemmas)

pub conds-node : (p : PNode) → conds_of (pattern_at p) ≡ (out-PNode p).conds
conds-node p = search (rules, the_lemmas)

pub to-edge : (e : Edge) → (edge_of e).to ≡ pattern_at (out-Edge e).to
to-edge e = search (rules, the_lemmas)

pub axis-edge : (e : Edge) → (edge_of e).axis ≡ (out-Edge e).axis
axis-edge e = search (rules, the_lemmas)

pub list-plain : (root : Plain) (p : PNode) (items : List Item) → (out-PNode p).conds ≡ [] → items ≡ listed (out-PNode p).test root → items ≡ first_list root (pattern_at p)
list-plain root p items none is =
    is ∙ sym (filter-fixed true (listed (out-PNode p).test root))
    ∙ ap₂ (λ conds test. holding root conds (listed test root)) (sym (conds-node p ∙ none)) (sym (test-node p))

pub list-kept : (root : Plain) (p : PNode) (items kept : List Item) → items ≡ listed (out-PNode p).test root → kept ≡ holding root (out-PNode p).conds items → kept ≡ first_list root (pattern_at p)
list-kept root p items kept is kept-is =
    kept-is ∙ ap (holding root (out-PNode p).conds) is ∙ ap₂ (λ conds test. holding root conds (listed test root)) (sym (conds-node p)) (sym (test-node p))

-- All numbers of a list are those of nodes.
count-before : (n : ℕ) (rs : List Row) → CountOn n rs → AllByRecursion (λ r. r.number < n + length rs) rs
count-before n [] count = tt
count-before n (r ∷ rs) count =
    (omega (arith, count.0), all-weaker (λ s. s.number < n + 1 + length rs) (λ s. s.number < n + length (r ∷ rs)) rs (λ s less. omega (arith, less)) (count-before (n + 1) rs count.1))

pub listed-within : (test : Test) (root : Plain) → All (λ i. (1 ≤ i.node) × (i.node ≤ count root)) (listed test root)
listed-within test root =
    All-from_recursion (λ (i : Item). (1 ≤ i.node) × (i.node ≤ count root)) (listed test root)
    (all-kept (λ (r : Row). (1 ≤ r.number) × (r.number < 1 + length (rows_of root))) (λ (i : Item). (1 ≤ i.node) × (i.node ≤ count root)) item_of (λ r. meets test r.node) (rows_of root)
    (λ r k. (k.0, omega (arith, k.1, length-rows 2 1 0 [] 0 (one root))))
    (all-both (λ (r : Row). 1 ≤ r.number) (λ (r : Row). r.number < 1 + length (rows_of root)) (rows_of root) (count-later 1 (rows_of root) (table-count root).1) (count-before 1 (rows_of root) (table-count root).1)))

pub within-list : (test : Test) (root root' : Plain) (items : List Item) → root' ≡ root → items ≡ listed test root → All (λ i. (1 ≤ i.node) × (i.node ≤ count root')) items
within-list test root root' items same is =
    subst (λ xs. All (λ i. (1 ≤ i.node) × (i.node ≤ count root')) xs) (sym is) (subst (λ r. All (λ i. (1 ≤ i.node) × (i.node ≤ count r)) (listed test root)) (sym same) (listed-within test root))

-- One edge more, and all below it.
branches-first : (up n : ℕ) (axis : Axis) (mark : Mark) (to : PlainPattern) (others : PlainEdges)
    → branches up n (edge axis mark to others)
    ≡ record { up = up; axis = axis; mark = mark; to = to } ∷ (branches (n + 1) (n + 1) (inside to) ++ branches up (n + 1 + nodes_in (inside to)) others)
branches-first up n axis mark (matching test conds whole below) others = refl

-- an edge and all below it, and then the others
lay-turn : {X : Type 0} (f : Branch → X) (up n next : ℕ) (e : PlainEdge) (others : PlainEdges) (before after : List X)
    → after ≡ before ++ map f (branches_in up n e) → next ≡ n + 1 + nodes_in (below_of e)
    → after ++ map f (branches up next others) ≡ before ++ map f (branches up n (edge e.axis e.mark e.to others))
lay-turn f up n next e others before after after-is next-is =
    let rest = branches up (n + 1 + nodes_in (below_of e)) others in
    ap₂ (λ xs k. xs ++ map f (branches up k others)) after-is next-is
    ∙ append_assoc before (map f (branches_in up n e)) (map f rest)
    ∙ ap (λ xs. before ++ xs) (sym (map-append f (branches_in up n e) rest))
    ∙ ap (λ bs. before ++ map f bs) (sym (branches-first up n e.axis e.mark e.to others))

pub lay-next : {X : Type 0} (f : Branch → X) (up n next i : ℕ) (es : List Edge) (e : Edge) (before after whole : List X)
    → drop i es ≡ e ∷ drop (i + 1) es → after ≡ before ++ map f (branches_in up n (edge_of e)) → next ≡ n + 1 + nodes_in (below_of (edge_of e))
    → before ++ map f (branches up n (edges_of (drop i es))) ≡ whole → after ++ map f (branches up next (edges_of (drop (i + 1) es))) ≡ whole
lay-next f up n next i es e before after whole here after-is next-is so_far =
    lay-turn f up n next (edge_of e) (edges_of (drop (i + 1) es)) before after after-is next-is
    ∙ ap (λ xs. before ++ map f (branches up n (edges_of xs))) (sym here) ∙ so_far

-- an edge, and then those below it
pub lay-inner : {X : Type 0} (f : Branch → X) (up n lower first : ℕ) (e : PlainEdge) (before mid after : List X)
    → mid ≡ before ++ f (branch_to up e) ∷ [] → after ≡ mid ++ map f (branches lower first (below_of e)) → lower ≡ n + 1 → first ≡ n + 1
    → after ≡ before ++ map f (branches_in up n e)
lay-inner f up n lower first e before mid after mid-is after-is lower-is first-is =
    after-is ∙ ap₂ (λ xs ys. xs ++ ys) mid-is (ap₂ (λ a b. map f (branches a b (below_of e))) lower-is first-is)
    ∙ append_assoc before (f (branch_to up e) ∷ []) (map f (branches (n + 1) (n + 1) (below_of e)))

pub laid-length : (before after : List code.Branch) (up n : ℕ) (e : PlainEdge) → after ≡ before ++ map branch_of (branches_in up n e) → length after ≡ length before + 1 + nodes_in (below_of e)
laid-length before after up n e after-is =
    omega (
      arith,
      ap length after-is,
      length-append before (map branch_of (branches_in up n e)),
      length-map (branches (n + 1) (n + 1) (below_of e)) branch_of,
      length-branches (n + 1) (n + 1) (below_of e),
    )
