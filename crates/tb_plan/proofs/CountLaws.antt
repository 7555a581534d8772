-- How many edges a list has, from the first edge on.
use Rattle.std.proofs.Common.{◌≡◌, ℕ, ◌+◌, ◌<◌, ◌≤◌, List, ◌∷◌, length, get_or, drop, map, Ok, refl, sym, ap, ◌∙◌, arith, length-append, rules}
use Rattle.std.proofs.lemmas.List.{at_drop_more}
use Rattle.tb_token.specs.grammar.Grammar.{Tok}
use Rattle.tb_pattern.specs.Plain.{PlainEdges, no_edges, edge, matching, edges, numbered_edges, nodes_in}
use Rattle.tb_pattern.specs.Calls.{Reads}
use Rattle.tb_pattern.specs.View.{edge_of, pattern_at, edges_of}
use Rattle.tb_pattern.specs.declared.pattern.Edge.{Edge, out-Edge, the_lemmas}
use Rattle.tb_pattern.specs.declared.pattern.PNode.{PNode, out-PNode}
use Rattle.tb_pattern.specs.declared.pattern.Pattern.{Pattern}
use Rattle.tb_pattern.proofs.TestLaws.{tests-nodes}
use Rattle.tb_plan.specs.Orders.{edge_count}

edge_of-out : (e : Edge) → edge_of e ≡ record { axis = (out-Edge e).axis; mark = (out-Edge e).mark; to = pattern_at (out-Edge e).to }
edge_of-out e = search (rules, the_lemmas)

pattern_at-out : (p : PNode) → pattern_at p ≡ matching (out-PNode p).test (out-PNode p).conds (out-PNode p).whole (edges_of (out-PNode p).edges)
pattern_at-out p = search (rules, the_lemmas)

-- the first edge, those below it, and those behind it
count-cons : (e : Edge) (es : List Edge) → edge_count (edges_of (e ∷ es)) ≡ 1 + edge_count (edges_of (out-PNode (out-Edge e).to).edges) + edge_count (edges_of es)
count-cons e es =
    let o = out-Edge e in
    let p = out-PNode o.to in
    let below = edges_of p.edges in
    let behind = edges_of es in
    let both = length-append (numbered_edges below) (numbered_edges behind) in
    ap (λ w. edge_count (edges (w ∷ map edge_of es))) (edge_of-out e)
    ∙ ap (λ q. edge_count (edge o.axis o.mark q behind)) (pattern_at-out o.to)
    ∙ omega (arith, both)

-- the edge at a place of a list, the n edges below it, and what is left behind it
pub count-step : (es : List Edge) (i : ℕ) (e : Edge) (below : List Edge) (n : ℕ) → i < length es → e ≡ get_or es i e
    → below ≡ (out-PNode (out-Edge e).to).edges → n ≡ edge_count (edges_of below)
    → edge_count (edges_of (drop i es)) ≡ 1 + n + edge_count (edges_of (drop (i + 1) es))
count-step es i e below n within is under counted =
    let first = at_drop_more (λ xs. edge_count (edges_of xs)) es i e within in
    let named = ap (λ x. edge_count (edges_of (x ∷ drop (i + 1) es))) (sym is) in
    let inside = counted ∙ ap (λ xs. edge_count (edges_of xs)) under in
    omega (arith, first, named, count-cons e (drop (i + 1) es), inside)

-- each edge leads to one node
pub count-nodes : (es : PlainEdges) → edge_count es ≡ nodes_in es
count-nodes no_edges = refl
count-nodes (edge axis mark (matching test conds whole below) others) =
    omega (arith, length-append (numbered_edges below) (numbered_edges others), count-nodes below, count-nodes others)

-- a pattern that was read has at most 64 edges
pub read-few : (s : List Tok) (p : Pattern) → Reads s (Ok p) → edge_count (edges_of p.edges) ≤ 64
read-few s p read = omega (arith, count-nodes (edges_of p.edges), tests-nodes s p.document (edges_of p.edges) read.1, read.0.few)
