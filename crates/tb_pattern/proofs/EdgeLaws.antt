-- Edges are built by their parts.
use Rattle.std.proofs.Common.{◌≡◌, ℕ, Bool, true, false, ◌≤◌, List, [], ◌∷◌, ◌++◌, length, drop, refl, sym, ap, ◌∙◌, arith, length-drop}
use Rattle.std.specs.Prelude.{codes}
use Rattle.tb_token.specs.grammar.Grammar.{Tok, Expression, both, maybe, many}
use Rattle.tb_token.specs.grammar.Sentences.{Tree, nothing, pair}
use Rattle.tb_token.specs.grammar.Terminals.{sign, comma}
use Rattle.tb_token.specs.grammar.Patterns.{axis, mark, test, conds, edges, edge, edges_rest}
use Rattle.tb_token.specs.tokens.TerminalNames as terminals
use Rattle.tb_tree.specs.declared.node_test.Test.{Test}
use Rattle.tb_pattern.specs.Plain.{PlainEdges, no_edges}
use Rattle.tb_pattern.specs.Value.{is_there, axis_of, mark_of, edges_from, more_edges_in, edges_behind, edges_in}
use Rattle.tb_pattern.specs.View.{edge_of, edges_of}
use Rattle.tb_pattern.specs.Building.{next, Next, begins, Builds}
use Rattle.tb_pattern.specs.BuiltParts.{IsTest, AreConds, put, IsEdge, bang, IsWhole, edges_before, AreEdges, AreBelow}
use Rattle.tb_pattern.specs.declared.cond.Cond.{Cond}
use Rattle.tb_pattern.specs.declared.pattern.Edge.{Edge, roll-Edge}
use Rattle.tb_pattern.specs.declared.pattern.PNode.{PNode, roll-PNode}
use Rattle.tb_pattern.proofs.Views.{edge_of-Edge, pattern_at-PNode}
use Rattle.tb_pattern.proofs.BuildingLaws.{false-true, one-builds, Both, both-builds, builds-as, put_in-builds, left_out-builds, Opened, rule-builds}
use Rattle.tb_pattern.proofs.RunLaws.{SoFar, Adds, AddsAll, far-start, far-next, run-end, behind-builds}

abbrev bang_terminal : List ℕ
bang_terminal = terminals.BANG ∷ []

pub whole-there : (s : List Tok) → begins bang_terminal s ≡ true → Builds (maybe bang) (IsWhole true) s (drop 1 s)
whole-there [] e = false-true e
whole-there (t ∷ u) e =
    put_in-builds bang (IsWhole true) (t ∷ u) u e (builds-as bang (Next (t ∷ u)) (IsWhole true) (t ∷ u) u (λ v f. ap is_there f) (one-builds bang_terminal (t ∷ u)))

pub whole-none : (s : List Tok) → begins bang_terminal s ≡ false → Builds (maybe bang) (IsWhole false) s s
whole-none s e = builds-as (maybe bang) (λ v. v ≡ nothing) (IsWhole false) s s (λ v f. ap is_there f) (left_out-builds bang s e)

-- An edge, part by part.

module _ (s t_left c_left w_left left : List Tok) (is_test : Test) (are_conds : List Cond) (is_whole : Bool) (are_below : List Edge) where
  abbrev node : PNode
  node = roll-PNode (record { test = is_test; conds = are_conds; whole = is_whole; edges = are_below })

  abbrev built : Edge
  built = roll-Edge (record { axis = axis_of (next s); mark = mark_of (next (drop 1 s)); to = node })

  abbrev Whole : Tree → Type 0
  Whole = Both (IsWhole is_whole) (AreBelow are_below)

  abbrev Conds : Tree → Type 0
  Conds = Both (AreConds are_conds) Whole

  abbrev Tests : Tree → Type 0
  Tests = Both (IsTest is_test) Conds

  abbrev Marks : Tree → Type 0
  Marks = Both (Next (drop 1 s)) Tests

  edge-is : (v : Tree) → Both (Next s) Marks v → IsEdge built v
  edge-is v b behind =
      let m = b.two_is in
      let t = m.two_is in
      let c = t.two_is in
      let w = c.two_is in
      ap (λ x. edges_from x behind)
      (b.pair_is ∙ ap (λ x. pair b.one x)
      (m.pair_is ∙ ap (λ x. pair m.one x)
      (t.pair_is ∙ ap (λ x. pair t.one x)
      (c.pair_is ∙ ap (λ x. pair c.one x) w.pair_is))))
      ∙ rw (b.one_is, m.one_is, t.one_is, c.one_is, w.one_is, ← w.two_is, edge_of-Edge (axis_of (next s)) (mark_of (next (drop 1 s))) node, pattern_at-PNode is_test are_conds is_whole are_below) refl

  pub edge-builds : Builds test (IsTest is_test) (drop 1 (drop 1 s)) t_left → Builds (maybe conds) (AreConds are_conds) t_left c_left
      → Builds (maybe bang) (IsWhole is_whole) c_left w_left → Builds (maybe edges) (AreBelow are_below) w_left left → Builds edge (IsEdge built) s left
  edge-builds t_is c_is w_is b_is =
      builds-as edge (Both (Next s) Marks) (IsEdge built) s left edge-is
      (both-builds axis (both mark (both test (both (maybe conds) (both (maybe bang) (maybe edges))))) (Next s) Marks s (drop 1 s) left (one-builds terminals.AXES s)
      (both-builds mark (both test (both (maybe conds) (both (maybe bang) (maybe edges)))) (Next (drop 1 s)) Tests (drop 1 s) (drop 1 (drop 1 s)) left (one-builds terminals.MARKS (drop 1 s))
      (both-builds test (both (maybe conds) (both (maybe bang) (maybe edges))) (IsTest is_test) Conds (drop 1 (drop 1 s)) t_left left t_is
      (both-builds (maybe conds) (both (maybe bang) (maybe edges)) (AreConds are_conds) Whole t_left c_left left c_is
      (both-builds (maybe bang) (maybe edges) (IsWhole is_whole) (AreBelow are_below) c_left w_left left w_is b_is)))))

-- Lists of edges.

before-next : (found : List Edge) (e : Edge) (behind : PlainEdges) → edges_before found (put (edge_of e) behind) ≡ edges_before (found ++ e ∷ []) behind
before-next [] e behind = refl
before-next (f ∷ fs) e behind = ap (λ es. put (edge_of f) es) (before-next fs e behind)

before-all : (found : List Edge) → edges_before found no_edges ≡ edges_of found
before-all [] = refl
before-all (f ∷ fs) = ap (λ es. put (edge_of f) es) (before-all fs)

abbrev comma_terminal : List ℕ
comma_terminal = terminals.COMMA ∷ []

abbrev other_edge : Expression
other_edge = both comma edge

-- so much of the list is built: an edge, and others behind it
pub record EdgesSoFar (found : List Edge) (s left : List Tok) : Type 0 where
  pub first : Edge
  pub mid : List Tok
  pub one : Builds edge (IsEdge first) s mid
  pub others : SoFar other_edge edges_before more_edges_in (first ∷ []) found mid left
  pub shorter : length left ≤ length s

pub edges-first : (e : Edge) (s left : List Tok) → Builds edge (IsEdge e) s left → length left ≤ length s → EdgesSoFar (e ∷ []) s left
edges-first e s left is shorter =
    record { first = e; mid = left; one = is; others = far-start other_edge edges_before more_edges_in (e ∷ []) left; shorter = shorter }

pub edges-next : (found : List Edge) (e : Edge) (s mid left : List Tok) → begins comma_terminal mid ≡ true → EdgesSoFar found s mid → Builds edge (IsEdge e) (drop 1 mid) left
    → length left ≤ length (drop 1 mid) → EdgesSoFar (found ++ e ∷ []) s left
edges-next found e s mid left is_comma so_far is shorter = record {
  first = so_far.first;
  mid = so_far.mid;
  one = so_far.one;
  others = far-next other_edge edges_before more_edges_in (so_far.first ∷ []) found (found ++ e ∷ []) so_far.mid mid left refl is_comma so_far.others
      (behind-builds comma_terminal edge (IsEdge e) (Adds other_edge edges_before more_edges_in found (found ++ e ∷ [])) mid left
      (λ a v g w. ap (edges_before found) (g (more_edges_in w)) ∙ before-next found e (more_edges_in w)) is)
      (omega (arith, length-drop 1 mid));
  shorter = let before = so_far.shorter in omega (arith, length-drop 1 mid);
}

abbrev closing : List ℕ
closing = terminals.CLOSE ∷ []

abbrev inner : Expression
inner = both edge (many other_edge)

pub edges-end : (found : List Edge) (s left : List Tok) → begins comma_terminal left ≡ false → EdgesSoFar found s left → Builds edges_rest (AreEdges found) s (drop 1 left)
edges-end found s left e so_far =
    let All : Tree → Type 0 = AddsAll other_edge edges_before more_edges_in (so_far.first ∷ []) found in
    let Listed : Tree → Type 0 = Both (IsEdge so_far.first) All in
    builds-as edges_rest (Both Listed (Next left)) (AreEdges found) s (drop 1 left)
    (λ v b.
    let l = b.one_is in
    sym (ap edges_behind b.pair_is ∙ ap (λ w. edges_behind (pair w b.two)) l.pair_is ∙ l.one_is (more_edges_in l.two) ∙ l.two_is ∙ before-all found))
    (both-builds inner (sign (codes ")")) Listed (Next left) s left (drop 1 left)
    (both-builds edge (many other_edge) (IsEdge so_far.first) All s so_far.mid left so_far.one
    (run-end other_edge edges_before more_edges_in (so_far.first ∷ []) found so_far.mid left e so_far.others.built))
    (one-builds closing left))

abbrev opening : List ℕ
opening = terminals.OPEN ∷ []

pub rest-builds : (found : List Edge) (s left : List Tok) → Builds edges_rest (AreEdges found) (drop 1 s) left → Builds edges (AreBelow found) s left
rest-builds found s left is =
    builds-as edges (Opened (AreEdges found)) (AreBelow found) s left (λ v o. o.inside_is ∙ sym (ap edges_in o.pair_is)) (rule-builds opening 0 (AreEdges found) s left is)

pub below-there : (found : List Edge) (s left : List Tok) → begins opening s ≡ true → Builds edges_rest (AreEdges found) (drop 1 s) left → Builds (maybe edges) (AreBelow found) s left
below-there found s left e is = put_in-builds edges (AreBelow found) s left e (rest-builds found s left is)

pub below-none : (s : List Tok) → begins opening s ≡ false → Builds (maybe edges) (AreBelow []) s s
below-none s e = builds-as (maybe edges) (λ v. v ≡ nothing) (AreBelow []) s s (λ v f. sym (ap edges_in f)) (left_out-builds edges s e)
