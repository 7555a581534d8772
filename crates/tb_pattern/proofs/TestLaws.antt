-- The tests that are written are the nodes of the pattern that is asked for.
use Rattle.std.proofs.Common.{◌≡◌, ℕ, ◌+◌, Bool, true, false, cond, List, [], ◌∷◌, refl, ap, arith}
use Rattle.std.proofs.lemmas.Bool.{and_parts}
use Rattle.tb_token.specs.grammar.Grammar.{Tok, Expression, both, maybe, many, has}
use Rattle.tb_token.specs.grammar.Sentences.{Tree, leaf, nothing, pair, first, second, Derives, at_end, by_one, by_both, by_first, by_second, left_out, put_in, no_more, one_more, by_rule}
use Rattle.tb_token.specs.grammar.LL1.{are_apart}
use Rattle.tb_token.proofs.grammar.TerminalLaws.{none-true, apart-none}
use Rattle.tb_token.specs.grammar.Terminals.{comma}
use Rattle.tb_token.specs.grammar.Patterns.{axis, edges, edge, match_query}
use Rattle.tb_token.specs.grammar.Queries.{rules}
use Rattle.tb_token.specs.tokens.TerminalNames as terminals
use Rattle.tb_token.specs.tokens.TerminalNames.{terminals_of}
use Rattle.tb_pattern.specs.Faults.{tests_in, tests_of}
use Rattle.tb_pattern.specs.Plain.{PlainEdges, nodes_in}
use Rattle.tb_pattern.specs.Value.{edges_in, more_edges_in, edges_from, pattern_of, AskFor}
use Rattle.tb_pattern.proofs.PartLaws.{Of, of_one, of_both, of_first, of_second, of_nothing, of_put, of_none, of_more, of_rule, derived-of, lacks}

-- the axes among the leaves of trees

abbrev axes : Tree → ℕ
axes (leaf t) = cond (has terminals.AXES t.terminal) 1 0
axes nothing = 0
axes (pair v w) = axes v + axes w
axes (first v) = axes v
axes (second v) = axes v

abbrev all_axes : List Tree → ℕ
all_axes [] = 0
all_axes (v ∷ vs) = axes v + all_axes vs

count-one : (b : Bool) (m n : ℕ) → m ≡ n → cond b 1 0 + m ≡ cond b (1 + n) n
count-one true m n e = omega arith
count-one false m n e = omega arith

axes-derived : {ps : List Expression} {vs : List Tree} {s : List Tok} → Derives rules ps vs s → all_axes vs ≡ tests_in (terminals_of s)
axes-derived at_end = refl
axes-derived (by_one {t = t} h d) = count-one (has terminals.AXES t.terminal) _ _ (axes-derived d)
axes-derived (by_both d) = let e = axes-derived d in omega arith
axes-derived (by_first d) = axes-derived d
axes-derived (by_second d) = axes-derived d
axes-derived (left_out d) = let e = axes-derived d in omega arith
axes-derived (put_in d) = axes-derived d
axes-derived (no_more d) = let e = axes-derived d in omega arith
axes-derived (one_more d) = let e = axes-derived d in omega arith
axes-derived (by_rule {t = t} h d) =
    let e = count-one (has terminals.AXES t.terminal) _ _ (axes-derived d) in
    omega arith

quiet-leaf : (c : List ℕ) (t : Tok) → are_apart c terminals.AXES ≡ true → has c t.terminal ≡ true → axes (leaf t) ≡ 0
quiet-leaf c t apart h = ap (λ b. cond b 1 0) (apart-none c terminals.AXES t.terminal apart h)

quiet-none : {p : Expression} {v : Tree} → Of p v → lacks terminals.AXES p ≡ true → axes v ≡ 0
quiet-none (of_one {c = c} {t = t} h) e = quiet-leaf c t e h
quiet-none (of_both {p = p} {q = q} f g) e =
    let parts = and_parts (lacks terminals.AXES p) (lacks terminals.AXES q) e in
    let one_is = quiet-none f parts.0 in
    let two_is = quiet-none g parts.1 in
    omega arith
quiet-none (of_first {p = p} {q = q} f) e = quiet-none f (and_parts (lacks terminals.AXES p) (lacks terminals.AXES q) e).0
quiet-none (of_second {p = p} {q = q} f) e = quiet-none f (and_parts (lacks terminals.AXES p) (lacks terminals.AXES q) e).1
quiet-none of_nothing e = refl
quiet-none (of_put f) e = quiet-none f e
quiet-none of_none e = refl
quiet-none (of_more f g) e =
    let one_is = quiet-none f e in
    let two_is = quiet-none g e in
    omega arith
quiet-none (of_rule h f) e = none-true false refl e

axis-one : {v : Tree} → Of axis v → axes v ≡ 1
axis-one (of_one h) = ap (λ b. cond b 1 0) h

mutual
  edges-nodes : {v : Tree} → Of edges v → axes v ≡ nodes_in (edges_in v)
  edges-nodes (of_rule {t = t} h (of_both (of_both {w = more} e more_is) close)) =
      let opening = quiet-leaf (terminals.OPEN ∷ []) t refl h in
      let closing = quiet-none close refl in
      let others = more-nodes more_is in
      let here = edge-nodes e (more_edges_in more) in
      omega arith

  more-nodes : {v : Tree} → Of (many (both comma edge)) v → axes v ≡ nodes_in (more_edges_in v)
  more-nodes of_none = refl
  more-nodes (of_more {w = more} (of_both between e) more_is) =
      let comma_is = quiet-none between refl in
      let others = more-nodes more_is in
      let here = edge-nodes e (more_edges_in more) in
      omega arith

  edge-nodes : {v : Tree} → Of edge v → (behind : PlainEdges) → axes v + nodes_in behind ≡ nodes_in (edges_from v behind)
  edge-nodes (of_both a (of_both m (of_both t (of_both c (of_both w below))))) behind =
      let axis_is = axis-one a in
      let mark_is = quiet-none m refl in
      let test_is = quiet-none t refl in
      let conds_is = quiet-none c refl in
      let whole_is = quiet-none w refl in
      let below_is = below-nodes below in
      omega arith

  below-nodes : {v : Tree} → Of (maybe edges) v → axes v ≡ nodes_in (edges_in v)
  below-nodes of_nothing = refl
  below-nodes (of_put f) = edges-nodes f

match-nodes : {v : Tree} → Of match_query v → axes v ≡ nodes_in (pattern_of v)
match-nodes (of_both keyword (of_both doc es)) =
    let keyword_is = quiet-none keyword refl in
    let doc_is = quiet-none doc refl in
    let edges_is = edges-nodes es in
    omega arith

-- the tests of a query are the nodes of its pattern
pub tests-nodes : (s : List Tok) (document : List ℕ) (es : PlainEdges) → AskFor s document es → tests_of s ≡ nodes_in es
tests-nodes s document es asks =
    let all_is = axes-derived asks.derived in
    let here = match-nodes (derived-of asks.derived).0 in
    let same = ap nodes_in asks.edges_are in
    omega arith
