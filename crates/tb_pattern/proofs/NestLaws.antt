-- Brackets that are open at once are pattern nodes inside each other.
use Rattle.std.proofs.Common.{◌≡◌, ℕ, ◌+◌, ◌-◌, ◌≤◌, max, Bool, true, false, cond, ◌||◌, nat_lt, List, [], ◌∷◌, refl, sym, ap, ◌∙◌, arith}
use Rattle.std.specs.Prelude.{codes}
use Rattle.std.proofs.lemmas.Bool.{and_parts}
use Rattle.std.proofs.lemmas.Bool.Decides.{nat_tests}
use Rattle.tb_span.specs.declared.item.Axis.TheVariants.{Child}
use Rattle.tb_tree.specs.declared.node_test.Test.TheVariants.{Name}
use Rattle.tb_token.specs.grammar.Grammar.{Tok, Expression, both, maybe, many, has}
use Rattle.tb_token.specs.grammar.Sentences.{Tree, leaf, nothing, pair, first, second, Derives, at_end, by_one, by_both, by_first, by_second, left_out, put_in, no_more, one_more, by_rule}
use Rattle.tb_token.proofs.grammar.TerminalLaws.{none-true, has-only, apart-none}
use Rattle.tb_token.specs.grammar.Terminals.{comma}
use Rattle.tb_token.specs.grammar.Patterns.{edges, edge, match_query}
use Rattle.tb_token.specs.grammar.Queries.{rules}
use Rattle.tb_token.specs.tokens.TerminalNames.{terminals_of}
use Rattle.tb_token.specs.tokens.TerminalNames as terminals
use Rattle.tb_token.specs.tokens.Nesting as nesting
use Rattle.tb_pattern.specs.Faults.{is_too_nested}
use Rattle.tb_pattern.specs.declared.pattern.Mark.TheVariants.{One}
use Rattle.tb_pattern.specs.Plain.{matching, PlainEdges, no_edges, edge as edge_to, levels}
use Rattle.tb_pattern.specs.Value.{edges_in, more_edges_in, edges_from, pattern_of, AskFor}
use Rattle.tb_pattern.proofs.PartLaws.{Of, of_one, of_both, of_first, of_second, of_nothing, of_put, of_none, of_more, of_rule, derived-of, lacks}

-- the terminals of a tree's tokens, and others behind them
abbrev leaves : Tree → List ℕ → List ℕ
leaves (leaf t) rest = t.terminal ∷ rest
leaves nothing rest = rest
leaves (pair v w) rest = leaves v (leaves w rest)
leaves (first v) rest = leaves v rest
leaves (second v) rest = leaves v rest

abbrev all_leaves : List Tree → List ℕ
all_leaves [] = []
all_leaves (v ∷ vs) = leaves v (all_leaves vs)

leaves-derived : {ps : List Expression} {vs : List Tree} {s : List Tok} → Derives rules ps vs s → all_leaves vs ≡ terminals_of s
leaves-derived at_end = refl
leaves-derived (by_one {t = t} h d) = ap (λ xs. t.terminal ∷ xs) (leaves-derived d)
leaves-derived (by_both d) = leaves-derived d
leaves-derived (by_first d) = leaves-derived d
leaves-derived (by_second d) = leaves-derived d
leaves-derived (left_out d) = leaves-derived d
leaves-derived (put_in d) = leaves-derived d
leaves-derived (no_more d) = leaves-derived d
leaves-derived (one_more d) = leaves-derived d
leaves-derived (by_rule {t = t} h d) = ap (λ xs. t.terminal ∷ xs) (leaves-derived d)

abbrev open_behind : ℕ → ℕ → ℕ
open_behind = nesting.open_behind (terminals.OPEN ∷ []) (terminals.CLOSE ∷ [])

abbrev nests_past : ℕ → List ℕ → Bool
nests_past = nesting.nests_past (terminals.OPEN ∷ []) (terminals.CLOSE ∷ [])

-- the most brackets that are open at once, where so many are before the terminals
abbrev most_open : ℕ → List ℕ → ℕ
most_open depth [] = depth
most_open depth (x ∷ xs) = max depth (most_open (open_behind depth x) xs)

past-max : (m n : ℕ) → (nat_lt 32 m || nat_lt 32 n) ≡ nat_lt 32 (max m n)
past-max m n = grind (arith, nat_tests)

-- nesting is past 32 just where the most is, also counting what is open at first
most-past : (depth : ℕ) (xs : List ℕ) → (nat_lt 32 depth || nests_past depth xs) ≡ nat_lt 32 (most_open depth xs)
most-past depth [] = let whole : max depth 0 ≡ depth = omega arith in past-max depth 0 ∙ ap (nat_lt 32) whole
most-past depth (x ∷ xs) =
    ap (λ b. nat_lt 32 depth || b) (most-past (open_behind depth x) xs)
    ∙ past-max depth (most_open (open_behind depth x) xs)

most-from : (depth : ℕ) (xs : List ℕ) → depth ≤ most_open depth xs
most-from depth [] = omega arith
most-from depth (x ∷ xs) = omega arith

abbrev brackets : List ℕ
brackets = terminals.OPEN ∷ terminals.CLOSE ∷ []

-- a terminal that is no bracket opens and closes none
none-behind : (depth x : ℕ) → has brackets x ≡ false → open_behind depth x ≡ depth
none-behind depth x none = by (has (terminals.OPEN ∷ []) x) (has (terminals.CLOSE ∷ []) x) refl refl
  where
    by : (opens closes : Bool) → has (terminals.OPEN ∷ []) x ≡ opens → has (terminals.CLOSE ∷ []) x ≡ closes
        → cond opens (depth + 1) (cond closes (depth - 1) depth) ≡ depth
    by true closes e f = none-true (has brackets x) none (ap (has brackets) (has-only terminals.OPEN x e))
    by false true e f = none-true (has brackets x) none (ap (has brackets) (has-only terminals.CLOSE x f))
    by false false e f = refl

quiet-terminal : (depth x : ℕ) (rest : List ℕ) → has brackets x ≡ false → most_open depth (x ∷ rest) ≡ most_open depth rest
quiet-terminal depth x rest none =
    let same = none-behind depth x none in
    let from = most-from depth rest in
    let fewer : max depth (most_open depth rest) ≡ most_open depth rest = omega arith in
    ap (λ n. max depth (most_open n rest)) same ∙ fewer

-- a part without brackets opens none
quiet-open : {p : Expression} {v : Tree} → Of p v → lacks brackets p ≡ true → (depth : ℕ) (rest : List ℕ) → most_open depth (leaves v rest) ≡ most_open depth rest
quiet-open (of_one {c = c} {t = t} h) e depth rest = quiet-terminal depth t.terminal rest (apart-none c brackets t.terminal e h)
quiet-open (of_both {p = p} {q = q} {w = w} f g) e depth rest =
    let parts = and_parts (lacks brackets p) (lacks brackets q) e in
    quiet-open f parts.0 depth (leaves w rest) ∙ quiet-open g parts.1 depth rest
quiet-open (of_first {p = p} {q = q} f) e depth rest = quiet-open f (and_parts (lacks brackets p) (lacks brackets q) e).0 depth rest
quiet-open (of_second {p = p} {q = q} f) e depth rest = quiet-open f (and_parts (lacks brackets p) (lacks brackets q) e).1 depth rest
quiet-open of_nothing e depth rest = refl
quiet-open (of_put f) e depth rest = quiet-open f e depth rest
quiet-open of_none e depth rest = refl
quiet-open (of_more {w = w} f g) e depth rest = quiet-open f e depth (leaves w rest) ∙ quiet-open g e depth rest
quiet-open (of_rule h f) e depth rest = none-true false refl e

terminal-opens : (depth x : ℕ) (rest : List ℕ) → has (terminals.OPEN ∷ []) x ≡ true → most_open depth (x ∷ rest) ≡ max depth (most_open (depth + 1) rest)
terminal-opens depth x rest is = ap (λ y. most_open depth (y ∷ rest)) (has-only terminals.OPEN x is)

terminal-closes : (depth x : ℕ) (rest : List ℕ) → has (terminals.CLOSE ∷ []) x ≡ true → most_open (depth + 1) (x ∷ rest) ≡ max (depth + 1) (most_open depth rest)
terminal-closes depth x rest is =
    let back : depth + 1 - 1 ≡ depth = omega arith in
    ap (λ y. most_open (depth + 1) (y ∷ rest)) (has-only terminals.CLOSE x is)
    ∙ ap (λ n. max (depth + 1) (most_open n rest)) back

edge-levels : {v : Tree} → Of edge v → (behind : PlainEdges) → 1 ≤ levels (edges_from v behind)
edge-levels (of_both a (of_both m (of_both t (of_both c (of_both w below))))) behind = omega arith

edges-levels : {v : Tree} → Of edges v → 1 ≤ levels (edges_in v)
edges-levels (of_rule h (of_both (of_both {w = more} e more_is) close)) = edge-levels e (more_edges_in more)

-- Behind edges as many brackets are open as before them. Inside, as many more are open at most as
-- the edges have levels: a list of edges opens one bracket, and what an edge has below opens within.
mutual
  edges-open : {v : Tree} → Of edges v → (depth : ℕ) (rest : List ℕ) → most_open depth (leaves v rest) ≡ max (depth + levels (edges_in v)) (most_open depth rest)
  edges-open (of_rule {t = t} h (of_both (of_both {v = v} {w = more} e more_is) (of_one {t = u} close))) depth rest =
      let opening = terminal-opens depth t.terminal (leaves v (leaves more (u.terminal ∷ rest))) h in
      let closing = terminal-closes depth u.terminal rest close in
      let others = more-open more_is depth (u.terminal ∷ rest) in
      let here = edge-open e (more_edges_in more) depth (leaves more (u.terminal ∷ rest)) (most_open (depth + 1) (u.terminal ∷ rest)) others in
      let some = edge-levels e (more_edges_in more) in
      omega arith

  -- these stand inside the bracket of their list, which depth doesn't count
  more-open : {v : Tree} → Of (many (both comma edge)) v → (depth : ℕ) (rest : List ℕ) → most_open (depth + 1) (leaves v rest) ≡ max (depth + levels (more_edges_in v)) (most_open (depth + 1) rest)
  more-open of_none depth rest = let from = most-from (depth + 1) rest in omega arith
  more-open (of_more {w = more} (of_both {w = v} between e) more_is) depth rest =
      let comma_is = quiet-open between refl (depth + 1) (leaves v (leaves more rest)) in
      let others = more-open more_is depth rest in
      let here = edge-open e (more_edges_in more) depth (leaves more rest) (most_open (depth + 1) rest) others in
      omega arith

  -- so does an edge; other edges are behind it, and most is of what stands behind those
  edge-open : {v : Tree} → Of edge v → (behind : PlainEdges) (depth : ℕ) (rest : List ℕ) (most : ℕ) → most_open (depth + 1) rest ≡ max (depth + levels behind) most
      → most_open (depth + 1) (leaves v rest) ≡ max (depth + levels (edges_from v behind)) most
  edge-open (of_both {w = from_mark} a (of_both {w = from_test} m (of_both {w = from_conds} t (of_both {w = from_whole} c (of_both {w = below} w below_is))))) behind depth rest most e =
      let axis_is = quiet-open a refl (depth + 1) (leaves from_mark rest) in
      let mark_is = quiet-open m refl (depth + 1) (leaves from_test rest) in
      let test_is = quiet-open t refl (depth + 1) (leaves from_conds rest) in
      let conds_is = quiet-open c refl (depth + 1) (leaves from_whole rest) in
      let whole_is = quiet-open w refl (depth + 1) (leaves below rest) in
      let inner = below-open below_is (depth + 1) rest in
      omega arith

  below-open : {v : Tree} → Of (maybe edges) v → (depth : ℕ) (rest : List ℕ) → most_open depth (leaves v rest) ≡ max (depth + levels (edges_in v)) (most_open depth rest)
  below-open of_nothing depth rest = let from = most-from depth rest in omega arith
  below-open (of_put f) depth rest = edges-open f depth rest

match-open : {v : Tree} → Of match_query v → most_open 0 (leaves v []) ≡ levels (pattern_of v)
match-open (of_both {w = from_doc} keyword (of_both {w = below} (of_both {w = from_name} doc (of_both (of_one {t = t} h) (of_both {v = name} string (of_one {t = u} close)))) es)) =
    let keyword_is = quiet-open keyword refl 0 (leaves from_doc []) in
    let doc_is = quiet-open doc refl 0 (leaves from_name (leaves below [])) in
    let opening = terminal-opens 0 t.terminal (leaves name (u.terminal ∷ leaves below [])) h in
    let name_is = quiet-open string refl 1 (u.terminal ∷ leaves below []) in
    let closing = terminal-closes 0 u.terminal (leaves below []) close in
    let edges_are = edges-open es 0 [] in
    let some = edges-levels es in
    omega arith

-- more than 32 brackets are open somewhere in a query just where its pattern has more than 32 levels
pub nested-levels : (s : List Tok) (document : List ℕ) (es : PlainEdges) → AskFor s document es → is_too_nested s ≡ nat_lt 32 (levels es)
nested-levels s document es asks =
    let here = match-open (derived-of asks.derived).0 in
    ap (nests_past 0) (sym (leaves-derived asks.derived))
    ∙ most-past 0 (leaves asks.tree [])
    ∙ ap (nat_lt 32) (here ∙ sym (ap levels asks.edges_are))

-- a node with a name and edges, and other edges beside it
abbrev node : List ℕ → PlainEdges → PlainEdges → PlainEdges
node name below others = edge_to Child One (matching (Name name) [] false below) others

-- `(/- a, /- b)`: nodes beside each other are one level
pub beside-levels : levels (node (codes "a") no_edges (node (codes "b") no_edges no_edges)) ≡ 1
beside-levels = refl

-- `(/- a (/- b, /- c (/- d)), /- e)`: the deepest branch counts
pub deepest-levels : levels (node (codes "a") (node (codes "b") no_edges (node (codes "c") (node (codes "d") no_edges no_edges) no_edges)) (node (codes "e") no_edges no_edges)) ≡ 3
deepest-levels = refl
