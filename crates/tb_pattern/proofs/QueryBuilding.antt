-- A whole query is built from its document's name and its edges.
use Rattle.std.proofs.Common.{◌≡◌, ℕ, false, List, [], ◌∷◌, drop, Option, Some, None, refl, sym, ap, ◌∙◌, drop-drop}
use Rattle.std.specs.Prelude.{codes}
use Rattle.tb_token.specs.grammar.Grammar.{Tok, both}
use Rattle.tb_token.specs.grammar.Sentences.{Tree, pair, Derives, at_end}
use Rattle.tb_token.specs.grammar.Reading.{read}
use Rattle.tb_token.proofs.grammar.ReadLaws.{read-wrong}
use Rattle.tb_token.specs.tokens.Lexemes.{HaveDigits}
use Rattle.tb_token.specs.grammar.Terminals.{keyword, sign, string}
use Rattle.tb_token.specs.grammar.Patterns.{doc, edges, edges_rest, match_query}
use Rattle.tb_token.specs.grammar.Queries.{rules, follow}
use Rattle.tb_token.proofs.grammar.QueryLaws.{readable}
use Rattle.tb_token.specs.tokens.TerminalNames as terminals
use Rattle.tb_pattern.specs.Syntax.{AreMatch}
use Rattle.tb_pattern.specs.Faults.{HasNoFault}
use Rattle.tb_pattern.specs.Plain.{PlainEdges}
use Rattle.tb_pattern.specs.Value.{inside, bytes_in, document_of, pattern_of, AskFor}
use Rattle.tb_pattern.specs.View.{edges_of}
use Rattle.tb_pattern.specs.Building.{next, Next, Come, Builds}
use Rattle.tb_pattern.specs.BuiltParts.{AreEdges, AreBelow}
use Rattle.tb_pattern.specs.declared.pattern.Edge.{Edge}
use Rattle.tb_pattern.proofs.BuildingLaws.{some-none, one-builds, Both, both-builds, builds-as}
use Rattle.tb_pattern.proofs.EdgeLaws.{rest-builds}

-- a query of this document and these edges
record MatchTree (document : List ℕ) (es : PlainEdges) (v : Tree) : Type 0 where
  document_is : document ≡ document_of v
  edges_are : es ≡ pattern_of v

module _ (s : List Tok) (es : List Edge) (left : List Tok) where
  abbrev s1 : List Tok
  s1 = drop 1 s

  abbrev s2 : List Tok
  s2 = drop 1 s1

  abbrev s3 : List Tok
  s3 = drop 1 s2

  abbrev s4 : List Tok
  s4 = drop 1 s3

  abbrev s5 : List Tok
  s5 = drop 1 s4

  abbrev Close : Tree → Type 0
  Close = Both (Next s3) (Next s4)

  abbrev Open : Tree → Type 0
  Open = Both (Next s2) Close

  abbrev Doc : Tree → Type 0
  Doc = Both (Next s1) Open

  abbrev Behind : Tree → Type 0
  Behind = Both Doc (AreBelow es)

  query-is : (v : Tree) → Both (Next s) Behind v → MatchTree (inside (bytes_in (next s3))) (edges_of es) v
  query-is v b =
      let behind = b.two_is in
      let d = behind.one_is in
      let o = d.two_is in
      let q = o.two_is in
      let same = b.pair_is ∙ ap (λ x. pair b.one x)
      (behind.pair_is ∙ ap (λ x. pair x behind.two)
      (d.pair_is ∙ ap (λ x. pair d.one x) (o.pair_is ∙ ap (λ x. pair o.one x) q.pair_is))) in
      record {
        document_is = sym (ap document_of same ∙ ap (λ x. inside (bytes_in x)) q.one_is);
        edges_are = behind.two_is ∙ sym (ap pattern_of same);
      }

  query-builds : Builds edges_rest (AreEdges es) (drop 1 s5) left → Builds match_query (MatchTree (inside (bytes_in (next s3))) (edges_of es)) s left
  query-builds rest_is =
      builds-as match_query (Both (Next s) Behind) (MatchTree (inside (bytes_in (next s3))) (edges_of es)) s left query-is
      (both-builds (keyword (codes "MATCH")) (both doc edges) (Next s) Behind s s1 left (one-builds (terminals.MATCH ∷ []) s)
      (both-builds doc edges Doc (AreBelow es) s1 s5 left
      (both-builds (keyword (codes "DOCUMENT")) (both (sign (codes "(")) (both string (sign (codes ")")))) (Next s1) Open s1 s2 s5 (one-builds (terminals.DOCUMENT ∷ []) s1)
      (both-builds (sign (codes "(")) (both string (sign (codes ")"))) (Next s2) Close s2 s3 s5 (one-builds (terminals.OPEN ∷ []) s2)
      (both-builds string (sign (codes ")")) (Next s3) (Next s4) s3 s4 s5 (one-builds (terminals.QUOTED ∷ []) s3) (one-builds (terminals.CLOSE ∷ []) s4))))
      (rest-builds es s5 left rest_is)))

-- a reading that ends with no part left has no token left
pub nothing-left : (s : List Tok) → read rules s (Some []) ≡ None → s ≡ []
nothing-left [] e = refl
nothing-left (t ∷ u) e = some-none e

third : (s : List Tok) → drop 1 (drop 1 (drop 1 s)) ≡ drop 3 s
third s = drop-drop 1 1 (drop 1 s) ∙ drop-drop 2 1 s

sixth : (s : List Tok) → drop 1 (drop 1 (drop 1 (drop 1 (drop 1 (drop 1 s))))) ≡ drop 6 s
sixth s = third (drop 1 (drop 1 (drop 1 s))) ∙ ap (λ u. drop 3 u) (third s) ∙ drop-drop 3 3 s

pub query-asks : (s : List Tok) (es : List Edge) (left : List Tok) (document : List ℕ) → document ≡ inside (bytes_in (next (drop 3 s))) → Builds edges_rest (AreEdges es) (drop 6 s) left
    → Come false (match_query ∷ []) s → AskFor s document (edges_of es)
query-asks s es left document name_is rest_is come =
    let behind : Builds edges_rest (AreEdges es) (drop 1 (drop 1 (drop 1 (drop 1 (drop 1 (drop 1 s)))))) left = rw (sixth s) rest_is in
    let b = query-builds s es left behind [] false come in
    let ended = nothing-left left b.behind.parts in
    let ends : Derives rules [] [] left = rw ended at_end in
    record {
      tree = b.tree;
      derived = b.derived [] ends;
      document_is = name_is ∙ ap (λ u. inside (bytes_in (next u))) (sym (third s)) ∙ b.is.document_is;
      edges_are = b.is.edges_are;
    }

-- A query without fault comes from its first token on.

read-match : (s : List Tok) → AreMatch s → read rules s (Some (match_query ∷ [])) ≡ None
read-match s is = by (read rules s (Some (match_query ∷ []))) refl
  where
    by : (o : Option ℕ) → read rules s (Some (match_query ∷ [])) ≡ o → o ≡ None
    by None e = refl
    by (Some n) e = absurd ((read-wrong rules follow readable.good s (match_query ∷ []) n readable.matches e).none is)

pub match-comes : (s : List Tok) → HasNoFault s → HaveDigits s → Come false (match_query ∷ []) s
match-comes s fine digits = record { parts = read-match s fine.is; digits = digits; numbers = fine.numbers }
