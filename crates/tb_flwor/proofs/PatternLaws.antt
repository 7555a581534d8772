-- A pattern that is read has 64 nodes at most.
use Rattle.std.proofs.Common.{◌≡◌, ℕ, ◌≤◌, List, [], ◌∷◌, None, arith, ltb-false}
use Rattle.std.specs.Prelude.{Ok, nat_lt}
use Rattle.tb_token.specs.grammar.Grammar.{Tok}
use Rattle.tb_token.specs.grammar.Sentences.{Tree, leaf, nothing, pair, first, second, Derives, by_first}
use Rattle.tb_token.specs.grammar.Patterns.{match_query}
use Rattle.tb_token.specs.grammar.Queries.{rules, query}
use Rattle.tb_token.specs.tokens.Lexemes.{toks_of}
use Rattle.tb_pattern.specs.Faults.{tests_of}
use Rattle.tb_pattern.specs.Plain.{nodes_in}
use Rattle.tb_pattern.specs.Value.{AskFor}
use Rattle.tb_pattern.specs.View.{edges_of}
use Rattle.tb_pattern.specs.declared.pattern.Pattern.{Pattern}
use Rattle.tb_pattern.proofs.TestLaws.{tests-nodes}
use Rattle.tb_query.specs.declared.query.Query.TheVariants.{Match}
use Rattle.tb_flwor.specs.Calls.{Reads}
use Rattle.tb_flwor.specs.Faults.{is_too_nested, first_fault}
use Rattle.tb_tree.proofs.lists.Options.{cond-none}

-- the tokens of a pattern are those of a query
match-derived : {v : Tree} {s : List Tok} → Derives rules (query ∷ []) (first v ∷ []) s → Derives rules (match_query ∷ []) (v ∷ []) s
match-derived (by_first d) = d

-- a query without a fault has few tests
few-tests : (s : List Tok) → first_fault s ≡ None → tests_of s ≤ 64
few-tests s fine =
    let nested = cond-none (is_too_nested s) _ _ fine in
    let many = cond-none (nat_lt 64 (tests_of s)) _ _ nested.1 in
    ltb-false 64 (tests_of s) many.0

pub pattern-few : (text : List ℕ) (p : Pattern) → Reads text (Ok (Match p)) → nodes_in (edges_of p.edges) ≤ 64
pattern-few text p (ts, (cut, (fine, (first v, derived, is)))) =
    let asks : AskFor (toks_of text ts) p.document (edges_of p.edges) = record { tree = v; derived = match-derived derived; document_is = is.document_is; edges_are = is.edges_are } in
    omega (arith, tests-nodes (toks_of text ts) p.document (edges_of p.edges) asks, few-tests (toks_of text ts) fine.1)
pattern-few text p (ts, (cut, (fine, (second v, derived, is)))) = absurd is
pattern-few text p (ts, (cut, (fine, (leaf t, derived, is)))) = absurd is
pattern-few text p (ts, (cut, (fine, (nothing, derived, is)))) = absurd is
pattern-few text p (ts, (cut, (fine, (pair v w, derived, is)))) = absurd is
