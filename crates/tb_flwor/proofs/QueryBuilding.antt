-- A whole query is built by its first token.
use Rattle.std.proofs.Common.{◌≡◌, ℕ, true, false, List, [], ◌∷◌, Option, Some, None, refl, sym, ◌∙◌}
use Rattle.tb_token.specs.grammar.Grammar.{Tok, has}
use Rattle.tb_token.specs.grammar.Sentences.{Derives, at_end, by_first, by_second}
use Rattle.tb_token.specs.grammar.Reading.{first_set, read}
use Rattle.tb_token.proofs.grammar.PlaceLaws.{read-first, read-second}
use Rattle.tb_token.proofs.grammar.ReadLaws.{read-wrong}
use Rattle.tb_token.specs.tokens.Lexemes.{HaveDigits}
use Rattle.tb_token.specs.grammar.Patterns.{match_query}
use Rattle.tb_token.specs.grammar.Queries.{rules, follow, query, flwor}
use Rattle.tb_token.proofs.grammar.QueryLaws.{readable}
use Rattle.tb_token.specs.tokens.TerminalNames as terminals
use Rattle.tb_pattern.specs.BuiltParts as pattern
use Rattle.tb_pattern.specs.Building.{Come, Builds}
use Rattle.tb_pattern.proofs.BuildingLaws.{some-none, false-true, come-as}
use Rattle.tb_pattern.proofs.QueryBuilding.{nothing-left}
use Rattle.tb_pattern.specs.declared.pattern.Pattern.{Pattern}
use Rattle.tb_query.specs.declared.query.Flwor as flwor
use Rattle.tb_query.specs.declared.query.Query.TheVariants.{Match, Flwor}
use Rattle.tb_flwor.specs.Variables.{is_match, clauses_in, bound}
use Rattle.tb_flwor.specs.Value.{BoundNames}
use Rattle.tb_flwor.specs.Asked.{IsFlwor}
use Rattle.tb_flwor.specs.Faults.{AreQuery, first_fault}
use Rattle.tb_flwor.specs.Built.{Asks}
use Rattle.tb_flwor.proofs.FaultLaws.{none-wrong}
use Rattle.tb_flwor.proofs.TokenLaws.{has-one}

-- the query comes next where the tokens are one without fault

read-query : (s : List Tok) → AreQuery s → read rules s (Some (query ∷ [])) ≡ None
read-query s is = by (read rules s (Some (query ∷ []))) refl
  where
    by : (o : Option ℕ) → read rules s (Some (query ∷ [])) ≡ o → o ≡ None
    by None e = refl
    by (Some n) e = absurd ((read-wrong rules follow readable.good s (query ∷ []) n readable.queries e).none is)

pub query-comes : (s : List Tok) → AreQuery s → first_fault s ≡ None → HaveDigits s → Come false (query ∷ []) s
query-comes s is fine digits = record { parts = read-query s is; digits = digits; numbers = (none-wrong s fine).numbers }

-- the keyword MATCH is the first token of a `MATCH` query, and of no other
match-starts : (t : Tok) (u : List Tok) → is_match (t ∷ u) ≡ has (first_set match_query) t.terminal
match-starts t u = has-one terminals.MATCH t.terminal

pub match-asks : (s : List Tok) (p : Pattern) → is_match s ≡ true → pattern.Asks s p → Asks s (Match p)
match-asks [] p e asks come = false-true e
match-asks (t ∷ u) p e asks come =
    let a = asks (come-as false (query ∷ []) (match_query ∷ []) (t ∷ u) (read-first rules match_query flwor t u [] (sym (match-starts t u) ∙ e)) come) in
    (_, by_first a.derived, record { document_is = a.document_is; edges_are = a.edges_are })

pub flwor-asks : (names : BoundNames) (s left : List Tok) (q : flwor.Flwor) → is_match s ≡ false → names ≡ bound (clauses_in s) → Builds flwor (IsFlwor names q) s left → Asks s (Flwor q)
flwor-asks names [] left q e names_are is come = some-none come.parts
flwor-asks names (t ∷ u) left q e names_are is come =
    let b = is [] false (come-as false (query ∷ []) (flwor ∷ []) (t ∷ u) (read-second rules match_query flwor t u [] (sym (match-starts t u) ∙ e)) come) in
    let ended = nothing-left left b.behind.parts in
    let ends : Derives rules [] [] left = rw ended at_end in
    let same : names ≡ bound (t ∷ u) = names_are ∙ rw e refl in
    (_, by_second (b.derived [] ends), rw (sym same) b.is)
