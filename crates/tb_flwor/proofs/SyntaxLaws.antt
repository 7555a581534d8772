-- What is read by the value of the grammar is a query.
use Rattle.std.proofs.Common.{◌≡◌, ℕ, zero, suc, Option, List}
use Rattle.std.specs.Prelude.{Result, Ok, Err, IfOk}
use Rattle.tb_token.specs.grammar.Grammar.{Tok}
use Rattle.tb_token.specs.grammar.Terminals.{name}
use Rattle.tb_token.specs.grammar.Patterns.{edges_rest}
use Rattle.tb_token.specs.grammar.Results.{cons_rest}
use Rattle.tb_token.specs.grammar.Queries.{rules, follow, query}
use Rattle.tb_token.proofs.grammar.QueryLaws.{readable}
use Rattle.tb_token.specs.reading.View.{expression_of, rules_of}
use Rattle.tb_token.specs.reading.Calls.{Says, IsRead}
use Rattle.tb_token.specs.declared.reader.expression.Grammar.{Grammar}
use Rattle.tb_flwor.specs.Calls.{FirstWrong}

-- the grammar of queries, rule by rule
pub says-query : (g : Grammar) → expression_of g.start.now ≡ query → rules_of g 0 ≡ edges_rest → rules_of g 1 ≡ cons_rest → ((n : ℕ) → rules_of g (suc (suc n)) ≡ name) → Says g rules query
says-query g start first second others = record { each_rule = each; start_is = start }
  where
    each : (n : ℕ) → rules_of g n ≡ rules n
    each zero = first
    each (suc zero) = second
    each (suc (suc n)) = others n

pub query-read : (g : Grammar) (s : List Tok) (wrong : Option ℕ) → Says g rules query → IsRead g s wrong → FirstWrong s wrong
query-read g s wrong says read = read rules query says follow readable.good readable.queries

pub if-read : {E : Type 0} (o : Result (Option ℕ) E) (g : Grammar) (s : List Tok) → IfOk o (IsRead g s) → Says g rules query → IfOk o (FirstWrong s)
if-read (Ok wrong) g s read says = query-read g s wrong says read
if-read (Err f) g s read says = read
