-- What is read by the value of the grammar is a `MATCH` query: of the rules of queries it calls the first alone.
use Rattle.std.proofs.Common.{◌≡◌, ℕ, zero, suc, Bool, true, false, List, [], ◌∷◌, Option, Some, None, refl}
use Rattle.std.specs.Prelude.{Result, Ok, Err, IfOk}
use Rattle.tb_token.specs.grammar.Grammar.{Tok}
use Rattle.tb_token.specs.grammar.LL1.{is_ll1, is_easy, AreGood}
use Rattle.tb_token.proofs.grammar.TerminalLaws.{none-true}
use Rattle.tb_token.proofs.grammar.RuleLaws.{calls, Agree, sentence-by, wrong-by}
use Rattle.tb_token.specs.grammar.Terminals.{name}
use Rattle.tb_token.specs.grammar.Patterns.{edges_rest, match_query}
use Rattle.tb_token.specs.grammar.Queries.{rules, follow}
use Rattle.tb_token.specs.reading.View.{expression_of, rules_of}
use Rattle.tb_token.specs.reading.Calls.{FirstWrong, Says, IsRead}
use Rattle.tb_token.specs.declared.reader.expression.Grammar.{Grammar}
use Rattle.tb_pattern.specs.Syntax.{match_rules}

pub says-match : (g : Grammar) → expression_of g.start.now ≡ match_query → rules_of g 0 ≡ edges_rest → ((n : ℕ) → rules_of g (suc n) ≡ name) → Says g match_rules match_query
says-match g start first others = record { each_rule = each; start_is = start }
  where
    each : (n : ℕ) → rules_of g n ≡ match_rules n
    each zero = first
    each (suc n) = others n

match-ll1 : (n : ℕ) → is_ll1 follow (follow n) (match_rules n) ≡ true
match-ll1 zero = refl
match-ll1 (suc zero) = refl
match-ll1 (suc (suc n)) = refl

match-easy : (n : ℕ) → is_easy (match_rules n) ≡ true
match-easy zero = refl
match-easy (suc n) = refl

match-good : AreGood match_rules follow
match-good = record { ll1 = match-ll1; easy = match-easy }

abbrev is_first : ℕ → Bool
is_first zero = true
is_first (suc n) = false

same-rules : (n : ℕ) → is_first n ≡ true → match_rules n ≡ rules n
same-rules zero is = refl
same-rules (suc n) is = none-true false refl is

first-calls : (n : ℕ) → is_first n ≡ true → calls is_first (match_rules n) ≡ true
first-calls zero is = refl
first-calls (suc n) is = none-true false refl is

agree : Agree is_first match_rules rules
agree = record { same = same-rules; within = first-calls }

match-read : (s : List Tok) (wrong : Option ℕ) → FirstWrong match_rules match_query s wrong → FirstWrong rules match_query s wrong
match-read s None keyword = sentence-by is_first match_rules rules agree (match_query ∷ []) (refl, tt) s keyword
match-read s (Some k) wrong = wrong-by is_first match_rules rules agree (match_query ∷ []) (refl, tt) s k wrong

pub if-read : {E : Type 0} (o : Result (Option ℕ) E) (g : Grammar) (s : List Tok) → IfOk o (IsRead g s) → Says g match_rules match_query → IfOk o (FirstWrong rules match_query s)
if-read (Ok wrong) g s read says = match-read s wrong (read match_rules match_query says follow match-good (refl, tt))
if-read (Err f) g s read says = read
