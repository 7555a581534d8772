-- The grammar that a grammar of the program is.
use Rattle.std.specs.Prelude.{get_or, map}
use Rattle.tb_token.specs.grammar.Grammar as grammar
use Rattle.tb_token.specs.declared.reader.expression.Expression.{Expression, fold-Expression}
use Rattle.tb_token.specs.declared.reader.expression.Expression.TheOpen.{Expression-F}
use Rattle.tb_token.specs.declared.reader.expression.Grammar.{Grammar}

-- one expression whose own expressions are seen already
abbrev pub expression_step : Expression-F grammar.Expression → grammar.Expression
expression_step (Expression-F.One cs) = grammar.one cs.now
expression_step (Expression-F.Both p q) = grammar.both p.now q.now
expression_step (Expression-F.Either p q) = grammar.either p.now q.now
expression_step (Expression-F.Maybe p) = grammar.maybe p.now
expression_step (Expression-F.Many p) = grammar.many p.now
expression_step (Expression-F.Opened cs n) = grammar.opened cs.now n

abbrev pub expression_of : Expression → grammar.Expression
expression_of = fold-Expression grammar.Expression expression_step

-- what each rule says; rules past the list say what the other one does
abbrev pub rules_of : Grammar → grammar.Rules
rules_of g n = get_or (map (λ r. expression_of r.now) g.rules.now) n (expression_of g.other.now)
