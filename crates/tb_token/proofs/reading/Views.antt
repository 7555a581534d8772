-- An expression of the program and its expression, level by level.
use Rattle.std.proofs.Common.{◌≡◌, ℕ, List, rules}
use Rattle.std.specs.Borrow.{Bor}
use Rattle.tb_token.specs.grammar.Grammar as grammar
use Rattle.tb_token.specs.reading.View.{expression_of}
use Rattle.tb_token.specs.declared.reader.expression.Expression.{Expression, the_lemmas}
use Rattle.tb_token.specs.declared.reader.expression.Expression.TheVariants as expression

pub expression_of-One : (cs : Bor (List ℕ)) → expression_of (expression.One cs) ≡ grammar.one cs.now
expression_of-One cs = search (rules, the_lemmas)

pub expression_of-Both : (p q : Bor Expression) → expression_of (expression.Both p q) ≡ grammar.both (expression_of p.now) (expression_of q.now)
expression_of-Both p q = search (rules, the_lemmas)

pub expression_of-Either : (p q : Bor Expression) → expression_of (expression.Either p q) ≡ grammar.either (expression_of p.now) (expression_of q.now)
expression_of-Either p q = search (rules, the_lemmas)

pub expression_of-Maybe : (p : Bor Expression) → expression_of (expression.Maybe p) ≡ grammar.maybe (expression_of p.now)
expression_of-Maybe p = search (rules, the_lemmas)

pub expression_of-Many : (p : Bor Expression) → expression_of (expression.Many p) ≡ grammar.many (expression_of p.now)
expression_of-Many p = search (rules, the_lemmas)

pub expression_of-Opened : (cs : Bor (List ℕ)) (n : ℕ) → expression_of (expression.Opened cs n) ≡ grammar.opened cs.now n
expression_of-Opened cs n = search (rules, the_lemmas)
