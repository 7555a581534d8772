-- The value is the grammar of queries, part by part, so what is read by it is one.
use Rattle.tb_token.proofs.reading.Views.{expression_of-One, expression_of-Both, expression_of-Either, expression_of-Maybe, expression_of-Many, expression_of-Opened}
use Rattle.tb_flwor.proofs.SyntaxLaws.{says-query, if-read}
use Rattle.tb_flwor.proofs.syntax.first_wrong_query.Goals as goal

pub returns : goal.returns
returns c =
    if-read _ _ _ c.first_wrong.ensures
    (says-query _
    (simp (expression_of-One, expression_of-Both, expression_of-Either, expression_of-Maybe, expression_of-Many, expression_of-Opened))
    (simp (expression_of-One, expression_of-Both, expression_of-Either, expression_of-Maybe, expression_of-Many, expression_of-Opened))
    (simp (expression_of-One, expression_of-Both, expression_of-Either, expression_of-Maybe, expression_of-Many, expression_of-Opened))
    (λ n. simp expression_of-One))
