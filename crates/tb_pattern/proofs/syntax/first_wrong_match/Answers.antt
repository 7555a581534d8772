-- The value is the grammar of `MATCH` queries, part by part, so what is read by it is one.
use Rattle.tb_token.proofs.reading.Views.{expression_of-One, expression_of-Both, expression_of-Either, expression_of-Maybe, expression_of-Many, expression_of-Opened}
use Rattle.tb_pattern.proofs.SyntaxLaws.{says-match, if-read}
use Rattle.tb_pattern.proofs.syntax.first_wrong_match.Goals as goal

pub returns : goal.returns
returns c =
    if-read _ _ _ c.first_wrong.ensures
    (says-match _
    (simp (expression_of-One, expression_of-Both, expression_of-Either, expression_of-Maybe, expression_of-Many, expression_of-Opened))
    (simp (expression_of-One, expression_of-Both, expression_of-Either, expression_of-Maybe, expression_of-Many, expression_of-Opened))
    (λ n. simp expression_of-One))
