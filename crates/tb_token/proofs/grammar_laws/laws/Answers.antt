use Rattle.tb_token.proofs.grammar.ReadLaws.{read-sentence, read-wrong}
use Rattle.tb_token.proofs.grammar.TreeLaws.{one-tree, wrong-once}
use Rattle.tb_token.proofs.grammar.PlaceLaws.{places-right}
use Rattle.tb_token.proofs.grammar_laws.laws.Goals as goal

pub returns-clause-tree : goal.returns-clause-tree
returns-clause-tree c = λ rules follow ps s vs ws good d one_is two_is. one-tree rules follow good d one_is two_is

pub returns-clause-reading : goal.returns-clause-reading
returns-clause-reading c = λ rules follow ps s good d.
    (λ e. read-sentence rules follow good s ps e, λ left e. read-wrong rules follow good s ps left d e)

pub returns-clause-readers : goal.returns-clause-readers
returns-clause-readers c = λ rules follow p s good d. places-right rules follow p s good d

pub returns-clause-once : goal.returns-clause-once
returns-clause-once c = λ rules ps s k j one_is two_is. wrong-once rules ps s k j one_is two_is
