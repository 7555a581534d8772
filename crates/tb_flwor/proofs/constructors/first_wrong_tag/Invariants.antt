use Rattle.std.proofs.Common.{◌≡◌, drop}
use Rattle.tb_flwor.specs.Constructors.{wrong_behind, first_wrong_tag}
use Rattle.tb_flwor.specs.Borrowed.{last_first}
use Rattle.tb_flwor.proofs.constructors.first_wrong_tag.Given as goal

-- the first wrong end tag is that of the tokens that are left
abbrev pub invariant-tokens : goal.invariant-tokens
invariant-tokens l =
    wrong_behind (last_first l.started.items) (drop l.at l.tokens) ≡ first_wrong_tag l.tokens
