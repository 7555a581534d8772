use Rattle.std.proofs.Common.{◌≡◌, drop}
use Rattle.tb_flwor.specs.Constructors.{repeated_in, first_repeated_attribute}
use Rattle.tb_query.specs.Lent.{lent}
use Rattle.tb_flwor.proofs.constructors.first_repeated_attribute.Given as goal

-- the first repeated attribute is that of the tokens that are left
abbrev pub invariant-tokens : goal.invariant-tokens
invariant-tokens l =
    repeated_in (lent l.names.keys) (drop l.at l.tokens) ≡ first_repeated_attribute l.tokens
