use Rattle.std.proofs.Common.{All, take}
use Rattle.tb_span.specs.Span.{Nests}
use Rattle.tb_stackjoin.proofs.tests.checked.all_nest.Given as goal

abbrev pub invariant-all : goal.invariant-all
invariant-all l = All (λ u. All (λ v. Nests u.item.label v.item.label) l.vs) (take l.u-index l.us)
