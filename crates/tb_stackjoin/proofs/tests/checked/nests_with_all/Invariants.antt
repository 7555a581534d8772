use Rattle.std.proofs.Common.{All, take}
use Rattle.tb_span.specs.Span.{Nests}
use Rattle.tb_stackjoin.proofs.tests.checked.nests_with_all.Given as goal

abbrev pub invariant-all : goal.invariant-all
invariant-all l = All (λ v. Nests l.u.item.label v.item.label) (take l.v-index l.vs)
