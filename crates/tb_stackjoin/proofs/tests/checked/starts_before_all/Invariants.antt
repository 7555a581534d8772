use Rattle.std.proofs.Common.{All, take, ◌<◌}
use Rattle.tb_stackjoin.proofs.tests.checked.starts_before_all.Given as goal

abbrev pub invariant-all : goal.invariant-all
invariant-all l = All (λ v. l.u.item.label.start < v.item.label.start) (take l.v-index l.vs)
