use Rattle.std.proofs.Common.{ℕ, ◌<◌, length, get_or}
use Rattle.tb_stackjoin.specs.declared.tests.checked.Known.{Known}
use Rattle.tb_stackjoin.proofs.tests.checked.rises.Given as goal

abbrev pub invariant-all : goal.invariant-all
invariant-all l = (i j : ℕ) (d : Known) → i < l.place → i < j → j < length l.us → (get_or l.us i d).item.label.start < (get_or l.us j d).item.label.start
