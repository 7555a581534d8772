use Rattle.std.proofs.Common.{◌≡◌, map}
use Rattle.tb_span.specs.Seeds.{open_places}
use Rattle.tb_stackjoin.proofs.tests.checked.open_at.Given as goal

abbrev pub invariant-all : goal.invariant-all
invariant-all l = l.seed.items ≡ open_places (map (λ u. u.item) l.list) l.place l.point
