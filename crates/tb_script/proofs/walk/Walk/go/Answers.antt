use Rattle.std.proofs.Common.{refl}
use Rattle.std.proofs.lemmas.List.{map-set}
use Rattle.tb_script.proofs.walk.Walk.go.Goals as goal

pub returns : goal.returns
returns c = rw (c.in_ok-push.ensures.items, map-set (λ r. r.now) c.args.self.now.rests.items c.args.at c.args.rest) refl
