-- The link before the place leads from an earlier node.
use Rattle.std.proofs.Common.{◌-◌, ◌<◌, get_or, arith}
use Rattle.std.proofs.lemmas.Bool.{leb-true}
use Rattle.tb_twig.proofs.RunLaws.{begins-at}
use Rattle.tb_twig.proofs.runs.starts_at.Goals.{else-at-gt0-via-then-at-gt0+else-links-at, else-at-gt0-via-else-at-gt0}
use Rattle.tb_twig.proofs.runs.starts_at.Goals as goal

pub returns-else-at-links-2 : goal.returns-else-at-links-2
returns-else-at-links-2 c = λ is.
    begins-at c.args.n c.args.at c.args.links.now (record { above = 0; below = 0 }) c.requires (omega (arith, c.if-at-links-2.false, c.if-at-links.false))
    (λ some. elim c.else-at-gt0.branch [
      | else-at-gt0-via-then-at-gt0+else-links-at w ↦ omega (arith, w.if-links-at.false)
      | else-at-gt0-via-else-at-gt0 w ↦ absurd (omega (arith, some, w.if-at-gt0.false))
    ])
    (leb-true _ _ is)
