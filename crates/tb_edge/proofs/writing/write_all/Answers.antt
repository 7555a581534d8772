-- One more piece was written.
use Rattle.std.proofs.Common.{◌∙◌, arith}
use Rattle.std.proofs.lemmas.List.{length-take, length-drop}
use Rattle.tb_edge.proofs.CallsLemmas.{Appends-take}
use Rattle.tb_edge.proofs.writing.write_all.Goals as goal

pub writes-preserved : goal.writes-preserved
writes-preserved g c =
    let before = c.writes.invariant.0 in
    let wrote = c.in_ok-n.ensures in
    let fits = simp (length-take, length-drop) at wrote.bound in (
      record {
        within = omega arith;
        grew = Appends-take _ _ _ _ _ _ before.within before.grew wrote.bytes;
        same = wrote.cause.same ∙ before.same;
      },
      λ none. absurd (omega arith),
    )
