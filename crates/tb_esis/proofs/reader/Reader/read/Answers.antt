-- What an attribute's line prints is at most four times as long as it.
use Rattle.std.proofs.Common.{◌*◌, length, ap, arith}
use Rattle.tb_tree.proofs.DoneLaws.{less-room}
use Rattle.tb_esis.specs.Lines.{attribute}
use Rattle.tb_esis.specs.Readers.{weight}
use Rattle.tb_esis.proofs.WeightLaws.{weight_fits, on_ok}
use Rattle.tb_esis.proofs.reader.Reader.read.Goals as goal

pub wait-requires : goal.wait-requires
wait-requires c =
    let line = c.args.line.now in
    let it = attribute c.in-Attribute.name.now c.in-Attribute.kind.now c.in-Attribute.raw.now in
    record { room = less-room c.args.self.now.draft (4 * length line) (weight it) c.requires.room (omega (arith, ap weight c.in-Attribute.ensures, weight_fits line)) }

pub returns-in-Attribute-clause-grown : goal.returns-in-Attribute-clause-grown
returns-in-Attribute-clause-grown c =
    let line = c.args.line.now in
    let fits = weight_fits line in
    let same = ap weight c.in-Attribute.ensures in
    on_ok _ _ c.wait.result (λ grown. omega (arith, grown, fits, same)) c.wait.ensures.grown
