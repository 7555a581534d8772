-- An attribute more waits.
use Rattle.std.proofs.Common.{arith}
use Rattle.tb_tree.proofs.PlantSteps.{attr-seen, wait-room, wait-more}
use Rattle.tb_tree.proofs.planting.plant_attributes.Goals as goal

pub attribute-requires : goal.attribute-requires
attribute-requires c =
    let ready = c.requires.ready in
    let name = c.as_slice.result.now in
    let value = c.as_slice-in-kids.result.now in
    let left = attr-seen c.args.kids.now c.kids.kid-index c.kid-item.result c.in-Attr.name c.in-Attr.value name value (omega arith) c.kid-item.is c.in-Attr.is c.as_slice.ensures c.as_slice-in-kids.ensures in
    record { room = wait-room c.kids.draft name value _ _ _ left (c.kids.invariant ready.0 ready.1 ready.2) }

pub kids-preserved : goal.kids-preserved
kids-preserved c = λ m s may.
    let name = c.as_slice.result.now in
    let value = c.as_slice-in-kids.result.now in
    let left = attr-seen c.args.kids.now c.kids.kid-index c.kid-item.result c.in-Attr.name c.in-Attr.value name value (omega arith) c.kid-item.is c.in-Attr.is c.as_slice.ensures c.as_slice-in-kids.ensures in
    wait-more c.kids.draft c.attribute.new.self name value _ _ _ left c.in_ok-attribute.ensures.shown (c.kids.invariant m s may)
