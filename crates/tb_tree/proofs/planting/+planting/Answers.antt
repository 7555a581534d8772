-- The parts of an element, one after the other.
use Rattle.std.proofs.Common.{length, ap, sym, subst, refl, arith}
use Rattle.tb_tree.specs.Plain.{one}
use Rattle.tb_tree.specs.View.{plain_of, plains_of}
use Rattle.tb_tree.specs.Printed.{end_line}
use Rattle.tb_tree.specs.Drafts.{HasRoom}
use Rattle.tb_tree.specs.Planting.{MayStand}
use Rattle.tb_tree.proofs.Views.{plains_of-drop}
use Rattle.tb_tree.proofs.PlantSteps.{fits-room, end-open, elem-seen, text-seen, inside, left-more}
use Rattle.tb_tree.proofs.planting.+planting.Goals as goal

pub plant-start-requires : goal.plant-start-requires
plant-start-requires t c =
    let ready = c.requires.ready in
    let ks = plains_of c.as_slice.result.now in
    let name = c.as_slice-in-Elem.result.now in
    let seen = elem-seen c.args.node.now c.in-Elem.name name c.in-Elem.kids c.as_slice.result.now c.in-Elem.is c.as_slice-in-Elem.ensures c.as_slice.ensures in
    let may = subst (λ n. MayStand ready.0 (one n)) seen ready.2 in
    record { room = fits-room c.plant_attributes.new.draft _ _ (c.in_ok-plant_attributes-in-Elem.ensures.waits ready.0 ready.1 may.0.waits) may.0.starts }

pub plant-more_text-requires : goal.plant-more_text-requires
plant-more_text-requires t c =
    let ready = c.requires.ready in
    let seen = text-seen c.args.node.now c.in-Text.value c.as_slice-in-Text.result.now c.in-Text.is c.as_slice-in-Text.ensures in
    let may = subst (λ n. MayStand ready.0 (one n)) seen ready.2 in
    record { room = fits-room c.args.draft.now _ _ ready.1 may.0.prints }

pub plant-end-requires-clause-open : goal.plant-end-requires-clause-open
plant-end-requires-clause-open t c =
    let ready = c.requires.ready in
    let name = c.in-Elem.name in
    let ks = c.in-Elem.kids in
    let may = subst (λ n. MayStand ready.0 (one n)) (elem-seen c.args.node.now name name ks ks c.in-Elem.is refl refl) ready.2 in
    let shown = inside c.args.draft.now c.plant_attributes.new.draft c.start.new.self c.plant_kids.new.draft ready.0 name c.as_slice-in-Elem.result.now (plains_of ks) _ _
    c.as_slice-in-Elem.ensures (ap plains_of c.as_slice.ensures) (ap plains_of c.as_slice-in-Elem-2.ensures) ready.1 may
    c.in_ok-plant_attributes-in-Elem.ensures.waits c.in_ok-start-in-Elem.ensures.shown c.in_ok-plant_kids-in-Elem.ensures.planted in
    end-open c.plant_kids.new.draft _ name shown may.2

pub plant-end-requires-clause-room : goal.plant-end-requires-clause-room
plant-end-requires-clause-room t c =
    let ready = c.requires.ready in
    let name = c.in-Elem.name in
    let ks = c.in-Elem.kids in
    let may = subst (λ n. MayStand ready.0 (one n)) (elem-seen c.args.node.now name name ks ks c.in-Elem.is refl refl) ready.2 in
    let shown = inside c.args.draft.now c.plant_attributes.new.draft c.start.new.self c.plant_kids.new.draft ready.0 name c.as_slice-in-Elem.result.now (plains_of ks) _ _
    c.as_slice-in-Elem.ensures (ap plains_of c.as_slice.ensures) (ap plains_of c.as_slice-in-Elem-2.ensures) ready.1 may
    c.in_ok-plant_attributes-in-Elem.ensures.waits c.in_ok-start-in-Elem.ensures.shown c.in_ok-plant_kids-in-Elem.ensures.planted in
    subst (λ x. HasRoom c.plant_kids.new.draft (length (end_line x))) (sym c.as_slice-in-Elem-3.ensures) (fits-room c.plant_kids.new.draft _ _ shown may.2.ends)

pub plant_kids-kids-preserved : goal.plant_kids-kids-preserved
plant_kids-kids-preserved t c = λ m s may.
    left-more c.kids.draft c.plant.new.draft (plain_of c.kid-item.result) _ _ _
    (plains_of-drop c.args.kids.now c.kids.kid-index c.kid-item.result (omega arith) c.kid-item.is) c.in_ok-plant.ensures.planted (c.kids.invariant m s may)
