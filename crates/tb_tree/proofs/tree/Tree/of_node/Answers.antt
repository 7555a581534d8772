-- The draft shows the node as its root.
use Rattle.std.proofs.Common.{◌≡◌, true, subst}
use Rattle.tb_tree.specs.Plain.{is_element}
use Rattle.tb_tree.specs.View.{plain_of}
use Rattle.tb_tree.specs.Making.{nothing_made}
use Rattle.tb_tree.specs.Drafts.{Shows}
use Rattle.tb_tree.proofs.PlantLaws.{root-stands, ended_at}
use Rattle.tb_tree.proofs.PlantSteps.{planted-done}
use Rattle.tb_tree.proofs.tree.Tree.of_node.Goals as goal

pub plant-requires : goal.plant-requires
plant-requires c =
    let element : is_element (plain_of c.args.node.now) ≡ true = cc in
    record { ready = (nothing_made, c.in_ok-draft.ensures, (root-stands (plain_of c.args.node.now) c.requires.sound element c.requires.levels c.requires.short).0) }

pub finish-requires : goal.finish-requires
finish-requires c =
    let root = plain_of c.args.node.now in
    let element : is_element root ≡ true = cc in
    let r = root-stands root c.requires.sound element c.requires.levels c.requires.short in
    record {
      done = (
        ended_at root,
        root,
        subst (Shows c.plant.new.draft) r.1 (c.in_ok-plant.ensures.planted nothing_made c.in_ok-draft.ensures r.0),
        planted-done root element c.requires.sound c.requires.levels,
      );
    }

pub returns : goal.returns
returns c =
    let root = plain_of c.args.node.now in
    let element : is_element root ≡ true = cc in
    let r = root-stands root c.requires.sound element c.requires.levels c.requires.short in
    let shown = subst (Shows c.plant.new.draft) r.1 (c.in_ok-plant.ensures.planted nothing_made c.in_ok-draft.ensures r.0) in
    (element, c.finish.ensures (ended_at root) root shown (planted-done root element c.requires.sound c.requires.levels))
