-- The text stands behind the others.
use Rattle.std.proofs.Common.{ap, ◌∙◌}
use Rattle.tb_tree.specs.View.{plains_of}
use Rattle.tb_tree.specs.Plain.{one, joined_kids}
use Rattle.tb_tree.specs.declared.node.Node.{Text}
use Rattle.tb_tree.proofs.Views.{plain_of-Text}
use Rattle.tb_construct.proofs.PutLaws.{plains_of-push}
use Rattle.tb_construct.proofs.kids.put_apart.Goals as goal

pub returns : goal.returns
returns c =
    plains_of-push c.args.kids.now.items c.push.new.self.items (Text c.args.value) c.in_ok-push.ensures.items
    ∙ ap (λ k. joined_kids (plains_of c.args.kids.now.items) (one k)) (plain_of-Text c.args.value)
