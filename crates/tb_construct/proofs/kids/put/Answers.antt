-- An element or an attribute stands apart.
use Rattle.tb_construct.proofs.PutLaws.{not-text, put-apart}
use Rattle.tb_construct.proofs.kids.put.Goals as goal

pub returns-in_ok-push-in_default : goal.returns-in_ok-push-in_default
returns-in_ok-push-in_default c =
    put-apart c.args.kids.now.items c.push.new.self.items c.args.node c.in_ok-push-in_default.ensures.items (not-text c.args.node c.in_default.not-Text)
