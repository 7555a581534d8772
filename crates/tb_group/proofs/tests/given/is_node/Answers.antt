use Rattle.std.proofs.Common.{◌≤◌, ap, ◌∙◌, subst, arith, rules}
use Rattle.tb_tree.specs.Numbers.{count}
use Rattle.tb_tree.specs.View.{plain_of}
use Rattle.tb_group.proofs.TestLaws.{node-is}
use Rattle.tb_group.proofs.tests.given.is_node.Goals as goal

pub returns : goal.returns
returns c = λ within.
    node-is c.args.docs.now c.args.node c.store.result.now (omega (arith, c.if-len-node.false, c.len.ensures.count)) (omega (arith, c.if-node-eq0.false)) c.store.ensures
    (subst (λ n. c.args.node.node ≤ n) (c.count.ensures ∙ ap (λ t. count (plain_of t)) c.tree.ensures.same) (search (rules, within)))
