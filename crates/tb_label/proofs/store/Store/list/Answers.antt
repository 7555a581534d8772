use Rattle.std.proofs.Common.{length, sym, ap, ◌∙◌, subst, arith}
use Rattle.tb_span.specs.Lists.{AreJoinable}
use Rattle.tb_tree.specs.View.{plain_of}
use Rattle.tb_label.specs.Rows.{listed}
use Rattle.tb_label.proofs.NestLaws.{joinable, listed-few}
use Rattle.tb_label.proofs.store.Store.list.Goals as goal

pub returns-clause-few : goal.returns-clause-few
returns-clause-few c =
    let is = c.of.ensures ∙ c.self.invariant.all_listed c.args.test.now in
    omega (arith, ap length is, listed-few c.args.test.now (plain_of c.self.inside.tree), c.self.invariant.few)

pub returns-clause-joinable : goal.returns-clause-joinable
returns-clause-joinable c = λ other.
    let is = c.of.ensures ∙ c.self.invariant.all_listed c.args.test.now ∙ ap (λ r. listed c.args.test.now (plain_of r)) c.self.view_is in
    subst (λ xs. AreJoinable xs (listed other (plain_of c.args.self.now))) (sym is) (joinable c.args.test.now other (plain_of c.args.self.now))
