use Rattle.std.proofs.Common.{◌≡◌, [], ◌∷◌, sym, ap, ◌∙◌, subst}
use Rattle.tb_span.specs.Lists.{AreJoinable}
use Rattle.tb_tree.specs.View.{plain_of}
use Rattle.tb_label.specs.Rows.{listed}
use Rattle.tb_label.specs.Stores.{document_item_of}
use Rattle.tb_label.proofs.NestLaws.{document_joinable}
use Rattle.tb_label.proofs.store.Store.document_item.Goals as goal

pub returns-clause-joinable : goal.returns-clause-joinable
returns-clause-joinable c = λ other.
    let first = c.self.invariant.document_is ∙ ap (λ n. document_item_of (plain_of n)) c.self.view_is in
    let is : c.from_ref.result.now ≡ document_item_of (plain_of c.args.self.now) ∷ [] = c.from_ref.ensures.value ∙ ap (λ x. x ∷ []) first in
    subst (λ xs. AreJoinable xs (listed other (plain_of c.args.self.now))) (sym is) (document_joinable other (plain_of c.args.self.now))
