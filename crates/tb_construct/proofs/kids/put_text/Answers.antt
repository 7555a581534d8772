-- The last node is a text, or it is none, or there is no node.
use Rattle.std.proofs.Common.{ap, ap₂, sym, ◌++◌, ◌∙◌, length, nat_eq}
use Rattle.std.proofs.lemmas.Bool.{eqb-true}
use Rattle.std.proofs.lemmas.Result.{on_ok_weaker}
use Rattle.tb_tree.specs.View.{plain_of, plains_of}
use Rattle.tb_tree.specs.Plain.{text, one, joined_kids}
use Rattle.tb_tree.proofs.Views.{plain_of-Text}
use Rattle.tb_construct.proofs.PutLaws.{not-text, some-byte, put-none, put-going, put-behind}
use Rattle.tb_construct.proofs.kids.put_text.Goals as goal

pub returns-then-is_empty : goal.returns-then-is_empty
returns-then-is_empty c =
    put-none (plains_of c.args.kids.now.items) c.args.value
    (sym (ap length c.as_slice.ensures) ∙ eqb-true (length c.as_slice.result.now) 0 (sym c.is_empty.ensures ∙ c.if-is_empty.true))

pub returns-in_ok-extend_from_slice-in-Text : goal.returns-in_ok-extend_from_slice-in-Text
returns-in_ok-extend_from_slice-in-Text c =
    let text_is =
    c.from_vec.ensures ∙ c.in_ok-extend_from_slice-in-Text.ensures.items ∙ ap₂ (λ a b. a ++ b) c.into_vec-text.ensures c.as_slice-in-Text.ensures in
    on_ok_weaker c.put_apart-in-Text.result
    (λ put. put-going c.pop.new.self.items c.args.kids.now.items c.put_apart-in-Text.new.kids.items c.in-Some.last c.in-Text.before c.args.value c.in-Some.ensures.items
    (ap plain_of c.in-Text.is ∙ plain_of-Text c.in-Text.before) (put ∙ ap (λ v. joined_kids (plains_of c.pop.new.self.items) (one (text v))) text_is))
    c.put_apart-in-Text.ensures

pub returns-in_ok-push-in_default-last : goal.returns-in_ok-push-in_default-last
returns-in_ok-push-in_default-last c =
    on_ok_weaker c.put_apart-in_default-last.result
    (λ put. put-behind c.pop.new.self.items c.args.kids.now.items c.push.new.self.items c.put_apart-in_default-last.new.kids.items c.in-Some.last c.args.value c.in-Some.ensures.items
    (not-text c.in-Some.last c.in_default-last.not-Text) c.in_ok-push-in_default-last.ensures.items
    (some-byte c.args.value (ap (λ v. nat_eq (length v) 0) (sym c.as_slice.ensures) ∙ sym c.is_empty.ensures ∙ c.if-is_empty.false)) put)
    c.put_apart-in_default-last.ensures
