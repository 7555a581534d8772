-- The document is the one that the plan's meaning finds, or none.
use Rattle.std.proofs.Common.{position, sym, ap, ◌∙◌}
use Rattle.std.specs.Str.{bytes_eq}
use Rattle.tb_tree.specs.View.{plain_of}
use Rattle.tb_table.specs.Documents.{docs_of, names_of}
use Rattle.tb_table.proofs.FoundLaws.{found-none, found-some}
use Rattle.tb_engine.proofs.AnswerLaws.{one-pattern, meaning-none, meaning-some, traces-none, traces-some}
use Rattle.tb_engine.proofs.answering.answer.Goals as goal

pub returns-in_default-find-clause-answer : goal.returns-in_default-find-clause-answer
returns-in_default-find-clause-answer g c =
    let p = c.in-Match.pattern in
    let docs = c.args.docs.now in
    meaning-none (docs_of docs) c.args.plan.now.ops p c.new.result.items (one-pattern c.args.plan.now.ops c.as_slice.result.now c.op-item.result p c.as_slice.ensures c.in-len1.len_at_least c.in-len1.len_below (sym c.op-item.is ∙ c.in-Match.is))
    (found-none p.document docs (ap (λ name. position (bytes_eq name) (names_of docs)) (sym c.as_slice-2.ensures) ∙ sym c.find.ensures ∙ c.in_default-find.is))
    c.new.ensures.items

pub returns-in_default-find-clause-trace : goal.returns-in_default-find-clause-trace
returns-in_default-find-clause-trace g c =
    let p = c.in-Match.pattern in
    let docs = c.args.docs.now in
    traces-none (docs_of docs) c.args.settings.now.order c.args.plan.now.ops p c.new-in_default-find.result.items
    (one-pattern c.args.plan.now.ops c.as_slice.result.now c.op-item.result p c.as_slice.ensures c.in-len1.len_at_least c.in-len1.len_below (sym c.op-item.is ∙ c.in-Match.is))
    (found-none p.document docs (ap (λ name. position (bytes_eq name) (names_of docs)) (sym c.as_slice-2.ensures) ∙ sym c.find.ensures ∙ c.in_default-find.is))
    c.new-in_default-find.ensures.items

pub returns-clause-answer : goal.returns-clause-answer
returns-clause-answer g c =
    let p = c.in-Match.pattern in
    let docs = c.args.docs.now in
    meaning-some (docs_of docs) c.args.plan.now.ops p (plain_of c.store.result.now) c.in_ok-answer.answer.count c.in_ok-answer.answer.text.items
    (one-pattern c.args.plan.now.ops c.as_slice.result.now c.op-item.result p c.as_slice.ensures c.in-len1.len_at_least c.in-len1.len_below (sym c.op-item.is ∙ c.in-Match.is))
    (found-some p.document docs c.in-Some.document c.store.result.now
    (ap (λ name. position (bytes_eq name) (names_of docs)) (sym c.as_slice-2.ensures) ∙ sym c.find.ensures ∙ c.in-Some.is) c.store.ensures)
    c.in_ok-answer.ensures.answer

pub returns-clause-trace : goal.returns-clause-trace
returns-clause-trace g c =
    let p = c.in-Match.pattern in
    let docs = c.args.docs.now in
    traces-some (docs_of docs) c.args.settings.now.order c.args.plan.now.ops p (plain_of c.store.result.now) c.in_ok-answer.answer.trace.items
    (one-pattern c.args.plan.now.ops c.as_slice.result.now c.op-item.result p c.as_slice.ensures c.in-len1.len_at_least c.in-len1.len_below (sym c.op-item.is ∙ c.in-Match.is))
    (found-some p.document docs c.in-Some.document c.store.result.now
    (ap (λ name. position (bytes_eq name) (names_of docs)) (sym c.as_slice-2.ensures) ∙ sym c.find.ensures ∙ c.in-Some.is) c.store.ensures)
    c.in_ok-answer.ensures.trace
