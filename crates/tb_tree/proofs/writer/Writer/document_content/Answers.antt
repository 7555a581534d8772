-- The lines of a sound node's content make the page that its nodes make.
use Rattle.std.proofs.Common.{length, sym, ◌∙◌, eqb-true}
use Rattle.std.proofs.lemmas.Bool.{eq-eqb, false≢true}
use Rattle.tb_tree.specs.View.{plain_of}
use Rattle.tb_tree.specs.Nodes.{node_at}
use Rattle.tb_tree.proofs.PageLaws.{content-none, content-some}
use Rattle.tb_tree.proofs.writer.Writer.document_content.Goals as goal

pub returns-then-is_empty : goal.returns-then-is_empty
returns-then-is_empty c =
    let lines = c.content_lines-lines.result.now in
    content-none c.args.self.now (node_at (plain_of c.args.tree.now) c.args.number) lines c.content_lines-lines.ensures.sound c.content_lines-lines.ensures.lines
    (eqb-true (length lines) 0 (sym c.if-is_empty.ensures))

pub returns : goal.returns
returns c =
    let lines = c.content_lines-lines.result.now in
    c.in_ok-copy.ensures
    ∙ content-some c.args.self.now (node_at (plain_of c.args.tree.now) c.args.number) lines _ _ c.content_lines-lines.ensures.sound c.content_lines-lines.ensures.lines
    (λ none. false≢true (c.if-is_empty.ensures ∙ eq-eqb (length lines) 0 none)) c.begins_with_text.ensures c.ends_with_text.ensures
