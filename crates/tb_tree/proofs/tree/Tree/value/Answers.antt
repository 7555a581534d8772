-- What one piece gives, or all texts.
use Rattle.std.proofs.Common.{◌++◌, ap, ◌∙◌}
use Rattle.std.specs.List.{concat}
use Rattle.tb_tree.specs.Plain.{one}
use Rattle.tb_tree.specs.View.{plain_of}
use Rattle.tb_tree.specs.Nodes.{node_at}
use Rattle.tb_tree.specs.Pieces.{texts_listed}
use Rattle.tb_tree.proofs.PieceLaws.{piece-given, part-texts, texts-value}
use Rattle.tb_tree.proofs.tree.Tree.value.Goals as goal

pub returns-in-Some : goal.returns-in-Some
returns-in-Some c =
    c.from_vec.ensures
    ∙ piece-given (node_at (plain_of c.args.self.now) c.args.number) c.in-Some.raw.now c.new-value.result.items c.push_unescaped.new.out.items c.in_ok-push_unescaped.field-0 c.in-Some.ensures c.new-value.ensures.items c.in_ok-push_unescaped.ensures

pub returns : goal.returns
returns c =
    let node = node_at (plain_of c.args.self.now) c.args.number in
    c.from_vec-2.ensures ∙ c.in_ok-push_texts.ensures (texts_listed (one node)) (part-texts _ c.part-part.result.extents.now _ _ _ _ (one node) c.part-part.ensures.nodes)
    ∙ ap (λ l. l ++ concat (texts_listed (one node))) c.new-value.ensures.items ∙ texts-value node c.in_default.ensures
