-- What the draft shows is a document.
use Rattle.std.proofs.Common.{sym, ◌∙◌, subst}
use Rattle.tb_tree.specs.FlatTrees.{IsDocument}
use Rattle.tb_tree.proofs.BackLaws.{document-read}
use Rattle.tb_tree.proofs.DoneLaws.{made-document}
use Rattle.tb_tree.proofs.draft.Draft.finish.Goals as goal

pub new-requires : goal.new-requires
new-requires c =
    let done = c.requires.done in
    let d = made-document c.args.self done.0 done.1 c.shrink_to_fit.new.self.items c.shrink_to_fit-2.new.self.items c.into_table.result.items c.into_table-2.result.items done.2 done.3
    c.shrink_to_fit.ensures.items c.shrink_to_fit-2.ensures.items c.into_table.ensures.table c.into_table-2.ensures.table c.into_table.ensures.apart c.into_table-2.ensures.apart in
    record { document = subst (IsDocument _ _ _ _) (sym (document-read _ _ _ _ done.1 d)) d }

pub returns : goal.returns
returns c = λ m root s done.
    let d = made-document c.args.self m root c.shrink_to_fit.new.self.items c.shrink_to_fit-2.new.self.items c.into_table.result.items c.into_table-2.result.items s done
    c.shrink_to_fit.ensures.items c.shrink_to_fit-2.ensures.items c.into_table.ensures.table c.into_table-2.ensures.table c.into_table.ensures.apart c.into_table-2.ensures.apart in
    c.new.ensures ∙ document-read _ _ _ _ root d
