-- The names of what is kept are those that contracts see.
use Rattle.std.proofs.Common.{◌∙◌, ap, sym, position}
use Rattle.std.specs.Str.{bytes_eq}
use Rattle.tb_table.specs.Documents.{names_of}
use Rattle.tb_table.proofs.DocumentLaws.{names-kept}
use Rattle.tb_table.proofs.documents.Documents.find.Goals as goal

pub returns-in-Some : goal.returns-in-Some
returns-in-Some c =
    sym c.in-Some.is ∙ c.get_index_of.ensures.index
    ∙ ap (position (bytes_eq c.args.name.now)) (sym (names-kept c.self.inside.stores.entries) ∙ ap names_of c.self.view_is)

pub returns-in-None : goal.returns-in-None
returns-in-None c =
    sym c.in-None.is ∙ c.get_index_of.ensures.index
    ∙ ap (position (bytes_eq c.args.name.now)) (sym (names-kept c.self.inside.stores.entries) ∙ ap names_of c.self.view_is)
