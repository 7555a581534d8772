-- A document of a new name is the last one.
use Rattle.std.proofs.Common.{◌∙◌, ◌++◌, [], ◌∷◌, ap, position}
use Rattle.std.specs.Str.{bytes_eq}
use Rattle.tb_table.specs.Documents.{names_of}
use Rattle.tb_table.proofs.DocumentLaws.{seen, added}
use Rattle.tb_table.proofs.documents.Documents.add.Goals as goal

pub returns-clause-added : goal.returns-clause-added
returns-clause-added c =
    ap seen c.in_ok-insert.ensures.entries
    ∙ added c.self.inside.stores.entries c.args.name c.args.store (ap (λ ds. position (bytes_eq c.args.name) (names_of ds)) c.self.view_is ∙ c.requires.new)
    ∙ ap (λ ds. ds ++ (c.args.name, c.args.store.value) ∷ []) c.self.view_is
