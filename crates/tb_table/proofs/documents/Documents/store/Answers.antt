-- The roots of what is kept are those that contracts see.
use Rattle.std.proofs.Common.{◌∙◌, ap, sym, map, Some, slice_get}
use Rattle.std.specs.Option.{option_map}
use Rattle.std.proofs.lemmas.Option.{slice_get-map}
use Rattle.tb_table.specs.Documents.{roots_of}
use Rattle.tb_table.proofs.DocumentLaws.{values-kept}
use Rattle.tb_table.proofs.documents.Documents.store.Goals as goal

pub returns : goal.returns
returns c =
    ap (λ ds. slice_get (roots_of ds) c.args.document) (sym c.self.view_is)
    ∙ ap (λ rs. slice_get rs c.args.document) (values-kept c.self.inside.stores.entries)
    ∙ slice_get-map (λ a. a.value) (map (λ e. e.1) c.self.inside.stores.entries) c.args.document
    ∙ ap (option_map (λ a. a.value)) c.index.ensures ∙ ap Some (sym c.deref.ensures)
