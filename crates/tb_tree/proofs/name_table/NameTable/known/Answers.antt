-- What the index knows of a name is its place.
use Rattle.std.proofs.Common.{◌≡◌, ◌∙◌, subst}
use Rattle.tb_tree.specs.NameTables.{place_of}
use Rattle.tb_tree.proofs.NameLaws.{known-place}
use Rattle.tb_tree.proofs.name_table.NameTable.known.Goals as goal

pub returns-clause-place : goal.returns-clause-place
returns-clause-place c =
    subst (λ t. c.known.result ≡ place_of c.args.name.now t) (c.as_slice.ensures.value ∙ c.self.view_is)
    (known-place c.as_slice.result.now c.args.name.now c.known.result c.known.ensures)
