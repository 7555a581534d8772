-- A name whose hash no name has is unknown, and one that isn't the first with its hash is known by itself.
use Rattle.std.proofs.Common.{◌≡◌, Some, None, sym, ap, ◌∙◌, subst}
use Rattle.std.proofs.lemmas.Bool.{false≢true}
use Rattle.tb_tree.specs.NameTables.{IsKnown, first_in, hash_of}
use Rattle.tb_tree.proofs.IndexLaws.{unknown-first, known-other}
use Rattle.tb_tree.proofs.name_index.NameIndex.known.Goals as goal

pub returns-in_err-number : goal.returns-in_err-number
returns-in_err-number c =
    let none : first_in c.args.self.now (hash_of c.args.name.now) ≡ None =
    ap (first_in c.args.self.now) (sym c.hash_of.ensures) ∙ sym c.get.ensures.value ∙ sym c.copied.ensures ∙ c.in_err-number.was in
    subst (IsKnown c.args.names.now c.args.name.now) (sym c.from_residual.ensures) (unknown-first c.args.names.now c.args.self.now c.args.name.now c.requires.index none)

pub returns : goal.returns
returns c =
    let some : first_in c.args.self.now (hash_of c.args.name.now) ≡ Some c.in_ok-number.number =
    ap (first_in c.args.self.now) (sym c.hash_of.ensures) ∙ sym c.get.ensures.value ∙ sym c.copied.ensures ∙ c.in_ok-number.was in
    subst (IsKnown c.args.names.now c.args.name.now) (sym (c.copied-2.ensures ∙ c.get-2.ensures.value))
    (known-other c.args.names.now c.args.self.now c.args.name.now c.in_ok-number.number c.requires.index some (λ at. false≢true (c.if-is_at.ensures.1 at)))
