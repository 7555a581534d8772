-- A new name gets the next number, and is taken off again where it can't be noted.
use Rattle.std.proofs.Common.{◌≡◌, List, ℕ, ◌∷◌, [], ◌++◌, sym, ap, ◌∙◌, subst}
use Rattle.tb_tree.specs.NameTables.{IsMore, one_more, IsIndex}
use Rattle.tb_tree.proofs.NameLaws.{popped}
use Rattle.tb_tree.proofs.name_table.NameTable.number.Goals as goal

pub invariant_of-self-in-Err : goal.invariant_of-self-in-Err
invariant_of-self-in-Err c =
    subst (λ l. IsIndex l c.add.new.self) (sym (popped c.self.inside.names.items _ _ _ _ c.in_ok-push.ensures.items c.push.new.self.ok.0 c.pop.ensures.rest))
    (c.in-Err.ensures.kept c.self.inside.names.items c.self.invariant)

more : (old table new : List (List ℕ)) (name : List ℕ) → new ≡ table ++ name ∷ [] → table ≡ old → IsMore old new
more old table new name is same = one_more name (is ∙ ap (λ t. t ++ name ∷ []) same)

pub returns-clause-more : goal.returns-clause-more
returns-clause-more c = more _ _ _ _ c.in_ok-push.ensures.items c.self.view_is
