-- The columns of both tables are even, and rows side by side.
use Rattle.std.proofs.Common.{◌++◌, sym, ap, ◌∙◌}
use Rattle.std.proofs.lemmas.List.{map-id}
use Rattle.std.proofs.lemmas.Iterator.Adapters.{YieldsList-from_vec}
use Rattle.std.proofs.lemmas.Iterator.Consumers.{YieldsList-end}
use Rattle.tb_table.proofs.RowLaws.{even-beside, beside-rows, same-count}
use Rattle.tb_table.proofs.table.Table.beside.Goals as goal

pub table_from-requires : goal.table_from-requires
table_from-requires c =
    let gives = c.into_iter-column-iterator.ensures.into_iter_gives in
    let end = YieldsList-end (YieldsList-from_vec c.other.inside.columns.items gives.0 (gives.1 ∙ c.other.inside.columns.ok.0)) c.others.yielded c.others.column-iterator c.others.yielded_by c.next.result c.next.new.self c.in-None.is c.next.ensures.steps in
    let same = same-count c.self.inside.count c.other.inside.count _ _ c.args.self c.args.other c.self.view_is c.other.view_is c.requires.long in
    even-beside c.self.inside.count c.self.inside.columns.items c.other.inside.columns.items _ c.other.inside.count c.self.invariant c.other.invariant same
    (c.others.invariant ∙ ap (λ l. c.self.inside.columns.items ++ l) (sym (map-id c.others.yielded) ∙ end.0))

pub returns-clause-rows : goal.returns-clause-rows
returns-clause-rows c =
    let gives = c.into_iter-column-iterator.ensures.into_iter_gives in
    let end = YieldsList-end (YieldsList-from_vec c.other.inside.columns.items gives.0 (gives.1 ∙ c.other.inside.columns.ok.0)) c.others.yielded c.others.column-iterator c.others.yielded_by c.next.result c.next.new.self c.in-None.is c.next.ensures.steps in
    let same = same-count c.self.inside.count c.other.inside.count _ _ c.args.self c.args.other c.self.view_is c.other.view_is c.requires.long in
    ap (λ t. t.rows) c.table_from.ensures
    ∙ beside-rows c.self.inside.count c.other.inside.count c.self.inside.columns.items c.other.inside.columns.items _ c.args.self c.args.other c.self.view_is c.other.view_is same
    (c.others.invariant ∙ ap (λ l. c.self.inside.columns.items ++ l) (sym (map-id c.others.yielded) ∙ end.0))
