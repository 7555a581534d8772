-- Each column is gathered, and so the rows are.
use Rattle.std.proofs.Common.{map, length, sym, ap, ◌∙◌, subst}
use Rattle.std.proofs.lemmas.List.{map-id}
use Rattle.std.proofs.lemmas.Iterator.Adapters.{YieldsList-from_vec}
use Rattle.std.proofs.lemmas.Iterator.Consumers.{YieldsList-turn, YieldsList-end}
use Rattle.tb_table.specs.Rows.{no_cell, picked, AreEven}
use Rattle.tb_table.proofs.RowLaws.{even-all, even-picked, picks-below, gathered-rows}
use Rattle.tb_table.proofs.table.Table.gather.Goals as goal

pub gather-requires : goal.gather-requires
gather-requires c =
    let gives = c.into_iter-column-iterator.ensures.into_iter_gives in
    let turn = YieldsList-turn (YieldsList-from_vec c.self.inside.columns.items gives.0 (gives.1 ∙ c.self.inside.columns.ok.0)) c.columns.yielded c.columns.column-iterator c.columns.yielded_by c.next.result c.next.new.self c.in-Some.column c.in-Some.is c.next.ensures.steps in
    picks-below c.self.inside.count c.self.inside.columns.items c.in-Some.column c.args.picks.now c.args.self c.self.view_is
    (even-all c.self.inside.count c.self.inside.columns.items _ c.in-Some.column c.self.invariant turn) c.requires

pub table_from-requires : goal.table_from-requires
table_from-requires c =
    subst (AreEven (length c.args.picks.now)) (sym c.columns.invariant) (even-picked c.columns.yielded c.args.picks.now)

pub returns-clause-rows : goal.returns-clause-rows
returns-clause-rows c =
    let gives = c.into_iter-column-iterator.ensures.into_iter_gives in
    let end = YieldsList-end (YieldsList-from_vec c.self.inside.columns.items gives.0 (gives.1 ∙ c.self.inside.columns.ok.0)) c.columns.yielded c.columns.column-iterator c.columns.yielded_by c.next.result c.next.new.self c.in-None.is c.next.ensures.steps in
    ap (λ t. t.rows) c.table_from.ensures
    ∙ gathered-rows c.self.inside.count c.self.inside.columns.items _ c.args.picks.now c.args.self c.self.view_is c.requires
    (c.columns.invariant ∙ ap (map (λ cells. picked no_cell cells c.args.picks.now)) (sym (map-id c.columns.yielded) ∙ end.0))
