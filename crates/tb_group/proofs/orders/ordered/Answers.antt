-- What is sorted is in order.
use Rattle.std.proofs.Common.{◌≡◌, map, length, sym, ap, ◌∙◌, subst}
use Rattle.std.specs.List.{range_with_len}
use Rattle.std.specs.List.Sorted.{IsPermutation}
use Rattle.tb_query.specs.Lists.{sorted}
use Rattle.tb_table.specs.Documents.{docs_of}
use Rattle.tb_group.specs.Ordered.{columns_of, AreLong}
use Rattle.tb_group.specs.Parts.{keyed_at, keyed_cmp}
use Rattle.tb_group.specs.PartOrder.{keyed_total}
use Rattle.tb_group.proofs.SortLaws.{stable-sorted}
use Rattle.tb_group.proofs.OrderLaws.{columns-long, ordered-within}
use Rattle.tb_group.proofs.orders.ordered.Goals as goal

pub keyed_rows-requires-clause-long : goal.keyed_rows-requires-clause-long
keyed_rows-requires-clause-long c =
    let rows = c.args.table.now.rows in
    let count : length rows ≡ c.len.result = sym c.len.ensures in
    subst (λ n. AreLong n c.as_slice.result.now) count
    (columns-long (docs_of c.args.docs.now) c.args.keys.now rows c.as_slice.result.now (ap columns_of c.as_slice.ensures.value ∙ c.in_ok-columns.ensures))

pub returns-clause-order : goal.returns-clause-order
returns-clause-order c =
    let rows = c.args.table.now.rows in
    let columns = ap columns_of c.as_slice.ensures.value ∙ c.in_ok-columns.ensures in
    let keyed = c.in_ok-keyed.ensures ∙ ap (λ n. map (keyed_at (columns_of c.as_slice.result.now) c.args.keys.now) (range_with_len 0 n)) c.len.ensures
    ∙ ap (λ cs. map (keyed_at cs c.args.keys.now) (range_with_len 0 (length rows))) columns in
    c.in_ok-picks.ensures
    ∙ ap (map (λ k. k.row))
    (c.as_slice-2.ensures.value
    ∙ stable-sorted keyed_cmp keyed_total c.in_ok-keyed.keyed.items c.sort.new.self.items c.in_ok-sort.ensures.sorted c.in_ok-sort.ensures.stable
    ∙ ap (sorted keyed_cmp) keyed)

pub returns-clause-within : goal.returns-clause-within
returns-clause-within c =
    let docs = docs_of c.args.docs.now in
    let rows = c.args.table.now.rows in
    let columns = ap columns_of c.as_slice.ensures.value ∙ c.in_ok-columns.ensures in
    let keyed = c.in_ok-keyed.ensures ∙ ap (λ n. map (keyed_at (columns_of c.as_slice.result.now) c.args.keys.now) (range_with_len 0 n)) c.len.ensures
    ∙ ap (λ cs. map (keyed_at cs c.args.keys.now) (range_with_len 0 (length rows))) columns in
    ordered-within docs c.args.keys.now rows c.sort.new.self.items c.in_ok-picks.picks.items
    (subst (λ l. IsPermutation l c.sort.new.self.items) keyed c.in_ok-sort.ensures.permutation)
    (c.in_ok-picks.ensures ∙ ap (map (λ k. k.row)) c.as_slice-2.ensures.value)
