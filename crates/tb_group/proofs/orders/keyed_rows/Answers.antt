-- One row more.
use Rattle.std.proofs.Common.{◌++◌, [], ◌∷◌, sym, ap, ap₂, ◌∙◌}
use Rattle.tb_group.specs.Ordered.{columns_of}
use Rattle.tb_group.specs.Parts.{KeyedRow, keyed_at}
use Rattle.tb_group.proofs.OrderLaws.{map-range}
use Rattle.tb_group.proofs.orders.keyed_rows.Goals as goal

pub rows-preserved : goal.rows-preserved
rows-preserved c =
    let own = c.new.ensures ∙ ap (λ ps. record { parts = ps; row = c.rows.row }) c.in_ok-parts.ensures in
    c.in_ok-push.ensures.items
    ∙ ap₂ (λ l (k : KeyedRow). l ++ k ∷ []) c.rows.invariant own
    ∙ sym (map-range (keyed_at (columns_of c.args.columns.now) c.args.keys.now) c.rows.row)
