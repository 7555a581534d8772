use Rattle.std.proofs.Common.{◌∙◌, arith}
use Rattle.tb_table.proofs.RowLaws.{there-cell, no-cell}
use Rattle.tb_table.proofs.table.Table.cell.Goals as goal

pub cell-requires : goal.cell-requires
cell-requires c =
    (there-cell c.self.inside.count c.args.row c.args.column c.self.inside.columns.items c.index.result.now c.args.self.now c.self.view_is c.self.invariant c.index.ensures (omega (arith, c.if-column-len.true, c.len.ensures)) c.requires.row).0

pub returns-then-column-len : goal.returns-then-column-len
returns-then-column-len c =
    c.cell.ensures ∙ (there-cell c.self.inside.count c.args.row c.args.column c.self.inside.columns.items c.index.result.now c.args.self.now c.self.view_is c.self.invariant c.index.ensures (omega (arith, c.if-column-len.true, c.len.ensures)) c.requires.row).1

pub returns : goal.returns
returns c =
    no-cell c.self.inside.count c.args.row c.args.column c.self.inside.columns.items c.args.self.now c.self.view_is (omega (arith, c.if-column-len.false, c.len.ensures)) c.requires.row
